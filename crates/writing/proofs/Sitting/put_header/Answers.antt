-- `writing::Sitting::put_header` meets its contract: four numbers, one after another. Assumes nothing.
use Rattle.std.proofs.Common.{ℕ, List, [], ◌∷◌, refl}
use Rattle.placing.specs.Placing.{HasRoom, Puts}
use Rattle.placing.proofs.Laws.{room_back, puts_none, puts_then}
use Rattle.sitting_file.specs.Verdict.{shortest, written}
use Rattle.writing.proofs.Sitting.put_header.Goals as goal

-- a number and then others, where there is room for all
module _ (v : ℕ) (vs : List ℕ) (at : ℕ) (a : List ℕ) (room : HasRoom (written (v ∷ vs)) at a) (b : List ℕ) (r : ℕ) (first : Puts (shortest v) at a b r) where
  back : HasRoom (written vs) r b
  back = room_back (written (v ∷ vs)) (shortest v) (written vs) refl at a room b r first

  then : (c : List ℕ) (q : ℕ) → Puts (written vs) r b c q → Puts (written (v ∷ vs)) at a c q
  then c q rest = puts_then (written (v ∷ vs)) (shortest v) (written vs) refl at a room b r first c q rest

pub returns : goal.returns
returns c =
    let s = c.args.self.now.shape in
    let file = c.args.file.now in
    let left₃ = s.second ∷ [] in
    let left₂ = s.first ∷ left₃ in
    let left₁ = s.depth ∷ left₂ in
    let p₁ = c.put_number-past_alphabet.ensures in
    let p₂ = c.put_number-past_depth.ensures in
    let p₃ = c.put_number-past_first.ensures in
    let room₁ = back s.alphabet left₁ 0 file c.requires _ _ p₁ in
    let room₂ = back s.depth left₂ _ _ room₁ _ _ p₂ in
    let room₃ = back s.first left₃ _ _ room₂ _ _ p₃ in
    then s.alphabet left₁ 0 file c.requires _ _ p₁ _ _
    (then s.depth left₂ _ _ room₁ _ _ p₂ _ _
    (then s.first left₃ _ _ room₂ _ _ p₃ _ _
    (then s.second [] _ _ room₃ _ _ c.put_number.ensures _ _ (puts_none _ _))))
