-- Records that are whole can be written: one after another they stand in any numbers that are long enough. Assumes nothing.
use mathlib.Core.Path.{◌≡◌, refl, ap, ap₂, ◌∙◌}
use mathlib.Core.List.{List, [], ◌∷◌, ◌++◌, append_assoc}
use Prim.Native.Nat.{ℕ, ◌*◌, ◌≤◌}
use native.Mathlib.Omega.{arith}
use lib.ListN.{length, take, drop, length-append, length-drop}
use lib.Seq.{take_at, drop_at}
use Rattle.records.specs.Records.{width, parts, records}
use Rattle.records.specs.Held.{Wide}
use Rattle.records.specs.Bumped.{Written}

unfoldable pub flat : List (List ℕ) → List ℕ
flat [] = []
flat (r ∷ rs) = r ++ flat rs

-- the records at the beginning of the numbers, every number past them as before
abbrev pub in_front : List (List ℕ) → List ℕ → List ℕ
in_front rs l = flat rs ++ drop (width * length rs) l

flat_long : (rs : List (List ℕ)) → Wide rs → length (flat rs) ≡ width * length rs
unfolding flat
flat_long [] w = refl
flat_long (r ∷ rs) w = omega (arith, length-append r (flat rs), w.0, flat_long rs w.1)

flat_read : (rs : List (List ℕ)) (rest : List ℕ) → Wide rs → records (length rs) (flat rs ++ rest) ≡ rs
unfolding flat parts
flat_read [] rest w = refl
flat_read (r ∷ rs) rest w =
    let whole : (r ++ flat rs) ++ rest ≡ r ++ (flat rs ++ rest) = append_assoc r (flat rs) rest in
    ap₂ {C = List (List ℕ)} (λ (q : List ℕ) (qs : List (List ℕ)). q ∷ qs)
    (ap (take width) whole ∙ take_at r (flat rs ++ rest) width w.0)
    (ap (λ (l : List ℕ). records (length rs) (drop width l)) whole ∙ ap (records (length rs)) (drop_at r (flat rs ++ rest) width w.0) ∙ flat_read rs rest w.1)

module _ (rs : List (List ℕ)) (l : List ℕ) (w : Wide rs) where
  -- THEOREM. What is left so is what a function that writes these records promises
  pub front_written : Written rs (length rs) l (in_front rs l)
  front_written = record {
    live = flat_read rs (drop (width * length rs) l) w;
    past = drop_at (flat rs) (drop (width * length rs) l) (width * length rs) (flat_long rs w);
  }

  pub front_long : width * length rs ≤ length l → length (in_front rs l) ≡ length l
  front_long h = omega (arith, length-append (flat rs) (drop (width * length rs) l), flat_long rs w, length-drop (width * length rs) l)
