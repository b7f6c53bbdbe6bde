-- The way through `remove_desk`, as the code has it: the records from the next desk's on are moved down to the desk's first. Assumes nothing.
use mathlib.Core.Path.{◌≡◌, sym, ap, ap₂, ◌∙◌}
use mathlib.Core.List.{List, ◌++◌, append_assoc}
use Prim.Native.Nat.{ℕ, ◌+◌, ◌-◌, ◌*◌, ◌≤◌}
use native.Mathlib.Omega.{arith}
use lib.ListN.{length, take, drop, length-drop}
use lib.Seq.{length-take-le, drop-drop}
use Rattle.numbers.proofs.Lists.{drop_take}
use Rattle.contexts.specs.Keys.{desk_span}
use Rattle.records.specs.Records.{width, records, keys}
use Rattle.records.specs.Held.{rank, without, Standing}
use Rattle.records.specs.Bumped.{Written}
use Rattle.records.proofs.Parts.{parts_remove}
use Rattle.records.proofs.Lent.{past_kept}
use Rattle.recording.proofs.Desks.{without_cut}

-- from place a to place b stand the records of the desk
module _ (d n a b : ℕ) (l : List ℕ) (stand : Standing n l)
    (at_a : a ≡ rank (d * desk_span) (keys (records n l))) (at_b : b ≡ rank ((d + 1) * desk_span) (keys (records n l))) (ab : a ≤ b) (bn : b ≤ n) where
  pub removed : (ys : List ℕ)
      → (let part = take (width * n - width * a) (drop (width * a) l) in
      let gap = width * (b - a) in
      ys ≡ drop gap part ++ drop (length part - gap) part)
      → Written (without d (records n l)) (n - (b - a)) l (take (width * a) l ++ (ys ++ drop (width * n - width * a) (drop (width * a) l)))
  removed ys e =
      let gap = width * (b - a) in
      let long = width * n - width * a in
      let part = take long (drop (width * a) l) in
      let rest = drop long (drop (width * a) l) in
      let y = drop gap part in
      let z = drop (length part - gap) part in
      let size : length part ≡ long = length-take-le long (drop (width * a) l) (rw (length-drop (width * a) l) (omega (arith, stand.fits))) in
      let left : long - gap ≡ width * (n - b) = omega arith in
      let start : width * a + gap ≡ width * b = omega arith in
      let moved : y ≡ take (width * (n - b)) (drop (width * b) l) = drop_take gap long (drop (width * a) l) ∙ rw (left, drop-drop gap (width * a) l, start) in
      let count : n - (b - a) ≡ a + (n - b) = omega arith in
      let kept : z ≡ drop (long - gap) part = ap (λ (m : ℕ). drop (m - gap) part) size in
      let taken : length y + gap ≡ long = ap (λ (m : ℕ). m + gap) (length-drop gap part) ∙ omega arith in
      let end : width * n - gap ≡ width * (n - (b - a)) = omega arith in
      record {
        live =
            ap (λ (q : List ℕ). records (n - (b - a)) (take (width * a) l ++ (q ++ rest))) e
            ∙ ap₂ records count (ap (λ (q : List ℕ). take (width * a) l ++ q) (append_assoc y z rest))
            ∙ parts_remove width n l stand.fits a b y (z ++ rest) (omega arith) bn moved
            ∙ ap₂ (λ (i j : ℕ). take i (records n l) ++ drop j (records n l)) at_a at_b
            ∙ sym (without_cut d 0 (records n l) stand.rising);
        past =
            ap (λ (q : List ℕ). drop (width * (n - (b - a))) (take (width * a) l ++ (q ++ rest))) (e ∙ ap (λ (q : List ℕ). y ++ q) kept)
            ∙ rw (← end) (past_kept (width * a) (width * n) l (omega arith) stand.fits gap y taken);
      }
