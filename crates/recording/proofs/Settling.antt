-- What a promise of records settles: the number of records and every number of the memory, and that they stand again. Assumes nothing.
use mathlib.Core.Path.{◌≡◌, sym, ap, ◌∙◌, subst}
use mathlib.Core.List.{List}
use Prim.Native.Nat.{ℕ, ◌+◌}
use native.Mathlib.Omega.{arith}
use lib.ListN.{length}
use Rattle.contexts.specs.Sitting.{sample_of}
use Rattle.records.specs.Records.{width, records}
use Rattle.records.specs.Held.{keep, of_desk, without, Standing, Removable}
use Rattle.records.specs.Bumped.{Written}
use Rattle.records.specs.Fed.{fed, missing, Feedable}
use Rattle.records.proofs.Parts.{length_parts, same_numbers}
use Rattle.recording.proofs.Feeding.{rising_fed}
use Rattle.recording.proofs.Growing.{length_fed}
use Rattle.recording.proofs.Desks.{rising_without, length_without}

-- the answer is how many records there are
pub written_count : (rs : List (List ℕ)) (m : ℕ) (before after : List ℕ) → Written rs m before after → m ≡ length rs
written_count rs m before after w = sym (length_parts width m after) ∙ ap length w.live

-- THEOREM. Two results that one promise allows are equal, in the answer and in every number
pub written_settles : (rs : List (List ℕ)) (m m' : ℕ) (before x y : List ℕ) → Written rs m before x → Written rs m' before y → (m ≡ m') × (x ≡ y)
written_settles rs m m' before x y w v =
    let same : m' ≡ m = written_count rs m' before y v ∙ sym (written_count rs m before x w) in
    let u : Written rs m before y = subst (λ (k : ℕ). Written rs k before y) same v in
    (sym same, same_numbers width m x y (w.live ∙ sym u.live) (w.past ∙ sym u.past))

-- what was left stands: a feed's records ..
module _ (d i a : ℕ) (r : List ℕ) (n m : ℕ) (before after : List ℕ) (q : Feedable d i a r n before)
    (long : length after ≡ length before) (w : Written (fed d (sample_of i) a r (records n before)) m before after) where
  pub fed_count : m ≡ n + missing d r (records n before)
  fed_count =
      written_count (fed d (sample_of i) a r (records n before)) m before after w
      ∙ length_fed d (sample_of i) a r q.asked.context (records n before) q.asked.standing.rising
      ∙ ap (λ (k : ℕ). k + missing d r (records n before)) (length_parts width n before)

  pub fed_standing : Standing m after
  fed_standing =
      record {
        fits = omega (arith, q.room, long, fed_count);
        rising = rw w.live (rising_fed d (sample_of i) a r (records n before) q.asked.standing.rising);
      }

-- .. and those that a removal left
module _ (d n m : ℕ) (before after : List ℕ) (q : Removable d n before) (long : length after ≡ length before)
    (w : Written (without d (records n before)) m before after) where
  pub removed_count : m + length (keep (of_desk d) (records n before)) ≡ n
  removed_count =
      omega (arith, written_count (without d (records n before)) m before after w, length_without d (records n before), length_parts width n before)

  pub removed_standing : Standing m after
  removed_standing =
      record {
        fits = omega (arith, q.standing.fits, long, removed_count);
        rising = rw w.live (rising_without d (records n before) q.standing.rising);
      }
