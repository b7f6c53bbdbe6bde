-- How many records a feed adds, which keys are new, and that it is a matter of its own desk alone. Assumes nothing.
use mathlib.Core.Path.{◌≡◌, refl, sym, ap, subst, ◌∙◌}
use mathlib.Core.Logic.{◌≢◌}
use mathlib.Core.Bool.{Bool, true, false, not, ◌||◌, and-false}
use mathlib.Core.List.{List}
use Prim.Native.Nat.{ℕ, zero, suc, ◌+◌, ◌≤◌}
use native.Mathlib.Omega.{arith}
use borrow.Author.Tests.{le-ltb, eq-eqb, ne_eqb}
use lib.Dec.{T, eqb, eqb→eq}
use lib.ListN.{length, take, length-take}
use Rattle.numbers.specs.Sum.{one, sum}
use Rattle.numbers.proofs.Sums.{sum_cong}
use Rattle.contexts.specs.Keys.{key_of, desk_of}
use Rattle.contexts.specs.Sitting.{Sample}
use Rattle.contexts.proofs.KeyOrder.{Within, desk_of_key}
use Rattle.contexts.proofs.Followed.{context_take}
use Rattle.records.specs.Held.{held, keep, of_desk, Rising}
use Rattle.records.specs.Bumped.{cell_of, bumped}
use Rattle.records.specs.Fed.{fed_to, fed, missing}
use Rattle.records.proofs.Bumping.{held_bumped, length_bumped}
use Rattle.records.proofs.Counting.{cell_past}
use Rattle.records.proofs.Keeping.{rises_keep, held_keep, keep_bumped_other, keep_bumped_own}
use Rattle.recording.proofs.Feeding.{rising_fed_to, held_fed_to}

-- whether the context of length j is missing, as a number
abbrev pub lacks : ℕ → List ℕ → List (List ℕ) → ℕ → ℕ
lacks d r rs j = one (not (held (key_of d (take j r)) rs))

-- where a key that is held after a feed comes from: it was held before, or is that of a context that the symbol follows
pub data Origin (d : ℕ) (r : List ℕ) (rs : List (List ℕ)) (k : ℕ) : Type 0 where
  before : T (held k rs) → Origin d r rs k
  followed : (l : ℕ) → l ≤ length r → k ≡ key_of d (take l r) → Origin d r rs k

module _ (d : ℕ) (i : Sample) (a : ℕ) (r : List ℕ) where
  origin_to : (j : ℕ) → j ≤ suc (length r) → (k : ℕ) (rs : List (List ℕ)) → T (held k (fed_to j d i a r rs)) → Origin d r rs k
  unfolding fed_to
  origin_to zero l k rs h = before h
  origin_to (suc j) l k rs h = go (origin_to j (omega arith) k rs) (eqb (key_of d (take j r)) k) refl
    where
      h' : T (eqb (key_of d (take j r)) k || held k (fed_to j d i a r rs))
      h' = rw (held_bumped (cell_of i a) (cell_past i a) (key_of d (take j r)) k (fed_to j d i a r rs)) at h

      go : (T (held k (fed_to j d i a r rs)) → Origin d r rs k) → (t : Bool) → eqb (key_of d (take j r)) k ≡ t → Origin d r rs k
      go ih true e = followed j (omega arith) (sym (eqb→eq (key_of d (take j r)) k (subst T (sym e) tt)))
      go ih false e = ih (rw e at h')

  pub origin : (k : ℕ) (rs : List (List ℕ)) → T (held k (fed d i a r rs)) → Origin d r rs k
  origin k rs h = origin_to (suc (length r)) (omega arith) k rs h

module _ (d : ℕ) (i : Sample) (a : ℕ) (r : List ℕ) (cr : Within r) where
  desk_of_lem : (j : ℕ) → desk_of (key_of d (take j r)) ≡ d
  desk_of_lem j = desk_of_key d (take j r) (context_take _ _ j r cr)

  own_key : (j : ℕ) → of_desk d (key_of d (take j r)) ≡ true
  own_key j = eq-eqb (desk_of (key_of d (take j r))) d (desk_of_lem j)

  -- the shorter contexts leave the one of length j as it was
  pub held_yet : (j : ℕ) → j ≤ length r → (rs : List (List ℕ)) → held (key_of d (take j r)) (fed_to j d i a r rs) ≡ held (key_of d (take j r)) rs
  held_yet j l rs =
      let n : length (take j r) ≡ j = omega (arith, length-take j r) in
      held_fed_to d r cr d (take j r) (context_take _ _ j r cr) i a j (omega arith) rs ∙ simp (le-ltb (length (take j r)) j (omega arith), and-false)

  pub length_fed_to : (j : ℕ) → j ≤ suc (length r) → (rs : List (List ℕ)) → Rising rs → length (fed_to j d i a r rs) ≡ length rs + sum j (lacks d r rs)
  unfolding fed_to sum
  length_fed_to zero l rs up = omega arith
  length_fed_to (suc j) l rs up =
      let ih = length_fed_to j (omega arith) rs up in
      let step = length_bumped (key_of d (take j r)) (cell_of i a) 0 (fed_to j d i a r rs) (rising_fed_to d i a r j rs up) in
      let yet = ap (λ (t : Bool). one (not t)) (held_yet j (omega arith) rs) in
      omega arith

  -- THEOREM. A feed adds the records that were missing
  pub length_fed : (rs : List (List ℕ)) → Rising rs → length (fed d i a r rs) ≡ length rs + missing d r rs
  length_fed rs up = length_fed_to (suc (length r)) (omega arith) rs up

  -- another desk's records stay as they are
  other_fed_to : (e : ℕ) → d ≢ e → (j : ℕ) (rs : List (List ℕ)) → keep (of_desk e) (fed_to j d i a r rs) ≡ keep (of_desk e) rs
  unfolding fed_to
  other_fed_to e ne zero rs = refl
  other_fed_to e ne (suc j) rs =
      keep_bumped_other (of_desk e) (key_of d (take j r)) (cell_of i a) (fed_to j d i a r rs) (cell_past i a)
      (ne_eqb (desk_of (key_of d (take j r))) e (λ q. ne (sym (desk_of_lem j) ∙ q)))
      ∙ other_fed_to e ne j rs

  pub other_fed : (e : ℕ) (rs : List (List ℕ)) → d ≢ e → keep (of_desk e) (fed d i a r rs) ≡ keep (of_desk e) rs
  other_fed e rs ne = other_fed_to e ne (suc (length r)) rs

  -- its own are those that a feed of them alone would give
  own_fed_to : (j : ℕ) (rs : List (List ℕ)) → Rising rs → keep (of_desk d) (fed_to j d i a r rs) ≡ fed_to j d i a r (keep (of_desk d) rs)
  unfolding fed_to
  own_fed_to zero rs up = refl
  own_fed_to (suc j) rs up =
      keep_bumped_own (of_desk d) (key_of d (take j r)) (cell_of i a) 0 (fed_to j d i a r rs) (cell_past i a) (rising_fed_to d i a r j rs up) (own_key j)
      ∙ ap (bumped (key_of d (take j r)) i a) (own_fed_to j rs up)

  pub own_fed : (rs : List (List ℕ)) → Rising rs → keep (of_desk d) (fed d i a r rs) ≡ fed d i a r (keep (of_desk d) rs)
  own_fed rs up = own_fed_to (suc (length r)) rs up

  -- what is missing depends on the desk's own records, and a feed adds it to their number
  pub missing_own : (rs : List (List ℕ)) → missing d r (keep (of_desk d) rs) ≡ missing d r rs
  missing_own rs = sum_cong (suc (length r)) (λ j l. rw (held_keep (of_desk d) (key_of d (take j r)) rs, own_key j))

  pub desk_length_fed : (rs : List (List ℕ)) → Rising rs → length (keep (of_desk d) (fed d i a r rs)) ≡ length (keep (of_desk d) rs) + missing d r rs
  desk_length_fed rs up =
      ap length (own_fed rs up)
      ∙ length_fed (keep (of_desk d) rs) (rises_keep (of_desk d) 0 rs up)
      ∙ ap (λ (m : ℕ). length (keep (of_desk d) rs) + m) (missing_own rs)
