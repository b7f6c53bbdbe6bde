-- What a feed does to records whose keys rise: to what stands under each key, to what is held and to the order. Assumes nothing.
use mathlib.Core.Path.{◌≡◌, refl, sym, ap, ◌∙◌}
use mathlib.Core.Bool.{Bool, true, false, cond, ◌&&◌, ◌||◌, and-false, or_assoc}
use mathlib.Core.List.{List}
use Prim.Native.Nat.{ℕ, zero, suc, ◌+◌, ◌≤◌, ◌<◌}
use native.Mathlib.Omega.{arith}
use borrow.Author.Tests.{lt-ltb, le-ltb, eq-eqb, ne_eqb}
use lib.Dec.{eqb, ltb}
use lib.ListN.{length, take}
use Rattle.numbers.specs.Limits.{most_symbols}
use Rattle.numbers.specs.Sum.{one}
use Rattle.numbers.proofs.Orders.{less, same, more, order}
use Rattle.contexts.specs.Context.{begins}
use Rattle.contexts.specs.Keys.{key_of}
use Rattle.contexts.specs.Sitting.{Sample, same_sample}
use Rattle.contexts.proofs.KeyOrder.{Within, eqb_key}
use Rattle.contexts.proofs.Followed.{context_take, eqs_take, begins_all}
use Rattle.records.specs.Records.{count_of, lookup}
use Rattle.records.specs.Held.{held, count_at, Rising, Wide}
use Rattle.records.specs.Bumped.{cell_of, raised}
use Rattle.records.specs.Fed.{fed_to, fed}
use Rattle.records.proofs.Bumping.{rises_bumped, wide_bumped, lookup_bumped, held_bumped}
use Rattle.records.proofs.Counting.{cell_past, count_raised, wide_lookup}

-- ---- the order and the numbers of a record are kept

module _ (d : ℕ) (i : Sample) (a : ℕ) (r : List ℕ) where
  pub rising_fed_to : (j : ℕ) (rs : List (List ℕ)) → Rising rs → Rising (fed_to j d i a r rs)
  unfolding fed_to
  rising_fed_to zero rs up = up
  rising_fed_to (suc j) rs up = rises_bumped (cell_of i a) (cell_past i a) (key_of d (take j r)) 0 (fed_to j d i a r rs) (omega arith) (rising_fed_to j rs up)

  pub rising_fed : (rs : List (List ℕ)) → Rising rs → Rising (fed d i a r rs)
  rising_fed rs up = rising_fed_to (suc (length r)) rs up

  pub wide_fed_to : (j : ℕ) (rs : List (List ℕ)) → Wide rs → Wide (fed_to j d i a r rs)
  unfolding fed_to
  wide_fed_to zero rs w = w
  wide_fed_to (suc j) rs w = wide_bumped (key_of d (take j r)) (cell_of i a) (fed_to j d i a r rs) (wide_fed_to j rs w)

-- ---- what stands under a key, and which keys are held

joined : (d b u v h : Bool) → ((d && (b && u)) || ((d && (b && v)) || h)) ≡ ((d && (b && (u || v))) || h)
joined true true u v h = sym (or_assoc u v h)
joined true false u v h = refl
joined false b u v h = refl

ltb_suc : (l j : ℕ) → ltb l (suc j) ≡ (eqb l j || ltb l j)
ltb_suc l j = elim (order l j) [
  | less o ↦ rw (lt-ltb l (suc j) (omega arith), lt-ltb l j o, ne_eqb l j (λ q. omega arith))
  | same q ↦ rw (lt-ltb l (suc j) (omega arith), eq-eqb l j q)
  | more o ↦ rw (le-ltb l (suc j) (omega arith), le-ltb l j (omega arith), ne_eqb l j (λ q. omega arith))
]

regroup : (d b s e : Bool) → ((d && b) && (s && e)) ≡ (d && (s && (b && e)))
regroup true true s e = refl
regroup true false true e = refl
regroup true false false e = refl
regroup false b s e = refl

module _ (d : ℕ) (r : List ℕ) (cr : Within r) (e : ℕ) (s : List ℕ) (cs : Within s) where
  key_is : (j : ℕ) → j ≤ length r → eqb (key_of d (take j r)) (key_of e s) ≡ (eqb d e && (begins s r && eqb (length s) j))
  key_is j l = eqb_key (take j r) s (context_take _ _ j r cr) cs d e ∙ ap (λ (t : Bool). eqb d e && t) (eqs_take s r j l)

  module _ (i : Sample) (a : ℕ) where
    pub lookup_fed_to : (j : ℕ) → j ≤ suc (length r) → (rs : List (List ℕ)) → Rising rs
        → lookup (key_of e s) (fed_to j d i a r rs)
        ≡ cond (eqb d e && (begins s r && ltb (length s) j)) (raised (cell_of i a) (lookup (key_of e s) rs)) (lookup (key_of e s) rs)
    unfolding fed_to
    lookup_fed_to zero l rs up = simp (le-ltb (length s) 0 (omega arith), and-false)
    lookup_fed_to (suc j) l rs up =
        let ih = lookup_fed_to j (omega arith) rs up in
        rw (lookup_bumped (cell_of i a) (cell_past i a) (key_of d (take j r)) (key_of e s) (fed_to j d i a r rs) (rising_fed_to d i a r j rs up), ih, key_is j (omega arith))
        (elim (order (length s) j) [
          | less o ↦ simp (ne_eqb (length s) j (λ q. omega arith), lt-ltb (length s) j o, lt-ltb (length s) (suc j) (omega arith), and-false)
          | same q ↦ simp (eq-eqb (length s) j q, le-ltb (length s) j (omega arith), lt-ltb (length s) (suc j) (omega arith), and-false)
          | more o ↦ simp (ne_eqb (length s) j (λ q. omega arith), le-ltb (length s) j (omega arith), le-ltb (length s) (suc j) (omega arith), and-false)
        ])

    pub held_fed_to : (j : ℕ) → j ≤ suc (length r) → (rs : List (List ℕ))
        → held (key_of e s) (fed_to j d i a r rs) ≡ ((eqb d e && (begins s r && ltb (length s) j)) || held (key_of e s) rs)
    unfolding fed_to
    held_fed_to zero l rs = simp (le-ltb (length s) 0 (omega arith), and-false)
    held_fed_to (suc j) l rs =
        rw (
          held_bumped (cell_of i a) (cell_past i a) (key_of d (take j r)) (key_of e s) (fed_to j d i a r rs),
          held_fed_to j (omega arith) rs,
          key_is j (omega arith),
          ltb_suc (length s) j,
        )
        (joined (eqb d e) (begins s r) (eqb (length s) j) (ltb (length s) j) (held (key_of e s) rs))

    -- THEOREM. What stands under a desk's context after a feed: one more, where it is the desk fed and the context begins the recent symbols
    pub lookup_fed : (rs : List (List ℕ)) → Rising rs
        → lookup (key_of e s) (fed d i a r rs) ≡ cond (eqb d e && begins s r) (raised (cell_of i a) (lookup (key_of e s) rs)) (lookup (key_of e s) rs)
    lookup_fed rs up =
        lookup_fed_to (suc (length r)) (omega arith) rs up
        ∙ ap (λ (t : Bool). cond (eqb d e && t) (raised (cell_of i a) (lookup (key_of e s) rs)) (lookup (key_of e s) rs)) (begins_all s r)

    -- .. so its counts: one more in the sample fed, at the symbol fed
    pub count_fed : (j : Sample) (b : ℕ) (rs : List (List ℕ)) → a < most_symbols → Wide rs → Rising rs
        → count_at (key_of e s) j b (fed d i a r rs) ≡ count_at (key_of e s) j b rs + one (eqb d e && (same_sample i j && (begins s r && eqb a b)))
    count_fed j b rs h w up =
        rw (lookup_fed rs up, ← regroup (eqb d e) (begins s r) (same_sample i j) (eqb a b)) (go (eqb d e && begins s r))
      where
        go : (t : Bool) → count_of j (cond t (raised (cell_of i a) (lookup (key_of e s) rs)) (lookup (key_of e s) rs)) b
            ≡ count_at (key_of e s) j b rs + one (t && (same_sample i j && eqb a b))
        go true = count_raised i j a b (lookup (key_of e s) rs) h (wide_lookup (key_of e s) rs w)
        go false = omega arith

    -- .. and what is held: what was, and those contexts
    pub held_fed : (rs : List (List ℕ)) → held (key_of e s) (fed d i a r rs) ≡ ((eqb d e && begins s r) || held (key_of e s) rs)
    held_fed rs =
        held_fed_to (suc (length r)) (omega arith) rs
        ∙ ap (λ (t : Bool). (eqb d e && t) || held (key_of e s) rs) (begins_all s r)
