-- In a sound store no record stands among the contexts that a symbol follows and that are missing: its context would begin with one that is missing.
-- Assumes nothing.
use mathlib.Core.Path.{◌≡◌, refl, sym, ap, subst, ◌∙◌}
use mathlib.Core.Bool.{Bool, true, false, ◌&&◌}
use mathlib.Core.List.{List, [], ◌∷◌}
use Prim.Native.Nat.{ℕ, ◌≤◌, ◌<◌}
use native.Mathlib.Omega.{arith}
use lib.Dec.{T, eqb, eqb→eq}
use lib.ListN.{length, take}
use lib.Seq.{take-length}
use Rattle.numbers.specs.Limits.{most_symbols, deepest}
use Rattle.numbers.proofs.Tests.{both, left, right}
use Rattle.numbers.proofs.Orders.{Order, less, same, more, order, eq→eqb}
use Rattle.contexts.specs.Context.{begins, precedes}
use Rattle.contexts.specs.Keys.{context_key, key_of, desk_of}
use Rattle.contexts.specs.Sitting.{Sample, first, second}
use Rattle.contexts.proofs.Strings.{begins_take, take→begins}
use Rattle.contexts.proofs.RowOrder.{Step, smaller, equal, precedes_step, earlier, later, ordered}
use Rattle.contexts.proofs.RowOrder as rows
use Rattle.contexts.proofs.KeyOrder.{Within, context_key_lt, key_order}
use Rattle.contexts.proofs.Followed.{context_take}
use Rattle.records.specs.Held.{held}
use Rattle.records.specs.Located.{Located, Clear}
use Rattle.store.specs.Layout.{records_in}
use Rattle.store.specs.Sound.{soundb}
use Rattle.store.specs.Plain.{Open, ContextAt, total_at}
use Rattle.store.proofs.Standing.{sound_stands}
use Rattle.changes.specs.FedStore.{recent_at}
use Rattle.changes.proofs.Recent.{recent_within, within}
use Rattle.changes.proofs.Before.{held_seen, absent_total}
use Rattle.changes.proofs.Owning.{owned, owned_desk}

-- what stands in row order between a context and one that begins with it begins with it too
begins_between : (s t r : List ℕ) → T (begins s r) → T (precedes s t) → T (precedes t r) → T (begins s t)
begins_between [] t r b p q = tt
begins_between (a ∷ s) [] r b p q = absurd p
begins_between (a ∷ s) (c ∷ t) [] b p q = absurd b
begins_between (a ∷ s) (c ∷ t) (e ∷ r) b p q =
    go (eqb→eq a e (left (eqb a e) (begins s r) b)) (precedes_step a c s t p) (precedes_step c e t r q) (begins_between s t r (right (eqb a e) (begins s r) b))
  where
    go : a ≡ e → Step a c s t → Step c e t r → (T (precedes s t) → T (precedes t r) → T (begins s t)) → T (eqb a c && begins s t)
    go f (smaller l) (smaller k) ih = absurd (omega arith)
    go f (smaller l) (equal g k) ih = absurd (omega arith)
    go f (equal g l) (smaller k) ih = absurd (omega arith)
    go f (equal g l) (equal h k) ih = both (eqb a c) (begins s t) (eq→eqb a c g) (ih l k)

key_between : (s t r : List ℕ) → Within s → Within t → Within r → T (begins s r) → context_key s ≤ context_key t → context_key t ≤ context_key r → T (begins s t)
key_between s t r cs ct cr b lo hi = elim (ordered s t) [
  | earlier p ↦ elim (ordered t r) [
    | earlier q ↦ begins_between s t r b p q
    | rows.equal e ↦ subst (λ (z : List ℕ). T (begins s z)) (sym e) b
    | later q ↦ absurd (let h = key_order r t cr ct q in omega arith)
  ]
  | rows.equal e ↦ subst (λ (z : List ℕ). T (begins s z)) e (take→begins s s (take-length s))
  | later p ↦ absurd (let h = key_order t s ct cs p in omega arith)
]

module _ (s : List ℕ) (h : soundb s ≡ true) (d : ℕ) (o : Open s d) where
  -- where a context is held, so are the shorter ones
  shorter_held : (c u : List ℕ) → ContextAt s d c → T (begins u c) → T (held (key_of d c) (records_in s)) → held (key_of d u) (records_in s) ≡ false → ⊥
  shorter_held c u x b t e = go (order 0 (total_at s d first c))
    where
      none : (i : Sample) → 0 < total_at s d i c → ⊥
      none i l = let z = absent_total s h i (key_of d u) e in let g = (sound_stands s h).suffixes d o c u x b i l in omega arith

      go : Order 0 (total_at s d first c) → ⊥
      go (less l) = none first l
      go (same q) = none second (let g = held_seen s h (key_of d c) t in omega arith)
      go (more l) = absurd (omega arith)

  module _ (i : Sample) (m : ℕ) (e : held (key_of d (take m (recent_at s d i))) (records_in s) ≡ false) where
    abbrev r : List ℕ
    r = recent_at s d i

    stray : (x : ℕ) → key_of d (take m r) ≤ x → x ≤ key_of d r → T (held x (records_in s)) → ⊥
    stray x lo hi t =
        let cr = recent_within s h d o i in
        let w = owned s h x t in
        let small = context_key_lt r cr in
        let desk : desk_of x ≡ d = omega arith in
        let own : w.desk ≡ d = sym (owned_desk s h x w) ∙ desk in
        let is : x ≡ key_of d w.context = w.under_key ∙ ap (λ (b : ℕ). key_of b w.context) own in
        let there : ContextAt s d w.context = subst (λ (b : ℕ). ContextAt s b w.context) own w.is_context_holds in
        let b = key_between (take m r) w.context r (context_take most_symbols deepest m r cr) (within s h d o w.context there) cr (begins_take m r) (omega arith) (omega arith) in
        shorter_held w.context (take m r) there b (subst (λ (k : ℕ). T (held k (records_in s))) is t) e

    -- THEOREM. From the first missing context to the longest no record has a key
    pub clear : Clear (key_of d (take m r)) (key_of d r) (records_in s)
    clear x lo hi = go (held x (records_in s)) refl (stray x lo hi)
      where
        go : (b : Bool) → held x (records_in s) ≡ b → (T (held x (records_in s)) → ⊥) → held x (records_in s) ≡ false
        go true q n = absurd (n (subst T (sym q) tt))
        go false q n = q

  -- .. where the walk over the contexts came to an end
  pub clear_from : (i : Sample) (r : List ℕ) → r ≡ recent_at s d i → (m : ℕ) (places : List ℕ) → Located d r (records_in s) m places → m ≤ length r
      → Clear (key_of d (take m r)) (key_of d r) (records_in s)
  clear_from i r q m places at on =
      subst (λ (z : List ℕ). held (key_of d (take m z)) (records_in s) ≡ false → Clear (key_of d (take m z)) (key_of d z) (records_in s)) (sym q) (clear i m) (at.next_missing on)
