-- The turns of a visit over the children of a held context, one symbol after the other. Assumes nothing.
use Prim.Native.Nat.{ℕ, suc, ◌+◌, ◌-◌, ◌*◌, ◌/◌, ◌^◌, ◌≤◌, ◌<◌}
use mathlib.Core.Path.{◌≡◌, sym, ap, ap₂, subst, subst₂, ◌∙◌}
use mathlib.Core.Bool.{true, false}
use mathlib.Core.List.{List, [], ◌∷◌}
use native.Mathlib.Omega.{arith}
use native.Mathlib.Numerals.{add-one}
use native.Mathlib.Nat.{mul-le-mul_right}
use lib.ListN.{length, length-append}
use Rattle.numbers.specs.Limits.{most_symbols}
use Rattle.numbers.specs.Sum.{sum}
use Rattle.numbers.proofs.Sums.{sum_next, sum_mono, sum_same}
use Rattle.contexts.specs.Keys.{key_of, context_of}
use Rattle.contexts.proofs.KeyOrder.{context_of_key}
use Rattle.estimate.specs.Trees.{Kind}
use Rattle.estimate.specs.Recursion.{Losses, losses}
use Rattle.estimate.specs.declared.ByKind.{ByKind}
use Rattle.estimate.specs.Table.{for_kind}
use Rattle.rows.specs.Walk.{older}
use Rattle.records.specs.Records.{records, keys}
use Rattle.records.specs.Held.{rank, held, Placed}
use Rattle.weighing.specs.declared.Desk.{Desk}
use Rattle.weighing.specs.declared.Context.{Context}
use Rattle.weighing.specs.declared.Weighed.{Weighed}
use Rattle.weighing.specs.Sitting.{sitting_in}
use Rattle.weighing.specs.Trees.{least_at, members_at}
use Rattle.estimate.specs.Adding.{SumFits}
use Rattle.weighing.specs.Visit.{end_of, Arrived, CanVisit, Marked, Apart, Visited, most_loss, LeafOf, CanAdd, ChildOf, CanAddUnseen}
use Rattle.weighing.proofs.Cursor.{turn_key, within, turn_at}
use Rattle.records.proofs.Rising.{rank_mono}
use Rattle.weighing.proofs.Blocks.{block_key}
use Rattle.weighing.proofs.Flat.{least_le, members_few}
use Rattle.weighing.proofs.Counts.{losses_most}
use Rattle.weighing.proofs.Choosing.{sum_of, fits_by}
use Rattle.weighing.proofs.Steps as steps
use Rattle.weighing.proofs.Steps.{pow_le}
use Rattle.weighing.proofs.Marks.{marked_on, apart_on}
use Rattle.weighing.proofs.Visiting.{stands, bare_small, answer_absent}
use Rattle.weighing.proofs.BlockParts.{begins_self, key_older}

-- before the child at a of the context s, which stands at place p; d symbols are left below the children
pub record Turn (k : Desk) (n : ℕ) (l : List ℕ) (s : List ℕ) (d p step a child : ℕ) (old cur : List ℕ) (children : Weighed) : Type 0 where
  pub few : a ≤ k.symbols
  pub long : length cur ≡ length old
  pub child_is : child ≡ key_of k.number s + a * step + 1
  pub least : (t : Kind) → for_kind children.least t ≡ sum a (λ b. least_at k.symbols d (losses (sitting_in k (records n l))) t (older s b))
  pub rows : (t : Kind) → for_kind children.rows t ≡ sum a (λ b. length (members_at k.symbols d (losses (sitting_in k (records n l))) t (older s b)))
  pub onward : p + 1 ≤ children.next
  pub place : children.next ≡ rank (turn_key k.number s a) (keys (records n l))
  pub marked : Marked k n l (p + 1) children.next cur
  pub apart : Apart (p + 1) children.next old cur

-- a sum over fewer than eight children, and one child more
pub turn_small : (a m x y : ℕ) {g : ℕ → ℕ} → a ≤ most_symbols → x ≡ sum a g → ((b : ℕ) → g b ≤ m) → y ≤ m → x + y ≤ 9 * m
turn_small a m x y few e h y-le = omega (arith, sum_mono a {g = λ b. m} (λ b l. h b), sum_same a m, mul-le-mul_right m few)

module _ {k : Desk} {costs : ByKind} {n : ℕ} {l old : List ℕ} {c : Context} {p : ℕ} (v : CanVisit k costs n l old c p) (more : c.left ≡ 0 → ⊥) where
  abbrev f : Losses
  f = losses (sitting_in k (records n l))

  abbrev s : List ℕ
  s = context_of c.key

  abbrev q : Arrived k costs n l s c p
  q = v.ready

  module _ {cur : List ℕ} {a child : ℕ} {children : Weighed} (t : Turn k n l s (c.left - 1) p (c.span / 8) a child old cur children) (lt : a < k.symbols) where
    abbrev below : Context
    below = record { key = child; span = c.span / 8; left = c.left - 1 }

    child_key : child ≡ key_of k.number (older s a)
    child_key = t.child_is ∙ rw (steps.step_is q more) (sym (key_older k.number (steps.after s) s (steps.room q more) a))

    child_ready : Arrived k costs n l (older s a) below children.next
    child_ready = record {
      weighable = q.weighable;
      priced = q.priced;
      context = steps.child_context q more a lt;
      key_is = child_key;
      span_is = let e : 7 - length (older s a) ≡ suc (steps.after s) = omega (arith, length-append s (a ∷ []), steps.room q more) in steps.step_is q more ∙ rw e;
      left_is = let z = more in omega (arith, length-append s (a ∷ []), q.left_is);
      place = t.place ∙ turn_at k n l q.weighable s q.context (steps.after s) (steps.room q more) (steps.deeper q more) a lt;
    }

    child_is : context_of child ≡ older s a
    child_is = ap context_of child_key ∙ context_of_key k.number (older s a) (within k n l q.weighable (older s a) (steps.child_context q more a lt))

    pub child_stands : Placed child n children.next l
    child_stands = stands child_ready

    pub child_fits : child + c.span / 8 < 2 ^ 32
    child_fits = omega (arith, t.child_is, steps.step_small q more a lt, steps.key_small q more)

    -- a child that is held can be visited ..
    pub can_visit : held child (records n l) ≡ true → CanVisit k costs n l cur below children.next
    can_visit on = record { ready = subst (λ (u : List ℕ). Arrived k costs n l u below children.next) (sym child_is) child_ready; on = on; beside = omega (arith, v.beside, t.long) }

    -- .. and for one that is not a leaf stands
    pub unseen : held child (records n l) ≡ false → {w : Weighed} → LeafOf costs children.next w → Visited k n l (context_of child) (c.left - 1) children.next cur cur w
    unseen off {w} g = subst (λ (u : List ℕ). Visited k n l u (c.left - 1) children.next cur cur w) (sym child_is) (answer_absent child_ready off cur g)

    -- what it gives fits, and brings the next turn
    module _ {new : List ℕ} {w : Weighed} (gave : Visited k n l (context_of child) (c.left - 1) children.next cur new w) where
      g : Visited k n l (older s a) (c.left - 1) children.next cur new w
      g = subst (λ (u : List ℕ). Visited k n l u (c.left - 1) children.next cur new w) child_is gave

      least_fits : SumFits children.least w.least
      least_fits = fits_by children.least w.least (λ i.
          let h = turn_small a most_loss (for_kind children.least i) (for_kind w.least i) (omega (arith, q.weighable.few)) (t.least i) (small i) (rw (g.least i) (small i a)) in
          omega arith)
        where
          small : (i : Kind) (b : ℕ) → least_at k.symbols (c.left - 1) f i (older s b) ≤ most_loss
          small i b = omega (arith, least_le k.symbols (c.left - 1) f i (older s b), losses_most k n l q.weighable costs q.priced (older s b) i)

      rows_fits : SumFits children.rows w.rows
      rows_fits = fits_by children.rows w.rows (λ i.
          let h = turn_small a (2 * 8 ^ (c.left - 1)) (for_kind children.rows i) (for_kind w.rows i) (omega (arith, q.weighable.few)) (t.rows i) (few i) (rw (g.rows i) (few i a)) in
          omega (arith, pow_le (c.left - 1) 6 (omega (arith, q.left_is, q.weighable.shallow))))
        where
          few : (i : Kind) (b : ℕ) → length (members_at k.symbols (c.left - 1) f i (older s b)) ≤ 2 * 8 ^ (c.left - 1)
          few i b = members_few k.symbols f q.weighable.few (c.left - 1) i (older s b)

      pub can_add : CanAdd children w
      can_add = record { least = least_fits; rows = rows_fits }

      pub turn_next : length new ≡ length cur → {added next : Weighed} → ChildOf children w added → {now : List ℕ} → now ≡ new → next ≡ added → Turn k n l s (c.left - 1) p (c.span / 8) (a + 1) (child + c.span / 8) old now next
      turn_next same {added} e is-new is_sum = subst₂ (λ (now : List ℕ) (next : Weighed). Turn k n l s (c.left - 1) p (c.span / 8) (a + 1) (child + c.span / 8) old now next) (sym is-new) (sym is_sum) (record {
        few = omega arith;
        long = same ∙ t.long;
        child_is = omega (arith, t.child_is);
        least = λ i. sum_of _ _ _ e.least i ∙ ap₂ ◌+◌ (t.least i) (g.least i) ∙ sym (sum_next a _);
        rows = λ i. sum_of _ _ _ e.rows i ∙ ap₂ ◌+◌ (t.rows i) (g.rows i) ∙ sym (sum_next a _);
        place = e.onward ∙ g.past ∙ rw add-one;
        onward = omega (arith, t.onward, e.onward, further);
        marked = marked_on k n l (p + 1) children.next added.next cur new t.marked (rw e.onward g.marked) (rw e.onward g.apart);
        apart = apart_on (p + 1) children.next added.next old cur new t.onward (omega (arith, e.onward, further)) t.apart (rw e.onward g.apart);
      })
        where
          -- a visit does not go back
          further : children.next ≤ w.next
          further =
              let o = within k n l q.weighable (older s a) (steps.child_context q more a lt) in
              rw (g.past, t.place ∙ turn_at k n l q.weighable s q.context (steps.after s) (steps.room q more) (steps.deeper q more) a lt)
              (rank_mono (key_of k.number (older s a)) (end_of k.number (older s a)) (keys (records n l)) (omega (arith, block_key k.number (older s a) (older s a) o o (begins_self (older s a)))))

    pub can_add_unseen : held child (records n l) ≡ false → CanAddUnseen costs children
    can_add_unseen off = record { small = bare_small q; fits = λ w g. can_add (unseen off g) }
