-- The first turn of a visit over the children of a held context, and what stands after the last. Assumes nothing.
use Prim.Native.Nat.{ℕ, zero, suc, ◌+◌, ◌-◌, ◌*◌, ◌/◌, ◌^◌, ◌≤◌, ◌<◌}
use mathlib.Core.Path.{◌≡◌, refl, sym, ap, subst₂, ◌∙◌}
use mathlib.Core.List.{List}
use native.Mathlib.Omega.{arith}
use lib.ListN.{length, get_or}
use Rattle.numbers.specs.Sum.{sum}
use Rattle.contexts.specs.Keys.{key_of, context_of}
use Rattle.contexts.specs.Sitting.{first, second}
use Rattle.estimate.specs.Trees.{Kind, own}
use Rattle.estimate.specs.Recursion.{Losses, losses}
use Rattle.estimate.specs.Table.{for_kind, LossesOf}
use Rattle.estimate.specs.declared.ByKind.{ByKind}
use Rattle.rows.specs.Walk.{older}
use Rattle.records.specs.Records.{width, records, keys}
use Rattle.records.specs.Held.{rank, record_at, count_table}
use Rattle.weighing.specs.declared.Desk.{Desk}
use Rattle.weighing.specs.declared.Context.{Context}
use Rattle.weighing.specs.declared.Weighed.{Weighed}
use Rattle.weighing.specs.Sitting.{sitting_in}
use Rattle.weighing.specs.Trees.{least_at, members_at, mark_of}
use Rattle.weighing.specs.Visit.{end_of, Arrived, CanVisit, Visited, NoneOf, SplitHere, split_mark}
use Rattle.weighing.proofs.Cursor.{turn_key, turns_past}
use Rattle.weighing.proofs.Flat.{members_few}
use Rattle.weighing.proofs.Choosing as choosing
use Rattle.weighing.proofs.Steps as steps
use Rattle.weighing.proofs.Steps.{pow_le}
use Rattle.weighing.proofs.Marks.{written_mark, written_apart, apart_none}
use Rattle.weighing.proofs.Visiting.{past_own, there, kept_there, own_losses, mark_there}
use Rattle.weighing.proofs.Turning.{Turn, turn_small}

module _ {k : Desk} {costs : ByKind} {n : ℕ} {l old : List ℕ} {c : Context} {p : ℕ} (v : CanVisit k costs n l old c p) (more : c.left ≡ 0 → ⊥) where
  abbrev f : Losses
  f = losses (sitting_in k (records n l))

  abbrev s : List ℕ
  s = context_of c.key

  abbrev q : Arrived k costs n l s c p
  q = v.ready

  pub turns_begin : {children : Weighed} → NoneOf (p + 1) children → Turn k n l s (c.left - 1) p (c.span / 8) 0 (c.key + 1) old old children
  unfolding sum
  turns_begin {children} z = record {
    few = omega arith;
    long = refl;
    child_is = omega (arith, q.key_is);
    least = z.least;
    rows = z.rows;
    onward = omega (arith, z.onward);
    place = z.onward ∙ past_own v;
    marked = record { is = λ x lo hi. absurd (omega (arith, z.onward)) };
    apart = apart_none (p + 1) children.next old;
  }

  module _ {cur : List ℕ} {a child : ℕ} {children : Weighed} (t : Turn k n l s (c.left - 1) p (c.span / 8) a child old cur children) (done : k.symbols ≤ a) where
    all : a ≡ k.symbols
    all = omega (arith, t.few)

    back : suc (c.left - 1) ≡ c.left
    back = let z = more in omega arith

    less : (i : Kind) → for_kind children.least i ≡ sum k.symbols (λ b. least_at k.symbols (c.left - 1) f i (older s b))
    less i = t.least i ∙ ap (λ (m : ℕ). sum m (λ b. least_at k.symbols (c.left - 1) f i (older s b))) all

    some : (i : Kind) → for_kind children.rows i ≡ sum k.symbols (λ b. length (members_at k.symbols (c.left - 1) f i (older s b)))
    some i = t.rows i ∙ ap (λ (m : ℕ). sum m (λ b. length (members_at k.symbols (c.left - 1) f i (older s b)))) all

    pub kept_still : p < length cur
    kept_still = omega (arith, t.long, kept_there v)

    pub rows_small : children.rows.first + children.rows.second + 2 < 2 ^ 64
    rows_small = omega (arith, few (own first), few (own second), pow_le (c.left - 1) 6 (omega (arith, q.left_is, q.weighable.shallow)))
      where
        few : (i : Kind) → for_kind children.rows i ≤ 9 * (2 * 8 ^ (c.left - 1))
        few i = omega (arith, turn_small a (2 * 8 ^ (c.left - 1)) (for_kind children.rows i) 0 (omega (arith, q.weighable.few)) (t.rows i) (λ b. members_few k.symbols f q.weighable.few (c.left - 1) i (older s b)) (omega arith))

    last : (m : ℕ) → a ≡ m → rank (turn_key k.number s m) (keys (records n l)) ≡ rank (end_of k.number s) (keys (records n l))
    last zero e = absurd (omega (arith, all, q.weighable.some))
    last (suc b) e = turns_past k n l q.weighable s q.context (steps.after s) (steps.room q more) (steps.deeper q more) b (omega (arith, all))

    pub turns_end : {o : ByKind} → LossesOf (count_table (record_at p l)) costs o → {new : List ℕ} {r : Weighed} → SplitHere o p children cur new r → Visited k n l s c.left p old new r
    turns_end {o} lost {new} {r} w = subst₂ (λ (d : ℕ) (after : List ℕ). Visited k n l s d p old after r) back (sym w.mark) (record {
      least = choosing.split_least k.symbols f s o is (c.left - 1) children less some r w.is;
      rows = choosing.split_members k.symbols f s o is (c.left - 1) children less some r w.is;
      past = w.is.onward ∙ t.place ∙ last a refl;
      marked = rw w.is.onward (written_mark k n l p children.next (split_mark o children.least) old cur long here.0 mark_is t.marked);
      apart = rw w.is.onward (written_apart k n l p children.next (split_mark o children.least) old cur long here.0 mark_is (omega (arith, t.onward)) t.apart);
    })
      where
        is : (i : Kind) → for_kind o i ≡ f i s
        is = own_losses v lost

        long : n ≤ length cur
        long = omega (arith, t.long, v.beside)

        here : (p < n) × (get_or l (width * p) 0 ≡ key_of k.number s)
        here = there v

        mark_is : split_mark o children.least ≡ mark_of k.symbols k.depth f (get_or l (width * p) 0)
        mark_is = mark_there v (suc (c.left - 1)) (split_mark o children.least) (omega (arith, back, q.left_is)) (choosing.split_mark_lem k.symbols f s o is (c.left - 1) children less some)
