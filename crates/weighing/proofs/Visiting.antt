-- A visit to one context: what stands for one that is not held, and what one that is held gives at depth D. Assumes nothing.
use Prim.Native.Nat.{ℕ, ◌+◌, ◌-◌, ◌*◌, ◌≤◌, ◌<◌}
use mathlib.Core.Path.{◌≡◌, sym, ap, subst, subst₂, ◌∙◌}
use mathlib.Core.Bool.{true, false}
use mathlib.Core.List.{List}
use native.Mathlib.Omega.{arith}
use lib.ListN.{length, get_or}
use lib.Dec.{T, eqb, eqb→eq}
use Rattle.numbers.specs.Limits.{most_counted}
use Rattle.numbers.proofs.Tests.{T?, of_true}
use Rattle.numbers.proofs.Orders.{Order, less, same, more, order, eq→eqb}
use Rattle.contexts.specs.Keys.{key_of, context_of}
use Rattle.contexts.proofs.KeyOrder.{context_of_key}
use Rattle.contexts.specs.Sitting.{first, second, table, row_in, sum_of}
use Rattle.estimate.specs.Trees.{Kind, shared, own, from}
use Rattle.estimate.specs.Recursion.{Losses, losses}
use Rattle.estimate.specs.Table.{for_kind, LossesOf}
use Rattle.estimate.specs.declared.ByKind.{ByKind}
use Rattle.estimate.proofs.Unseen.{Flat}
use Rattle.records.specs.Records.{width, records, keys}
use Rattle.records.specs.Held.{rank, held, record_at, count_table, Rising, Placed}
use Rattle.records.proofs.Rising.{rank_within}
use Rattle.records.proofs.Ranked.{held_lost}
use Rattle.weighing.specs.declared.Desk.{Desk}
use Rattle.weighing.specs.declared.Context.{Context}
use Rattle.weighing.specs.declared.Weighed.{Weighed}
use Rattle.weighing.specs.Sitting.{sitting_in}
use Rattle.weighing.specs.Trees.{mark_at, mark_of}
use Rattle.weighing.specs.Visit.{Arrived, CanVisit, Visited, Countable, Small, LeafOf, LeafHere, leaf_mark}
use Rattle.weighing.proofs.Cursor.{rank_own, within, past_absent, past_deepest}
use Rattle.weighing.proofs.Counts.{table_here, table_small, costs_small, losses_here, small_here, absent_flat, absent_losses}
use Rattle.weighing.proofs.Choosing as choosing
use Rattle.weighing.proofs.Marks.{written_mark, written_apart, apart_none}

-- a key that is held stands at its place
pub held_there : (key n p : ℕ) (l : List ℕ) → Rising (records n l) → p ≡ rank key (keys (records n l)) → T (held key (records n l)) → (p < n) × (get_or l (width * p) 0 ≡ key)
held_there key n p l up at h = go (order p n)
  where
    lost : (p < n → get_or l (width * p) 0 ≡ key → ⊥) → ⊥
    lost f = subst T (held_lost key n p l up at f) h

    here : p < n → Dec (T (eqb (get_or l (width * p) 0) key)) → (p < n) × (get_or l (width * p) 0 ≡ key)
    here lt (yes e) = (lt, eqb→eq _ key e)
    here lt (no f) = absurd (lost (λ _ e. f (eq→eqb _ key e)))

    go : Order p n → (p < n) × (get_or l (width * p) 0 ≡ key)
    go (less lt) = here lt (T? (eqb (get_or l (width * p) 0) key))
    go (same e) = absurd (lost (λ lt _. omega arith))
    go (more e) = absurd (lost (λ lt _. omega arith))

module _ {k : Desk} {costs : ByKind} {n : ℕ} {l s : List ℕ} {c : Context} {p : ℕ} (q : Arrived k costs n l s c p) where
  abbrev f : Losses
  f = losses (sitting_in k (records n l))

  -- the walk has come to its place
  pub stands : Placed c.key n p l
  stands = record { at = at_key; within = omega (arith, rank_within n l c.key, at_key) }
    where
      at_key : p ≡ rank c.key (keys (records n l))
      at_key = rw q.key_is q.place

  -- the decision at s is that of its key
  mark_here : (d : ℕ) → length s + d ≡ k.depth → mark_of k.symbols k.depth f (key_of k.number s) ≡ mark_at k.symbols d f s
  mark_here d h = let e : k.depth - length s ≡ d = omega arith in rw (context_of_key k.number s (within k n l q.weighable s q.context), e)

  -- ---- a context that is not held
  pub answer_absent : held c.key (records n l) ≡ false → (old : List ℕ) {r : Weighed} → LeafOf costs p r → Visited k n l s c.left p old old r
  answer_absent absent old {r} g = record {
    least = choosing.absent_least k.symbols f s costs bare p r g q.weighable.some unseen c.left;
    rows = choosing.absent_members k.symbols f s costs bare p r g q.weighable.some unseen c.left;
    past = g.onward ∙ q.place ∙ past_absent k n l q.weighable s q.context off;
    marked = record { is = λ j lo hi. absurd (omega (arith, g.onward)) };
    apart = apart_none p r.next old;
  }
    where
      off : held (key_of k.number s) (records n l) ≡ false
      off = subst (λ (z : ℕ). held z (records n l) ≡ false) q.key_is absent

      bare : (t : Kind) → for_kind costs t ≡ f t s
      bare = absent_losses k n l q.weighable costs q.priced s off

      unseen : (t : Kind) → Flat (from s f t)
      unseen = absent_flat k n l q.weighable costs q.priced s off

  pub bare_small : Small costs
  bare_small =
      let small = costs_small k n l q.weighable costs q.priced in
      record { first = omega (arith, small (own first)); second = omega (arith, small (own second)) }

-- ---- a context that is held

module _ {k : Desk} {costs : ByKind} {n : ℕ} {l old : List ℕ} {c : Context} {p : ℕ} (v : CanVisit k costs n l old c p) where
  abbrev s : List ℕ
  s = context_of c.key

  abbrev q : Arrived k costs n l s c p
  q = v.ready

  on : T (held (key_of k.number s) (records n l))
  on = of_true (held (key_of k.number s) (records n l)) (subst (λ (z : ℕ). held z (records n l) ≡ true) q.key_is v.on)

  pub there : (p < n) × (get_or l (width * p) 0 ≡ key_of k.number s)
  there = held_there (key_of k.number s) n p l q.weighable.standing.rising q.place on

  table_is : count_table (record_at p l) ≡ table (sitting_in k (records n l)) s
  table_is = table_here k n l q.weighable s q.context p there.0 there.1

  pub countable : Countable l p costs
  countable =
      let small = costs_small k n l q.weighable costs q.priced in
      record {
        fits = omega (arith, there.0, q.weighable.standing.fits);
        counted = subst (λ (z : List (List ℕ)). sum_of (row_in z first) + sum_of (row_in z second) ≤ most_counted) (sym table_is) (table_small k n l q.weighable s);
        shared_cost = small shared;
        first_cost = small (own first);
        second_cost = small (own second);
      }

  pub own_losses : {o : ByKind} → LossesOf (count_table (record_at p l)) costs o → (t : Kind) → for_kind o t ≡ f q t s
  own_losses {o} g = losses_here k n l q.weighable costs q.priced s o (subst (λ (z : List (List ℕ)). LossesOf z costs o) table_is g)

  pub own_small : {o : ByKind} → LossesOf (count_table (record_at p l)) costs o → Small o
  own_small {o} g = small_here k n l q.weighable costs q.priced s o (own_losses g)

  pub kept_there : p < length old
  kept_there = omega (arith, there.0, v.beside)

  pub past_own : p + 1 ≡ rank (key_of k.number s + 1) (keys (records n l))
  past_own = ap (λ (z : ℕ). z + 1) q.place ∙ sym (rank_own (key_of k.number s) 0 (records n l) q.weighable.standing.rising on)

  pub mark_there : (d m : ℕ) → length s + d ≡ k.depth → m ≡ mark_at k.symbols d (f q) s → m ≡ mark_of k.symbols k.depth (f q) (get_or l (width * p) 0)
  mark_there d m h e = e ∙ sym (mark_here q d h) ∙ ap (mark_of k.symbols k.depth (f q)) (sym there.1)

  -- with no symbol left
  pub answer_leaf : {o : ByKind} → LossesOf (count_table (record_at p l)) costs o → c.left ≡ 0 → {new : List ℕ} {r : Weighed} → LeafHere o p old new r → Visited k n l s c.left p old new r
  answer_leaf {o} lost z {new} {r} w = subst₂ (λ (d : ℕ) (after : List ℕ). Visited k n l s d p old after r) (sym z) (sym w.mark) (record {
    least = choosing.leaf_least k.symbols (f q) s o is (p + 1) r w.is;
    rows = choosing.leaf_members k.symbols (f q) s o is (p + 1) r w.is;
    past = w.is.onward ∙ past_own ∙ past_deepest k n l q.weighable s q.context (omega (arith, q.left_is));
    marked = written_mark k n l p r.next (leaf_mark o) old old v.beside there.0 mark (record { is = λ j lo hi. absurd (omega (arith, w.is.onward)) });
    apart = written_apart k n l p r.next (leaf_mark o) old old v.beside there.0 mark (omega (arith, w.is.onward)) (apart_none (p + 1) r.next old);
  })
    where
      is : (t : Kind) → for_kind o t ≡ f q t s
      is = own_losses lost

      mark : leaf_mark o ≡ mark_of k.symbols k.depth (f q) (get_or l (width * p) 0)
      mark = mark_there 0 (leaf_mark o) (omega (arith, q.left_is)) (choosing.leaf_mark_lem k.symbols (f q) s o is)
