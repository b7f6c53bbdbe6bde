-- A whole weighing: the visit to the empty context of a desk. Assumes nothing.
use Prim.Native.Nat.{ℕ, ◌+◌, ◌*◌, ◌≤◌, ◌<◌}
use mathlib.Core.Path.{◌≡◌, refl, sym, ap, subst, subst₂, ◌∙◌}
use mathlib.Core.Logic.{◌≢◌}
use mathlib.Core.List.{List, []}
use native.Mathlib.Omega.{arith}
use lib.ListN.{length, get_or, length-map}
use Rattle.numbers.specs.Limits.{deepest}
use Rattle.numbers.proofs.Orders.{less, same, more, order}
use Rattle.contexts.specs.Context.{is_context}
use Rattle.contexts.specs.Keys.{desk_span, key_of, desk_of, context_of}
use Rattle.contexts.specs.Sitting.{first, second}
use Rattle.contexts.proofs.KeyOrder.{digits_nil, context_of_key}
use Rattle.estimate.specs.Trees.{shared, own}
use Rattle.estimate.specs.Recursion.{losses, estimate_of}
use Rattle.estimate.specs.Table.{CostsOf}
use Rattle.estimate.specs.declared.ByKind.{ByKind}
use Rattle.rows.specs.Members.{members}
use Rattle.rows.specs.Rows.{row_of}
use Rattle.rows.proofs.Walking.{walk_all}
use Rattle.records.specs.Records.{width, records, keys}
use Rattle.records.specs.Held.{rank}
use Rattle.records.proofs.Rising.{rank_length, length_keys, up_to_middle, above_middle}
use Rattle.weighing.specs.declared.Desk.{Desk}
use Rattle.weighing.specs.declared.Weighed.{Weighed}
use Rattle.weighing.specs.Sitting.{sitting_in, Weighable}
use Rattle.weighing.specs.Trees.{least_at, members_at}
use Rattle.weighing.specs.Visit.{end_of, Arrived, Visited}
use Rattle.weighing.specs.Weighs.{Decided, Weighs}

pub root_key : (k : Desk) → k.number * desk_span ≡ key_of k.number []
root_key k = let z = digits_nil deepest in omega arith

pub root_is : (k : Desk) → context_of (k.number * desk_span) ≡ []
unfolding is_context
root_is k = ap context_of (root_key k) ∙ context_of_key k.number [] tt

module _ {k : Desk} {n : ℕ} {l : List ℕ} (w : Weighable k n l) {p : ℕ} (at : p ≡ rank (k.number * desk_span) (keys (records n l))) where
  -- the walk begins at the empty context ..
  pub root_ready : {costs : ByKind} → CostsOf k.weight k.symbols k.n k.m costs → Arrived k costs n l (context_of (k.number * desk_span)) (record { key = k.number * desk_span; span = desk_span; left = k.depth }) p
  unfolding is_context
  root_ready {costs} priced = subst (λ (s : List ℕ). Arrived k costs n l s (record { key = k.number * desk_span; span = desk_span; left = k.depth }) p) (sym (root_is k)) (record {
    weighable = w;
    priced = priced;
    context = tt;
    key_is = root_key k;
    span_is = refl;
    left_is = omega arith;
    place = at ∙ ap (λ (z : ℕ). rank z (keys (records n l))) (root_key k);
  })

  -- .. and the records that it passes are those of the desk
  module _ {old new : List ℕ} {r : Weighed} (gave : Visited k n l (context_of (k.number * desk_span)) k.depth p old new r) (beside : n ≤ length new) where
    g : Visited k n l [] k.depth p old new r
    g = subst (λ (s : List ℕ). Visited k n l s k.depth p old new r) (root_is k) gave

    root_end : end_of k.number [] ≡ k.number * desk_span + desk_span
    root_end = let z = digits_nil deepest in omega arith

    next_is : r.next ≡ rank (k.number * desk_span + desk_span) (keys (records n l))
    next_is = g.past ∙ ap (λ (z : ℕ). rank z (keys (records n l))) root_end

    decided : Decided k n l new
    decided = record {
      beside = beside;
      is = λ j lt of. g.marked.is j
          (rw at (up_to_middle n j (k.number * desk_span) l lt (omega arith)))
          (rw next_is (above_middle n j (k.number * desk_span + desk_span) l lt w.standing.rising (omega arith)));
    }

    others : (j : ℕ) → (j < n → desk_of (get_or l (width * j) 0) ≢ k.number) → get_or new j 0 ≡ get_or old j 0
    others j off = elim (order j n) [
      | less lt ↦ elim (order (get_or l (width * j) 0) (k.number * desk_span)) [
        | less h ↦ g.apart.low j (rw at (above_middle n j (k.number * desk_span) l lt w.standing.rising h))
        | same e ↦ absurd (off lt (omega arith))
        | more h ↦ g.apart.high j (rw next_is (up_to_middle n j (k.number * desk_span + desk_span) l lt (let away = off lt in omega arith)))
      ]
      | same e ↦ g.apart.high j (past (omega arith))
      | more h ↦ g.apart.high j (past (omega arith))
    ]
      where
        past : n ≤ j → r.next ≤ j
        past h = omega (arith, next_is, rank_length (k.number * desk_span + desk_span) (keys (records n l)), length_keys n l)

    pub weighed : length new ≡ length old → {kept : List ℕ} {x : Weighed} → kept ≡ new → x ≡ r
        → Weighs k n l old kept (record { first = x.least.first; second = x.least.second; joint = x.least.shared; rows = x.rows.shared })
    unfolding least_at members_at
    weighed long e d = subst₂ (λ (kept : List ℕ) (x : Weighed). Weighs k n l old kept (record { first = x.least.first; second = x.least.second; joint = x.least.shared; rows = x.rows.shared })) (sym e) (sym d) (record {
      first_least = g.least (own first);
      second_least = g.least (own second);
      joint_least = g.least shared;
      rows_are =
          g.rows shared
          ∙ ap length (walk_all k.symbols k.depth (losses (sitting_in k (records n l))))
          ∙ sym (length-map (members k.symbols k.depth (estimate_of (sitting_in k (records n l)))) (row_of (sitting_in k (records n l))));
      decided = decided;
      others_stay = others;
      length_stays = long;
    })
