-- The writing of the rows at a context and below it. Assumes nothing.
use Prim.Native.Nat.{ℕ, zero, suc, ◌+◌, ◌-◌, ◌≤◌}
use mathlib.Core.Path.{◌≡◌, refl, sym, ap, ap₂, subst, ◌∙◌}
use mathlib.Core.Bool.{Bool, true, false, cond}
use mathlib.Core.List.{List, ◌++◌}
use native.Mathlib.Omega.{arith}
use lib.ListN.{length, get_or, length-append}
use lib.Dec.{T}
use Rattle.numbers.specs.Limits.{most_counted}
use Rattle.numbers.proofs.Tests.{of_true}
use Rattle.contexts.specs.Keys.{key_of, desk_of}
use Rattle.contexts.specs.Sitting.{first, second, Sitting, table, row_in, sum_of}
use Rattle.contexts.proofs.KeyOrder.{desk_of_key, context_of_key}
use Rattle.estimate.specs.Recursion.{Losses, losses}
use Rattle.estimate.specs.declared.ByKind.{ByKind}
use Rattle.rows.specs.Members.{gather}
use Rattle.rows.specs.Walk.{older}
use Rattle.records.specs.Records.{records, keys, lookup}
use Rattle.records.specs.Held.{rank, held, count_table}
use Rattle.weighing.specs.declared.Desk.{Desk}
use Rattle.listing.specs.declared.Plan.{Plan}
use Rattle.listing.specs.declared.Spot.{Spot}
use Rattle.listing.specs.declared.Step.{Step}
use Rattle.listing.specs.declared.Way.{Way}
use Rattle.weighing.specs.Sitting.{sitting_in}
use Rattle.weighing.specs.Trees.{mark_at, mark_of}
use Rattle.listing.specs.Plans.{wanted, goes_on, plan_of, here_of}
use Rattle.weighing.specs.Visit.{leaf_mark}
use Rattle.listing.specs.Writing.{sheet_for, WroteAt, numbers_here, kept_mark, kept_plan, CanWrite, Roomy, WroteNumbers}
use Rattle.weighing.proofs.Cursor.{within}
use Rattle.weighing.proofs.Flat.{mark_flat}
use Rattle.weighing.proofs.Counts.{table_under, table_small, absent_flat, absent_losses}
use Rattle.weighing.proofs.Choosing as choosing
use Rattle.weighing.proofs.Visiting.{held_there}
use Rattle.listing.proofs.Planning.{wanted_split, wanted_leaf, wanted_stop, goes_deeper}
use Rattle.listing.proofs.Sheets.{written_append, sheet_append, here_numbers}

module _ {k : Desk} {costs : ByKind} {n : ℕ} {l kept : List ℕ} {top : ℕ} {s : List ℕ} {c : Spot} {to : ℕ} (q : CanWrite k costs n l kept top s c to) where
  abbrev x : Sitting
  x = sitting_in k (records n l)

  abbrev f : Losses
  f = losses x

  -- the plan at s, and the members that it has
  abbrev pub plan : Plan
  plan = plan_of c.way (mark_at k.symbols c.left f s)

  -- ---- the decision at s is what stands beside its record, or that of a leaf

  mark_held : T (held (key_of k.number s) (records n l)) → get_or kept (rank (key_of k.number s) (keys (records n l))) 0 ≡ mark_at k.symbols c.left f s
  mark_held on =
      let w = within k n l q.weighable s q.context in
      let h = held_there (key_of k.number s) n (rank (key_of k.number s) (keys (records n l))) l q.weighable.standing.rising refl on in
      let e : k.depth - length s ≡ c.left = omega (arith, q.left_is) in
      q.decided.is (rank (key_of k.number s) (keys (records n l))) h.0 (ap desk_of h.1 ∙ desk_of_key k.number s w)
      ∙ ap (mark_of k.symbols k.depth f) h.1
      ∙ rw (context_of_key k.number s w, e)

  mark_absent : held (key_of k.number s) (records n l) ≡ false → leaf_mark costs ≡ mark_at k.symbols c.left f s
  mark_absent off =
      choosing.leaf_mark_lem k.symbols f s costs (absent_losses k n l q.weighable costs q.priced s off)
      ∙ sym (mark_flat k.symbols f s q.weighable.some (absent_flat k n l q.weighable costs q.priced s off) c.left)

  mark_is : kept_mark n l kept costs c.key ≡ mark_at k.symbols c.left f s
  mark_is = rw q.key_is (go (held (key_of k.number s) (records n l)) refl)
    where
      go : (b : Bool) → held (key_of k.number s) (records n l) ≡ b
          → cond b (get_or kept (rank (key_of k.number s) (keys (records n l))) 0) (leaf_mark costs) ≡ mark_at k.symbols c.left f s
      go true e = mark_held (of_true (held (key_of k.number s) (records n l)) e)
      go false e = mark_absent e

  plan_is : kept_plan n l kept costs c ≡ plan
  plan_is = ap (plan_of c.way) mark_is

  -- ---- the rows at s itself

  table_is : count_table (lookup c.key (records n l)) ≡ table x s
  table_is = ap (λ (z : ℕ). count_table (lookup z (records n l))) q.key_is ∙ table_under k n l q.weighable s q.context

  pub len_is : k.depth - c.left ≡ length s
  len_is = omega (arith, q.left_is)

  numbers_are : numbers_here (kept_plan n l kept costs c) (k.depth - c.left) c.code (count_table (lookup c.key (records n l))) ≡ sheet_for x (here_of plan s)
  numbers_are =
      ap (λ (p : Plan). numbers_here p (k.depth - c.left) c.code (count_table (lookup c.key (records n l)))) plan_is
      ∙ ap (λ (t : List (List ℕ)). numbers_here plan (k.depth - c.left) c.code t) table_is
      ∙ ap₂ (λ (u v : ℕ). numbers_here plan u v (table x s)) len_is q.code_is
      ∙ here_numbers x s plan

  -- they are a part of all that is wanted
  here_first : (d : ℕ) → length (sheet_for x (here_of (plan_of c.way (mark_at k.symbols d f s)) s)) ≤ length (sheet_for x (wanted k.symbols d f c.way s))
  here_first zero = rw (wanted_leaf k.symbols f s c.way).0 (omega arith)
  here_first (suc d) =
      rw (wanted_split k.symbols f s d c.way, sheet_append x (here_of (plan_of c.way (mark_at k.symbols (suc d) f s)) s) (gather k.symbols (λ a. wanted k.symbols d f (plan_of c.way (mark_at k.symbols (suc d) f s)).next (older s a))))
      (omega (arith, length-append (sheet_for x (here_of (plan_of c.way (mark_at k.symbols (suc d) f s)) s)) (sheet_for x (gather k.symbols (λ a. wanted k.symbols d f (plan_of c.way (mark_at k.symbols (suc d) f s)).next (older s a))))))

  pub here_room : to + length (sheet_for x (here_of plan s)) ≤ top
  here_room = omega (arith, here_first c.left, q.room)

  pub can_here :
      Roomy top to (length (numbers_here (kept_plan n l kept costs c) (k.depth - c.left) c.code (count_table (lookup c.key (records n l))))) (count_table (lookup c.key (records n l)))
  can_here = record {
    room = rw numbers_are here_room;
    counted = subst (λ (t : List (List ℕ)). sum_of (row_in t first) + sum_of (row_in t second) ≤ most_counted) (sym table_is) (table_small k n l q.weighable s);
  }

  -- ---- what their writing gives

  module _ {before after : List ℕ} {r : Step} (g : WroteNumbers n l kept costs before after c (k.depth - c.left) to r) where
    pub next_is : r.way ≡ plan.next
    next_is = g.way_is ∙ ap (λ (p : Plan). p.next) plan_is

    pub wrote_here : WroteAt before after to (sheet_for x (here_of plan s)) r.to
    wrote_here = subst (λ (rows : List ℕ). WroteAt before after to rows r.to) numbers_are g.written

    -- nothing is wanted of the children
    pub stopped : goes_on r.way ≡ false → WroteAt before after to (sheet_for x (wanted k.symbols c.left f c.way s)) r.to
    stopped e =
        subst (λ (rows : List ℕ). WroteAt before after to rows r.to)
        (ap (sheet_for x) (sym (wanted_stop k.symbols f s c.left c.way (ap goes_on (sym next_is) ∙ e)))) wrote_here

    -- something is
    module _ (e : goes_on r.way ≡ true) where
      pub symbols_left : c.left ≡ 0 → ⊥
      symbols_left = goes_deeper k.symbols f s c.left c.way (ap goes_on (sym next_is) ∙ e)

      -- the rows of all children, in order
      abbrev pub child_rows : List ℕ
      child_rows = sheet_for x (gather k.symbols (λ a. wanted k.symbols (c.left - 1) f r.way (older s a)))

      all_rows : sheet_for x (wanted k.symbols c.left f c.way s) ≡ sheet_for x (here_of plan s) ++ child_rows
      all_rows = go c.left refl
        where
          go : (d : ℕ) → c.left ≡ d → sheet_for x (wanted k.symbols c.left f c.way s) ≡ sheet_for x (here_of plan s) ++ child_rows
          go zero z = absurd (symbols_left z)
          go (suc d) z =
              let h : c.left - 1 ≡ d = omega arith in
              ap (λ (m : ℕ). sheet_for x (wanted k.symbols m f c.way s)) z
              ∙ ap (sheet_for x) (wanted_split k.symbols f s d c.way)
              ∙ sheet_append x (here_of (plan_of c.way (mark_at k.symbols (suc d) f s)) s) _
              ∙ ap (λ (m : ℕ). sheet_for x (here_of (plan_of c.way (mark_at k.symbols m f s)) s) ++ sheet_for x (gather k.symbols (λ a. wanted k.symbols d f (plan_of c.way (mark_at k.symbols m f s)).next (older s a)))) (sym z)
              ∙ ap₂ (λ (m : ℕ) (w : Way). sheet_for x (here_of plan s) ++ sheet_for x (gather k.symbols (λ a. wanted k.symbols m f w (older s a)))) (sym h) (sym next_is)

      pub child_room : r.to + length child_rows ≤ top
      child_room = omega (arith, q.room, ap length all_rows, length-append (sheet_for x (here_of plan s)) child_rows, wrote_here.past_is)

      pub finished : length before ≡ top → {cur : List ℕ} {past : ℕ} → WroteAt after cur r.to child_rows past
          → WroteAt before cur to (sheet_for x (wanted k.symbols c.left f c.way s)) past
      finished long {cur} {past} h =
          subst (λ (rows : List ℕ). WroteAt before cur to rows past) (sym all_rows)
          (written_append before after cur to r.to past (sheet_for x (here_of plan s)) child_rows (omega (arith, here_room)) wrote_here h)
