-- A whole sheet: the rows from the empty context of a desk on are its report. Assumes nothing.
use Prim.Native.Nat.{ℕ, ◌*◌}
use mathlib.Core.Path.{◌≡◌, refl, ap, subst, ◌∙◌}
use mathlib.Core.Bool.{true, false}
use mathlib.Core.List.{List, [], ◌++◌}
use native.Mathlib.Omega.{arith}
use native.Mathlib.Nat.{zero-add}
use lib.ListN.{length, drop}
use Rattle.contexts.specs.Context.{is_context, code_of}
use Rattle.contexts.specs.Keys.{desk_span}
use Rattle.estimate.specs.Recursion.{losses}
use Rattle.estimate.specs.Table.{CostsOf}
use Rattle.estimate.specs.declared.ByKind.{ByKind}
use Rattle.rows.specs.Rows.{sheet_of, report_of}
use Rattle.rows.proofs.Walking.{walk_all}
use Rattle.records.specs.Records.{records}
use Rattle.weighing.specs.declared.Desk.{Desk}
use Rattle.listing.specs.declared.Spot.{Spot}
use Rattle.weighing.specs.Sitting.{sitting_in, Weighable}
use Rattle.listing.specs.Plans.{wanted}
use Rattle.listing.specs.Writing.{sheet_for, WroteAt, rows_from, CanWrite, CanReadMarks, CanReport, Listed}
use Rattle.contexts.specs.Sitting.{first, second}
use Rattle.estimate.specs.Trees.{own}
use Rattle.weighing.specs.Weighs.{Decided}
use Rattle.weighing.proofs.Counts.{costs_small}
use Rattle.weighing.proofs.Whole.{root_key}

module _ (k : Desk) (n : ℕ) (l : List ℕ) (w : Weighable k n l) where
  abbrev pub root_spot : Spot
  root_spot = record { key = k.number * desk_span; span = desk_span; left = k.depth; code = 0; power = 1; way = record { joint = true; first = false; second = false } }

  root_rows : rows_from k n l [] root_spot ≡ sheet_of (report_of (sitting_in k (records n l)))
  unfolding wanted
  root_rows = ap (sheet_for (sitting_in k (records n l))) (walk_all k.symbols k.depth (losses (sitting_in k (records n l))))

  pub root_can : (kept sheet : List ℕ) → CanReport k n l kept sheet → (costs : ByKind) → CostsOf k.weight k.symbols k.n k.m costs → CanWrite k costs n l kept (length sheet) [] root_spot 0
  unfolding is_context code_of
  root_can kept sheet q costs priced = record {
    weighable = w;
    priced = priced;
    decided = q.decided;
    context = tt;
    key_is = root_key k;
    span_is = refl;
    left_is = omega arith;
    code_is = refl;
    power_is = refl;
    room = omega (arith, q.room, ap length root_rows);
  }

  pub root_readable : (kept : List ℕ) → Decided k n l kept → (costs : ByKind) → CostsOf k.weight k.symbols k.n k.m costs → CanReadMarks n kept costs
  root_readable kept q costs priced =
      let small = costs_small k n l w costs priced in
      record { beside = q.beside; small = record { first = omega (arith, small (own first)); second = omega (arith, small (own second)) } }

  pub reported : (before after : List ℕ) (past : ℕ) → WroteAt before after 0 (rows_from k n l [] root_spot) past → Listed k n l before after
  reported before after past g = record { sheet = subst (λ (rows : List ℕ). after ≡ rows ++ drop (length rows) before) root_rows (g.sheet ∙ rw zero-add) }
