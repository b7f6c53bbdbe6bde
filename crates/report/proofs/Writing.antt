-- The rows of a weighed desk go on the sheet from a row place on. Assumes nothing.
use Prim.Native.Nat.{ℕ, ◌+◌, ◌-◌, ◌*◌, ◌/◌, ◌≤◌}
use native.Mathlib.Omega.{arith}
use mathlib.Core.Path.{◌≡◌, sym, ap, subst, ◌∙◌}
use mathlib.Core.List.{List, ◌++◌}
use lib.ListN.{length, take, drop, length-drop}
use Rattle.estimate.specs.Recursion.{estimate_of}
use Rattle.numbers.specs.Limits.{row_width}
use Rattle.rows.specs.Rows.{Row, report_of, sheet_of}
use Rattle.rows.proofs.Written.{AllFit, rows_fit}
use Rattle.records.specs.Records.{records}
use Rattle.records.proofs.Lent.{tail_back}
use Rattle.store.specs.Layout.{header_size, used, records_in}
use Rattle.store.specs.Meaning.{sitting_at}
use Rattle.weighing.specs.Sitting.{sitting_in, Weighable}
use Rattle.weighing.specs.Weighs.{Decided}
use Rattle.listing.specs.Writing.{CanReport, Listed}
use Rattle.weighing.specs.declared.Desk.{Desk}
use Rattle.calls.specs.Promises.{with_rows}
use Rattle.report.specs.Desk.{CanReportOn, DecidedDesk}
use Rattle.report.proofs.Standing.{fits, sitting_is, weighable}
use Rattle.calls.proofs.Reporting.{sheet_length, rows_from_lem}

module _ (s : List ℕ) (k : Desk) (c : CanReportOn s k) where
  pub all_fit : AllFit (report_of (sitting_at s k.number))
  all_fit =
      let f = fits s k.number c.sound c.at_open in
      rows_fit (sitting_at s k.number) (estimate_of (sitting_at s k.number)) f.alphabet_most f.depth_most

  -- the rows that are written are those of the desk's sitting
  rows_are : report_of (sitting_in k (records (used s) (drop header_size s))) ≡ report_of (sitting_at s k.number)
  unfolding records_in
  rows_are =
      ap (λ (x : Desk). report_of (sitting_in x (records (used s) (drop header_size s)))) c.is_desk
      ∙ ap report_of (sitting_is s k.number c.sound c.at_open)

  module _ (place : ℕ) (sheet : List ℕ) (room : place + length (report_of (sitting_at s k.number)) ≤ length sheet / row_width) where
    pub from_row : row_width * place ≤ length sheet
    from_row = omega arith

    pub can_write : (kept : List ℕ) → DecidedDesk s k.number kept → CanReport k (used s) (drop header_size s) kept (drop (row_width * place) sheet)
    can_write kept d = record {
      weighable = subst (λ (x : Desk). Weighable x (used s) (drop header_size s)) (sym c.is_desk) (weighable s k.number c.sound c.at_open);
      decided = subst (λ (x : Desk). Decided x (used s) (drop header_size s) kept) (sym c.is_desk) d;
      room = rw (rows_are, length-drop (row_width * place) sheet) (omega (arith, sheet_length (report_of (sitting_at s k.number)) all_fit));
    }

    pub has_written : (part after : List ℕ) → Listed k (used s) (drop header_size s) (drop (row_width * place) sheet) part
        → after ≡ take (row_width * place) sheet ++ (part ++ drop (length sheet - row_width * place) (drop (row_width * place) sheet))
        → after ≡ with_rows place (report_of (sitting_at s k.number)) sheet
    has_written part after w e =
        rows_from_lem place (report_of (sitting_at s k.number)) sheet after all_fit from_row
        (e ∙ tail_back (row_width * place) part sheet
        ∙ ap (λ (z : List ℕ). take (row_width * place) sheet ++ z) (w.sheet ∙ ap (λ (rs : List Row). sheet_of rs ++ drop (length (sheet_of rs)) (drop (row_width * place) sheet)) rows_are))
