-- A report has an outcome that its promise allows, whatever the numbers: on a sheet of zeros, each way through the table. Assumes nothing.
use Prim.Native.Nat.{ℕ, ◌+◌, ◌*◌, ◌/◌, ◌≤◌, ◌<◌}
use native.Mathlib.Omega.{arith}
use native.Mathlib.Decide.{dec_le}
use mathlib.Core.Path.{◌≡◌, refl, sym, ap}
use mathlib.Core.Bool.{Bool, true, false}
use mathlib.Core.List.{List}
use lib.ListN.{length, replicate, drop, length-replicate}
use Rattle.numbers.specs.Limits.{desks, row_width}
use Rattle.contexts.specs.Sitting.{first, second, Sitting, Progress, sat}
use Rattle.estimate.specs.Recursion.{estimate_of}
use Rattle.rows.specs.Rows.{Row, report_of, read_rows}
use Rattle.rows.proofs.Written.{rows_fit}
use Rattle.replay.specs.Room.{Opening, Desk, closed, opened}
use Rattle.replay.specs.Table.{refused, answered}
use Rattle.replay.specs.Machine.{asking, at_desk, verdict}
use Rattle.store.specs.Sound.{soundb}
use Rattle.store.specs.Meaning.{meaning}
use Rattle.store.proofs.Fitting.{meaning_fits}
use Rattle.rules.specs.Report.{report}
use Rattle.rules.specs.Rules.{reporting, reported, rules}
use Rattle.calls.specs.Promises.{Reports, with_rows}
use Rattle.calls.specs.Refusals.{refusal_number}
use Rattle.calls.specs.declared.Refusal.{Refusal}
use Rattle.calls.specs.declared.Refusal.TheVariants.{Unsound, NoSuchDesk, NotOpen, SampleEmpty, SheetShort, SampleShort}
use Rattle.std.specs.Prelude.{Ok, Err}
use Rattle.calls.proofs.Reporting as table
use Rattle.demands.specs.Runs.{CanDo}

module _ (σ : List ℕ) (d sheet place : ℕ) where
  abbrev blank : List ℕ
  blank = replicate sheet 0

  long : length blank ≡ sheet
  long = length-replicate sheet 0

  told : (why : Refusal) → Reports σ d place (refused (refusal_number why)) blank blank → CanDo σ (at_desk d (asking (reporting sheet place)))
  told why r = record {
    outcome = refused (refusal_number why);
    after = σ;
    does = record { before = blank; after = blank; named = long; answer = Err why; read = refl; reports = r; only_read = refl };
    words = λ w. w;
  }

  module _ (h : soundb σ ≡ true) where
    refuses : (why : Refusal) → verdict rules (meaning σ) (at_desk d (asking (reporting (length blank) place))) ≡ refused (refusal_number why) → CanDo σ (at_desk d (asking (reporting sheet place)))
    refuses why v = told why (table.reports_refused σ d place blank (refusal_number why) h v)

    module _ (o : Opening) (p : Progress) (near : d < desks) (e : (meaning σ).at d ≡ opened o p) (n : o.depth < p.size first) (m : o.depth < p.size second) where
      abbrev x : Sitting
      x = sat o.symbols o.depth o.weight p

      rows : place + length (report_of x) ≤ length blank / row_width → CanDo σ (at_desk d (asking (reporting sheet place)))
      rows fits =
          let limits = (meaning_fits σ h).sittings d o p e in
          let fit = rows_fit x (estimate_of x) limits.alphabet_most limits.depth_most in
          let after = with_rows place (report_of x) blank in
          let back : read_rows (length (report_of x)) (drop (row_width * place) after) ≡ report_of x = table.rows_back place (report_of x) blank after fit (omega arith) refl in
          record {
            outcome = answered (reported (report x));
            after = σ;
            does = record {
              before = blank;
              after = after;
              named = long;
              answer = Ok (record { rows = length (report_of x); score = (report x).score });
              read = ap (λ (rs : List Row). answered (reported (record { rows = rs; score = (report x).score }))) (sym back);
              reports = table.reports_rows σ d place blank (report x) after h (table.rows_told (meaning σ) d (length blank) place o p near e n m fits) refl;
              only_read = refl;
            };
            words = λ w. w;
          }

      both_long : CanDo σ (at_desk d (asking (reporting sheet place)))
      both_long = elim (dec_le (place + length (report_of x)) (length blank / row_width)) [
        | yes fits ↦ rows fits
        | no far ↦ refuses SheetShort (table.sheet_short (meaning σ) d (length blank) place o p near e n m (omega arith))
      ]

    -- both samples have symbols
    fed : (o : Opening) (p : Progress) → d < desks → (meaning σ).at d ≡ opened o p → 0 < p.size first → 0 < p.size second → CanDo σ (at_desk d (asking (reporting sheet place)))
    fed o p near e some_IsFirst some_second = elim (dec_le (p.size first) o.depth) [
      | yes short ↦ refuses SampleShort (table.first_short (meaning σ) d (length blank) place o p near e some_IsFirst some_second short)
      | no one ↦ elim (dec_le (p.size second) o.depth) [
        | yes short ↦ refuses SampleShort (table.second_short (meaning σ) d (length blank) place o p near e (omega arith) some_second short)
        | no two ↦ both_long o p near e (omega arith) (omega arith)
      ]
    ]

    at_open : (o : Opening) (p : Progress) → d < desks → (meaning σ).at d ≡ opened o p → CanDo σ (at_desk d (asking (reporting sheet place)))
    at_open o p near e = elim (dec_le 1 (p.size first)) [
      | no z ↦ refuses SampleEmpty (table.first_empty (meaning σ) d (length blank) place o p near e (omega arith))
      | yes one ↦ elim (dec_le 1 (p.size second)) [
        | no z ↦ refuses SampleEmpty (table.second_empty (meaning σ) d (length blank) place o p near e (λ q. omega arith) (omega arith))
        | yes two ↦ fed o p near e one two
      ]
    ]

    at_desk_holds : d < desks → (D : Desk Progress) → (meaning σ).at d ≡ D → CanDo σ (at_desk d (asking (reporting sheet place)))
    at_desk_holds near closed e = refuses NotOpen (table.not_open (meaning σ) d (length blank) place near e)
    at_desk_holds near (opened o p) e = at_open o p near e

  pub can_report : CanDo σ (at_desk d (asking (reporting sheet place)))
  can_report = go (soundb σ) refl
    where
      go : (b : Bool) → soundb σ ≡ b → CanDo σ (at_desk d (asking (reporting sheet place)))
      go false e = told Unsound (table.reports_unsound σ d place blank e)
      go true e = elim (dec_le desks d) [
        | yes far ↦ refuses e NoSuchDesk (table.no_such_desk_lem (meaning σ) d (length blank) place far)
        | no near ↦ at_desk_holds e (omega arith) ((meaning σ).at d) refl
      ]
