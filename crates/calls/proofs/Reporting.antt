-- What the table says of a report, for each way through the function, and how the sheet keeps the promise. Assumes nothing.
use Prim.Native.Nat.{ℕ, ◌+◌, ◌*◌, ◌/◌, ◌≤◌, ◌<◌}
use native.Mathlib.Omega.{arith}
use mathlib.Core.Path.{◌≡◌, refl, ap, subst, ◌∙◌}
use mathlib.Core.Bool.{true, false, cond}
use mathlib.Core.List.{List, [], ◌∷◌, ◌++◌}
use lib.ListN.{length, take, drop, length-append}
use lib.Seq.{drop_at, drop-drop, length-take-le}
use borrow.Author.Tests.{eq-eqb, ne_eqb, lt-ltb, le-ltb, le-leb, lt-leb}
use Rattle.numbers.specs.Limits.{desks, row_width}
use Rattle.contexts.specs.Sitting.{first, second, Progress, sat}
use Rattle.rows.specs.Rows.{Row, numbers_of, report_of, sheet_of, read_rows}
use Rattle.rows.proofs.Written.{AllFit, read_all}
use Rattle.replay.specs.Room.{Opening, closed, opened, Room}
use Rattle.replay.specs.Table.{refused, answered, verdict_of}
use Rattle.replay.specs.Machine.{asking, Call, at_desk, own_lines, asking_table, table_at, table_of, answer_at, answer_of, verdict}
use Rattle.store.specs.Sound.{soundb}
use Rattle.store.specs.Meaning.{meaning}
use Rattle.rules.specs.Report.{Reported, report, does_not_fit}
use Rattle.rules.specs.Rules as sitting
use Rattle.rules.specs.Rules.{reporting, reported, rules}
use Rattle.rules.proofs.Short.{too_short_lem, long_enough}
use Rattle.calls.specs.Promises.{Asks, with_rows, Reports}
use Rattle.calls.proofs.Keeping.{asks_unsound, asks_answered}

-- ---- the table's verdict

abbrev asked : ℕ → ℕ → ℕ → Call rules
asked d sheet place = at_desk d (asking (reporting sheet place))

module _ (ρ : Room Progress) (d sheet place : ℕ) where
  pub no_such_desk_lem : desks ≤ d → verdict rules ρ (asked d sheet place) ≡ refused 2
  unfolding verdict verdict_of table_of table_at asking_table
  no_such_desk_lem l = rw (le-leb desks d l)

  pub not_open : d < desks → ρ.at d ≡ closed → verdict rules ρ (asked d sheet place) ≡ refused 4
  unfolding verdict verdict_of table_of table_at asking_table
  not_open l e = rw (lt-leb desks d l, e)

  module _ (o : Opening) (p : Progress) (l : d < desks) (e : ρ.at d ≡ opened o p) where
    pub first_empty : p.size first ≡ 0 → verdict rules ρ (asked d sheet place) ≡ refused 11
    unfolding verdict verdict_of table_of table_at asking_table own_lines sitting.lines_of
    first_empty z = rw (lt-leb desks d l, e, eq-eqb (p.size first) 0 z)

    pub second_empty : (p.size first ≡ 0 → ⊥) → p.size second ≡ 0 → verdict rules ρ (asked d sheet place) ≡ refused 11
    unfolding verdict verdict_of table_of table_at asking_table own_lines sitting.lines_of
    second_empty n z = rw (lt-leb desks d l, e, ne_eqb (p.size first) 0 n, eq-eqb (p.size second) 0 z)

    pub first_short : 0 < p.size first → 0 < p.size second → p.size first ≤ o.depth → verdict rules ρ (asked d sheet place) ≡ refused 24
    unfolding verdict verdict_of table_of table_at asking_table own_lines sitting.lines_of
    first_short n m h = rw (lt-leb desks d l, e, ne_eqb (p.size first) 0 (λ z. omega arith), ne_eqb (p.size second) 0 (λ z. omega arith), too_short_lem o (p.size first) n h)

    module _ (n : o.depth < p.size first) where
      pub second_short : 0 < p.size second → p.size second ≤ o.depth → verdict rules ρ (asked d sheet place) ≡ refused 24
      unfolding verdict verdict_of table_of table_at asking_table own_lines sitting.lines_of
      second_short m h =
          rw (lt-leb desks d l, e, ne_eqb (p.size first) 0 (λ z. omega arith), ne_eqb (p.size second) 0 (λ z. omega arith), long_enough o (p.size first) n, too_short_lem o (p.size second) m h)

      module _ (m : o.depth < p.size second) where
        -- both samples are long enough: what is left is the sheet
        by_sheet : verdict rules ρ (asked d sheet place) ≡ cond (does_not_fit sheet place (sat o.symbols o.depth o.weight p)) (refused 12) (answered (reported (report (sat o.symbols o.depth o.weight p))))
        unfolding verdict verdict_of table_of table_at asking_table own_lines answer_of answer_at sitting.lines_of sitting.ask_answer
        by_sheet =
            rw (lt-leb desks d l, e, ne_eqb (p.size first) 0 (λ z. omega arith), ne_eqb (p.size second) 0 (λ z. omega arith), long_enough o (p.size first) n, long_enough o (p.size second) m)

        pub sheet_short : sheet / row_width < place + length (report_of (sat o.symbols o.depth o.weight p)) → verdict rules ρ (asked d sheet place) ≡ refused 12
        sheet_short h = by_sheet ∙ rw (lt-ltb (sheet / row_width) (place + length (report_of (sat o.symbols o.depth o.weight p))) h)

        pub rows_told : place + length (report_of (sat o.symbols o.depth o.weight p)) ≤ sheet / row_width
            → verdict rules ρ (asked d sheet place) ≡ answered (reported (report (sat o.symbols o.depth o.weight p)))
        rows_told h = by_sheet ∙ rw (le-ltb (sheet / row_width) (place + length (report_of (sat o.symbols o.depth o.weight p))) h)

-- ---- the promise

module _ (s : List ℕ) (d place : ℕ) (before : List ℕ) where
  refused_keeps : (n : ℕ) → Asks s (asked d (length before) place) (refused n) → Reports s d place (refused n) before before
  refused_keeps n a = record {
    asks = a;
    written = λ x e. let z : ◌≡◌ {A = ℕ} 0 1 = cc in absurd (omega arith);
    refused_stays = λ m e. refl;
  }

  pub reports_unsound : soundb s ≡ false → Reports s d place (refused 1) before before
  reports_unsound f = refused_keeps 1 (asks_unsound s (asked d (length before) place) f)

  pub reports_refused : (n : ℕ) → soundb s ≡ true → verdict rules (meaning s) (asked d (length before) place) ≡ refused n → Reports s d place (refused n) before before
  reports_refused n e v = refused_keeps n (asks_answered s (asked d (length before) place) (refused n) e v)

  pub reports_rows : (x : Reported) (after : List ℕ) → soundb s ≡ true → verdict rules (meaning s) (asked d (length before) place) ≡ answered (reported x)
      → after ≡ with_rows place x.rows before → Reports s d place (answered (reported x)) before after
  reports_rows x after e v w = record {
    asks = asks_answered s (asked d (length before) place) (answered (reported x)) e v;
    written = λ y f. let q : x ≡ y = cc in subst (λ (u : Reported). after ≡ with_rows place u.rows before) q w;
    refused_stays = λ n f. let z : ◌≡◌ {A = ℕ} 0 1 = cc in absurd (omega arith);
  }

-- ---- the sheet

pub sheet_length : (rs : List Row) → AllFit rs → length (sheet_of rs) ≡ row_width * length rs
unfolding sheet_of
sheet_length [] f = refl
sheet_length (r ∷ rs) f = let e = f.0.counts in omega (arith, length-append (numbers_of r) (sheet_of rs), sheet_length rs f.1)

module _ (place : ℕ) (rs : List Row) (l after : List ℕ) (f : AllFit rs) (fits : row_width * place ≤ length l) where
  -- rows written at the beginning of the part from row `place` on are rows written from there on
  pub rows_from_lem : after ≡ take (row_width * place) l ++ (sheet_of rs ++ drop (length (sheet_of rs)) (drop (row_width * place) l)) → after ≡ with_rows place rs l
  rows_from_lem e =
      let n : row_width * place + length (sheet_of rs) ≡ row_width * (place + length rs) = omega (arith, sheet_length rs f) in
      e ∙ ap (λ (z : List ℕ). take (row_width * place) l ++ (sheet_of rs ++ z)) (drop-drop (length (sheet_of rs)) (row_width * place) l ∙ ap (λ (k : ℕ). drop k l) n)

  -- and they read back
  pub rows_back : after ≡ with_rows place rs l → read_rows (length rs) (drop (row_width * place) after) ≡ rs
  rows_back e =
      ap (λ (z : List ℕ). read_rows (length rs) (drop (row_width * place) z)) e
      ∙ ap (read_rows (length rs)) (drop_at (take (row_width * place) l) (sheet_of rs ++ drop (row_width * (place + length rs)) l) (row_width * place) (length-take-le (row_width * place) l fits))
      ∙ read_all rs (drop (row_width * (place + length rs)) l) f
