-- A chart question keeps its promise, one law for each way through the code. Assumes nothing.
use Prim.Native.Nat.{ℕ, ◌≤◌, ◌<◌}
use native.Mathlib.Omega.{arith}
use mathlib.Core.Path.{◌≡◌, sym, ap, ◌∙◌, subst}
use mathlib.Core.Bool.{true, cond}
use mathlib.Core.List.{List}
use borrow.Author.Tests.{lt-ltb, le-ltb, le-leb, lt-leb}
use Rattle.numbers.specs.Limits.{desks}
use Rattle.numbers.proofs.Tests.{left, of_true}
use Rattle.contexts.specs.Context.{is_context, decoded}
use Rattle.contexts.specs.Keys.{key_of}
use Rattle.contexts.proofs.Strings.{context_more}
use Rattle.records.specs.Records.{lookup}
use Rattle.records.specs.Held as held
use Rattle.chart.specs.declared.Chart.{Chart}
use Rattle.chart.specs.Answer.{chart_in, chart_of}
use Rattle.replay.specs.Table.{refused, answered, verdict_of}
use Rattle.replay.specs.Machine.{at_desk, asking, verdict, table_of, table_at, asking_table, own_lines, answer_at}
use Rattle.replay.specs.Machine as machine
use Rattle.store.specs.Layout.{symbols_at, depth_at, records_in}
use Rattle.store.specs.Sound.{soundb}
use Rattle.store.specs.Plain.{Open, ContextAt}
use Rattle.store.specs.Meaning.{opening_at, progress_at, sitting_at, meaning}
use Rattle.store.proofs.Fitting.{desk_opened}
use Rattle.rules.specs.Question.{is_code, not_asked, charted}
use Rattle.rules.specs.Rules.{charting, point, lines_of, ask_answer, rules}
use Rattle.calls.specs.Promises.{Asks}
use Rattle.calls.proofs.Keeping.{asks_answered}
use Rattle.std.specs.Prelude.{Some, None}
use Rattle.charting.specs.Naming.{named}
use Rattle.charting.specs.Reading.{Readable}
use Rattle.charting.proofs.CodeWalk.{named_key, named_none}
use Rattle.charting.proofs.Joining.{chart_read, readable}

module _ (s : List ℕ) (e : soundb s ≡ true) (d : ℕ) where
  -- ---- a chart question at an open desk

  module _ (o : Open s d) (len code a : ℕ) where
    by_lines : verdict rules (meaning s) (at_desk d (asking (charting len code a)))
        ≡ cond (not_asked (opening_at s d) len code a) (refused 8) (answered (point (charted (opening_at s d) (progress_at s d) len code a)))
    unfolding verdict table_of table_at asking_table own_lines verdict_of machine.answer_of answer_at meaning lines_of ask_answer
    by_lines = rw (lt-leb desks d o.desk, desk_opened s d o)

    not_of_sitting_lem : not_asked (opening_at s d) len code a ≡ true → Asks s (at_desk d (asking (charting len code a))) (refused 8)
    not_of_sitting_lem t = asks_answered s _ (refused 8) e (by_lines ∙ rw t)

    pub asks_symbol : symbols_at s d ≤ a → Asks s (at_desk d (asking (charting len code a))) (refused 8)
    asks_symbol h = not_of_sitting_lem (rw (le-leb (symbols_at s d) a h))

    pub asks_length : a < symbols_at s d → depth_at s d < len → Asks s (at_desk d (asking (charting len code a))) (refused 8)
    asks_length l h = not_of_sitting_lem (rw (lt-leb (symbols_at s d) a l, lt-ltb (depth_at s d) len h))

-- ---- a question of which only the code is still to be read

pub record Asked (s : List ℕ) (d len a : ℕ) : Type 0 where
  pub sound : soundb s ≡ true
  pub at_open : Open s d
  pub symbol : a < symbols_at s d
  pub short : len ≤ depth_at s d

module _ (s : List ℕ) (d len code a : ℕ) (g : Asked s d len a) where
  pub asks_code : named (symbols_at s d) d len code ≡ None → Asks s (at_desk d (asking (charting len code a))) (refused 8)
  asks_code n =
      not_of_sitting_lem s g.sound d g.at_open len code a
      (rw (lt-leb (symbols_at s d) a g.symbol, le-ltb (depth_at s d) len g.short, named_none (symbols_at s d) d len code n))

  module _ (k : ℕ) (n : named (symbols_at s d) d len code ≡ Some k) where
    under : key_of d (decoded len code) ≡ k
    under = (named_key (symbols_at s d) d len code k n).1

    context : ContextAt s d (decoded len code)
    context =
        context_more (symbols_at s d) (symbols_at s d) len (depth_at s d) (decoded len code) (omega arith) g.short
        (left (is_context (symbols_at s d) len (decoded len code)) _ (of_true (is_code (symbols_at s d) len code) (named_key (symbols_at s d) d len code k n).0))

    pub key_readable : Readable s k a
    key_readable = subst (λ (m : ℕ). Readable s m a) under (readable s g.sound d g.at_open (decoded len code) context a g.symbol)

    pub asks_chart : (r : Chart) → r ≡ chart_in (held.count_table (lookup k (records_in s))) a → Asks s (at_desk d (asking (charting len code a))) (answered (point r))
    asks_chart r q =
        let same : r ≡ chart_of (sitting_at s d) (decoded len code) a =
        q ∙ ap (λ (m : ℕ). chart_in (held.count_table (lookup m (records_in s))) a) (sym under) ∙ chart_read s g.sound d g.at_open (decoded len code) context a g.symbol in
        asks_answered s _ (answered (point r)) g.sound
        (by_lines s g.sound d g.at_open len code a
        ∙ rw (lt-leb (symbols_at s d) a g.symbol, le-ltb (depth_at s d) len g.short, (named_key (symbols_at s d) d len code k n).0, same))
