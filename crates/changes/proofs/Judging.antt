-- What the table says of a feed at a sound store, one way through it after the other. Assumes nothing.
use mathlib.Core.Path.{◌≡◌, ◌∙◌}
use mathlib.Core.Bool.{true, cond}
use mathlib.Core.List.{List}
use Prim.Native.Nat.{ℕ, ◌+◌, ◌≤◌, ◌<◌}
use borrow.Author.Tests.{lt-ltb, le-ltb, le-leb, lt-leb}
use lib.Dec.{ltb}
use Rattle.numbers.specs.Limits.{longest, desks}
use Rattle.contexts.specs.Sitting.{sample_of}
use Rattle.replay.specs.Table.{Outcome, refused, answered, verdict_of}
use Rattle.replay.specs.Machine.{Call, asking, at_desk, verdict, table_of, table_at, asking_table, own_lines, answer_at}
use Rattle.replay.specs.Machine as machine
use Rattle.store.specs.Layout.{symbols_at, reserve_at, size_at, records_in}
use Rattle.store.specs.Sound.{soundb, held_by}
use Rattle.store.specs.Plain.{Open}
use Rattle.store.specs.Meaning.{opening_at, progress_at, meaning}
use Rattle.store.proofs.Fitting.{desk_opened, desk_closed}
use Rattle.rules.specs.Feed as rule
use Rattle.rules.specs.Rules.{Answer, feed, done, lines_of, rules}
use Rattle.rules.specs.Rules as rules
use Rattle.changes.specs.FedStore.{recent_at, is_counted, missing_if}
use Rattle.changes.proofs.Reserving.{held_fed_contexts}

module _ (s : List ℕ) (d k a : ℕ) where
  abbrev call : Call rules
  call = at_desk d (asking (feed k a))

  abbrev said : Outcome Answer
  said = verdict rules (meaning s) call

  pub no_such_desk_lem : desks ≤ d → said ≡ refused 2
  unfolding verdict table_of table_at asking_table verdict_of
  no_such_desk_lem l = rw (le-leb desks d l)

  pub not_open : d < desks → (Open s d → ⊥) → said ≡ refused 4
  unfolding verdict table_of table_at asking_table verdict_of meaning
  not_open l n = rw (lt-leb desks d l, desk_closed s d n)

  module _ (o : Open s d) where
    -- what is left of the table at an open desk
    at_open : said ≡ cond (rule.not_of_sitting (opening_at s d) k a) (refused 8)
        (cond (rule.is_full (progress_at s d) k) (refused 9)
        (cond (rule.past_reservation (opening_at s d) (progress_at s d) k a) (refused 10) (answered done)))
    unfolding verdict table_of table_at asking_table own_lines verdict_of meaning lines_of machine.answer_of answer_at rules.ask_answer
    at_open = rw (lt-leb desks d o.desk, desk_opened s d o)

    pub no_sample : 1 < k → said ≡ refused 8
    no_sample l = at_open ∙ rw (lt-ltb 1 k l)

    module _ (one : k ≤ 1) where
      pub no_symbol : symbols_at s d ≤ a → said ≡ refused 8
      no_symbol l = at_open ∙ rw (le-ltb 1 k one, le-leb (symbols_at s d) a l)

      module _ (below : a < symbols_at s d) where
        pub sample_full : longest ≤ size_at s d (sample_of k) → said ≡ refused 9
        sample_full l = at_open ∙ rw (le-ltb 1 k one, lt-leb (symbols_at s d) a below, le-leb longest (size_at s d (sample_of k)) l)

        module _ (short : size_at s d (sample_of k) < longest) (h : soundb s ≡ true) where
          abbrev then : ℕ
          then = held_by d (records_in s) + missing_if (is_counted s d (sample_of k)) d (recent_at s d (sample_of k)) (records_in s)

          at_last : said ≡ cond (ltb (reserve_at s d) then) (refused 10) (answered done)
          at_last =
              at_open
              ∙ rw (
                le-ltb 1 k one,
                lt-leb (symbols_at s d) a below,
                lt-leb longest (size_at s d (sample_of k)) short,
                held_fed_contexts s h d o (sample_of k) a below,
              )

          pub past_reservation_lem : reserve_at s d < then → said ≡ refused 10
          past_reservation_lem l = at_last ∙ rw (lt-ltb (reserve_at s d) then l)

          pub accepted : then ≤ reserve_at s d → said ≡ answered done
          accepted l = at_last ∙ rw (le-ltb (reserve_at s d) then l)
