-- THE FEEDS: at a desk with two strings, a run of symbols goes through exactly where the longer strings fit the reservation, and is refused with
-- 10 where they do not. Assumes nothing.
use Prim.Native.Nat.{ℕ, suc, ◌+◌, ◌≤◌, ◌<◌}
use native.Mathlib.Nat.{lt_of_lt_of_le}
use native.Mathlib.Omega.{arith}
use mathlib.Core.Path.{◌≡◌, refl, ap, ◌∙◌}
use mathlib.Core.Bool.{Bool, true, false, cond}
use mathlib.Core.List.{List, [], ◌∷◌}
use lib.ListN.{length}
use lib.Dec.{ltb}
use borrow.Author.Tests.{ltb-true, ltb-false, lt-ltb, le-ltb, lt-leb}
use Rattle.numbers.specs.Limits.{longest}
use Rattle.contexts.specs.Sitting.{Sample, first, second, sample_of, Progress, contexts_held}
use Rattle.replay.specs.Room.{Opening, opened, Room}
use Rattle.replay.specs.Table.{refused, answered, verdict_of}
use Rattle.replay.specs.Machine.{verdict, move, shift, settle, put, moved, table_of, table_at, asking_table, own_lines, answer_of, answer_at}
use Rattle.rules.specs.Rules.{done, rules, lines_of, next_of}
use Rattle.rules.specs.Rules as sitting
use Rattle.rules.specs.Feed.{after_feed, past_reservation}
use Rattle.rules.specs.Strings.{push, sitting_for, StandsFor}
use Rattle.rules.proofs.TrueCounts.{stands_fed}
use Rattle.rules.proofs.OwnReport.{many_same}
use Rattle.calls.specs.Run.{FeedRun, feeding, fed_run}
use Rattle.calls.specs.Run as run
use Rattle.sitting_file.specs.Samples.{Below}
use Rattle.judgement.proofs.Growing.{pushed, held_pushed}

-- desk 0 is open, and has what two strings make it
pub record Sits (o : Opening) (w : Sample → List ℕ) (ρ : Room Progress) : Type 0 where
  pub progress : Progress
  pub at_desk_holds : ρ.at 0 ≡ opened o progress
  pub stands : StandsFor o w progress

-- a run of symbols over such a desk
pub data Ran (o : Opening) (w : Sample → List ℕ) (r : FeedRun) : Type 0 where
  whole : contexts_held (sitting_for o w) ≤ o.reserve → r.ending ≡ answered done → Sits o w r.room → Ran o w r
  stopped : o.reserve < contexts_held (sitting_for o w) → r.ending ≡ refused 10 → Ran o w r

module _ (o : Opening) (k a : ℕ) (ρ : Room Progress) (p : Progress) (e : ρ.at 0 ≡ opened o p) (known : ltb 1 k ≡ false) (small : a < o.symbols) (short : p.size (sample_of k) < longest) where
  -- only refusal 10 is left
  feed_told : (b : Bool) → past_reservation o p k a ≡ b → verdict rules ρ (feeding 0 k a) ≡ cond b (refused 10) (answered done)
  unfolding verdict verdict_of table_of table_at asking_table own_lines lines_of answer_of answer_at sitting.ask_answer
  feed_told b f = rw (e, known, lt-leb o.symbols a small, lt-leb longest (p.size (sample_of k)) short, f)

  feed_moved : past_reservation o p k a ≡ false → (move rules ρ (feeding 0 k a)).at 0 ≡ opened o (after_feed o (sample_of k) a p)
  unfolding move settle shift put moved next_of
  feed_moved f = rw (feed_told false f, e)

-- one feed of a symbol below A to a sample that has room for it
module _ (o : Opening) (k a : ℕ) (w : Sample → List ℕ) (ρ : Room Progress) (s : Sits o w ρ) (known : ltb 1 k ≡ false) (small : a < o.symbols) (short : length (w (sample_of k)) < longest) where
  abbrev p : Progress
  p = s.progress

  room_for : p.size (sample_of k) < longest
  room_for = let e = s.stands.sizes (sample_of k) in omega arith

  held_then : past_reservation o p k a ≡ ltb o.reserve (contexts_held (sitting_for o (push (sample_of k) a w)))
  held_then = ap (ltb o.reserve) (many_same o (push (sample_of k) a w) (after_feed o (sample_of k) a p) (stands_fed o w p s.stands (sample_of k) a small))

  feed_past : o.reserve < contexts_held (sitting_for o (push (sample_of k) a w)) → verdict rules ρ (feeding 0 k a) ≡ refused 10
  feed_past h = feed_told o k a ρ p s.at_desk_holds known small room_for true (held_then ∙ lt-ltb _ _ h)

  feed_done : contexts_held (sitting_for o (push (sample_of k) a w)) ≤ o.reserve → verdict rules ρ (feeding 0 k a) ≡ answered done
  feed_done h = feed_told o k a ρ p s.at_desk_holds known small room_for false (held_then ∙ le-ltb _ _ h)

  feed_sits : contexts_held (sitting_for o (push (sample_of k) a w)) ≤ o.reserve → Sits o (push (sample_of k) a w) (move rules ρ (feeding 0 k a))
  feed_sits h = record {
    progress = after_feed o (sample_of k) a p;
    at_desk_holds = feed_moved o k a ρ p s.at_desk_holds known small room_for (held_then ∙ le-ltb _ _ h);
    stands = stands_fed o w p s.stands (sample_of k) a small;
  }

-- one more accepted feed before a run
one_before : (o : Opening) (w : Sample → List ℕ) (ρ : Room Progress) (r : FeedRun) → Ran o w r → Ran o w (run.then_rest (answered done) ρ r)
unfolding run.then_rest
one_before o w ρ r (whole h e s) = whole h e s
one_before o w ρ r (stopped h e) = stopped h e

stopped_here : (o : Opening) (w : Sample → List ℕ) (ρ : Room Progress) (r : FeedRun) → o.reserve < contexts_held (sitting_for o w) → Ran o w (run.then_rest (refused 10) ρ r)
unfolding run.then_rest
stopped_here o w ρ r h = stopped h refl

longer_by_one : (i : Sample) (a : ℕ) (w : Sample → List ℕ) → length (push i a w i) ≡ suc (length (w i))
longer_by_one first a w = refl
longer_by_one second a w = refl

-- a run of them
module _ (o : Opening) (k : ℕ) (known : ltb 1 k ≡ false) where
  pub run_told : (us : List ℕ) (w : Sample → List ℕ) (ρ : Room Progress) → Sits o w ρ → contexts_held (sitting_for o w) ≤ o.reserve → Below o.symbols us
      → length (w (sample_of k)) + length us ≤ longest → Ran o (pushed (sample_of k) us w) (fed_run 0 k us ρ)
  unfolding pushed fed_run
  run_told [] w ρ s h b l = whole h refl s
  run_told (a ∷ us) w ρ s h b l = go (ltb o.reserve held) refl (run_told us (push (sample_of k) a w) (move rules ρ (feeding 0 k a)))
    where
      i : Sample
      i = sample_of k

      held : ℕ
      held = contexts_held (sitting_for o (push i a w))

      small : a < o.symbols
      small = b 0 (omega arith)

      short : length (w i) < longest
      short = omega arith

      go : (t : Bool) → ltb o.reserve held ≡ t
          → (Sits o (push i a w) (move rules ρ (feeding 0 k a)) → held ≤ o.reserve → Below o.symbols us → length (push i a w i) + length us ≤ longest
          → Ran o (pushed i us (push i a w)) (fed_run 0 k us (move rules ρ (feeding 0 k a))))
          → Ran o (pushed i us (push i a w)) (run.then_rest (verdict rules ρ (feeding 0 k a)) ρ (fed_run 0 k us (move rules ρ (feeding 0 k a))))
      go true e rest =
          let past : o.reserve < held = ltb-true o.reserve held e in
          rw (feed_past o k a w ρ s known small short past) (stopped_here o (pushed i us (push i a w)) ρ _ (lt_of_lt_of_le past (held_pushed o i us (push i a w))))
      go false e rest =
          let fits : held ≤ o.reserve = ltb-false o.reserve held e in
          rw (feed_done o k a w ρ s known small short fits)
          (one_before o (pushed i us (push i a w)) ρ _ (rest (feed_sits o k a w ρ s known small short fits) fits (λ j g. b (suc j) (omega arith)) (omega (arith, longer_by_one i a w))))
