-- Each call has an outcome that its promise allows, whatever the numbers: so calls can be run, one after the other. Assumes nothing.
use Prim.Native.Nat.{ℕ}
use mathlib.Core.Path.{◌≡◌, refl}
use mathlib.Core.Bool.{Bool, true, false}
use mathlib.Core.List.{List, [], ◌∷◌}
use Rattle.replay.specs.Table.{Outcome, refused}
use Rattle.replay.specs.Machine.{opening, asking, closing, Call, at_desk, room_question, verdict}
use Rattle.store.specs.Sound.{soundb}
use Rattle.store.specs.Meaning.{meaning}
use Rattle.rules.specs.Rules.{Answer, feed, reporting, charting, rules}
use Rattle.calls.proofs.Keeping.{asks_unsound, asks_answered}
use Rattle.changes.proofs.Possible as move
use Rattle.demands.specs.Runs.{OnlyAsked, stop, then, CanDo, CanRun}
use Rattle.demands.specs.Replays.{EachCan}
use Rattle.demands.proofs.PossibleReport.{can_report}

-- ---- questions

only_asked : (σ : List ℕ) (c : Call rules) → (Asked : (o : Outcome Answer) → OnlyAsked σ c o σ → CanDo σ c) → CanDo σ c
only_asked σ c can = go (soundb σ) refl
  where
    go : (b : Bool) → soundb σ ≡ b → CanDo σ c
    go true e = can (verdict rules (meaning σ) c) (record { asks = asks_answered σ c (verdict rules (meaning σ) c) e refl; only_read = refl })
    go false e = can (refused 1) (record { asks = asks_unsound σ c e; only_read = refl })

-- ---- calls that change the room

possible : (σ : List ℕ) (c : Call rules) → (soundb σ ≡ true → move.Possible σ c) → move.Possible σ c
possible σ c f = go (soundb σ) refl
  where
    go : (b : Bool) → soundb σ ≡ b → move.Possible σ c
    go true e = f e
    go false e = move.unsound_possible σ c e

-- THEOREM. Each call, at any numbers, has an outcome that its promise allows
pub each_can : EachCan
each_can σ (at_desk d (opening o)) = let m = possible σ (at_desk d (opening o)) (λ e. move.opening_possible σ e d o) in record { outcome = m.outcome; after = m.after; does = m.moves; words = m.words }
each_can σ (at_desk d (asking (feed k a))) = let m = possible σ (at_desk d (asking (feed k a))) (λ e. move.feed_possible σ e d k a) in record { outcome = m.outcome; after = m.after; does = m.moves; words = m.words }
each_can σ (at_desk d (asking (reporting sheet place))) = can_report σ d sheet place
each_can σ (at_desk d (asking (charting len code a))) = only_asked σ (at_desk d (asking (charting len code a))) (λ o m. record { outcome = o; after = σ; does = m; words = λ w. w })
each_can σ (at_desk d closing) = let m = possible σ (at_desk d closing) (λ e. move.closing_possible σ e d) in record { outcome = m.outcome; after = m.after; does = m.moves; words = m.words }
each_can σ room_question = only_asked σ room_question (λ o m. record { outcome = o; after = σ; does = m; words = λ w. w })

-- .. and so can calls one after the other
pub can_run : (σ : List ℕ) (cs : List (Call rules)) → CanRun σ cs
can_run σ [] = record { outcomes = []; end = σ; run = stop; words = λ w. w }
can_run σ (c ∷ cs) =
    let one = each_can σ c in
    let rest = can_run one.after cs in
    record { outcomes = one.outcome ∷ rest.outcomes; end = rest.end; run = then one.does rest.run; words = λ w. rest.words (one.words w) }
