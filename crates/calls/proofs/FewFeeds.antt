-- A run has at most 2,048 accepted feeds: each leaves its sample longer by one, and a full sample takes no more. Assumes nothing.
use Prim.Native.Nat.{ℕ, suc, ◌-◌, ◌≤◌, ◌<◌}
use mathlib.Core.Path.{◌≡◌, refl, sym, ap}
use mathlib.Core.Bool.{Bool, true, false}
use mathlib.Core.List.{List, [], ◌∷◌}
use native.Mathlib.Omega.{arith}
use Rattle.numbers.specs.Limits.{longest}
use Rattle.numbers.specs.Sum.{one}
use Rattle.contexts.specs.Sitting.{Progress, Sample, first, second, sample_of, same_sample}
use Rattle.replay.specs.Room.{Room, Desk, closed, opened}
use Rattle.replay.specs.Table.{Outcome, refused, answered, NoneApplies}
use Rattle.replay.specs.Machine.{asking, verdict, move, shift, settle, put, moved, table_of, table_at, asking_table, own_lines, answer_of}
use Rattle.replay.proofs.Tables.{answers_none}
use Rattle.rules.specs.Rules.{Answer, feed, rules, lines_of, next_of}
use Rattle.rules.specs.Feed.{after_feed}
use Rattle.calls.specs.Run.{feeding, fed_run, Runs}
use Rattle.calls.specs.Run as run
use Rattle.store.specs.Sound.{soundb}
use Rattle.store.specs.Meaning.{meaning}
use borrow.Author.Tests.{eq-eqb, leb-false}
use native.Mathlib.Numerals.{add-one}

-- how long sample k at a desk is
unfoldable size_at : ℕ → Desk Progress → ℕ
size_at k closed = 0
size_at k (opened o p) = p.size (sample_of k)

same : (i : Sample) → same_sample i i ≡ true
same first = refl
same second = refl

module _ (d k a : ℕ) (ρ : Room Progress) where
  -- at an open desk whose table lets the feed pass
  not_full : (D : Desk Progress) → NoneApplies (asking_table rules d D (feed k a)) → size_at k D < longest
  unfolding size_at asking_table own_lines lines_of
  not_full closed h = let z : ◌≡◌ {A = ℕ} 0 1 = ap one (sym h.1.0) in absurd (omega arith)
  not_full (opened o p) h = leb-false longest (p.size (sample_of k)) h.1.1.1.0

  longer : (D : Desk Progress) → NoneApplies (asking_table rules d D (feed k a)) → size_at k (moved rules D (asking (feed k a))) ≡ suc (size_at k D)
  unfolding size_at asking_table own_lines lines_of moved next_of after_feed
  longer closed h = let z : ◌≡◌ {A = ℕ} 0 1 = ap one (sym h.1.0) in absurd (omega arith)
  longer (opened o p) h = rw (same (sample_of k)) (add-one (p.size (sample_of k)))

  -- an accepted feed
  passes : (x : Answer) → verdict rules ρ (feeding d k a) ≡ answered x → NoneApplies (asking_table rules d (ρ.at d) (feed k a))
  unfolding verdict table_of table_at
  passes x e = (answers_none (asking_table rules d (ρ.at d) (feed k a)) (answer_of rules ρ (feeding d k a)) x e).0

  grown : (x : Answer) → verdict rules ρ (feeding d k a) ≡ answered x → size_at k ((move rules ρ (feeding d k a)).at d) ≡ suc (size_at k (ρ.at d))
  unfolding move shift settle put
  grown x e = rw (e, eq-eqb d d refl) (longer (ρ.at d) (passes x e))

-- what is left of the sample bounds the run
run_short : (d k : ℕ) (symbols : List ℕ) (ρ : Room Progress) → (fed_run d k symbols ρ).accepted ≤ longest - size_at k (ρ.at d)
unfolding fed_run run.then_rest
run_short d k [] ρ = omega arith
run_short d k (a ∷ rest) ρ = go (verdict rules ρ (feeding d k a)) refl (run_short d k rest (move rules ρ (feeding d k a)))
  where
    go : (o : Outcome Answer) → verdict rules ρ (feeding d k a) ≡ o
        → (fed_run d k rest (move rules ρ (feeding d k a))).accepted ≤ longest - size_at k ((move rules ρ (feeding d k a)).at d)
        → (run.then_rest o ρ (fed_run d k rest (move rules ρ (feeding d k a)))).accepted ≤ longest - size_at k (ρ.at d)
    go (refused n) e h = omega arith
    go (answered x) e h = omega (arith, h, grown d k a ρ x e, not_full d k a ρ (ρ.at d) (passes d k a ρ x e))

-- a run at a store, sound or not
pub run_few : (s : List ℕ) (d k : ℕ) (symbols : List ℕ) (n : ℕ) (o : Outcome Answer) (t : List ℕ) → Runs s d k symbols n o t → n ≤ longest
run_few s d k symbols n o t r = go (soundb s) refl
  where
    go : (b : Bool) → soundb s ≡ b → n ≤ longest
    go true e = omega (arith, r.accepts e, run_short d k symbols (meaning s))
    go false e = omega (arith, (r.unsound e).0)
