-- Refusal 10 or the feed, counted or not, as the code has them. Assumes nothing.
use mathlib.Core.Path.{◌≡◌, sym, ap, ap₂, ◌∙◌}
use mathlib.Core.Bool.{Bool, true, false}
use mathlib.Core.List.{List}
use Prim.Native.Nat.{ℕ, ◌+◌, ◌-◌, ◌≤◌}
use native.Mathlib.Omega.{arith}
use borrow.Author.Tests.{ltb-true, ltb-false}
use lib.Dec.{ltb}
use lib.ListN.{length, drop}
use Rattle.numbers.specs.Sum.{sum}
use Rattle.contexts.specs.Sitting.{sample_of}
use Rattle.records.specs.Fed.{Askable}
use Rattle.records.specs.Located.{Located}
use Rattle.recording.proofs.Running.{missing_is}
use Rattle.replay.specs.Table.{refused, answered}
use Rattle.replay.specs.Machine.{asking, at_desk}
use Rattle.store.specs.Layout.{header_size, used, reserve_at, records_in}
use Rattle.store.specs.Sound.{soundb, held_by}
use Rattle.store.proofs.Standing.{sound_stands}
use Rattle.rules.specs.Rules.{feed, done}
use Rattle.calls.specs.Promises.{Moves}
use Rattle.calls.proofs.Keeping.{moves_refused}
use Rattle.changes.specs.FedStore.{FedStore, Judged, Acceptable, recent_at, is_counted, missing_if}
use Rattle.entering.specs.Seeking.{Found}
use Rattle.changes.proofs.Before.{rising}
use Rattle.entering.proofs.Asking.{askable}
use Rattle.entering.proofs.Clearing.{clear_from}
use Rattle.changes.proofs.Judging.{past_reservation_lem}
use Rattle.changes.proofs.Feeding.{fed_moves}

module _ (s : List ℕ) (d k a : ℕ) (j : Judged s d k a) where
  -- what is held then
  abbrev then : ℕ
  then = held_by d (records_in s) + missing_if (is_counted s d (sample_of k)) d (recent_at s d (sample_of k)) (records_in s)

  acceptable : then ≤ reserve_at s d → Acceptable s d (sample_of k) a
  acceptable within = record { sound = j.sound; at_open = j.at_open; of_alphabet_holds = j.of_alphabet_holds; not_full = j.not_full; reserved = within }

  -- ---- a place that is not counted: nothing more is held

  module _ (uncounted : is_counted s d (sample_of k) ≡ false) where
    stays : then ≤ reserve_at s d
    unfolding sum
    stays = rw uncounted (omega (arith, (sound_stands s j.sound).reserved_held d j.at_open))

    pub header_asks : Acceptable s d (sample_of k) a × (is_counted s d (sample_of k) ≡ false)
    header_asks = (acceptable stays, uncounted)

    pub header_kept : (t : List ℕ) → FedStore s t d (sample_of k) a → Moves s (at_desk d (asking (feed k a))) (answered done) t
    header_kept t g = fed_moves s t d k a j.of_samples (acceptable stays) g

  -- ---- the recent symbols of a feed that is counted

  module _ (r : List ℕ) (is-recent : r ≡ recent_at s d (sample_of k)) (counted : is_counted s d (sample_of k) ≡ true) where
    pub then_asks : (soundb s ≡ true) × Askable d r (used s) (drop header_size s)
    then_asks = (j.sound, rw is-recent (askable s j.sound d j.at_open (sample_of k)))

    module _ (m : ℕ) (places : List ℕ) (at : Located d r (records_in s) m places) where
      pub found : Found s d r m places
      found = record { sound = j.sound; at_open = j.at_open; context = then_asks.1.context; located = at }

      module _ (past : Bool) (e : past ≡ ltb (reserve_at s d) (held_by d (records_in s) + (length r + 1 - m))) where
        more_is : missing_if (is_counted s d (sample_of k)) d (recent_at s d (sample_of k)) (records_in s) ≡ length r + 1 - m
        more_is =
            ap₂ (λ (t : Bool) (q : List ℕ). missing_if t d q (records_in s)) counted (sym is-recent)
            ∙ missing_is d r then_asks.1.context (records_in s) (rising s j.sound) m places at
            (clear_from s j.sound d j.at_open (sample_of k) r is-recent m places at)

        past_is : past ≡ ltb (reserve_at s d) then
        past_is = e ∙ ap (λ (x : ℕ). ltb (reserve_at s d) (held_by d (records_in s) + x)) (sym more_is)

        pub refused_past : past ≡ true → Moves s (at_desk d (asking (feed k a))) (refused 10) s
        refused_past l =
            moves_refused s (at_desk d (asking (feed k a))) 10 j.sound
            (past_reservation_lem s d k a j.at_open j.of_samples j.of_alphabet_holds j.not_full j.sound (ltb-true (reserve_at s d) then (sym past_is ∙ l)))

        module _ (l : past ≡ false) where
          within : then ≤ reserve_at s d
          within = ltb-false (reserve_at s d) then (sym past_is ∙ l)

          pub write_asks : Acceptable s d (sample_of k) a × (r ≡ recent_at s d (sample_of k)) × Located d r (records_in s) m places × (is_counted s d (sample_of k) ≡ true)
          write_asks = (acceptable within, is-recent, at, counted)

          pub fed_kept : (t : List ℕ) → FedStore s t d (sample_of k) a → Moves s (at_desk d (asking (feed k a))) (answered done) t
          fed_kept t g = fed_moves s t d k a j.of_samples (acceptable within) g
