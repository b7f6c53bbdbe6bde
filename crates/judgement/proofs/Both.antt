-- The desk opens, and the file's two samples are its strings: all of them where they fit the reservation, else 10. Assumes nothing.
use Prim.Native.Nat.{ℕ, ◌≤◌}
use native.Mathlib.Nat.{lt_of_lt_of_le}
use native.Mathlib.Omega.{arith}
use mathlib.Core.Path.{◌≡◌, refl, ap, subst, fun_ext, ◌∙◌}
use mathlib.Core.List.{List, [], reverse_aux}
use borrow.Author.Tests.{le-ltb}
use Rattle.numbers.specs.Sum.{sum}
use Rattle.contexts.specs.Sitting.{Sample, first, second, contexts_held}
use Rattle.replay.specs.Room.{Opening, new, left, reserved}
use Rattle.replay.specs.Table.{answered, verdict_of}
use Rattle.replay.specs.Machine.{opening, at_desk, verdict, move, shift, settle, put, moved, table_of, table_at, opening_table, outside_limits, weight_outside, zero_or_above_k, above_room_left, answer_of, answer_at}
use Rattle.rules.specs.Rules.{done, rules}
use Rattle.rules.specs.Strings.{sitting_for}
use Rattle.rules.proofs.TrueCounts.{stands_fresh}
use Rattle.calls.specs.Run.{FeedRun, fed_run}
use Rattle.sitting_file.specs.Samples.{InLimits, Holds, first_of, second_of}
use Rattle.sitting_file.specs.declared.Shape.{Shape}
use Rattle.judgement.specs.Judgement.{room_made, opening_of, strings_in}
use Rattle.judgement.specs.Sitting.{seated, followed_by, fed_both, run_of}
use Rattle.judgement.proofs.Growing.{held_none, pushed, held_pushed, pushed_is}
use Rattle.judgement.proofs.Feeds.{Sits, Ran, whole, stopped, run_told}

-- ---- the opening
module _ (shape : Shape) (l : InLimits shape) where
  abbrev o : Opening
  o = opening_of shape

  abbrev w₀ : Sample → List ℕ
  w₀ i = []

  pub opens : verdict rules (new room_made) (at_desk 0 (opening o)) ≡ answered done
  unfolding verdict verdict_of table_of table_at opening_table outside_limits weight_outside zero_or_above_k above_room_left left reserved sum answer_of answer_at
  opens = rw (le-ltb shape.alphabet 2 l.alphabet_low, le-ltb 8 shape.alphabet l.alphabet_high, le-ltb 6 shape.depth l.depth_high)

  pub seated_sits : Sits o w₀ (seated shape)
  unfolding seated move settle shift put moved
  seated_sits = record { progress = rules.fresh o; at_desk_holds = rw opens; stands = stands_fresh o }

-- ---- the strings
module _ (file : List ℕ) (shape : Shape) where
  abbrev us : List ℕ
  us = first_of file shape

  abbrev vs : List ℕ
  vs = second_of file shape

  abbrev w₁ : Sample → List ℕ
  w₁ = pushed first us (λ i. [])

  -- both samples' symbols, each pushed in its order, are the file's strings
  strings_pushed : pushed second vs w₁ ≡ strings_in file shape
  unfolding strings_in
  strings_pushed = fun_ext same
    where
      same : (j : Sample) → pushed second vs w₁ j ≡ strings_in file shape j
      same first = pushed_is second first vs w₁ ∙ pushed_is first first us (λ i. [])
      same second = pushed_is second second vs w₁ ∙ ap (λ (t : List ℕ). reverse_aux vs t) (pushed_is first second us (λ i. []))

  -- ---- the two runs
  module _ (h : Holds file shape) where
    abbrev one : FeedRun
    one = fed_run 0 0 us (seated shape)

    abbrev two : FeedRun
    two = fed_run 0 1 vs one.room

    one_told : Ran (opening_of shape) w₁ one
    one_told =
        run_told (opening_of shape) 0 refl us (λ i. []) (seated shape) (seated_sits shape h.limits) (omega (arith, held_none (opening_of shape))) h.first_below
        (omega (arith, h.first_count, h.limits.first_high))

    two_told : Sits (opening_of shape) w₁ one.room → contexts_held (sitting_for (opening_of shape) w₁) ≤ room_made → Ran (opening_of shape) (pushed second vs w₁) two
    two_told s fits =
        run_told (opening_of shape) 1 refl vs w₁ one.room s fits h.second_below
        (rw (pushed_is first second us (λ i. [])) (omega (arith, h.second_count, h.limits.second_high)))

    both_told : Ran (opening_of shape) w₁ one → Ran (opening_of shape) (pushed second vs w₁) (fed_both us vs (seated shape))
    unfolding fed_both followed_by
    both_told (whole fits e s) = rw e (two_told s fits)
    both_told (stopped past e) = rw e (stopped (lt_of_lt_of_le past (held_pushed (opening_of shape) second vs w₁)) refl)

    -- THEOREM. The file's strings are the desk's, or the feeds stopped at 10 and the strings hold more than 256 contexts
    pub file_told : Ran (opening_of shape) (strings_in file shape) (run_of file shape)
    file_told = subst (λ (w : Sample → List ℕ). Ran (opening_of shape) w (run_of file shape)) strings_pushed (both_told one_told)
