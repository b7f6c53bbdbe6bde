-- Ways to keep a promise: a call that follows its table does. Assumes nothing.
use Prim.Native.Nat.{ℕ}
use native.Mathlib.Omega.{arith}
use mathlib.Core.Path.{◌≡◌, refl, sym}
use mathlib.Core.Bool.{true, false}
use mathlib.Core.List.{List}
use lib.ListN.{length, drop}
use Rattle.numbers.proofs.Tests.{not_both}
use Rattle.replay.specs.Table.{Outcome, refused, answered}
use Rattle.replay.specs.Machine.{Call, verdict, move, shift, settle}
use Rattle.store.specs.Layout.{store_size, room}
use Rattle.store.specs.Sound.{soundb}
use Rattle.store.specs.Meaning.{meaning}
use Rattle.rules.specs.Rules.{Answer, rules}
use Rattle.calls.specs.Promises.{Moves, Asks}

module _ (before : List ℕ) (c : Call rules) where
  pub asks_unsound : soundb before ≡ false → Asks before c (refused 1)
  asks_unsound f = record { unsound = λ e. refl; answers = λ e. absurd (not_both (soundb before) e f) }

  pub asks_answered : (o : Outcome Answer) → soundb before ≡ true → verdict rules (meaning before) c ≡ o → Asks before c o
  asks_answered o s v = record { unsound = λ f. absurd (not_both (soundb before) s f); answers = λ e. sym v }

  -- a refusal, as a question gets it, moves nothing
  pub moves_stopped : (n : ℕ) → Asks before c (refused n) → Moves before c (refused n) before
  unfolding move settle
  moves_stopped n a = record {
    unsound = a.unsound;
    answers = a.answers;
    moves = λ e. rw (sym (a.answers e));
    stays_sound = λ e. e;
    refused_stays = λ m e. refl;
    past_stays = refl;
    length_stays = refl;
  }

  pub moves_unsound : soundb before ≡ false → Moves before c (refused 1) before
  moves_unsound f = moves_stopped 1 (asks_unsound f)

  -- refused by the table
  pub moves_refused : (n : ℕ) → soundb before ≡ true → verdict rules (meaning before) c ≡ refused n → Moves before c (refused n) before
  moves_refused n s v = moves_stopped n (asks_answered (refused n) s v)

  -- accepted by the table
  pub moves_done : (a : Answer) (after : List ℕ) → soundb before ≡ true → verdict rules (meaning before) c ≡ answered a → soundb after ≡ true
      → meaning after ≡ shift rules (meaning before) c → drop (store_size (room before)) after ≡ drop (store_size (room before)) before → length after ≡ length before
      → Moves before c (answered a) after
  unfolding move settle
  moves_done a after s v t m p l = record {
    unsound = λ f. absurd (not_both (soundb before) s f);
    answers = λ e. sym v;
    moves = λ e. rw v m;
    stays_sound = λ e. t;
    refused_stays = λ n e. let z : ◌≡◌ {A = ℕ} 0 1 = cc in absurd (omega arith);
    past_stays = p;
    length_stays = l;
  }
