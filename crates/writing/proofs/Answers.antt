-- What a writing answers by the table, and that what the code leaves then keeps the promise. Assumes nothing.
use Prim.Native.Nat.{ℕ, ◌≤◌, ◌<◌}
use native.Mathlib.Nat.{zero-add}
use mathlib.Core.Path.{◌≡◌, refl, sym, ap, ◌∙◌}
use mathlib.Core.Bool.{not}
use mathlib.Core.List.{List, ◌++◌}
use lib.Dec.{T}
use lib.ListN.{length, drop}
use borrow.Author.Tests.{lt-ltb, le-ltb, not-false}
use Rattle.numbers.proofs.Tests.{is_true, is_false, of_true}
use Rattle.replay.specs.Table.{refused, answered, verdict_of}
use Rattle.replay.proofs.Tables.{no_refusal, answer_same, none_answers, answers_none}
use Rattle.placing.specs.Placing.{Puts}
use Rattle.writing.specs.Writing.{file_of, good_values, writing_lines, WritesFile}
use Rattle.writing.proofs.Good.{Good, good, good_values_lem}

-- ---- the table

module _ (A D : ℕ) (xs ys : List ℕ) (room : ℕ) where
  -- good values and room enough: the file's length
  pub good_answers : Good A D xs ys → length (file_of A D xs ys) ≤ room → verdict_of (writing_lines A D xs ys room) (length (file_of A D xs ys)) ≡ answered (length (file_of A D xs ys))
  good_answers h r =
      none_answers (writing_lines A D xs ys room) (length (file_of A D xs ys))
      (ap not (is_true (good_values A D xs ys) (good_values_lem A D xs ys h)), (le-ltb room (length (file_of A D xs ys)) r, tt))

  pub good_short : Good A D xs ys → room < length (file_of A D xs ys) → verdict_of (writing_lines A D xs ys room) (length (file_of A D xs ys)) ≡ refused 19
  unfolding verdict_of
  good_short h r = rw (is_true (good_values A D xs ys) (good_values_lem A D xs ys h), lt-ltb room (length (file_of A D xs ys)) r)

  pub bad_refused : (T (good_values A D xs ys) → ⊥) → verdict_of (writing_lines A D xs ys room) (length (file_of A D xs ys)) ≡ refused 15
  unfolding verdict_of
  bad_refused f = rw (is_false (good_values A D xs ys) f)

-- an accepted writing is of good values, and answers the file's length
pub accepted : (A D : ℕ) (xs ys before after : List ℕ) (n : ℕ) → WritesFile A D xs ys before (answered n) after → Good A D xs ys × (length (file_of A D xs ys) ≡ n)
accepted A D xs ys before after n w =
    let k = answers_none (writing_lines A D xs ys (length before)) (length (file_of A D xs ys)) n (sym w.answers) in
    (good A D xs ys (of_true (good_values A D xs ys) (not-false (good_values A D xs ys) k.0.0)), k.1)

-- ---- what is left

module _ (A D : ℕ) (xs ys before : List ℕ) where
  -- a refused writing that left the bytes
  left_alone : (n : ℕ) → verdict_of (writing_lines A D xs ys (length before)) (length (file_of A D xs ys)) ≡ refused n → WritesFile A D xs ys before (refused n) before
  left_alone n e = record { answers = sym e; file_written = λ m f. no_refusal f refl; refused_stays = λ m f. refl }

  pub bad_stays : (T (good_values A D xs ys) → ⊥) → WritesFile A D xs ys before (refused 15) before
  bad_stays f = left_alone 15 (bad_refused A D xs ys (length before) f)

  pub short_stays : Good A D xs ys → length before < length (file_of A D xs ys) → WritesFile A D xs ys before (refused 19) before
  short_stays h r = left_alone 19 (good_short A D xs ys (length before) h r)

  -- an accepted one that put the file at the start
  pub file_put : Good A D xs ys → length (file_of A D xs ys) ≤ length before → (after : List ℕ) (size : ℕ) → Puts (file_of A D xs ys) 0 before after size → WritesFile A D xs ys before (answered size) after
  file_put h r after size put =
      let long : size ≡ length (file_of A D xs ys) = put.next ∙ zero-add (length (file_of A D xs ys)) in
      record {
        answers = ap answered long ∙ sym (good_answers A D xs ys (length before) h r);
        file_written = λ n e. put.bytes ∙ ap (λ (k : ℕ). file_of A D xs ys ++ drop k before) (sym put.next ∙ answer_same e);
        refused_stays = λ n e. no_refusal refl e;
      }
