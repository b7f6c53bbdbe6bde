-- `writing::write` meets its contract: the values are judged, then the room, then the file is put. Assumes nothing.
use Rattle.std.proofs.Common.{ℕ, ◌≡◌, ◌+◌, true, List, sym, ◌∙◌, arith, length}
use Rattle.numbers.proofs.Tests.{of_true, not_both, is_true}
use Rattle.sitting_file.specs.Verdict.{shortest}
use Rattle.writing.specs.Writing.{file_of, good_values}
use Rattle.writing.proofs.Good.{Good, good}
use Rattle.writing.proofs.Sizes.{file_long}
use Rattle.writing.proofs.Answers.{bad_stays, short_stays, file_put}
use Rattle.writing.proofs.write.Goals as goal

-- past the test of the values
module _ (A D : ℕ) (xs ys : List ℕ) (e : true ≡ good_values A D xs ys) where
  values : Good A D xs ys
  values = good A D xs ys (of_true _ (sym e))

  -- what `file_size` answers is the file's length
  size : (n : ℕ) → n ≡ 2 + (length (shortest (length xs)) + length (shortest (length ys))) + (length xs + length ys) → n ≡ length (file_of A D xs ys)
  size n h = h ∙ sym (file_long A D xs ys values)

pub returns-then-not-good_values : goal.returns-then-not-good_values
returns-then-not-good_values c =
    let s = c.args in
    bad_stays s.alphabet s.depth s.first.now s.second.now s.file.now (λ t. not_both _ (is_true _ t) (sym c.if-not-good_values.ensures))

pub overflow_cast-shape : goal.overflow_cast-shape
overflow_cast-shape c =
    let s = c.args in
    record { fits = omega (arith, (values s.alphabet s.depth s.first.now s.second.now c.if-not-good_values.ensures).limits.first_high) }

pub overflow_cast-shape-2 : goal.overflow_cast-shape-2
overflow_cast-shape-2 c =
    let s = c.args in
    record { fits = omega (arith, (values s.alphabet s.depth s.first.now s.second.now c.if-not-good_values.ensures).limits.second_high) }

pub invariant_of-sitting : goal.invariant_of-sitting
invariant_of-sitting c =
    let s = c.args in
    let good = values s.alphabet s.depth s.first.now s.second.now c.if-not-good_values.ensures in
    record { in_limits = good.limits; first_below = good.first_below; second_below = good.second_below }

pub returns-then-file-file_size : goal.returns-then-file-file_size
returns-then-file-file_size c =
    let s = c.args in
    short_stays s.alphabet s.depth s.first.now s.second.now s.file.now (values s.alphabet s.depth s.first.now s.second.now c.if-not-good_values.ensures)
    (omega (arith, size s.alphabet s.depth s.first.now s.second.now c.if-not-good_values.ensures _ c.file_size.ensures))

pub put_file-size-requires : goal.put_file-size-requires
put_file-size-requires c =
    let s = c.args in
    omega (arith, size s.alphabet s.depth s.first.now s.second.now c.if-not-good_values.ensures _ c.file_size.ensures)

pub returns : goal.returns
returns c =
    let s = c.args in
    file_put s.alphabet s.depth s.first.now s.second.now s.file.now (values s.alphabet s.depth s.first.now s.second.now c.if-not-good_values.ensures)
    (omega (arith, size s.alphabet s.depth s.first.now s.second.now c.if-not-good_values.ensures _ c.file_size.ensures)) _ _ c.put_file-size.ensures
