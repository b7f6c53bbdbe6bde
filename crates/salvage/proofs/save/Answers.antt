-- `salvage::save` meets its contract: what is kept and gone of each sample, what is cut off, and the writer's answer. Assumes nothing.
use Rattle.std.specs.Prelude.{◌-◌, Ok}
use Rattle.std.proofs.Common.{ℕ, ◌≡◌, ◌+◌, ◌≤◌, List, length, take, drop, ap, ◌∙◌, arith}
use Rattle.numbers.specs.Limits.{longest}
use Rattle.sitting_file.specs.Format.{header_of}
use Rattle.sitting_file.specs.Samples.{longest_header}
use Rattle.sitting_file.specs.declared.Shape.{Shape}
use Rattle.sitting_file.proofs.Stages.{header_read}
use Rattle.writing.specs.Writing.{Writing, writing_outcome, WritesFile}
use Rattle.salvage.specs.Salvage.{kept_bytes, gone_of, salvaged_by, salvage_outcome, Within, Salvages}
use Rattle.salvage.specs.declared.Gone.{Gone}
use Rattle.salvage.proofs.Answers.{saved_by}
use Rattle.salvage.proofs.Parts.{second_part, lost_told, same_written}
use Rattle.salvage.proofs.save.Goals as goal

module _ (damaged : List ℕ) (shape : Shape) (at : ℕ) (whole : header_of damaged ≡ Ok (shape, at)) where
  -- no sum of places wraps
  end_small : at + shape.first + shape.second ≤ longest_header + longest + longest
  end_small =
      let read = header_read damaged shape at whole in
      omega (arith, read.place, read.limits.first_high, read.limits.second_high)

  abbrev A : ℕ
  A = shape.alphabet

  -- the bytes of each sample, as far as they exist
  abbrev us : List ℕ
  us = take shape.first (drop at damaged)

  abbrev vs : List ℕ
  vs = take shape.second (drop (at + shape.first) damaged)

  -- what the code finds of the two samples and what the writer answers, put together
  told : (xs ys : List ℕ) (g h : Gone) (cut : ℕ) → (xs ≡ kept_bytes A us) × (g ≡ gone_of A shape.first us) → (ys ≡ kept_bytes A vs) × (h ≡ gone_of A shape.second vs)
      → cut ≡ length damaged - (at + shape.first + shape.second) → (before after : List ℕ) (x : Writing) → WritesFile A shape.depth xs ys before (writing_outcome x) after
      → Salvages damaged before (salvage_outcome (salvaged_by x (record { first = g; second = h; cut = cut })) after) after × Within (salvaged_by x (record { first = g; second = h; cut = cut })) after
  told xs ys g h cut first second past before after x w =
      let there = second_part damaged shape at in
      let kept = second.0 ∙ ap (kept_bytes A) there in
      let gone = second.1 ∙ ap (gone_of A shape.second) there in
      saved_by damaged shape at whole before after x _ (lost_told damaged shape at g h cut first.1 gone past) (same_written damaged shape at xs ys before after (writing_outcome x) first.0 kept w)

pub overflow_add-at : goal.overflow_add-at
overflow_add-at c = record { fits = omega (arith, end_small c.args.damaged.now c.args.shape c.args.at c.requires) }

pub overflow_add-at-2 : goal.overflow_add-at-2
overflow_add-at-2 c = record { fits = omega (arith, end_small c.args.damaged.now c.args.shape c.args.at c.requires) }

pub overflow_add-at-3 : goal.overflow_add-at-3
overflow_add-at-3 c = record { fits = omega (arith, end_small c.args.damaged.now c.args.shape c.args.at c.requires) }

pub returns-in-Ok : goal.returns-in-Ok
returns-in-Ok c =
    let w = told c.args.damaged.now c.args.shape c.args.at c.requires _ _ _ _ _ c.sample_at.ensures c.sample_at-2.ensures c.saturating_sub.ensures c.args.file.now _ c.write.result c.write.ensures in
    rw c.in-Ok.is at w

pub returns-in-Err : goal.returns-in-Err
returns-in-Err c =
    let w = told c.args.damaged.now c.args.shape c.args.at c.requires _ _ _ _ _ c.sample_at.ensures c.sample_at-2.ensures c.saturating_sub.ensures c.args.file.now _ c.write.result c.write.ensures in
    rw c.in-Err.is at w
