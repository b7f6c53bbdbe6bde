-- `report::Reportable::weighed` meets its contract. Assumes nothing.
use Prim.Native.Nat.{ℕ}
use native.Mathlib.Omega.{arith}
use mathlib.Core.Path.{subst}
use mathlib.Core.List.{List}
use Rattle.records.proofs.Lent.{tail_lent}
use Rattle.store.specs.Layout.{header_size, used}
use Rattle.weighing.specs.Weighs.{Weighs}
use Rattle.report.proofs.ByValue.{sized, standing_lent, can_weigh, has_weighed}
use Rattle.report.proofs.Reportable.weighed.Goals as goal

pub slice_bounds-numbers-count : goal.slice_bounds-numbers-count
slice_bounds-numbers-count c = let h = sized c.args.self.now.store.now c.args.self.now.desk c.args.self.now.can in omega arith

pub slice_bounds-numbers-start : goal.slice_bounds-numbers-start
slice_bounds-numbers-start c = let h = sized c.args.self.now.store.now c.args.self.now.desk c.args.self.now.can in omega arith

pub invariant_of-weigh : goal.invariant_of-weigh
invariant_of-weigh c = record { standing = standing_lent c.args.self.now.store.now c.args.self.now.desk c.args.self.now.can }

pub weigh-requires : goal.weigh-requires
weigh-requires c =
    rw (tail_lent header_size c.args.self.now.store.now) (can_weigh c.args.self.now.store.now c.args.self.now.desk c.args.self.now.can c.args.kept.now c.requires)

pub returns : goal.returns
returns c =
    has_weighed c.args.self.now.store.now c.args.self.now.desk c.args.self.now.can c.args.kept.now c.weigh.new.kept c.weigh.result
    (subst (λ (l : List ℕ). Weighs c.args.self.now.desk (used c.args.self.now.store.now) l c.args.kept.now c.weigh.new.kept c.weigh.result) (tail_lent header_size c.args.self.now.store.now) c.weigh.ensures)
