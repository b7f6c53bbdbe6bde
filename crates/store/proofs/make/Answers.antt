-- `store::make` meets its contract: each refusal by the test that led there, and otherwise a header of zeros but for K. Assumes nothing.
use mathlib.Core.List.{List, ◌++◌}
use mathlib.Core.Logic.{inl, inr}
use mathlib.Core.Path.{◌≡◌, sym, ap, ◌∙◌}
use Prim.Native.Nat.{ℕ, ◌≤◌, ◌<◌}
use native.Mathlib.Omega.{arith}
use borrow.Author.Tests.{lt-ltb, le-ltb}
use lib.ListN.{length, take, drop, set, replicate}
use lib.Seq.{length-take-le}
use Rattle.numbers.specs.Limits.{most_room}
use Rattle.store.specs.Layout.{header_size, store_size}
use Rattle.store.specs.declared.Refusal.TheVariants.{RoomOutside, StoreShort}
use Rattle.store.proofs.NewStore.{making_refused, making_done}
use Rattle.store.proofs.make.Goals as goal

pub returns-then-many-lt1 : goal.returns-then-many-lt1
returns-then-many-lt1 c =
    let K = c.args.room in
    making_refused K _ RoomOutside (elim c.then-many-lt1.either [ inl low ↦ rw (lt-ltb K 1 low) | inr high ↦ rw (le-ltb K 1 high.0, lt-ltb most_room K high.1) ])

pub returns-then-store-many : goal.returns-then-store-many
returns-then-store-many c =
    let K = c.args.room in
    let s = c.args.store.now in
    let l : 1 ≤ K = omega arith in
    let h : K ≤ most_room = omega arith in
    let m : length s < store_size K = omega arith in
    making_refused K s StoreShort (rw (le-ltb K 1 l, le-ltb most_room K h, lt-ltb (length s) (store_size K) m))

pub slice_bounds-fill-end-2 : goal.slice_bounds-fill-end-2
slice_bounds-fill-end-2 c = sym (length-take-le header_size c.args.store.now (omega arith))

pub returns : goal.returns
returns c =
    let K = c.args.room in
    let s = c.args.store.now in
    let many : length (take header_size s) ≡ header_size = length-take-le header_size s (omega arith) in
    let zeros : c.fill.new.self ≡ replicate header_size 0 = c.fill.ensures.after (λ y e. e) ∙ ap (λ (n : ℕ). replicate n 0) many in
    making_done K s _ (omega arith) (omega arith) (omega arith) (ap (λ (z : List ℕ). set (z ++ drop header_size s) 0 K) zeros)
