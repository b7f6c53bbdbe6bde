-- As many numbers that are logarithms are the same numbers: what `logs` promises settles its answer. Assumes nothing.
use mathlib.Core.Path.{◌≡◌, sym, ◌∙◌, subst}
use mathlib.Core.List.{List}
use Prim.Native.Nat.{ℕ, ◌<◌}
use lib.ListN.{length}
use lib.Seq.{ext_get_or}
use Rattle.logarithm.specs.Table.{AreLogs}

pub logs_settled : (xs ys : List ℕ) → length xs ≡ length ys → AreLogs xs → AreLogs ys → xs ≡ ys
logs_settled xs ys e x y = ext_get_or 0 xs ys e (λ i l. x.right i l ∙ sym (y.right i (subst (λ (n : ℕ). i < n) e l)))
