-- `soundness::all_below` meets its contract: the test of one symbol, of them all. Assumes nothing.
use mathlib.Core.Path.{refl}
use Prim.Native.Nat.{◌<◌}
use borrow.Author.Rules.{rules}
use lib.Dec.{ltb}
use Rattle.std.proofs.lemmas.Bool.Decides.{same_from_decides, Decides-by_and, Decides-ltb}
use Rattle.numbers.specs.Every.{all}
use Rattle.store.specs.Sound.{of_alphabet}
use Rattle.soundness.proofs.all_below.Goals as goal

pub returns : goal.returns
unfolding all
returns c =
    let a = c.args.a in
    same_from_decides c.all.result (all (of_alphabet a) c.args.part.now) (search rules) (Decides-by_and (λ x. ltb x a) (λ x. x < a) (all (of_alphabet a)) (λ x. Decides-ltb x a) refl (λ x xs. refl) c.args.part.now)
