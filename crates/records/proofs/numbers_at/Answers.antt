-- `records::numbers_at` meets its contract: each call reads the number at its place. Assumes nothing.
use mathlib.Core.Path.{◌≡◌, refl}
use Prim.Native.Nat.{◌+◌}
use borrow.Author.Rules.{rules}
use lib.ListN.{get_or}
use Rattle.records.proofs.Reading.{run_read}
use Rattle.records.proofs.numbers_at.Goals as goal

pub returns : goal.returns
returns g c =
    let l = c.args.numbers.now in
    run_read _ (λ i. get_or l (c.args.at + i) 0) (λ f. (f.0.now ≡ l) × (f.1.now ≡ c.args.at)) (λ f q i y s called. search rules) _ c.from_fn.result g.row.N c.args.at l (refl, refl) c.from_fn.ensures.items c.requires (λ i u. refl)
