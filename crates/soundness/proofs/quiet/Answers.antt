-- `soundness::quiet` meets its contract: the sum so far is 0 exactly where the counts so far from symbol `a` up are. Assumes nothing.
use mathlib.Core.Path.{◌≡◌, sym, subst, ap, ◌∙◌}
use Prim.Native.Nat.{ℕ, ◌+◌}
use native.Mathlib.Omega.{arith}
use lib.ListN.{get_or}
use Rattle.numbers.specs.Limits.{most_symbols}
use Rattle.store.specs.Sound.{quiet_from}
use Rattle.soundness.proofs.Loops.{Quiet, eight_gone, quiet_start, quiet_add, quiet_skip}
use Rattle.soundness.proofs.quiet.Goals.{then-a-symbol, else-a-symbol}
use Rattle.soundness.proofs.quiet.Goals as goal

pub loop-symbol-init : goal.loop-symbol-init
loop-symbol-init c = quiet_start _ _ _ (omega arith)

pub loop-symbol-preserved : goal.loop-symbol-preserved
loop-symbol-preserved c =
    let args = c.args in
    let loop = c.loop-symbol in
    let i = loop.symbol in
    let turn : ℕ → Type 0 = λ m. Quiet args.held.now args.from args.a m (i + 1) in
    elim c.if-a-symbol.branch [
      | then-a-symbol w ↦
          let read : w.from-seen.result ≡ get_or args.held.now (args.from + i) 0 = w.from-seen.ensures ∙ eight_gone args.from args.held.now i (omega arith) in
          subst turn (sym (w.seen-is ∙ ap (λ (n : ℕ). loop.seen + n) read))
          (quiet_add args.held.now args.from args.a loop.seen i loop.invariant (omega arith) w.if-a-symbol.true (omega (arith, c.type_inv.held (args.from + i))))
      | else-a-symbol w ↦ subst turn (sym w.seen-is) (quiet_skip args.held.now args.from args.a loop.seen i loop.invariant (omega arith) w.if-a-symbol.false)
    ]

pub returns : goal.returns
unfolding quiet_from
returns c =
    let loop = c.loop-symbol in
    let done : loop.symbol ≡ most_symbols = omega arith in
    rw done at loop.invariant.is
