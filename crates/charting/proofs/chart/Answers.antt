-- `charting::chart` meets its contract: each return is a way through the table. Assumes nothing.
use Rattle.std.proofs.Common.{rules, arith, ◌≡◌, ◌≤◌, sym, ◌∙◌}
use Rattle.std.proofs.lemmas.Result.{err_from_is_err_and}
use Rattle.store.specs.Layout.{symbols_at, depth_at}
use Rattle.store.proofs.Passing.{header_long}
use Rattle.store.proofs.Standing.{sound_stands}
use Rattle.calls.specs.declared.Refusal.TheVariants.{NotOfSitting}
use Rattle.charting.specs.Naming.{named}
use Rattle.charting.proofs.Verdicts.{asks_symbol, asks_length, Asked, asks_code, key_readable, asks_chart}
use Rattle.charting.proofs.chart.Goals as goal
use Rattle.charting.proofs.chart.Goals.{After-key_of, Else-depth-length, then-symbols-symbol-via-then-symbols-symbol, then-symbols-symbol-via-else-symbols-symbol+then-depth-length}

-- past the tests only the code is still to be read
asked_here : (c : Else-depth-length) → let x = c.args in x.length ≤ depth_at x.store.now x.desk → Asked x.store.now x.desk x.length x.symbol
asked_here c within = record {
  sound = c.in_ok-open_desk.ensures.sound;
  at_open = c.in_ok-open_desk.ensures.at_open;
  symbol = rw c.symbols-symbols.ensures at c.if-symbols-symbol.false;
  short = within;
}

-- what was named, over the desk's alphabet
named_here : (c : After-key_of) → let x = c.args in named (symbols_at x.store.now x.desk) x.desk x.length x.code ≡ c.key_of.result
named_here c = rw c.symbols-symbols.ensures at (sym c.key_of.ensures)

pub invariant_of-numbers : goal.invariant_of-numbers
invariant_of-numbers c =
    let found = c.in_ok-open_desk.ensures in
    record { there = (header_long c.args.store.now found.sound, found.at_open.desk) }

pub returns-then-symbols-symbol : goal.returns-then-symbols-symbol
returns-then-symbols-symbol c =
    let x = c.args in
    let found = c.in_ok-open_desk.ensures in
    elim c.then-symbols-symbol.branch [
      | then-symbols-symbol-via-then-symbols-symbol w ↦
          asks_symbol x.store.now found.sound x.desk found.at_open x.length x.code x.symbol (rw c.symbols-symbols.ensures at w.if-symbols-symbol.true)
      | then-symbols-symbol-via-else-symbols-symbol+then-depth-length w ↦
          asks_length x.store.now found.sound x.desk found.at_open x.length x.code x.symbol
          (rw c.symbols-symbols.ensures at w.if-symbols-symbol.false) (rw w.depth.ensures at w.if-depth-length.true)
    ]

pub key_of-requires : goal.key_of-requires
key_of-requires c =
    let g = asked_here (goal.at.key_of-requires c).Else-depth-length (rw c.depth.ensures at c.if-depth-length.false) in
    (g.at_open.desk, omega (arith, g.short, (sound_stands c.args.store.now g.sound).depth c.args.desk g.at_open))

pub returns-in_err-key : goal.returns-in_err-key
returns-in_err-key c =
    let x = c.args in
    let p = err_from_is_err_and c.from_residual-in_err-key.result c.from_residual-in_err-key.ensures.1 in
    let none = c.in_err-key.ensures.ok_part in
    let why : c.in_err-key.field-0.0 ≡ NotOfSitting = let e = rw none at c.in_err-key.ensures.value in cc in
    rw (p.1, p.2, why) (asks_code x.store.now x.desk x.length x.code x.symbol (asked_here (goal.at.returns-in_err-key c).Else-depth-length (rw c.depth.ensures at c.if-depth-length.false)) (named_here (goal.at.returns-in_err-key c).After-key_of ∙ none))

pub chart_under-requires : goal.chart_under-requires
chart_under-requires c =
    let x = c.args in
    key_readable x.store.now x.desk x.length x.code x.symbol (asked_here (goal.at.chart_under-requires c).Else-depth-length (rw c.depth.ensures at c.if-depth-length.false)) c.in_ok-key.key
    (named_here (goal.at.chart_under-requires c).After-key_of ∙ c.in_ok-key.ensures.ok_part)

pub returns : goal.returns
returns c =
    let x = c.args in
    asks_chart x.store.now x.desk x.length x.code x.symbol (asked_here (goal.at.returns c).Else-depth-length (rw c.depth.ensures at c.if-depth-length.false)) c.in_ok-key.key
    (named_here (goal.at.returns c).After-key_of ∙ c.in_ok-key.ensures.ok_part) c.chart_under.result c.chart_under.ensures
