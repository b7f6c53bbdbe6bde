-- What the reader finds at a place of the file, case by case, as the code tests it. Assumes nothing.
use Rattle.std.specs.Prelude.{Ok, Err}
use Prim.Native.Nat.{ℕ, zero, suc, ◌-◌, ◌<◌, ◌≤◌}
use mathlib.Core.Path.{◌≡◌}
use mathlib.Core.List.{List}
use native.Mathlib.Omega.{arith}
use lib.ListN.{length}
use borrow.Author.Tests.{lt-ltb, le-ltb, le-leb, lt-leb}
use Rattle.sitting_file.specs.Format.{judged_number, number_at, symbols_from}
use Rattle.sitting_file.specs.declared.Shape.{Shape}
use Rattle.sitting_file.specs.declared.Refusal.{Refusal}
use Rattle.sitting_file.specs.declared.Refusal.TheVariants.{OutsideLimits, BytesLeft}

-- ---- a whole number and its limits

module _ (low high v next : ℕ) where
  pub below_low : v < low → judged_number low high v next ≡ Err OutsideLimits
  unfolding judged_number
  below_low h = rw (lt-leb low v h)

  pub above_high : low ≤ v → high < v → judged_number low high v next ≡ Err OutsideLimits
  unfolding judged_number
  above_high h k = rw (le-leb low v h, lt-leb v high k)

  pub inside : low ≤ v → v ≤ high → judged_number low high v next ≡ Ok (v, next)
  unfolding judged_number
  inside h k = rw (le-leb low v h, le-leb v high k)

-- ---- a turn of the loop over the symbols, and its end

module _ (file : List ℕ) (shape : Shape) where
  pub symbol_refused : (left at : ℕ) (why : Refusal) → 0 < left → number_at file at 0 (shape.alphabet - 1) ≡ Err why → symbols_from file shape left at ≡ Err why
  unfolding symbols_from
  symbol_refused zero at why h e = absurd (omega arith)
  symbol_refused (suc k) at why h e = rw e

  pub symbol_read : (left at next v : ℕ) → 0 < left → number_at file at 0 (shape.alphabet - 1) ≡ Ok (v, next) → symbols_from file shape left at ≡ symbols_from file shape (left - 1) next
  unfolding symbols_from
  symbol_read zero at next v h e = absurd (omega arith)
  symbol_read (suc k) at next v h e =
      let less : suc k - 1 ≡ k = omega arith in
      rw (e, less)

  pub all_read : (left at : ℕ) → left ≤ 0 → length file ≤ at → symbols_from file shape left at ≡ Ok shape
  unfolding symbols_from
  all_read zero at z h = rw (le-ltb at (length file) h)
  all_read (suc k) at z h = absurd (omega arith)

  pub more_bytes : (left at : ℕ) → left ≤ 0 → at < length file → symbols_from file shape left at ≡ Err BytesLeft
  unfolding symbols_from
  more_bytes zero at z h = rw (lt-ltb at (length file) h)
  more_bytes (suc k) at z h = absurd (omega arith)
