-- A code by its digits: the lowest is the most recent symbol, and the rest is the code of the older ones. Assumes nothing.
use Prim.Native.Nat.{ℕ, zero, suc, ◌+◌, ◌*◌, ◌/◌, ◌%◌, ◌≤◌, ◌<◌}
use native.Mathlib.Omega.{arith}
use mathlib.Core.Path.{◌≡◌, refl, ap}
use mathlib.Core.Bool.{Bool, false, ◌&&◌}
use lib.Dec.{T, eqb, eqb→eq}
use borrow.Author.Tests.{lt-ltb, le-ltb}
use Rattle.numbers.specs.Limits.{most_symbols}
use Rattle.numbers.proofs.Tests.{bool_ext}
use Rattle.numbers.proofs.Orders.{eq→eqb}
use Rattle.contexts.specs.Context.{is_context, code_of, decoded}
use Rattle.contexts.proofs.Strings.{context_cons}
use Rattle.rules.specs.Question.{is_code}

-- the symbols of the context that is read from a code are octal digits, whatever the code
pub decoded_within : (l c : ℕ) → T (is_context most_symbols l (decoded l c))
unfolding decoded is_context
decoded_within zero c = tt
decoded_within (suc l) c = context_cons most_symbols l (c % 8) (decoded l (c / 8)) (omega arith) (decoded_within l (c / 8))

-- ---- whether it is a code

-- a number is its lowest digit and the rest
lowest : (x c : ℕ) → eqb (c % 8 + 8 * x) c ≡ eqb x (c / 8)
lowest x c = bool_ext _ _
    (λ h. eq→eqb x (c / 8) (let e = eqb→eq (c % 8 + 8 * x) c h in omega arith))
    (λ h. eq→eqb (c % 8 + 8 * x) c (let e = eqb→eq x (c / 8) h in omega arith))

-- where the lowest digit is a symbol, the rest decides
pub code_older : (A l c : ℕ) → c % 8 < A → is_code A (suc l) c ≡ is_code A l (c / 8)
unfolding decoded is_context code_of
code_older A l c h = rw (lt-ltb (c % 8) A h) (ap (λ (b : Bool). is_context A l (decoded l (c / 8)) && b) (lowest (code_of (decoded l (c / 8))) c))

pub code_outside : (A l c : ℕ) → A ≤ c % 8 → is_code A (suc l) c ≡ false
unfolding decoded is_context
code_outside A l c h = rw (le-ltb (c % 8) A h)

-- of no symbols it is the code 0
pub code_none : (A c : ℕ) → is_code A 0 c ≡ eqb 0 c
unfolding decoded is_context code_of
code_none A c = refl
