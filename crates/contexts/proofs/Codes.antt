-- A row's code reads back as the context that it stands for. Assumes nothing.
use Prim.Native.Nat.{ℕ, zero, suc, ◌+◌, ◌*◌, ◌/◌, ◌%◌, ◌^◌, ◌<◌}
use mathlib.Core.Path.{◌≡◌, refl, ap, ap₂}
use mathlib.Core.List.{List, [], ◌∷◌}
use native.Mathlib.Omega.{arith}
use native.Mathlib.Nat.{pow-suc}
use lib.ListN.{length}
use lib.Dec.{T}
use Rattle.numbers.specs.Limits.{most_symbols}
use Rattle.contexts.specs.Context.{is_context, code_of, decoded}
use Rattle.contexts.proofs.Strings.{newest_below, older_context}

-- the context read from a code has the length that is asked for
pub decoded_length : (l c : ℕ) → length (decoded l c) ≡ l
unfolding decoded
decoded_length zero c = refl
decoded_length (suc l) c = ap suc (decoded_length l (c / 8))

pub decoded_code : (d : ℕ) (s : List ℕ) → T (is_context most_symbols d s) → decoded (length s) (code_of s) ≡ s
unfolding decoded code_of is_context
decoded_code d [] c = refl
decoded_code zero (a ∷ s) c = absurd c
decoded_code (suc d) (a ∷ s) c =
    let l = newest_below most_symbols d a s c in
    let q : (a + 8 * code_of s) % 8 ≡ a = omega arith in
    let r : (a + 8 * code_of s) / 8 ≡ code_of s = omega arith in
    rw (q, r, decoded_code d s (older_context most_symbols d a s c))

-- a code of l symbols is below 8^l
pub code_lt : (d : ℕ) (s : List ℕ) → T (is_context most_symbols d s) → code_of s < 8 ^ length s
unfolding code_of is_context
code_lt d [] c = omega arith
code_lt zero (a ∷ s) c = absurd c
code_lt (suc d) (a ∷ s) c =
    let l = newest_below most_symbols d a s c in
    omega (arith, code_lt d s (older_context most_symbols d a s c), pow-suc 8 (length s))

-- two contexts of one length and code are the same
pub code_injective : (d : ℕ) (s t : List ℕ) → T (is_context most_symbols d s) → T (is_context most_symbols d t) → length s ≡ length t → code_of s ≡ code_of t → s ≡ t
code_injective d s t c e l q =
    let f = decoded_code d s c in
    let g = decoded_code d t e in
    let h : decoded (length s) (code_of s) ≡ decoded (length t) (code_of t) = ap₂ decoded l q in
    cc
