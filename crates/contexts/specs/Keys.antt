-- The key of a context, by which a store orders its records: the symbols as octal digits, left-aligned, most recent first, and the length as the
-- lowest digit. The order of keys is the row order. Assumes nothing.
use Rattle.std.specs.Prelude.{ℕ, zero, suc, ◌+◌, ◌-◌, ◌*◌, ◌^◌, ◌/◌, ◌%◌, List, [], ◌∷◌, length}
use Rattle.numbers.specs.Limits.{deepest}

-- the first n symbols as octal digits, the most recent highest
unfoldable pub digits : ℕ → List ℕ → ℕ
digits zero s = 0
digits (suc n) [] = 0
digits (suc n) (a ∷ s) = a * 8 ^ n + digits n s

abbrev pub context_key : List ℕ → ℕ
context_key s = digits deepest s * 8 + length s

-- how many keys a desk has: 8^7
abbrev pub desk_span : ℕ
desk_span = 2097152

-- the key of a desk's context
abbrev pub key_of : ℕ → List ℕ → ℕ
key_of d s = d * desk_span + context_key s

-- a key read back: its desk, and its context
abbrev pub desk_of : ℕ → ℕ
desk_of k = k / desk_span

-- the length is the lowest octal digit
abbrev pub len_of : ℕ → ℕ
len_of k = k % 8

-- the power of eight at which the oldest of l symbols stands in a key
unfoldable pub eights : ℕ → ℕ
eights l = 8 ^ (7 - l)

-- the first l of the n octal digits of v
unfoldable pub symbols_of : ℕ → ℕ → ℕ → List ℕ
symbols_of zero l v = []
symbols_of (suc n) zero v = []
symbols_of (suc n) (suc l) v = v / 8 ^ n ∷ symbols_of n l (v % 8 ^ n)

abbrev pub context_of : ℕ → List ℕ
context_of k = symbols_of deepest (len_of k) (k % desk_span / 8)
