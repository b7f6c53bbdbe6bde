-- What the program prints (document 01, "Sitting file and program"): a text is the list of its bytes. Assumes nothing.
use Rattle.std.specs.Prelude.{ℕ, zero, suc, ◌+◌, ◌*◌, ◌/◌, ◌%◌, cond, List, [], ◌∷◌, ◌++◌, map, ltb, ℤ, pos, negsuc, take, drop}
use Prim.Native.Char.{code}
use Prim.Native.String.{String, [] as empty, ◌∷◌ as ◌then◌}
use Rattle.numbers.specs.Limits.{row_width}

-- the bytes of a quoted text, in ASCII
unfoldable pub ascii : String → List ℕ
ascii empty = []
ascii (c then s) = code c ∷ ascii s

abbrev pub line_feed : ℕ
line_feed = 10

abbrev pub space : ℕ
space = 32

abbrev pub minus : ℕ
minus = 45

abbrev pub digit : ℕ → ℕ
digit d = 48 + d

-- n in at most k digits, the last of them last (`front` is worked out only where it stands)
unfoldable pub spelled : ℕ → ℕ → List ℕ
spelled zero n = []
spelled (suc k) n = let front = spelled k (n / 10) in cond (ltb n 10) [] front ++ (digit (n % 10) ∷ [])

-- a number in decimal digits: no leading zero, `0` for 0. No number has more digits than one more than itself
abbrev pub decimal : ℕ → List ℕ
decimal n = spelled (suc n) n

-- a minus sign before the magnitude of a negative number
abbrev pub signed : ℤ → List ℕ
signed (pos n) = decimal n
signed (negsuc n) = minus ∷ decimal (suc n)

-- numbers parted by one blank, and a line feed at the end
unfoldable pub line_of : List ℤ → List ℕ
line_of [] = line_feed ∷ []
line_of (z ∷ []) = signed z ++ (line_feed ∷ [])
line_of (z ∷ y ∷ zs) = signed z ++ (space ∷ line_of (y ∷ zs))

-- "a line with A, D, n, m, row count, score"
abbrev pub head_text : ℕ → ℕ → ℕ → ℕ → ℕ → ℤ → List ℕ
head_text A D n m rows score = line_of (pos A ∷ pos D ∷ pos n ∷ pos m ∷ pos rows ∷ score ∷ [])

-- "a line for each row with kind, length, code and A counts": the first 3 + A numbers of the row
abbrev pub row_text : ℕ → List ℕ → List ℕ
row_text A row = line_of (map pos (take (3 + A) row))

-- row k of a sheet
abbrev pub row_at : List ℕ → ℕ → List ℕ
row_at sheet k = take row_width (drop (row_width * k) sheet)

-- the first rows of a sheet, a line each
unfoldable pub rows_text : ℕ → ℕ → List ℕ → List ℕ
rows_text A zero sheet = []
rows_text A (suc k) sheet = rows_text A k sheet ++ row_text A (row_at sheet k)

-- what a report prints
abbrev pub report_text : ℕ → ℕ → ℕ → ℕ → ℕ → ℤ → List ℕ → List ℕ
report_text A D n m rows score sheet = head_text A D n m rows score ++ rows_text A rows sheet

-- "A refusal prints `refused` and the number."
abbrev pub refusal_text : ℕ → List ℕ
refusal_text n = ascii "refused " ++ line_of (pos n ∷ [])
