-- The same test of the records as one pass computes it: a key by its digits, and a parent by a mark at its length. Assumes nothing.
use Rattle.std.specs.Prelude.{◌≡◌, Bool, true, cond, ◌&&◌, ◌||◌, List, [], ◌∷◌, ℕ, ◌+◌, ◌*◌, ◌/◌, ◌%◌, ◌≤◌, length, get_or, set, replicate, leb, ltb, eqb}
use Rattle.numbers.specs.Limits.{desks}
use Rattle.numbers.specs.Every.{every}
use Rattle.contexts.specs.Keys.{desk_span, desk_of, len_of, eights}
use Rattle.contexts.specs.Sitting.{Sample, first, second}
use Rattle.records.specs.Records.{width, key}
use Rattle.store.specs.Layout.{is_open, symbols_at, depth_at, total_of}
use Rattle.store.specs.Sound.{table_ok, desk_test, desk_ok}

-- ---- a key's digits

-- the oldest symbol is below A. The newer ones are those of the parent, whose record has its own test
unfoldable pub oldest_ok : ℕ → ℕ → Bool
oldest_ok A k = ltb (k % desk_span / eights (len_of k) % 8) A

-- nothing stands past the length
unfoldable pub ends_ok : ℕ → Bool
ends_ok k = eqb (k % eights (len_of k)) (len_of k)

-- one more than the parent's key; 0 for the empty context
unfoldable pub up_mark : ℕ → ℕ
up_mark k = k / eights (len_of k) / 8 * 8 * eights (len_of k) + len_of k

unfoldable pub key_fits : List ℕ → ℕ → Bool
key_fits s k =
    ltb (desk_of k) desks
    && (is_open s (desk_of k)
    && (leb (len_of k) (depth_at s (desk_of k))
    && (oldest_ok (symbols_at s (desk_of k)) k
    && ends_ok k)))

-- a record by itself
unfoldable pub own_ok : List ℕ → List ℕ → Bool
own_ok s r = key_fits s (key r) && table_ok s r

-- the largest sum of eight numbers of 32 bits
abbrev pub largest_sum : ℕ
largest_sum = 34359738360

-- a record with N(s) in each sample, x and y, as the pass hands them on
pub record Summed (r : List ℕ) (x y : ℕ) : Type 0 where
  pub long : width ≤ length r
  pub in_first : x ≡ total_of first r
  pub in_second : y ≡ total_of second r
  pub small_first : x ≤ largest_sum
  pub small_second : y ≤ largest_sum

-- ---- marks

-- the mark of a key in a sample that has x counts of it: one more than the key, where there are some
unfoldable pub seen_mark : ℕ → ℕ → ℕ
seen_mark k x = cond (ltb 0 x) (k + 1) 0

-- where there are counts, the mark is the parent's
unfoldable pub mark_ok : ℕ → ℕ → ℕ → Bool
mark_ok x mark up = eqb x 0 || eqb mark up

-- one record's turn, with the least key allowed and the marks at the record's length
unfoldable pub step_ok : List ℕ → ℕ → ℕ → ℕ → List ℕ → Bool
step_ok s lo p q r =
    leb lo (key r) && (own_ok s r && (mark_ok (total_of first r) p (up_mark (key r)) && mark_ok (total_of second r) q (up_mark (key r))))

-- a sample's marks after a record: place l + 1 has the last record of length l
abbrev pub marks_after : Sample → List ℕ → List ℕ → List ℕ
marks_after i r p = set p (len_of (key r) + 1) (seen_mark (key r) (total_of i r))

unfoldable pub walked : List ℕ → ℕ → List ℕ → List ℕ → List (List ℕ) → Bool
walked s lo p q [] = true
walked s lo p q (r ∷ rs) =
    step_ok s lo (get_or p (len_of (key r)) 0) (get_or q (len_of (key r)) 0) r
    && walked s (key r + 1) (marks_after first r p) (marks_after second r q) rs

-- no marks
abbrev pub start : List ℕ
start = replicate 9 0

-- a desk's test, by a tally of its records
abbrev pub tally_ok : List ℕ → List ℕ → ℕ → Bool
tally_ok s tally d = desk_test s d (get_or tally d 0)

-- the pass
unfoldable pub passb : List ℕ → List (List ℕ) → Bool
passb s rs = walked s 0 start start rs && every desks (desk_ok s rs)
