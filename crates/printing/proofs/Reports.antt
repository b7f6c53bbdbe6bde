-- Rows as they are put, line by line. Assumes nothing.
use Prim.Native.Nat.{ℕ, zero, suc, ◌+◌, ◌*◌, ◌<◌, ◌≤◌}
use native.Mathlib.Omega.{arith}
use native.Mathlib.Nat.{le_refl}
use native.Mathlib.Numerals.{add-one}
use native.Mathlib.Decide.{dec_le}
use mathlib.Core.Path.{◌≡◌, sym, ap, ap₂, ◌∙◌}
use mathlib.Core.List.{List, ◌++◌, append_assoc, append-nil}
use lib.ListN.{length, take, drop, length-append, length-drop}
use lib.Seq.{take_at, drop_at, drop-drop, drop-append-add, length-take-le}
use Rattle.numbers.specs.Limits.{row_width}
use Rattle.printing.specs.Text.{row_text, row_at, rows_text}
use Rattle.placing.specs.Placing.{HasRoom, Puts}
use Rattle.printing.specs.Putting.{Printable}
use Rattle.placing.proofs.Laws.{room_back, puts_then}

-- more rows have no shorter text
rows_longer : (A : ℕ) (sheet : List ℕ) (j k : ℕ) → j ≤ k → length (rows_text A j sheet) ≤ length (rows_text A k sheet)
unfolding rows_text
rows_longer A sheet j zero l = let e : j ≡ 0 = omega arith in rw e (le_refl 0)
rows_longer A sheet j (suc k) l = elim (dec_le j k) [
  | yes m ↦ omega (arith, rows_longer A sheet j k m, length-append (rows_text A k sheet) (row_text A (row_at sheet k)))
  | no m ↦ let e : j ≡ suc k = omega arith in rw e (le_refl (length (rows_text A (suc k) sheet)))
]

-- the next chunk of what is left of a sheet after k rows is row k, and the others are left after it
module _ (sheet left row rest : List ℕ) (k : ℕ) (from : left ≡ drop (row_width * k) sheet) (cut : left ≡ row ++ rest) (wide : length row ≡ row_width) where
  pub row_lent : row ≡ row_at sheet k
  row_lent = sym (take_at row rest row_width wide) ∙ ap (take row_width) (sym cut ∙ from)

  pub rows_left : rest ≡ drop (row_width * (k + 1)) sheet
  rows_left =
      let n : row_width * k + row_width ≡ row_width * (k + 1) = omega arith in
      sym (drop_at row rest row_width wide) ∙ ap (drop row_width) (sym cut ∙ from) ∙ drop-drop row_width (row_width * k) sheet
      ∙ ap (λ (m : ℕ). drop m sheet) n

-- THEOREM. The text of a sheet's rows is the first row's line and then the text of the others
pub rows_first : (A k : ℕ) (row sheet : List ℕ) → length row ≡ row_width → rows_text A (suc k) (row ++ sheet) ≡ row_text A row ++ rows_text A k sheet
unfolding rows_text
rows_first A zero row sheet e = ap (row_text A) (take_at row sheet row_width e) ∙ sym (append-nil (row_text A row))
rows_first A (suc k) row sheet e =
    ap₂ (λ (t u : List ℕ). t ++ u) (rows_first A k row sheet e) (ap (row_text A) other)
    ∙ append_assoc (row_text A row) (rows_text A k sheet) (row_text A (row_at sheet k))
  where
    other : row_at (row ++ sheet) (suc k) ≡ row_at sheet k
    other =
        let n : row_width * suc k ≡ length row + row_width * k = omega arith in
        ap (take row_width) (ap (λ (m : ℕ). drop m (row ++ sheet)) n ∙ drop-append-add row sheet (row_width * k))

-- the first k rows of a report have been put
pub record Begun (A rows : ℕ) (sheet : List ℕ) (at : ℕ) (a : List ℕ) (k : ℕ) (b : List ℕ) (next : ℕ) : Type 0 where
  pub known : Printable A rows sheet
  pub room : HasRoom (rows_text A rows sheet) at a
  pub so_far : Puts (rows_text A k sheet) at a b next

module _ {A rows : ℕ} {sheet : List ℕ} {at : ℕ} {a : List ℕ} {k : ℕ} {b : List ℕ} {next : ℕ} (begun : Begun A rows sheet at a k b next) (more : k < rows) where
  pub row_long : 3 + A ≤ length (row_at sheet k)
  row_long =
      let w : row_width * k + row_width ≤ length sheet = omega (arith, begun.known.whole) in
      rw (length-take-le row_width (drop (row_width * k) sheet) (rw length-drop (omega arith))) (omega (arith, begun.known.alphabet))

  one_more : rows_text A (k + 1) sheet ≡ rows_text A k sheet ++ row_text A (row_at sheet k)
  unfolding rows_text
  one_more = rw add-one

  beginning : HasRoom (rows_text A (k + 1) sheet) at a
  beginning = omega (arith, begun.room, rows_longer A sheet (k + 1) rows (omega arith))

  pub room_row : HasRoom (row_text A (row_at sheet k)) next b
  room_row = room_back _ _ _ one_more at a beginning b next begun.so_far

  pub puts_row : (c : List ℕ) (s : ℕ) → Puts (row_text A (row_at sheet k)) next b c s → Puts (rows_text A (k + 1) sheet) at a c s
  puts_row c s row = puts_then _ _ _ one_more at a beginning b next begun.so_far c s row
