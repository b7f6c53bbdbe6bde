-- The ways through the functions that put rows, as the code has them. Assumes nothing.
use Prim.Native.Nat.{ℕ, ◌+◌, ◌-◌, ◌≤◌}
use mathlib.Core.Path.{◌≡◌, refl, sym, ap, ap₂, subst₂, ◌∙◌}
use mathlib.Core.Bool.{Bool, true}
use mathlib.Core.List.{List, [], ◌∷◌, ◌++◌, append-nil}
use native.Mathlib.Omega.{arith}
use lib.ListN.{length, take, drop, length-append, length-take, drop_of_length-le}
use lib.Seq.{drop-drop}
use Rattle.contexts.specs.Sitting.{eight}
use Rattle.estimate.specs.Table.{counts_in}
use Rattle.numbers.specs.Limits.{row_width}
use Rattle.rows.specs.Rows.{kind_of}
use Rattle.listing.specs.declared.Plan.{Plan}
use Rattle.listing.specs.Writing.{WroteAt, numbers_if, numbers_here, Roomy}
use Rattle.listing.proofs.Sheets.{written_append}

-- ---- one row, or none

pub if_long : (on : Bool) (kind len code : ℕ) (counts : List (List ℕ)) → on ≡ true → length (numbers_if on kind len code counts) ≡ row_width
if_long on kind len code counts e = rw e

pub if_one : (l ys : List ℕ) (to : ℕ) (on : Bool) (kind len code : ℕ) (counts : List (List ℕ)) → on ≡ true → to + row_width ≤ length l
    → ys ≡ (kind ∷ len ∷ code ∷ eight (counts_in counts (kind_of kind))) ++ drop row_width (take (to + row_width - to) (drop to l))
    → WroteAt l (take to l ++ (ys ++ drop (to + row_width - to) (drop to l))) to (numbers_if on kind len code counts) (to + row_width)
if_one l ys to on kind len code counts e h g =
    let row = kind ∷ len ∷ code ∷ eight (counts_in counts (kind_of kind)) in
    let k : to + row_width - to ≡ row_width = omega arith in
    let none : drop row_width (take (to + row_width - to) (drop to l)) ≡ [] = rw k (drop_of_length-le (take row_width (drop to l)) {i = row_width} (length_take_most row_width (drop to l))) in
    rw e (record {
      sheet = ap₂ (λ (a b : List ℕ). take to l ++ (a ++ b)) (g ∙ ap (row ++◌) none ∙ append-nil row) (rw k (drop-drop row_width to l));
      past_is = refl;
    })
  where
    length_take_most : (n : ℕ) (q : List ℕ) → length (take n q) ≤ n
    length_take_most n q = rw (length-take n q) (omega arith)

-- ---- the rows at one context

module _ (l : List ℕ) (to : ℕ) (plan : Plan) (len code : ℕ) (counts : List (List ℕ)) (roomy : Roomy (length l) to (length (numbers_here plan len code counts)) counts) where
  abbrev one : List ℕ
  one = numbers_if plan.shared 0 len code counts

  abbrev two : List ℕ
  two = numbers_if plan.first 1 len code counts

  abbrev three : List ℕ
  three = numbers_if plan.second 2 len code counts

  all_long : length (numbers_here plan len code counts) ≡ length one + (length two + length three)
  all_long = length-append one (two ++ three) ∙ ap (λ (m : ℕ). length one + m) (length-append two three)

  room_one : Roomy (length l) to (length one) counts
  room_one = record { room = omega (arith, roomy.room, all_long); counted = roomy.counted }

  module _ (l₁ : List ℕ) (a : ℕ) (same₁ : length l₁ ≡ length l) (g : WroteAt l l₁ to one a) where
    room_two : Roomy (length l₁) a (length two) counts
    room_two = record { room = omega (arith, roomy.room, all_long, g.past_is); counted = roomy.counted }

    module _ (l₂ : List ℕ) (b : ℕ) (same₂ : length l₂ ≡ length l₁) (h : WroteAt l₁ l₂ a two b) where
      pub put_all : (l₃ : List ℕ) (r : ℕ) → WroteAt l₂ l₃ b three r → WroteAt l l₃ to (numbers_here plan len code counts) r
      put_all l₃ r f = written_append l l₁ l₃ to a r one (two ++ three) room_one.room g (written_append l₁ l₂ l₃ a b r two three room_two.room h f)

-- .. where the plan and the counts are known by equations
module _ (plan plan' : Plan) (len code : ℕ) (counts counts' : List (List ℕ)) (p : plan ≡ plan') (q : counts ≡ counts') where
  pub roomy_as : (top to : ℕ) → Roomy top to (length (numbers_here plan' len code counts')) counts' → Roomy top to (length (numbers_here plan len code counts)) counts
  roomy_as top to r = subst₂ (λ (x : Plan) (y : List (List ℕ)). Roomy top to (length (numbers_here x len code y)) y) (sym p) (sym q) r

  pub written_as : (l m : List ℕ) (to r : ℕ) → WroteAt l m to (numbers_here plan len code counts) r → WroteAt l m to (numbers_here plan' len code counts') r
  written_as l m to r w = subst₂ (λ (x : Plan) (y : List (List ℕ)). WroteAt l m to (numbers_here x len code y) r) p q w
