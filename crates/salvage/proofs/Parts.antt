-- What is saved and lost, by the bytes of each sample and how many are cut off: as the code finds them, and where they are the same. Assumes nothing.
use Prim.Native.Nat.{ℕ, ◌+◌, ◌-◌}
use native.Mathlib.Omega.{arith}
use mathlib.Core.Path.{◌≡◌, sym, ap, ap₂, subst, ◌∙◌}
use mathlib.Core.List.{List}
use lib.ListN.{length, take, drop, length-drop}
use lib.Seq.{drop-drop}
use Rattle.replay.specs.Table.{Outcome}
use Rattle.sitting_file.specs.declared.Shape.{Shape}
use Rattle.writing.specs.Writing.{WritesFile}
use Rattle.salvage.specs.Salvage.{first_bytes, second_bytes, first_kept, second_kept, gone_of, cut_off, saved_from, saved_of}
use Rattle.salvage.specs.declared.Gone.{Gone}

-- ---- the same bytes, the same file and losses

pub saved_same : (shape : Shape) (body us vs : List ℕ) (cut : ℕ) → first_bytes shape body ≡ us → second_bytes shape body ≡ vs → cut_off shape body ≡ cut → saved_of shape body ≡ saved_from shape us vs cut
saved_same shape body us vs cut d e f = ap₂ (λ (xs ys : List ℕ). saved_from shape xs ys (cut_off shape body)) d e ∙ ap (saved_from shape us vs) f

-- ---- as the code has it

module _ (damaged : List ℕ) (shape : Shape) (at : ℕ) where
  -- the second sample's bytes start n bytes after the header
  pub second_part : take shape.second (drop (at + shape.first) damaged) ≡ second_bytes shape (drop at damaged)
  second_part = ap (take shape.second) (sym (drop-drop shape.first at damaged))

  abbrev A : ℕ
  A = shape.alphabet

  -- and what is told of both
  pub lost_told : (g h : Gone) (cut : ℕ) → g ≡ gone_of A shape.first (first_bytes shape (drop at damaged)) → h ≡ gone_of A shape.second (second_bytes shape (drop at damaged))
      → cut ≡ length damaged - (at + shape.first + shape.second) → record { first = g; second = h; cut = cut } ≡ (saved_of shape (drop at damaged)).lost
  lost_told g h cut d e f =
      let c : cut ≡ cut_off shape (drop at damaged) = omega (arith, f, length-drop (shape.first + shape.second) (drop at damaged), length-drop at damaged) in
      ap₂ (λ (x y : Gone). record { first = x; second = y; cut = cut }) d e ∙ ap (λ (k : ℕ). record { first = gone_of A shape.first (first_bytes shape (drop at damaged)); second = gone_of A shape.second (second_bytes shape (drop at damaged)); cut = k }) c

  -- what was written of the same bytes
  pub same_written : (xs ys before after : List ℕ) (o : Outcome ℕ) → xs ≡ first_kept shape (drop at damaged) → ys ≡ second_kept shape (drop at damaged)
      → WritesFile A shape.depth xs ys before o after → WritesFile A shape.depth (first_kept shape (drop at damaged)) (second_kept shape (drop at damaged)) before o after
  same_written xs ys before after o d e w =
      subst (λ (l : List ℕ). WritesFile A shape.depth (first_kept shape (drop at damaged)) l before o after) e (subst (λ (l : List ℕ). WritesFile A shape.depth l ys before o after) d w)
