-- The run of new records, as the code writes it: shifted room, and one record after the other. Assumes nothing.
use mathlib.Core.Path.{◌≡◌, sym, ap, ap₂, ◌∙◌}
use mathlib.Core.List.{List, [], ◌∷◌, ◌++◌}
use Prim.Native.Nat.{ℕ, suc, ◌+◌, ◌-◌, ◌*◌, ◌≤◌}
use native.Mathlib.Omega.{arith}
use lib.ListN.{length, take, drop, length-set}
use lib.Seq.{length-take-le, drop_at}
use Rattle.numbers.proofs.Orders.{less, same, more, order}
use Rattle.contexts.specs.Keys.{key_of}
use Rattle.records.specs.Records.{width, records, parts, blank}
use Rattle.records.specs.Bumped.{raised}
use Rattle.records.specs.Fed.{fresh}
use Rattle.records.specs.Located.{Insertable, Inserted, Appended}
use Rattle.records.proofs.Parts.{parts_put, parts_front}

-- a record after those from length m to length j
pub appended : (m j k c : ℕ) (l ys : List ℕ) → m ≤ j → width * (j + 1 - m) ≤ length l → ys ≡ raised c (blank k)
    → Appended m j (raised c (blank k)) l (take (width * (j - m)) l ++ (ys ++ drop (width * (j - m) + width - width * (j - m)) (drop (width * (j - m)) l)))
appended m j k c l ys h fits e =
    let more : j + 1 - m ≡ j - m + 1 = omega arith in
    let rest = drop (width * (j - m) + width - width * (j - m)) (drop (width * (j - m)) l) in
    record {
      there = λ g.
          rw (more, e) (parts_put width (j - m) (raised c (blank k)) rest l (omega arith) (length-set (blank k) c _));
      stays = λ g. absurd (omega arith);
    }

-- a turn of the loop
module _ (d : ℕ) (r : List ℕ) (m c : ℕ) where
  abbrev pub Run : ℕ → List ℕ → Type 0
  Run j l = records (j - m) l ≡ fresh (j - m) m d r c

  pub run_start : (l : List ℕ) → Run 0 l
  unfolding parts fresh
  run_start l = let none : 0 - m ≡ 0 = omega arith in rw none

  pub run_on : (j k : ℕ) (l l' : List ℕ) → k ≡ key_of d (take j r) → Run j l → Appended m j (raised c (blank k)) l l' → Run (j + 1) l'
  unfolding parts fresh
  run_on j k l l' e run a = elim (order j m) [
    | less h ↦ let none : j + 1 - m ≡ 0 = omega arith in rw none
    | same h ↦ next (omega arith)
    | more h ↦ next (omega arith)
  ]
    where
      next : m ≤ j → Run (j + 1) l'
      next h =
          let more : j + 1 - m ≡ suc (j - m) = omega arith in
          let back : m + (j - m) ≡ j = omega arith in
          let new : raised c (blank k) ≡ raised c (blank (key_of d (take (m + (j - m)) r))) = ap (λ (x : ℕ). raised c (blank x)) (e ∙ ap (λ (x : ℕ). key_of d (take x r)) (sym back)) in
          let longer = a.there h in
          rw more (rw more at longer ∙ ap₂ (λ (x : List (List ℕ)) (y : List ℕ). x ++ (y ∷ [])) run new)

-- all of it
pub inserted : (d : ℕ) (r : List ℕ) (m c : ℕ) (l s ys : List ℕ) → Insertable d r m c l → (let gap = width * (length r + 1 - m) in
    s ≡ take gap l ++ take (length l - gap) l → length ys ≡ gap → records (length r + 1 - m) ys ≡ fresh (length r + 1 - m) m d r c → Inserted d r m c l (ys ++ drop gap s))
inserted d r m c l s ys q e long new =
    let gap = width * (length r + 1 - m) in
    record {
      new = parts_front width (length r + 1 - m) ys (drop gap s) (omega arith) ∙ new;
      moved =
          drop_at ys (drop gap s) gap long
          ∙ ap (drop gap) e
          ∙ drop_at (take gap l) (take (length l - gap) l) gap (length-take-le gap l q.fits);
    }
