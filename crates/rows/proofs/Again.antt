-- A list in order whose members are another's, changed one to one, is that list changed and put in order again. Assumes nothing.
use Prim.Native.Nat.{suc}
use native.Mathlib.Nat.{ℕ_set}
use mathlib.Core.Path.{◌≡◌, refl, sym, ap, ap₂, subst, ◌∙◌}
use mathlib.Core.Logic.{∥∥₁_elim, ∥∥₁_map}
use mathlib.Core.HLevel.{⊥_prop}
use mathlib.Core.List.Perm
use mathlib.Core.List.Pairwise
use mathlib.Core.List.{List, [], ◌∷◌, map, map-id, map-map, Memᴰ, Perm, perm_ext_iff_of_Nodup, Nodup, Permᴰ}
use lib.ListN.{length, length-map}
use Rattle.contexts.specs.Sitting.{Sitting}
use Rattle.rows.specs.Members.{Member, Increasing}
use Rattle.rows.specs.Rows.{Row, row_of}
use Rattle.rows.specs.Exchange.{member_in, InOrderAgain}
use Rattle.rows.proofs.Ordering.{increasing_once}

-- no two of an increasing list are the same after a change that is one to one on them ..
nodup_map : (f : Member → Member) (xs : List Member) → Increasing xs → ((p q : Member) → Memᴰ p xs → Memᴰ q xs → f p ≡ f q → p ≡ q) → Nodup (map f xs)
nodup_map f [] p once = Pairwise.nil
nodup_map f (x ∷ xs) p once =
    Pairwise.cons
    (λ q m e. ∥∥₁_elim m ⊥_prop (λ d. let y = mathlib.Core.List.Memᴰ.of_map f xs d in increasing_once x xs p y.0 y.1 (sym (once x y.0 (mathlib.Core.List.Memᴰ.head refl) (mathlib.Core.List.Memᴰ.tail y.1) (e ∙ sym y.2)))))
    (nodup_map f xs p.1 (λ r q m k. once r q (mathlib.Core.List.Memᴰ.tail m) (mathlib.Core.List.Memᴰ.tail k)))

-- .. nor as they are
nodup : (xs : List Member) → Increasing xs → Nodup xs
nodup xs p = subst Nodup (map-id xs) (nodup_map (λ q. q) xs p (λ q r m k e. e))

map_alike : {X Y : Type 0} (f g : X → Y) (xs : List X) → ((x : X) → Memᴰ x xs → f x ≡ g x) → map f xs ≡ map g xs
map_alike f g [] e = refl
map_alike {Y} f g (x ∷ xs) e = ap₂ {C = List Y} ◌∷◌ (e x (mathlib.Core.List.Memᴰ.head refl)) (map_alike f g xs (λ y m. e y (mathlib.Core.List.Memᴰ.tail m)))

members_in : (y : Sitting) (xs : List Member) → map member_in (map (row_of y) xs) ≡ xs
members_in y [] = refl
members_in y (p ∷ xs) = ap (λ (ps : List Member). p ∷ ps) (members_in y xs)

module _ (x y : Sitting) (xs ys : List Member) (up : Increasing xs) (up' : Increasing ys) (f : Member → Member) (change : Row → Row)
    (to : (p : Member) → Memᴰ p xs → Memᴰ (f p) ys)
    (back : (q : Member) → Memᴰ q ys → (p : Member) × Memᴰ p xs × (f p ≡ q))
    (once : (p q : Member) → Memᴰ p xs → Memᴰ q xs → f p ≡ f q → p ≡ q)
    (row : (p : Member) → Memᴰ p xs → change (row_of x p) ≡ row_of y (f p)) where
  same_members : Perm (map f xs) ys
  same_members = (perm_ext_iff_of_Nodup (nodup_map f xs up once) (nodup ys up')).1 (λ q. (
    λ m. ∥∥₁_map {B = Memᴰ q ys} m (λ d. let z = mathlib.Core.List.Memᴰ.of_map f xs d in subst (λ (r : Member). Memᴰ r ys) z.2 (to z.0 z.1)),
    λ m. ∥∥₁_map {B = Memᴰ q (map f xs)} m (λ d. let z = back q d in subst (λ (r : Member). Memᴰ r (map f xs)) z.2 (mathlib.Core.List.Memᴰ.map f z.1)),
  ))

  changed : map (row_of y) (map f xs) ≡ map change (map (row_of x) xs)
  changed = map-map (row_of y) f xs ∙ sym (map_alike (λ p. change (row_of x p)) (λ p. row_of y (f p)) xs row) ∙ sym (map-map change (row_of x) xs)

  pub again : InOrderAgain change (map (row_of x) xs) (map (row_of y) ys)
  again = record {
    same_rows = subst (λ (rs : List Row). Perm rs (map (row_of y) ys)) changed (Perm.map (row_of y) same_members);
    in_order = subst Increasing (sym (members_in y ys)) up';
  }

-- one change after another
pub then_again : {f g : Row → Row} {qs rs ts : List Row} → InOrderAgain f qs rs → InOrderAgain g rs ts → InOrderAgain (λ r. g (f r)) qs ts
then_again {f} {g} {qs} {rs} {ts} a b = record {
  same_rows = Perm.trans (subst (λ (l : List Row). Perm l (map g rs)) (map-map g f qs) (Perm.map g a.same_rows)) b.same_rows;
  in_order = b.in_order;
}

-- ---- as many rows

perm_length : {X : Type 0} {l k : List X} → Permᴰ l k → length l ≡ length k
perm_length Permᴰ.nil = refl
perm_length (Permᴰ.cons e d) = ap suc (perm_length d)
perm_length (Permᴰ.swap e f) = refl
perm_length (Permᴰ.trans c d) = perm_length c ∙ perm_length d

pub as_many : {change : Row → Row} {qs rs : List Row} → InOrderAgain change qs rs → length rs ≡ length qs
as_many {change} {qs} {rs} a = sym (∥∥₁_elim a.same_rows (ℕ_set (length (map change qs)) (length rs)) perm_length) ∙ length-map qs change
