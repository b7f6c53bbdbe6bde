-- One record of a walk, and the others: what a desk holds of them, and how the walk goes on. Assumes nothing.
use mathlib.Core.Path.{◌≡◌, refl, sym, ap, ◌∙◌}
use mathlib.Core.Bool.{Bool, true, false, cond}
use mathlib.Core.List.{List, [], ◌∷◌}
use Prim.Native.Nat.{ℕ, ◌+◌, ◌<◌}
use native.Mathlib.Omega.{arith}
use lib.Dec.{eqb}
use lib.ListN.{length, drop, get_or}
use Rattle.numbers.specs.Sum.{one}
use Rattle.numbers.proofs.Lists.{cons_at, none_at}
use Rattle.contexts.specs.Keys.{desk_of, len_of}
use Rattle.contexts.specs.Sitting.{first, second}
use Rattle.records.specs.Records.{key}
use Rattle.records.specs.Held.{keep, of_desk}
use Rattle.store.specs.Sound.{held_by}
use Rattle.store.specs.Walk.{walked, step_ok, marks_after}

held_cons : (d : ℕ) (r : List ℕ) (rs : List (List ℕ)) → held_by d (r ∷ rs) ≡ one (eqb (desk_of (key r)) d) + held_by d rs
unfolding keep
held_cons d r rs = go (eqb (desk_of (key r)) d)
  where
    go : (t : Bool) → length (cond t (r ∷ keep (of_desk d) rs) (keep (of_desk d) rs)) ≡ one t + length (keep (of_desk d) rs)
    go true = omega arith
    go false = omega arith

held_nil : (d : ℕ) → held_by d [] ≡ 0
unfolding keep
held_nil d = refl

module _ (rs : List (List ℕ)) (i : ℕ) where
  pub held_step : (d : ℕ) → i < length rs → held_by d (drop i rs) ≡ one (eqb (desk_of (key (get_or rs i []))) d) + held_by d (drop (i + 1) rs)
  held_step d h = ap (held_by d) (cons_at rs i [] h) ∙ held_cons d (get_or rs i []) (drop (i + 1) rs)

  pub held_end : (d : ℕ) → i ≡ length rs → held_by d (drop i rs) ≡ 0
  held_end d e = ap (held_by d) (none_at rs i e) ∙ held_nil d

  pub walk_step : (s : List ℕ) (lo : ℕ) (p q : List ℕ) → i < length rs → (r : List ℕ) → r ≡ get_or rs i []
      → step_ok s lo (get_or p (len_of (key r)) 0) (get_or q (len_of (key r)) 0) r ≡ true
      → walked s lo p q (drop i rs) ≡ walked s (key r + 1) (marks_after first r p) (marks_after second r q) (drop (i + 1) rs)
  unfolding walked
  walk_step s lo p q h r e good = ap (walked s lo p q) (cons_at rs i [] h ∙ ap (λ (x : List ℕ). x ∷ drop (i + 1) rs) (sym e)) ∙ rw good

  pub walk_bad : (s : List ℕ) (lo : ℕ) (p q : List ℕ) → i < length rs → (r : List ℕ) → r ≡ get_or rs i []
      → step_ok s lo (get_or p (len_of (key r)) 0) (get_or q (len_of (key r)) 0) r ≡ false → walked s lo p q (drop i rs) ≡ false
  unfolding walked
  walk_bad s lo p q h r e bad = ap (walked s lo p q) (cons_at rs i [] h ∙ ap (λ (x : List ℕ). x ∷ drop (i + 1) rs) (sym e)) ∙ rw bad

  pub walk_end : (s : List ℕ) (lo : ℕ) (p q : List ℕ) → i ≡ length rs → walked s lo p q (drop i rs) ≡ true
  unfolding walked
  walk_end s lo p q e = ap (walked s lo p q) (none_at rs i e)
