-- The header that a feed writes, number by number, and as the code leaves it. Assumes nothing.
use mathlib.Core.Path.{◌≡◌, refl, sym, ap, ◌∙◌}
use mathlib.Core.Logic.{◌≢◌}
use mathlib.Core.List.{List, [], ◌∷◌, ◌++◌, append_assoc}
use Prim.Native.Nat.{ℕ, suc, ◌+◌, ◌-◌, ◌≤◌, ◌<◌}
use native.Mathlib.Omega.{arith}
use lib.ListN.{length, take, drop, get_or, set, length-set, length-drop}
use lib.Seq.{sets-eq, length-sets, get_or-set_same, get_or-set_other, drop-set-lt, drop-drop, length-take-le}
use Rattle.numbers.specs.Limits.{deepest}
use Rattle.store.specs.Layout.{header_size}
use Rattle.changes.specs.FedStore.{shifted}
use Rattle.changes.specs.Noted.{noted, Places}
use Rattle.changes.proofs.Sets.{sets_before, sets_past, sets_at, sets_drop}

-- six numbers moved on by one, as straight-line code does it
pub moved_on : (a : ℕ) (l : List ℕ) → length l ≡ deepest
    → (let l5 = set l 5 (get_or l 4 0) in
    let l4 = set l5 4 (get_or l5 3 0) in
    let l3 = set l4 3 (get_or l4 2 0) in
    let l2 = set l3 2 (get_or l3 1 0) in
    let l1 = set l2 1 (get_or l2 0 0) in
    set l1 0 a ≡ shifted a l)
moved_on a [] e = absurd (omega arith)
moved_on a (u ∷ []) e = absurd (omega arith)
moved_on a (u ∷ v ∷ []) e = absurd (omega arith)
moved_on a (u ∷ v ∷ w ∷ []) e = absurd (omega arith)
moved_on a (u ∷ v ∷ w ∷ x ∷ []) e = absurd (omega arith)
moved_on a (u ∷ v ∷ w ∷ x ∷ y ∷ []) e = absurd (omega arith)
moved_on a (u ∷ v ∷ w ∷ x ∷ y ∷ z ∷ []) e = refl
moved_on a (u ∷ v ∷ w ∷ x ∷ y ∷ z ∷ k ∷ l) e = absurd (omega arith)

module _ (m z y a : ℕ) (l : List ℕ) (p : Places z y l) where
  abbrev counted : List ℕ
  counted = set (set l 1 m) z (get_or l z 0 + 1)

  abbrev symbols : List ℕ
  symbols = shifted a (take deepest (drop y l))

  symbols_long : length symbols ≡ deepest
  symbols_long =
      let six : length (take deepest (drop y l)) ≡ deepest = length-take-le deepest (drop y l) (rw (length-drop y l) (omega (arith, p.in_header, p.long))) in
      ap suc (length-take-le 5 (take deepest (drop y l)) (omega arith))

  counted_long : length counted ≡ length l
  counted_long = length-set (set l 1 m) z (get_or l z 0 + 1) ∙ length-set l 1 m

  pub noted_length : length (noted m z y a l) ≡ length l
  noted_length = length-sets counted y symbols ∙ counted_long

  counted_other : (k : ℕ) → k ≢ 1 → k ≢ z → get_or counted k 0 ≡ get_or l k 0
  counted_other k q r = get_or-set_other (set l 1 m) z k (get_or l z 0 + 1) 0 r ∙ get_or-set_other l 1 k m 0 q

  pub noted_before : (k : ℕ) → k ≢ 1 → k ≢ z → k < y → get_or (noted m z y a l) k 0 ≡ get_or l k 0
  noted_before k q r h = sets_before counted y symbols k h ∙ counted_other k q r

  pub noted_past : (k : ℕ) → y + deepest ≤ k → get_or (noted m z y a l) k 0 ≡ get_or l k 0
  noted_past k h =
      sets_past counted y symbols k (omega (arith, symbols_long))
      ∙ counted_other k (λ e. omega (arith, p.past_used, p.in_order)) (λ e. omega (arith, p.in_order))

  pub noted_used : get_or (noted m z y a l) 1 0 ≡ m
  noted_used =
      sets_before counted y symbols 1 (omega (arith, p.past_used, p.in_order))
      ∙ get_or-set_other (set l 1 m) z 1 (get_or l z 0 + 1) 0 (λ e. omega (arith, p.past_used))
      ∙ get_or-set_same l 1 m 0 (omega (arith, p.long))

  pub noted_size : get_or (noted m z y a l) z 0 ≡ get_or l z 0 + 1
  noted_size =
      sets_before counted y symbols z p.in_order
      ∙ get_or-set_same (set l 1 m) z (get_or l z 0 + 1) 0 (omega (arith, length-set l 1 m, p.long, p.in_header, p.in_order))

  pub noted_symbol : (k : ℕ) → k < deepest → get_or (noted m z y a l) (y + k) 0 ≡ get_or symbols k 0
  noted_symbol k h = sets_at counted y symbols k (omega (arith, symbols_long)) (omega (arith, symbols_long, counted_long, p.in_header, p.long))

  pub noted_drop : drop header_size (noted m z y a l) ≡ drop header_size l
  noted_drop =
      sets_drop counted y symbols header_size (omega (arith, symbols_long, p.in_header))
      ∙ drop-set-lt header_size (set l 1 m) z (get_or l z 0 + 1) (omega (arith, p.in_order, p.in_header))
      ∙ drop-set-lt header_size l 1 m (omega arith)

  -- the six places lent, and come back moved on
  pub noted_lent : (let u = set (set l 1 m) z (get_or (set l 1 m) z 0 + 1) in
      take y u ++ (shifted a (take (y + deepest - y) (drop y u)) ++ drop (y + deepest - y) (drop y u)) ≡ noted m z y a l)
  noted_lent =
      let six : y + deepest - y ≡ deepest = omega arith in
      let own : get_or (set l 1 m) z 0 ≡ get_or l z 0 = get_or-set_other l 1 z m 0 (λ e. omega (arith, p.past_used)) in
      let same : drop y counted ≡ drop y l =
      drop-set-lt y (set l 1 m) z (get_or l z 0 + 1) p.in_order ∙ drop-set-lt y l 1 m (omega (arith, p.past_used, p.in_order)) in
      let past : y + length symbols ≡ y + deepest = omega (arith, symbols_long) in
      rw (six, own, same)
      (sym (sets-eq symbols counted y (omega (arith, symbols_long, counted_long, p.in_header, p.long))
      ∙ ap (λ (k : ℕ). take y counted ++ symbols ++ drop k counted) past
      ∙ ap (λ (t : List ℕ). take y counted ++ symbols ++ t) (sym (drop-drop deepest y counted) ∙ ap (drop deepest) same)
      ∙ append_assoc (take y counted) symbols (drop deepest (drop y l))))

  pub noted_back : (ys : List ℕ) → (let u = set (set l 1 m) z (get_or (set l 1 m) z 0 + 1) in
      ys ≡ shifted a (take (y + deepest - y) (drop y u)) → take y u ++ (ys ++ drop (y + deepest - y) (drop y u)) ≡ noted m z y a l)
  noted_back ys e = rw e noted_lent
