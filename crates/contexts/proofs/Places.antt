-- N(s,a) by place, oldest first, is N(s,a) by past, most recent first. Assumes nothing.
use Prim.Native.Nat.{ℕ, zero, suc, ◌+◌, ◌-◌, ◌≤◌, ◌<◌}
use mathlib.Core.Path.{◌≡◌, refl, sym, ap, ap₂, ◌∙◌, subst}
use mathlib.Core.Bool.{Bool, true, false, ◌&&◌, and_assoc}
use mathlib.Core.List.{List, [], ◌∷◌, ◌++◌, reverse, reverse-cons, reverse-append, reverse-reverse}
use native.Mathlib.Omega.{arith}
use lib.ListN.{length, take, drop, get_or, length-take, length-drop, length-reverse, get_or-append, take-append-drop}
use lib.Seq.{take-append-le, drop-append-le, drop_at, take_all, get_or_at}
use lib.Dec.{T, eqb, ltb, leb, leb→le, le→leb, leb-suc-suc}
use borrow.Author.Tests.{ltb-true}
use Rattle.numbers.specs.Sum.{one}
use Rattle.numbers.proofs.Tests.{bool_ext, both, left, right}
use Rattle.contexts.specs.Context.{eqs, begins}
use Rattle.contexts.specs.Counts.{places, follows, N_placed, N}
use Rattle.contexts.proofs.Strings.{eqs→eq, eq→eqs, begins→take, take→begins}

pub places_ext : (f g : ℕ → Bool) (n : ℕ) → ((i : ℕ) → 0 < i → i ≤ n → f i ≡ g i) → places f n ≡ places g n
places_ext f g zero h = refl
places_ext f g (suc n) h =
    ap₂ (λ (p q : ℕ). p + q) (places_ext f g n (λ i l u. h i l (omega arith))) (ap one (h (suc n) (omega arith) (omega arith)))

-- the last n symbols of the reversed past are the first n of the past, reversed
drop_reverse : (n : ℕ) (p : List ℕ) → n ≤ length p → drop (length p - n) (reverse p) ≡ reverse (take n p)
drop_reverse n p h =
    ap (drop (length p - n)) (ap reverse (sym (take-append-drop n p)) ∙ reverse-append (take n p) (drop n p))
    ∙ drop_at (reverse (drop n p)) (reverse (take n p)) (length p - n) (length-reverse (drop n p) ∙ length-drop n p)

-- one more symbol changes nothing at the earlier places
follows_earlier : (from : ℕ) (w s : List ℕ) (a x i : ℕ) → 0 < i → i ≤ length w → follows from (w ++ x ∷ []) s a i ≡ follows from w s a i
follows_earlier from w s a x i l u = go (ltb (length s) i) refl
  where
    go : (t : Bool) → ltb (length s) i ≡ t → follows from (w ++ x ∷ []) s a i ≡ follows from w s a i
    go false e = rw e
    go true e =
        let h = ltb-true (length s) i e in
        rw (
          drop-append-le (i - 1 - length s) w (x ∷ []) (omega arith),
          take-append-le (length s) (drop (i - 1 - length s) w) (x ∷ []) (simp length-drop (omega arith)),
          get_or-append w (x ∷ []) 0 (i - 1) (omega arith),
        )

-- at the newest place
follows_newest : (from : ℕ) (past s : List ℕ) (a x : ℕ)
    → follows from (reverse past ++ x ∷ []) (reverse s) a (suc (length past)) ≡ leb from (length past) && (begins s past && eqb x a)
follows_newest from past s a x =
    rw (leb-suc-suc from (length past), length-reverse s, leb-suc-suc (length s) (length past), last_symbol, ← before, and_assoc (leb (length s) (length past)))
  where
    w : List ℕ
    w = reverse past ++ x ∷ []

    last_symbol : get_or w (suc (length past) - 1) 0 ≡ x
    last_symbol = get_or_at (reverse past) x [] 0 (suc (length past) - 1) (length-reverse past ∙ omega arith)

    part : length s ≤ length past → take (length s) (drop (suc (length past) - 1 - length s) w) ≡ reverse (take (length s) past)
    part h =
        let e : suc (length past) - 1 - length s ≡ length past - length s = omega arith in
        rw (e, drop-append-le (length past - length s) (reverse past) (x ∷ []) (rw (length-reverse past) (omega arith)), drop_reverse (length s) past h)
        (rw (take-append-le (length s) (reverse (take (length s) past)) (x ∷ []) (rw (length-reverse (take (length s) past), length-take (length s) past) (omega arith)))
        (take_all (length s) (reverse (take (length s) past)) (rw (length-reverse (take (length s) past), length-take (length s) past) (omega arith))))

    before : (leb (length s) (length past) && eqs (take (length s) (drop (suc (length past) - 1 - length s) w)) (reverse s)) ≡ begins s past
    before = bool_ext _ _ to back
      where
        X : List ℕ
        X = take (length s) (drop (suc (length past) - 1 - length s) w)

        to : T (leb (length s) (length past) && eqs X (reverse s)) → T (begins s past)
        to h =
            let k = leb→le (length s) (length past) (left (leb (length s) (length past)) (eqs X (reverse s)) h) in
            let e = sym (part k) ∙ eqs→eq X (reverse s) (right (leb (length s) (length past)) (eqs X (reverse s)) h) in
            take→begins s past (sym (reverse-reverse (take (length s) past)) ∙ ap reverse e ∙ reverse-reverse s)

        back : T (begins s past) → T (leb (length s) (length past) && eqs X (reverse s))
        back h =
            let e = begins→take s past h in
            let k : length s ≤ length past = omega (arith, ap length e, length-take (length s) past) in
            both (leb (length s) (length past)) (eqs X (reverse s)) (le→leb (length s) (length past) k) (eq→eqs X (reverse s) (part k ∙ ap reverse e))

-- the newest symbol's place is the last
placed_past : (from : ℕ) (past s : List ℕ) (a : ℕ) → N_placed from (reverse past) (reverse s) a ≡ N from past s a
unfolding N
placed_past from [] s a = refl
placed_past from (x ∷ past) s a =
    let w : List ℕ = reverse past ++ x ∷ [] in
    let e : length w ≡ suc (length past) = ap length (sym (reverse-cons x past)) ∙ length-reverse (x ∷ past) in
    subst (λ (v : List ℕ). N_placed from v (reverse s) a ≡ N from (x ∷ past) s a) (sym (reverse-cons x past))
    (subst (λ (n : ℕ). places (follows from w (reverse s) a) n ≡ N from (x ∷ past) s a) (sym e)
    (ap₂ (λ (p q : ℕ). p + q)
    (places_ext (follows from w (reverse s) a) (follows from (reverse past) (reverse s) a) (length past)
    (λ i l u. follows_earlier from (reverse past) (reverse s) a x i l (rw (length-reverse past) u))
    ∙ ap (places (follows from (reverse past) (reverse s) a)) (sym (length-reverse past))
    ∙ placed_past from past s a)
    (ap one (follows_newest from past s a x))))

-- THEOREM. Document 01's count and the recursion over the past are the same number.
pub N_placed_is_N : (from : ℕ) (w s : List ℕ) (a : ℕ) → N_placed from w s a ≡ N from (reverse w) (reverse s) a
N_placed_is_N from w s a =
    let h = placed_past from (reverse w) (reverse s) a in
    rw (reverse-reverse w, reverse-reverse s) at h
