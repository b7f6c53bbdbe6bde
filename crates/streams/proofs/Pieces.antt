-- Pieces read one after another: what they leave in a buffer, and that together they are what was read. Assumes nothing.
use Rattle.std.proofs.Common.{◌≡◌, ℕ, ◌+◌, ◌≤◌, List, ◌++◌, length, take, ap, subst, ◌∙◌, append_assoc}
use Rattle.std.proofs.Math.Seq.{take-append-add, length-take-le}
use Rattle.std.proofs.lemmas.List.{take-append-le}
use Rattle.std.specs.Io.KnownBytes.{Consumes}
use Rattle.std.specs.Prelude.{Option, None, Some}

-- a piece of n bytes put after the first a
pub take_pieces : (a n : ℕ) (xs ys zs : List ℕ) → a ≤ length xs → n ≤ length ys → take (a + n) (take a xs ++ (ys ++ zs)) ≡ take a xs ++ take n ys
take_pieces a n xs ys zs h l =
    let e : length (take a xs) ≡ a = length-take-le a xs h in
    subst (λ (k : ℕ). take (k + n) (take a xs ++ (ys ++ zs)) ≡ take a xs ++ take n ys) e
    (take-append-add (take a xs) (ys ++ zs) n ∙ ap (λ (t : List ℕ). take a xs ++ t) (take-append-le n ys zs l))

-- two pieces of what was known
pub consumes_both : (a b c : Option (List ℕ)) (xs ys : List ℕ) → Consumes a b xs → Consumes b c ys → Consumes a c (xs ++ ys)
consumes_both None b c xs ys p q = tt
consumes_both (Some s) None c xs ys p q = absurd p
consumes_both (Some s) (Some t) None xs ys p q = absurd q
consumes_both (Some s) (Some t) (Some u) xs ys p q = cc (p, q, append_assoc xs ys u)
