-- One desk's records: they stand together, and taking them out leaves every other desk's as they were. Assumes nothing.
use mathlib.Core.Path.{◌≡◌, refl, sym, ap, ◌∙◌}
use mathlib.Core.Logic.{◌≢◌}
use mathlib.Core.Bool.{Bool, true, false, cond, not, ◌&&◌}
use mathlib.Core.List.{List, [], ◌∷◌, ◌++◌}
use Prim.Native.Nat.{ℕ, suc, ◌+◌, ◌*◌, ◌≤◌, ◌<◌}
use native.Mathlib.Omega.{arith}
use borrow.Author.Tests.{lt-ltb, le-ltb, eq-eqb, ne_eqb}
use lib.Dec.{T, eqb, eqb→eq}
use lib.ListN.{length, take, drop, get_or}
use Rattle.numbers.specs.Sum.{one, sum}
use Rattle.numbers.proofs.Orders.{Leb, le, gt, leb_view, eqb_sym}
use Rattle.numbers.proofs.Sums.{sum_zero, sum_cong, sum_pick}
use Rattle.contexts.specs.Keys.{desk_span, desk_of}
use Rattle.records.specs.Records.{key, keys, rises, blank, lookup}
use Rattle.records.specs.Held.{rank, held, keep, of_desk, without, Rising, Wide}
use Rattle.records.proofs.Rising.{rises_rest, rank_none}
use Rattle.records.proofs.Keeping.{rises_keep, wide_keep, length_split, held_keep, lookup_keep, lookup_out, keep_keep, keep_none}

module _ (d : ℕ) where
  pub rising_without : (rs : List (List ℕ)) → Rising rs → Rising (without d rs)
  rising_without rs up = rises_keep (λ k. not (of_desk d k)) 0 rs up

  pub wide_without : (rs : List (List ℕ)) → Wide rs → Wide (without d rs)
  wide_without rs w = wide_keep (λ k. not (of_desk d k)) rs w

  -- the desk's records and the others are all
  pub length_without : (rs : List (List ℕ)) → length (keep (of_desk d) rs) + length (without d rs) ≡ length rs
  length_without rs = length_split (of_desk d) rs

  pub held_without : (k : ℕ) (rs : List (List ℕ)) → held k (without d rs) ≡ (not (of_desk d k) && held k rs)
  held_without k rs = held_keep (λ x. not (of_desk d x)) k rs

  -- another desk's records stay
  pub other_without : (e : ℕ) (rs : List (List ℕ)) → d ≢ e → keep (of_desk e) (without d rs) ≡ keep (of_desk e) rs
  other_without e rs n = keep_keep (of_desk e) (λ k. not (of_desk d k)) rs stays
    where
      stays : (k : ℕ) → T (of_desk e k) → T (not (of_desk d k))
      stays k t = let q = eqb→eq (desk_of k) e t in rw (ne_eqb (desk_of k) d (λ r. n (sym r ∙ q))) tt

  -- its own are gone
  pub own_without : (rs : List (List ℕ)) → keep (of_desk d) (without d rs) ≡ []
  own_without rs = keep_none (of_desk d) (λ k. not (of_desk d k)) rs gone
    where
      gone : (k : ℕ) → T (not (of_desk d k)) → of_desk d k ≡ false
      gone k t = ne_eqb (desk_of k) d (λ q. absurd (rw (eq-eqb (desk_of k) d q) at t))

  -- what stands under a key of another desk, and of its own
  pub lookup_without : (k : ℕ) (rs : List (List ℕ)) → desk_of k ≢ d → lookup k (without d rs) ≡ lookup k rs
  lookup_without k rs n = lookup_keep (λ x. not (of_desk d x)) k rs (ap not (ne_eqb (desk_of k) d n))

  pub lookup_gone : (k : ℕ) (rs : List (List ℕ)) → desk_of k ≡ d → lookup k (without d rs) ≡ blank k
  lookup_gone k rs q = lookup_out (λ x. not (of_desk d x)) k rs (ap not (eq-eqb (desk_of k) d q))

-- the records of all desks are all
pub length_desks : (n : ℕ) (rs : List (List ℕ)) → ((p : ℕ) → p < length rs → desk_of (key (get_or rs p [])) < n) → length rs ≡ sum n (λ d. length (keep (of_desk d) rs))
unfolding keep
length_desks n [] h = sym (sum_zero n (λ d l. refl))
length_desks n (r ∷ rs) h =
    let ih = length_desks n rs (λ p l. h (suc p) (omega arith)) in
    let more = sum_pick n (desk_of (key r)) (λ d. length (keep (of_desk d) rs)) true (h 0 (omega arith)) in
    let each : sum n (λ d. length (cond (eqb (desk_of (key r)) d) (r ∷ keep (of_desk d) rs) (keep (of_desk d) rs))) ≡ sum n (λ d. length (keep (of_desk d) rs) + one (eqb d (desk_of (key r)))) =
    sum_cong n (λ d l. rw (eqb_sym (desk_of (key r)) d) (one_longer (eqb d (desk_of (key r))) (keep (of_desk d) rs))) in
    omega arith
  where
    one_longer : (t : Bool) (x : List (List ℕ)) → length (cond t (r ∷ x) x) ≡ length x + one t
    one_longer true x = omega arith
    one_longer false x = omega arith

rank_past : (k x : ℕ) (ks : List ℕ) → x < k → rank k (x ∷ ks) ≡ suc (rank k ks)
unfolding rank
rank_past k x ks h = rw (lt-ltb x k h)

rank_here : (k x : ℕ) (ks : List ℕ) → k ≤ x → rank k (x ∷ ks) ≡ 0
unfolding rank
rank_here k x ks h = rw (le-ltb x k h)

-- THEOREM. The desk's records lie from the rank of its first key to the rank of the next desk's
pub without_cut : (d lo : ℕ) (rs : List (List ℕ)) → T (rises lo (keys rs))
    → without d rs ≡ take (rank (d * desk_span) (keys rs)) rs ++ drop (rank ((d + 1) * desk_span) (keys rs)) rs
unfolding keep rank
without_cut d lo [] up = refl
without_cut d lo (r ∷ rs) up =
    let rest = rises_rest lo (key r) (keys rs) up in
    go (leb_view (d * desk_span) (key r)) (leb_view ((d + 1) * desk_span) (key r)) rest (without_cut d (suc (key r)) rs rest)
  where
    cut : List (List ℕ) → List (List ℕ)
    cut x = take (rank (d * desk_span) (keys x)) x ++ drop (rank ((d + 1) * desk_span) (keys x)) x

    go : {s t : Bool} → Leb (d * desk_span) (key r) s → Leb ((d + 1) * desk_span) (key r) t → T (rises (suc (key r)) (keys rs))
        → without d rs ≡ cut rs → without d (r ∷ rs) ≡ cut (r ∷ rs)
    go (gt h) v rest ih =
        rw (ne_eqb (desk_of (key r)) d (λ e. omega arith), rank_past (d * desk_span) (key r) (keys rs) h, rank_past ((d + 1) * desk_span) (key r) (keys rs) (omega arith))
        (ap (λ (t : List (List ℕ)). r ∷ t) ih)
    go (le h) (gt g) rest ih =
        let here : desk_of (key r) ≡ d = omega arith in
        let none = rank_none (d * desk_span) (suc (key r)) (keys rs) (omega arith) rest in
        rw (eq-eqb (desk_of (key r)) d here, rank_here (d * desk_span) (key r) (keys rs) h, rank_past ((d + 1) * desk_span) (key r) (keys rs) g) (rw none at ih)
    go (le h) (le g) rest ih =
        let none = rank_none (d * desk_span) (suc (key r)) (keys rs) (omega arith) rest in
        let none' = rank_none ((d + 1) * desk_span) (suc (key r)) (keys rs) (omega arith) rest in
        rw (ne_eqb (desk_of (key r)) d (λ e. omega arith), rank_here (d * desk_span) (key r) (keys rs) h, rank_here ((d + 1) * desk_span) (key r) (keys rs) g)
        (ap (λ (t : List (List ℕ)). r ∷ t) (rw (none, none') at ih))
