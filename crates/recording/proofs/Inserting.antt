-- The two ways in which a feed counts: the record at a key's place is raised, or a run of new records is put in at a place. Assumes nothing.
use mathlib.Core.Path.{◌≡◌, sym, ap, ◌∙◌}
use mathlib.Core.List.{List, [], ◌∷◌, ◌++◌}
use Prim.Native.Nat.{ℕ, zero, suc, ◌+◌, ◌-◌, ◌*◌, ◌≤◌, ◌<◌}
use native.Mathlib.Nat.{not-suc-le-zero, le_of_suc-le-suc}
use native.Mathlib.Omega.{arith}
use lib.ListN.{length, take, drop, get_or, set, length-drop, take-append-drop}
use lib.Seq.{drop-set-lt, take-take, length-take-le}
use Rattle.records.specs.Records.{width, records, key, keys, lookup}
use Rattle.records.specs.Held.{rank, Rising}
use Rattle.records.specs.Bumped.{raised, bumped_at, Cell, Written}
use Rattle.records.proofs.Parts.{length_parts, cell_at, parts_set, parts_insert, parts_of_take}
use Rattle.records.proofs.Lent.{past_lent}
use Rattle.records.proofs.Rising.{key_at}
use Rattle.records.proofs.Bumping.{bumped_later, bumped_here}
use Rattle.records.proofs.Ranked.{lookup_found, rank_suc}

-- the record at the place p of the key is raised
bumped_hit : (k c p : ℕ) (rs : List (List ℕ)) → rank k (keys rs) ≡ p → p < length rs → key (get_or rs p []) ≡ k
    → bumped_at k c rs ≡ set rs p (raised c (get_or rs p []))
bumped_hit k c p [] e h g = absurd (not-suc-le-zero h)
bumped_hit k c zero (r ∷ rs) e h g = bumped_here k c r rs g
bumped_hit k c (suc p) (r ∷ rs) e h g =
    let at = rank_suc k (key r) (keys rs) p e in
    bumped_later k c r rs at.0 ∙ ap (λ (t : List (List ℕ)). r ∷ t) (bumped_hit k c p rs at.1 (le_of_suc-le-suc h) g)

-- ---- in the numbers

module _ (k c n p : ℕ) (l : List ℕ) (cell : Cell c) (inside : p < n) (found : get_or l (width * p) 0 ≡ k) where
  -- the count that is raised
  pub hit_cell : Rising (records n l) → get_or (lookup k (records n l)) c 0 ≡ get_or l (width * p + c) 0
  hit_cell up = rw (lookup_found k n p l up inside found) (cell_at width n p c l inside cell.inside)

  pub bump_hit : p ≡ rank k (keys (records n l)) → (after : List ℕ) → after ≡ raised (width * p + c) l → Written (bumped_at k c (records n l)) n l after
  bump_hit at after e =
      let r = get_or (records n l) p [] in
      let v = get_or l (width * p + c) 0 in
      let in_records : p < length (records n l) = rw (length_parts width n l) inside in
      record {
        live =
            ap (records n) e
            ∙ parts_set width n p c (v + 1) l inside cell.inside
            ∙ ap (λ (x : ℕ). set (records n l) p (set r c (x + 1))) (sym (cell_at width n p c l inside cell.inside))
            ∙ sym (bumped_hit k c p (records n l) (sym at) in_records (key_at n p l inside ∙ found));
        past = ap (drop (width * n)) e ∙ drop-set-lt (width * n) l (width * p + c) (v + 1) (omega (arith, cell.inside));
      }

-- new records put in at a place: the part behind it lent and come back
pub run_written : (n p q : ℕ) (l ys : List ℕ) (run : List (List ℕ)) → p ≤ n → width * (n + q) ≤ length l
    → (let part = take (width * (n + q) - width * p) (drop (width * p) l) in length ys ≡ length part → records q ys ≡ run
    → drop (width * q) ys ≡ take (length part - width * q) part
    → Written (take p (records n l) ++ (run ++ drop p (records n l))) (n + q) l (take (width * p) l ++ (ys ++ drop (width * (n + q) - width * p) (drop (width * p) l))))
run_written n p q l ys run h room same new moved =
    let long = width * (n + q) - width * p in
    let above = drop (width * p) l in
    let part = take long above in
    let size : length part ≡ long = length-take-le long above (rw (length-drop (width * p) l) (omega arith)) in
    let kept : length part - width * q ≡ width * (n - p) = omega arith in
    let a = drop (width * q) ys in
    let front : length (take (width * q) ys) ≡ width * q = length-take-le (width * q) ys (omega arith) in
    let behind : a ≡ take (width * (n - p)) above = moved ∙ ap (λ (i : ℕ). take i part) kept ∙ take-take (width * (n - p)) long above (omega arith) in
    let first : records q (take (width * q) ys) ≡ run = parts_of_take width q (width * q) ys (omega arith) ∙ new in
    record {
      live =
          ap (λ (y : List ℕ). records (n + q) (take (width * p) l ++ (y ++ drop long above))) (sym (take-append-drop (width * q) ys))
          ∙ parts_insert width n l (omega arith) p q (take (width * q) ys) a (drop long above) h front behind
          ∙ ap (λ (r : List (List ℕ)). take p (records n l) ++ (r ++ drop p (records n l))) first;
      past = past_lent (width * p) (width * (n + q)) l (omega arith) room ys (same ∙ size);
    }
