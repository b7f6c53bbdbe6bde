-- The loop of `seek`: the contexts that are shorter than j are held, at their places. Assumes nothing.
use mathlib.Core.Path.{◌≡◌, refl, sym, ap, subst, ◌∙◌}
use mathlib.Core.Bool.{true, false}
use mathlib.Core.List.{List, [], ◌∷◌}
use Prim.Native.Nat.{ℕ, suc, ◌+◌, ◌*◌, ◌≤◌, ◌<◌, suc-le-suc}
use native.Mathlib.Omega.{arith}
use borrow.Author.Tests.{lt-ltb, le-ltb, ne_eqb}
use lib.Dec.{T}
use lib.ListN.{length, take, get_or, set, replicate, length-set}
use lib.Seq.{get_or-set_same, get_or-set_other}
use Rattle.numbers.proofs.Lists.{zeros_at}
use Rattle.numbers.proofs.Orders.{less, same, more, order}
use Rattle.contexts.specs.Keys.{key_of}
use Rattle.records.specs.Records.{width, records, key, keys, rises}
use Rattle.records.specs.Held.{rank, held, Rising, Placed, Onward}
use Rattle.records.specs.Fed.{Askable}
use Rattle.records.specs.Located.{Seeks}
use Rattle.records.proofs.Parts.{length_parts}
use Rattle.records.proofs.Rising.{rises_rest, key_at, rank_same, above_middle}
use Rattle.records.proofs.Finding.{held_none}
use Rattle.records.proofs.KeyWalk.{Walk, key_longer}

-- a key that is held stands at its rank
held_rank : (k lo : ℕ) (rs : List (List ℕ)) → T (rises lo (keys rs)) → held k rs ≡ true → (rank k (keys rs) < length rs) × (key (get_or rs (rank k (keys rs)) []) ≡ k)
unfolding held rank
held_rank k lo [] up e = absurd (subst T (sym e) tt)
held_rank k lo (r ∷ rs) up e =
    let rest = rises_rest lo (key r) (keys rs) up in
    elim (order (key r) k) [
      | less h ↦
          let there = held_rank k (suc (key r)) rs rest (rw (ne_eqb (key r) k (λ q. omega arith)) at e) in
          rw (lt-ltb (key r) k h) (suc-le-suc there.0, there.1)
      | same q ↦ rw (le-ltb (key r) k (omega arith)) (omega arith, q)
      | more h ↦
          let none = held_none k (suc (key r)) rs rest (omega arith) in
          absurd (subst T (sym (rw (ne_eqb (key r) k (λ q. omega arith), none) at e)) tt)
    ]

pub found_at : (k n p : ℕ) (l : List ℕ) → Rising (records n l) → p ≡ rank k (keys (records n l)) → held k (records n l) ≡ true → (p < n) × (get_or l (width * p) 0 ≡ k)
found_at k n p l up at h =
    let there = held_rank k 0 (records n l) up h in
    let inside : p < n = omega (arith, there.0, length_parts width n l) in
    (inside, sym (key_at n p l inside) ∙ ap (λ (x : ℕ). key (get_or (records n l) x [])) at ∙ there.1)

-- the contexts shorter than j are held, and `from` does not come after the next
pub record Passed (d : ℕ) (r : List ℕ) (rs : List (List ℕ)) (places : List ℕ) (from j : ℕ) : Type 0 where
  pub are_held : (k : ℕ) → k < j → held (key_of d (take k r)) rs ≡ true
  pub stand_at : (k : ℕ) → k < j → get_or places k 0 ≡ rank (key_of d (take k r)) (keys rs)
  pub no_later : j ≤ length r → from ≤ rank (key_of d (take j r)) (keys rs)
  pub seven : length places ≡ 7
  pub others : (k : ℕ) → j ≤ k → get_or places k 0 ≡ 0

pub passed_start : (d : ℕ) (r : List ℕ) (rs : List (List ℕ)) → Passed d r rs (replicate 7 0) 0 0
passed_start d r rs = record {
  are_held = λ k h. absurd (omega arith);
  stand_at = λ k h. absurd (omega arith);
  no_later = λ h. omega arith;
  seven = refl;
  others = λ k h. zeros_at 7 k;
}

module _ (d : ℕ) (r : List ℕ) (n : ℕ) (l : List ℕ) (q : Askable d r n l) (places : List ℕ) (key eights from j : ℕ) (w : Walk d r key eights j)
    (p : Passed d r (records n l) places from j) where
  -- all were found
  pub located_all : length r < j → Seeks d r (records n l) j places
  located_all h = record {
    located = record {
      within = w.within;
      are_held = p.are_held;
      next_missing = λ g. absurd (omega arith);
      stand_at = λ k g m. p.stand_at k (omega arith);
    };
    seven = p.seven;
    others = λ k g. p.others k (omega (arith, w.within));
  }

  module _ (on : j ≤ length r) where
    key_now : key ≡ key_of d (take j r)
    key_now = w.key_is on

    pub onward : Onward key n from l
    onward = record { standing = q.standing; no_later = rw key_now (p.no_later on) }

    module _ (inside : j < length places) (at : ℕ) (found : Placed key n at l) where
      at_is : at ≡ rank (key_of d (take j r)) (keys (records n l))
      at_is = rank_same key (key_of d (take j r)) (keys (records n l)) at found.at key_now

      stand : (k : ℕ) → k ≤ j → get_or (set places j at) k 0 ≡ rank (key_of d (take k r)) (keys (records n l))
      stand k h = elim (order k j) [
        | less g ↦ get_or-set_other places j k at 0 (λ e. omega arith) ∙ p.stand_at k g
        | same e ↦ rw e (get_or-set_same places j at 0 inside ∙ at_is)
        | more g ↦ absurd (omega arith)
      ]

      rest : (k : ℕ) → j < k → get_or (set places j at) k 0 ≡ 0
      rest k h = get_or-set_other places j k at 0 (λ e. omega arith) ∙ p.others k (omega arith)

      -- the next one is missing
      pub located_here : held key (records n l) ≡ false → Seeks d r (records n l) j (set places j at)
      located_here h = record {
        located = record { within = w.within; are_held = p.are_held; next_missing = λ g. rw key_now at h; stand_at = λ k g m. stand k g };
        seven = length-set places j at ∙ p.seven;
        others = λ k g. rest k (omega arith);
      }

      -- .. or is held
      module _ (h : held key (records n l) ≡ true) where
        there : (at < n) × (get_or l (width * at) 0 ≡ key)
        there = found_at key n at l q.standing.rising found.at h

        held_to : (k : ℕ) → k < j + 1 → held (key_of d (take k r)) (records n l) ≡ true
        held_to k g = elim (order k j) [
          | less m ↦ p.are_held k m
          | same e ↦ rw (e, ← key_now) h
          | more m ↦ absurd (omega arith)
        ]

        later : j + 1 ≤ length r → at + 1 ≤ rank (key_of d (take (j + 1) r)) (keys (records n l))
        later g =
            let more = key_longer d r q.context j (j + 1) (omega arith) g in
            let past = above_middle n at (key_of d (take (j + 1) r)) l there.0 q.standing.rising (omega (arith, there.1, key_now)) in
            omega arith

        pub passed_on : Passed d r (records n l) (set places j at) (at + 1) (j + 1)
        passed_on = record {
          are_held = held_to;
          stand_at = λ k g. stand k (omega arith);
          no_later = later;
          seven = length-set places j at ∙ p.seven;
          others = λ k g. rest k (omega arith);
        }
