-- Where a walk over the records stands: at the rank of a key. What it passes from one context to the next. Assumes nothing.
use Prim.Native.Nat.{ℕ, zero, suc, ◌+◌, ◌-◌, ◌*◌, ◌^◌, ◌≤◌, ◌<◌}
use mathlib.Core.Path.{◌≡◌, refl, sym, ap, subst, ◌∙◌}
use mathlib.Core.Bool.{Bool, false}
use mathlib.Core.List.{List, [], ◌∷◌, ◌++◌, append_assoc, append-nil}
use native.Mathlib.Nat.{mul-le-mul_right}
use native.Mathlib.Omega.{arith}
use borrow.Author.Tests.{lt-ltb, le-ltb}
use lib.ListN.{length}
use lib.Dec.{T, eqb, eqb→eq}
use Rattle.numbers.specs.Limits.{most_symbols, deepest}
use Rattle.numbers.proofs.Tests.{or_left, or_right, or_rest}
use Rattle.numbers.proofs.Orders.{Leb, le, gt, leb_view, less, same, more, order, eq→eqb}
use Rattle.contexts.specs.Context.{is_context}
use Rattle.contexts.specs.Keys.{desk_span, key_of, desk_of}
use Rattle.contexts.proofs.Strings.{context_more, context_length}
use Rattle.contexts.proofs.KeyOrder.{Within}
use Rattle.rows.specs.Walk.{older}
use Rattle.records.specs.Records.{records, key, keys, rises}
use Rattle.records.specs.Held.{rank, held}
use Rattle.records.proofs.Rising.{rises_rest, rank_none}
use Rattle.records.proofs.Finding.{held_none}
use Rattle.weighing.specs.declared.Desk.{Desk}
use Rattle.weighing.specs.Sitting.{Weighable}
use Rattle.weighing.specs.Visit.{end_of}
use Rattle.weighing.proofs.Blocks.{digits_room, block_key, key_block, end_is}
use Rattle.weighing.proofs.BlockParts.{begins_split, begins_self, begins_append, context_split, context_older, end_older, key_older, later_child}

-- ---- ranks

-- where no record has a key from x up to y, both have one rank
pub rank_gap : (x y : ℕ) (rs : List (List ℕ)) → x ≤ y → ((k : ℕ) → T (held k rs) → x ≤ k → k < y → ⊥) → rank x (keys rs) ≡ rank y (keys rs)
unfolding rank held
rank_gap x y [] h none = refl
rank_gap x y (r ∷ rs) h none = go (leb_view x (key r)) (leb_view y (key r)) (rank_gap x y rs h (λ k m. none k (or_right (eqb (key r) k) (held k rs) m)))
  where
    go : {s t : Bool} → Leb x (key r) s → Leb y (key r) t → rank x (keys rs) ≡ rank y (keys rs) → rank x (keys (r ∷ rs)) ≡ rank y (keys (r ∷ rs))
    go (gt p) (gt q) ih = rw (lt-ltb (key r) x p, lt-ltb (key r) y q) (ap suc ih)
    go (gt p) (le q) ih = absurd (omega arith)
    go (le p) (gt q) ih = absurd (none (key r) (or_left (eqb (key r) (key r)) (held (key r) rs) (eq→eqb (key r) (key r) refl)) p q)
    go (le p) (le q) ih = rw (le-ltb (key r) x p, le-ltb (key r) y q)

-- past a key that is held
pub rank_own : (k lo : ℕ) (rs : List (List ℕ)) → T (rises lo (keys rs)) → T (held k rs) → rank (k + 1) (keys rs) ≡ rank k (keys rs) + 1
unfolding rank held
rank_own k lo [] up h = absurd h
rank_own k lo (r ∷ rs) up h =
    let rest = rises_rest lo (key r) (keys rs) up in
    elim (order (key r) k) [
      | less o ↦ rw (lt-ltb (key r) k o, lt-ltb (key r) (k + 1) (omega arith)) (omega (arith, rank_own k (suc (key r)) rs rest (later o)))
      | same e ↦ rw (le-ltb (key r) k (omega arith), lt-ltb (key r) (k + 1) (omega arith)) (ap suc (rank_none (k + 1) (suc (key r)) (keys rs) (omega arith) rest))
      | more o ↦ absurd (first o rest)
    ]
  where
    later : key r < k → T (held k rs)
    later o = or_rest (eqb (key r) k) (held k rs) h (λ e. let q = eqb→eq (key r) k e in omega arith)

    first : k < key r → T (rises (suc (key r)) (keys rs)) → ⊥
    first o rest = let q = held_none k (suc (key r)) rs rest (omega arith) in subst T q (or_rest (eqb (key r) k) (held k rs) h (λ e. let q = eqb→eq (key r) k e in omega arith))

-- the key from which the walk goes on to the child at a of a held context: past its own record, or past the block of the child before
abbrev pub turn_key : ℕ → List ℕ → ℕ → ℕ
turn_key d s zero = key_of d s + 1
turn_key d s (suc a) = end_of d (older s a)

-- ---- the records of a desk

-- a number within the keys of a desk
desk_of_lem : (d k : ℕ) → d * desk_span ≤ k → k < d * desk_span + desk_span → desk_of k ≡ d
desk_of_lem d k lo hi = omega arith

module _ (k : Desk) (n : ℕ) (l : List ℕ) (w : Weighable k n l) where
  pub within : (s : List ℕ) → T (is_context k.symbols k.depth s) → Within s
  within s c = context_more k.symbols most_symbols k.depth deepest s w.few w.shallow c

  -- what no context of the desk has, no record has
  none_between : (x y : ℕ) → k.number * desk_span ≤ x → y ≤ k.number * desk_span + desk_span
      → ((t : List ℕ) → T (is_context k.symbols k.depth t) → T (held (key_of k.number t) (records n l)) → x ≤ key_of k.number t → key_of k.number t < y → ⊥)
      → x ≤ y → rank x (keys (records n l)) ≡ rank y (keys (records n l))
  none_between x y lo hi none h = rank_gap x y (records n l) h (λ m held-m p q.
      let c = w.contexts m held-m (desk_of_lem k.number m (omega arith) (omega arith)) in
      none c.0 c.1 (subst (λ (z : ℕ). T (held z (records n l))) c.2 held-m) (omega (arith, c.2)) (omega (arith, c.2)))

  pub end_within : (s : List ℕ) → Within s → end_of k.number s ≤ k.number * desk_span + desk_span
  end_within s c =
      let long = context_length most_symbols deepest s c in
      omega (arith, end_is k.number (deepest - length s) s (omega arith), digits_room deepest (deepest - length s) s (omega arith) c)

  -- what begins a held context is held
  pub held_shorter : (s u : List ℕ) → T (is_context k.symbols k.depth (s ++ u)) → T (held (key_of k.number (s ++ u)) (records n l)) → T (held (key_of k.number s) (records n l))
  held_shorter s [] c h = subst (λ (z : List ℕ). T (held (key_of k.number z) (records n l))) (append-nil s) h
  held_shorter s (a ∷ u) c h =
      let p = context_split k.symbols k.depth s a u c in
      let e = sym (append_assoc s (a ∷ []) u) in
      w.parents s a
      (held_shorter (older s a) u (subst (λ (z : List ℕ). T (is_context k.symbols k.depth z)) e c) (subst (λ (z : List ℕ). T (held (key_of k.number z) (records n l))) e h))
      (context_older k.symbols k.depth s a p.0 p.1 p.2)

  module _ (s : List ℕ) (c : T (is_context k.symbols k.depth s)) where
    -- nothing of the block of a context that is not held
    pub past_absent : held (key_of k.number s) (records n l) ≡ false → rank (key_of k.number s) (keys (records n l)) ≡ rank (end_of k.number s) (keys (records n l))
    past_absent off = none_between (key_of k.number s) (end_of k.number s) (omega arith) (end_within s (within s c)) in_block (omega (arith, block_key k.number s s (within s c) (within s c) (begins_self s)))
      where
        in_block : (t : List ℕ) → T (is_context k.symbols k.depth t) → T (held (key_of k.number t) (records n l)) → key_of k.number s ≤ key_of k.number t → key_of k.number t < end_of k.number s → ⊥
        in_block t ct h p q =
            let g = begins_split s t (key_block k.number s t (within s c) (within t ct) p q) in
            subst T off (held_shorter s g.0 (subst (λ (z : List ℕ). T (is_context k.symbols k.depth z)) g.1 ct) (subst (λ (z : List ℕ). T (held (key_of k.number z) (records n l))) g.1 h))

    -- a context with no symbol left has no other in its block
    pub past_deepest : length s ≡ k.depth → rank (key_of k.number s + 1) (keys (records n l)) ≡ rank (end_of k.number s) (keys (records n l))
    past_deepest full = none_between (key_of k.number s + 1) (end_of k.number s) (omega arith) (end_within s (within s c)) in_block (omega (arith, block_key k.number s s (within s c) (within s c) (begins_self s)))
      where
        in_block : (t : List ℕ) → T (is_context k.symbols k.depth t) → T (held (key_of k.number t) (records n l)) → key_of k.number s + 1 ≤ key_of k.number t → key_of k.number t < end_of k.number s → ⊥
        in_block t ct _ p q = let g = begins_split s t (key_block k.number s t (within s c) (within t ct) (omega arith) q) in go g.0 g.1
          where
            go : (u : List ℕ) → t ≡ s ++ u → ⊥
            go [] e = let f = ap (key_of k.number) (e ∙ append-nil s) in omega arith
            go (a ∷ u) e = omega (arith, (context_split k.symbols k.depth s a u (subst (λ (z : List ℕ). T (is_context k.symbols k.depth z)) e ct)).2)

    module _ (j : ℕ) (h : length s + suc j ≡ deepest) (deeper : length s < k.depth) where
      pub turn_at : (a : ℕ) → a < k.symbols → rank (turn_key k.number s a) (keys (records n l)) ≡ rank (key_of k.number (older s a)) (keys (records n l))
      turn_at zero lt = let e : turn_key k.number s zero ≡ key_of k.number (older s zero) = omega (arith, key_older k.number j s h zero) in ap (λ (z : ℕ). rank z (keys (records n l))) e
      turn_at (suc a) lt =
          let low = end_older k.number j s h a in
          let up = key_older k.number j s h (suc a) in
          none_between (end_of k.number (older s a)) (key_of k.number (older s (suc a))) (omega arith) (omega (arith, end_within s (within s c), inner (suc a) lt)) between (omega arith)
        where
          inner : (b : ℕ) → b < k.symbols → key_of k.number (older s b) < end_of k.number s
          inner b l = (block_key k.number s (older s b) (within s c) (within (older s b) (context_older k.symbols k.depth s b c l deeper)) (begins_append s (b ∷ []))).1

          between : (t : List ℕ) → T (is_context k.symbols k.depth t) → T (held (key_of k.number t) (records n l)) → end_of k.number (older s a) ≤ key_of k.number t → key_of k.number t < key_of k.number (older s (suc a)) → ⊥
          between t ct _ p q =
              let g = later_child k.symbols k.number j a s t h (within s c) (within t ct) (context_more k.symbols k.symbols k.depth deepest t (omega arith) w.shallow ct) p (omega (arith, inner (suc a) lt)) in
              omega (arith, g.3, key_older k.number j s h g.0, key_older k.number j s h (suc a), mul-le-mul_right {m = suc a} {n = g.0} (8 ^ suc j) g.1)

      pub turns_past : (a : ℕ) → suc a ≡ k.symbols → rank (turn_key k.number s (suc a)) (keys (records n l)) ≡ rank (end_of k.number s) (keys (records n l))
      turns_past a last = none_between (end_of k.number (older s a)) (end_of k.number s) (omega arith) (end_within s (within s c)) between
          (let e = end_older k.number j s h a in omega (arith, end_is k.number (suc j) s h, mul-le-mul_right {m = suc a} {n = 8} (8 ^ suc j) (omega (arith, w.few))))
        where
          between : (t : List ℕ) → T (is_context k.symbols k.depth t) → T (held (key_of k.number t) (records n l)) → end_of k.number (older s a) ≤ key_of k.number t → key_of k.number t < end_of k.number s → ⊥
          between t ct _ p q =
              let g = later_child k.symbols k.number j a s t h (within s c) (within t ct) (context_more k.symbols k.symbols k.depth deepest t (omega arith) w.shallow ct) p q in
              omega (arith, g.1, g.2)
