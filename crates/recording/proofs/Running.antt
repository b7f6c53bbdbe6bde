-- A run of new records, which a feed puts in at one place: nothing stands between the missing contexts, and none of them is held. Assumes nothing.
use mathlib.Core.Path.{◌≡◌, refl, sym, ap, ◌∙◌}
use mathlib.Core.Bool.{Bool, true}
use mathlib.Core.List.{List, [], ◌∷◌, ◌++◌, append_assoc}
use Prim.Native.Nat.{ℕ, zero, suc, ◌+◌, ◌-◌, ◌≤◌, ◌<◌}
use native.Mathlib.Nat.{add-zero, add-suc}
use native.Mathlib.Omega.{arith}
use lib.Dec.{T}
use lib.ListN.{length, take, drop, length-append, length-map, take-append-drop}
use Rattle.numbers.proofs.Orders.{Leb, le, gt, leb_view}
use Rattle.contexts.specs.Keys.{key_of}
use Rattle.contexts.proofs.KeyOrder.{Within}
use Rattle.contexts.specs.Sitting.{Sample, first}
use Rattle.records.specs.Records.{key, keys, rises, blank}
use Rattle.records.specs.Held.{rank, held, Rising}
use Rattle.records.specs.Bumped.{cell_of, raised, bumped_at}
use Rattle.records.specs.Fed.{fed_to, fed, fresh, missing}
use Rattle.records.specs.Located.{Located, Clear}
use Rattle.records.proofs.Rising.{rises_weaken}
use Rattle.recording.proofs.Around.{held_keys, front_bumped, back_rises}
use Rattle.records.proofs.Bumping.{bumped_later, bumped_front, key_raised, keys_bumped}
use Rattle.records.proofs.Counting.{cell_past}
use Rattle.recording.proofs.Feeding.{rising_fed_to}
use Rattle.recording.proofs.Growing.{length_fed}
use Rattle.records.proofs.KeyWalk.{key_longer, key_le, key_most}

-- ---- the new records

length_fresh : (q m d : ℕ) (r : List ℕ) (c : ℕ) → length (fresh q m d r c) ≡ q
unfolding fresh
length_fresh zero m d r c = refl
length_fresh (suc q) m d r c = let ih = length_fresh q m d r c in simp length-append (omega arith)

-- they come before a greater key
fresh_bumped : (q m d : ℕ) (r : List ℕ) (c k : ℕ) (ys : List (List ℕ)) → 1 ≤ c → ((j : ℕ) → j < q → key_of d (take (m + j) r) < k)
    → bumped_at k c (fresh q m d r c ++ ys) ≡ fresh q m d r c ++ bumped_at k c ys
unfolding fresh
fresh_bumped zero m d r c k ys past h = refl
fresh_bumped (suc q) m d r c k ys past h =
    let new = raised c (blank (key_of d (take (m + q) r))) in
    let before : key new < k = rw (key_raised c past (blank (key_of d (take (m + q) r)))) (h q (omega arith)) in
    ap (bumped_at k c) (append_assoc (fresh q m d r c) (new ∷ []) ys)
    ∙ fresh_bumped q m d r c k (new ∷ ys) past (λ j l. h j (omega arith))
    ∙ ap (λ (t : List (List ℕ)). fresh q m d r c ++ t) (bumped_later k c new ys before)
    ∙ sym (append_assoc (fresh q m d r c) (new ∷ []) (bumped_at k c ys))

-- ---- a feed whose first m contexts are held

module _ (d : ℕ) (i : Sample) (a : ℕ) (r : List ℕ) (cr : Within r) (rs : List (List ℕ)) (up : Rising rs) (m : ℕ)
    (are_held : (j : ℕ) → j < m → held (key_of d (take j r)) rs ≡ true) where
  -- they leave the keys as they were
  pub keys_fed_to : (j : ℕ) → j ≤ m → keys (fed_to j d i a r rs) ≡ keys rs
  unfolding fed_to
  keys_fed_to zero h = refl
  keys_fed_to (suc j) h =
      let before = fed_to j d i a r rs in
      let same = keys_fed_to j (omega arith) in
      keys_bumped (cell_of i a) (cell_past i a) (key_of d (take j r)) 0 before (rising_fed_to d i a r j rs up) (held_keys (key_of d (take j r)) before rs same ∙ are_held j h)
      ∙ same

  -- so their number too
  length_held : length (fed_to m d i a r rs) ≡ length rs
  length_held = sym (length-map (fed_to m d i a r rs) key) ∙ ap length (keys_fed_to m (omega arith)) ∙ length-map rs key

  module _ (on : m ≤ length r) (free : Clear (key_of d (take m r)) (key_of d r) rs) where
    abbrev before : List (List ℕ)
    before = fed_to m d i a r rs

    abbrev place : ℕ
    place = rank (key_of d (take m r)) (keys before)

    back : (j : ℕ) → j ≤ length r → T (rises (suc (key_of d (take j r))) (keys (drop place before)))
    back j h =
        let most = key_most d r cr j h in
        rises_weaken (suc (key_of d (take j r))) (suc (key_of d r)) (keys (drop place before)) (omega arith)
        (back_rises (key_of d (take m r)) (key_of d r) 0 before (rising_fed_to d i a r m rs up) (λ x b e. held_keys x before rs (keys_fed_to m (omega arith)) ∙ free x b e))

    -- THEOREM. The missing ones are one run at one place
    pub fed_fresh : (q : ℕ) → m + q ≤ suc (length r) → fed_to (m + q) d i a r rs ≡ take place before ++ (fresh q m d r (cell_of i a) ++ drop place before)
    unfolding fed_to fresh
    fed_fresh zero h = rw (add-zero m) (sym (take-append-drop place before))
    fed_fresh (suc q) h =
        let c = cell_of i a in
        let k = key_of d (take (m + q) r) in
        let new = raised c (blank k) in
        let run = fresh q m d r c in
        let rest = drop place before in
        let first : key_of d (take m r) ≤ k = key_le d r cr m (m + q) (omega arith) (omega arith) in
        rw (add-suc m q)
        (ap (bumped_at k c) (fed_fresh q (omega arith))
        ∙ front_bumped (key_of d (take m r)) k c before (run ++ rest) first
        ∙ ap (λ (t : List (List ℕ)). take place before ++ t)
        (fresh_bumped q m d r c k rest (cell_past i a) (λ j l. key_longer d r cr (m + j) (m + q) (omega arith) (omega arith))
        ∙ ap (λ (t : List (List ℕ)). run ++ t) (bumped_front k c rest (back (m + q) (omega arith)))
        ∙ sym (append_assoc run (new ∷ []) rest)))

    pub fed_run_lem : fed d i a r rs ≡ take place before ++ (fresh (length r + 1 - m) m d r (cell_of i a) ++ drop place before)
    fed_run_lem =
        let all : m + (length r + 1 - m) ≡ suc (length r) = omega arith in
        rw all at (fed_fresh (length r + 1 - m) (omega arith))

-- ---- how many are missing

pub missing_is : (d : ℕ) (r : List ℕ) → Within r → (rs : List (List ℕ)) → Rising rs → (m : ℕ) (places : List ℕ) → Located d r rs m places
    → (m ≤ length r → Clear (key_of d (take m r)) (key_of d r) rs) → missing d r rs ≡ length r + 1 - m
missing_is d r cr rs up m places at free = go (leb_view m (length r))
  where
    all : length (fed d first 0 r rs) ≡ length rs + missing d r rs
    all = length_fed d first 0 r cr rs up

    same : length (fed_to m d first 0 r rs) ≡ length rs
    same = length_held d first 0 r cr rs up m at.are_held

    go : {t : Bool} → Leb m (length r) t → missing d r rs ≡ length r + 1 - m
    go (le h) =
        let before = fed_to m d first 0 r rs in
        let p = rank (key_of d (take m r)) (keys before) in
        let run = fresh (length r + 1 - m) m d r (cell_of first 0) in
        omega (
          arith,
          all,
          same,
          ap length (fed_run_lem d first 0 r cr rs up m at.are_held h (free h)),
          length-append (take p before) (run ++ drop p before),
          length-append run (drop p before),
          length_fresh (length r + 1 - m) m d r (cell_of first 0),
          length-append (take p before) (drop p before),
          ap length (take-append-drop p before),
        )
    go (gt h) =
        let whole : m ≡ suc (length r) = omega (arith, at.within) in
        omega (arith, all, same, ap (λ (j : ℕ). length (fed_to j d first 0 r rs)) whole)
