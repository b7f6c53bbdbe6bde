-- The missing contexts get their records, at one place and in the room behind the others; then all of a feed's contexts have one more. Assumes nothing.
use mathlib.Core.Path.{◌≡◌, sym, ap, ap₂, subst, ◌∙◌}
use mathlib.Core.List.{List, ◌++◌}
use Prim.Native.Nat.{ℕ, suc, ◌+◌, ◌-◌, ◌*◌, ◌≤◌, ◌<◌}
use native.Mathlib.Omega.{arith}
use lib.ListN.{length, take, drop, get_or}
use Rattle.contexts.specs.Keys.{key_of}
use Rattle.contexts.specs.Sitting.{sample_of}
use Rattle.contexts.proofs.KeyOrder.{Within}
use Rattle.records.specs.Records.{width, records, keys}
use Rattle.records.specs.Held.{rank, Rising}
use Rattle.records.specs.Bumped.{Written}
use Rattle.records.specs.Fed.{fed_to, fed}
use Rattle.records.specs.Located.{Ready, Inserted}
use Rattle.records.proofs.Parts.{length_parts}
use Rattle.records.proofs.Lent.{agree_later}
use Rattle.records.proofs.Rising.{rank_within}
use Rattle.recording.specs.Counted.{raised_each, with_missing, Growable}
use Rattle.recording.proofs.Growing.{length_fed}
use Rattle.recording.proofs.Inserting.{run_written}
use Rattle.recording.proofs.Running.{fed_run_lem, missing_is}
use Rattle.recording.proofs.Raising.{length_raised, cell_at, cell_is, cell_there, place_now, each_raised}
use Rattle.recording.proofs.Settling.{written_count}

-- the part that is lent has come back with them
pub grown_written : {d : ℕ} {r : List ℕ} {m p c n : ℕ} {l : List ℕ} → Growable d r m p c n l
    → (let q = length r + 1 - m in let long = width * (n + q) - width * p in let part = take long (drop (width * p) l) in
    (ys : List ℕ) → length ys ≡ length part → Inserted d r m c part ys
    → Written (with_missing d r m p c (records n l)) (n + q) l (take (width * p) l ++ (ys ++ drop long (drop (width * p) l))))
grown_written {r} {m} {p} {n} {l} g ys same b =
    run_written n p (length r + 1 - m) l ys _ g.place g.room same b.new b.moved

module _ {d i a : ℕ} {r : List ℕ} {n : ℕ} {l₀ : List ℕ} {m : ℕ} {places : List ℕ} (q : Ready d i a r n l₀ m places) where
  up : Rising (records n l₀)
  up = q.feedable.asked.standing.rising

  cr : Within r
  cr = q.feedable.asked.context

  -- where all are held there is nothing to add
  pub fed_held : length r < m → Written (fed d (sample_of i) a r (records n l₀)) n l₀ (raised_each m (cell_at i a) places l₀)
  fed_held h =
      let all : m ≡ suc (length r) = omega (arith, q.located.within) in
      subst (λ (j : ℕ). Written (fed_to j d (sample_of i) a r (records n l₀)) n l₀ (raised_each m (cell_at i a) places l₀)) all (each_raised q m (omega arith))

  module _ (on : m ≤ length r) where
    abbrev l : List ℕ
    l = raised_each m (cell_at i a) places l₀

    held_raised : Written (fed_to m d (sample_of i) a r (records n l₀)) n l₀ l
    held_raised = each_raised q m (omega arith)

    place_is : get_or places m 0 ≡ rank (key_of d (take m r)) (keys (records n l))
    place_is = place_now q m held_raised (omega arith) on

    -- what adding the missing ones asks
    pub growable : Growable d r m (get_or places m 0) (cell_at i a) n (raised_each m (cell_at i a) places l₀)
    growable = record {
      desk = q.feedable.asked.desk;
      context = cr;
      some = on;
      cell = cell_there q;
      place = rw place_is (rank_within n l (key_of d (take m r)));
      room = rw (length_raised m (cell_at i a) places l₀, ← missing_is d r cr (records n l₀) up m places q.located q.clear) q.feedable.room;
    }

    -- both parts are the feed
    grown_is : with_missing d r m (get_or places m 0) (cell_at i a) (records n l) ≡ fed d (sample_of i) a r (records n l₀)
    grown_is =
        let before = fed_to m d (sample_of i) a r (records n l₀) in
        let k = key_of d (take m r) in
        let at : get_or places m 0 ≡ rank k (keys before) = place_is ∙ ap (λ (t : List (List ℕ)). rank k (keys t)) held_raised.live in
        ap₂ (λ (p : ℕ) (t : List (List ℕ)). with_missing d r m p (cell_at i a) t) at held_raised.live
        ∙ ap (λ (c : ℕ). with_missing d r m (rank k (keys before)) c before) (cell_is i a q.feedable.sample)
        ∙ sym (fed_run_lem d (sample_of i) a r cr (records n l₀) up m q.located.are_held on (q.clear on))

    -- THEOREM. So what comes of them are the records fed
    pub fed_written : (k : ℕ) (after : List ℕ) → (let l₁ = raised_each m (cell_at i a) places l₀ in
        Written (with_missing d r m (get_or places m 0) (cell_at i a) (records n l₁)) k l₁ after → Written (fed d (sample_of i) a r (records n l₀)) k l₀ after)
    fed_written k after w =
        let count = written_count (with_missing d r m (get_or places m 0) (cell_at i a) (records n l)) k l after w in
        let size = ap length grown_is ∙ length_fed d (sample_of i) a r cr (records n l₀) up in
        record {
          live = w.live ∙ grown_is;
          past = w.past ∙ agree_later (width * n) (width * k) l l₀ (omega (arith, count, size, length_parts width n l₀)) held_raised.past;
        }
