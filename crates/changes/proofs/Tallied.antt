-- The records after a feed: their order, their totals, and how many each desk has. Assumes nothing.
use mathlib.Core.Path.{◌≡◌, ap, ◌∙◌}
use mathlib.Core.Bool.{Bool, true, false, ◌&&◌, ◌||◌}
use mathlib.Core.List.{List}
use Prim.Native.Nat.{ℕ, ◌+◌, ◌≤◌, ◌<◌}
use native.Mathlib.Omega.{arith}
use lib.Dec.{T, eqb}
use Rattle.numbers.specs.Limits.{most_symbols}
use Rattle.numbers.specs.Sum.{one}
use Rattle.contexts.specs.Context.{begins}
use Rattle.contexts.specs.Keys.{key_of}
use Rattle.contexts.specs.Sitting.{Sample, first, second, same_sample}
use Rattle.contexts.proofs.KeyOrder.{Within}
use Rattle.records.specs.Records.{lookup, count_of}
use Rattle.records.specs.Held.{held, Rising}
use Rattle.store.specs.Layout.{room, used, reserve_at, records_in, total_of}
use Rattle.store.specs.Sound.{held_by}
use Rattle.store.specs.Plain.{Open, record_for, total_at}
use Rattle.store.proofs.Parts.{records_length}
use Rattle.store.proofs.Passing.{passed, desk_passed}
use Rattle.changes.specs.FedStore.{FedStore, Acceptable, recent_at, is_counted}
use Rattle.changes.proofs.Recent.{recent_within}
use Rattle.changes.proofs.Before.{rising, wide, held_seen}
use Rattle.changes.proofs.Whether.{rising_if, held_if, count_if}
use Rattle.changes.proofs.Counted.{total_fed}
use Rattle.changes.proofs.Owning.{Owned, owned_fed}
use Rattle.changes.proofs.Filling.{held_within, room_enough}

module _ (s t : List ℕ) (d : ℕ) (i : Sample) (a : ℕ) (f : FedStore s t d i a) (p : Acceptable s d i a) where
  cr : Within (recent_at s d i)
  cr = recent_within s p.sound d p.at_open i

  small : a < most_symbols
  small = omega (arith, p.of_alphabet_holds, (desk_passed s (passed s p.sound) d p.at_open).most)

  pub rising_after : Rising (records_in t)
  rising_after = rw f.records_fed_holds (rising_if d i a (recent_at s d i) (is_counted s d i) (records_in s) (rising s p.sound))

  -- ---- counts and totals

  pub count_after : (e : ℕ) (c : List ℕ) → Within c → (j : Sample) (b : ℕ)
      → count_of j (record_for t e c) b ≡ count_of j (record_for s e c) b + one (eqb d e && (same_sample i j && (is_counted s d i && (begins c (recent_at s d i) && eqb a b))))
  count_after e c x j b =
      ap (λ (rs : List (List ℕ)). count_of j (lookup (key_of e c) rs) b) f.records_fed_holds
      ∙ count_if d i a (recent_at s d i) cr e c x (is_counted s d i) j b (records_in s) small (wide s p.sound) (rising s p.sound)

  pub total_after : (e : ℕ) (c : List ℕ) → Within c → (j : Sample)
      → total_at t e j c ≡ total_at s e j c + one (eqb d e && (same_sample i j && (is_counted s d i && begins c (recent_at s d i))))
  total_after e c x j =
      ap (λ (rs : List (List ℕ)). total_of j (lookup (key_of e c) rs)) f.records_fed_holds
      ∙ total_fed (is_counted s d i) d i a (recent_at s d i) cr small (records_in s) (wide s p.sound) (rising s p.sound) e c x j

  -- ---- whose a record is

  pub owned_after : (k : ℕ) → T (held k (records_in t)) → Owned s k
  owned_after k h = owned_fed s p.sound d p.at_open i a k (rw f.records_fed_holds at h)

  -- what a held context has counted
  pub seen_after_lem : (e : ℕ) (c : List ℕ) → Within c → T (held (key_of e c) (records_in t)) → 0 < total_at t e first c + total_at t e second c
  seen_after_lem e c x h =
      rw (total_after e c x first, total_after e c x second) (go (eqb d e) (is_counted s d i && begins c (recent_at s d i)) i h')
    where
      h' : T ((eqb d e && (is_counted s d i && begins c (recent_at s d i))) || held (key_of e c) (records_in s))
      h' = rw (f.records_fed_holds, held_if d i a (recent_at s d i) cr e c x (is_counted s d i) (records_in s)) at h

      before : T (held (key_of e c) (records_in s)) → 0 < total_at s e first c + total_at s e second c
      before = held_seen s p.sound (key_of e c)

      go : (q b : Bool) (j : Sample) → T ((q && b) || held (key_of e c) (records_in s))
          → 0 < total_at s e first c + one (q && (same_sample j first && b)) + (total_at s e second c + one (q && (same_sample j second && b)))
      go true true first u = omega arith
      go true true second u = omega arith
      go true false j u = omega (arith, before u)
      go false b j u = omega (arith, before u)

  -- ---- how many

  pub held_after : (e : ℕ) → Open s e → held_by e (records_in t) ≤ reserve_at s e
  held_after e o = rw f.records_fed_holds (held_within s d i a p e o)

  pub few_after : used t ≤ room s
  few_after = rw (← records_length t, f.records_fed_holds) (room_enough s d i a p)
