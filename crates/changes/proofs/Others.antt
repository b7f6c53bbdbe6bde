-- What stands beside a desk: where the other desks of two stores have the same numbers and the same records, they pass the same tests and mean
-- the same. Assumes nothing.
use Prim.Native.Nat.{ℕ, ◌+◌, ◌-◌, ◌≤◌, ◌<◌}
use native.Mathlib.Omega.{arith}
use mathlib.Core.Path.{◌≡◌, refl, sym, ap, ap₂, subst, fun_ext, ◌∙◌}
use mathlib.Core.Logic.{◌≢◌}
use mathlib.Core.Bool.{Bool, true, false, cond, ◌&&◌}
use mathlib.Core.List.{List}
use borrow.Author.Tests.{eqb-true, eqb-false, eq-eqb, le-ltb}
use lib.Dec.{T, eqb, ltb}
use lib.ListN.{length, get_or}
use Rattle.numbers.specs.Limits.{most_symbols, deepest, desks}
use Rattle.numbers.specs.Sum.{sum}
use Rattle.numbers.proofs.Tests.{T?, of_true}
use Rattle.numbers.proofs.Orders.{Leb, le, gt, leb_view}
use Rattle.contexts.specs.Keys.{desk_of, context_of}
use Rattle.contexts.specs.Sitting.{Sample, first, second, Progress}
use Rattle.contexts.proofs.KeyOrder.{desk_of_key}
use Rattle.contexts.proofs.Followed.{context_take}
use Rattle.contexts.proofs.Digits.{context_of_within}
use Rattle.records.specs.Records.{key, lookup}
use Rattle.records.specs.Held.{keep, of_desk}
use Rattle.records.proofs.Keeping.{lookup_keep}
use Rattle.replay.specs.Room.{Desk, Room, reserved, reservations}
use Rattle.replay.specs.Machine.{put}
use Rattle.replay.proofs.Desks.{put_sum}
use Rattle.store.specs.Layout.{header_size, desk_start, room, field, is_open, size_field, records_in, total_of, desk_numbers}
use Rattle.store.specs.Sound.{desk_ok, held_by, reserved_at, key_ok, sample_ok, table_ok, parent_key, parent_ok, record_ok, soundb}
use Rattle.store.specs.Meaning.{desk_at, meaning}
use Rattle.store.proofs.Many.{sample_cong}
use Rattle.store.proofs.Desks.{desk_stands, stands_desk, desk_shut}
use Rattle.store.proofs.Passing.{record_key, header_long}
use Rattle.store.proofs.Fitting.{desk_reserved, reserved_means}
use Rattle.store.proofs.Local.{SameDesk, same_size, same_slots, desk_stays}
use Rattle.store.proofs.Declared.{key_stands}
use Rattle.changes.specs.Changes.{Beside}

-- a sound store s and one that has all but desk d's numbers and records
pub record Apart (s t : List ℕ) (d : ℕ) : Type 0 where
  pub sound : soundb s ≡ true
  pub beside : Beside s t d
  pub kept : (e : ℕ) → e ≢ d → keep (of_desk e) (records_in t) ≡ keep (of_desk e) (records_in s)

-- a context's parent is of the same desk
parent_desk : (k : ℕ) → desk_of (parent_key k) ≡ desk_of k
parent_desk k = desk_of_key (desk_of k) _ (context_take most_symbols deepest (length (context_of k) - 1) (context_of k) (context_of_within k))

module _ (s t : List ℕ) (d : ℕ) (x : Apart s t d) where
  header_after : header_size ≤ length t
  header_after = omega (arith, header_long s x.sound, x.beside.long)

  -- ---- another desk's meaning

  same_desk : (e : ℕ) → e ≢ d → e < desks → SameDesk s t e
  same_desk e n l = record {
    long_before = header_long s x.sound;
    long_after = header_after;
    fields = λ f m. sym (x.beside.others e f n l m);
    kept = sym (x.kept e n);
  }

  other_meaning : (e : ℕ) → e ≢ d → desk_at t e ≡ desk_at s e
  other_meaning e n = go (leb_view desks e)
    where
      go : {b : Bool} → Leb desks e b → desk_at t e ≡ desk_at s e
      go (le h) = rw (le-ltb e desks h)
      go (gt l) = sym (desk_stays s t e x.sound (same_desk e n l))

  -- the room with desk d as it is now
  abbrev pub with : Desk Progress → Room Progress
  with v = record { made = room s; at = put (desk_at s) d v }

  pub meaning_with : (v : Desk Progress) → desk_at t d ≡ v → meaning t ≡ with v
  unfolding meaning put
  meaning_with v q =
      let rooms = x.beside.room_same in
      let desks : desk_at t ≡ put (desk_at s) d v = fun_ext (λ e. go e (eqb e d) refl) in
      λ j. record { made = rooms j; at = desks j }
    where
      go : (e : ℕ) (b : Bool) → eqb e d ≡ b → desk_at t e ≡ cond b v (desk_at s e)
      go e true p = ap (desk_at t) (eqb-true e d p) ∙ q
      go e false p = other_meaning e (eqb-false e d p)

  -- the reservations are again within the room, where the new one is
  pub reserves_with : (v : Desk Progress) → meaning t ≡ with v → d < desks → sum desks (reserved_at s) + reserved v ≤ room s + reserved_at s d → sum desks (reserved_at t) ≤ room t
  unfolding meaning
  reserves_with v q l h =
      let after : reservations (meaning t) ≡ reservations (with v) = ap reservations q in
      let sums = put_sum reserved desks (desk_at s) d v l in
      omega (arith, x.beside.room_same, reserved_means s, reserved_means t, desk_reserved s d l)

  -- ---- another desk's test

  pub other_desk : (e : ℕ) → e ≢ d → e < desks → T (desk_ok s (records_in s) e) → T (desk_ok t (records_in t) e)
  other_desk e n l test = elim (T? (is_open t e)) [
    | yes o ↦
        let g = desk_stands s e (held_by e (records_in s)) (subst (λ (m : ℕ). T (eqb m 1)) (same 0 (omega arith)) o) test in
        stands_desk t e (held_by e (records_in t)) o (record {
          fewest = omega (arith, g.fewest, same 1 (omega arith));
          most = omega (arith, g.most, same 1 (omega arith));
          depth = omega (arith, g.depth, same 2 (omega arith));
          weight = omega (arith, g.weight, same 3 (omega arith));
          some = omega (arith, g.some, same 4 (omega arith));
          sizes = λ i. rw (sym (same_size s t e (same_desk e n l) i)) (g.sizes i);
          within = omega (arith, g.within, same 4 (omega arith), ap length (x.kept e n));
          slots = λ i. rw (same 1 (omega arith), sym (same_slots s t e (same_desk e n l) l i)) (g.slots i);
        })
    | no q ↦ of_true _ (desk_shut t e (held_by e (records_in t)) q)
  ]
    where
      same : (f : ℕ) → f < desk_numbers → get_or t (desk_start e + f) 0 ≡ get_or s (desk_start e + f) 0
      same f m = x.beside.others e f n l m

  -- ---- another desk's record

  lookup_same : (k : ℕ) → desk_of k ≢ d → lookup k (records_in t) ≡ lookup k (records_in s)
  lookup_same k n =
      let own = eq-eqb (desk_of k) (desk_of k) refl in
      sym (lookup_keep (of_desk (desk_of k)) k (records_in t) own) ∙ ap (lookup k) (x.kept (desk_of k) n) ∙ lookup_keep (of_desk (desk_of k)) k (records_in s) own

  module _ (r : List ℕ) (n : desk_of (key r) ≢ d) (l : desk_of (key r) < desks) where
    same : (f : ℕ) → f < desk_numbers → field t (desk_of (key r)) f ≡ field s (desk_of (key r)) f
    same f m = x.beside.others (desk_of (key r)) f n l m

    key_same : key_ok t (key r) ≡ key_ok s (key r)
    unfolding key_ok
    key_same = rw (same 0 (omega arith), same 1 (omega arith), same 2 (omega arith))

    sample_same : (i : Sample) → sample_ok t r i ≡ sample_ok s r i
    sample_same first = rw (same 1 (omega arith), same (size_field first) (omega arith))
    sample_same second = rw (same 1 (omega arith), same (size_field second) (omega arith))

    table_same : table_ok t r ≡ table_ok s r
    unfolding table_ok
    table_same = ap (λ (b : Bool). b && ltb 0 (total_of first r + total_of second r)) (sample_cong sample_same)

    parent_same : (i : Sample) → parent_ok (records_in t) r i ≡ parent_ok (records_in s) r i
    unfolding parent_ok
    parent_same i = rw (lookup_same (parent_key (key r)) (λ q. n (sym (parent_desk (key r)) ∙ q)))

  pub other_record : (r : List ℕ) → desk_of (key r) ≢ d → T (record_ok s (records_in s) r) → T (record_ok t (records_in t) r)
  unfolding record_ok
  other_record r n test =
      let l = (key_stands s (key r) (record_key s (records_in s) r test)).desk in
      subst T (sym (ap₂ ◌&&◌ (key_same r n l) (ap₂ ◌&&◌ (table_same r n l) (sample_cong (parent_same r n l))))) test
