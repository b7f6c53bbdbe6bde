-- An opening: that a store whose desk was opened is sound and means what the machine says. Assumes nothing.
use Prim.Native.Nat.{ℕ, min, ◌≤◌, ◌<◌}
use native.Mathlib.Omega.{arith}
use mathlib.Core.Path.{◌≡◌, sym, ap, ap₂, subst, fun_ext, ◌∙◌}
use mathlib.Core.Logic.{◌≢◌}
use mathlib.Core.Bool.{true}
use mathlib.Core.List.{List, [], ◌∷◌}
use borrow.Author.Tests.{lt-ltb}
use lib.Dec.{T}
use lib.ListN.{take, get_or}
use Rattle.numbers.specs.Limits.{most_symbols, deepest, desks}
use Rattle.numbers.specs.Every.{all}
use Rattle.numbers.proofs.Tests.{T?, is_true, is_false}
use Rattle.numbers.proofs.Orders.{less, same, more, order, eq→eqb}
use Rattle.numbers.proofs.Every.{every_at, every_of, all_at, all_of}
use Rattle.contexts.specs.Context.{is_context}
use Rattle.contexts.specs.Keys.{key_of, desk_of}
use Rattle.contexts.specs.Sitting.{Sample}
use Rattle.contexts.proofs.KeyOrder.{desk_of_key}
use Rattle.contexts.proofs.Strings.{context_more}
use Rattle.records.specs.Records.{keys, rises, lookup, blank}
use Rattle.records.specs.Held.{keep, of_desk}
use Rattle.records.proofs.Keeping.{lookup_keep}
use Rattle.records.proofs.Counting.{count_blank}
use Rattle.replay.specs.Room.{Opening, opened, reserved}
use Rattle.replay.specs.Table.{answered}
use Rattle.replay.specs.Machine.{opening, at_desk, moved, shift}
use Rattle.store.specs.Layout.{symbols_at, depth_at, weight_at, reserve_at, size_at, slots_at, records_in}
use Rattle.store.specs.Sound.{of_alphabet, desk_ok, held_by, record_ok, soundb}
use Rattle.store.specs.Plain.{Open}
use Rattle.store.specs.Meaning.{progress_at, meaning}
use Rattle.store.proofs.Desks.{stands_desk}
use Rattle.store.proofs.Passing.{passed, passes}
use Rattle.store.proofs.Fitting.{desk_opened, desk_closed}
use Rattle.rules.specs.Feed.{empty_progress}
use Rattle.rules.specs.Rules.{done, rules}
use Rattle.calls.specs.Promises.{Moves}
use Rattle.calls.proofs.Keeping.{moves_done}
use Rattle.changes.specs.Changes.{Opened}
use Rattle.changes.proofs.Leaving.{left_is}
use Rattle.changes.proofs.Granting.{Granted, limited, light, granted}
use Rattle.changes.proofs.Vacant.{not_there, none_there}
use Rattle.changes.proofs.Others.{Apart, with, meaning_with, reserves_with, other_desk, other_record}

zeros_below : (A : ℕ) → 1 ≤ A → T (all (of_alphabet A) (0 ∷ 0 ∷ 0 ∷ 0 ∷ 0 ∷ 0 ∷ []))
unfolding all
zeros_below A l = rw (lt-ltb 0 A l) tt

module _ (s t : List ℕ) (d : ℕ) (o : Opening) (h : soundb s ≡ true) (n : Open s d → ⊥) (g : Granted (meaning s) d o) (x : Opened s t d o) where
  apart : Apart s t d
  apart = record { sound = h; beside = x.beside; kept = λ e n. ap (keep (of_desk e)) x.records_same }

  now_open : Open t d
  now_open = record { desk = g.ready.desk; opened = eq→eqb _ 1 x.marked }

  symbols_are : symbols_at t d ≡ o.symbols
  symbols_are = ap (λ (p : Opening). p.symbols) x.named

  depth_is : depth_at t d ≡ o.depth
  depth_is = ap (λ (p : Opening). p.depth) x.named

  weight_is : weight_at t d ≡ o.weight
  weight_is = ap (λ (p : Opening). p.weight) x.named

  reserve_is : reserve_at t d ≡ o.reserve
  reserve_is = ap (λ (p : Opening). p.reserve) x.named

  -- ---- what the desk means: both samples are empty

  no_count : (i : Sample) (c : List ℕ) (a : ℕ) → (progress_at t d).count i c a ≡ 0
  unfolding lookup
  no_count i c a = elim (T? (is_context (symbols_at t d) (depth_at t d) c)) [
    | yes p ↦
        let within = context_more (symbols_at t d) most_symbols (depth_at t d) deepest c (omega (arith, (limited o g.ready.limits).most, symbols_are)) (omega (arith, (limited o g.ready.limits).deep, depth_is)) p in
        let own : T (of_desk d (key_of d c)) = eq→eqb (desk_of (key_of d c)) d (desk_of_key d c within) in
        let found : lookup (key_of d c) (records_in t) ≡ blank (key_of d c) =
        ap (lookup (key_of d c)) x.records_same ∙ sym (lookup_keep (of_desk d) (key_of d c) (records_in s) (is_true _ own)) ∙ ap (lookup (key_of d c)) (none_there s d h n) in
        rw (is_true (is_context (symbols_at t d) (depth_at t d) c) p, found) (count_blank i a (key_of d c))
    | no q ↦ rw (is_false (is_context (symbols_at t d) (depth_at t d) c) q)
  ]

  progress_fresh : progress_at t d ≡ empty_progress o
  progress_fresh =
      let p : (progress_at t d).size ≡ (empty_progress o).size = fun_ext x.empty in
      let q : (progress_at t d).recent ≡ (empty_progress o).recent = fun_ext (λ i. ap (λ (n : ℕ). take n (slots_at t d i)) (none i)) in
      let r : (progress_at t d).count ≡ (empty_progress o).count = fun_ext (λ i. fun_ext (λ c. fun_ext (λ a. no_count i c a))) in
      λ j. record { size = p j; recent = q j; count = r j }
    where
      none : (i : Sample) → min (size_at t d i) (depth_at t d) ≡ 0
      none i = omega (arith, x.empty i)

  meaning_opened : meaning t ≡ with s t d apart (opened o (empty_progress o))
  meaning_opened = meaning_with s t d apart (opened o (empty_progress o)) (desk_opened t d now_open ∙ ap₂ opened x.named progress_fresh)

  -- ---- that the store is sound

  own_desk : T (desk_ok t (records_in t) d)
  own_desk = stands_desk t d (held_by d (records_in t)) now_open.opened (record {
    fewest = omega (arith, (limited o g.ready.limits).fewest, symbols_are);
    most = omega (arith, (limited o g.ready.limits).most, symbols_are);
    depth = omega (arith, (limited o g.ready.limits).deep, depth_is);
    weight = omega (arith, light o g.ready.weight, weight_is);
    some = omega (arith, g.some, reserve_is);
    sizes = λ i. omega (arith, x.empty i);
    within = rw (x.records_same, none_there s d h n) (omega arith);
    slots = λ i. rw (x.slots i, symbols_are) (zeros_below o.symbols (omega (arith, (limited o g.ready.limits).fewest)));
  })

  each_desk : (e : ℕ) → e < desks → T (desk_ok t (records_in t) e)
  each_desk e l = elim (order e d) [
    | less m ↦ stays (λ q. omega arith)
    | same q ↦ rw q own_desk
    | more m ↦ stays (λ q. omega arith)
  ]
    where
      stays : e ≢ d → T (desk_ok t (records_in t) e)
      stays n = other_desk s t d apart e n l (every_at desks (desk_ok s (records_in s)) (passed s h).each_desk e l)

  each_record : T (all (record_ok t (records_in t)) (records_in s))
  each_record =
      all_of (record_ok t (records_in t)) (records_in s) []
      (λ j l. let test = all_at (record_ok s (records_in s)) (records_in s) j [] (passed s h).each l in
      other_record s t d apart (get_or (records_in s) j []) (not_there s d h n (get_or (records_in s) j []) test) test)

  sound_opened : soundb t ≡ true
  unfolding reserved
  sound_opened =
      let p = passed s h in
      let f = p.framed in
      let rooms = x.beside.room_same in
      passes t (record {
        framed = record { some = omega (arith, f.some); most = omega (arith, f.most); long = omega (arith, f.long, x.beside.long); few = omega (arith, f.few, x.used_same) };
        up = subst (λ (rs : List (List ℕ)). T (rises 0 (keys rs))) (sym x.records_same) p.up;
        each = subst (λ (rs : List (List ℕ)). T (all (record_ok t (records_in t)) rs)) (sym x.records_same) each_record;
        each_desk = every_of desks (desk_ok t (records_in t)) each_desk;
        reserves = reserves_with s t d apart (opened o (empty_progress o)) meaning_opened g.ready.desk (omega (arith, p.reserves, g.fits, left_is s));
      })

  moved_opened : meaning t ≡ shift rules (meaning s) (at_desk d (opening o))
  unfolding shift meaning moved
  moved_opened = meaning_opened ∙ rw (desk_closed s d n)

  -- THEOREM. A store whose desk d was opened with o keeps the promise of an opening
  pub opened_moves : Moves s (at_desk d (opening o)) (answered done) t
  opened_moves =
      moves_done s (at_desk d (opening o)) done t h (granted (meaning s) d o g) sound_opened moved_opened x.beside.past x.beside.long
