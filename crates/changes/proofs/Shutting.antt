-- A closing: what its table says, and that a store whose desk was closed is sound and means what the machine says. Assumes nothing.
use Prim.Native.Nat.{ℕ, ◌≤◌, ◌<◌}
use native.Mathlib.Omega.{arith}
use mathlib.Core.Path.{◌≡◌, sym, ap, subst, ◌∙◌}
use mathlib.Core.Logic.{◌≢◌}
use mathlib.Core.Bool.{Bool, true, not, ◌&&◌}
use mathlib.Core.List.{List, []}
use borrow.Author.Tests.{le-leb, lt-leb, eq-eqb}
use lib.Dec.{T, eqb}
use lib.ListN.{length, get_or}
use Rattle.numbers.specs.Limits.{desks}
use Rattle.numbers.specs.Every.{all}
use Rattle.numbers.proofs.Tests.{left, right, of_true}
use Rattle.numbers.proofs.Orders.{less, same, more, order}
use Rattle.numbers.proofs.Every.{every_at, every_of, all_at, all_of}
use Rattle.contexts.specs.Keys.{desk_of}
use Rattle.records.specs.Records.{key, keys, rises}
use Rattle.records.specs.Held.{keep, of_desk}
use Rattle.recording.proofs.Desks.{rising_without, length_without, other_without}
use Rattle.records.proofs.Keeping.{keep_all}
use Rattle.replay.specs.Room.{closed, reserved}
use Rattle.replay.specs.Table.{refused, answered, verdict_of}
use Rattle.replay.specs.Machine.{closing, at_desk, closing_table, table_at, table_of, answer_at, answer_of, verdict, moved, shift}
use Rattle.store.specs.Layout.{used, is_open, records_in}
use Rattle.store.specs.Sound.{desk_ok, held_by, record_ok, soundb}
use Rattle.store.specs.Plain.{Open}
use Rattle.store.specs.Meaning.{meaning}
use Rattle.store.proofs.Parts.{records_length}
use Rattle.store.proofs.Desks.{desk_shut}
use Rattle.store.proofs.Passing.{passed, passes}
use Rattle.store.proofs.Fitting.{desk_opened, desk_closed}
use Rattle.rules.specs.Rules.{done, rules}
use Rattle.calls.specs.Promises.{Moves}
use Rattle.calls.proofs.Keeping.{moves_refused, moves_done}
use Rattle.changes.specs.Changes.{Closed}
use Rattle.changes.proofs.Others.{Apart, with, meaning_with, reserves_with, other_desk, other_record}

-- ---- the table

module _ (s : List ℕ) (d : ℕ) (h : soundb s ≡ true) where
  -- 2: "desk number above 7"
  pub close_no_desk : desks ≤ d → Moves s (at_desk d closing) (refused 2) s
  unfolding verdict table_of table_at closing_table verdict_of
  close_no_desk far = moves_refused s (at_desk d closing) 2 h (rw (le-leb desks d far))

  -- 4: "at a desk that is not open"
  pub close_not_open : d < desks → (Open s d → ⊥) → Moves s (at_desk d closing) (refused 4) s
  unfolding verdict table_of table_at closing_table verdict_of meaning
  close_not_open l n = moves_refused s (at_desk d closing) 4 h (rw (lt-leb desks d l, desk_closed s d n))

-- ---- a desk that was closed

module _ (s t : List ℕ) (d : ℕ) (h : soundb s ≡ true) (o : Open s d) (x : Closed s t d) where
  apart : Apart s t d
  apart = record {
    sound = h;
    beside = x.beside;
    kept = λ e n. ap (keep (of_desk e)) x.records_left ∙ other_without d e (records_in s) (λ q. n (sym q));
  }

  shut : Open t d → ⊥
  shut p = subst (λ (m : ℕ). T (eqb m 1)) x.marked p.opened

  meaning_closed : meaning t ≡ with s t d apart closed
  meaning_closed = meaning_with s t d apart closed (desk_closed t d shut)

  used_less : used t ≤ used s
  used_less = omega (arith, records_length s, records_length t, ap length x.records_left, length_without d (records_in s))

  each_record : T (all (record_ok t (records_in t)) (records_in t))
  each_record =
      let other : ℕ → Bool = λ k. not (of_desk d k) in
      let test : List ℕ → Bool = λ r. record_ok s (records_in s) r && other (key r) in
      let left-are : keep other (records_in s) ≡ records_in t = sym x.records_left in
      let tests = subst (λ (rs : List (List ℕ)). T (all test rs)) left-are (keep_all other (record_ok s (records_in s)) (records_in s) (passed s h).each) in
      all_of (record_ok t (records_in t)) (records_in t) [] (λ j l. one (get_or (records_in t) j []) (all_at test (records_in t) j [] tests l))
    where
      one : (r : List ℕ) → T (record_ok s (records_in s) r && not (of_desk d (key r))) → T (record_ok t (records_in t) r)
      one r p = other_record s t d apart r (λ q. rw (eq-eqb (desk_of (key r)) d q) at (right (record_ok s (records_in s) r) _ p)) (left (record_ok s (records_in s) r) _ p)

  each_desk : (e : ℕ) → e < desks → T (desk_ok t (records_in t) e)
  each_desk e l = elim (order e d) [
    | less m ↦ stays (λ q. omega arith)
    | same q ↦ of_true _ (desk_shut t e (held_by e (records_in t)) (λ p. shut (record { desk = o.desk; opened = subst (λ (f : ℕ). T (is_open t f)) q p })))
    | more m ↦ stays (λ q. omega arith)
  ]
    where
      stays : e ≢ d → T (desk_ok t (records_in t) e)
      stays n = other_desk s t d apart e n l (every_at desks (desk_ok s (records_in s)) (passed s h).each_desk e l)

  sound_closed : soundb t ≡ true
  unfolding reserved
  sound_closed =
      let p = passed s h in
      let f = p.framed in
      let rooms = x.beside.room_same in
      passes t (record {
        framed = record { some = omega (arith, f.some); most = omega (arith, f.most); long = omega (arith, f.long, x.beside.long); few = omega (arith, f.few, used_less) };
        up = subst (λ (rs : List (List ℕ)). T (rises 0 (keys rs))) (sym x.records_left) (rising_without d (records_in s) p.up);
        each = each_record;
        each_desk = every_of desks (desk_ok t (records_in t)) each_desk;
        reserves = reserves_with s t d apart closed meaning_closed o.desk (omega (arith, p.reserves));
      })

  moved_closed : meaning t ≡ shift rules (meaning s) (at_desk d closing)
  unfolding shift meaning moved
  moved_closed = meaning_closed ∙ rw (desk_opened s d o)

  -- THEOREM. A store whose open desk d was closed keeps the promise of a closing
  pub closed_moves : Moves s (at_desk d closing) (answered done) t
  unfolding verdict table_of table_at closing_table verdict_of answer_of answer_at meaning
  closed_moves =
      moves_done s (at_desk d closing) done t h (rw (lt-leb desks d o.desk, desk_opened s d o)) sound_closed moved_closed x.beside.past x.beside.long
