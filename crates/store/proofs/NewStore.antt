-- A header of zeros but for K is that of a new store; and the ways of a making. Assumes nothing.
use mathlib.Core.Path.{◌≡◌, refl, sym, ap, ◌∙◌, fun_ext}
use mathlib.Core.Bool.{true}
use mathlib.Core.List.{List, [], ◌++◌}
use Prim.Native.Nat.{ℕ, ◌+◌, ◌*◌, ◌≤◌, ◌<◌}
use native.Mathlib.Omega.{arith}
use borrow.Author.Tests.{le-ltb}
use lib.Dec.{T, eqb→eq}
use lib.ListN.{length, drop, get_or, set, replicate, length-set, length-append, length-replicate, length-drop, get_or-replicate, get_or-append}
use lib.Seq.{get_or-set_same, get_or-set_other, drop-set-lt, drop-append-add, drop-drop}
use Rattle.numbers.specs.Limits.{desks, most_room}
use Rattle.numbers.specs.Every.{all}
use Rattle.numbers.proofs.Tests.{of_true, is_false}
use Rattle.numbers.proofs.Sums.{sum_zero}
use Rattle.numbers.proofs.Every.{every_of}
use Rattle.records.specs.Records.{rises, parts}
use Rattle.replay.specs.Room.{closed, new}
use Rattle.store.specs.Layout.{header_size, store_size, room, desk_start, is_open, records_in}
use Rattle.store.specs.Sound.{desk_ok, held_by, reserved_at, soundb}
use Rattle.store.specs.Meaning.{desk_at, meaning}
use Rattle.store.specs.Making.{made_of, Makes}
use Rattle.store.specs.declared.Refusal.{Refusal}
use Rattle.std.specs.Prelude.{Ok, Err}
use Rattle.store.proofs.Desks.{desk_shut}
use Rattle.store.proofs.Passing.{passes}
use Rattle.store.proofs.Fitting.{desk_closed}

-- the first h numbers cleared, and then K at the start
abbrev cleared : ℕ → ℕ → List ℕ → List ℕ
cleared h K s = set (replicate h 0 ++ drop h s) 0 K

module _ (h K : ℕ) (s : List ℕ) (some : 0 < h) (long : h ≤ length s) where
  zeros_long : length (replicate h 0 ++ drop h s) ≡ length s
  zeros_long = length-append (replicate h 0) (drop h s) ∙ rw (length-replicate {A = ℕ} h 0, length-drop h s) (omega arith)

  cleared_long : length (cleared h K s) ≡ length s
  cleared_long = length-set (replicate h 0 ++ drop h s) 0 K ∙ zeros_long

  cleared_start : get_or (cleared h K s) 0 0 ≡ K
  cleared_start = get_or-set_same (replicate h 0 ++ drop h s) 0 K 0 (rw zeros_long (omega arith))

  cleared_at : (j : ℕ) → 0 < j → j < h → get_or (cleared h K s) j 0 ≡ 0
  cleared_at j l m =
      get_or-set_other (replicate h 0 ++ drop h s) 0 j K 0 (λ e. omega arith)
      ∙ get_or-append (replicate h 0) (drop h s) 0 j (rw (length-replicate {A = ℕ} h 0) m)
      ∙ get_or-replicate h j 0 0 m

  cleared_rest : (n : ℕ) → drop (h + n) (cleared h K s) ≡ drop (h + n) s
  cleared_rest n =
      drop-set-lt (h + n) (replicate h 0 ++ drop h s) 0 K (omega arith)
      ∙ ap (λ (m : ℕ). drop (m + n) (replicate h 0 ++ drop h s)) (sym (length-replicate {A = ℕ} h 0))
      ∙ drop-append-add (replicate h 0) (drop h s) n
      ∙ drop-drop n h s

-- ---- any numbers with such a header

-- K at the start, and 0 at every other number of the header
pub record Fresh (K : ℕ) (s : List ℕ) : Type 0 where
  pub at_start : room s ≡ K
  pub zero_at : (j : ℕ) → 0 < j → j < header_size → get_or s j 0 ≡ 0

module _ (K : ℕ) (s : List ℕ) (f : Fresh K s) where
  fresh_shut : (d : ℕ) → d < desks → T (is_open s d) → ⊥
  fresh_shut d l t = let z = f.zero_at (desk_start d + 0) (omega arith) (omega arith) in omega (arith, eqb→eq (get_or s (desk_start d + 0) 0) 1 t)

  fresh_records : records_in s ≡ []
  unfolding records_in parts
  fresh_records = rw (f.zero_at 1 (omega arith) (omega arith))

  fresh_sound : 1 ≤ K → K ≤ most_room → store_size K ≤ length s → soundb s ≡ true
  unfolding rises all
  fresh_sound low high long =
      let k = f.at_start in
      passes s (record {
        framed = record { some = omega arith; most = omega arith; long = rw k long; few = omega (arith, f.zero_at 1 (omega arith) (omega arith)) };
        up = rw fresh_records tt;
        each = rw fresh_records tt;
        each_desk = every_of desks (desk_ok s (records_in s)) (λ d l. of_true _ (desk_shut s d (held_by d (records_in s)) (fresh_shut d l)));
        reserves = omega (arith, sum_zero desks {f = reserved_at s} (λ d l. rw (is_false (is_open s d) (fresh_shut d l))));
      })

  fresh_means : meaning s ≡ new K
  unfolding meaning
  fresh_means =
      let p = f.at_start in
      let q : desk_at s ≡ (λ d. closed) = fun_ext (λ d. desk_closed s d (λ o. fresh_shut d o.desk o.opened)) in
      λ j. record { made = p j; at = q j }

-- ---- the code's ways

pub making_refused : (K : ℕ) (s : List ℕ) (why : Refusal) → Err why ≡ made_of K (length s) → Makes K s (Err why) s
making_refused K s why e = record {
  answered = e;
  sound_after = λ q. cc;
  means = λ q. cc;
  rest_kept = λ q. cc;
  length_kept = refl;
  refused_kept = λ q. refl;
}

pub making_done : (K : ℕ) (s x : List ℕ) → 1 ≤ K → K ≤ most_room → store_size K ≤ length s → x ≡ set (replicate header_size 0 ++ drop header_size s) 0 K → Makes K s (Ok tt) x
making_done K s x low high long e =
    let some : 0 < header_size = omega arith in
    let enough : header_size ≤ length s = omega arith in
    let f : Fresh K x = record {
      at_start = ap room e ∙ cleared_start header_size K s some enough;
      zero_at = λ j l m. ap (λ (l : List ℕ). get_or l j 0) e ∙ cleared_at header_size K s some enough j l m;
    } in
    let same = ap length e ∙ cleared_long header_size K s some enough in
    record {
      answered = rw (le-ltb K 1 low, le-ltb most_room K high, le-ltb (length s) (store_size K) long);
      sound_after = λ q. fresh_sound K x f low high (omega arith);
      means = λ q. fresh_means K x f;
      rest_kept = λ q. ap (drop (store_size K)) e ∙ cleared_rest header_size K s some enough (24 * K);
      length_kept = same;
      refused_kept = λ n. absurd (n refl);
    }
