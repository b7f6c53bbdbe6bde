-- From the declared test of all records back to the pass's: where every open desk has an alphabet they are one. Assumes nothing.
use mathlib.Core.Path.{◌≡◌, sym, subst}
use mathlib.Core.List.{List, []}
use Prim.Native.Nat.{ℕ, ◌%◌, ◌≤◌, ◌<◌}
use native.Mathlib.Omega.{arith}
use lib.Dec.{T, ltb, leb, ltb→lt, lt→ltb, le→leb, eqb→eq}
use lib.ListN.{length, get_or}
use Rattle.numbers.specs.Limits.{deepest, desks}
use Rattle.numbers.specs.Every.{all}
use Rattle.numbers.proofs.Tests.{bool_ext, both, left, right}
use Rattle.numbers.proofs.Orders.{less, same, more, order, eq→eqb}
use Rattle.numbers.proofs.Every.{all_at, all_of}
use Rattle.contexts.specs.Context.{is_context, parent_of}
use Rattle.contexts.specs.Keys.{key_of, desk_of, context_of, len_of, eights}
use Rattle.contexts.proofs.Strings.{context_length}
use Rattle.contexts.proofs.Oldest.{oldest_below}
use Rattle.contexts.proofs.Digits.{ends_short, Ends, context_of_within, key_ends, key_length}
use Rattle.records.specs.Records.{key}
use Rattle.store.specs.Layout.{is_open, symbols_at, depth_at}
use Rattle.store.specs.Sound.{key_ok, table_ok, record_ok}
use Rattle.store.specs.Walk.{oldest_ok, ends_ok, key_fits, own_ok}
use Rattle.store.proofs.Parents.{above}
use Rattle.store.proofs.Walking.{fit_ok}
use Rattle.store.proofs.Climbing.{fit_record}

-- what the declared test of a key tells
pub record KeyStands (s : List ℕ) (k : ℕ) : Type 0 where
  pub desk : desk_of k < desks
  pub opened : T (is_open s (desk_of k))
  pub context : T (is_context (symbols_at s (desk_of k)) (depth_at s (desk_of k)) (context_of k))
  pub back : key_of (desk_of k) (context_of k) ≡ k

pub key_stands : (s : List ℕ) (k : ℕ) → T (key_ok s k) → KeyStands s k
unfolding key_ok
key_stands s k t =
    let one = right (ltb (desk_of k) desks) _ t in
    let two = right (is_open s (desk_of k)) _ one in
    let context = is_context (symbols_at s (desk_of k)) (depth_at s (desk_of k)) (context_of k) in
    record {
      desk = ltb→lt (desk_of k) desks (left (ltb (desk_of k) desks) _ t);
      opened = left (is_open s (desk_of k)) _ one;
      context = left context _ two;
      back = eqb→eq (key_of (desk_of k) (context_of k)) k (right context _ two);
    }

-- the oldest symbol is one of the context's
oldest_fits : (A D k : ℕ) → 1 ≤ A → T (is_context A D (context_of k)) → len_of k ≤ deepest → Ends k → T (oldest_ok A k)
unfolding oldest_ok eights
oldest_fits A D k some c short ends = elim (order 0 (len_of k)) [
  | less h ↦
      let a = above k h short ends in
      let low = oldest_below A D (parent_of (context_of k)) a.symbol (subst (λ (x : List ℕ). T (is_context A D x)) a.is c) in
      lt→ltb _ A (subst (λ (x : ℕ). x < A) (sym a.reads) low)
  | same q ↦
      let e : k % eights 0 ≡ 0 = subst (λ (l : ℕ). k % eights l ≡ l) (sym q) ends in
      lt→ltb _ A (rw (sym q) (omega arith))
  | more h ↦ absurd (omega arith)
]

key_fits_lem : (s : List ℕ) (k : ℕ) → ((d : ℕ) → d < desks → T (is_open s d) → 1 ≤ symbols_at s d) → T (key_ok s k) → T (key_fits s k)
unfolding key_fits ends_ok
key_fits_lem s k some t =
    let g = key_stands s k t in
    let d = desk_of k in
    let c = context_of k in
    let within = context_of_within k in
    let len : len_of k ≡ length c = subst (λ (m : ℕ). len_of m ≡ length c) g.back (key_length d c within) in
    let ends : Ends k = subst (λ (l : ℕ). k % eights l ≡ l) (sym len) (subst (λ (m : ℕ). m % eights (length c) ≡ length c) g.back (key_ends d c within)) in
    let short = context_length (symbols_at s d) (depth_at s d) c g.context in
    both (ltb d desks) _ (lt→ltb d desks g.desk)
    (both (is_open s d) _ g.opened
    (both (leb (len_of k) (depth_at s d)) _ (le→leb (len_of k) (depth_at s d) (omega arith))
    (both (oldest_ok (symbols_at s d) k) _ (oldest_fits (symbols_at s d) (depth_at s d) k (some d g.desk g.opened) g.context (ends_short k ends) ends)
    (eq→eqb (k % eights (len_of k)) (len_of k) ends))))

record_fit : (s : List ℕ) (rs : List (List ℕ)) → ((d : ℕ) → d < desks → T (is_open s d) → 1 ≤ symbols_at s d) → (r : List ℕ) → T (record_ok s rs r) → T (fit_ok s rs r)
unfolding fit_ok own_ok record_ok
record_fit s rs some r t =
    let rest = right (key_ok s (key r)) _ t in
    both (own_ok s r) _ (both (key_fits s (key r)) _ (key_fits_lem s (key r) some (left (key_ok s (key r)) _ t)) (left (table_ok s r) _ rest)) (right (table_ok s r) _ rest)

-- THEOREM. Where every open desk has an alphabet, the pass's test of all records is the declared one
pub fits_are : (s : List ℕ) (rs : List (List ℕ)) → ((d : ℕ) → d < desks → T (is_open s d) → 1 ≤ symbols_at s d) → all (fit_ok s rs) rs ≡ all (record_ok s rs) rs
fits_are s rs some = bool_ext _ _
    (λ t. all_of (record_ok s rs) rs [] (λ i h. fit_record s rs t (get_or rs i []) (all_at (fit_ok s rs) rs i [] t h)))
    (λ t. all_of (fit_ok s rs) rs [] (λ i h. record_fit s rs some (get_or rs i []) (all_at (record_ok s rs) rs i [] t h)))
