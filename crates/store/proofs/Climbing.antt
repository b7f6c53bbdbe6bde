-- The pass reads the oldest symbol of a key only: the newer ones are those of its parent. A record that passes its test passes the
-- declared one. Assumes nothing.
use mathlib.Core.Path.{◌≡◌, refl, sym, ap, subst, ◌∙◌}
use mathlib.Core.List.{List, [], ◌∷◌}
use Prim.Native.Nat.{ℕ, zero, suc, ◌+◌, ◌<◌}
use native.Mathlib.Omega.{arith}
use lib.Dec.{T, ltb, eqb, ltb→lt, lt→ltb, eqb→eq}
use lib.ListN.{length}
use Rattle.numbers.specs.Limits.{desks}
use Rattle.numbers.specs.Every.{all}
use Rattle.numbers.proofs.Tests.{T?, both, left, right, or_rest, is_false}
use Rattle.numbers.proofs.Orders.{less, same, more, order, eq→eqb}
use Rattle.numbers.proofs.Every.{all_at}
use Rattle.contexts.specs.Context.{is_context, parent_of}
use Rattle.contexts.specs.Keys.{key_of, desk_of, context_of, len_of}
use Rattle.contexts.specs.Sitting.{Sample, first, second}
use Rattle.contexts.proofs.Oldest.{length_snoc, context_snoc}
use Rattle.contexts.proofs.Digits.{ends_short, context_of_length, key_back}
use Rattle.records.specs.Records.{key, lookup}
use Rattle.records.specs.Held.{held}
use Rattle.records.proofs.Finding.{lookup_absent, lookup_held, key_lookup}
use Rattle.records.proofs.Counting.{total_blank}
use Rattle.store.specs.Layout.{is_open, symbols_at, depth_at, total_of}
use Rattle.store.specs.Sound.{each_sample, key_ok, sample_ok, table_ok, parent_key, parent_ok, record_ok}
use Rattle.store.specs.Walk.{oldest_ok, key_fits, own_ok}
use Rattle.store.proofs.Many.{sample_at}
use Rattle.store.proofs.Parents.{above}
use Rattle.store.proofs.Walking.{fit_ok, own_key}

-- ---- a record's table

-- a record that passes has a count
pub table_seen : (s r : List ℕ) → T (table_ok s r) → 0 < total_of first r + total_of second r
unfolding table_ok
table_seen s r t = ltb→lt 0 (total_of first r + total_of second r) (right (each_sample (sample_ok s r)) _ t)

-- a sample that has seen a record has seen its parent
pub parent_seen : (rs : List (List ℕ)) (r : List ℕ) (i : Sample) → T (parent_ok rs r i) → 0 < total_of i r → 0 < total_of i (lookup (parent_key (key r)) rs)
unfolding parent_ok
parent_seen rs r i t h =
    ltb→lt 0 (total_of i (lookup (parent_key (key r)) rs)) (or_rest (eqb (total_of i r) 0) _ t (λ z. let e = eqb→eq (total_of i r) 0 z in omega arith))

-- so a record that passes has a parent with a count
either_seen : (s : List ℕ) (rs : List (List ℕ)) (r : List ℕ) → T (table_ok s r) → T (each_sample (parent_ok rs r))
    → 0 < total_of first (lookup (parent_key (key r)) rs) + total_of second (lookup (parent_key (key r)) rs)
either_seen s rs r t u = elim (order 0 (total_of first r)) [
  | less h ↦ let z = parent_seen rs r first (sample_at (parent_ok rs r) u first) h in omega arith
  | same e ↦ let z = parent_seen rs r second (sample_at (parent_ok rs r) u second) (omega (arith, table_seen s r t)) in omega arith
  | more h ↦ absurd (omega arith)
]

-- a key at which something was counted has its record
counted_held : (k : ℕ) (rs : List (List ℕ)) → 0 < total_of first (lookup k rs) + total_of second (lookup k rs) → T (held k rs)
counted_held k rs h = elim (T? (held k rs)) [
  | yes t ↦ t
  | no n ↦
      let e = lookup_absent k rs (is_false (held k rs) n) in
      absurd (omega (arith, ap (total_of first) e, ap (total_of second) e, total_blank first k, total_blank second k))
]

-- ---- from the pass's test to the declared one

module _ (s : List ℕ) (rs : List (List ℕ)) (good : T (all (fit_ok s rs) rs)) where
  climb : (l : ℕ) (r : List ℕ) → T (fit_ok s rs r) → len_of (key r) ≡ l → T (is_context (symbols_at s (desk_of (key r))) (depth_at s (desk_of (key r))) (context_of (key r)))
  unfolding fit_ok own_ok oldest_ok is_context
  climb zero r t e = nil (context_of (key r)) (context_of_length (key r) (omega arith) ∙ e)
    where
      nil : (c : List ℕ) → length c ≡ 0 → T (is_context (symbols_at s (desk_of (key r))) (depth_at s (desk_of (key r))) c)
      nil [] q = tt
      nil (x ∷ c) q = absurd (omega arith)
  climb (suc l) r t e =
      let k = key r in
      let A = symbols_at s (desk_of k) in
      let D = depth_at s (desk_of k) in
      let own = left (own_ok s r) _ t in
      let fits = own_key s r own in
      let short = ends_short k fits.ends in
      let a = above k (omega arith) short fits.ends in
      let seen = either_seen s rs r (right (key_fits s k) _ own) (right (own_ok s r) _ t) in
      let there = counted_held (parent_key k) rs seen in
      let up : key (lookup (parent_key k) rs) ≡ parent_key k = key_lookup (parent_key k) rs there in
      let fit = lookup_held (λ x. T (fit_ok s rs x)) (parent_key k) rs (λ i h e. all_at (fit_ok s rs) rs i [] good h) there in
      let ih = climb l (lookup (parent_key k) rs) fit (ap len_of up ∙ omega (arith, a.shorter)) in
      let here : T (is_context (symbols_at s (desk_of (parent_key k))) (depth_at s (desk_of (parent_key k))) (context_of (parent_key k))) =
      subst (λ (m : ℕ). T (is_context (symbols_at s (desk_of m)) (depth_at s (desk_of m)) (context_of m))) up ih in
      let desk : T (is_context A D (context_of (parent_key k))) = subst (λ (d : ℕ). T (is_context (symbols_at s d) (depth_at s d) (context_of (parent_key k)))) a.desk here in
      let parent : T (is_context A D (parent_of (context_of k))) = subst (λ (c : List ℕ). T (is_context A D c)) a.context desk in
      let below : a.symbol < A = subst (λ (x : ℕ). x < A) a.reads (ltb→lt _ A fits.oldest) in
      let long : length (context_of k) ≡ suc (length (parent_of (context_of k))) = ap length a.is ∙ length_snoc (parent_of (context_of k)) a.symbol in
      let room : length (parent_of (context_of k)) < D = omega (arith, fits.short, context_of_length k short) in
      subst (λ (c : List ℕ). T (is_context A D c)) (sym a.is) (context_snoc A D (parent_of (context_of k)) a.symbol parent below room)

  pub fit_record : (r : List ℕ) → T (fit_ok s rs r) → T (record_ok s rs r)
  unfolding fit_ok own_ok record_ok key_ok
  fit_record r t =
      let k = key r in
      let own = left (own_ok s r) _ t in
      let fits = own_key s r own in
      both (key_ok s k) _
      (both (ltb (desk_of k) desks) _ (lt→ltb (desk_of k) desks fits.desk)
      (both (is_open s (desk_of k)) _ fits.opened
      (both (is_context (symbols_at s (desk_of k)) (depth_at s (desk_of k)) (context_of k)) _ (climb (len_of k) r t refl)
      (eq→eqb (key_of (desk_of k) (context_of k)) k (key_back k (ends_short k fits.ends) fits.ends)))))
      (both (table_ok s r) _ (right (key_fits s k) _ own) (right (own_ok s r) _ t))
