-- How many contexts a list of records holds: the sum over all strings of those that have a record. Assumes nothing.
use mathlib.Core.Path.{◌≡◌, refl, ap, ◌∙◌}
use mathlib.Core.Bool.{Bool, true, false, ◌||◌}
use mathlib.Core.List.{List, [], ◌∷◌}
use Prim.Native.Nat.{ℕ, suc, ◌+◌, ◌≤◌, ◌<◌}
use native.Mathlib.Omega.{arith}
use borrow.Author.Tests.{eq-eqb}
use lib.Dec.{T, eqb, eqb→eq}
use lib.ListN.{length, get_or}
use Rattle.numbers.specs.Limits.{most_symbols, deepest}
use Rattle.numbers.specs.Sum.{one}
use Rattle.contexts.specs.Context.{is_context, eqs}
use Rattle.contexts.specs.Keys.{key_of}
use Rattle.contexts.specs.Strings.{total}
use Rattle.contexts.proofs.Strings.{context_more}
use Rattle.contexts.proofs.Totalling.{total_within, total_one, total_add, total_none}
use Rattle.contexts.proofs.KeyOrder.{Within, eqb_key}
use Rattle.records.specs.Records.{key, keys, rises}
use Rattle.records.specs.Held.{held}
use Rattle.records.proofs.Rising.{rises_rest}
use Rattle.records.proofs.Finding.{held_none}

either : (a b : Bool) → (T a → b ≡ false) → one (a || b) ≡ one a + one b
either true b f = rw (f tt)
either false b f = omega arith

-- the contexts of desk d over A and D
module _ (A D d : ℕ) (most : A ≤ most_symbols) (deep : D ≤ deepest) where
  -- records of one desk's contexts hold as many contexts as there are records
  pub total_keys : (lo : ℕ) (rs : List (List ℕ)) → T (rises lo (keys rs))
      → ((j : ℕ) → j < length rs → (c : List ℕ) × T (is_context A D c) × (key (get_or rs j []) ≡ key_of d c))
      → total A D (λ c. one (held (key_of d c) rs)) ≡ length rs
  unfolding held
  total_keys lo [] up own = total_none A D (λ c. refl)
  total_keys lo (r ∷ rs) up own =
      let ih = total_keys (suc (key r)) rs (rises_rest lo (key r) (keys rs) up) (λ j l. own (suc j) (omega arith)) in
      let t = own 0 (omega arith) in
      let split = total_within A D {g = λ c. one (eqb (key r) (key_of d c) || held (key_of d c) rs)} {h = λ c. one (eqb (key r) (key_of d c)) + one (held (key_of d c) rs)}
      (λ c x. either (eqb (key r) (key_of d c)) (held (key_of d c) rs) (λ q. held_none (key_of d c) (suc (key r)) rs (rises_rest lo (key r) (keys rs) up) (let e = eqb→eq (key r) (key_of d c) q in omega arith))) in
      let this = total_within A D {g = λ c. one (eqb (key r) (key_of d c))} {h = λ c. one (eqs t.0 c)} (λ c x. ap one (same c x t.0 t.1 t.2)) in
      let one_of_lem = total_one A D t.0 t.1 in
      let both = total_add A D (λ c. one (eqb (key r) (key_of d c))) (λ c. one (held (key_of d c) rs)) in
      omega arith
    where
      wide : (c : List ℕ) → T (is_context A D c) → Within c
      wide c x = context_more A most_symbols D deepest c most deep x

      same : (c : List ℕ) → T (is_context A D c) → (t : List ℕ) → T (is_context A D t) → key r ≡ key_of d t → eqb (key r) (key_of d c) ≡ eqs t c
      same c x t y e = rw e (eqb_key t c (wide t y) (wide c x) d d ∙ rw (eq-eqb d d refl))
