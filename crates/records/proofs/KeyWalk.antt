-- The loops that walk the recent symbols of a feed, from the empty context to the longest: the key of each context. Assumes nothing.
use mathlib.Core.Path.{◌≡◌, refl, sym, ap, ◌∙◌}
use mathlib.Core.List.{List}
use Prim.Native.Nat.{ℕ, zero, suc, ◌+◌, ◌-◌, ◌*◌, ◌/◌, ◌^◌, ◌≤◌, ◌<◌}
use native.Mathlib.Numerals.{add-one}
use native.Mathlib.Omega.{arith}
use native.Mathlib.Nat.{pow-suc}
use borrow.Author.Tests.{lt-ltb}
use lib.ListN.{length, take, get_or}
use lib.Seq.{take-length}
use Rattle.numbers.specs.Limits.{most_symbols, deepest, desks}
use Rattle.numbers.proofs.Orders.{less, same, more, order}
use Rattle.contexts.specs.Keys.{desk_span, key_of}
use Rattle.contexts.proofs.Strings.{context_length}
use Rattle.contexts.proofs.KeyOrder.{Within, digits_nil, context_key_lt, key_step}
use Rattle.contexts.proofs.Followed.{context_take}
use Rattle.records.specs.Located.{longer_key}

-- ---- longer contexts have greater keys

module _ (d : ℕ) (r : List ℕ) (c : Within r) where
  key_next : (j : ℕ) → j < length r → key_of d (take j r) < key_of d (take (suc j) r)
  key_next j h =
      let short = context_length most_symbols deepest r c in
      omega (arith, key_step j (5 - j) r h (omega arith))

  pub key_longer : (j m : ℕ) → j < m → m ≤ length r → key_of d (take j r) < key_of d (take m r)
  key_longer j zero h g = absurd (omega arith)
  key_longer j (suc m) h g = elim (order j m) [
    | less l ↦ let a = key_longer j m l (omega arith) in let b = key_next m (omega arith) in omega arith
    | same e ↦ rw e (key_next m (omega arith))
    | more l ↦ absurd (omega arith)
  ]

  pub key_le : (j m : ℕ) → j ≤ m → m ≤ length r → key_of d (take j r) ≤ key_of d (take m r)
  key_le j m h g = elim (order j m) [
    | less l ↦ let a = key_longer j m l g in omega arith
    | same e ↦ rw e (omega arith)
    | more l ↦ absurd (omega arith)
  ]

  pub key_most : (j : ℕ) → j ≤ length r → key_of d (take j r) ≤ key_of d r
  key_most j h = rw (take-length r) at (key_le j (length r) h (omega arith))

-- ---- the key of the next context

-- `key` is that of the context of length j, and `eights` the power of eight at which the next symbol stands in a key
pub record Walk (d : ℕ) (r : List ℕ) (key eights j : ℕ) : Type 0 where
  pub within : j ≤ length r + 1
  pub key_is : j ≤ length r → key ≡ key_of d (take j r)
  pub eights_is : j ≤ length r → eights ≡ 8 ^ (deepest - j)

pub walk_start : (d : ℕ) (r : List ℕ) → Walk d r (d * desk_span) 262144 0
walk_start d r = record { within = omega arith; key_is = λ h. omega (arith, digits_nil deepest); eights_is = λ h. refl }

module _ (d : ℕ) (r : List ℕ) (small : d < desks) (c : Within r) (key eights j : ℕ) (w : Walk d r key eights j) where
  next : j < length r → (key + (get_or r j 0 * eights + 1) ≡ key_of d (take (suc j) r)) × (eights / 8 ≡ 8 ^ (deepest - (j + 1)))
  next h =
      let short = context_length most_symbols deepest r c in
      let e : deepest - j ≡ suc (5 - j) = omega arith in
      let f : deepest - (j + 1) ≡ 5 - j = omega arith in
      let g : eights ≡ 8 ^ suc (5 - j) = w.eights_is (omega arith) ∙ ap (λ (z : ℕ). 8 ^ z) e in
      let k = key_step j (5 - j) r h (omega arith) in
      (rw g (omega (arith, w.key_is (omega arith), k)), rw f (omega (arith, g, pow-suc 8 (5 - j))))

  -- it fits
  pub walk_fits : j < length r → key + (get_or r j 0 * eights + 1) < 2 ^ 32
  walk_fits h =
      let less = context_key_lt (take (suc j) r) (context_take most_symbols deepest (suc j) r c) in
      omega (arith, (next h).0, less, small)

  pub walk_on : (key' : ℕ) → j ≤ length r → key' ≡ longer_key key eights r j → Walk d r key' (eights / 8) (j + 1)
  walk_on key' on e = record {
    within = omega arith;
    key_is = λ h.
        let inside : j < length r = omega arith in
        let now : longer_key key eights r j ≡ key + (get_or r j 0 * eights + 1) = rw (lt-ltb j (length r) inside) in
        e ∙ now ∙ (next inside).0 ∙ ap (λ (z : ℕ). key_of d (take z r)) (sym (add-one j));
    eights_is = λ h. (next (omega arith)).1;
  }
