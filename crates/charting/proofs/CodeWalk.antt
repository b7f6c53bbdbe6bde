-- The loop that reads a code digit by digit: what has been read stands in the key, and the rest decides. Assumes nothing.
use Prim.Native.Nat.{ℕ, suc, ◌+◌, ◌-◌, ◌*◌, ◌/◌, ◌%◌, ◌^◌, ◌≤◌, ◌<◌}
use native.Mathlib.Omega.{arith}
use native.Mathlib.Nat.{pow-suc}
use mathlib.Core.Path.{◌≡◌, refl, sym, ap, ◌∙◌}
use mathlib.Core.Bool.{Bool, true, false, cond}
use borrow.Author.Tests.{eq-eqb, ne_eqb}
use Rattle.numbers.specs.Limits.{most_symbols, deepest, desks}
use Rattle.contexts.specs.Context.{decoded}
use Rattle.contexts.specs.Keys.{digits, desk_span, key_of}
use Rattle.contexts.proofs.Strings.{context_more}
use Rattle.contexts.proofs.Codes.{decoded_length}
use Rattle.contexts.proofs.KeyOrder.{Within, digits_nil, context_key_lt}
use Rattle.rules.specs.Question.{is_code}
use Rattle.std.specs.Prelude.{Some, None}
use Rattle.charting.specs.Naming.{named}
use Rattle.charting.proofs.Digits.{decoded_within, code_older, code_outside, code_none}

-- `newer` of the context's symbols have been read, and the others are still to be read from the digits of `rest`
pub record Unread (A d len code key rest newer : ℕ) : Type 0 where
  pub within : newer ≤ len
  pub decides : is_code A len code ≡ is_code A (len - newer) rest
  pub key_rest : key_of d (decoded len code) ≡ key + (digits (deepest - newer) (decoded (len - newer) rest) * 8 + (len - newer))

module _ (A d len code : ℕ) (few : len ≤ deepest) where
  pub unread_start : Unread A d len code (d * desk_span) code 0
  unread_start =
      let whole : len - 0 ≡ len = omega arith in
      record { within = omega arith; decides = rw whole; key_rest = rw whole (omega (arith, decoded_length len code)) }

  decoded_short : Within (decoded len code)
  decoded_short = context_more most_symbols most_symbols len deepest (decoded len code) (omega arith) few (decoded_within len code)

  module _ (key rest newer : ℕ) (u : Unread A d len code key rest newer) where
    module _ (more : newer < len) where
      older : len - newer ≡ suc (len - (newer + 1))
      older = omega arith

      eighth : deepest - newer ≡ suc (deepest - (newer + 1))
      eighth = omega arith

      -- one symbol's part of the key, at its power of eight
      newest_part : key_of d (decoded len code)
          ≡ key + (rest % 8 * 8 ^ (deepest - newer) + 1 + (digits (deepest - (newer + 1)) (decoded (len - (newer + 1)) (rest / 8)) * 8 + (len - (newer + 1))))
      unfolding digits decoded
      newest_part =
          let e = rw (older, eighth) at u.key_rest in
          rw eighth (omega (arith, e, ap (λ (w : ℕ). rest % 8 * w) (pow-suc 8 (deepest - (newer + 1)))))

      pub unread_on : rest % 8 < A → Unread A d len code (key + (rest % 8 * 8 ^ (deepest - newer) + 1)) (rest / 8) (newer + 1)
      unread_on h = record {
        within = omega arith;
        decides = u.decides ∙ rw older (code_older A (len - (newer + 1)) rest h);
        key_rest = omega (arith, newest_part);
      }

      -- the longer key fits
      pub unread_fits : d < desks → key + (rest % 8 * 8 ^ (deepest - newer) + 1) < desks * desk_span
      unread_fits desk = omega (arith, newest_part, context_key_lt (decoded len code) decoded_short)

      -- ---- the three ways out

      pub unread_outside : A ≤ rest % 8 → None ≡ named A d len code
      unfolding named
      unread_outside h =
          let e : is_code A (len - newer) rest ≡ false = rw older (code_outside A (len - (newer + 1)) rest h) in
          rw (u.decides ∙ e)

    module _ (all : len ≤ newer) where
      none_left : len - newer ≡ 0
      none_left = omega arith

      pub unread_longer : (rest ≡ 0 → ⊥) → None ≡ named A d len code
      unfolding named
      unread_longer n =
          let e : is_code A (len - newer) rest ≡ false = rw none_left (code_none A rest ∙ ne_eqb 0 rest (λ z. n (sym z))) in
          rw (u.decides ∙ e)

      pub unread_end : rest ≡ 0 → Some key ≡ named A d len code
      unfolding named decoded
      unread_end z =
          let k : key_of d (decoded len code) ≡ key = let e = rw none_left at u.key_rest in omega (arith, e, digits_nil (deepest - newer)) in
          let e : is_code A (len - newer) rest ≡ true = rw none_left (code_none A rest ∙ eq-eqb 0 rest (sym z)) in
          rw (u.decides ∙ e, k)

-- ---- what was named

pub named_key : (A d len code k : ℕ) → named A d len code ≡ Some k → (is_code A len code ≡ true) × (key_of d (decoded len code) ≡ k)
unfolding named
named_key A d len code k = go (is_code A len code)
  where
    go : (t : Bool) → cond t (Some (key_of d (decoded len code))) None ≡ Some k → (t ≡ true) × (key_of d (decoded len code) ≡ k)
    go true e = (refl, cc)
    go false e = let z : ◌≡◌ {A = ℕ} 0 1 = cc in absurd (omega arith)

pub named_none : (A d len code : ℕ) → named A d len code ≡ None → is_code A len code ≡ false
unfolding named
named_none A d len code = go (is_code A len code)
  where
    go : (t : Bool) → cond t (Some (key_of d (decoded len code))) None ≡ None → t ≡ false
    go true e = let z : ◌≡◌ {A = ℕ} 0 1 = cc in absurd (omega arith)
    go false e = refl
