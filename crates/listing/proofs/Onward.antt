-- The turns of the writing over the children of a context, one symbol after the other. Assumes nothing.
use Prim.Native.Nat.{ℕ, suc, ◌+◌, ◌-◌, ◌*◌, ◌/◌, ◌^◌, ◌≤◌, ◌<◌}
use mathlib.Core.Path.{◌≡◌, refl, sym, ap, subst, ◌∙◌}
use mathlib.Core.List.{List, [], ◌∷◌, ◌++◌}
use native.Mathlib.Omega.{arith}
use native.Mathlib.Numerals.{add-one}
use native.Mathlib.Nat.{mul-le-mul_right, pow-suc}
use lib.ListN.{length, length-append}
use Rattle.numbers.specs.Limits.{deepest}
use Rattle.contexts.specs.Context.{code_of}
use Rattle.contexts.specs.Keys.{key_of, context_of}
use Rattle.contexts.specs.Sitting.{Sitting}
use Rattle.contexts.proofs.Codes.{code_lt}
use Rattle.contexts.proofs.KeyOrder.{context_of_key}
use Rattle.estimate.specs.Recursion.{Losses, losses}
use Rattle.estimate.specs.declared.ByKind.{ByKind}
use Rattle.rows.specs.Members.{gather}
use Rattle.rows.specs.Rows.{sheet_of}
use Rattle.rows.specs.Walk.{older}
use Rattle.records.specs.Records.{records, keys}
use Rattle.records.specs.Held.{rank}
use Rattle.weighing.specs.declared.Desk.{Desk}
use Rattle.weighing.specs.declared.Context.{Context}
use Rattle.listing.specs.declared.Spot.{Spot}
use Rattle.listing.specs.declared.Way.{Way}
use Rattle.weighing.specs.Sitting.{sitting_in}
use Rattle.weighing.specs.Visit.{Arrived}
use Rattle.listing.specs.Plans.{wanted}
use Rattle.listing.specs.Writing.{sheet_for, WroteAt, CanWrite}
use Rattle.weighing.proofs.Cursor.{within}
use Rattle.weighing.proofs.Steps.{pow_le, after, deeper, room, step_is, step_small, key_small, child_context}
use Rattle.weighing.proofs.BlockParts.{key_older}
use Rattle.listing.proofs.Sheets.{written_none, written_append, gather_next, gather_room}

-- before the child at a of the context s, where d symbols are left below the children and w is wanted of them
pub record Onward (k : Desk) (n : ℕ) (l : List ℕ) (s : List ℕ) (d step power : ℕ) (w : Way) (to a key code : ℕ) (old cur : List ℕ) (past : ℕ) : Type 0 where
  pub few : a ≤ k.symbols
  pub key_is : key ≡ key_of k.number s + a * step + 1
  pub code_is : code ≡ code_of s + a * power
  pub written : WroteAt old cur to (sheet_for (sitting_in k (records n l)) (gather a (λ b. wanted k.symbols d (losses (sitting_in k (records n l))) w (older s b)))) past

-- the code of a child
code_older : (s : List ℕ) (a : ℕ) → code_of (older s a) ≡ code_of s + a * 8 ^ length s
unfolding code_of
code_older [] a = omega arith
code_older (b ∷ s) a = omega (arith, code_older s a, ap (λ (p : ℕ). a * p) (pow-suc 8 (length s)))

module _ {k : Desk} {costs : ByKind} {n : ℕ} {l kept : List ℕ} {top : ℕ} {s : List ℕ} {c : Spot} {to : ℕ} (q : CanWrite k costs n l kept top s c to) (more : c.left ≡ 0 → ⊥) where
  abbrev x : Sitting
  x = sitting_in k (records n l)

  abbrev f : Losses
  f = losses x

  -- the context as a weighing would visit it
  abbrev here : Context
  here = record { key = c.key; span = c.span; left = c.left }

  ready : Arrived k costs n l s here (rank (key_of k.number s) (keys (records n l)))
  ready = record {
    weighable = q.weighable;
    priced = q.priced;
    context = q.context;
    key_is = q.key_is;
    span_is = q.span_is;
    left_is = q.left_is;
    place = refl;
  }

  shorter : length s ≤ 5
  shorter = omega (arith, deeper ready more, q.weighable.shallow)

  power_small : c.power ≤ 8 ^ 5
  power_small = rw q.power_is (pow_le (length s) 5 shorter)

  code_small : c.code < c.power
  code_small = rw (q.code_is, q.power_is) (code_lt deepest s (within k n l q.weighable s q.context))

  module _ {w : Way} {from a key code : ℕ} {old cur : List ℕ} {past : ℕ} (t : Onward k n l s (c.left - 1) (c.span / 8) c.power w from a key code old cur past) where
    child_key : a < k.symbols → key ≡ key_of k.number (older s a)
    child_key lt = t.key_is ∙ rw (step_is ready more) (sym (key_older k.number (after s) s (room ready more) a))

    pub onward_key : a < k.symbols → key + c.span / 8 < 2 ^ 32
    onward_key lt = omega (arith, t.key_is, step_small ready more a lt, key_small ready more)

    pub onward_code : a < k.symbols → code + c.power < 2 ^ 32
    onward_code lt = omega (arith, t.code_is, power_small, code_small, mul-le-mul_right {m = a} {n = 8} c.power (omega (arith, q.weighable.few)))

    pub onward_is : a < k.symbols → context_of key ≡ older s a
    onward_is lt = ap context_of (child_key lt) ∙ context_of_key k.number (older s a) (within k n l q.weighable (older s a) (child_context ready more a lt))

    -- what the writing at a child asks
    pub onward_can : a < k.symbols → from + length (sheet_for x (gather k.symbols (λ b. wanted k.symbols (c.left - 1) f w (older s b)))) ≤ top
        → CanWrite k costs n l kept top (older s a) (record { key = key; span = c.span / 8; left = c.left - 1; code = code; power = 8 * c.power; way = w }) past
    onward_can lt fits =
        let long = length-append s (a ∷ []) in
        record {
          weighable = q.weighable;
          priced = q.priced;
          decided = q.decided;
          context = child_context ready more a lt;
          key_is = child_key lt;
          span_is = let e : 7 - length (older s a) ≡ suc (after s) = omega (arith, room ready more) in step_is ready more ∙ rw e;
          left_is = let z = more in omega (arith, q.left_is);
          code_is = t.code_is ∙ rw q.power_is (sym (code_older s a));
          power_is = let e : length (older s a) ≡ suc (length s) = omega arith in rw e (omega (arith, q.power_is, pow-suc 8 (length s)));
          room = omega (arith, t.written.past_is, gather_room x k.symbols a (λ b. wanted k.symbols (c.left - 1) f w (older s b)) lt);
        }

    pub onward_next : a < k.symbols → length old ≡ top → from + length (sheet_for x (gather k.symbols (λ b. wanted k.symbols (c.left - 1) f w (older s b)))) ≤ top
        → (new : List ℕ) (past' : ℕ) → WroteAt cur new past (sheet_for x (wanted k.symbols (c.left - 1) f w (older s a))) past'
        → Onward k n l s (c.left - 1) (c.span / 8) c.power w from (a + 1) (key + c.span / 8) (code + c.power) old new past'
    onward_next lt long fits new past' g = record {
      few = omega arith;
      key_is = omega (arith, t.key_is);
      code_is = omega (arith, t.code_is);
      written = subst (λ (rows : List ℕ). WroteAt old new from rows past') (one_more a)
          (written_append old cur new from past past' _ _ (omega (arith, gather_room x k.symbols a (λ b. wanted k.symbols (c.left - 1) f w (older s b)) lt)) t.written g);
    }
      where
        one_more : (a : ℕ) → sheet_for x (gather a (λ b. wanted k.symbols (c.left - 1) f w (older s b))) ++ sheet_for x (wanted k.symbols (c.left - 1) f w (older s a))
            ≡ sheet_for x (gather (a + 1) (λ b. wanted k.symbols (c.left - 1) f w (older s b)))
        one_more a = rw add-one (sym (gather_next x a (λ b. wanted k.symbols (c.left - 1) f w (older s b))))

    pub onward_done : k.symbols ≤ a → WroteAt old cur from (sheet_for x (gather k.symbols (λ b. wanted k.symbols (c.left - 1) f w (older s b)))) past
    onward_done h = let e : a ≡ k.symbols = omega (arith, t.few) in subst (λ (m : ℕ). WroteAt old cur from (sheet_for x (gather m (λ b. wanted k.symbols (c.left - 1) f w (older s b)))) past) e t.written

  pub onward_begin : (w : Way) (from : ℕ) (old : List ℕ) → Onward k n l s (c.left - 1) (c.span / 8) c.power w from 0 (c.key + 1) c.code old old from
  unfolding gather sheet_of
  onward_begin w from old = record {
    few = omega arith;
    key_is = omega (arith, q.key_is);
    code_is = omega (arith, q.code_is);
    written = written_none old from;
  }

  pub key_fits : c.key + 1 < 2 ^ 32
  key_fits = omega (arith, key_small ready more, q.key_is)

  pub power_fits : 8 * c.power < 2 ^ 32
  power_fits = omega (arith, power_small)
