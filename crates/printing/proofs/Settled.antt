-- What the promise of printing settles: the answer, and every byte. Assumes nothing.
use Prim.Native.Nat.{ℕ, ◌+◌}
use native.Mathlib.Omega.{arith}
use native.Mathlib.Nat.{zero-add}
use mathlib.Core.Path.{◌≡◌, sym, ap, ap₂, ◌∙◌}
use mathlib.Core.List.{List, ◌++◌}
use lib.ListN.{length, take, drop, take-append-drop}
use lib.Seq.{take_at, drop_at, length-take-le}
use Rattle.placing.specs.Placing.{HasRoom, Puts}
use Rattle.printing.specs.Putting.{Printed}
use Rattle.placing.proofs.Laws.{puts_length}

-- a text that was put at the start is printed
pub put_printed : (text before after : List ℕ) (r : ℕ) → HasRoom text 0 before → Puts text 0 before after r → Printed text before after r
put_printed text before after r room put =
    let n : length text ≡ r = sym (put.next ∙ zero-add (length text)) in
    let inside = puts_length text 0 before room after r put in
    record {
      bytes = ap (take r) put.bytes ∙ take_at text (drop (0 + length text) before) r n;
      past = ap (drop r) put.bytes ∙ drop_at text (drop (0 + length text) before) r n ∙ ap (λ (k : ℕ). drop k before) (sym put.next);
      within = omega arith;
      count = sym (length-take-le r after (omega arith));
    }

module _ (text before : List ℕ) where
  -- THEOREM. The answer is the text's length ..
  pub printed_count : (after : List ℕ) (r : ℕ) → Printed text before after r → r ≡ length text
  printed_count after r p = p.count ∙ ap length p.bytes

  -- THEOREM. .. and the bytes are the text and what stood past it
  pub printed_bytes : (after : List ℕ) (r : ℕ) → Printed text before after r → after ≡ text ++ drop (length text) before
  printed_bytes after r p =
      sym (take-append-drop r after) ∙ ap₂ (λ (l m : List ℕ). l ++ m) p.bytes p.past ∙ ap (λ (k : ℕ). text ++ drop k before) (printed_count after r p)

  -- THEOREM. Two results that one promise allows are equal
  pub printed_settles : (a b : List ℕ) (r s : ℕ) → Printed text before a r → Printed text before b s → (r ≡ s) × (a ≡ b)
  printed_settles a b r s p q = (printed_count a r p ∙ sym (printed_count b s q), printed_bytes a r p ∙ sym (printed_bytes b s q))
