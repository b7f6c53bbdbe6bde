-- An accepted file's last n + m bytes are its symbols, one each, all below A. Assumes nothing.
use Rattle.std.specs.Prelude.{Ok, Err}
use Prim.Native.Nat.{ℕ, zero, suc, ◌+◌, ◌-◌, ◌<◌, ◌≤◌}
use mathlib.Core.Path.{◌≡◌, refl, ap, subst, ◌∙◌}
use mathlib.Core.Bool.{Bool, true, false, cond}
use mathlib.Core.List.{List}
use native.Mathlib.Omega.{arith}
use lib.ListN.{length, get_or, take, drop, length-drop}
use lib.Seq.{get_or-drop, get_or-take, length-take-le}
use lib.Dec.{ltb}
use borrow.Author.Tests.{ltb-false}
use Rattle.sitting_file.specs.Format.{number_at, and_then, header_of, symbols_from, body_of, read_of, Heading, Number, Reading}
use Rattle.sitting_file.specs.Samples.{InLimits, last_symbols, longest_header, Holds}
use Rattle.sitting_file.specs.declared.Shape.{Shape}
use Rattle.sitting_file.specs.declared.Refusal.{Refusal}
use Rattle.sitting_file.specs.declared.Refusal.TheVariants.{BytesLeft}
use Rattle.numbers.proofs.Orders.{less, same, more, order}
use Rattle.sitting_file.proofs.Groups.{number_found}
use Rattle.sitting_file.proofs.Stages.{header_read}

pub never : {B : Type 0} {why : Refusal} {shape : Shape} → ◌≡◌ {A = Reading} (Err why) (Ok shape) → B
never e =
    let z : ◌≡◌ {A = ℕ} 0 1 = cc in
    absurd (omega arith)

shape_same : {s t : Shape} → ◌≡◌ {A = Reading} (Ok s) (Ok t) → s ≡ t
shape_same e = cc

module _ (file : List ℕ) (shape told : Shape) where
  -- what is accepted is what the header announced
  pub announced : (left at : ℕ) → symbols_from file shape left at ≡ Ok told → shape ≡ told
  unfolding symbols_from
  announced zero at e = go (ltb at (length file)) e
    where
      go : (t : Bool) → cond t (Err BytesLeft) (Ok shape) ≡ Ok told → shape ≡ told
      go true e = never e
      go false e = shape_same e
  announced (suc left) at e = go (number_at file at 0 (shape.alphabet - 1)) (announced left) e
    where
      go : (n : Number) → ((next : ℕ) → symbols_from file shape left next ≡ Ok told → shape ≡ told) → and_then n Err (λ _ next. symbols_from file shape left next) ≡ Ok told → shape ≡ told
      go (Ok (v, next)) onward e = onward next e
      go (Err why) onward e = never e

  -- the symbols that are left take the rest of the file, a byte each
  record Ended (left at : ℕ) : Type 0 where
    ends : at + left ≡ length file
    below : (i : ℕ) → at ≤ i → i < length file → get_or file i 0 < shape.alphabet

  symbols_accepted : InLimits shape → (left at : ℕ) → at ≤ length file → symbols_from file shape left at ≡ Ok told → Ended left at
  unfolding symbols_from
  symbols_accepted l zero at h e = go (ltb at (length file)) refl e
    where
      go : (t : Bool) → ltb at (length file) ≡ t → cond t (Err BytesLeft) (Ok shape) ≡ Ok told → Ended zero at
      go true t e = never e
      go false t e =
          let done : length file ≤ at = ltb-false at (length file) t in
          record { ends = omega arith; below = λ i g k. absurd (omega arith) }
  symbols_accepted l (suc left) at h e = go (number_at file at 0 (shape.alphabet - 1)) refl (symbols_accepted l left) e
    where
      go : (n : Number) → number_at file at 0 (shape.alphabet - 1) ≡ n → ((next : ℕ) → next ≤ length file → symbols_from file shape left next ≡ Ok told → Ended left next) → and_then n Err (λ _ next. symbols_from file shape left next) ≡ Ok told → Ended (suc left) at
      go (Err why) q onward e = never e
      go (Ok (v, next)) q onward e =
          let f = number_found 0 (shape.alphabet - 1) at v next file q in
          let high = l.alphabet_high in
          let low = l.alphabet_low in
          let s = f.single (omega arith) in
          let r = onward next f.ends e in
          let end = r.ends in
          let small : get_or file at 0 < shape.alphabet = omega arith in
          record {
            ends = omega arith;
            below = λ i g k. elim (order at i) [
              | less o ↦ r.below i (omega arith) k
              | same o ↦ subst (λ (j : ℕ). get_or file j 0 < shape.alphabet) o small
              | more o ↦ absurd (omega arith)
            ];
          }

-- ---- the whole file

module _ (file : List ℕ) (shape : Shape) (at : ℕ) (ends : at + (shape.first + shape.second) ≡ length file) where
  -- the symbols start where the header ends
  start : length file - (shape.first + shape.second) ≡ at
  start = omega arith

  count : length (last_symbols file shape) ≡ shape.first + shape.second
  count = length-drop (length file - (shape.first + shape.second)) file ∙ (omega arith)

  symbol : (i : ℕ) → get_or (last_symbols file shape) i 0 ≡ get_or file (at + i) 0
  symbol i = get_or-drop (length file - (shape.first + shape.second)) file i 0 ∙ ap (λ (k : ℕ). get_or file (k + i) 0) start

  holds : InLimits shape → at ≤ longest_header → ((i : ℕ) → at ≤ i → i < length file → get_or file i 0 < shape.alphabet) → Holds file shape
  holds l place below =
      let n = shape.first in
      let ss = last_symbols file shape in
      let long = count in
      let first_high = l.first_high in
      let second_high = l.second_high in
      let first_long : length (take n ss) ≡ n = length-take-le n ss (omega arith) in
      let second-long : length (drop n ss) ≡ shape.second = length-drop n ss ∙ (omega arith) in
      record {
        limits = l;
        enough = omega arith;
        size = omega arith;
        below = λ i h k. below i (omega arith) k;
        first_count = first_long;
        second_count = second-long;
        first_below = λ i h. rw (get_or-take n ss i 0 (omega arith), symbol i) (below (at + i) (omega arith) (omega arith));
        second_below = λ i h. rw (get_or-drop n ss i 0, symbol (n + i)) (below (at + (n + i)) (omega arith) (omega arith));
      }

pub accepted_holds : (file : List ℕ) (shape : Shape) → read_of file ≡ Ok shape → Holds file shape
unfolding body_of
accepted_holds file shape e = go (header_of file) refl e
  where
    go : (h : Heading) → header_of file ≡ h → body_of file h ≡ Ok shape → Holds file shape
    go (Err why) q e = never e
    go (Ok (read, at)) q e =
        let h = header_read file read at q in
        let r = symbols_accepted file read shape h.limits (read.first + read.second) at h.ends e in
        subst (Holds file) (announced file read shape (read.first + read.second) at e) (holds file read at r.ends h.limits h.place r.below)
