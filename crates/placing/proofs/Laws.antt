-- A piece put into bytes, and one piece after another. Assumes nothing.
use Prim.Native.Nat.{ℕ, ◌+◌, ◌<◌}
use native.Mathlib.Omega.{arith}
use native.Mathlib.Numerals.{add-one}
use native.Mathlib.Nat.{add-zero}
use mathlib.Core.Path.{◌≡◌, refl, sym, ap, ap₂, ◌∙◌}
use mathlib.Core.List.{List, [], ◌∷◌, ◌++◌, append_assoc}
use lib.ListN.{length, get_or, take, drop, set, length-append, length-take, length-drop, take-append-drop}
use lib.Seq.{take-suc, set_split, take_at, drop_at, drop-drop, length-take-le}
use Rattle.placing.specs.Placing.{laid, HasRoom, Puts}

-- ---- one piece

module _ (piece : List ℕ) (at : ℕ) (before : List ℕ) where
  pub laid_length : HasRoom piece at before → length (laid piece at before) ≡ length before
  laid_length h = simp (length-append, length-take, length-drop) (omega arith)

  pub puts_length : HasRoom piece at before → (after : List ℕ) (r : ℕ) → Puts piece at before after r → length after ≡ length before
  puts_length h after r put = ap length put.bytes ∙ laid_length h

-- THEOREM. Two results that one promise allows are equal
pub puts_settled : (piece : List ℕ) (at : ℕ) (before x y : List ℕ) (r s : ℕ) → Puts piece at before x r → Puts piece at before y s → (r ≡ s) × (x ≡ y)
puts_settled piece at before x y r s p q = (p.next ∙ sym q.next, p.bytes ∙ sym q.bytes)

-- one byte stored
pub puts_byte : (byte at : ℕ) (before : List ℕ) → HasRoom (byte ∷ []) at before → Puts (byte ∷ []) at before (set before at byte) (at + 1)
puts_byte byte at before h = record { next = refl; bytes = set_split before at byte (omega arith) ∙ rw add-one }

-- no byte
pub puts_none : (at : ℕ) (before : List ℕ) → Puts [] at before before at
puts_none at before = record { next = sym (add-zero at); bytes = rw (add-zero, take-append-drop) }

-- ---- one piece after another

module _ (whole p q : List ℕ) (e : whole ≡ p ++ q) (at : ℕ) (a : List ℕ) (room : HasRoom whole at a) where
  long : length whole ≡ length p + length q
  long = ap length e ∙ length-append p q

  pub room_front : HasRoom p at a
  room_front = omega (arith, long)

  laid_twice : laid q (at + length p) (laid p at a) ≡ laid whole at a
  laid_twice =
      let t = take at a in
      let d = drop (at + length p) a in
      let n : length (t ++ p) ≡ at + length p = length-append t p ∙ ap (λ (k : ℕ). k + length p) (length-take-le at a (omega (arith, room_front))) in
      let past : drop (at + length p + length q) ((t ++ p) ++ d) ≡ drop (at + length p + length q) a = sym (drop-drop (length q) (at + length p) ((t ++ p) ++ d)) ∙ ap (drop (length q)) (drop_at (t ++ p) d (at + length p) n) ∙ drop-drop (length q) (at + length p) a in
      let end : at + length p + length q ≡ at + length (p ++ q) = omega (arith, length-append p q) in
      rw (e, ← append_assoc t p d, take_at (t ++ p) d (at + length p) n, past, end) (simp append_assoc)

  module _ (b : List ℕ) (r : ℕ) (first : Puts p at a b r) where
    pub room_back : HasRoom q r b
    room_back = omega (arith, first.next, puts_length p at a room_front b r first, long)

    pub puts_then : (c : List ℕ) (s : ℕ) → Puts q r b c s → Puts whole at a c s
    puts_then c s second =
        record {
          next = omega (arith, first.next, second.next, long);
          bytes = second.bytes ∙ ap₂ (laid q) first.next first.bytes ∙ laid_twice;
        }

-- ---- the bytes of a piece one by one

module _ (piece : List ℕ) (at i : ℕ) (a b : List ℕ) (room : HasRoom piece at a) (more : i < length piece) (so_far : Puts (take i piece) at a b (at + i)) where
  one_more : take (i + 1) piece ≡ take i piece ++ (get_or piece i 0 ∷ [])
  one_more = rw add-one (take-suc piece i 0 more)

  beginning : HasRoom (take (i + 1) piece) at a
  beginning = rw length-take (omega arith)

  byte_room : HasRoom (get_or piece i 0 ∷ []) (at + i) b
  byte_room = room_back (take (i + 1) piece) (take i piece) (get_or piece i 0 ∷ []) one_more at a beginning b (at + i) so_far

  pub next_room : at + i < length b
  next_room = omega (arith, byte_room)

  pub puts_next : Puts (take (i + 1) piece) at a (set b (at + i) (get_or piece i 0)) (at + (i + 1))
  puts_next =
      let e : at + i + 1 ≡ at + (i + 1) = omega arith in
      rw (← e) (puts_then (take (i + 1) piece) (take i piece) (get_or piece i 0 ∷ []) one_more at a beginning b (at + i) so_far _ (at + i + 1) (puts_byte (get_or piece i 0) (at + i) b byte_room))
