-- A line as it is put: numbers, each with a blank after it, a last number, a line feed. Assumes nothing.
use Prim.Native.Nat.{ℕ, ◌+◌, ◌<◌, ◌≤◌}
use native.Mathlib.Numerals.{add-one}
use mathlib.Core.Path.{◌≡◌, refl, sym, ap, ◌∙◌}
use mathlib.Core.List.{List, [], ◌∷◌, ◌++◌, map, append_assoc}
use lib.IntN.{ℤ, pos}
use lib.ListN.{length, get_or, take, drop, take-append-drop}
use lib.Seq.{take-suc, take_all}
use Rattle.printing.specs.Text.{line_feed, space, decimal, signed, line_of}
use Rattle.placing.specs.Placing.{HasRoom, Puts}
use Rattle.placing.proofs.Laws.{room_front, room_back, puts_then}

-- numbers, each with a blank after it
abbrev pub parted : List ℕ → List ℕ
parted [] = []
parted (n ∷ ns) = decimal n ++ (space ∷ parted ns)

parted_append : (ms ns : List ℕ) → parted (ms ++ ns) ≡ parted ms ++ parted ns
parted_append [] ns = refl
parted_append (m ∷ ms) ns = rw (parted_append ms ns) (sym (append_assoc (decimal m) (space ∷ parted ms) (parted ns)))

line_cons : (y : ℤ) (zs : List ℤ) (z : ℤ) → line_of (y ∷ (zs ++ (z ∷ []))) ≡ signed y ++ (space ∷ line_of (zs ++ (z ∷ [])))
unfolding line_of
line_cons y [] z = refl
line_cons y (x ∷ zs) z = refl

-- the last number and the line feed
ending : ℤ → List ℕ
ending z = signed z ++ (line_feed ∷ [])

line_parted : (ns : List ℕ) (z : ℤ) → line_of (map pos ns ++ (z ∷ [])) ≡ parted ns ++ ending z
unfolding line_of ending
line_parted [] z = refl
line_parted (n ∷ ns) z =
    line_cons (pos n) (map pos ns) z ∙ ap (λ (t : List ℕ). decimal n ++ (space ∷ t)) (line_parted ns z)
    ∙ sym (append_assoc (decimal n) (space ∷ parted ns) (ending z))

-- the first i numbers of a line have been put, each with its blank
pub record Begun (ns : List ℕ) (z : ℤ) (at : ℕ) (a : List ℕ) (i : ℕ) (b : List ℕ) (next : ℕ) : Type 0 where
  pub room : HasRoom (line_of (map pos ns ++ (z ∷ []))) at a
  pub so_far : Puts (parted (take i ns)) at a b next

module _ {ns : List ℕ} {z : ℤ} {at : ℕ} {a : List ℕ} {i : ℕ} {b : List ℕ} {next : ℕ} (begun : Begun ns z at a i b next) where
  -- another number, whose text is t
  module _ (more : i < length ns) (t : List ℕ) (e : t ≡ decimal (get_or ns i 0)) where
    number : List ℕ
    number = t ++ (space ∷ [])

    one_more : parted (take (i + 1) ns) ≡ parted (take i ns) ++ number
    unfolding number
    one_more = rw (add-one, take-suc ns i 0 more, parted_append, e)

    beginning : HasRoom (parted (take (i + 1) ns)) at a
    beginning = room_front (line_of (map pos ns ++ (z ∷ []))) (parted (take (i + 1) ns)) (parted (drop (i + 1) ns) ++ ending z) split at a begun.room
      where
        split : line_of (map pos ns ++ (z ∷ [])) ≡ parted (take (i + 1) ns) ++ (parted (drop (i + 1) ns) ++ ending z)
        split =
            line_parted ns z ∙ ap (λ (l : List ℕ). parted l ++ ending z) (sym (take-append-drop (i + 1) ns))
            ∙ ap (λ (l : List ℕ). l ++ ending z) (parted_append (take (i + 1) ns) (drop (i + 1) ns))
            ∙ append_assoc (parted (take (i + 1) ns)) (parted (drop (i + 1) ns)) (ending z)

    number_room : HasRoom number next b
    number_room = room_back _ _ _ one_more at a beginning b next begun.so_far

    pub room_number : HasRoom t next b
    unfolding number
    room_number = room_front number t (space ∷ []) refl next b number_room

    module _ (c : List ℕ) (end : ℕ) (put : Puts t next b c end) where
      pub room_blank : HasRoom (space ∷ []) end c
      unfolding number
      room_blank = room_back number t (space ∷ []) refl next b number_room c end put

      pub puts_number : (d : List ℕ) (s : ℕ) → Puts (space ∷ []) end c d s → Puts (parted (take (i + 1) ns)) at a d s
      unfolding number
      puts_number d s mark =
          puts_then _ _ _ one_more at a beginning b next begun.so_far d s (puts_then number t (space ∷ []) refl next b number_room c end put d s mark)

  -- no other; t is the text of the last number
  module _ (done : length ns ≤ i) (t : List ℕ) (e : t ≡ signed z) where
    last : List ℕ
    last = t ++ (line_feed ∷ [])

    rest : line_of (map pos ns ++ (z ∷ [])) ≡ parted (take i ns) ++ last
    unfolding ending last
    rest = line_parted ns z ∙ rw (take_all i ns done, e)

    end_room : HasRoom last next b
    end_room = room_back _ _ _ rest at a begun.room b next begun.so_far

    pub room_end : HasRoom t next b
    unfolding last
    room_end = room_front last t (line_feed ∷ []) refl next b end_room

    module _ (c : List ℕ) (end : ℕ) (put : Puts t next b c end) where
      pub room_feed : HasRoom (line_feed ∷ []) end c
      unfolding last
      room_feed = room_back last t (line_feed ∷ []) refl next b end_room c end put

      pub puts_line : (d : List ℕ) (s : ℕ) → Puts (line_feed ∷ []) end c d s → Puts (line_of (map pos ns ++ (z ∷ []))) at a d s
      unfolding last
      puts_line d s feed =
          puts_then _ _ _ rest at a begun.room b next begun.so_far d s (puts_then last t (line_feed ∷ []) refl next b end_room c end put d s feed)
