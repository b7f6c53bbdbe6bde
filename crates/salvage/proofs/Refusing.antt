-- A faulty header is refused as the reader does, never with 16, and else only too few bytes are; as many as the damaged file has are enough. Assumes nothing.
use Rattle.std.specs.Prelude.{Ok, Err}
use Prim.Native.Nat.{ℕ, ◌+◌, ◌≤◌}
use native.Mathlib.Decide.{dec_lt}
use native.Mathlib.Omega.{arith}
use mathlib.Core.Path.{◌≡◌, refl, sym, ap, ◌∙◌}
use mathlib.Core.Logic.{◌⊎◌, inl, inr}
use mathlib.Core.Bool.{Bool, true, false, cond}
use mathlib.Core.List.{List, []}
use lib.Dec.{ltb}
use lib.ListN.{length, drop, length-append, length-take, length-drop}
use Rattle.replay.specs.Table.{refused, answered, verdict_of}
use Rattle.replay.proofs.Tables.{no_refusal, number_same}
use Rattle.sitting_file.specs.Format.{Heading, high_bit, header_of, body_of}
use Rattle.sitting_file.specs.Format as format
use Rattle.sitting_file.specs.Verdict.{Bytes, shortest}
use Rattle.sitting_file.specs.declared.Shape.{Shape}
use Rattle.sitting_file.specs.declared.Refusal.{Refusal}
use Rattle.sitting_file.specs.declared.Refusal.TheVariants.{EndsEarly, NotShortest, OutsideLimits, BytesLeft}
use Rattle.sitting_file.proofs.AnswerTrue.{header_place}
use Rattle.sitting_file.proofs.Stages.{header_fault, header_read}
use Rattle.writing.proofs.Sizes.{one_long, two_long, at_most_two, file_long, file_fits}
use Rattle.salvage.specs.Salvage.{first_bytes, second_bytes, first_kept, second_kept, Saved, saved_of, salvage_lines, salvage_of}
use Rattle.salvage.specs.Saving.{nothing_lost, AsTheReader, NoOther, NeverLonger, LongestEnough}
use Rattle.salvage.proofs.Keeping.{kept_fits}
use Rattle.salvage.proofs.Answers.{kept_good, saved_answers}

-- ---- the table

-- what a salvage answers is what its lines say, of what there is to answer
pub by_lines : (h : Heading) (damaged : List ℕ) (room : ℕ) → (s : Saved) × (salvage_of h damaged room ≡ verdict_of (salvage_lines h damaged room) s)
unfolding salvage_of verdict_of
by_lines (Err why) damaged room = (record { file = []; lost = nothing_lost }, refl)
by_lines (Ok (shape, at)) damaged room = (saved_of shape (drop at damaged), refl)

-- THEOREM. A faulty header "is refused as the reader does", and never with 16
pub as_the_reader : AsTheReader
unfolding salvage_of body_of
as_the_reader damaged before after o w why q = record {
  same_number = w.answers ∙ ap (λ (h : Heading). salvage_of h damaged (length before)) q;
  read_so = ap (body_of damaged) q;
  not_16 = header_fault damaged why q;
}

-- THEOREM. Any other refusal is 19
pub no_other : NoOther
unfolding salvage_of verdict_of
no_other damaged before after n w = go (header_of damaged) refl w.answers
  where
    short : (t : Bool) (s : Saved) → refused n ≡ cond t (refused 19) (answered s) → n ≡ 19
    short true s e = number_same e
    short false s e = no_refusal refl (sym e)

    go : (h : Heading) → header_of damaged ≡ h → refused n ≡ salvage_of h damaged (length before) → ((why : Refusal) × (header_of damaged ≡ Err why) × (n ≡ format.refusal_number why)) ⊎ (n ≡ 19)
    go (Err why) q e = inl (why, q, number_same e)
    go (Ok (shape, at)) q e = inr (short (ltb (length before) (length (saved_of shape (drop at damaged)).file)) (saved_of shape (drop at damaged)) e)

-- ---- how long the saved file is

-- a smaller number has no longer form
shorter : (k v : ℕ) → k ≤ v → length (shortest k) ≤ length (shortest v)
shorter k v h = elim (dec_lt k high_bit) [
  | yes l ↦ elim (dec_lt v high_bit) [
    | yes m ↦ omega (arith, one_long k l, one_long v m)
    | no m ↦ omega (arith, one_long k l, two_long v (omega arith))
  ]
  | no l ↦ omega (arith, at_most_two k, two_long v (omega arith))
]

module _ (damaged : List ℕ) (bytes : Bytes damaged) (shape : Shape) (at : ℕ) (whole : header_of damaged ≡ Ok (shape, at)) where
  abbrev body : List ℕ
  body = drop at damaged

  header_long : at ≡ 2 + (length (shortest shape.first) + length (shortest shape.second))
  header_long =
      let l = (header_read damaged shape at whole).limits in
      let a = one_long shape.alphabet (omega (arith, l.alphabet_high)) in
      let d = one_long shape.depth (omega (arith, l.depth_high)) in
      header_place damaged bytes shape at whole ∙ simp length-append (omega (arith, a, d))

  no_longer : length (saved_of shape body).file ≤ length damaged
  no_longer =
      let n = shape.first in
      let m = shape.second in
      let xs = first_bytes shape body in
      let ys = second_bytes shape body in
      let long = file_long shape.alphabet shape.depth (first_kept shape body) (second_kept shape body) (kept_good damaged shape at whole) in
      let first = kept_fits shape.alphabet xs in
      let second = kept_fits shape.alphabet ys in
      let x : length (first_kept shape body) ≤ n = omega (arith, first, length-take n body) in
      let y : length (second_kept shape body) ≤ m = omega (arith, second, length-take m (drop n body)) in
      let there : at + length xs + length ys ≤ length damaged = omega (arith, (header_read damaged shape at whole).ends, length-drop at damaged, length-take n body, length-take m (drop n body), length-drop n body) in
      omega (arith, long, first, second, there, header_long, shorter (length (first_kept shape body)) n x, shorter (length (second_kept shape body)) m y)

-- no fault of a header is 19
not_19 : (why : Refusal) → format.refusal_number why ≡ 19 → ⊥
not_19 EndsEarly e = omega (arith, e)
not_19 NotShortest e = omega (arith, e)
not_19 OutsideLimits e = omega (arith, e)
not_19 BytesLeft e = omega (arith, e)

-- where there is room for what is saved behind any whole header, 19 is not given
room_enough : (damaged : List ℕ) (room : ℕ) → ((shape : Shape) (at : ℕ) → header_of damaged ≡ Ok (shape, at) → length (saved_of shape (drop at damaged)).file ≤ room)
    → salvage_of (header_of damaged) damaged room ≡ refused 19 → ⊥
unfolding salvage_of
room_enough damaged room fits e = go (header_of damaged) refl e
  where
    go : (h : Heading) → header_of damaged ≡ h → salvage_of (header_of damaged) damaged room ≡ refused 19 → ⊥
    go (Err why) q f = not_19 why (number_same (sym (ap (λ (h : Heading). salvage_of h damaged room) q) ∙ f))
    go (Ok (shape, at)) q f = no_refusal (saved_answers damaged shape at q room (fits shape at q)) f

-- THEOREM. With as many bytes as the damaged file has, 19 is never given
pub never_longer : NeverLonger
never_longer damaged before after o bytes room w e =
    room_enough damaged (length before) (λ shape at q. omega (arith, room, no_longer damaged bytes shape at q)) (sym w.answers ∙ e)

-- THEOREM. Nor with as many as the longest file of the format has
pub longest_enough : LongestEnough
longest_enough damaged room h e = room_enough damaged room fits e
  where
    fits : (shape : Shape) (at : ℕ) → header_of damaged ≡ Ok (shape, at) → length (saved_of shape (drop at damaged)).file ≤ room
    fits shape at q =
        let g = kept_good damaged shape at q in
        let l = g.limits in
        omega (arith, h, l.first_high, l.second_high, file_fits shape.alphabet shape.depth (first_kept shape (drop at damaged)) (second_kept shape (drop at damaged)) g)
