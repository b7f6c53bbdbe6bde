-- What a salvage answers by the header and the writer's answer, and that what the code leaves then keeps the promise. Assumes nothing.
use Rattle.std.specs.Prelude.{Ok, Err}
use Prim.Native.Nat.{ℕ, ◌≤◌, ◌<◌}
use native.Mathlib.Decide.{dec_le}
use native.Mathlib.Omega.{arith}
use mathlib.Core.Path.{◌≡◌, refl, sym, ap, ap₂, subst, ◌∙◌}
use mathlib.Core.List.{List, ◌++◌}
use lib.ListN.{length, take, drop, length-append, length-take}
use lib.Seq.{take_at}
use borrow.Author.Tests.{lt-ltb, le-ltb}
use Rattle.replay.specs.Table.{Outcome, refused, answered, verdict_of}
use Rattle.replay.proofs.Tables.{no_refusal, answer_same}
use Rattle.sitting_file.specs.Format.{Heading, header_of}
use Rattle.sitting_file.specs.Format as format
use Rattle.sitting_file.specs.declared.Shape.{Shape}
use Rattle.sitting_file.specs.declared.Refusal as file
use Rattle.sitting_file.proofs.Stages.{header_read}
use Rattle.writing.specs.Writing.{Writing, writing_outcome, WritesFile}
use Rattle.writing.specs.Writing as writing
use Rattle.writing.proofs.Good.{Good}
use Rattle.writing.proofs.Answers.{good_answers, good_short, accepted}
use Rattle.salvage.specs.Salvage.{first_bytes, second_bytes, first_kept, second_kept, Saved, saved_of, salvage_of, salvaged_by, salvage_outcome, Within, Salvages}
use Rattle.salvage.specs.declared.Lost.{Lost}
use Rattle.salvage.proofs.Keeping.{kept_begins, kept_fits}

-- ---- a faulty header

pub fault_stays : (damaged before : List ℕ) (why : file.Refusal) → header_of damaged ≡ Err why → Salvages damaged before (refused (format.refusal_number why)) before
unfolding salvage_of
fault_stays damaged before why e = record {
  answers = sym (ap (λ (h : Heading). salvage_of h damaged (length before)) e);
  file_written = λ s f. no_refusal f refl;
  refused_stays = λ n f. refl;
}

-- ---- a whole one

module _ (damaged : List ℕ) (shape : Shape) (at : ℕ) (whole : header_of damaged ≡ Ok (shape, at)) where
  abbrev body : List ℕ
  body = drop at damaged

  abbrev saved : Saved
  saved = saved_of shape body

  -- what is kept makes a file of document 01's format
  pub kept_good : Good shape.alphabet shape.depth (first_kept shape body) (second_kept shape body)
  kept_good =
      let l = (header_read damaged shape at whole).limits in
      let first = kept_fits shape.alphabet (first_bytes shape body) in
      let second = kept_fits shape.alphabet (second_bytes shape body) in
      record {
        limits = record {
          alphabet_low = l.alphabet_low;
          alphabet_high = l.alphabet_high;
          depth_high = l.depth_high;
          first_high = omega (arith, l.first_high, first, length-take shape.first body);
          second_high = omega (arith, l.second_high, second, length-take shape.second (drop shape.first body));
        };
        first_below = (kept_begins shape.alphabet (first_bytes shape body)).below;
        second_below = (kept_begins shape.alphabet (second_bytes shape body)).below;
      }

  pub saved_answers : (room : ℕ) → length saved.file ≤ room → salvage_of (header_of damaged) damaged room ≡ answered saved
  unfolding salvage_of verdict_of
  saved_answers room h = rw (whole, le-ltb room (length saved.file) h)

  saved_short : (room : ℕ) → room < length saved.file → salvage_of (header_of damaged) damaged room ≡ refused 19
  unfolding salvage_of verdict_of
  saved_short room h = rw (whole, lt-ltb room (length saved.file) h)

  -- ---- by the writer's answer

  module _ (before after : List ℕ) where
    abbrev Wrote : Outcome ℕ → Type 0
    Wrote o = WritesFile shape.alphabet shape.depth (first_kept shape body) (second_kept shape body) before o after

    -- the writer refuses too few bytes alone
    none_saved : (n : ℕ) → Wrote (refused n) → Salvages damaged before (refused 19) after
    none_saved n w = elim (dec_le (length saved.file) (length before)) [
      | yes h ↦ no_refusal (good_answers shape.alphabet shape.depth (first_kept shape body) (second_kept shape body) (length before) kept_good h) (sym w.answers)
      | no h ↦ record { answers = sym (saved_short (length before) (omega arith)); file_written = λ s e. no_refusal e refl; refused_stays = λ m e. w.refused_stays n refl }
    ]

    module _ (size : ℕ) (w : Wrote (answered size)) where
      size_told : length saved.file ≡ size
      size_told = (accepted shape.alphabet shape.depth (first_kept shape body) (second_kept shape body) before after size w).1

      left : after ≡ saved.file ++ drop size before
      left = w.file_written size refl

      left_by : (l : List ℕ) → l ≡ saved.file → after ≡ l ++ drop (length l) before
      left_by l e = left ∙ ap₂ (λ (f : List ℕ) (k : ℕ). f ++ drop k before) (sym e) (sym size_told ∙ ap length (sym e))

      fits : size ≤ length after
      fits = omega (arith, size_told, ap length left, length-append saved.file (drop size before))

      room : length saved.file ≤ length before
      room = elim (dec_le (length saved.file) (length before)) [
        | yes h ↦ h
        | no h ↦ no_refusal (sym w.answers) (good_short shape.alphabet shape.depth (first_kept shape body) (second_kept shape body) (length before) kept_good (omega arith))
      ]

      -- the file stands at the start of what is left
      at_start : take size after ≡ saved.file
      at_start = ap (take size) left ∙ take_at saved.file (drop size before) size size_told

      file_saved : Salvages damaged before (answered (record { file = take size after; lost = saved.lost })) after
      file_saved =
          let same : ◌≡◌ {A = Saved} (record { file = take size after; lost = saved.lost }) saved = ap (λ (l : List ℕ). record { file = l; lost = saved.lost }) at_start in
          record {
            answers = ap answered same ∙ sym (saved_answers (length before) room);
            file_written = λ s e. left_by s.file (ap (λ (t : Saved). t.file) (sym (answer_same e) ∙ same));
            refused_stays = λ n e. no_refusal refl e;
          }

    -- either way, with what the code tells of it
    pub saved_by : (x : Writing) (lost : Lost) → lost ≡ saved.lost → Wrote (writing_outcome x) → Salvages damaged before (salvage_outcome (salvaged_by x lost) after) after × Within (salvaged_by x lost) after
    saved_by (Ok size) lost e w =
        (subst (λ (l : Lost). Salvages damaged before (answered (record { file = take size after; lost = l })) after) (sym e) (file_saved size w), fits size w)
    saved_by (Err why) lost e w = (none_saved (writing.refusal_number why) w, tt)
