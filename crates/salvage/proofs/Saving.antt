-- What document 02 says of an accepted salvage: the file is valid, kept symbols begin the samples' bytes, and nothing is lost untold. Assumes nothing.
use Rattle.std.specs.Prelude.{Ok, Err}
use Prim.Native.Nat.{ℕ, ◌+◌, ◌-◌, ◌≤◌}
use native.Mathlib.Omega.{arith}
use mathlib.Core.Path.{◌≡◌, refl, sym, ap, subst, ◌∙◌}
use mathlib.Core.List.{List}
use lib.ListN.{length, take, drop, length-take, length-drop}
use lib.Seq.{take_at}
use Rattle.replay.specs.Table.{answered}
use Rattle.replay.proofs.Tables.{no_refusal, answers_none}
use Rattle.sitting_file.specs.Format.{Heading, header_of}
use Rattle.sitting_file.specs.declared.Shape.{Shape}
use Rattle.sitting_file.proofs.Stages.{header_read}
use Rattle.writing.specs.RoundTrips.{ReadsAs}
use Rattle.writing.proofs.RoundTrip.{file_reads}
use Rattle.salvage.specs.Salvage.{first_bytes, second_bytes, kept_bytes, cut_off, Saved, saved_of, salvage_lines, salvage_of, Salvages}
use Rattle.salvage.specs.Saving.{Saves, EachSaves}
use Rattle.salvage.proofs.Keeping.{kept_begins, kept_fits}
use Rattle.salvage.proofs.Answers.{kept_good}

-- what was answered is what is saved behind a whole header
pub record Behind (damaged : List ℕ) (s : Saved) : Type 0 where
  pub shape : Shape
  pub place : ℕ
  pub header : header_of damaged ≡ Ok (shape, place)
  pub same : saved_of shape (drop place damaged) ≡ s

pub behind : (damaged : List ℕ) (room : ℕ) (s : Saved) → answered s ≡ salvage_of (header_of damaged) damaged room → Behind damaged s
unfolding salvage_of
behind damaged room s e = go (header_of damaged) refl e
  where
    go : (h : Heading) → header_of damaged ≡ h → answered s ≡ salvage_of h damaged room → Behind damaged s
    go (Err why) q e = no_refusal refl e
    go (Ok (shape, at)) q e = record { shape = shape; place = at; header = q; same = (answers_none (salvage_lines (Ok (shape, at)) damaged room) (saved_of shape (drop at damaged)) s (sym e)).1 }

-- the saved file stands at the start of what is left
pub file_at_start : (damaged before after : List ℕ) (s : Saved) → Salvages damaged before (answered s) after → take (length s.file) after ≡ s.file
file_at_start damaged before after s w = ap (take (length s.file)) (w.file_written s refl) ∙ take_at s.file (drop (length s.file) before) (length s.file) refl

-- a sample's kept bytes with those that are missing and dropped
made_up : (A wanted : ℕ) (bytes : List ℕ) → length bytes ≤ wanted → length (kept_bytes A bytes) + (wanted - length bytes) + (length bytes - length (kept_bytes A bytes)) ≡ wanted
made_up A wanted bytes h = omega (arith, kept_fits A bytes)

-- and those that exist
made_there : (A : ℕ) (bytes : List ℕ) → length (kept_bytes A bytes) + (length bytes - length (kept_bytes A bytes)) ≡ length bytes
made_there A bytes = omega (arith, kept_fits A bytes)

module _ (damaged : List ℕ) (shape : Shape) (at : ℕ) (whole : header_of damaged ≡ Ok (shape, at)) where
  abbrev body : List ℕ
  body = drop at damaged

  -- the header, both samples' bytes that exist and the rest are the file
  all_there : at + length (first_bytes shape body) + length (second_bytes shape body) + cut_off shape body ≡ length damaged
  all_there =
      let n = shape.first in
      let m = shape.second in
      let h = (header_read damaged shape at whole).ends in
      omega (arith, h, length-drop at damaged, length-take n body, length-take m (drop n body), length-drop n body, length-drop (n + m) body)

  saves : (after : List ℕ) → take (length (saved_of shape body).file) after ≡ (saved_of shape body).file → Saves damaged (saved_of shape body) after
  saves after e =
      let A = shape.alphabet in
      let xs = first_bytes shape body in
      let ys = second_bytes shape body in
      record {
        shape = shape;
        place = at;
        header = whole;
        first = kept_bytes A xs;
        second = kept_bytes A ys;
        valid = subst (λ (l : List ℕ). ReadsAs l A shape.depth (kept_bytes A xs) (kept_bytes A ys)) (sym e) (file_reads A shape.depth (kept_bytes A xs) (kept_bytes A ys) (kept_good damaged shape at whole));
        first_begins = kept_begins A xs;
        second_begins = kept_begins A ys;
        first_whole = made_up A shape.first xs (omega (arith, length-take shape.first body));
        second_whole = made_up A shape.second ys (omega (arith, length-take shape.second (drop shape.first body)));
        every_byte = omega (arith, made_there A xs, made_there A ys, all_there);
      }

-- THEOREM. Of every accepted salvage
pub each_saves : EachSaves
each_saves damaged before after s w =
    let b = behind damaged (length before) s w.answers in
    subst (λ (t : Saved). Saves damaged t after) b.same
    (saves damaged b.shape b.place b.header after (subst (λ (t : Saved). take (length t.file) after ≡ t.file) (sym b.same) (file_at_start damaged before after s w)))
