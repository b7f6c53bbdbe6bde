-- What is put out of the bytes read, by the answer of the code: the file left at the start, and the line. Assumes nothing.
use Rattle.std.specs.Prelude.{Ok, Err}
use Prim.Native.Nat.{ℕ, ◌≤◌}
use native.Mathlib.Omega.{arith}
use mathlib.Core.Path.{◌≡◌, refl, sym, ap, subst, ◌∙◌}
use mathlib.Core.List.{List, [], ◌++◌}
use lib.ListN.{length, take, drop}
use lib.Seq.{drop_at, length-take-le}
use Rattle.numbers.specs.Limits.{longest}
use Rattle.replay.specs.Table.{Outcome, refused, answered}
use Rattle.sitting_file.specs.Format.{header_of}
use Rattle.sitting_file.specs.Input.{input_bytes}
use Rattle.sitting_file.proofs.Stages.{header_read}
use Rattle.salvage.specs.Salvage.{Salvaging, Saved, salvage_of, refusal_number, salvage_outcome, Within, Salvages}
use Rattle.salvage.specs.Saving.{lost_more, cut_more}
use Rattle.salvage.specs.declared.Lost.{Lost}
use Rattle.salvage.specs.declared.Refusal.{Refusal}
use Rattle.salvage.specs.declared.Salvaged.{Salvaged}
use Rattle.salvage.proofs.Saving.{each_saves}
use Rattle.printing.specs.Text.{refusal_text}
use Rattle.printing.specs.Putting.{Printed}
use Rattle.salvage_input.specs.Filter.{loss_text, line_for, file_for, saved_input, PutsOut}

-- ---- what was salvaged, put out

-- no byte
none_printed : (before : List ℕ) → Printed [] before before 0
none_printed before = record { bytes = refl; past = refl; within = omega arith; count = refl }

-- the file that a salvage left at the start
file_printed : (before after file : List ℕ) (size : ℕ) → size ≤ length after → file ≡ take size after → after ≡ file ++ drop (length file) before → Printed file before after size
file_printed before after file size h e left =
    let long : length file ≡ size = ap length e ∙ length-take-le size after h in
    record {
      bytes = sym e;
      past = ap (drop size) left ∙ drop_at file (drop (length file) before) size long ∙ ap (λ (k : ℕ). drop k before) long;
      within = h;
      count = sym (length-take-le size after h);
    }

-- ---- by the code's answer

module _ (bytes file line : List ℕ) (room : length file ≡ input_bytes) (beyond : ℕ) (file' : List ℕ) where
  abbrev Said : Salvaging → Type 0
  Said x = Salvages bytes file (salvage_outcome x file') file' × Within x file'

  -- what it says is what is salvaged of the bytes
  says : (x : Salvaging) → Said x → salvage_outcome x file' ≡ saved_input bytes
  says x w = w.0.answers ∙ ap (salvage_of (header_of bytes) bytes) room

  -- a refusal and its line
  pub refused_out : (x : Salvaging) (why : Refusal) (line' : List ℕ) (end : ℕ) → Said x → x ≡ Err why → Printed (refusal_text (refusal_number why)) line line' end
      → PutsOut (cut_more beyond (saved_input bytes)) file line (record { file = 0; line = end }) file' line'
  unfolding file_for line_for
  refused_out x why line' end w e p =
      let same : refused (refusal_number why) ≡ saved_input bytes = sym (ap (λ (y : Salvaging). salvage_outcome y file') e) ∙ says x w in
      let stays : file' ≡ file = w.0.refused_stays (refusal_number why) (ap (λ (y : Salvaging). salvage_outcome y file') e) in
      subst (λ (o : Outcome Saved). PutsOut (cut_more beyond o) file line (record { file = 0; line = end }) file' line') same
      (record { its_file = subst (λ (l : List ℕ). Printed [] file l 0) (sym stays) (none_printed file); its_line = p })

  -- a saved file and the line of what was lost
  pub saved_out : (x : Salvaging) (done : Salvaged) (line' : List ℕ) (end : ℕ) → Said x → x ≡ Ok done → Printed (loss_text (lost_more beyond done.lost)) line line' end
      → PutsOut (cut_more beyond (saved_input bytes)) file line (record { file = done.size; line = end }) file' line'
  unfolding file_for line_for
  saved_out x done line' end w e p =
      let s : Saved = record { file = take done.size file'; lost = done.lost } in
      let said : salvage_outcome x file' ≡ answered s = ap (λ (y : Salvaging). salvage_outcome y file') e in
      let within : done.size ≤ length file' = subst (λ (y : Salvaging). Within y file') e w.1 in
      subst (λ (o : Outcome Saved). PutsOut (cut_more beyond o) file line (record { file = done.size; line = end }) file' line') (sym said ∙ says x w)
      (record { its_file = file_printed file file' (take done.size file') done.size within refl (w.0.file_written s said); its_line = p })

-- at most as much as a sample may have
abbrev FewLost : Lost → Type 0
FewLost lost = (lost.first.missing ≤ longest) × (lost.first.dropped ≤ longest) × (lost.second.missing ≤ longest) × (lost.second.dropped ≤ longest)

pub few_lost : (damaged before after : List ℕ) (s : Saved) → Salvages damaged before (answered s) after → FewLost s.lost
few_lost damaged before after s w =
    let v = each_saves damaged before after s w in
    let l = (header_read damaged v.shape v.place v.header).limits in (
      omega (arith, v.first_whole, l.first_high),
      omega (arith, v.first_whole, l.first_high),
      omega (arith, v.second_whole, l.second_high),
      omega (arith, v.second_whole, l.second_high),
    )
