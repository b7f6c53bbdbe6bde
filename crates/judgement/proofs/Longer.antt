-- The program reads 4,608 bytes at most, and answers as if it had read the whole input. Assumes nothing.
use Prim.Native.Nat.{ℕ, min}
use native.Mathlib.Decide.{dec_le}
use native.Mathlib.Omega.{arith}
use mathlib.Core.Path.{◌≡◌, sym, ap, subst, ◌∙◌}
use mathlib.Core.List.{List}
use lib.ListN.{length, take}
use lib.Seq.{take_all}
use Rattle.sitting_file.specs.Format.{read_of}
use Rattle.sitting_file.specs.Input.{input_bytes}
use Rattle.sitting_file.specs.Format.{Reading}
use Rattle.sitting_file.proofs.InputRead.{first_read, bytes_judged}
use Rattle.sitting_file.proofs.LongInput.{input_judged}
use Rattle.replay.specs.Table.{Outcome}
use Rattle.printing.specs.Putting.{Printed}
use Rattle.judgement.specs.Judgement.{sheet_numbers, FileReport, judged, judgement}
use Rattle.judgement.specs.Answers.{answer_for, sheet_left, StoreAfter, Answers}
use Rattle.judgement.specs.Prints.{text_of, Prints, PrintsInput}
use Rattle.std.specs.Prelude.{Result}
use Rattle.printing.specs.declared.Head.{Head}

-- THEOREM. "Longer input is judged on its first 4,608 bytes": the judgement is the whole input's
pub input_read : (input : List ℕ) (sheet : ℕ) → judgement (take input_bytes input) sheet ≡ judgement input sheet
unfolding judged
input_read input sheet = elim (dec_le input_bytes (length input)) [
  | yes h ↦ let s = input_judged input h in ap (judged (take input_bytes input) sheet) s.first ∙ sym (ap (judged input sheet) s.whole)
  | no h ↦ ap (λ (l : List ℕ). judgement l sheet) (take_all input_bytes input (omega arith))
]

module _ (input store store' : List ℕ) where
  -- .. and the store is left as for the whole input
  store_read : StoreAfter (take input_bytes input) (read_of (take input_bytes input)) store store' → StoreAfter input (read_of input) store store'
  store_read a = elim (dec_le input_bytes (length input)) [
    | yes h ↦
        let s = input_judged input h in
        subst (λ (v : Reading). StoreAfter input v store store') (sym s.whole) (subst (λ (v : Reading). StoreAfter (take input_bytes input) v store store') s.first a)
    | no h ↦ subst (λ (l : List ℕ). StoreAfter l (read_of l) store store') (take_all input_bytes input (omega arith)) a
  ]

  answers_read : {sheet sheet' : List ℕ} {r : Result Head ℕ} → Answers (take input_bytes input) store sheet r store' sheet' → Answers input store sheet r store' sheet'
  answers_read {sheet} {sheet'} {r} a =
      let e : judgement (take input_bytes input) (length sheet) ≡ judgement input (length sheet) = input_read input (length sheet) in
      record {
        answer = a.answer ∙ ap answer_for e;
        rows = a.rows ∙ ap (λ (o : Outcome FileReport). sheet_left o sheet) e;
        numbers = store_read a.numbers;
      }

  -- what is printed of the first bytes is printed of the whole
  pub prints_read : {sheet bytes sheet' bytes' : List ℕ} {r : ℕ} → Prints (take input_bytes input) store sheet bytes r store' sheet' bytes' → Prints input store sheet bytes r store' sheet' bytes'
  prints_read {sheet} {bytes} {sheet'} {bytes'} {r} p =
      let e : judgement (take input_bytes input) sheet_numbers ≡ judgement input sheet_numbers = input_read input sheet_numbers in
      record {
        printed = subst (λ (o : Outcome FileReport). Printed (text_of o) bytes bytes' r) e p.printed;
        answers = subst (λ (o : Outcome FileReport). Answers input store sheet (answer_for o) store' sheet') e (answers_read p.answers);
      }

-- THEOREM. What is printed of the bytes read into such a buffer is what the whole input asks for
pub input_prints : (buffer : List ℕ) (many end : ℕ) (store sheet bytes : List ℕ) (r : ℕ) (store' sheet' bytes' : List ℕ) → length buffer ≡ input_bytes → end ≡ min many input_bytes
    → Prints (take end buffer) store sheet bytes r store' sheet' bytes' → PrintsInput buffer many store sheet bytes r store' sheet' bytes'
input_prints buffer many end store sheet bytes r store' sheet' bytes' long e q =
    let p : Prints (take many buffer) store sheet bytes r store' sheet' bytes' = subst (λ (l : List ℕ). Prints l store sheet bytes r store' sheet' bytes') (bytes_judged buffer many end long e) q in
    record {
      long = long;
      first_bytes_holds = p;
      whole = λ stdin h. prints_read stdin store store' (subst (λ (l : List ℕ). Prints l store sheet bytes r store' sheet' bytes') (first_read stdin buffer many long h) p);
    }
