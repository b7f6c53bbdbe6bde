-- The promises settle the answer, its text, the sheet and what the store stands for, whatever numbers the store held before. Assumes nothing.
use Prim.Native.Nat.{ℕ}
use mathlib.Core.Path.{◌≡◌, sym, subst, ◌∙◌}
use mathlib.Core.List.{List}
use lib.ListN.{take}
use Rattle.store.specs.Sound.{soundb}
use Rattle.store.specs.Meaning.{meaning}
use Rattle.sitting_file.specs.Format.{read_of}
use Rattle.sitting_file.specs.declared.Shape.{Shape}
use Rattle.sitting_file.specs.declared.Refusal.{Refusal}
use Rattle.sitting_file.specs.Format.{Reading}
use Rattle.printing.proofs.Settled.{printed_settles}
use Rattle.judgement.specs.Judgement.{sheet_numbers, judgement}
use Rattle.judgement.specs.Prints.{text_of, Prints, PrintsInput}
use Rattle.judgement.specs.Sitting.{run_of, Means}
use Rattle.judgement.specs.Answers.{answer_for, StoreAfter, Answers}
use Rattle.std.specs.Prelude.{Result, Ok, Err}
use Rattle.printing.specs.declared.Head.{Head}

-- two stores lent, with one sheet; how many numbers a store has is its type's
pub record SameAnswer (file store other : List ℕ) (r q : Result Head ℕ) (x y sheet sheet' : List ℕ) : Type 0 where
  pub answer : r ≡ q
  pub sheet_same : sheet ≡ sheet'
  pub refused_stays : (why : Refusal) → read_of file ≡ Err why → (x ≡ store) × (y ≡ other)
  pub meaning_same : (shape : Shape) → read_of file ≡ Ok shape → meaning x ≡ meaning y
  pub sound_same : (shape : Shape) → read_of file ≡ Ok shape → soundb x ≡ soundb y

module _ (file store other lent : List ℕ) (r q : Result Head ℕ) (x y sheet sheet' : List ℕ) where
  -- THEOREM. Whatever the promise allows has one answer and one sheet; the store stays, or stands for one room
  pub answers_settled : Answers file store lent r x sheet → Answers file other lent q y sheet' → SameAnswer file store other r q x y sheet sheet'
  answers_settled a b = record {
    answer = a.answer ∙ sym b.answer;
    sheet_same = a.rows ∙ sym b.rows;
    refused_stays = λ why e. (stays a e, stays b e);
    meaning_same = λ shape e. (means a e).room ∙ sym (means b e).room;
    sound_same = λ shape e. (means a e).sound ∙ sym (means b e).sound;
  }
    where
      stays : {s t l u : List ℕ} {z : Result Head ℕ} {why : Refusal} → Answers file s l z t u → read_of file ≡ Err why → t ≡ s
      stays {s} {t} p e = subst (λ (v : Reading). StoreAfter file v s t) e p.numbers

      means : {s t l u : List ℕ} {z : Result Head ℕ} {shape : Shape} → Answers file s l z t u → read_of file ≡ Ok shape → Means t (run_of file shape).room
      means {s} {t} p e = subst (λ (v : Reading). StoreAfter file v s t) e p.numbers

-- two texts put, with two stores lent
pub record SameText (file store other : List ℕ) (r q : ℕ) (x y sheet sheet' text text' : List ℕ) : Type 0 where
  pub count : r ≡ q
  pub bytes_same : text ≡ text'
  -- the sheet and the stores, as the answer's promise settles them
  pub rest : SameAnswer file store other (answer_for (judgement file sheet_numbers)) (answer_for (judgement file sheet_numbers)) x y sheet sheet'

module _ (file store other lent bytes : List ℕ) (r q : ℕ) (x y sheet sheet' text text' : List ℕ) where
  -- THEOREM. Whatever the promise of the text allows has one count of bytes, one buffer and one sheet; the store stays, or stands for one room
  pub prints_settled : Prints file store lent bytes r x sheet text → Prints file other lent bytes q y sheet' text' → SameText file store other r q x y sheet sheet' text text'
  prints_settled a b =
      let p = printed_settles (text_of (judgement file sheet_numbers)) bytes text text' r q a.printed b.printed in
      let told = answer_for (judgement file sheet_numbers) in
      record { count = p.0; bytes_same = p.1; rest = answers_settled file store other lent told told x y sheet sheet' a.answers b.answers }

module _ (buffer : List ℕ) (many : ℕ) (store other lent bytes : List ℕ) (r q : ℕ) (x y sheet sheet' text text' : List ℕ) where
  -- THEOREM. .. and so it is with the promise of the input, of the bytes that were read
  pub input_settled : PrintsInput buffer many store lent bytes r x sheet text → PrintsInput buffer many other lent bytes q y sheet' text'
      → SameText (take many buffer) store other r q x y sheet sheet' text text'
  input_settled a b = prints_settled (take many buffer) store other lent bytes r q x y sheet sheet' text text' a.first_bytes_holds b.first_bytes_holds
