-- E13 of the program's answers and refusals, from two files. Assumes nothing.
use Prim.Native.Nat.{ℕ, ◌+◌, ◌/◌, ◌≤◌, ◌<◌}
use native.Mathlib.Omega.{arith}
use mathlib.Core.Path.{◌≡◌, refl, sym, ap, ap₂, subst, fun_ext, ◌∙◌}
use mathlib.Core.Bool.{Bool}
use mathlib.Core.List.{List, [], ◌∷◌, ◌++◌, map, reverse, reverse-cons, map-append}
use lib.ListN.{length}
use lib.Dec.{eqb, ltb}
use lib.IntN.{ℤ}
use Rattle.numbers.specs.Limits.{most_symbols, plain_weight, row_width}
use Rattle.contexts.specs.Sitting.{Sample, first, second, Sitting, contexts_held}
use Rattle.estimate.specs.Exchange.{other}
use Rattle.rows.specs.Rows.{report_of}
use Rattle.rows.proofs.Again.{as_many}
use Rattle.replay.specs.Table.{◌when◌}
use Rattle.rules.specs.Feed.{counted_from}
use Rattle.rules.specs.Report.{Reported, does_not_fit}
use Rattle.rules.specs.Strings.{sitting_for}
use Rattle.printing.specs.declared.Head.{Head}
use Rattle.sitting_file.specs.Format.{read_of}
use Rattle.sitting_file.specs.declared.Shape.{Shape}
use Rattle.std.specs.Prelude.{Ok}
use Rattle.sitting_file.proofs.AcceptedFile.{accepted_holds}
use Rattle.judgement.specs.Judgement.{room_made, opening_of, strings_in, file_sitting, past_room, empty_sample, short_sample, file_lines}
use Rattle.judgement.proofs.Exactly.{refuses_exactly}
use Rattle.demands.specs.Demands.{JointEstimate}
use Rattle.demands.specs.Program.{sample_in}
use Rattle.demands.specs.Exchange.{Way, exchanging, renaming, both, sample_by, strings_by, SameReport, FilesAlike, head_by, OfProgram, FilesRefusedAlike}
use Rattle.demands.proofs.Program.{over}
use Rattle.demands.proofs.Exchange.{report_by, estimates_by}
use Rattle.demands.proofs.ExchangedRuns.{same_sitting}
use Rattle.demands.proofs.ExchangedHolding.{lengths_by, held_by_lem, either_by, short_by, refused_by}

-- ---- the strings of such samples

string_in : (file : List ℕ) (shape : Shape) (i : Sample) → strings_in file shape i ≡ reverse (sample_in file shape i)
unfolding strings_in
string_in file shape first = refl
string_in file shape second = refl

reverse_renamed : (π : ℕ → ℕ) (l : List ℕ) → reverse (map π l) ≡ map π (reverse l)
reverse_renamed π [] = refl
reverse_renamed π (a ∷ l) =
    reverse-cons (π a) (map π l) ∙ ap (λ (s : List ℕ). s ++ (π a ∷ [])) (reverse_renamed π l) ∙ sym (map-append π (reverse l) (a ∷ [])) ∙ ap (map π) (sym (reverse-cons a l))

reverse_by : {A : ℕ} (way : Way A) (w v : Sample → List ℕ) → ((i : Sample) → v i ≡ reverse (w i)) → (i : Sample) → reverse (strings_by way w i) ≡ strings_by way v i
reverse_by exchanging w v e i = sym (e (other i))
reverse_by (renaming π r) w v e i = reverse_renamed π (w i) ∙ ap (map π) (sym (e i))
reverse_by (both π r) w v e i = reverse_renamed π (w (other i)) ∙ ap (map π) (sym (e (other i)))

-- how long a sample is, as the file says and as it is
size_in : Shape → Sample → ℕ
size_in shape first = shape.first
size_in shape second = shape.second

size_is : (file : List ℕ) (shape : Shape) (i : Sample) → read_of file ≡ Ok shape → length (sample_in file shape i) ≡ size_in shape i
unfolding size_in
size_is file shape first e = (accepted_holds file shape e).first_count
size_is file shape second e = (accepted_holds file shape e).second_count

module _ (file file' : List ℕ) (shape shape' : Shape) (way : Way shape.alphabet) (f : FilesAlike file file' shape shape' way) where
  some_symbols : 0 < shape.alphabet
  some_symbols = let l = (accepted_holds file shape f.accepted).limits.alphabet_low in omega arith

  few_symbols : shape.alphabet ≤ most_symbols
  few_symbols = (accepted_holds file shape f.accepted).limits.alphabet_high

  strings_are : (i : Sample) → strings_in file' shape' i ≡ strings_by way (strings_in file shape) i
  strings_are i = string_in file' shape' i ∙ ap reverse (f.samples i) ∙ reverse_by way (sample_in file shape) (strings_in file shape) (string_in file shape) i

  sitting_is : file_sitting file' shape' ≡ sitting_for (opening_of shape) (strings_by way (strings_in file shape))
  sitting_is =
      same_sitting (opening_of shape) (opening_of shape') (strings_in file' shape') (strings_by way (strings_in file shape)) (record { symbols = f.alphabet; depth = f.depth; weight = refl })
      strings_are

  sizes_are : (i : Sample) → size_in shape' i ≡ size_in shape (sample_by way i)
  sizes_are i =
      sym (size_is file' shape' i f.accepted') ∙ ap length (f.samples i) ∙ lengths_by way (sample_in file shape) i ∙ size_is file shape (sample_by way i) f.accepted

  -- ---- refusals

  held : contexts_held (file_sitting file' shape') ≡ contexts_held (file_sitting file shape)
  held = ap contexts_held sitting_is ∙ held_by_lem shape.alphabet shape.depth plain_weight (counted_from (opening_of shape)) way (strings_in file shape) (over file shape f.accepted)

  rows_are : length (report_of (file_sitting file' shape')) ≡ length (report_of (file_sitting file shape))
  rows_are =
      ap (λ (x : Sitting). length (report_of x)) sitting_is
      ∙ as_many (report_by shape.alphabet shape.depth plain_weight (counted_from (opening_of shape)) few_symbols way (strings_in file shape) (over file shape f.accepted)).same_rows

  shorts : short_sample shape' ≡ short_sample shape
  unfolding size_in
  shorts = short_by way (opening_of shape) (opening_of shape') (size_in shape') (size_in shape) f.depth sizes_are

  empties : empty_sample shape' ≡ empty_sample shape
  unfolding size_in
  empties = either_by way (λ n. eqb n 0) (size_in shape') (size_in shape) sizes_are

  lines_are : (sheet : ℕ) → file_lines file' shape' sheet ≡ file_lines file shape sheet
  lines_are sheet =
      ap₂ (λ (k n : ℕ). 10 when ltb room_made k ∷ 11 when empty_sample shape' ∷ 24 when short_sample shape' ∷ 12 when ltb (sheet / row_width) (0 + n) ∷ []) held rows_are
      ∙ ap₂ (λ (t u : Bool). 10 when past_room (file_sitting file shape) ∷ 11 when t ∷ 24 when u ∷ 12 when does_not_fit sheet 0 (file_sitting file shape) ∷ []) empties shorts

  -- ---- the report and its head

  reports_are : (q r : Reported) → JointEstimate (file_sitting file shape) q → JointEstimate (file_sitting file' shape') r → SameReport way q r
  reports_are q r j k =
      estimates_by shape.alphabet shape.depth plain_weight (counted_from (opening_of shape)) way (strings_in file shape) q r some_symbols few_symbols (over file shape f.accepted) j
      (subst (λ (x : Sitting). JointEstimate x r) sitting_is k)

pub files_refused_alike : FilesRefusedAlike
files_refused_alike file file' shape shape' way f store sheet store₁ sheet₁ store' sheet' store₁' sheet₁' x y long a b n =
    refused_by (refuses_exactly file store sheet store₁ sheet₁ x a shape f.accepted n) (refuses_exactly file' store' sheet' store₁' sheet₁' y b shape' f.accepted' n)
    (ap (file_lines file' shape') long ∙ lines_are file file' shape shape' way f (length sheet))

-- ---- heads

head_for : ℕ → ℕ → (Sample → ℕ) → ℕ → ℤ → Head
head_for A D n rows score = record { alphabet = A; depth = D; first = n first; second = n second; rows = rows; score = score }

head_by_lem : {A : ℕ} (way : Way A) (B D : ℕ) (n : Sample → ℕ) (rows : ℕ) (score : ℤ) → head_for B D (λ i. n (sample_by way i)) rows score ≡ head_by way (head_for B D n rows score)
unfolding head_for
head_by_lem exchanging B D n rows score = refl
head_by_lem (renaming π r) B D n rows score = refl
head_by_lem (both π r) B D n rows score = refl

same_head : {A A' D D' : ℕ} {n n' : Sample → ℕ} {k k' : ℕ} {s s' : ℤ} → A' ≡ A → D' ≡ D → ((i : Sample) → n' i ≡ n i) → k' ≡ k → s' ≡ s → head_for A' D' n' k' s' ≡ head_for A D n k s
same_head a d n k s = λ i. head_for (a i) (d i) (fun_ext n i) (k i) (s i)

pub of_program : OfProgram
unfolding head_for size_in
of_program file sheet after file' sheet' after' head head' its its' way f =
    let same = reports_are file file' its.shape its'.shape way f its.report its'.report its.estimate its'.estimate in
    let n = size_in its.shape in
    record {
      same_head =
          its'.head_is
          ∙ same_head {n = λ i. n (sample_by way i)} {n' = size_in its'.shape} f.alphabet f.depth (sizes_are file file' its.shape its'.shape way f) (as_many same.same_rows) same.same_score
          ∙ head_by_lem way its.shape.alphabet its.shape.depth n (length its.report.rows) its.report.score
          ∙ ap (head_by way) (sym its.head_is);
      same_report = same;
    }
