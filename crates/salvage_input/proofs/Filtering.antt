-- What is put out of the bytes read and those beyond is put out of the whole input, and the promise settles every byte. Assumes nothing.
use Prim.Native.Nat.{ℕ, min, ◌+◌, ◌-◌}
use native.Mathlib.Decide.{dec_le}
use native.Mathlib.Nat.{add-zero}
use native.Mathlib.Omega.{arith}
use mathlib.Core.Path.{◌≡◌, refl, sym, ap, ap₂, subst, ◌∙◌}
use mathlib.Core.List.{map, List}
use lib.IntN.{pos}
use lib.ListN.{length, take}
use lib.Seq.{take_all}
use Rattle.replay.specs.Table.{Outcome, refused, answered}
use Rattle.sitting_file.specs.Input.{input_bytes, ReadInto}
use Rattle.sitting_file.proofs.InputRead.{first_read, bytes_judged}
use Rattle.salvage.specs.Salvage.{loss_numbers, Saved}
use Rattle.salvage.specs.Saving.{cut_more}
use Rattle.salvage.specs.declared.Lost.{Lost}
use Rattle.salvage.proofs.Longer.{first_bytes_save}
use Rattle.salvage.proofs.Refusing.{longest_enough}
use Rattle.printing.specs.Text.{line_of}
use Rattle.printing.specs.Putting.{Printed}
use Rattle.printing.proofs.Settled.{printed_settles}
use Rattle.salvage_input.specs.Filter.{most_told, line_for, file_for, saved_input, Never19, PutsOut, FiltersInput}
use Rattle.salvage_input.specs.declared.Lengths.{Lengths}

-- ---- more bytes beyond

-- the line by the number told as cut off
abbrev line_with : Lost → ℕ → List ℕ
line_with lost k = line_of (map pos (loss_numbers (record { first = lost.first; second = lost.second; cut = k })))

-- numbers of bytes that are told alike
same_told : (o : Outcome Saved) (b l : ℕ) → min b most_told ≡ min l most_told → (file_for (cut_more b o) ≡ file_for (cut_more l o)) × (line_for (cut_more b o) ≡ line_for (cut_more l o))
unfolding file_for line_for
same_told (refused n) b l e = (refl, refl)
same_told (answered s) b l e =
    let same : min (s.lost.cut + b) most_told ≡ min (s.lost.cut + l) most_told = omega (arith, e) in
    (refl, ap (line_with s.lost) same)

more_none : (o : Outcome Saved) → cut_more 0 o ≡ o
more_none (refused n) = refl
more_none (answered s) = ap (λ (k : ℕ). answered (record { file = s.file; lost = record { first = s.lost.first; second = s.lost.second; cut = k } })) (add-zero s.lost.cut)

-- what is salvaged of the whole input is that of its first bytes, with those that follow cut off
saved_first : (stdin : List ℕ) → saved_input stdin ≡ cut_more (length stdin - input_bytes) (saved_input (take input_bytes stdin))
saved_first stdin = elim (dec_le input_bytes (length stdin)) [
  | yes h ↦ first_bytes_save stdin input_bytes h
  | no h ↦
      let none : length stdin - input_bytes ≡ 0 = omega arith in
      let all : take input_bytes stdin ≡ stdin = take_all input_bytes stdin (omega arith) in
      sym (ap (λ (k : ℕ). cut_more k (saved_input (take input_bytes stdin))) none ∙ more_none (saved_input (take input_bytes stdin)) ∙ ap saved_input all)
]

-- the bytes after those read are the bytes after as many as the buffer has
rest_same : (stdin buffer : List ℕ) (many : ℕ) → length buffer ≡ input_bytes → ReadInto stdin buffer many → length stdin - many ≡ length stdin - input_bytes
rest_same stdin buffer many long h = omega (arith, h.count, long)

module _ (file line file' line' : List ℕ) (r : Lengths) where
  told_alike : (o p : Outcome Saved) → file_for o ≡ file_for p → line_for o ≡ line_for p → PutsOut o file line r file' line' → PutsOut p file line r file' line'
  told_alike o p e f q = record {
    its_file = subst (λ (l : List ℕ). Printed l file file' r.file) e q.its_file;
    its_line = subst (λ (l : List ℕ). Printed l line line' r.line) f q.its_line;
  }

  -- THEOREM. What is put out of the bytes read, with those beyond, is what the whole input asks for
  pub input_filters : (buffer : List ℕ) (many beyond end : ℕ) → length buffer ≡ input_bytes → end ≡ min many input_bytes
      → PutsOut (cut_more beyond (saved_input (take end buffer))) file line r file' line' → FiltersInput buffer many beyond file line r file' line'
  input_filters buffer many beyond end long e q =
      let p = subst (λ (l : List ℕ). PutsOut (cut_more beyond (saved_input l)) file line r file' line') (bytes_judged buffer many end long e) q in
      record { long = long; first_bytes_holds = p; whole = λ stdin h same. whole stdin h same p }
    where
      whole : (stdin : List ℕ) → ReadInto stdin buffer many → min beyond most_told ≡ min (length stdin - many) most_told
          → PutsOut (cut_more beyond (saved_input (take many buffer))) file line r file' line' → PutsOut (saved_input stdin) file line r file' line'
      whole stdin h same p =
          let first = saved_input (take input_bytes stdin) in
          let after : min beyond most_told ≡ min (length stdin - input_bytes) most_told = same ∙ ap (λ (k : ℕ). min k most_told) (rest_same stdin buffer many long h) in
          let t = same_told first beyond (length stdin - input_bytes) after in
          subst (λ (o : Outcome Saved). PutsOut o file line r file' line') (sym (saved_first stdin))
          (told_alike (cut_more beyond first) (cut_more (length stdin - input_bytes) first) t.0 t.1
          (subst (λ (l : List ℕ). PutsOut (cut_more beyond (saved_input l)) file line r file' line') (first_read stdin buffer many long h) p))

-- THEOREM. The program never prints 19
pub never_19 : Never19
never_19 stdin e = longest_enough stdin input_bytes (omega arith) e

-- THEOREM. Two results that one promise allows are equal
pub filters_settled : (buffer : List ℕ) (many beyond : ℕ) (file line : List ℕ) (r q : Lengths) (x y u v : List ℕ)
    → FiltersInput buffer many beyond file line r x u → FiltersInput buffer many beyond file line q y v → (r ≡ q) × (x ≡ y) × (u ≡ v)
filters_settled buffer many beyond file line r q x y u v m n =
    let o = cut_more beyond (saved_input (take many buffer)) in
    let f = printed_settles (file_for o) file x y r.file q.file m.first_bytes_holds.its_file n.first_bytes_holds.its_file in
    let l = printed_settles (line_for o) line u v r.line q.line m.first_bytes_holds.its_line n.first_bytes_holds.its_line in
    (ap₂ (λ (a b : ℕ). record { file = a; line = b }) f.0 l.0, f.1, l.1)
