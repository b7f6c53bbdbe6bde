-- A file that is longer than any of the format is refused on its first bytes, with the same fault, and never because it ends early.
-- Reading stays within its first `bytes` bytes, since the header and the symbols together take fewer. Assumes nothing.
use Rattle.std.specs.Prelude.{Ok, Err}
use Prim.Native.Nat.{ℕ, zero, suc, ◌+◌, ◌-◌, ◌<◌, ◌≤◌}
use mathlib.Core.Path.{◌≡◌, refl, sym, ap, ap₂, ◌∙◌}
use mathlib.Core.List.{List, ◌∷◌}
use native.Mathlib.Omega.{arith}
use native.Mathlib.Numerals.{add-one}
use lib.ListN.{length, get_or, take, drop, length-drop}
use lib.Seq.{drop-cons, get_or-take, length-take-le}
use borrow.Author.Tests.{lt-ltb}
use Rattle.numbers.specs.Limits.{fewest_symbols, most_symbols, deepest, longest}
use Rattle.sitting_file.specs.Format.{second_group, first_group, number_at, and_then, header_up_to, header_of, symbols_from, body_of, Heading, Number, Reading}
use Rattle.sitting_file.specs.Samples.{InLimits, longest_header, longest_file}
use Rattle.sitting_file.specs.Input.{input_bytes, ShowsFault}
use Rattle.sitting_file.specs.declared.Shape.{Shape}
use Rattle.sitting_file.specs.declared.Refusal.{Refusal}
use Rattle.sitting_file.specs.declared.Refusal.TheVariants.{EndsEarly, BytesLeft}
use Rattle.sitting_file.proofs.Groups.{Told, no_group, half, not_short, outside, inside, tells, Found, number_found}

-- a number with two bytes to read is never found to end early
two_enough : {low high at : ℕ} {bytes : List ℕ} {n : Number} {why : Refusal} → Told low high at bytes n → 2 ≤ length bytes → n ≡ Err why → why ≡ EndsEarly → ⊥
two_enough no_group h e q = omega arith
two_enough (half big) h e q = omega arith
two_enough (not_short big f) h e q = let z : ◌≡◌ {A = ℕ} 0 1 = cc in omega arith
two_enough (outside s f) h e q = let z : ◌≡◌ {A = ℕ} 0 1 = cc in omega arith
two_enough (inside s l k) h e q = let z : ◌≡◌ {A = ℕ} 0 1 = cc in omega arith

-- the bytes from a place on, where two more stand there
two_bytes : (file : List ℕ) (at : ℕ) → at + 2 ≤ length file → drop at file ≡ get_or file at 0 ∷ get_or file (at + 1) 0 ∷ drop (at + 2) file
two_bytes file at h =
    let next : suc at ≡ at + 1 = sym (add-one at) in
    let end : suc (at + 1) ≡ at + 2 = omega arith in
    drop-cons file at 0 (omega arith) ∙ ap (λ (k : ℕ). get_or file at 0 ∷ drop k file) next ∙ ap (λ (l : List ℕ). get_or file at 0 ∷ l) (drop-cons file (at + 1) 0 (omega arith) ∙ ap (λ (k : ℕ). get_or file (at + 1) 0 ∷ drop k file) end)

-- a number does not depend on what stands after its two groups
same_groups : (low high at b c : ℕ) (more other : List ℕ) → first_group low high at (b ∷ c ∷ more) ≡ first_group low high at (b ∷ c ∷ other)
unfolding first_group second_group
same_groups low high at b c more other = refl

module _ (file : List ℕ) (bytes : ℕ) (inside-file : bytes ≤ length file) where
  abbrev first : List ℕ
  first = take bytes file

  first_long : length first ≡ bytes
  first_long = length-take-le bytes file inside-file

  same_number : (at low high : ℕ) → at + 2 ≤ bytes → number_at first at low high ≡ number_at file at low high
  same_number at low high h =
      let short : at + 2 ≤ length first = omega (arith, first_long) in
      let one : at < bytes = omega arith in
      let two : at + 1 < bytes = omega arith in
      let cut : drop at first ≡ get_or file at 0 ∷ get_or file (at + 1) 0 ∷ drop (at + 2) first = two_bytes first at short ∙ ap₂ (λ (b c : ℕ). b ∷ c ∷ drop (at + 2) first) (get_or-take bytes file at 0 one) (get_or-take bytes file (at + 1) 0 two) in
      ap (first_group low high at) cut ∙ same_groups low high at _ _ _ _ ∙ sym (ap (first_group low high at) (two_bytes file at (omega arith)))

  -- a number that is found leads both on to the next place, and a fault stops both
  module _ {R : Type 0} (P : R → R → Type 0) (stop : Refusal → R) (stopped : (why : Refusal) → (why ≡ EndsEarly → ⊥) → P (stop why) (stop why)) where
    step : (at low high : ℕ) → at + 2 ≤ bytes → (go other : ℕ → ℕ → R) → ((v next : ℕ) → Found low high at v next file → P (go v next) (other v next)) → P (and_then (number_at file at low high) stop go) (and_then (number_at first at low high) stop other)
    step at low high h go other onward = rw (same_number at low high h) (by (number_at file at low high) refl)
      where
        by : (n : Number) → number_at file at low high ≡ n → P (and_then n stop go) (and_then n stop other)
        by (Ok (v, next)) e = onward v next (number_found low high at v next file e)
        by (Err why) e = stopped why (two_enough (tells low high at (drop at file)) (omega (arith, length-drop at file)) e)

  -- both are refused with one fault, which is not 13
  record Shown (whole part : Reading) : Type 0 where
    why : Refusal
    whole_refused : whole ≡ Err why
    part_refused : part ≡ Err why
    not_early : why ≡ EndsEarly → ⊥

  symbols_shown : (shape : Shape) → InLimits shape → (left at : ℕ) → at + left < bytes → Shown (symbols_from file shape left at) (symbols_from first shape left at)
  unfolding symbols_from
  symbols_shown shape l zero at h =
      let long = first_long in
      record {
        why = BytesLeft;
        whole_refused = rw (lt-ltb at (length file) (omega arith));
        part_refused = rw (lt-ltb at (length first) (omega arith));
        not_early = λ e. let z : ◌≡◌ {A = ℕ} 0 1 = cc in omega arith;
      }
  symbols_shown shape l (suc left) at h =
      step Shown Err (λ why n. record { why = why; whole_refused = refl; part_refused = refl; not_early = n }) at 0 (shape.alphabet - 1) (omega arith) _ _
      (λ v next f. let s = f.single (let high = l.alphabet_high in let k = f.high_kept in omega arith) in symbols_shown shape l left next (omega arith))

  -- both headers stop at one fault, or are the same
  data Alike : Heading → Heading → Type 0 where
    faulty : (why : Refusal) → (why ≡ EndsEarly → ⊥) → Alike (Err why) (Err why)
    whole : (shape : Shape) (at : ℕ) → InLimits shape → at ≤ longest_header → Alike (Ok (shape, at)) (Ok (shape, at))

  header_alike : longest_header + 2 ≤ bytes → Alike (header_of file) (header_of first)
  unfolding header_up_to
  header_alike h =
      step Alike Err faulty 0 fewest_symbols most_symbols (omega arith) _ _
      (λ A at₁ f₁. step Alike Err faulty at₁ 0 deepest (omega arith) _ _
      (λ D at₂ f₂. step Alike Err faulty at₂ 0 longest (omega arith) _ _
      (λ n at₃ f₃. step Alike Err faulty at₃ 0 longest (omega arith) _ _
      (λ m at₄ f₄.
      let one = f₁.single (omega arith) in
      let two = f₂.single (omega arith) in
      whole (record { alphabet = A; depth = D; first = n; second = m }) at₄
      (record { alphabet_low = f₁.low_kept; alphabet_high = f₁.high_kept; depth_high = f₂.high_kept; first_high = f₃.high_kept; second_high = f₄.high_kept }) (omega arith)))))

  -- the header is the same
  pub same_header : longest_header + 2 ≤ bytes → header_of file ≡ header_of first
  same_header h = go (header_alike h)
    where
      go : {head part : Heading} → Alike head part → head ≡ part
      go (faulty why n) = refl
      go (whole shape at l k) = refl

  pub first_bytes_judge : longest_file < bytes → ShowsFault file bytes
  unfolding body_of
  first_bytes_judge h =
      let s = shown (header_alike (omega arith)) in
      record { why = s.why; whole = s.whole_refused; first = s.part_refused; not_early = s.not_early }
    where
      shown : {head part : Heading} → Alike head part → Shown (body_of file head) (body_of first part)
      shown (faulty why n) = record { why = why; whole_refused = refl; part_refused = refl; not_early = n }
      shown (whole shape at l k) =
          let n = l.first_high in
          let m = l.second_high in
          symbols_shown shape l (shape.first + shape.second) at (omega arith)

-- "Longer input is judged on its first 4,608 bytes, which always show a fault."
pub input_judged : (file : List ℕ) → input_bytes ≤ length file → ShowsFault file input_bytes
input_judged file h = first_bytes_judge file input_bytes h (omega arith)
