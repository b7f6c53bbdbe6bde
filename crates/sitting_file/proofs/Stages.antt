-- The header at each place where it stops. Assumes nothing.
use Rattle.std.specs.Prelude.{Ok, Err}
use Prim.Native.Nat.{ℕ, ◌≤◌}
use mathlib.Core.Path.{◌≡◌, refl, ap, ap₂, ◌∙◌}
use mathlib.Core.List.{List}
use native.Mathlib.Omega.{arith}
use lib.ListN.{length, drop}
use Rattle.numbers.specs.Limits.{fewest_symbols, most_symbols, deepest, longest}
use Rattle.sitting_file.specs.Format.{number_at, and_then, header_up_to, header_of, Heading, Number}
use Rattle.sitting_file.specs.Samples.{InLimits, longest_header}
use Rattle.sitting_file.specs.declared.Shape.{Shape}
use Rattle.sitting_file.specs.declared.Refusal.{Refusal}
use Rattle.sitting_file.specs.declared.Refusal.TheVariants.{BytesLeft}
use Rattle.sitting_file.proofs.Groups.{Told, no_group, half, not_short, outside, inside, tells, number_found}

-- ---- the header, as far as a reader of any sample limit reads it

module _ (limit : ℕ) (file : List ℕ) where
  pub alphabet_refused : (why : Refusal) → number_at file 0 fewest_symbols most_symbols ≡ Err why → header_up_to limit file ≡ Err why
  unfolding header_up_to
  alphabet_refused why e = rw e

  module _ (A at₁ : ℕ) (e₁ : number_at file 0 fewest_symbols most_symbols ≡ Ok (A, at₁)) where
    pub depth_refused : (why : Refusal) → number_at file at₁ 0 deepest ≡ Err why → header_up_to limit file ≡ Err why
    unfolding header_up_to
    depth_refused why e = rw (e₁, e)

    module _ (D at₂ : ℕ) (e₂ : number_at file at₁ 0 deepest ≡ Ok (D, at₂)) where
      pub first_refused : (why : Refusal) → number_at file at₂ 0 limit ≡ Err why → header_up_to limit file ≡ Err why
      unfolding header_up_to
      first_refused why e = rw (e₁, e₂, e)

      module _ (n at₃ : ℕ) (e₃ : number_at file at₂ 0 limit ≡ Ok (n, at₃)) where
        pub second_refused : (why : Refusal) → number_at file at₃ 0 limit ≡ Err why → header_up_to limit file ≡ Err why
        unfolding header_up_to
        second_refused why e = rw (e₁, e₂, e₃, e)

        pub header_whole : (m at₄ : ℕ) → number_at file at₃ 0 limit ≡ Ok (m, at₄) → header_up_to limit file ≡ Ok (record { alphabet = A; depth = D; first = n; second = m }, at₄)
        unfolding header_up_to
        header_whole m at₄ e = rw (e₁, e₂, e₃, e)

-- ---- no fault of a header is 16

told_fault : {low high at : ℕ} {bytes : List ℕ} {n : Number} {why : Refusal} → Told low high at bytes n → n ≡ Err why → why ≡ BytesLeft → ⊥
told_fault no_group e q = let z : ◌≡◌ {A = ℕ} 0 1 = cc in omega arith
told_fault (half big) e q = let z : ◌≡◌ {A = ℕ} 0 1 = cc in omega arith
told_fault (not_short big f) e q = let z : ◌≡◌ {A = ℕ} 0 1 = cc in omega arith
told_fault (outside s f) e q = let z : ◌≡◌ {A = ℕ} 0 1 = cc in omega arith
told_fault (inside s l k) e q = let z : ◌≡◌ {A = ℕ} 0 1 = cc in omega arith

abbrev NotLeft : Heading → Type 0
NotLeft h = (why : Refusal) → h ≡ Err why → why ≡ BytesLeft → ⊥

module _ (file : List ℕ) where
  -- a number's fault stops the header, or the header goes on
  goes_on : (at low high : ℕ) (go : ℕ → ℕ → Heading) → ((v next : ℕ) → NotLeft (go v next)) → NotLeft (and_then (number_at file at low high) Err go)
  goes_on at low high go onward = by (number_at file at low high) refl
    where
      by : (n : Number) → number_at file at low high ≡ n → NotLeft (and_then n Err go)
      by (Ok (v, next)) e = onward v next
      by (Err w) e = λ why f q. told_fault (tells low high at (drop at file)) e cc

  pub header_fault : NotLeft (header_of file)
  unfolding header_up_to
  header_fault =
      goes_on 0 fewest_symbols most_symbols _
      (λ A at₁. goes_on at₁ 0 deepest _
      (λ D at₂. goes_on at₂ 0 longest _
      (λ n at₃. goes_on at₃ 0 longest _
      (λ m at₄ why e q. let z : ◌≡◌ {A = ℕ} 0 1 = cc in omega arith))))

-- ---- a header that was read

-- what went on to a whole header has found its number
record Went (x : Number) (go : ℕ → ℕ → Heading) (shape : Shape) (at : ℕ) : Type 0 where
  v : ℕ
  next : ℕ
  here : x ≡ Ok (v, next)
  on : go v next ≡ Ok (shape, at)

went : (x : Number) (go : ℕ → ℕ → Heading) (shape : Shape) (at : ℕ) → and_then x Err go ≡ Ok (shape, at) → Went x go shape at
went (Ok (v, next)) go shape at e = record { v = v; next = next; here = refl; on = e }
went (Err why) go shape at e =
    let z : ◌≡◌ {A = ℕ} 0 1 = cc in
    absurd (omega arith)

whole_same : {s t : Shape} {i j : ℕ} → ◌≡◌ {A = Heading} (Ok (s, i)) (Ok (t, j)) → (s ≡ t) × (i ≡ j)
whole_same {s} {t} {i} {j} e =
    let p : ◌≡◌ {A = Shape × ℕ} (s, i) (t, j) = cc in
    (ap (λ (q : Shape × ℕ). q.0) p, ap (λ (q : Shape × ℕ). q.1) p)

module _ (limit : ℕ) (file : List ℕ) (shape : Shape) (at : ℕ) where
  -- the four numbers of a header, one after another
  pub record FourFound : Type 0 where
    pub at₁ : ℕ
    pub at₂ : ℕ
    pub at₃ : ℕ
    pub alphabet : number_at file 0 fewest_symbols most_symbols ≡ Ok (shape.alphabet, at₁)
    pub depth : number_at file at₁ 0 deepest ≡ Ok (shape.depth, at₂)
    pub first : number_at file at₂ 0 limit ≡ Ok (shape.first, at₃)
    pub second : number_at file at₃ 0 limit ≡ Ok (shape.second, at)

  pub four_found : header_up_to limit file ≡ Ok (shape, at) → FourFound
  unfolding header_up_to
  four_found e =
      let a = went (number_at file 0 fewest_symbols most_symbols) _ shape at e in
      let d = went (number_at file a.next 0 deepest) _ shape at a.on in
      let n = went (number_at file d.next 0 limit) _ shape at d.on in
      let m = went (number_at file n.next 0 limit) _ shape at n.on in
      let same = whole_same m.on in
      record {
        at₁ = a.next;
        at₂ = d.next;
        at₃ = n.next;
        alphabet = a.here ∙ ap (λ (s : Shape). Ok (s.alphabet, a.next)) same.0;
        depth = d.here ∙ ap (λ (s : Shape). Ok (s.depth, d.next)) same.0;
        first = n.here ∙ ap (λ (s : Shape). Ok (s.first, n.next)) same.0;
        second = m.here ∙ ap₂ (λ (s : Shape) (i : ℕ). Ok (s.second, i)) same.0 same.1;
      }

module _ (file : List ℕ) (shape : Shape) (at : ℕ) where
  -- a header that was read: its numbers are within their limits, and it takes at most six bytes of the file
  pub record HeaderRead : Type 0 where
    pub limits : InLimits shape
    pub place : at ≤ longest_header
    pub ends : at ≤ length file

  pub header_read : header_of file ≡ Ok (shape, at) → HeaderRead
  header_read e =
      let f = four_found longest file shape at e in
      let a = number_found fewest_symbols most_symbols 0 shape.alphabet f.at₁ file f.alphabet in
      let d = number_found 0 deepest f.at₁ shape.depth f.at₂ file f.depth in
      let n = number_found 0 longest f.at₂ shape.first f.at₃ file f.first in
      let m = number_found 0 longest f.at₃ shape.second at file f.second in
      let one = a.single (omega arith) in
      let two = d.single (omega arith) in
      record {
        limits = record { alphabet_low = a.low_kept; alphabet_high = a.high_kept; depth_high = d.high_kept; first_high = n.high_kept; second_high = m.high_kept };
        place = omega arith;
        ends = m.ends;
      }
