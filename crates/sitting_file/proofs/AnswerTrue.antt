-- Every answer of `read_of` is true of the file: reading goes from place to place, and the numbers before each are whole and within their limits.
-- Assumes nothing.
use Rattle.std.specs.Prelude.{Ok, Err}
use Prim.Native.Nat.{ℕ, zero, suc, ◌+◌, ◌-◌}
use mathlib.Core.Path.{◌≡◌, refl, sym, ap, subst, ◌∙◌}
use mathlib.Core.List.{List, [], ◌∷◌, ◌++◌, append-nil}
use native.Mathlib.Omega.{arith}
use lib.ListN.{length, drop, length-append}
use lib.Seq.{drop_at}
use borrow.Author.Tests.{lt-ltb, le-ltb}
use Rattle.numbers.specs.Limits.{fewest_symbols, most_symbols, deepest, longest}
use Rattle.sitting_file.specs.Format.{first_group, number_at, and_then, header_up_to, header_of, symbols_from, body_of, read_of, Heading, Number}
use Rattle.sitting_file.specs.Verdict.{Bytes, shortest, written, with_header, Due, from_to, due_after, MeetsDue, Follow, FaultAt, FaultIn, Verdict}
use Rattle.sitting_file.specs.declared.Shape.{Shape}
use Rattle.sitting_file.specs.declared.Refusal.{Refusal}
use Rattle.sitting_file.proofs.Shortest.{Says, number_says}
use Rattle.sitting_file.proofs.Written.{written_append, written_more, follow_more, follow_format}

-- a place that reading came to: the numbers before it, and the bytes from it on
record Reached (file before : List ℕ) (at : ℕ) : Type 0 where
  rest : List ℕ
  split : file ≡ written before ++ rest
  place : at ≡ length (written before)
  follow : Follow [] before
  bytes : Bytes rest

module _ (file : List ℕ) where
  here : (before : List ℕ) (at : ℕ) (r : Reached file before at) → drop at file ≡ r.rest
  here before at r = ap (drop at) r.split ∙ drop_at (written before) r.rest at (sym r.place)

  -- a number that is found leads to the next place, and a fault is the answer
  module _ {R : Type 0} (P : R → Type 0) (stop : Refusal → R) (stopped : (why : Refusal) → FaultIn file why → P (stop why)) where
    step : (before : List ℕ) (at low high : ℕ) → due_after before ≡ from_to low high → Reached file before at → (go : ℕ → ℕ → R) → ((v next : ℕ) → Reached file (before ++ v ∷ []) next → P (go v next)) → P (and_then (number_at file at low high) stop go)
    step before at low high e r go onward = subst (λ (l : List ℕ). P (and_then (first_group low high at l) stop go)) (sym (here before at r)) (by (first_group low high at r.rest) (number_says low high at r.rest r.bytes))
      where
        by : (n : Number) → Says low high at r.rest n → P (and_then n stop go)
        by (Err why) f = stopped why (record { before = before; rest = r.rest; split = r.split; follow = r.follow; fault = subst (λ (d : Due). FaultAt why d r.rest) (sym e) f })
        by (Ok (v, next)) s =
            let f = s.0 in
            let long : length (written (before ++ v ∷ [])) ≡ length (written before) + length (shortest v) = rw (written_append before (v ∷ [])) (simp (length-append, append-nil)) in
            let placed : next ≡ length (written before) + length (shortest v) = f.place ∙ ap (λ (k : ℕ). k + length (shortest v)) r.place in
            onward v next
            (record {
              rest = f.rest;
              split = r.split ∙ ap (λ (l : List ℕ). written before ++ l) f.split ∙ written_more before v f.rest;
              place = placed ∙ sym long;
              follow = follow_more [] before v r.follow (subst (λ (d : Due). MeetsDue d v) (sym e) (s.1, s.2));
              bytes = f.left;
            })

  symbols_true : (shape : Shape) (ss : List ℕ) (left at : ℕ) → length ss + left ≡ shape.first + shape.second → Reached file (with_header shape ss) at → Verdict file (symbols_from file shape left at)
  unfolding symbols_from
  symbols_true shape ss zero at h r = go r.rest r.split
    where
      go : (rest : List ℕ) → file ≡ written (with_header shape ss) ++ rest → Verdict file (symbols_from file shape zero at)
      go [] e =
          let whole : file ≡ written (with_header shape ss) = e ∙ append-nil (written (with_header shape ss)) in
          let long : length file ≡ at = ap length whole ∙ sym r.place in
          rw (le-ltb at (length file) (omega arith)) (follow_format shape file ss r.follow (omega arith) whole)
      go (b ∷ more) e =
          let long : length file ≡ length (written (with_header shape ss)) + suc (length more) = ap length e ∙ length-append (written (with_header shape ss)) (b ∷ more) in
          let place = r.place in
          rw (lt-ltb at (length file) (omega arith))
          (record { before = with_header shape ss; rest = b ∷ more; split = e; follow = r.follow; fault = rw (le-ltb (length ss) (shape.first + shape.second) (omega arith)) (b, more, refl) })
  symbols_true shape ss (suc left) at h r =
      step (Verdict file) Err (λ why f. f) (with_header shape ss) at 0 (shape.alphabet - 1) (rw (lt-ltb (length ss) (shape.first + shape.second) (omega arith))) r (λ _ next. symbols_from file shape left next)
      (λ v next q. symbols_true shape (ss ++ v ∷ []) left next (simp length-append (omega arith)) q)

  -- a header is a place, or stops at the fault
  Heads : Heading → Type 0
  Heads (Ok (shape, at)) = Reached file (with_header shape []) at
  Heads (Err why) = FaultIn file why

  header_true : Bytes file → Heads (header_of file)
  unfolding header_up_to Heads
  header_true bytes =
      step Heads Err (λ why f. f) [] 0 fewest_symbols most_symbols refl (record { rest = file; split = refl; place = refl; follow = tt; bytes = bytes }) _
      (λ A at₁ q₁. step Heads Err (λ why f. f) (A ∷ []) at₁ 0 deepest refl q₁ _
      (λ D at₂ q₂. step Heads Err (λ why f. f) (A ∷ D ∷ []) at₂ 0 longest refl q₂ _
      (λ n at₃ q₃. step Heads Err (λ why f. f) (A ∷ D ∷ n ∷ []) at₃ 0 longest refl q₃ _
      (λ m at₄ q₄. q₄))))

  -- a whole header ends where its four numbers in their shortest forms do
  pub header_place : Bytes file → (shape : Shape) (at : ℕ) → header_of file ≡ Ok (shape, at) → at ≡ length (written (with_header shape []))
  unfolding Heads
  header_place bytes shape at e = (subst Heads e (header_true bytes)).place

  -- and the file is these and the bytes behind them
  pub header_bytes : Bytes file → (shape : Shape) (at : ℕ) → header_of file ≡ Ok (shape, at) → file ≡ written (with_header shape []) ++ drop at file
  unfolding Heads
  header_bytes bytes shape at e =
      let r = subst Heads e (header_true bytes) in
      r.split ∙ ap (λ (l : List ℕ). written (with_header shape []) ++ l) (sym (here (with_header shape []) at r))

  pub answer_true : Bytes file → Verdict file (read_of file)
  unfolding body_of Heads
  answer_true bytes = go (header_of file) (header_true bytes)
    where
      go : (h : Heading) → Heads h → Verdict file (body_of file h)
      go (Ok (shape, at)) r = symbols_true shape [] (shape.first + shape.second) at (omega arith) r
      go (Err why) f = f
