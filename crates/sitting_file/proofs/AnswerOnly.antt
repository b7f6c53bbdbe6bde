-- No answer but that of `read_of` is true of the file: numbers within their limits are read, one after another, and a fault is found at its place.
-- Assumes nothing.
use Rattle.std.specs.Prelude.{Ok, Err}
use Prim.Native.Nat.{ℕ, ◌+◌, ◌-◌, ◌<◌, ◌≤◌}
use mathlib.Core.Path.{◌≡◌, refl, sym, ap, subst, ◌∙◌}
use mathlib.Core.Bool.{Bool, true, false, cond}
use mathlib.Core.List.{List, [], ◌∷◌, ◌++◌, append_assoc, append-nil}
use native.Mathlib.Omega.{arith}
use lib.ListN.{length, drop, length-append}
use lib.Seq.{drop-append_seam}
use lib.Dec.{ltb}
use borrow.Author.Tests.{ltb-true, ltb-false}
use Rattle.numbers.specs.Limits.{most_symbols, longest}
use Rattle.sitting_file.specs.Format.{first_group, number_at, header_of, symbols_from, body_of, read_of, Reading}
use Rattle.sitting_file.specs.Verdict.{two_groups, shortest, written, with_header, from_to, nothing, due_after, Follow, FaultAt, Verdict}
use Rattle.sitting_file.specs.declared.Shape.{Shape}
use Rattle.sitting_file.specs.declared.Refusal.{Refusal}
use Rattle.sitting_file.specs.declared.Refusal.TheVariants.{EndsEarly, NotShortest, OutsideLimits, BytesLeft}
use Rattle.sitting_file.proofs.Places.{inside, symbol_read, symbol_refused, more_bytes, all_read}
use Rattle.sitting_file.proofs.Stages.{alphabet_refused, depth_refused, first_refused, second_refused, header_whole}
use Rattle.sitting_file.proofs.Shortest.{read_back, fault_found}
use Rattle.sitting_file.proofs.Written.{written_append, symbol_due, format_follow}

-- the place after some numbers
abbrev place : List ℕ → ℕ
place us = length (written us)

module _ (file : List ℕ) where
  -- a number within its limits is found
  found : (us : List ℕ) (v : ℕ) (vs rest : List ℕ) (low high : ℕ) → file ≡ written (us ++ v ∷ vs) ++ rest → high < two_groups → low ≤ v → v ≤ high → number_at file (place us) low high ≡ Ok (v, place (us ++ v ∷ []))
  found us v vs rest low high e h l k =
      let whole : file ≡ written us ++ (shortest v ++ (written vs ++ rest)) = e ∙ rw (written_append us (v ∷ vs)) (simp append_assoc) in
      let here : drop (place us) file ≡ shortest v ++ (written vs ++ rest) = ap (drop (place us)) whole ∙ drop-append_seam (written us) _ in
      let end : place us + length (shortest v) ≡ place (us ++ v ∷ []) = rw (written_append us (v ∷ [])) (simp (length-append, append-nil)) in
      ap (first_group low high (place us)) here ∙ read_back low high (place us) v (written vs ++ rest) (omega arith) ∙ inside low high v _ l k ∙ ap (λ (k : ℕ). Ok (v, k)) end

  fault_at : (us rest : List ℕ) (low high : ℕ) (why : Refusal) → file ≡ written us ++ rest → FaultAt why (from_to low high) rest → number_at file (place us) low high ≡ Err why
  fault_at us rest low high why e f = ap (first_group low high (place us)) (ap (drop (place us)) e ∙ drop-append_seam (written us) rest) ∙ fault_found why low high (place us) rest f

  -- the header is read, whatever stands after it
  pub header_on : (shape : Shape) (ss rest : List ℕ) → file ≡ written (with_header shape ss) ++ rest → Follow [] (with_header shape ss) → header_of file ≡ Ok (shape, place (with_header shape []))
  header_on shape ss rest e f =
      let A = shape.alphabet in
      let D = shape.depth in
      let n = shape.first in
      let m = shape.second in
      header_whole longest file A _ (found [] A (D ∷ n ∷ m ∷ ss) rest _ _ e (omega arith) f.0.0 f.0.1) D _ (found (A ∷ []) D (n ∷ m ∷ ss) rest _ _ e (omega arith) f.1.0.0 f.1.0.1) n _
      (found (A ∷ D ∷ []) n (m ∷ ss) rest _ _ e (omega arith) f.1.1.0.0 f.1.1.0.1) m _ (found (A ∷ D ∷ n ∷ []) m ss rest _ _ e (omega arith) f.1.1.1.0.0 f.1.1.1.0.1)

  -- ---- the symbols

  module _ (shape : Shape) where
    abbrev wanted : ℕ
    wanted = shape.first + shape.second

    -- the answer from the place after some symbols on
    left : List ℕ → Reading
    left us = symbols_from file shape (wanted - length us) (place (with_header shape us))

    symbols_on : (us ss rest : List ℕ) → shape.alphabet ≤ most_symbols → file ≡ written (with_header shape (us ++ ss)) ++ rest → Follow (with_header shape us) ss → left us ≡ left (us ++ ss)
    unfolding left
    symbols_on us [] rest small e f = ap left (sym (append-nil us))
    symbols_on us (v ∷ ss) rest small e f =
        let d = symbol_due shape us v f.0 in
        let here = found (with_header shape us) v ss rest 0 (shape.alphabet - 1) e (omega arith) (omega arith) d.1 in
        let more : wanted - length us - 1 ≡ wanted - length (us ++ v ∷ []) = simp length-append (omega arith) in
        let regroup : us ++ v ∷ [] ++ ss ≡ us ++ v ∷ ss = append_assoc us (v ∷ []) ss in
        symbol_read file shape (wanted - length us) _ _ v (omega arith) here ∙ ap (λ (k : ℕ). symbols_from file shape k (place (with_header shape (us ++ v ∷ [])))) more ∙ symbols_on (us ++ v ∷ []) ss rest small (subst (λ (l : List ℕ). file ≡ written (with_header shape l) ++ rest) (sym regroup) e) f.1 ∙ ap left regroup

    -- the header and the symbols after it are read
    body_on : (ss rest : List ℕ) → file ≡ written (with_header shape ss) ++ rest → Follow [] (with_header shape ss) → read_of file ≡ left ss
    unfolding body_of left
    body_on ss rest e f =
        let none : wanted ≡ wanted - 0 = omega arith in
        ap (body_of file) (header_on shape ss rest e f) ∙ ap (λ (k : ℕ). symbols_from file shape k (place (with_header shape []))) none ∙ symbols_on [] ss rest f.0.1 e f.1.1.1.1

    -- a fault where a symbol or the end should stand
    symbols_faulty : (ss rest : List ℕ) (why : Refusal) → file ≡ written (with_header shape ss) ++ rest → FaultAt why (due_after (with_header shape ss)) rest → left ss ≡ Err why
    unfolding left
    symbols_faulty ss rest why e f = go (ltb (length ss) wanted) refl f
      where
        left_over : (w : Refusal) → wanted ≤ length ss → FaultAt w nothing rest → left ss ≡ Err w
        left_over BytesLeft h g = more_bytes file shape (wanted - length ss) (place (with_header shape ss)) (omega arith) (omega (arith, ap length e, length-append (written (with_header shape ss)) rest, ap length g.2))
        left_over EndsEarly h g = absurd g
        left_over NotShortest h g = absurd g
        left_over OutsideLimits h g = absurd g

        go : (t : Bool) → ltb (length ss) wanted ≡ t → FaultAt why (cond t (from_to 0 (shape.alphabet - 1)) nothing) rest → left ss ≡ Err why
        go true t g =
            let due : length ss < wanted = ltb-true _ _ t in
            symbol_refused file shape (wanted - length ss) _ why (omega arith) (fault_at (with_header shape ss) rest 0 (shape.alphabet - 1) why e g)
        go false t g = left_over why (ltb-false _ _ t) g

  refused_only : (why : Refusal) (before rest : List ℕ) → file ≡ written before ++ rest → Follow [] before → FaultAt why (due_after before) rest → read_of file ≡ Err why
  unfolding body_of
  refused_only why [] rest e f g = ap (body_of file) (alphabet_refused longest file why (fault_at [] rest _ _ why e g))
  refused_only why (A ∷ []) rest e f g =
      ap (body_of file) (depth_refused longest file A _ (found [] A [] rest _ _ e (omega arith) f.0.0 f.0.1) why (fault_at (A ∷ []) rest _ _ why e g))
  refused_only why (A ∷ D ∷ []) rest e f g =
      ap (body_of file)
      (first_refused longest file A _ (found [] A (D ∷ []) rest _ _ e (omega arith) f.0.0 f.0.1) D _ (found (A ∷ []) D [] rest _ _ e (omega arith) f.1.0.0 f.1.0.1) why
      (fault_at (A ∷ D ∷ []) rest _ _ why e g))
  refused_only why (A ∷ D ∷ n ∷ []) rest e f g =
      ap (body_of file)
      (second_refused longest file A _ (found [] A (D ∷ n ∷ []) rest _ _ e (omega arith) f.0.0 f.0.1) D _ (found (A ∷ []) D (n ∷ []) rest _ _ e (omega arith) f.1.0.0 f.1.0.1) n _
      (found (A ∷ D ∷ []) n [] rest _ _ e (omega arith) f.1.1.0.0 f.1.1.0.1) why (fault_at (A ∷ D ∷ n ∷ []) rest _ _ why e g))
  refused_only why (A ∷ D ∷ n ∷ m ∷ ss) rest e f g =
      let shape : Shape = record { alphabet = A; depth = D; first = n; second = m } in
      body_on shape ss rest e f ∙ symbols_faulty shape ss rest why e g

  accepted_only : (shape : Shape) (ss : List ℕ) → file ≡ written (with_header shape ss) → Follow [] (with_header shape ss) → length ss ≡ shape.first + shape.second → read_of file ≡ Ok shape
  unfolding left
  accepted_only shape ss e f h =
      let whole : file ≡ written (with_header shape ss) ++ [] = e ∙ sym (append-nil (written (with_header shape ss))) in
      body_on shape ss [] whole f ∙ all_read file shape _ (place (with_header shape ss)) (omega arith) (omega (arith, ap length e))

  -- no other answer is true of the file
  pub answer_only : (answer : Reading) → Verdict file answer → answer ≡ read_of file
  answer_only (Ok shape) v = sym (accepted_only shape v.symbols v.bytes (format_follow shape file v) v.count)
  answer_only (Err why) v = sym (refused_only why v.before v.rest v.split v.follow v.fault)
