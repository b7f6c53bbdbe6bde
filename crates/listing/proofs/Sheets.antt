-- Rows written one after another on a sheet, and the numbers of a member's row. Assumes nothing.
use Prim.Native.Nat.{ℕ, zero, suc, ◌+◌, ◌≤◌, ◌<◌}
use mathlib.Core.Path.{◌≡◌, refl, sym, ap, ap₂, ◌∙◌}
use mathlib.Core.Bool.{Bool, true, false, cond}
use mathlib.Core.List.{List, [], ◌∷◌, ◌++◌, append_assoc, append-nil}
use native.Mathlib.Omega.{arith}
use native.Mathlib.Nat.{add-zero}
use lib.ListN.{length, take, drop, length-append, take-append-drop}
use lib.Seq.{take_at, drop_at, drop-drop, length-take-le, ext_get_or}
use Rattle.numbers.specs.Limits.{most_symbols}
use Rattle.numbers.proofs.Orders.{less, same, more, order}
use Rattle.contexts.specs.Context.{code_of}
use Rattle.contexts.specs.Sitting.{first, second, Sitting, eight, table}
use Rattle.contexts.proofs.Tables.{eight_at}
use Rattle.estimate.specs.Trees.{Kind, shared, own}
use Rattle.estimate.specs.Table.{counts_in}
use Rattle.estimate.proofs.Tables.{table_counts}
use Rattle.rows.specs.Members.{Member, member, number, only_if, gather}
use Rattle.rows.specs.Rows.{row_of, numbers_of, sheet_of}
use Rattle.listing.specs.declared.Plan.{Plan}
use Rattle.listing.specs.Plans.{here_of}
use Rattle.listing.specs.Writing.{sheet_for, WroteAt, numbers_here}

-- ---- what is written

pub written_none : (l : List ℕ) (to : ℕ) → WroteAt l l to [] to
written_none l to = record { sheet = sym (ap (λ (m : ℕ). take to l ++ drop m l) (add-zero to) ∙ take-append-drop to l); past_is = sym (add-zero to) }

-- some numbers, and then others where they end
module _ (old cur new : List ℕ) (to mid past : ℕ) (xs ys : List ℕ) (room : to + length xs ≤ length old) (g : WroteAt old cur to xs mid) (h : WroteAt cur new mid ys past) where
  front : length (take to old ++ xs) ≡ mid
  front = length-append (take to old) xs ∙ ap (λ (m : ℕ). m + length xs) (length-take-le to old (omega arith)) ∙ sym g.past_is

  cur_is : cur ≡ take to old ++ xs ++ drop mid old
  cur_is = g.sheet ∙ ap (λ (m : ℕ). take to old ++ (xs ++ drop m old)) (sym g.past_is) ∙ sym (append_assoc (take to old) xs (drop mid old))

  pub written_append : WroteAt old new to (xs ++ ys) past
  written_append = record {
    sheet =
        h.sheet
        ∙ ap₂ (λ (u v : List ℕ). u ++ (ys ++ v)) (ap (take mid) cur_is ∙ take_at (take to old ++ xs) (drop mid old) mid front) rest
        ∙ append_assoc (take to old) xs (ys ++ drop (to + length (xs ++ ys)) old)
        ∙ ap (λ (u : List ℕ). take to old ++ u) (sym (append_assoc xs ys (drop (to + length (xs ++ ys)) old)));
    past_is = omega (arith, h.past_is, g.past_is, length-append xs ys);
  }
    where
      rest : drop (mid + length ys) cur ≡ drop (to + length (xs ++ ys)) old
      rest =
          let e : to + length (xs ++ ys) ≡ mid + length ys = omega (arith, g.past_is, length-append xs ys) in
          sym (drop-drop (length ys) mid cur)
          ∙ ap (drop (length ys)) (ap (drop mid) cur_is ∙ drop_at (take to old ++ xs) (drop mid old) mid front)
          ∙ drop-drop (length ys) mid old
          ∙ ap (λ (m : ℕ). drop m old) (sym e)

-- ---- the rows of members

pub sheet_append : (x : Sitting) (ps qs : List Member) → sheet_for x (ps ++ qs) ≡ sheet_for x ps ++ sheet_for x qs
unfolding sheet_of
sheet_append x [] qs = refl
sheet_append x (p ∷ ps) qs = ap (λ (l : List ℕ). numbers_of (row_of x p) ++ l) (sheet_append x ps qs) ∙ sym (append_assoc (numbers_of (row_of x p)) (sheet_for x ps) (sheet_for x qs))

-- one child more
pub gather_next : (x : Sitting) (a : ℕ) (g : ℕ → List Member) → sheet_for x (gather (suc a) g) ≡ sheet_for x (gather a g) ++ sheet_for x (g a)
unfolding gather
gather_next x a g = sheet_append x (gather a g) (g a)

-- a child's rows have room where those of all children have
pub gather_room : (x : Sitting) (A a : ℕ) (g : ℕ → List Member) → a < A → length (sheet_for x (gather a g)) + length (sheet_for x (g a)) ≤ length (sheet_for x (gather A g))
unfolding gather
gather_room x zero a g h = absurd (omega arith)
gather_room x (suc A) a g h =
    let e = ap length (sheet_append x (gather A g) (g A)) ∙ length-append (sheet_for x (gather A g)) (sheet_for x (g A)) in
    elim (order a A) [
      | less o ↦ omega (arith, gather_room x A a g o)
      | same q ↦ rw q (omega arith)
      | more o ↦ absurd (omega arith)
    ]

eight_cong : {c e : ℕ → ℕ} → ((a : ℕ) → a < most_symbols → c a ≡ e a) → eight c ≡ eight e
eight_cong {c} {e} h = ext_get_or 0 (eight c) (eight e) refl (λ a l. eight_at c a l ∙ h a l ∙ sym (eight_at e a l))

-- the numbers of the row of a kind, from the table of its context
row_numbers : (x : Sitting) (s : List ℕ) (t : Kind) → numbers_of (row_of x (member t s)) ≡ number t ∷ length s ∷ code_of s ∷ eight (counts_in (table x s) t)
row_numbers x s t = ap (λ (c : List ℕ). number t ∷ length s ∷ code_of s ∷ c) (sym (eight_cong (λ a l. table_counts x s t a l)))

pub here_numbers : (x : Sitting) (s : List ℕ) (p : Plan) → numbers_here p (length s) (code_of s) (table x s) ≡ sheet_for x (here_of p s)
unfolding sheet_of
here_numbers x s p = go p.shared p.first p.second
  where
    at : Kind → List ℕ
    at t = number t ∷ length s ∷ code_of s ∷ eight (counts_in (table x s) t)

    one : (b : Bool) (t : Kind) (rest : List Member) → cond b (at t) [] ++ sheet_for x rest ≡ sheet_for x (only_if b (member t s) rest)
    one true t rest = ap (λ (l : List ℕ). l ++ sheet_for x rest) (sym (row_numbers x s t))
    one false t rest = refl

    go : (a b c : Bool) → cond a (at shared) [] ++ (cond b (at (own first)) [] ++ cond c (at (own second)) [])
        ≡ sheet_for x (only_if a (member shared s) (only_if b (member (own first) s) (only_if c (member (own second) s) [])))
    go a b c =
        ap (λ (l : List ℕ). cond a (at shared) [] ++ (cond b (at (own first)) [] ++ l)) (sym (append-nil (cond c (at (own second)) [])) ∙ one c (own second) [])
        ∙ ap (λ (l : List ℕ). cond a (at shared) [] ++ l) (one b (own first) (only_if c (member (own second) s) []))
        ∙ one a shared (only_if b (member (own first) s) (only_if c (member (own second) s) []))
