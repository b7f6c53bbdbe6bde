-- Exchanging the samples exchanges kinds 1 and 2 of a report's rows; renaming the symbols renames their contexts and counts. Assumes nothing.
use Prim.Native.Nat.{ℕ, ◌≤◌, ◌<◌}
use native.Mathlib.Omega.{arith}
use mathlib.Core.Path.{◌≡◌, sym, ap, ap₂, subst, fun_ext, ◌∙◌}
use mathlib.Core.Bool.{Bool, cond}
use mathlib.Core.List.{List, map}
use lib.ListN.{get_or}
use lib.Dec.{T, leb}
use borrow.Author.Tests.{ne_eqb}
use Rattle.numbers.specs.Limits.{most_symbols}
use Rattle.numbers.specs.Renames.{Renames}
use Rattle.numbers.proofs.Orders.{Leb, le, gt, leb_view}
use Rattle.numbers.proofs.Sums.{sum_cong, sum_zero}
use Rattle.numbers.proofs.Permuting.{same_name, onto, sum_only}
use Rattle.contexts.specs.Context.{is_context}
use Rattle.contexts.specs.Sitting.{Sample, Sitting, eight}
use Rattle.contexts.proofs.Tables.{eight_at}
use Rattle.contexts.proofs.Renaming.{context_renamed, context_onto, context_once}
use Rattle.estimate.specs.Trees.{In, Kind, Triple}
use Rattle.estimate.specs.Score.{counts}
use Rattle.estimate.specs.Recursion.{estimate_of}
use Rattle.estimate.specs.Exchange.{swap}
use Rattle.estimate.proofs.Tables.{kind_none}
use Rattle.estimate.proofs.Exchange.{exchanged, swap_swap, counts_exchanged, estimate_exchanged}
use Rattle.estimate.proofs.Rename.{counts_renamed, estimates_renamed}
use Rattle.rows.specs.Members.{Member, member, members}
use Rattle.rows.specs.Rows.{Row, report_of}
use Rattle.rows.specs.Exchange.{exchanged_row, renamed_count, renamed_row, InOrderAgain}
use Rattle.rows.proofs.Holding.{in_members, of_members}
use Rattle.rows.proofs.Ordering.{members_increasing}
use Rattle.rows.proofs.Again.{again}

row_with : Kind → List ℕ → (ℕ → ℕ) → Row
row_with k s c = record { kind = k; context = s; counts = eight c }

-- ---- the samples exchanged

module _ (x : Sitting) where
  abbrev A : ℕ
  A = x.symbols

  abbrev D : ℕ
  D = x.depth

  abbrev t : Triple
  t = estimate_of x

  abbrev v : Triple
  v = estimate_of (exchanged x)

  swapped_member : Member → Member
  swapped_member p = member (swap p.kind) p.context

  -- a context of kind k here is one of kind k exchanged there
  there : (k : Kind) (s : List ℕ) → In s (t k) → In s (v (swap k))
  there k s m = subst (In s) (ap t (sym (swap_swap k)) ∙ sym (estimate_exchanged x (swap k))) m

  -- THEOREM. The exchanged sitting's rows are these, with first's own and second's own exchanged, in order again
  pub rows_exchanged : InOrderAgain exchanged_row (report_of x) (report_of (exchanged x))
  unfolding swapped_member row_with
  rows_exchanged =
      again x (exchanged x) (members A D t) (members A D v) (members_increasing A D t) (members_increasing A D v) swapped_member exchanged_row
      (λ p m. let h = of_members A D t m in in_members A D v (swap p.kind) p.context h.0 (there p.kind p.context h.1))
      (λ q m. let h = of_members A D v m in (
        swapped_member q,
        in_members A D t (swap q.kind) q.context h.0 (subst (In q.context) (estimate_exchanged x q.kind) h.1),
        ap (λ (k : Kind). member k q.context) (swap_swap q.kind),
      ))
      (λ p q m n e. ap₂ member (sym (swap_swap p.kind) ∙ ap (λ (r : Member). swap r.kind) e ∙ swap_swap q.kind) (ap (λ (r : Member). r.context) e))
      (λ p m. ap (row_with (swap p.kind) p.context) (sym (counts_exchanged x (swap p.kind) p.context ∙ ap (λ (k : Kind). counts x k p.context) (swap_swap p.kind))))

-- ---- the symbols renamed

-- "count a stands at π a", and counts from A up are 0
module _ (A : ℕ) (π : ℕ → ℕ) (r : Renames A π) (c : List ℕ) where
  pub count_at_lem : (a : ℕ) → a < A → renamed_count A π c (π a) ≡ get_or c a 0
  count_at_lem a l = sum_cong A (λ e m. ap (λ (b : Bool). cond b (get_or c e 0) 0) (same_name A π r e a m l)) ∙ sum_only A a (λ e. get_or c e 0) l

  pub count_above : (b : ℕ) → A ≤ b → renamed_count A π c b ≡ 0
  count_above b l = sum_zero A (λ a m. let k = r.within a m in rw (ne_eqb (π a) b (λ q. omega arith)))

-- two sittings: symbol a of x is symbol π a of y, and y counts nothing but the symbols below A
module _ (A D weight : ℕ) (π : ℕ → ℕ) (r : Renames A π) (n m : Sample → ℕ) (c e : Sample → List ℕ → ℕ → ℕ) (sizes : (i : Sample) → n i ≡ m i)
    (alike : (i : Sample) (s : List ℕ) (a : ℕ) → T (is_context A D s) → a < A → c i s a ≡ e i (map π s) (π a))
    (few : A ≤ most_symbols) (none : (i : Sample) (s : List ℕ) (b : ℕ) → A ≤ b → e i s b ≡ 0) where
  abbrev x : Sitting
  x = record { symbols = A; depth = D; weight = weight; size = n; count = c }

  abbrev y : Sitting
  y = record { symbols = A; depth = D; weight = weight; size = m; count = e }

  renamed_member : Member → Member
  renamed_member p = member p.kind (map π p.context)

  is : (k : Kind) (s : List ℕ) → T (is_context A D s) → estimate_of x k s ≡ estimate_of y k (map π s)
  is = estimates_renamed A D weight π r n m c e sizes alike

  -- the counts of a row, renamed
  row_counts : (k : Kind) (s : List ℕ) → T (is_context A D s) → (b : ℕ) → renamed_count A π (eight (counts x k s)) b ≡ counts y k (map π s) b
  row_counts k s h b = go (leb A b) (leb_view A b)
    where
      under : (a : ℕ) × (a < A) × (π a ≡ b) → renamed_count A π (eight (counts x k s)) b ≡ counts y k (map π s) b
      under (a, l, is_b) =
          subst (λ (z : ℕ). renamed_count A π (eight (counts x k s)) z ≡ counts y k (map π s) z) is_b
          (count_at_lem A π r (eight (counts x k s)) a l ∙ eight_at (counts x k s) a (omega arith) ∙ counts_renamed A D weight π r n m c e sizes alike k s a h l)

      go : (t : Bool) → Leb A b t → renamed_count A π (eight (counts x k s)) b ≡ counts y k (map π s) b
      go t (le l) = count_above A π r (eight (counts x k s)) b l ∙ sym (kind_none y k (map π s) b (λ i. none i (map π s) b l))
      go t (gt l) = under (onto A π r b l)

  -- THEOREM. The second's rows are the first's, with contexts and counts renamed, in order again
  pub rows_renamed : InOrderAgain (renamed_row A π) (report_of x) (report_of y)
  unfolding renamed_member row_with
  rows_renamed =
      again x y (members A D (estimate_of x)) (members A D (estimate_of y)) (members_increasing A D (estimate_of x)) (members_increasing A D (estimate_of y)) renamed_member (renamed_row A π)
      (λ p i. let h = of_members A D (estimate_of x) i in
      in_members A D (estimate_of y) p.kind (map π p.context) (context_renamed A π r D p.context h.0) (subst T (is p.kind p.context h.0) h.1))
      (λ q i. let h = of_members A D (estimate_of y) i in
      let o = context_onto A π r D q.context h.0 in (
        member q.kind o.0,
        in_members A D (estimate_of x) q.kind o.0 o.1 (subst T (sym (is q.kind o.0 o.1)) (subst (λ (u : List ℕ). In u (estimate_of y q.kind)) (sym o.2) h.1)),
        ap (member q.kind) o.2,
      ))
      (λ p q i j f.
      ap₂ member (ap (λ (u : Member). u.kind) f)
      (context_once A π r D p.context q.context (of_members A D (estimate_of x) i).0 (of_members A D (estimate_of x) j).0 (ap (λ (u : Member). u.context) f)))
      (λ p i. ap (row_with p.kind (map π p.context)) (fun_ext (row_counts p.kind p.context (of_members A D (estimate_of x) i).0)))
