-- E13 of what two sittings hold: equal lengths, equal contexts held, and so the same answer to what refusals ask of them. Assumes nothing.
use Prim.Native.Nat.{ℕ}
use native.Mathlib.Nat.{add_comm}
use mathlib.Core.Path.{◌≡◌, refl, sym, ap, ap₂, subst, ◌∙◌}
use mathlib.Core.Bool.{Bool, true, false, cond, ◌&&◌, ◌||◌, or_comm}
use mathlib.Core.Logic.{◌↔◌}
use mathlib.Core.List.{List, ◌∷◌, map}
use lib.ListN.{length, length-map}
use lib.Dec.{leb, ltb}
use Rattle.numbers.specs.Sum.{one}
use Rattle.contexts.specs.Sitting.{Sample, first, second, same_sample, Sitting, sitting_of, total_in, contexts_held}
use Rattle.contexts.proofs.Totalling.{total_cong}
use Rattle.contexts.proofs.Totals.{Over}
use Rattle.contexts.proofs.Renaming.{held_renamed}
use Rattle.estimate.specs.Exchange.{other}
use Rattle.estimate.proofs.Exchange.{exchanged}
use Rattle.replay.specs.Room.{Opening}
use Rattle.replay.specs.Table.{Line, First}
use Rattle.rules.specs.Report.{too_short}
use Rattle.demands.specs.Exchange.{Way, exchanging, renaming, both, sample_by, strings_by, HoldAlike, FedAlike}
use Rattle.demands.proofs.Alphabet.{below_over}

-- ---- lengths and contexts held

pub lengths_by : {A : ℕ} (way : Way A) (w : Sample → List ℕ) (i : Sample) → length (strings_by way w i) ≡ length (w (sample_by way i))
lengths_by exchanging w i = refl
lengths_by (renaming π r) w i = length-map (w i) π
lengths_by (both π r) w i = length-map (w (other i)) π

held_exchanged : (x : Sitting) → contexts_held (exchanged x) ≡ contexts_held x
held_exchanged x = total_cong x.symbols x.depth (λ s. ap (λ (n : ℕ). one (ltb 0 n)) (add_comm (total_in x second s) (total_in x first s)))

pub held_by_lem : (A D weight from : ℕ) (way : Way A) (w : Sample → List ℕ) → ((i : Sample) → Over A (w i))
    → contexts_held (sitting_of A D weight from (strings_by way w)) ≡ contexts_held (sitting_of A D weight from w)
held_by_lem A D weight from exchanging w over = held_exchanged (sitting_of A D weight from w)
held_by_lem A D weight from (renaming π r) w over = held_renamed A π r D weight from w over
held_by_lem A D weight from (both π r) w over =
    held_renamed A π r D weight from (λ i. w (other i)) (λ i. over (other i)) ∙ held_exchanged (sitting_of A D weight from w)

pub hold_alike : HoldAlike
hold_alike A D weight from way w below = record { lengths = lengths_by way w; contexts = held_by_lem A D weight from way w (λ i. below_over A (w i) (below i)) }

-- a question of either sample's length has the same answer
pub either_by : {A : ℕ} (way : Way A) (f : ℕ → Bool) (m n : Sample → ℕ) → ((i : Sample) → m i ≡ n (sample_by way i)) → (f (m first) || f (m second)) ≡ (f (n first) || f (n second))
either_by (renaming π r) f m n e = ap₂ (λ (k l : ℕ). f k || f l) (e first) (e second)
either_by exchanging f m n e = ap₂ (λ (k l : ℕ). f k || f l) (e first) (e second) ∙ or_comm (f (n second)) (f (n first))
either_by (both π r) f m n e = ap₂ (λ (k l : ℕ). f k || f l) (e first) (e second) ∙ or_comm (f (n second)) (f (n first))

-- .. also whether it is too short
pub short_by : {A : ℕ} (way : Way A) (o p : Opening) (m n : Sample → ℕ) → p.depth ≡ o.depth → ((i : Sample) → m i ≡ n (sample_by way i))
    → (too_short p (m first) || too_short p (m second)) ≡ (too_short o (n first) || too_short o (n second))
short_by way o p m n d e = either_by way (too_short p) m n e ∙ ap (λ (D : ℕ). (ltb 0 (n first) && leb (n first) D) || (ltb 0 (n second) && leb (n second) D)) d

-- the same lines, the same refusals
pub refused_by : {P Q : Type 0} {ls ls' : List Line} {n : ℕ} → (P ↔ First ls n) → (Q ↔ First ls' n) → ls' ≡ ls → Q ↔ P
refused_by {P} {Q} {ls} {ls'} {n} p q e = (λ h. p.1 (subst (λ (ks : List Line). First ks n) e (q.0 h)), λ h. q.1 (subst (λ (ks : List Line). First ks n) (sym e) (p.0 h)))

-- ---- a feed and its like

same_other : (j i : Sample) → same_sample j (other i) ≡ same_sample (other j) i
same_other first first = refl
same_other first second = refl
same_other second first = refl
same_other second second = refl

map_cond : (π : ℕ → ℕ) (t : Bool) (k l : List ℕ) → cond t (map π k) (map π l) ≡ map π (cond t k l)
map_cond π true k l = refl
map_cond π false k l = refl

pub fed_alike : FedAlike
fed_alike A exchanging w i a j = ap (λ (t : Bool). cond t (a ∷ w (other j)) (w (other j))) (same_other j i)
fed_alike A (renaming π r) w i a j = map_cond π (same_sample j i) (a ∷ w j) (w j)
fed_alike A (both π r) w i a j =
    ap (λ (t : Bool). cond t (π a ∷ map π (w (other j))) (map π (w (other j)))) (same_other j i) ∙ map_cond π (same_sample (other j) i) (a ∷ w (other j)) (w (other j))
