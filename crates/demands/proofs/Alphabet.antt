-- Strings over an alphabet: every symbol is below A, and no symbol from A up is counted. Assumes nothing.
use Prim.Native.Nat.{ℕ, zero, suc, ◌≤◌}
use native.Mathlib.Omega.{arith}
use mathlib.Core.Path.{◌≡◌, sym, subst}
use mathlib.Core.List.{List, [], ◌∷◌, reverse, reverse_aux}
use lib.ListN.{length}
use Rattle.contexts.specs.Context.{is_context}
use Rattle.contexts.specs.Sitting.{Sample, Sitting}
use Rattle.contexts.proofs.Strings.{newest_below, older_context, context_cons}
use Rattle.contexts.proofs.Totals.{Over, N_outside}
use Rattle.rows.specs.Rows.{ZeroFrom}
use Rattle.rows.proofs.Zeros.{rows_zero}
use Rattle.replay.specs.Room.{Opening}
use Rattle.rules.specs.Feed.{counted_from}
use Rattle.rules.specs.Report.{Reported}
use Rattle.rules.specs.Strings.{sitting_for}
use Rattle.sitting_file.specs.Samples.{Below}
use Rattle.demands.specs.Demands.{JointEstimate}

pub over_below : (A : ℕ) (w : List ℕ) → Over A w → Below A w
over_below A [] o i h = absurd (omega arith)
over_below A (a ∷ w) o zero h = newest_below A (length w) a w o
over_below A (a ∷ w) o (suc i) h = over_below A w (older_context A (length w) a w o) i (omega arith)

pub below_over : (A : ℕ) (w : List ℕ) → Below A w → Over A w
unfolding is_context
below_over A [] b = tt
below_over A (a ∷ w) b = context_cons A (length w) a w (b 0 (omega arith)) (below_over A w (λ i h. b (suc i) (omega arith)))

onto : (A : ℕ) (us w : List ℕ) → Below A us → Over A w → Over A (reverse_aux us w)
onto A [] w b o = o
onto A (a ∷ us) w b o = onto A us (a ∷ w) (λ i h. b (suc i) (omega arith)) (context_cons A (length w) a w (b 0 (omega arith)) o)

-- a sample read backwards
pub reverse_over : (A : ℕ) (us : List ℕ) → Below A us → Over A (reverse us)
unfolding is_context
reverse_over A us b = onto A us [] b tt

-- the joint estimate of a sitting that counts no symbol from A up has 0 there
pub estimate_zero : (x : Sitting) (r : Reported) → ((i : Sample) (s : List ℕ) (a : ℕ) → x.symbols ≤ a → x.count i s a ≡ 0) → JointEstimate x r → ZeroFrom x.symbols r.rows
estimate_zero x r none j = subst (ZeroFrom x.symbols) (sym j.rows) (rows_zero x none j.triple)

-- .. and so it is of two strings over the alphabet
pub strings_zero : (o : Opening) (w : Sample → List ℕ) (r : Reported) → ((i : Sample) → Over o.symbols (w i)) → JointEstimate (sitting_for o w) r → ZeroFrom o.symbols r.rows
strings_zero o w r over j = estimate_zero (sitting_for o w) r (λ i s a h. N_outside o.symbols (counted_from o) (w i) s a (over i) h) j
