-- TRUE COUNTS: an open sitting's counts are those of its own two strings, whatever the neighbours do. Assumes nothing.
use Prim.Native.Nat.{ℕ, zero, suc, ◌+◌, ◌<◌}
use native.Mathlib.Omega.{arith}
use mathlib.Core.Path.{◌≡◌, refl, sym, ap, subst, ◌∙◌}
use mathlib.Core.Bool.{Bool, true, false, cond, ◌&&◌, ◌||◌}
use mathlib.Core.List.{List, [], ◌∷◌, foldl-append}
use lib.ListN.{length, take}
use lib.Seq.{take-nil, take-take}
use lib.Dec.{T, eqb, leb, ltb}
use borrow.Author.Tests.{leb-false}
use Rattle.numbers.specs.Sum.{one}
use Rattle.contexts.specs.Context.{is_context}
use Rattle.contexts.specs.Context as string
use Rattle.contexts.specs.Counts.{N}
use Rattle.contexts.specs.Sitting.{Sample, first, second, same_sample, Progress, sample_of}
use Rattle.contexts.proofs.Strings.{context_cons, context_length}
use Rattle.contexts.proofs.Followed.{begins_recent}
use Rattle.replay.specs.Room.{Making, Opening, Desk, closed, opened, new}
use Rattle.replay.specs.Table.{NoneApplies}
use Rattle.replay.specs.Machine.{Call}
use Rattle.replay.specs.Serial.{Told, outcomes, after, struck, sittings}
use Rattle.replay.specs.Alone.{Alone, opens_alone, goes_on, ends, asks}
use Rattle.replay.proofs.Reached.{asks_append, open_alone}
use Rattle.rules.specs.Feed.{counted_from, empty_progress, after_feed, not_of_sitting}
use Rattle.rules.specs.Rules.{Ask, feed, reporting, charting, rules, lines_of, next_of}
use Rattle.rules.specs.Strings.{push, longer, strings_of, StandsFor, OfOwnStrings}

-- ---- strings and their recent symbols

take_cons : (D a : ℕ) (w : List ℕ) → take D (a ∷ take D w) ≡ take D (a ∷ w)
take_cons zero a w = refl
take_cons (suc D) a w = ap {B = List ℕ} (λ (t : List ℕ). a ∷ t) (take-take D (suc D) w (omega arith))

-- ---- a new sitting, and one more symbol

pub stands_fresh : (o : Opening) → StandsFor o (λ i. []) (empty_progress o)
unfolding is_context N
stands_fresh o = record { over = λ i. tt; sizes = λ i. refl; recent = λ i. sym (take-nil o.depth); counts = λ i s a c. refl }

-- the sample that is fed, or the other
data Same (j i : Sample) : Bool → Type 0 where
  same : j ≡ i → Same j i true
  other : Same j i false

same_view : (j i : Sample) → Same j i (same_sample j i)
same_view first first = same refl
same_view first second = other
same_view second first = other
same_view second second = same refl

module _ (o : Opening) (w : Sample → List ℕ) (p : Progress) (S : StandsFor o w p) (i : Sample) (a : ℕ) (l : a < o.symbols) where
  over : (j : Sample) (b : Bool) → T (is_context o.symbols (length (cond b (a ∷ w j) (w j))) (cond b (a ∷ w j) (w j)))
  over j true = context_cons o.symbols (length (w j)) a (w j) l (S.over j)
  over j false = S.over j

  sizes : (j : Sample) (b : Bool) → p.size j + one b ≡ length (cond b (a ∷ w j) (w j))
  sizes j true = let e = S.sizes j in omega arith
  sizes j false = let e = S.sizes j in omega arith

  recent : (j : Sample) (b : Bool) → cond b (take o.depth (a ∷ p.recent j)) (p.recent j) ≡ take o.depth (cond b (a ∷ w j) (w j))
  recent j true = ap (λ (r : List ℕ). take o.depth (a ∷ r)) (S.recent j) ∙ take_cons o.depth a (w j)
  recent j false = S.recent j

  counts : (j : Sample) (s : List ℕ) (b : ℕ) (t : Bool) → Same j i t → T (is_context o.symbols o.depth s)
      → p.count j s b + one (t && (leb (counted_from o) (p.size i) && (string.begins s (p.recent i) && eqb a b))) ≡ N (counted_from o) (cond t (a ∷ w j) (w j)) s b
  unfolding N
  counts j s b t (same e) c =
      rw (e, S.sizes i, S.recent i, begins_recent o.depth s (w i) (context_length o.symbols o.depth s c), S.counts i s b c)
  counts j s b t other c = let e = S.counts j s b c in omega arith

  -- a fed sitting stands for the longer string
  pub stands_fed : StandsFor o (push i a w) (after_feed o i a p)
  unfolding after_feed
  stands_fed = record {
    over = λ j. over j (same_sample j i);
    sizes = λ j. sizes j (same_sample j i);
    recent = λ j. recent j (same_sample j i);
    counts = λ j s b c. counts j s b (same_sample j i) (same_view j i) c;
  }

-- ---- a sitting by itself

symbol_below : (o : Opening) (i a : ℕ) → not_of_sitting o i a ≡ false → a < o.symbols
symbol_below o i a e = go (ltb 1 i) (leb o.symbols a) refl e
  where
    go : (t u : Bool) → leb o.symbols a ≡ u → (t || u) ≡ false → a < o.symbols
    go true u f h = let z : ◌≡◌ {A = ℕ} 0 1 = cc in absurd (omega arith)
    go false true f h = let z : ◌≡◌ {A = ℕ} 0 1 = cc in absurd (omega arith)
    go false false f h = leb-false o.symbols a f

-- an accepted ask takes what stands for strings to what stands for the longer ones
pub stands_next : (o : Opening) (w : Sample → List ℕ) (p : Progress) (q : Ask) → StandsFor o w p → NoneApplies (lines_of o p q) → StandsFor o (longer w q) (next_of o p q)
unfolding lines_of next_of
stands_next o w p (feed i a) S n = stands_fed o w p S (sample_of i) a (symbol_below o i a n.0)
stands_next o w p (reporting sheet place) S n = S
stands_next o w p (charting len code a) S n = S

-- what a desk stands for: nothing where it is closed
abbrev pub DeskFor : (Sample → List ℕ) → Desk Progress → Type 0
DeskFor w closed = Unit {0}
DeskFor w (opened o p) = StandsFor o w p

pub stands_alone : {ts : List (Told rules)} {D : Desk Progress} → Alone rules ts D → DeskFor (strings_of (asks rules ts)) D
unfolding strings_of asks
stands_alone (opens_alone o) = stands_fresh o
stands_alone (goes_on {ts = ts} {o = o} {s = p} al q n) =
    subst (λ (w : Sample → List ℕ). StandsFor o w (next_of o p q))
    (sym (ap strings_of (asks_append rules ts _) ∙ foldl-append longer (λ i. []) (asks rules ts) (q ∷ [])))
    (stands_next o (strings_of (asks rules ts)) p q (stands_alone al) n)
stands_alone (ends al) = tt

-- THEOREM. After any run on a new room an open desk stands for the two strings that its own sitting's accepted feeds have fed
pub true_counts : (K : Making) (cs : List (Call rules)) (d : ℕ) (o : Opening) (p : Progress) → (after rules (new K) cs).at d ≡ opened o p
    → OfOwnStrings (sittings rules [] (struck rules cs (outcomes rules (new K) cs))) d o p
true_counts K cs d o p e = let own = open_alone rules K cs d o p e in record { own = own; stands = stands_alone own.alone }
