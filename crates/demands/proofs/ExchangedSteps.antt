-- E13: after an accepted feed the sitting at its desk goes on with the longer string. Assumes nothing.
use Prim.Native.Nat.{ℕ}
use native.Mathlib.Omega.{arith}
use mathlib.Core.Path.{◌≡◌, refl, sym, ap, ◌∙◌}
use mathlib.Core.Bool.{Bool, true, false, cond}
use mathlib.Core.Option.{some, some-injective}
use mathlib.Core.List.{List, [], ◌∷◌, ◌++◌, foldl-append}
use lib.Dec.{eqb}
use Rattle.contexts.specs.Sitting.{Sample, Progress, sample_of}
use Rattle.replay.specs.Room.{Opening, Desk, closed, opened}
use Rattle.replay.specs.Table.{Outcome, refused, answered}
use Rattle.replay.specs.Machine.{is_opened, Act, asking, Call, at_desk, room_question, moved}
use Rattle.replay.specs.Serial.{Done, Told, Course, struck, tell, grown, joined, entered, sittings}
use Rattle.replay.specs.Alone.{latest, asks}
use Rattle.replay.proofs.Reached.{asks_append}
use Rattle.replay.proofs.Refusals.{answered_shifts}
use Rattle.replay.proofs.Swap.{shift_here}
use Rattle.store.specs.Meaning.{meaning}
use Rattle.rules.specs.Rules.{Answer, done, Ask, feed, rules}
use Rattle.rules.specs.Strings.{push, longer, strings_of}
use Rattle.rules.proofs.TrueCounts.{stands_next}
use Rattle.demands.specs.Demands.{ItsStrings}
use Rattle.demands.specs.Runs.{Does, Run, stop, then}
use Rattle.demands.specs.Exchange.{SittingAt, number_of, FeedGoesOn}
use Rattle.demands.proofs.Alphabet.{over_below}
use Rattle.demands.proofs.Contracts.{Sound, answers, leaves}
use Rattle.demands.proofs.Estimate.{counts_by_place}
use Rattle.demands.proofs.Opened.{answered_at}
use Rattle.demands.proofs.OwnStrings.{run_sound, AnsweredBy, next_answer}
use Rattle.demands.proofs.ExchangedRuns.{same_named, same_strings}
use Rattle.demands.proofs.ExchangedFeeds.{sample_number}

-- ---- a run with one call more

run_then : {σ τ υ : List ℕ} {cs : List (Call rules)} {os : List (Outcome Answer)} (c : Call rules) (o : Outcome Answer) → Run σ cs os τ → Does τ c o υ
    → Run σ (cs ++ c ∷ []) (os ++ o ∷ []) υ
run_then c o stop d = then d stop
run_then c o (then e r) d = then e (run_then c o r d)

struck_then : {σ τ : List ℕ} {cs : List (Call rules)} {os : List (Outcome Answer)} (d : ℕ) (a : Act rules) (x : Answer) → Run σ cs os τ
    → struck rules (cs ++ at_desk d a ∷ []) (os ++ answered x ∷ []) ≡ struck rules cs os ++ record { desk = d; act = a; answer = x } ∷ []
unfolding struck
struck_then d a x stop = refl
struck_then d a x (then {c = c} {cs = cs} {o = o} {os = os} e r) = go c o (struck_then d a x r)
  where
    last : List (Done rules)
    last = record { desk = d; act = a; answer = x } ∷ []

    go : (c : Call rules) (o : Outcome Answer) → struck rules (cs ++ at_desk d a ∷ []) (os ++ answered x ∷ []) ≡ struck rules cs os ++ last
        → struck rules (c ∷ (cs ++ at_desk d a ∷ [])) (o ∷ (os ++ answered x ∷ [])) ≡ struck rules (c ∷ cs) (o ∷ os) ++ last
    go room_question o h = h
    go (at_desk e b) (refused n) h = h
    go (at_desk e b) (answered y) h = ap (λ (xs : List (Done rules)). record { desk = e; act = b; answer = y } ∷ xs) h

sittings_then : (gs : List (Course rules)) (xs : List (Done rules)) (x : Done rules) → sittings rules gs (xs ++ x ∷ []) ≡ entered rules x (sittings rules gs xs)
unfolding sittings
sittings_then gs [] x = refl
sittings_then gs (y ∷ xs) x = sittings_then (entered rules y gs) xs x

latest_joined : (x : Done rules) (gs : List (Course rules)) (g : Course rules) → latest rules x.desk gs ≡ some g → latest rules x.desk (joined rules x gs) ≡ some (grown rules g x)
unfolding latest joined
latest_joined x [] g e = let z : ◌≡◌ {A = ℕ} 0 1 = cc in absurd (omega arith)
latest_joined x (h ∷ gs) g e = go (eqb h.desk x.desk) refl e (latest_joined x gs g)
  where
    go : (b : Bool) → eqb h.desk x.desk ≡ b → cond b (some h) (latest rules x.desk gs) ≡ some g
        → (latest rules x.desk gs ≡ some g → latest rules x.desk (joined rules x gs) ≡ some (grown rules g x))
        → latest rules x.desk (cond b (grown rules h x ∷ gs) (h ∷ joined rules x gs)) ≡ some (grown rules g x)
    go true f e rest = rw f (ap (λ (k : Course rules). some (grown rules k x)) (some-injective h g e))
    go false f e rest = rw f (rest e)

strings_then : (ts : List (Told rules)) (q : Ask) (x : Answer) → strings_of (asks rules (ts ++ record { act = asking q; answer = x } ∷ [])) ≡ longer (strings_of (asks rules ts)) q
unfolding strings_of asks
strings_then ts q x = ap strings_of (asks_append rules ts _) ∙ foldl-append longer (λ i. []) (asks rules ts) (q ∷ [])

-- ---- an accepted ask

open_still : (D : Desk Progress) (q : Ask) → is_opened (moved rules D (asking q)) ≡ is_opened D
unfolding moved
open_still closed q = refl
open_still (opened o p) q = refl

module _ {o : Opening} {w : Sample → List ℕ} (s : SittingAt o w) (q : Ask) (x : Answer) (next : List ℕ) (does : Does s.now (at_desk s.desk (asking q)) (answered x) next) where
  sound : Sound s.now
  sound = run_sound s.room s.store s.now s.before s.said s.made s.run

  is_answered : AnsweredBy (sittings rules [] (struck rules s.before s.said)) s.desk q x
  is_answered = next_answer s.room s.store s.now next s.before s.said s.made s.run s.desk q x does

  abbrev call : Done rules
  call = record { desk = s.desk; act = asking q; answer = x }

  now_joined : sittings rules [] (struck rules (s.before ++ at_desk s.desk (asking q) ∷ []) (s.said ++ answered x ∷ [])) ≡ joined rules call (sittings rules [] (struck rules s.before s.said))
  unfolding entered
  now_joined = ap (sittings rules []) (struck_then s.desk (asking q) x s.run) ∙ sittings_then [] (struck rules s.before s.said) call

  its_next : ItsStrings (sittings rules [] (struck rules (s.before ++ at_desk s.desk (asking q) ∷ []) (s.said ++ answered x ∷ []))) s.desk
  its_next =
      let h = is_answered in
      let i = h.its in
      record {
        course = grown rules i.course call;
        there = ap (latest rules s.desk) now_joined ∙ latest_joined call _ i.course i.there;
        named = i.named;
        later = i.later ++ tell rules call ∷ [];
        begun = ap (λ (ts : List (Told rules)). ts ++ tell rules call ∷ []) i.begun;
        strings = longer i.strings q;
        fed = ap (λ (v : Sample → List ℕ). longer v q) i.fed ∙ sym (strings_then i.course.told q x);
        below = λ j. over_below i.named.symbols (longer i.strings q j) ((stands_next i.named i.strings h.progress q h.stands h.accepted).over j);
        true_counts = counts_by_place i.named (longer i.strings q);
      }

  next_open : is_opened ((meaning next).at s.desk) ≡ true
  next_open =
      let c : Call rules = at_desk s.desk (asking q) in
      let says = sym (answers s.now next c (answered x) sound does) in
      let h = answered_at s.now s.desk q x sound says in
      ap (λ ρ. is_opened (ρ.at s.desk)) (leaves s.now next c (answered x) sound does ∙ answered_shifts rules (meaning s.now) c x says)
      ∙ ap is_opened (shift_here rules (meaning s.now) s.desk (asking q))
      ∙ open_still ((meaning s.now).at s.desk) q
      ∙ ap is_opened h.desk.at_desk_holds

pub feed_goes_on : FeedGoesOn
unfolding its_next is_answered
feed_goes_on o w s i a next does =
    let q : Ask = feed (number_of i) a in
    let h = is_answered s q done next does in
    record {
      sitting = record {
        room = s.room;
        store = s.store;
        made = s.made;
        before = s.before ++ at_desk s.desk (asking q) ∷ [];
        said = s.said ++ answered done ∷ [];
        now = next;
        run = run_then (at_desk s.desk (asking q)) (answered done) s.run does;
        desk = s.desk;
        its = its_next s q done next does;
        opened = same_named h.its s.its ∙ s.opened;
        fed = ap (λ (v : Sample → List ℕ). push (sample_of (number_of i)) a v) (same_strings h.its s.its ∙ s.fed) ∙ ap (λ (k : Sample). push k a w) (sample_number i);
      };
      same_store = refl;
      same_desk = refl;
      is_open = next_open s q done next does;
    }
