-- A run of feeds half way: what is left of it decides how it ends. Assumes nothing.
use mathlib.Core.Path.{◌≡◌, refl, sym, ap, ◌∙◌, subst}
use mathlib.Core.Bool.{true, false}
use mathlib.Core.List.{List}
use Prim.Native.Nat.{ℕ, suc, ◌+◌, ◌≤◌, ◌<◌}
use native.Mathlib.Omega.{arith}
use native.Mathlib.Numerals.{add-one}
use lib.ListN.{length, drop, get_or, drop_of_length-le}
use lib.Seq.{drop-cons}
use Rattle.contexts.specs.Sitting.{Progress}
use Rattle.replay.specs.Room.{Room}
use Rattle.replay.specs.Table.{Outcome, refused, answered}
use Rattle.replay.specs.Machine.{verdict, move, shift, settle}
use Rattle.store.specs.Layout.{store_size, room}
use Rattle.store.specs.Sound.{soundb}
use Rattle.store.specs.Meaning.{meaning}
use Rattle.rules.specs.Rules.{Answer, done, rules}
use Rattle.calls.specs.Promises.{Moves}
use Rattle.calls.specs.Run.{FeedRun, then_rest, feeding, fed_run, Runs}

-- ---- no call changes K

settled_made : (o : Outcome Answer) (ρ σ : Room Progress) → σ.made ≡ ρ.made → (settle o ρ σ).made ≡ ρ.made
unfolding settle
settled_made (refused n) ρ σ e = refl
settled_made (answered x) ρ σ e = e

move_made : (ρ : Room Progress) (d k a : ℕ) → (move rules ρ (feeding d k a)).made ≡ ρ.made
unfolding move shift
move_made ρ d k a = settled_made (verdict rules ρ (feeding d k a)) ρ (shift rules ρ (feeding d k a)) refl

room_made_lem : (s : List ℕ) → (meaning s).made ≡ room s
unfolding meaning
room_made_lem s = refl

pub room_moved : (x y : List ℕ) (d k a : ℕ) (o : Outcome Answer) → soundb x ≡ true → Moves x (feeding d k a) o y → room y ≡ room x
room_moved x y d k a o h m = sym (room_made_lem y) ∙ ap (λ (ρ : Room Progress). ρ.made) (m.moves h) ∙ move_made (meaning x) d k a ∙ room_made_lem x

-- ---- a run with n accepted feeds before it
unfoldable pub ahead : ℕ → FeedRun → FeedRun
ahead n r = record { accepted = n + r.accepted; ending = r.ending; room = r.room }

from_none : (r : FeedRun) → r ≡ ahead 0 r
unfolding ahead
from_none r = let e : 0 + r.accepted ≡ r.accepted = omega arith in rw e

-- what holds after n accepted feeds, which left the numbers x
pub record Ran (s : List ℕ) (d k : ℕ) (symbols : List ℕ) (x : List ℕ) (n : ℕ) : Type 0 where
  pub sound : soundb x ≡ true
  pub within : n ≤ length symbols
  pub rest : fed_run d k symbols (meaning s) ≡ ahead n (fed_run d k (drop n symbols) (meaning x))
  pub none : n ≡ 0 → x ≡ s
  pub room_same : room x ≡ room s
  pub past : drop (store_size (room s)) x ≡ drop (store_size (room s)) s
  pub long : length x ≡ length s

module _ (s : List ℕ) (d k : ℕ) (symbols : List ℕ) where
  pub ran_start : soundb s ≡ true → Ran s d k symbols s 0
  unfolding ahead
  ran_start h = record { sound = h; within = omega arith; rest = from_none (fed_run d k symbols (meaning s)); none = λ e. refl; room_same = refl; past = refl; long = refl }

  module _ (x : List ℕ) (n : ℕ) (r : Ran s d k symbols x n) where
    -- the next feed, at x
    next : n < length symbols → fed_run d k (drop n symbols) (meaning x)
        ≡ then_rest (verdict rules (meaning x) (feeding d k (get_or symbols n 0))) (meaning x) (fed_run d k (drop (suc n) symbols) (move rules (meaning x) (feeding d k (get_or symbols n 0))))
    unfolding fed_run
    next l = rw (drop-cons symbols n 0 l)

    pub ran_on : (y : List ℕ) → n < length symbols → Moves x (feeding d k (get_or symbols n 0)) (answered done) y → Ran s d k symbols y (n + 1)
    unfolding ahead then_rest
    ran_on y l m =
        let accepts : answered done ≡ verdict rules (meaning x) (feeding d k (get_or symbols n 0)) = m.answers r.sound in
        let moved : meaning y ≡ move rules (meaning x) (feeding d k (get_or symbols n 0)) = m.moves r.sound in
        let same = room_moved x y d k (get_or symbols n 0) (answered done) r.sound m in
        let then = fed_run d k (drop (suc n) symbols) (meaning y) in
        let one_more : fed_run d k (drop n symbols) (meaning x) ≡ record { accepted = suc then.accepted; ending = then.ending; room = then.room } = next l ∙ rw (← accepts, ← moved) in
        record {
          sound = m.stays_sound r.sound;
          within = omega arith;
          rest = r.rest ∙ ap (ahead n) one_more ∙ rw (add-one n) (counted then.accepted);
          none = λ e. absurd (omega arith);
          room_same = same ∙ r.room_same;
          past = subst (λ (K : ℕ). drop (store_size K) y ≡ drop (store_size K) x) r.room_same m.past_stays ∙ r.past;
          long = m.length_stays ∙ r.long;
        }
      where
        counted : (m : ℕ) {o : Outcome Answer} {ρ : Room Progress} → ◌≡◌ {A = FeedRun} (record { accepted = n + suc m; ending = o; room = ρ }) (record { accepted = suc n + m; ending = o; room = ρ })
        counted m = let e : n + suc m ≡ suc n + m = omega arith in rw e

    -- a run that ends here, in o
    ended : (o : Outcome Answer) → soundb s ≡ true → fed_run d k (drop n symbols) (meaning x) ≡ record { accepted = 0; ending = o; room = meaning x } → Runs s d k symbols n o x
    unfolding ahead
    ended o h e =
        let whole : fed_run d k symbols (meaning s) ≡ record { accepted = n + 0; ending = o; room = meaning x } = r.rest ∙ ap (ahead n) e in
        record {
          unsound = λ f. let z : ◌≡◌ {A = ℕ} 0 1 = cc in absurd (omega arith);
          accepts = λ g. omega (arith, ap (λ (q : FeedRun). q.accepted) whole);
          ends = λ g. sym (ap (λ (q : FeedRun). q.ending) whole);
          moves = λ g. sym (ap (λ (q : FeedRun). q.room) whole);
          stays_sound = λ g. r.sound;
          none_stays = r.none;
          past_stays = r.past;
          length_stays = r.long;
        }

    -- by a refusal
    pub ran_refused : (y : List ℕ) (why : ℕ) → soundb s ≡ true → n < length symbols → Moves x (feeding d k (get_or symbols n 0)) (refused why) y → Runs s d k symbols n (refused why) y
    unfolding then_rest
    ran_refused y why h l m =
        let same : y ≡ x = m.refused_stays why refl in
        let stops : refused why ≡ verdict rules (meaning x) (feeding d k (get_or symbols n 0)) = m.answers r.sound in
        subst (Runs s d k symbols n (refused why)) (sym same) (ended (refused why) h (next l ∙ rw (← stops)))

    -- .. and with the whole sample
    pub ran_whole : soundb s ≡ true → length symbols ≤ n → Runs s d k symbols n (answered done) x
    unfolding fed_run
    ran_whole h l = ended (answered done) h (rw (drop_of_length-le symbols l))

-- an unsound store
pub run_unsound : (s : List ℕ) (d k : ℕ) (symbols : List ℕ) → soundb s ≡ false → Runs s d k symbols 0 (refused 1) s
run_unsound s d k symbols f = record {
  unsound = λ e. (refl, refl);
  accepts = λ e. absurd (let z : ◌≡◌ {A = ℕ} 0 1 = cc in omega arith);
  ends = λ e. absurd (let z : ◌≡◌ {A = ℕ} 0 1 = cc in omega arith);
  moves = λ e. absurd (let z : ◌≡◌ {A = ℕ} 0 1 = cc in omega arith);
  stays_sound = λ e. e;
  none_stays = λ e. refl;
  past_stays = refl;
  length_stays = refl;
}
