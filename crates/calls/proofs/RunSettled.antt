-- A run's promise settles its answer and what the numbers stand for, and is what single feeds one after the other keep. Assumes nothing.
use mathlib.Core.Path.{◌≡◌, refl, sym, ap, ◌∙◌, subst}
use mathlib.Core.Bool.{Bool, true, false}
use mathlib.Core.List.{List, [], ◌∷◌}
use Prim.Native.Nat.{ℕ, suc}
use native.Mathlib.Omega.{arith}
use lib.ListN.{length, drop}
use Rattle.replay.specs.Table.{Outcome, refused, answered}
use Rattle.store.specs.Layout.{store_size, room}
use Rattle.store.specs.Sound.{soundb}
use Rattle.store.specs.Meaning.{meaning}
use Rattle.rules.specs.Rules.{Answer, done}
use Rattle.calls.specs.Promises.{Moves}
use Rattle.calls.specs.Run.{FeedRun, then_rest, feeding, fed_run, Runs}
use Rattle.calls.proofs.Running.{room_moved, ran_start, ran_refused, ran_whole}

-- ---- two results that the promise allows

pub record SameRun (before : List ℕ) (n m : ℕ) (o o' : Outcome Answer) (x y : List ℕ) : Type 0 where
  pub accepted_same : n ≡ m
  pub ending_same : o ≡ o'
  pub meaning_same : meaning x ≡ meaning y
  pub sound_same : soundb x ≡ soundb y
  pub numbers_none : n ≡ 0 → x ≡ y
  pub past_same : drop (store_size (room before)) x ≡ drop (store_size (room before)) y
  pub length_same : length x ≡ length y

-- THEOREM. Whatever a run's promise allows has one answer and one meaning, and the numbers themselves where no feed was accepted
pub runs_settled : (s : List ℕ) (d k : ℕ) (symbols : List ℕ) (n m : ℕ) (o o' : Outcome Answer) (x y : List ℕ)
    → Runs s d k symbols n o x → Runs s d k symbols m o' y → SameRun s n m o o' x y
runs_settled s d k symbols n m o o' x y p q = go (soundb s) refl
  where
    none : n ≡ m → n ≡ 0 → x ≡ y
    none e z = p.none_stays z ∙ sym (q.none_stays (sym e ∙ z))

    made : n ≡ m → o ≡ o' → meaning x ≡ meaning y → soundb x ≡ soundb y → SameRun s n m o o' x y
    made e f g t = record {
      accepted_same = e;
      ending_same = f;
      meaning_same = g;
      sound_same = t;
      numbers_none = none e;
      past_same = p.past_stays ∙ sym q.past_stays;
      length_same = p.length_stays ∙ sym q.length_stays;
    }

    go : (b : Bool) → soundb s ≡ b → SameRun s n m o o' x y
    go true h = made (p.accepts h ∙ sym (q.accepts h)) (p.ends h ∙ sym (q.ends h)) (p.moves h ∙ sym (q.moves h)) (p.stays_sound h ∙ sym (q.stays_sound h))
    go false h =
        let e : n ≡ m = (p.unsound h).0 ∙ sym (q.unsound h).0 in
        let l : x ≡ y = none e (p.unsound h).0 in
        made e ((p.unsound h).1 ∙ sym (q.unsound h).1) (ap meaning l) (ap soundb l)

-- ---- single feeds, one after the other

-- on the numbers s: n were accepted, it ended so, and t are the numbers then
pub data Singles (d k : ℕ) : List ℕ → List ℕ → ℕ → Outcome Answer → List ℕ → Type 0 where
  no_more : (s : List ℕ) → Singles d k s [] 0 (answered done) s
  stopped : (s t : List ℕ) (a why : ℕ) (rest : List ℕ) → Moves s (feeding d k a) (refused why) t → Singles d k s (a ∷ rest) 0 (refused why) t
  one_more : (s t u : List ℕ) (a : ℕ) (rest : List ℕ) (n : ℕ) (o : Outcome Answer) → Moves s (feeding d k a) (answered done) t → Singles d k t rest n o u → Singles d k s (a ∷ rest) (suc n) o u

module _ (d k : ℕ) where
  -- a feed that was accepted, and then a run
  joined : (s t u : List ℕ) (a : ℕ) (rest : List ℕ) (n : ℕ) (o : Outcome Answer) → soundb s ≡ true → Moves s (feeding d k a) (answered done) t
      → Runs t d k rest n o u → Runs s d k (a ∷ rest) (suc n) o u
  unfolding fed_run then_rest
  joined s t u a rest n o h m r =
      let then = fed_run d k rest (meaning t) in
      let sound : soundb t ≡ true = m.stays_sound h in
      let whole : fed_run d k (a ∷ rest) (meaning s) ≡ record { accepted = suc then.accepted; ending = then.ending; room = then.room } = rw (← m.answers h, ← m.moves h) in
      let room_same : room t ≡ room s = room_moved s t d k a (answered done) h m in
      record {
        unsound = λ f. let z : ◌≡◌ {A = ℕ} 0 1 = cc in absurd (omega arith);
        accepts = λ g. ap suc (r.accepts sound) ∙ sym (ap (λ (q : FeedRun). q.accepted) whole);
        ends = λ g. r.ends sound ∙ sym (ap (λ (q : FeedRun). q.ending) whole);
        moves = λ g. r.moves sound ∙ sym (ap (λ (q : FeedRun). q.room) whole);
        stays_sound = λ g. r.stays_sound sound;
        none_stays = λ e. absurd (omega arith);
        past_stays = subst (λ (K : ℕ). drop (store_size K) u ≡ drop (store_size K) t) room_same r.past_stays ∙ m.past_stays;
        length_stays = r.length_stays ∙ m.length_stays;
      }

  -- THEOREM. Single feeds, one after the other up to the first that is refused, keep the promise of a run: so a run answers and leaves what they do
  pub singles_run : {s symbols : List ℕ} {n : ℕ} {o : Outcome Answer} {t : List ℕ} → soundb s ≡ true → Singles d k s symbols n o t → Runs s d k symbols n o t
  singles_run h (no_more s) = ran_whole s d k [] s 0 (ran_start s d k [] h) h (omega arith)
  singles_run h (stopped s t a why rest m) = ran_refused s d k (a ∷ rest) s 0 (ran_start s d k (a ∷ rest) h) t why h (omega arith) m
  singles_run h (one_more s t u a rest n o m r) = joined s t u a rest n o h m (singles_run (m.stays_sound h) r)
