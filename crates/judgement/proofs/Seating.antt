-- The store's promises on the way, over plain numbers: made, opened, fed. Assumes nothing.
use Prim.Native.Nat.{ℕ, ◌+◌, ◌-◌, ◌≤◌}
use native.Mathlib.Omega.{arith}
use mathlib.Core.Path.{◌≡◌, refl, sym, ap, ap₂, subst, ◌∙◌}
use mathlib.Core.Bool.{true}
use mathlib.Core.List.{List}
use lib.ListN.{length, take, drop, length-drop}
use lib.Seq.{take_all, drop-drop}
use borrow.Author.Tests.{le-ltb}
use Rattle.contexts.specs.Sitting.{Progress}
use Rattle.replay.specs.Room.{Room}
use Rattle.replay.specs.Table.{Outcome, refused, answered}
use Rattle.replay.specs.Machine.{opening, at_desk, move}
use Rattle.store.specs.Layout.{store_size}
use Rattle.store.specs.Sound.{soundb}
use Rattle.store.specs.Meaning.{meaning}
use Rattle.store.specs.Making.{Makes, made_of}
use Rattle.rules.specs.Rules.{Answer, done, rules}
use Rattle.calls.specs.Promises.{Moves}
use Rattle.calls.specs.Run.{FeedRun, fed_run, Runs}
use Rattle.std.specs.Prelude.{Result, Ok}
use Rattle.store.specs.declared.Refusal as making
use Rattle.sitting_file.specs.Samples.{first_of, second_of}
use Rattle.sitting_file.specs.declared.Shape.{Shape}
use Rattle.judgement.specs.Judgement.{room_made, opening_of}
use Rattle.judgement.specs.Sitting.{seated, followed_by, fed_both, run_of, Means, Feeds}

-- a store long enough is made
made_done : (s : List ℕ) → store_size room_made ≤ length s → made_of room_made (length s) ≡ Ok tt
made_done s h = rw (le-ltb (length s) (store_size room_made) h)

pub seat_means : (shape : Shape) (s t u : List ℕ) (made : Result (Unit {0}) making.Refusal) (v : Outcome Answer) → store_size room_made ≤ length s → Makes room_made s made t
    → Moves t (at_desk 0 (opening (opening_of shape))) v u → Means u (seated shape)
unfolding seated
seat_means shape s t u made v h m p =
    let d : made ≡ Ok tt = m.answered ∙ made_done s h in
    let sound = m.sound_after d in
    record { sound = p.stays_sound sound; room = p.moves sound ∙ ap (λ (ρ : Room Progress). move rules ρ (at_desk 0 (opening (opening_of shape)))) (m.means d) }

-- ---- the two runs
module _ (s t us vs : List ℕ) (sound : soundb s ≡ true) where
  abbrev both : FeedRun
  both = fed_both us vs (meaning s)

  pub first_stops : (n m : ℕ) → Runs s 0 0 us n (refused m) t → Feeds (refused m) t both
  unfolding fed_both followed_by
  first_stops n m r =
      rw (sym (r.ends sound)) (record { ends = refl; means = record { sound = r.stays_sound sound; room = r.moves sound } })

  pub second_ends : (u : List ℕ) (n m : ℕ) (o : Outcome Answer) → Runs s 0 0 us n (answered done) t → Runs t 0 1 vs m o u → Feeds o u both
  unfolding fed_both followed_by
  second_ends u n m o r q =
      let e : (fed_run 0 0 us (meaning s)).ending ≡ answered done = sym (r.ends sound) in
      let then = r.stays_sound sound in
      let f = r.moves sound in
      rw (e, ← f) (record { ends = q.ends then; means = record { sound = q.stays_sound then; room = q.moves then } })

-- ---- the samples as they are lent
module _ (file : List ℕ) (shape : Shape) where
  abbrev from : ℕ
  from = length file - (shape.first + shape.second)

  first_lent : take (from + shape.first - from) (drop from file) ≡ first_of file shape
  first_lent = let e : from + shape.first - from ≡ shape.first = omega arith in ap (λ (k : ℕ). take k (drop from file)) e

  second_lent : take (length file - (from + shape.first)) (drop (from + shape.first) file) ≡ second_of file shape
  second_lent =
      let e = length-drop (from + shape.first) file in
      take_all (length file - (from + shape.first)) (drop (from + shape.first) file) (omega arith) ∙ sym (drop-drop shape.first from file)

  -- feeding the parts lent is feeding the file
  pub file_fed : (s u : List ℕ) (o : Outcome Answer) → Means s (seated shape)
      → Feeds o u (fed_both (take (from + shape.first - from) (drop from file)) (take (length file - (from + shape.first)) (drop (from + shape.first) file)) (meaning s)) → Feeds o u (run_of file shape)
  file_fed s u o m f =
      subst (Feeds o u)
      (ap₂ (λ (us vs : List ℕ). fed_both us vs (meaning s)) first_lent second_lent ∙ ap (λ (ρ : Room Progress). fed_both (first_of file shape) (second_of file shape) ρ) m.room)
      f
