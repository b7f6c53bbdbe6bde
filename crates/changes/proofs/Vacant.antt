-- What a store's numbers tell of its room and of a desk that is not open: no record is its. Assumes nothing.
use Prim.Native.Nat.{ℕ, ◌<◌}
use native.Mathlib.Omega.{arith}
use mathlib.Core.Path.{◌≡◌, refl, subst}
use mathlib.Core.Logic.{◌≢◌}
use mathlib.Core.Bool.{true, ◌&&◌}
use mathlib.Core.List.{List, [], ◌∷◌}
use lib.Dec.{T, eqb→eq}
use Rattle.numbers.specs.Limits.{desks}
use Rattle.numbers.specs.Every.{all}
use Rattle.numbers.proofs.Tests.{left, right}
use Rattle.numbers.proofs.Every.{all_at}
use Rattle.contexts.specs.Keys.{desk_of}
use Rattle.records.specs.Records.{key}
use Rattle.records.specs.Held.{keep, of_desk}
use Rattle.records.proofs.Keeping.{keep_all}
use Rattle.replay.specs.Room.{Opening, closed}
use Rattle.replay.specs.Table.{refused}
use Rattle.replay.specs.Machine.{opening, at_desk, verdict}
use Rattle.store.specs.Layout.{room, is_open, records_in}
use Rattle.store.specs.Sound.{record_ok, soundb}
use Rattle.store.specs.Plain.{Open}
use Rattle.store.specs.Meaning.{opening_at, progress_at, meaning}
use Rattle.store.proofs.Passing.{passed, record_key}
use Rattle.store.proofs.Fitting.{desk_opened, desk_closed}
use Rattle.store.proofs.Declared.{key_stands}
use Rattle.rules.specs.Rules.{rules}
use Rattle.changes.specs.Changes.{Openable}
use Rattle.changes.proofs.Granting.{Ready, already_open}

pub room_made_lem : (s : List ℕ) → (meaning s).made ≡ room s
unfolding meaning
room_made_lem s = refl

pub shut_there : (s : List ℕ) (d : ℕ) → (Open s d → ⊥) → (meaning s).at d ≡ closed
unfolding meaning
shut_there s d n = desk_closed s d n

pub open_there : (s : List ℕ) (d : ℕ) (o : Opening) → Open s d → verdict rules (meaning s) (at_desk d (opening o)) ≡ refused 3
unfolding meaning
open_there s d o p = already_open (meaning s) d o p.desk (opening_at s d) (progress_at s d) (desk_opened s d p)

pub ready_there : (s : List ℕ) (d : ℕ) (o : Opening) → Openable s d o → Ready (meaning s) d o
ready_there s d o p = record { desk = p.desk; shut = shut_there s d p.shut; limits = p.limits; weight = p.weight }

-- no record is of a desk that is not open
module _ (s : List ℕ) (d : ℕ) (h : soundb s ≡ true) (n : Open s d → ⊥) where
  pub not_there : (r : List ℕ) → T (record_ok s (records_in s) r) → desk_of (key r) ≢ d
  not_there r test q =
      let g = key_stands s (key r) (record_key s (records_in s) r test) in
      n (record { desk = subst (λ (e : ℕ). e < desks) q g.desk; opened = subst (λ (e : ℕ). T (is_open s e)) q g.opened })

  pub none_there : keep (of_desk d) (records_in s) ≡ []
  none_there = go (keep (of_desk d) (records_in s)) (keep_all (of_desk d) (record_ok s (records_in s)) (records_in s) (passed s h).each)
    where
      go : (rs : List (List ℕ)) → T (all (λ r. record_ok s (records_in s) r && of_desk d (key r)) rs) → rs ≡ []
      go [] t = refl
      go (r ∷ rs) t =
          let one = all_at (λ r. record_ok s (records_in s) r && of_desk d (key r)) (r ∷ rs) 0 [] t (omega arith) in
          absurd (not_there r (left (record_ok s (records_in s) r) _ one) (eqb→eq (desk_of (key r)) d (right (record_ok s (records_in s) r) _ one)))
