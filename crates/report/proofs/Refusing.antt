-- What a refused report promises. Assumes nothing.
use Prim.Native.Nat.{ℕ, ◌≤◌, ◌<◌}
use native.Mathlib.Omega.{arith}
use mathlib.Core.Path.{◌≡◌, subst}
use mathlib.Core.Bool.{true}
use mathlib.Core.List.{List}
use lib.ListN.{length}
use Rattle.contexts.specs.Sitting.{first, second}
use Rattle.replay.specs.Room.{opened}
use Rattle.replay.specs.Table.{refused}
use Rattle.store.specs.Layout.{size_at}
use Rattle.store.specs.Sound.{soundb}
use Rattle.store.specs.Plain.{Open}
use Rattle.store.specs.Meaning.{opening_at, progress_at, meaning}
use Rattle.store.proofs.Fitting.{desk_opened}
use Rattle.weighing.specs.declared.Desk.{Desk}
use Rattle.report.specs.Desk.{desk_in}
use Rattle.calls.specs.Promises.{Reports}
use Rattle.calls.proofs.Reporting.{first_empty, second_empty, first_short, second_short, reports_refused}

module _ (s : List ℕ) (d place : ℕ) (sheet : List ℕ) (sound : soundb s ≡ true) where
  module _ (o : Open s d) where
    at_desk_holds : (meaning s).at d ≡ opened (opening_at s d) (progress_at s d)
    unfolding meaning
    at_desk_holds = desk_opened s d o

    pub told_first : size_at s d first ≡ 0 → Reports s d place (refused 11) sheet sheet
    told_first z = reports_refused s d place sheet 11 sound (first_empty (meaning s) d (length sheet) place (opening_at s d) (progress_at s d) o.desk at_desk_holds z)

    pub told_second : (size_at s d first ≡ 0 → ⊥) → size_at s d second ≡ 0 → Reports s d place (refused 11) sheet sheet
    told_second n z = reports_refused s d place sheet 11 sound (second_empty (meaning s) d (length sheet) place (opening_at s d) (progress_at s d) o.desk at_desk_holds n z)

    module _ (k : Desk) (e : k ≡ desk_in s d) (m : k.m ≡ 0 → ⊥) where
      some_second : 0 < size_at s d second
      some_second = let z = subst (λ (x : Desk). x.m ≡ 0 → ⊥) e m in omega arith

      pub told_first_short : (k.n ≡ 0 → ⊥) → k.n ≤ k.depth → Reports s d place (refused 24) sheet sheet
      told_first_short n h =
          let z = subst (λ (x : Desk). x.n ≡ 0 → ⊥) e n in
          reports_refused s d place sheet 24 sound
          (first_short (meaning s) d (length sheet) place (opening_at s d) (progress_at s d) o.desk at_desk_holds (omega arith) some_second (subst (λ (x : Desk). x.n ≤ x.depth) e h))

      pub told_second_short : k.depth < k.n → k.m ≤ k.depth → Reports s d place (refused 24) sheet sheet
      told_second_short n h =
          reports_refused s d place sheet 24 sound
          (second_short (meaning s) d (length sheet) place (opening_at s d) (progress_at s d) o.desk at_desk_holds
          (subst (λ (x : Desk). x.depth < x.n) e n) some_second (subst (λ (x : Desk). x.m ≤ x.depth) e h))
