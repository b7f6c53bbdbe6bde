-- Refusals 2 to 9 of a feed, as the code has them. Assumes nothing.
use mathlib.Core.Path.{◌≡◌, ap, ◌∙◌}
use mathlib.Core.Bool.{true}
use mathlib.Core.List.{List}
use Prim.Native.Nat.{ℕ, ◌+◌, ◌≤◌, ◌<◌}
use native.Mathlib.Omega.{arith}
use Rattle.numbers.specs.Limits.{longest}
use Rattle.contexts.specs.Sitting.{sample_of}
use Rattle.replay.specs.Table.{refused}
use Rattle.replay.specs.Machine.{Call, asking, at_desk}
use Rattle.store.specs.Layout.{opening_numbers, field, size_at}
use Rattle.store.specs.Sound.{soundb}
use Rattle.store.specs.Plain.{Open}
use Rattle.rules.specs.Rules.{feed, rules}
use Rattle.calls.specs.Promises.{Moves}
use Rattle.calls.proofs.Keeping.{moves_refused}
use Rattle.changes.specs.FedStore.{Judged}
use Rattle.changes.proofs.Judging.{no_sample, no_symbol, sample_full}
use Rattle.changes.proofs.Numbering.{size_number}

module _ (s : List ℕ) (h : soundb s ≡ true) (d k a : ℕ) where
  abbrev call : Call rules
  call = at_desk d (asking (feed k a))

  module _ (o : Open s d) where
    pub refused_sample : 1 < k → Moves s call (refused 8) s
    refused_sample l = moves_refused s call 8 h (no_sample s d k a o l)

    module _ (one : k ≤ 1) (A : ℕ) (e : A ≡ field s d 1) where
      pub refused_symbol : A ≤ a → Moves s call (refused 8) s
      refused_symbol l = moves_refused s call 8 h (no_symbol s d k a o one (omega arith))

      module _ (below : a < A) (n : ℕ) (f : n ≡ size_at s d (sample_of k)) where
        pub refused_full : longest ≤ n → Moves s call (refused 9) s
        refused_full l = moves_refused s call 9 h (sample_full s d k a o one (omega arith) (omega (arith, f)))

        pub judged : n < longest → Judged s d k a
        judged l = record { sound = h; at_open = o; of_samples = one; of_alphabet_holds = omega arith; not_full = omega (arith, f) }
