-- What a feed does to the records, whether its place is counted or not: one that is not is the case of no context. Assumes nothing.
use mathlib.Core.Path.{◌≡◌, refl}
use mathlib.Core.Logic.{◌≢◌}
use mathlib.Core.Bool.{Bool, true, false, ◌&&◌, ◌||◌}
use mathlib.Core.List.{List}
use Prim.Native.Nat.{ℕ, suc, ◌+◌, ◌≤◌, ◌<◌}
use native.Mathlib.Omega.{arith}
use lib.Dec.{T, eqb}
use lib.ListN.{length}
use Rattle.numbers.specs.Limits.{most_symbols}
use Rattle.numbers.specs.Sum.{one, sum}
use Rattle.contexts.specs.Context.{begins}
use Rattle.contexts.specs.Keys.{key_of}
use Rattle.contexts.specs.Sitting.{Sample, same_sample}
use Rattle.contexts.proofs.KeyOrder.{Within}
use Rattle.records.specs.Held.{held, keep, of_desk, count_at, Rising, Wide}
use Rattle.records.specs.Fed.{fed_to}
use Rattle.recording.proofs.Feeding.{rising_fed_to, wide_fed_to, count_fed, held_fed}
use Rattle.recording.proofs.Growing.{Origin, before, origin, length_fed, desk_length_fed, other_fed}
use Rattle.changes.specs.FedStore.{counting_contexts, fed_if, missing_if}

no_more : (p h : Bool) → h ≡ ((p && false) || h)
no_more true h = refl
no_more false h = refl

none : (n : ℕ) (p q : Bool) → n ≡ n + one (p && (q && false))
none n true true = omega arith
none n true false = omega arith
none n false q = omega arith

pub counting_few : (k : Bool) (r : List ℕ) → counting_contexts k r ≤ suc (length r)
counting_few true r = omega arith
counting_few false r = omega arith

module _ (d : ℕ) (i : Sample) (a : ℕ) (r : List ℕ) where
  pub rising_if : (k : Bool) (rs : List (List ℕ)) → Rising rs → Rising (fed_if k d i a r rs)
  rising_if k rs up = rising_fed_to d i a r (counting_contexts k r) rs up

  pub wide_if : (k : Bool) (rs : List (List ℕ)) → Wide rs → Wide (fed_if k d i a r rs)
  wide_if k rs w = wide_fed_to d i a r (counting_contexts k r) rs w

  pub origin_if : (k : Bool) (x : ℕ) (rs : List (List ℕ)) → T (held x (fed_if k d i a r rs)) → Origin d r rs x
  unfolding fed_to
  origin_if true x rs h = origin d i a r x rs h
  origin_if false x rs h = before h

  module _ (cr : Within r) where
    pub length_if : (k : Bool) (rs : List (List ℕ)) → Rising rs → length (fed_if k d i a r rs) ≡ length rs + missing_if k d r rs
    unfolding fed_to sum
    length_if true rs up = length_fed d i a r cr rs up
    length_if false rs up = omega arith

    pub desk_length_if : (k : Bool) (rs : List (List ℕ)) → Rising rs → length (keep (of_desk d) (fed_if k d i a r rs)) ≡ length (keep (of_desk d) rs) + missing_if k d r rs
    unfolding fed_to sum
    desk_length_if true rs up = desk_length_fed d i a r cr rs up
    desk_length_if false rs up = omega arith

    pub other_if : (k : Bool) (e : ℕ) (rs : List (List ℕ)) → d ≢ e → keep (of_desk e) (fed_if k d i a r rs) ≡ keep (of_desk e) rs
    unfolding fed_to
    other_if true e rs ne = other_fed d i a r cr e rs ne
    other_if false e rs ne = refl

    module _ (e : ℕ) (c : List ℕ) (x : Within c) where
      pub held_if : (k : Bool) (rs : List (List ℕ)) → held (key_of e c) (fed_if k d i a r rs) ≡ ((eqb d e && (k && begins c r)) || held (key_of e c) rs)
      unfolding fed_to
      held_if true rs = held_fed d r cr e c x i a rs
      held_if false rs = no_more (eqb d e) (held (key_of e c) rs)

      pub count_if : (k : Bool) (j : Sample) (b : ℕ) (rs : List (List ℕ)) → a < most_symbols → Wide rs → Rising rs
          → count_at (key_of e c) j b (fed_if k d i a r rs) ≡ count_at (key_of e c) j b rs + one (eqb d e && (same_sample i j && (k && (begins c r && eqb a b))))
      unfolding fed_to
      count_if true j b rs l w up = count_fed d r cr e c x i a j b rs l w up
      count_if false j b rs l w up = none (count_at (key_of e c) j b rs) (eqb d e) (same_sample i j)
