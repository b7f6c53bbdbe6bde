-- Where a sample's numbers stand among its desk's. Assumes nothing.
use mathlib.Core.Path.{◌≡◌, refl}
use mathlib.Core.Logic.{◌≢◌}
use mathlib.Core.Bool.{true, false}
use mathlib.Core.List.{List}
use Prim.Native.Nat.{ℕ, zero, suc, ◌+◌, ◌*◌, ◌≤◌, ◌<◌}
use native.Mathlib.Omega.{arith}
use lib.ListN.{length}
use Rattle.numbers.specs.Limits.{desks}
use Rattle.contexts.specs.Sitting.{Sample, first, second, sample_of, same_sample}
use Rattle.store.specs.Layout.{header_size, desk_start, opening_numbers, size_field, recent_field}
use Rattle.changes.specs.Noted.{Places}

-- by the sample's number
pub size_number : (k : ℕ) → k ≤ 1 → opening_numbers + k ≡ size_field (sample_of k)
size_number zero l = refl
size_number (suc zero) l = refl
size_number (suc (suc k)) l = absurd (omega arith)

pub recent_number : (k : ℕ) → k ≤ 1 → opening_numbers + 2 + 6 * k ≡ recent_field (sample_of k)
recent_number zero l = refl
recent_number (suc zero) l = refl
recent_number (suc (suc k)) l = absurd (omega arith)

-- the places of a desk's sample
pub desk_places : (l : List ℕ) (d : ℕ) (i : Sample) → d < desks → header_size ≤ length l → Places (desk_start d + size_field i) (desk_start d + recent_field i) l
desk_places l d first h g = record { past_used = omega arith; in_order = omega arith; in_header = omega arith; long = g }
desk_places l d second h g = record { past_used = omega arith; in_order = omega arith; in_header = omega arith; long = g }

-- where a sample's length and its recent symbols stand among a desk's numbers
pub record Fields (i : Sample) : Type 0 where
  pub low : opening_numbers ≤ size_field i
  pub high : size_field i ≤ opening_numbers + 1
  pub slots : recent_field i + 5 * opening_numbers ≡ 6 * size_field i + 2

pub fields_of : (i : Sample) → Fields i
fields_of first = record { low = omega arith; high = omega arith; slots = omega arith }
fields_of second = record { low = omega arith; high = omega arith; slots = omega arith }

-- one sample, or both
pub data Kin (j i : Sample) : Type 0 where
  own : j ≡ i → same_sample j i ≡ true → Kin j i
  other : size_field j ≢ size_field i → same_sample j i ≡ false → Kin j i

pub kin : (j i : Sample) → Kin j i
kin first first = own refl refl
kin first second = other (λ e. omega arith) refl
kin second first = other (λ e. omega arith) refl
kin second second = own refl refl
