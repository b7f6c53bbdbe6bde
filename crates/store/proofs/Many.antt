-- Laws of tests of the two samples. Assumes nothing.
use mathlib.Core.Path.{◌≡◌, ap₂}
use mathlib.Core.Bool.{Bool, ◌&&◌}
use lib.Dec.{T}
use Rattle.numbers.proofs.Tests.{both, left, right}
use Rattle.contexts.specs.Sitting.{Sample, first, second}
use Rattle.store.specs.Sound.{each_sample}

pub sample_at : (f : Sample → Bool) → T (each_sample f) → (i : Sample) → T (f i)
sample_at f t first = left (f first) (f second) t
sample_at f t second = right (f first) (f second) t

pub sample_of_lem : (f : Sample → Bool) → ((i : Sample) → T (f i)) → T (each_sample f)
sample_of_lem f h = both (f first) (f second) (h first) (h second)

pub sample_cong : {f g : Sample → Bool} → ((i : Sample) → f i ≡ g i) → each_sample f ≡ each_sample g
sample_cong h = ap₂ ◌&&◌ (h first) (h second)
