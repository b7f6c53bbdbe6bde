-- The other sample, and the kinds with first's own and second's own exchanged. Assumes nothing.
use Rattle.contexts.specs.Sitting.{Sample, first, second}
use Rattle.estimate.specs.Trees.{Kind, shared, own}

abbrev pub other : Sample → Sample
other first = second
other second = first

-- "kinds 1 and 2 exchanged"
abbrev pub swap : Kind → Kind
swap shared = shared
swap (own i) = own (other i)
