-- The kinds of the code are those of the triple. Assumes nothing.
use Rattle.contexts.specs.Sitting.{first, second}
use Rattle.estimate.specs.Trees.{shared, own}
use Rattle.estimate.specs.Trees.{Kind as TripleKind}
use Rattle.rows.specs.declared.Kind.{Kind}
use Rattle.rows.specs.declared.Kind.TheVariants.{Shared, First, Second}

-- the kind of a triple's contexts that a kind of rows tells of
abbrev pub kind_told : Kind → TripleKind
kind_told Shared = shared
kind_told First = own first
kind_told Second = own second
