-- What the length and the code of a chart question name at a desk. Assumes nothing.
use Rattle.std.specs.Prelude.{ℕ, cond, Option, Some, None}
use Rattle.contexts.specs.Context.{decoded}
use Rattle.contexts.specs.Keys.{key_of}
use Rattle.rules.specs.Question.{is_code}

-- the key of the context, or none: "its code not a string of that length over the alphabet" of A symbols
unfoldable pub named : ℕ → ℕ → ℕ → ℕ → Option ℕ
named A d len code = cond (is_code A len code) (Some (key_of d (decoded len code))) None
