-- The contexts of a triple one by one, each with its kind, in the order of the report. Assumes nothing.
use Rattle.std.specs.Prelude.{ℕ, zero, suc, ◌<◌, ◌≡◌, Bool, cond, ◌⊎◌, T}
use mathlib.Core.List.{List, [], ◌∷◌, ◌++◌, map, Memᴰ}
use Rattle.contexts.specs.Context.{precedes}
use Rattle.contexts.specs.Sitting.{first, second}
use Rattle.estimate.specs.Trees.{Kind, shared, own, Triple, below}

pub record Member : Type 0 where
  pub kind : Kind
  pub context : List ℕ

abbrev pub member : Kind → List ℕ → Member
member k s = record { kind = k; context = s }

-- "kind (0 shared, 1 first's own, 2 second's own)"
abbrev pub number : Kind → ℕ
number shared = 0
number (own first) = 1
number (own second) = 2

-- "Order: contexts compared from the most recent symbol backwards, .. then kind."
abbrev pub Before : Member → Member → Type 0
Before p q = T (precedes p.context q.context) ⊎ ((p.context ≡ q.context) × (number p.kind < number q.kind))

-- each comes before all that follow it
abbrev pub Increasing : List Member → Type 0
Increasing [] = Unit {0}
Increasing (p ∷ ps) = ((q : Member) → Memᴰ q ps → Before p q) × Increasing ps

-- the same member, seen from the string without its most recent symbol a
abbrev pub prefixed : ℕ → Member → Member
prefixed a p = member p.kind (a ∷ p.context)

-- g 0, then g 1, and so on to g (n - 1)
unfoldable pub gather : ℕ → (ℕ → List Member) → List Member
gather zero g = []
gather (suc n) g = gather n g ++ g n

abbrev pub only_if : Bool → Member → List Member → List Member
only_if b p rest = cond b (p ∷ rest) rest

-- what a triple has at the empty string
abbrev pub here : Triple → List Member
here t = only_if (t shared []) (member shared []) (only_if (t (own first) []) (member (own first) []) (only_if (t (own second) []) (member (own second) []) []))

-- all members of a triple over A symbols, of at most d symbols each
unfoldable pub members : ℕ → ℕ → Triple → List Member
members A zero t = here t
members A (suc d) t = here t ++ gather A (λ a. map (prefixed a) (members A d (below a t)))
