-- "Score every tree over the same acts" (document 02, E3): the contexts of every complete tree within D together count each symbol as often as it
-- stands at the places from D+1 on of a sample. Assumes nothing.
use Rattle.std.specs.Prelude.{ℕ, ◌-◌, ◌≡◌, cond, ◌&&◌, List, reverse, length, get_or, T, eqb, ltb}
use Rattle.contexts.specs.Context.{is_context}
use Rattle.contexts.specs.Counts.{places}
use Rattle.contexts.specs.Strings.{total}
use Rattle.contexts.specs.Sitting.{Sample, Sitting}
use Rattle.estimate.specs.Trees.{Contexts, Complete}
use Rattle.replay.specs.Room.{Opening}
use Rattle.rules.specs.Strings.{sitting_for}

-- how often the symbol a stands at the places from D+1 on of the sample w, oldest symbol first
abbrev pub acts_from : ℕ → List ℕ → ℕ → ℕ
acts_from D w a = places (λ i. ltb D i && eqb (get_or w (i - 1) 0) a) (length w)

-- how often the contexts of a tree t count a in a sample, all together
abbrev pub counts_over : Sitting → Sample → Contexts → ℕ → ℕ
counts_over x i t a = total x.symbols x.depth (λ s. cond (t s) (x.count i s a) 0)

-- w are the samples of a sitting opened with o, most recent symbol first
abbrev pub SameActs : Type 0
SameActs =
    (o : Opening) (w : Sample → List ℕ) (i : Sample) (t : Contexts) (a : ℕ) → T (is_context o.symbols (length (w i)) (w i)) → Complete o.symbols o.depth t
    → counts_over (sitting_for o w) i t a ≡ acts_from o.depth (reverse (w i)) a
