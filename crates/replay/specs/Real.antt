-- Calls of real functions on real stores, of any type. A function's contract says what one call may do, `Does`. Assumes nothing.
use Rattle.std.specs.Prelude.{◌≡◌, List, [], ◌∷◌}
use Rattle.replay.specs.Room.{Making, Room, new}
use Rattle.replay.specs.Table.{Outcome}
use Rattle.replay.specs.Machine.{Rules, Call, verdict, move}

module _ (R : Rules) (Store : Type 0) where
  -- what the contracts of the public functions say together: on a sound store a call answers and does what the room says
  pub record Contracts : Type 1 where
    pub Sound : Store → Type 0
    pub meaning : Store → Room R.State
    pub Does : Store → Call R → Outcome R.Answer → Store → Type 0
    pub stays : (σ τ : Store) (c : Call R) (o : Outcome R.Answer) → Sound σ → Does σ c o τ → Sound τ
    pub answers : (σ τ : Store) (c : Call R) (o : Outcome R.Answer) → Sound σ → Does σ c o τ → o ≡ verdict R (meaning σ) c
    pub leaves : (σ τ : Store) (c : Call R) (o : Outcome R.Answer) → Sound σ → Does σ c o τ → meaning τ ≡ move R (meaning σ) c

  module _ (𝓒 : Contracts) where
    -- a store on which a making was accepted
    pub record Made (K : Making) (σ : Store) : Type 0 where
      pub sound : 𝓒.Sound σ
      pub empty : 𝓒.meaning σ ≡ new K

    -- calls one after the other, what each answered, and the store at the end
    pub data RunsReal : Store → List (Call R) → List (Outcome R.Answer) → Store → Type 0 where
      stop : {σ : Store} → RunsReal σ [] [] σ
      then : {σ τ υ : Store} {c : Call R} {cs : List (Call R)} {o : Outcome R.Answer} {os : List (Outcome R.Answer)}
          → 𝓒.Does σ c o τ → RunsReal τ cs os υ → RunsReal σ (c ∷ cs) (o ∷ os) υ
