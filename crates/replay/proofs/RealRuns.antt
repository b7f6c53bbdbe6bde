-- Demand 3 for real stores, from the contracts of their functions. Assumes nothing.
use Prim.Native.Nat.{ℕ}
use mathlib.Core.Path.{◌≡◌, refl, sym, ◌∙◌, ap, ap₂}
use mathlib.Core.List.{List, [], ◌∷◌}
use Rattle.replay.specs.Room.{Making, Opening, opened, new}
use Rattle.replay.specs.Table.{Outcome, answered}
use Rattle.replay.specs.Machine.{Rules, asking, Call, at_desk, verdict}
use Rattle.replay.specs.Serial.{outcomes, after, calls, answers, struck, sittings, serial}
use Rattle.replay.specs.Alone.{OpenAlone, AnsweredAlone}
use Rattle.replay.specs.Real.{Contracts, Made, RunsReal, stop, then}
use Rattle.replay.proofs.Replay.{replay}
use Rattle.replay.proofs.Reached.{open_alone, answered_alone}

module _ (R : Rules) (Store : Type 0) (𝓒 : Contracts R Store) where
  -- two results that the contracts allow for one call have the same answer and the same meaning
  pub settled : (σ τ τ' : Store) (c : Call R) (o o' : Outcome R.Answer) → 𝓒.Sound σ → 𝓒.Does σ c o τ → 𝓒.Does σ c o' τ'
      → (o ≡ o') × (𝓒.meaning τ ≡ 𝓒.meaning τ')
  settled σ τ τ' c o o' s d e =
      (𝓒.answers σ τ c o s d ∙ sym (𝓒.answers σ τ' c o' s e), 𝓒.leaves σ τ c o s d ∙ sym (𝓒.leaves σ τ' c o' s e))

  -- a store stays sound along a run
  pub runs_sound : {σ τ : Store} {cs : List (Call R)} {os : List (Outcome R.Answer)} → 𝓒.Sound σ → RunsReal R Store 𝓒 σ cs os τ → 𝓒.Sound τ
  runs_sound s stop = s
  runs_sound s (then d r) = runs_sound (𝓒.stays _ _ _ _ s d) r

  -- a run answers as the room does, and its store stands for the room that is left
  pub runs_answer : {σ τ : Store} {cs : List (Call R)} {os : List (Outcome R.Answer)} → 𝓒.Sound σ → RunsReal R Store 𝓒 σ cs os τ → os ≡ outcomes R (𝓒.meaning σ) cs
  unfolding outcomes
  runs_answer s stop = refl
  runs_answer s (then {cs = cs} d r) =
      ap₂ ◌∷◌ (𝓒.answers _ _ _ _ s d) (runs_answer (𝓒.stays _ _ _ _ s d) r ∙ ap (λ m. outcomes R m cs) (𝓒.leaves _ _ _ _ s d))

  pub runs_leave : {σ τ : Store} {cs : List (Call R)} {os : List (Outcome R.Answer)} → 𝓒.Sound σ → RunsReal R Store 𝓒 σ cs os τ → 𝓒.meaning τ ≡ after R (𝓒.meaning σ) cs
  unfolding after
  runs_leave s stop = refl
  runs_leave s (then {cs = cs} d r) = runs_leave (𝓒.stays _ _ _ _ s d) r ∙ ap (λ m. after R m cs) (𝓒.leaves _ _ _ _ s d)

  -- A run on a store that was made.
  module _ (K : Making) (σ τ : Store) (cs : List (Call R)) (os : List (Outcome R.Answer)) (made : Made R Store 𝓒 K σ) (run : RunsReal R Store 𝓒 σ cs os τ) where
    pub made_answers : os ≡ outcomes R (new K) cs
    made_answers = runs_answer made.sound run ∙ ap (λ m. outcomes R m cs) made.empty

    pub made_leaves : 𝓒.meaning τ ≡ after R (new K) cs
    made_leaves = runs_leave made.sound run ∙ ap (λ m. after R m cs) made.empty

    -- whatever the neighbours did, an open desk has the state to which its own sitting's calls have brought it
    pub real_open : (d : ℕ) (o : Opening) (s : R.State) → (𝓒.meaning τ).at d ≡ opened o s → OpenAlone R (sittings R [] (struck R cs os)) d o s
    real_open d o s e = rw made_answers (open_alone R K cs d o s (rw made_leaves at e))

    -- and the next ask that is accepted there is answered by that state
    pub real_answered : (υ : Store) (d : ℕ) (q : R.Ask) (a : R.Answer) → 𝓒.Does τ (at_desk d (asking q)) (answered a) υ
        → AnsweredAlone R (sittings R [] (struck R cs os)) d q a
    real_answered υ d q a does =
        let said = 𝓒.answers τ υ (at_desk d (asking q)) (answered a) (runs_sound made.sound run) does in
        rw made_answers (answered_alone R K cs d q a (rw made_leaves at (sym said)))

  -- DEMAND 3. Two stores newly made of one size, of any contents and lengths; any run on the one, and on the other its calls,
  -- the refused ones and the room questions struck out, one sitting after another.
  module _ (K : Making) (σ τ σ' τ' : Store) (cs : List (Call R)) (os os' : List (Outcome R.Answer))
      (made : Made R Store 𝓒 K σ) (run : RunsReal R Store 𝓒 σ cs os τ)
      (made' : Made R Store 𝓒 K σ') (again : RunsReal R Store 𝓒 σ' (calls R (serial R (struck R cs os))) os' τ') where
    -- nothing is refused, and every call answers as before
    pub real_answers : os' ≡ answers R (serial R (struck R cs os))
    real_answers = made_answers K σ' τ' _ os' made' again ∙ rw (made_answers K σ τ cs os made run) (replay R K cs).alike

    -- the two stores stand for the same open sittings and the same room
    pub real_room : 𝓒.meaning τ' ≡ 𝓒.meaning τ
    real_room = made_leaves K σ' τ' _ os' made' again ∙ rw (made_answers K σ τ cs os made run) (replay R K cs).same ∙ sym (made_leaves K σ τ cs os made run)

    -- so every further call answers alike on both
    pub real_next : (υ υ' : Store) (c : Call R) (o o' : Outcome R.Answer) → 𝓒.Does τ c o υ → 𝓒.Does τ' c o' υ' → o' ≡ o
    real_next υ υ' c o o' does does' =
        𝓒.answers τ' υ' c o' (runs_sound made'.sound again) does'
        ∙ ap (λ m. verdict R m c) real_room
        ∙ sym (𝓒.answers τ υ c o (runs_sound made.sound run) does)
