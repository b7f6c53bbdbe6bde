-- An open desk has the state to which its own sitting's calls have brought it, and answers an ask by that. Assumes nothing.
use Prim.Native.Nat.{ℕ}
use native.Mathlib.Omega.{arith}
use mathlib.Core.Path.{◌≡◌, refl, sym, ◌∙◌, ap}
use mathlib.Core.Bool.{Bool, true, false, cond}
use mathlib.Core.List.{List, [], ◌∷◌, ◌++◌, foldl, foldl-append}
use mathlib.Core.Option.{Option, none, some}
use lib.Dec.{leb}
use borrow.Author.Tests.{leb-true}
use Rattle.numbers.specs.Limits.{desks}
use Rattle.replay.specs.Room.{Making, Opening, Desk, closed, opened, new}
use Rattle.replay.specs.Table.{refused, answered, verdict_of, NoneApplies}
use Rattle.replay.specs.Machine.{Rules, spare, Act, opening, asking, closing, Call, at_desk, own_lines, asking_table, table_at, table_of, answer_at, answer_of, verdict}
use Rattle.replay.specs.Serial.{outcomes, after, struck, Told, Course, sittings}
use Rattle.replay.specs.Alone.{Alone, opens_alone, goes_on, latest, Stands, asks, reached, OpenAlone, AnsweredAlone}
use Rattle.replay.proofs.Swap.{heard}
use Rattle.replay.proofs.Reservations.{only_eight}
use Rattle.replay.proofs.Own.{alone}

module _ (R : Rules) where
  pub asks_append : (ts us : List (Told R)) → asks R (ts ++ us) ≡ asks R ts ++ asks R us
  unfolding asks
  asks_append [] us = refl
  asks_append (t ∷ ts) us = go t.act (asks_append ts us)
    where
      go : (a : Act R) → asks R (ts ++ us) ≡ asks R ts ++ asks R us
          → asks R (record { act = a; answer = t.answer } ∷ (ts ++ us)) ≡ asks R (record { act = a; answer = t.answer } ∷ ts) ++ asks R us
      go (opening o) h = h
      go (asking q) h = ap (q ∷◌) h
      go closing h = h

  -- an open sitting is what its own asks have made of a new one
  pub alone_reached : {ts : List (Told R)} {o : Opening} {s : R.State} → Alone R ts (opened o s) → s ≡ reached R o (asks R ts)
  unfolding reached asks
  alone_reached (opens_alone o) = refl
  alone_reached (goes_on {ts = ts} {o = o} a q h) =
      ap (λ s. R.next o s q) (alone_reached a)
      ∙ sym (ap (foldl (R.next o) (R.fresh o)) (asks_append ts _) ∙ foldl-append (R.next o) (R.fresh o) (asks R ts) (q ∷ []))

  -- an open sitting began with its opening
  pub alone_begun : {ts : List (Told R)} {o : Opening} {s : R.State} → Alone R ts (opened o s)
      → (later : List (Told R)) × (ts ≡ record { act = opening o; answer = R.done } ∷ later)
  alone_begun (opens_alone o) = ([], refl)
  alone_begun (goes_on {o = o} {s = s} a q h) =
      let last : List (Told R) = record { act = asking q; answer = R.answer o s q } ∷ [] in
      let b = alone_begun a in
      (b.0 ++ last, ap (λ (ts : List (Told R)). ts ++ last) b.1)

  open_stands : (gs : List (Course R)) (d : ℕ) (o : Opening) (s : R.State) (g : Option (Course R)) → latest R d gs ≡ g → Stands R (opened o s) g → OpenAlone R gs d o s
  open_stands gs d o s none l h = let z : ◌≡◌ {A = ℕ} 0 1 = cc in absurd (omega arith)
  open_stands gs d o s (some g) l h = record { sitting = g; there = l; alone = h; state = alone_reached h }

  module _ (K : Making) (cs : List (Call R)) where
    -- After any run, an open desk has the state to which its latest sitting's own calls have brought it.
    pub open_alone : (d : ℕ) (o : Opening) (s : R.State) → (after R (new K) cs).at d ≡ opened o s
        → OpenAlone R (sittings R [] (struck R cs (outcomes R (new K) cs))) d o s
    open_alone d o s e =
        let gs : List (Course R) = sittings R [] (struck R cs (outcomes R (new K) cs)) in
        open_stands gs d o s (latest R d gs) refl (rw e at ((alone R K cs).desks d))

    -- Whatever the neighbours do, an ask is answered by the sitting as its own calls have made it.
    pub answered_alone : (d : ℕ) (q : R.Ask) (a : R.Answer) → verdict R (after R (new K) cs) (at_desk d (asking q)) ≡ answered a
        → AnsweredAlone R (sittings R [] (struck R cs (outcomes R (new K) cs))) d q a
    unfolding table_at asking_table own_lines answer_at
    answered_alone d q a e = go ((after R (new K) cs).at d) refl (heard R (after R (new K) cs) d (asking q) a e)
      where
        go : (D : Desk R.State) → (after R (new K) cs).at d ≡ D
            → NoneApplies (table_at R (spare (after R (new K) cs)) d D (asking q)) × (answer_at R D (asking q) ≡ a)
            → AnsweredAlone R (sittings R [] (struck R cs (outcomes R (new K) cs))) d q a
        go closed p h = let z : ◌≡◌ {A = ℕ} 0 1 = cc h.0.1.0 in absurd (omega arith)
        go (opened o s) p h = record { named = o; state = s; own = open_alone d o s p; accepted = h.0.1.1; answer = h.1 }

    -- And so is every ask at an open desk judged, refused or not.
    pub judged_alone : (d : ℕ) (q : R.Ask) (o : Opening) (s : R.State) → (after R (new K) cs).at d ≡ opened o s
        → verdict R (after R (new K) cs) (at_desk d (asking q)) ≡ verdict_of (R.lines o s q) (R.answer o s q)
    unfolding verdict verdict_of table_of table_at asking_table own_lines answer_of answer_at
    judged_alone d q o s e = rw e (go (leb desks d) refl)
      where
        go : (b : Bool) → leb desks d ≡ b → cond b (refused 2) (verdict_of (R.lines o s q) (R.answer o s q)) ≡ verdict_of (R.lines o s q) (R.answer o s q)
        go true far = let none = only_eight R K cs d (leb-true desks d far) in let z : ◌≡◌ {A = ℕ} 0 1 = cc in absurd (omega arith)
        go false near = refl
