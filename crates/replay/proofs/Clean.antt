-- Lists of calls that are all accepted, and when one such list may stand for another. Assumes nothing.
use mathlib.Core.Path.{◌≡◌, refl, sym, ◌∙◌, ap, ap₂}
use mathlib.Core.Bool.{false}
use mathlib.Core.List.{List, [], ◌∷◌, ◌++◌}
use lib.Dec.{eqb}
use Rattle.replay.specs.Room.{Room}
use Rattle.replay.specs.Table.{answered}
use Rattle.replay.specs.Machine.{Rules, verdict, shift}
use Rattle.replay.specs.Serial.{opens, outcomes, after, Done, called, calls, answers}
use Rattle.replay.proofs.Refusals.{answered_shifts}
use Rattle.replay.proofs.Swap.{swap_first, swap_second, swap_room}

module _ (R : Rules) where
  -- the calls are accepted one after the other, with these answers
  abbrev pub Clean : Room R.State → List (Done R) → Type 0
  Clean ρ [] = Unit {0}
  Clean ρ (x ∷ xs) = (verdict R ρ (called R x) ≡ answered x.answer) × Clean (shift R ρ (called R x)) xs

  abbrev pub shifts : Room R.State → List (Done R) → Room R.State
  shifts ρ [] = ρ
  shifts ρ (x ∷ xs) = shifts (shift R ρ (called R x)) xs

  -- a clean list is a run in which nothing is refused
  pub clean_outcomes : (ρ : Room R.State) (xs : List (Done R)) → Clean ρ xs → outcomes R ρ (calls R xs) ≡ answers R xs
  unfolding outcomes calls answers
  clean_outcomes ρ [] c = refl
  clean_outcomes ρ (x ∷ xs) c =
      ap₂ ◌∷◌ c.0 (ap (λ r. outcomes R r (calls R xs)) (answered_shifts R ρ (called R x) x.answer c.0) ∙ clean_outcomes (shift R ρ (called R x)) xs c.1)

  pub clean_after : (ρ : Room R.State) (xs : List (Done R)) → Clean ρ xs → after R ρ (calls R xs) ≡ shifts ρ xs
  unfolding after calls
  clean_after ρ [] c = refl
  clean_after ρ (x ∷ xs) c =
      ap (λ r. after R r (calls R xs)) (answered_shifts R ρ (called R x) x.answer c.0) ∙ clean_after (shift R ρ (called R x)) xs c.1

  clean_split : (ρ : Room R.State) (xs ys : List (Done R)) → Clean ρ (xs ++ ys) → Clean ρ xs × Clean (shifts ρ xs) ys
  clean_split ρ [] ys c = (tt, c)
  clean_split ρ (x ∷ xs) ys c = let p = clean_split (shift R ρ (called R x)) xs ys c.1 in ((c.0, p.0), p.1)

  pub clean_join : (ρ : Room R.State) (xs ys : List (Done R)) → Clean ρ xs → Clean (shifts ρ xs) ys → Clean ρ (xs ++ ys)
  clean_join ρ [] ys c d = d
  clean_join ρ (x ∷ xs) ys c d = (c.0, clean_join (shift R ρ (called R x)) xs ys c.1 d)

  pub shifts_append : (ρ : Room R.State) (xs ys : List (Done R)) → shifts ρ (xs ++ ys) ≡ shifts (shifts ρ xs) ys
  shifts_append ρ [] ys = refl
  shifts_append ρ (x ∷ xs) ys = shifts_append (shift R ρ (called R x)) xs ys

  -- wherever xs is clean, so is ys, and it leaves the same room (a record, so that antt finds its two lists by itself)
  pub record Goes (xs ys : List (Done R)) : Type 0 where
    pub on : (ρ : Room R.State) → Clean ρ xs → Clean ρ ys × (shifts ρ ys ≡ shifts ρ xs)

  pub goes_refl : (xs : List (Done R)) → Goes xs xs
  goes_refl xs = record { on = λ ρ c. (c, refl) }

  pub goes_trans : {xs ys zs : List (Done R)} → Goes xs ys → Goes ys zs → Goes xs zs
  goes_trans f g = record { on = λ ρ c. let p = f.on ρ c in let q = g.on ρ p.0 in (q.0, q.1 ∙ p.1) }

  pub goes_cons : (w : Done R) {xs ys : List (Done R)} → Goes xs ys → Goes (w ∷ xs) (w ∷ ys)
  goes_cons w f = record { on = λ ρ c. let p = f.on (shift R ρ (called R w)) c.1 in ((c.0, p.0), p.1) }

  pub goes_left : (ws : List (Done R)) {xs ys : List (Done R)} → Goes xs ys → Goes (ws ++ xs) (ws ++ ys)
  goes_left [] f = f
  goes_left (w ∷ ws) f = goes_cons w (goes_left ws f)

  pub goes_right : (ws : List (Done R)) {xs ys : List (Done R)} → Goes xs ys → Goes (xs ++ ws) (ys ++ ws)
  goes_right ws {xs} {ys} f = record {
    on = λ ρ c.
        let s = clean_split ρ xs ws c in
        let p = f.on ρ s.0 in
        (clean_join ρ ys ws p.0 (rw p.1 s.1), shifts_append ρ ys ws ∙ ap (λ r. shifts r ws) p.1 ∙ sym (shifts_append ρ xs ws));
  }

  -- a call that is no opening goes before a call at another desk
  pub goes_swap : (x y : Done R) (zs : List (Done R)) → eqb x.desk y.desk ≡ false → opens R y.act ≡ false → Goes (x ∷ y ∷ zs) (y ∷ x ∷ zs)
  goes_swap x y zs apart n = record {
    on = λ ρ c.
        let room = swap_room R ρ x.desk y.desk x.act y.act x.answer y.answer apart n c.0 c.1.0 in (
          (
            swap_first R ρ x.desk y.desk x.act y.act x.answer y.answer apart n c.0 c.1.0,
            (
              swap_second R ρ x.desk y.desk x.act y.act x.answer y.answer apart n c.0 c.1.0,
              rw room c.1.1,
            ),
          ),
          ap (λ r. shifts r zs) room,
        );
  }
