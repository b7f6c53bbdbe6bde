-- The serial order loses no call and doubles none, and moves no two calls of one desk past each other. Assumes nothing.
use Prim.Native.Nat.{ℕ}
use mathlib.Core.Path.{◌≡◌, refl, sym, ◌∙◌, ap}
use mathlib.Core.Bool.{Bool, true, false, cond}
use mathlib.Core.List.Perm
use mathlib.Core.List.{List, [], ◌∷◌, ◌++◌, map, append-nil, append_assoc, Perm, perm_append_singleton}
use lib.Dec.{eqb}
use borrow.Author.Tests.{eqb-true}
use Rattle.replay.specs.Machine.{Rules}
use Rattle.replay.specs.Serial.{opens, Done, Told, Course, done_at, played, begun, grown, joined, entered, sittings, oldest_first, serial, those, calls_at, openings}
use Rattle.replay.proofs.Replay.{played_grown}

-- ---- nothing is lost or doubled

module _ (R : Rules) where
  joined_same : (x : Done R) (gs : List (Course R)) → Perm (oldest_first R (joined R x gs)) (oldest_first R gs ++ x ∷ [])
  unfolding oldest_first joined played
  joined_same x [] = Perm.refl _
  joined_same x (g ∷ gs) = go (eqb g.desk x.desk) refl (joined_same x gs)
    where
      go : (b : Bool) → eqb g.desk x.desk ≡ b → Perm (oldest_first R (joined R x gs)) (oldest_first R gs ++ x ∷ [])
          → Perm (oldest_first R (cond b (grown R g x ∷ gs) (g ∷ joined R x gs))) (oldest_first R gs ++ played R g ++ x ∷ [])
      go true p h = rw (played_grown R g x (eqb-true g.desk x.desk p), append_assoc) (Perm.refl _)
      go false p h =
          rw append_assoc
          (Perm.trans (Perm.append_right (played R g) h)
          (rw append_assoc (Perm.append_left (oldest_first R gs) (Perm.symm (perm_append_singleton x (played R g))))))

  entered_same : (x : Done R) (gs : List (Course R)) → Perm (oldest_first R (entered R x gs)) (oldest_first R gs ++ x ∷ [])
  unfolding entered oldest_first played
  entered_same x gs = go (opens R x.act)
    where
      go : (b : Bool) → Perm (oldest_first R (cond b (begun R x ∷ gs) (joined R x gs))) (oldest_first R gs ++ x ∷ [])
      go true = Perm.refl _
      go false = joined_same x gs

  sittings_same : (xs : List (Done R)) (gs : List (Course R)) → Perm (oldest_first R (sittings R gs xs)) (oldest_first R gs ++ xs)
  unfolding sittings
  sittings_same [] gs = rw append-nil (Perm.refl _)
  sittings_same (x ∷ xs) gs =
      Perm.trans (sittings_same xs (entered R x gs))
      (rw (← (append_assoc (oldest_first R gs) (x ∷ []) xs)) (Perm.append_right xs (entered_same x gs)))

  -- the serial order has the same calls, each as often as before
  pub nothing_lost_holds : (xs : List (Done R)) → Perm (serial R xs) xs
  unfolding serial oldest_first
  nothing_lost_holds xs = sittings_same xs []

-- ---- the order that is kept

-- Calls that pass a test keep their order, if a call that is no opening may go before the calls of a sitting at another desk.
module _ (R : Rules) (p : Done R → Bool)
    (either : (x : Done R) (g : Course R) → opens R x.act ≡ false → eqb g.desk x.desk ≡ false
    → those R p (x ∷ []) ++ those R p (played R g) ≡ those R p (played R g) ++ those R p (x ∷ [])) where
  those_append : (xs ys : List (Done R)) → those R p (xs ++ ys) ≡ those R p xs ++ those R p ys
  unfolding those
  those_append [] ys = refl
  those_append (x ∷ xs) ys = go (p x) (those_append xs ys)
    where
      go : (b : Bool) → those R p (xs ++ ys) ≡ those R p xs ++ those R p ys
          → cond b (x ∷ those R p (xs ++ ys)) (those R p (xs ++ ys)) ≡ cond b (x ∷ those R p xs) (those R p xs) ++ those R p ys
      go true h = ap (x ∷◌) h
      go false h = h

  joined_order : (x : Done R) → opens R x.act ≡ false → (gs : List (Course R)) → those R p (oldest_first R (joined R x gs)) ≡ those R p (oldest_first R gs ++ x ∷ [])
  unfolding oldest_first joined played
  joined_order x n [] = refl
  joined_order x n (g ∷ gs) = go (eqb g.desk x.desk) refl (joined_order x n gs)
    where
      go : (b : Bool) → eqb g.desk x.desk ≡ b → those R p (oldest_first R (joined R x gs)) ≡ those R p (oldest_first R gs ++ x ∷ [])
          → those R p (oldest_first R (cond b (grown R g x ∷ gs) (g ∷ joined R x gs))) ≡ those R p (oldest_first R gs ++ played R g ++ x ∷ [])
      go true e h = rw (played_grown R g x (eqb-true g.desk x.desk e), append_assoc)
      go false e h = simp (those_append, h, append_assoc, either x g n e)

  entered_order : (x : Done R) (gs : List (Course R)) → those R p (oldest_first R (entered R x gs)) ≡ those R p (oldest_first R gs ++ x ∷ [])
  unfolding entered oldest_first played
  entered_order x gs = go (opens R x.act) refl
    where
      go : (b : Bool) → opens R x.act ≡ b → those R p (oldest_first R (cond b (begun R x ∷ gs) (joined R x gs))) ≡ those R p (oldest_first R gs ++ x ∷ [])
      go true e = refl
      go false e = joined_order x e gs

  sittings_order : (xs : List (Done R)) (gs : List (Course R)) → those R p (oldest_first R (sittings R gs xs)) ≡ those R p (oldest_first R gs ++ xs)
  unfolding sittings
  sittings_order [] gs = rw append-nil
  sittings_order (x ∷ xs) gs = sittings_order xs (entered R x gs)
      ∙ simp (those_append, entered_order x gs, append_assoc) (ap (those R p (oldest_first R gs) ++◌) (sym (those_append (x ∷ []) xs)))

  serial_order : (xs : List (Done R)) → those R p (serial R xs) ≡ those R p xs
  unfolding serial oldest_first
  serial_order xs = sittings_order xs []

module _ (R : Rules) where
  -- a sitting at another desk has no call here
  none_here : (d e : ℕ) → eqb e d ≡ false → (ts : List (Told R)) → calls_at R d (map (done_at R e) ts) ≡ []
  unfolding those
  none_here d e h [] = refl
  none_here d e h (t ∷ ts) = rw h (none_here d e h ts)

  -- each desk has the same calls in the same order
  pub order_kept : (d : ℕ) (xs : List (Done R)) → calls_at R d (serial R xs) ≡ calls_at R d xs
  unfolding played those
  order_kept d = serial_order R (λ x. eqb x.desk d) (λ x g n apart. go x g apart (eqb x.desk d) refl)
    where
      go : (x : Done R) (g : Course R) → eqb g.desk x.desk ≡ false → (b : Bool) → eqb x.desk d ≡ b
          → cond b (x ∷ []) [] ++ calls_at R d (map (done_at R g.desk) g.told) ≡ calls_at R d (map (done_at R g.desk) g.told) ++ cond b (x ∷ []) []
      go x g apart true e =
          let away : eqb g.desk d ≡ false = rw (← (eqb-true x.desk d e)) apart in
          rw (none_here d g.desk away g.told)
      go x g apart false e = sym (append-nil _)

  -- the openings stand in their order: one sitting after another in order of opening
  pub openings_kept : (xs : List (Done R)) → openings R (serial R xs) ≡ openings R xs
  unfolding those
  openings_kept = serial_order R (λ x. opens R x.act) (λ x g n apart. rw n (sym (append-nil _)))
