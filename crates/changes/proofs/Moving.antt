-- What a store stands for after a feed is what the room's machine makes of it. Assumes nothing.
use mathlib.Core.Path.{◌≡◌, refl, sym, ap, ap₂, ◌∙◌, subst, fun_ext}
use mathlib.Core.Logic.{◌≢◌}
use mathlib.Core.Bool.{Bool, true, false, cond, ◌&&◌}
use mathlib.Core.List.{List, ◌∷◌}
use Prim.Native.Nat.{ℕ, min, ◌+◌, ◌≤◌, ◌<◌}
use native.Mathlib.Omega.{arith}
use borrow.Author.Tests.{eq-eqb, ne_eqb}
use lib.Dec.{eqb}
use lib.ListN.{length, take}
use Rattle.numbers.specs.Limits.{desks}
use Rattle.numbers.specs.Sum.{one}
use Rattle.numbers.proofs.Tests.{T?, is_true, is_false}
use Rattle.numbers.proofs.Orders.{less, same, more, order}
use Rattle.contexts.specs.Context.{is_context, begins}
use Rattle.contexts.specs.Sitting.{Sample, sample_of, same_sample, Progress}
use Rattle.contexts.proofs.Strings.{begins→take}
use Rattle.contexts.proofs.Followed.{context_take}
use Rattle.records.specs.Held.{keep, of_desk}
use Rattle.records.specs.Records.{count_of}
use Rattle.replay.specs.Room.{Desk, opened, Room}
use Rattle.replay.specs.Machine.{asking, at_desk, put, moved, shift}
use Rattle.store.specs.Layout.{symbols_at, depth_at, size_at, slots_at, records_in}
use Rattle.store.specs.Plain.{ContextAt, record_for}
use Rattle.store.specs.Meaning.{opening_at, progress_at, desk_at, meaning}
use Rattle.store.proofs.Standing.{sound_stands}
use Rattle.store.proofs.Fitting.{desk_opened, desk_closed}
use Rattle.store.proofs.Local.{desk_stays}
use Rattle.store.proofs.Passing.{header_long}
use Rattle.rules.specs.Feed as rule
use Rattle.rules.specs.Rules.{feed, next_of, rules}
use Rattle.changes.specs.FedStore.{FedStore, Acceptable, recent_at, is_counted, shifted}
use Rattle.changes.proofs.Recent.{recent_context, recent_within, within, recent_shifted}
use Rattle.changes.proofs.Whether.{other_if}
use Rattle.changes.proofs.Counted.{same_sym}
use Rattle.changes.proofs.Header.{same?, open_after, context_same}
use Rattle.changes.proofs.Tallied.{count_after}

module _ (s t : List ℕ) (d : ℕ) (i : Sample) (a : ℕ) (f : FedStore s t d i a) (p : Acceptable s d i a) where
  -- ---- the desk that was fed

  opening_same : opening_at t d ≡ opening_at s d
  opening_same =
      let A = f.limits_same 1 (omega arith) in
      let D = f.limits_same 2 (omega arith) in
      let w = f.limits_same 3 (omega arith) in
      let r = f.limits_same 4 (omega arith) in
      λ j. record { symbols = A j; depth = D j; weight = w j; reserve = r j }

  abbrev next : Progress
  next = rule.after_feed (opening_at s d) i a (progress_at s d)

  size_next : (j : Sample) → (progress_at t d).size j ≡ next.size j
  unfolding rule.after_feed
  size_next j = f.sizes j

  recent_next : (j : Sample) → (progress_at t d).recent j ≡ next.recent j
  unfolding rule.after_feed
  recent_next j =
      rw (f.sizes j, f.limits_same 2 (omega arith), f.slots j) (go (same_sample j i))
    where
      go : (b : Bool) → take (min (size_at s d j + one b) (depth_at s d)) (cond b (shifted a (slots_at s d j)) (slots_at s d j))
          ≡ cond b (take (depth_at s d) (a ∷ recent_at s d j)) (recent_at s d j)
      go true = recent_shifted (size_at s d j) (depth_at s d) a (slots_at s d j) ((sound_stands s p.sound).depth d p.at_open)
      go false = let e : size_at s d j + 0 ≡ size_at s d j = omega arith in rw e

  -- what begins the recent symbols is a context
  not_begun : (c : List ℕ) → (ContextAt s d c → ⊥) → begins c (recent_at s d i) ≡ false
  not_begun c n = is_false (begins c (recent_at s d i)) (λ b. n (subst (ContextAt s d) (begins→take c (recent_at s d i) b)
      (context_take (symbols_at s d) (depth_at s d) (length c) (recent_at s d i) (recent_context s p.sound d p.at_open i))))

  count_next : (j : Sample) (c : List ℕ) (b : ℕ) → (progress_at t d).count j c b ≡ next.count j c b
  unfolding rule.after_feed
  count_next j c b =
      rw (context_same s t d i a f d p.at_open.desk c) (go (T? (is_context (symbols_at s d) (depth_at s d) c)))
    where
      none : (q k : Bool) → one (q && (k && (false && eqb a b))) ≡ 0
      none true true = refl
      none true false = refl
      none false k = refl

      go : Dec (ContextAt s d c) → cond (is_context (symbols_at s d) (depth_at s d) c) (count_of j (record_for t d c) b) 0
          ≡ cond (is_context (symbols_at s d) (depth_at s d) c) (count_of j (record_for s d c) b) 0 + one (same_sample j i && (is_counted s d i && (begins c (recent_at s d i) && eqb a b)))
      go (yes x) =
          let g = count_after s t d i a f p d c (within s p.sound d p.at_open c x) j b in
          rw (is_true (is_context (symbols_at s d) (depth_at s d) c) x, g, eq-eqb d d refl, same_sym i j)
      go (no n) = rw (is_false (is_context (symbols_at s d) (depth_at s d) c) n, not_begun c n) (let z = none (same_sample j i) (is_counted s d i) in omega arith)

  progress_next : progress_at t d ≡ next
  progress_next =
      let x : (progress_at t d).size ≡ next.size = fun_ext size_next in
      let y : (progress_at t d).recent ≡ next.recent = fun_ext recent_next in
      let z : (progress_at t d).count ≡ next.count = fun_ext (λ j. fun_ext (λ c. fun_ext (λ b. count_next j c b))) in
      λ j. record { size = x j; recent = y j; count = z j }

  -- ---- the other desks

  other_stays : (e : ℕ) → e < desks → e ≢ d → desk_at t e ≡ desk_at s e
  other_stays e l q =
      sym (desk_stays s t e p.sound (record {
        long_before = header_long s p.sound;
        long_after = omega (arith, header_long s p.sound, f.length_same);
        fields = λ n m. sym (f.others_same e n l q m);
        kept = sym (other_if d i a (recent_at s d i) (recent_within s p.sound d p.at_open i) (is_counted s d i) e (records_in s) (λ z. q (sym z)))
            ∙ ap (keep (of_desk e)) (sym f.records_fed_holds);
      }))

  elsewhere : (e : ℕ) → e ≢ d → desk_at t e ≡ desk_at s e
  elsewhere e q = elim (order e desks) [
    | less l ↦ other_stays e l q
    | same z ↦ none (omega arith)
    | more l ↦ none (omega arith)
  ]
    where
      none : desks ≤ e → desk_at t e ≡ desk_at s e
      none l = desk_closed t e (λ o. omega (arith, o.desk)) ∙ sym (desk_closed s e (λ o. omega (arith, o.desk)))

  -- THEOREM. The meaning after an accepted feed is that before it with the one desk moved as document 01 says
  pub fed_meaning : (k : ℕ) → sample_of k ≡ i → meaning t ≡ shift rules (meaning s) (at_desk d (asking (feed k a)))
  unfolding meaning shift put moved next_of
  fed_meaning k q = made f.room_same (fun_ext each)
    where
      made : {K L : ℕ} {x y : ℕ → Desk Progress} → K ≡ L → x ≡ y → ◌≡◌ {A = Room Progress} (record { made = K; at = x }) (record { made = L; at = y })
      made u v = λ j. record { made = u j; at = v j }

      each : (e : ℕ) → desk_at t e ≡ cond (eqb e d) (moved rules (desk_at s d) (asking (feed k a))) (desk_at s e)
      each e = go (same? e d)
        where
          go : Dec (e ≡ d) → desk_at t e ≡ cond (eqb e d) (moved rules (desk_at s d) (asking (feed k a))) (desk_at s e)
          go (yes z) = rw (z, eq-eqb d d refl, desk_opened s d p.at_open, desk_opened t d (open_after s t d i a f d p.at_open), q) (ap₂ opened opening_same progress_next)
          go (no n) = rw (ne_eqb e d n) (elsewhere e n)
