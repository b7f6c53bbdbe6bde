-- Whose a key is that is held before or after a feed: a context's of an open desk. Assumes nothing.
use mathlib.Core.Path.{◌≡◌, sym, ap, ◌∙◌}
use mathlib.Core.Bool.{true}
use mathlib.Core.List.{List}
use Prim.Native.Nat.{ℕ}
use native.Mathlib.Omega.{arith}
use lib.Dec.{T}
use lib.ListN.{take}
use Rattle.contexts.specs.Keys.{key_of, desk_of}
use Rattle.contexts.specs.Sitting.{Sample}
use Rattle.contexts.proofs.KeyOrder.{desk_of_key}
use Rattle.contexts.proofs.Followed.{context_take}
use Rattle.records.specs.Held.{held}
use Rattle.records.proofs.Finding.{held_place}
use Rattle.recording.proofs.Growing.{before, followed}
use Rattle.store.specs.Layout.{symbols_at, depth_at, records_in}
use Rattle.store.specs.Sound.{soundb}
use Rattle.store.specs.Plain.{Open, ContextAt}
use Rattle.store.proofs.Parts.{records_length}
use Rattle.store.proofs.Standing.{sound_stands}
use Rattle.changes.specs.FedStore.{recent_at, is_counted, records_fed}
use Rattle.changes.proofs.Recent.{recent_context, within}
use Rattle.changes.proofs.Whether.{origin_if}

pub record Owned (s : List ℕ) (k : ℕ) : Type 0 where
  pub desk : ℕ
  pub context : List ℕ
  pub at_open : Open s desk
  pub is_context_holds : ContextAt s desk context
  pub under_key : k ≡ key_of desk context

module _ (s : List ℕ) (h : soundb s ≡ true) where
  pub owned : (k : ℕ) → T (held k (records_in s)) → Owned s k
  owned k t =
      let p = held_place k (records_in s) t in
      let c = (sound_stands s h).each_counts p.place (omega (arith, p.inside, records_length s)) in
      record { desk = c.desk; context = c.context; at_open = c.at_open; is_context_holds = c.is_context_holds; under_key = sym p.has ∙ c.under_key }

  pub owned_desk : (k : ℕ) (w : Owned s k) → desk_of k ≡ w.desk
  owned_desk k w = ap desk_of w.under_key ∙ desk_of_key w.desk w.context (within s h w.desk w.at_open w.context w.is_context_holds)

  pub owned_fed : (d : ℕ) → Open s d → (i : Sample) (a k : ℕ) → T (held k (records_fed s d i a)) → Owned s k
  owned_fed d o i a k t = elim (origin_if d i a (recent_at s d i) (is_counted s d i) k (records_in s) t) [
    | before b ↦ owned k b
    | followed l m e ↦
        let x : ContextAt s d (take l (recent_at s d i)) = context_take (symbols_at s d) (depth_at s d) l (recent_at s d i) (recent_context s h d o i) in
        record { desk = d; context = take l (recent_at s d i); at_open = o; is_context_holds = x; under_key = e }
  ]
