-- A salvage from C: its promise from the call's own, what 0 means, that what was saved reads back, and that a sound file comes out the same. Assumes nothing.
use Prim.Native.Nat.{ℕ, ◌≤◌}
use native.Mathlib.Omega.{arith}
use mathlib.Core.Path.{◌≡◌, sym, ap, subst, ◌∙◌}
use mathlib.Core.Logic.{inl, inr}
use mathlib.Core.List.{List, [], ◌∷◌, ◌++◌}
use lib.ListN.{length, take, drop}
use lib.Seq.{length-take-le}
use Rattle.replay.specs.Table.{Outcome, refused, answered}
use Rattle.sitting_file.specs.Format.{read_of}
use Rattle.sitting_file.specs.Verdict.{Bytes}
use Rattle.std.specs.Prelude.{Ok, Err}
use Rattle.salvage.specs.Salvage.{loss_numbers, Saved, Salvaging, refusal_number, salvage_outcome, Within, Salvages}
use Rattle.salvage.specs.Saving.{Saves}
use Rattle.salvage.specs.declared.Refusal.{Refusal}
use Rattle.salvage.specs.declared.Salvaged.{Salvaged}
use Rattle.salvage.proofs.Saving.{each_saves}
use Rattle.salvage.proofs.Sound.{sound_same}
use Rattle.salvage.proofs.Refusing.{no_other, never_longer}
use Rattle.told.specs.Codes.{told_as, read_code}
use Rattle.told.specs.Outputs.{size_after, losses_after}
use Rattle.told.specs.Told.{ReadTold, SalvageTold}
use Rattle.told.proofs.Accepted.{read_accepted}
use Rattle.told.proofs.Numbers.{fault_above_zero, refused_by}

-- ---- from the call's own promise
module _ {damaged before after : List ℕ} {old : ℕ} {was : List ℕ} (x : Salvaging) (p : Salvages damaged before (salvage_outcome x after) after × Within x after) where
  pub salvage_refused : {why : Refusal} {r : ℕ} → x ≡ Err why → r ≡ refusal_number why → SalvageTold damaged before r after old old was was
  salvage_refused e n = record {
    answer = salvage_outcome x after;
    promise = p.0;
    number = n ∙ sym (ap (λ (a : Salvaging). told_as (salvage_outcome a after)) e);
    output = sym (ap (λ (a : Salvaging). size_after (salvage_outcome a after) old) e);
    lost = sym (ap (λ (a : Salvaging). losses_after (salvage_outcome a after) was) e);
  }

  pub salvage_told : {done : Salvaged} → x ≡ Ok done → SalvageTold damaged before 0 after old done.size was (loss_numbers done.lost)
  salvage_told {done} e = record {
    answer = salvage_outcome x after;
    promise = p.0;
    number = sym (ap (λ (a : Salvaging). told_as (salvage_outcome a after)) e);
    output = sym (length-take-le done.size after (subst (λ (a : Salvaging). Within a after) e p.1)) ∙ sym (ap (λ (a : Salvaging). size_after (salvage_outcome a after) old) e);
    lost = sym (ap (λ (a : Salvaging). losses_after (salvage_outcome a after) was) e);
  }

-- ---- 0 means that a file was saved, and its outputs are that file's
pub record SavedOut (damaged before after : List ℕ) (size : ℕ) (losses : List ℕ) : Type 0 where
  pub saved : Saved
  pub salvages : Salvages damaged before (answered saved) after
  pub its_size : size ≡ length saved.file
  pub its_losses : losses ≡ loss_numbers saved.lost

module _ {damaged before after : List ℕ} {old size : ℕ} {was losses : List ℕ} where
  pub salvage_accepted : SalvageTold damaged before 0 after old size was losses → SavedOut damaged before after size losses
  salvage_accepted m = go m.answer m.promise m.number m.output m.lost
    where
      never : Salvages damaged before (refused 0) after → ⊥
      never p = elim (no_other damaged before after 0 p) [
        | inl h ↦ omega (arith, fault_above_zero h.0, h.2)
        | inr e ↦ omega (arith, e)
      ]

      go : (o : Outcome Saved) → Salvages damaged before o after → 0 ≡ told_as o → size ≡ size_after o old → losses ≡ losses_after o was → SavedOut damaged before after size losses
      go (answered s) p e f g = record { saved = s; salvages = p; its_size = f; its_losses = g }
      go (refused n) p e f g = absurd (never (subst (λ (k : ℕ). Salvages damaged before (refused k) after) (sym e) p))

-- ---- what the functions for C do one after the other
module _ {damaged before after : List ℕ} {old size : ℕ} {was losses : List ℕ} where
  -- THEOREM. The bytes that `sobumikeyo_salvage` has written are accepted by `sobumikeyo_read`; what they hold and what is told of the rest is `Saves`
  pub read_saved : (m : SalvageTold damaged before 0 after old size was losses) → {r : ℕ} {shape shape' : List ℕ} → ReadTold (take size after) r shape shape'
      → (r ≡ 0) × Saves damaged (salvage_accepted m).saved after
  read_saved m {r} n =
      let out = salvage_accepted m in
      let s = each_saves damaged before after out.saved out.salvages in
      let file : take size after ≡ take (length out.saved.file) after = ap (λ (k : ℕ). take k after) out.its_size in
      (n.number ∙ ap (λ (l : List ℕ). read_code (read_of l)) file ∙ ap read_code s.valid.accepted, s)

-- THEOREM. With as many bytes as the damaged file has, 19 is never given
pub salvage_room : {damaged before after : List ℕ} {old size : ℕ} {was losses : List ℕ} {r : ℕ} → Bytes damaged → length damaged ≤ length before
    → SalvageTold damaged before r after old size was losses → r ≡ 19 → ⊥
salvage_room {damaged} {before} {after} bytes room m e = never_longer damaged before after m.answer bytes room m.promise (refused_by m.answer 18 (sym e ∙ m.number))

-- THEOREM. A file that `sobumikeyo_read` has accepted comes out the same, with five zeros, where as many bytes are lent
pub salvage_sound : {file old shape : List ℕ} → Bytes file → ReadTold file 0 old shape → {before after : List ℕ} {r was size : ℕ} {told losses : List ℕ} → length file ≤ length before
    → SalvageTold file before r after was size told losses → (r ≡ 0) × (size ≡ length file) × (losses ≡ 0 ∷ 0 ∷ 0 ∷ 0 ∷ 0 ∷ []) × (after ≡ file ++ drop (length file) before)
salvage_sound {file} bytes read {before} {after} {r} {was} {size} {told} room m =
    let a = read_accepted read in
    let s = sound_same file a.shape bytes a.accepted before after m.answer room m.promise in (
      m.number ∙ ap told_as s.0,
      m.output ∙ ap (λ (o : Outcome Saved). size_after o was) s.0,
      m.lost ∙ ap (λ (o : Outcome Saved). losses_after o told) s.0,
      s.1,
    )
