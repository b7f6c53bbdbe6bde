-- A making's contract settles it: two results that it allows have everything in common that a caller can ask. Assumes nothing.
use mathlib.Core.Path.{◌≡◌, refl, sym, ap, ◌∙◌}
use mathlib.Core.List.{List}
use Prim.Native.Nat.{ℕ}
use lib.ListN.{length, drop}
use Rattle.store.specs.Layout.{store_size}
use Rattle.store.specs.Sound.{soundb}
use Rattle.store.specs.Meaning.{meaning}
use Rattle.store.specs.Making.{Makes}
use Rattle.store.specs.declared.Refusal.{Refusal}
use Rattle.std.specs.Prelude.{Result, Ok, Err}

-- what two makings have in common
pub record SameMaking (K : ℕ) (a b : Result (Unit {0}) Refusal) (x y : List ℕ) : Type 0 where
  pub answers : a ≡ b
  pub sounds : soundb x ≡ soundb y
  pub meanings : meaning x ≡ meaning y
  pub rests : drop (store_size K) x ≡ drop (store_size K) y
  pub lengths : length x ≡ length y
  pub refused : (a ≡ Ok tt → ⊥) → x ≡ y

done? : (a : Result (Unit {0}) Refusal) → Dec (a ≡ Ok tt)
done? (Ok u) = yes refl
done? (Err why) = no (λ e. cc)

-- THEOREM. Two makings of one room with the same numbers answer the same and leave the same meaning; where they refuse, the same numbers
pub make_settled : (K : ℕ) (s : List ℕ) (a b : Result (Unit {0}) Refusal) (x y : List ℕ) → Makes K s a x → Makes K s b y → SameMaking K a b x y
make_settled K s a b x y m n = elim (done? a) [
  | yes e ↦
      let f : b ≡ Ok tt = sym same ∙ e in
      record {
        answers = same;
        sounds = m.sound_after e ∙ sym (n.sound_after f);
        meanings = m.means e ∙ sym (n.means f);
        rests = m.rest_kept e ∙ sym (n.rest_kept f);
        lengths = m.length_kept ∙ sym n.length_kept;
        refused = λ q. absurd (q e);
      }
  | no e ↦
      let g : x ≡ y = m.refused_kept e ∙ sym (n.refused_kept (λ f. e (same ∙ f))) in
      record { answers = same; sounds = ap soundb g; meanings = ap meaning g; rests = ap (drop (store_size K)) g; lengths = ap length g; refused = λ q. g }
]
  where
    same : a ≡ b
    same = m.answered ∙ sym n.answered
