-- Laws of one desk put in another's place, and of what the desks of a room have reserved. Assumes nothing.
use Prim.Native.Nat.{ℕ, zero, suc, ◌+◌, ◌<◌}
use native.Mathlib.Omega.{arith}
use mathlib.Core.Path.{◌≡◌, refl, sym, fun_ext}
use mathlib.Core.Bool.{Bool, true, false, cond}
use lib.Dec.{eqb}
use borrow.Author.Tests.{eqb-true, eqb-false, eq-eqb, ne_eqb}
use Rattle.numbers.specs.Sum.{sum}
use Rattle.numbers.proofs.Orders.{less, same, more, order}
use Rattle.numbers.proofs.Sums.{sum_cong}
use Rattle.replay.specs.Room.{Desk}
use Rattle.replay.specs.Machine.{put}

pub apart_sym : (m n : ℕ) → eqb m n ≡ false → eqb n m ≡ false
apart_sym m n h = ne_eqb n m (λ e. eqb-false m n h (sym e))

-- two sums that differ at one number alone
pub sum_but_one : (n x : ℕ) (f g : ℕ → ℕ) → x < n → ((a : ℕ) → (a ≡ x → ⊥) → f a ≡ g a) → sum n f + g x ≡ sum n g + f x
unfolding sum
sum_but_one zero x f g l h = absurd (omega arith)
sum_but_one (suc n) x f g l h = elim (order x n) [
  | less o ↦ let ih = sum_but_one n x f g o h in let top = h n (λ e. omega arith) in omega arith
  | same e ↦ let low : sum n f ≡ sum n g = sum_cong n (λ a k. h a (λ q. omega arith)) in rw e (omega arith)
  | more o ↦ absurd (omega arith)
]

module _ {State : Type 0} where
  -- a desk that was put is there, and the others stay
  pub put_same : (at : ℕ → Desk State) (d : ℕ) (v : Desk State) → put at d v d ≡ v
  unfolding put
  put_same at d v = rw (eq-eqb d d refl)

  pub put_other : (at : ℕ → Desk State) (d : ℕ) (v : Desk State) (e : ℕ) → eqb e d ≡ false → put at d v e ≡ at e
  unfolding put
  put_other at d v e h = rw h

  pub put_swap : (at : ℕ → Desk State) (d e : ℕ) (v w : Desk State) → eqb d e ≡ false → put (put at d v) e w ≡ put (put at e w) d v
  unfolding put
  put_swap at d e v w h = fun_ext λ f. go f (eqb f d) (eqb f e) refl refl
    where
      go : (f : ℕ) (b c : Bool) → eqb f d ≡ b → eqb f e ≡ c → cond c w (cond b v (at f)) ≡ cond b v (cond c w (at f))
      go f true true p q =
          let fd : f ≡ d = eqb-true f d p in
          let fe : f ≡ e = eqb-true f e q in
          let z : ◌≡◌ {A = ℕ} 0 1 = cc in
          absurd (omega arith)
      go f true false p q = refl
      go f false true p q = refl
      go f false false p q = refl

  -- what holds of the new desk and of the old ones holds of all
  pub put_all : (P : ℕ → Desk State → Type 0) (at : ℕ → Desk State) (d : ℕ) (v : Desk State) → P d v → ((e : ℕ) → P e (at e)) → (e : ℕ) → P e (put at d v e)
  unfolding put
  put_all P at d v new old e = go (eqb e d) refl
    where
      go : (b : Bool) → eqb e d ≡ b → P e (cond b v (at e))
      go true p = rw (eqb-true e d p) new
      go false p = old e

  -- one desk's number goes out of the sum, and the new one comes in
  pub put_sum : (f : Desk State → ℕ) (n : ℕ) (at : ℕ → Desk State) (d : ℕ) (v : Desk State) → d < n
      → sum n (λ e. f (put at d v e)) + f (at d) ≡ sum n (λ e. f (at e)) + f v
  put_sum f n at d v l =
      let new : f (put at d v d) ≡ f v = rw (put_same at d v) in
      let sums = sum_but_one n d (λ e. f (put at d v e)) (λ e. f (at e)) l (λ e k. rw (put_other at d v e (ne_eqb e d k))) in
      omega arith
