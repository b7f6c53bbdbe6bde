-- The children of a context that has symbols left: how their keys follow from its own. Assumes nothing.
use Prim.Native.Nat.{ℕ, zero, suc, ◌+◌, ◌-◌, ◌*◌, ◌/◌, ◌^◌, ◌≤◌, ◌<◌}
use mathlib.Core.Path.{◌≡◌}
use mathlib.Core.List.{List}
use native.Mathlib.Omega.{arith}
use native.Mathlib.Nat.{mul-le-mul_right, pow-suc}
use lib.ListN.{length}
use lib.Dec.{T}
use Rattle.numbers.specs.Limits.{deepest}
use Rattle.contexts.specs.Context.{is_context}
use Rattle.contexts.specs.Keys.{key_of, desk_span}
use Rattle.contexts.proofs.KeyOrder.{pow_pos, context_key_lt}
use Rattle.estimate.specs.declared.ByKind.{ByKind}
use Rattle.rows.specs.Walk.{older}
use Rattle.weighing.specs.declared.Desk.{Desk}
use Rattle.weighing.specs.declared.Context.{Context}
use Rattle.weighing.specs.Visit.{Arrived}
use Rattle.weighing.proofs.Cursor.{within, end_within}
use Rattle.weighing.proofs.BlockParts.{context_older}

pub pow_le : (a b : ℕ) → a ≤ b → 8 ^ a ≤ 8 ^ b
pow_le a zero h = let e : a ≡ 0 = omega arith in rw e (omega arith)
pow_le zero (suc b) h = pow_pos (suc b)
pow_le (suc a) (suc b) h = omega (arith, pow_le a b (omega arith), pow-suc 8 a, pow-suc 8 b)

-- how many symbols could follow a child of s
pub after : List ℕ → ℕ
after s = 5 - length s

module _ {k : Desk} {costs : ByKind} {n : ℕ} {l s : List ℕ} {c : Context} {p : ℕ} (q : Arrived k costs n l s c p) (more : c.left ≡ 0 → ⊥) where
  pub deeper : length s < k.depth
  deeper = let z = more in omega (arith, q.left_is)

  pub room : length s + suc (after s) ≡ deepest
  unfolding after
  room = omega (arith, deeper, q.weighable.shallow)

  pub step_is : c.span / 8 ≡ 8 ^ suc (after s)
  step_is = let e : 7 - length s ≡ suc (suc (after s)) = omega (arith, room) in rw (q.span_is, e) (omega (arith, pow-suc 8 (suc (after s))))

  pub step_small : (a : ℕ) → a < k.symbols → suc a * (c.span / 8) ≤ desk_span
  step_small a lt =
      let w = q.weighable in
      omega (arith, end_within k n l w s (within k n l w s q.context), q.span_is, mul-le-mul_right {m = suc a} {n = 8} (c.span / 8) (omega (arith, w.few)))

  pub key_small : key_of k.number s < 8 * desk_span
  key_small = let w = q.weighable in omega (arith, context_key_lt s (within k n l w s q.context), w.desk)

  pub key_fits : c.key + 1 < 2 ^ 32
  key_fits = omega (arith, key_small, q.key_is)

  pub child_context : (a : ℕ) → a < k.symbols → T (is_context k.symbols k.depth (older s a))
  child_context a lt = context_older k.symbols k.depth s a q.context lt deeper
