-- What the desk that the code has by value can be weighed for. Assumes nothing.
use Prim.Native.Nat.{ℕ, ◌-◌, ◌≤◌}
use native.Mathlib.Omega.{arith}
use mathlib.Core.Path.{sym, subst}
use mathlib.Core.List.{List}
use lib.ListN.{length, take, drop}
use Rattle.numbers.specs.Limits.{most_room}
use Rattle.records.specs.Held.{Standing}
use Rattle.records.proofs.Lent.{tail_lent}
use Rattle.store.specs.Layout.{header_size, used}
use Rattle.store.proofs.Standing.{sound_stands}
use Rattle.weighing.specs.Weighs.{CanWeigh, Weighs}
use Rattle.weighing.specs.declared.Desk.{Desk}
use Rattle.weighing.specs.declared.Least.{Least}
use Rattle.report.specs.Desk.{CanReportOn, WeighedDesk}
use Rattle.report.proofs.Standing.{weighable, weighed_desk}

module _ (s : List ℕ) (k : Desk) (c : CanReportOn s k) where
  pub sized : header_size ≤ length s
  sized = let a = (sound_stands s c.sound).long in omega arith

  pub few_records : used s ≤ most_room
  few_records = let h = sound_stands s c.sound in let a = h.few in let b = h.room_most in omega arith

  -- the records part as it is lent
  pub standing_lent : Standing (used s) (take (length s - header_size) (drop header_size s))
  standing_lent = rw (tail_lent header_size s) (weighable s k.number c.sound c.at_open).standing

  pub can_weigh : (kept : List ℕ) → most_room ≤ length kept → CanWeigh k (used s) (drop header_size s) kept
  can_weigh kept l =
      subst (λ (x : Desk). CanWeigh x (used s) (drop header_size s) kept) (sym c.is_desk)
      (record { weighable = weighable s k.number c.sound c.at_open; beside = let h = few_records in omega arith })

  pub has_weighed : (before kept : List ℕ) (r : Least) → Weighs k (used s) (drop header_size s) before kept r → WeighedDesk s k.number kept r
  has_weighed before kept r w =
      weighed_desk s k.number c.sound c.at_open before kept r (subst (λ (x : Desk). Weighs x (used s) (drop header_size s) before kept r) c.is_desk w)
