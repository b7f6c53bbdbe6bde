-- The numbers of a store whose desk was closed, as the code writes them: the records' part comes back with the desk's records taken out, then their
-- number and the desk's mark are written. Assumes nothing.
use Prim.Native.Nat.{ℕ, ◌+◌, ◌-◌, ◌*◌, ◌≤◌, ◌<◌}
use native.Mathlib.Omega.{arith}
use mathlib.Core.Path.{◌≡◌, sym, ap, ap₂, ◌∙◌}
use mathlib.Core.Logic.{◌≢◌}
use mathlib.Core.Bool.{true}
use mathlib.Core.List.{List, ◌++◌}
use lib.ListN.{length, take, drop, get_or, set, length-append, length-drop, length-set, get_or-append}
use lib.Seq.{length-take-le, drop_at, drop-drop, drop-set-lt, get_or-take, get_or-set_same, get_or-set_other}
use Rattle.numbers.specs.Limits.{desks}
use Rattle.records.specs.Records.{width, records}
use Rattle.records.specs.Held.{without, Removable}
use Rattle.records.specs.Bumped.{Written}
use Rattle.records.proofs.Lent.{tail_lent, tail_back, agree_later}
use Rattle.recording.proofs.Settling.{removed_count}
use Rattle.store.specs.Layout.{header_size, store_size, desk_start, room, used, records_in}
use Rattle.store.specs.Sound.{soundb}
use Rattle.store.proofs.Passing.{passed, header_long}
use Rattle.changes.specs.Changes.{Closed}

-- the part that is lent, and all that is there when it has come back as ys
abbrev pub lent : List ℕ → List ℕ
lent s = take (length s - header_size) (drop header_size s)

abbrev pub back : List ℕ → List ℕ → List ℕ
back s ys = take header_size s ++ (ys ++ drop (length s - header_size) (drop header_size s))

-- what the code leaves, with m records and desk d marked closed
abbrev marked : List ℕ → ℕ → ℕ → List ℕ → List ℕ
marked s d m ys = set (set (back s ys) 1 m) (desk_start d + 0) 0

module _ (s : List ℕ) (d : ℕ) (h : soundb s ≡ true) (l : d < desks) where
  pub removable : Removable d (used s) (lent s)
  unfolding records_in
  removable = record {
    standing = record {
      fits = rw (tail_lent header_size s, length-drop header_size s) (omega (arith, (passed s h).framed.long, (passed s h).framed.few));
      rising = rw (tail_lent header_size s) (passed s h).up;
    };
    desk = l;
  }

  module _ (ys : List ℕ) (m : ℕ) (long : length ys ≡ length (lent s)) (w : Written (without d (records (used s) (lent s))) m (lent s) ys) where
    pub few_left : m ≤ used s
    few_left = omega (arith, removed_count d (used s) m (lent s) ys removable long w)

    pub back_long : length (back s ys) ≡ length s
    back_long =
        rw (tail_back header_size ys s, length-append (take header_size s) ys)
        (omega (arith, length-take-le header_size s (header_long s h), long, ap length (tail_lent header_size s), length-drop header_size s, header_long s h))

    marked_long : length (marked s d m ys) ≡ length s
    marked_long = length-set (set (back s ys) 1 m) (desk_start d + 0) 0 ∙ length-set (back s ys) 1 m ∙ back_long

    -- the records' part
    after_header : drop header_size (marked s d m ys) ≡ ys
    after_header =
        drop-set-lt header_size (set (back s ys) 1 m) (desk_start d + 0) 0 (omega arith)
        ∙ drop-set-lt header_size (back s ys) 1 m (omega arith)
        ∙ ap (drop header_size) (tail_back header_size ys s)
        ∙ drop_at (take header_size s) ys header_size (length-take-le header_size s (header_long s h))

    -- a number of the header that is not written
    unwritten : (j : ℕ) → j < header_size → j ≢ 1 → j ≢ desk_start d + 0 → get_or (marked s d m ys) j 0 ≡ get_or s j 0
    unwritten j k n q =
        let size = length-take-le header_size s (header_long s h) in
        get_or-set_other (set (back s ys) 1 m) (desk_start d + 0) j 0 0 q
        ∙ get_or-set_other (back s ys) 1 j m 0 n
        ∙ ap (λ (z : List ℕ). get_or z j 0) (tail_back header_size ys s)
        ∙ get_or-append (take header_size s) ys 0 j (omega arith)
        ∙ get_or-take header_size s j 0 k

    used_now : used (marked s d m ys) ≡ m
    used_now =
        get_or-set_other (set (back s ys) 1 m) (desk_start d + 0) 1 0 0 (λ q. omega arith)
        ∙ get_or-set_same (back s ys) 1 m 0 (omega (arith, back_long, header_long s h))

    records_now : records_in (marked s d m ys) ≡ without d (records_in s)
    unfolding records_in
    records_now =
        ap₂ records used_now after_header
        ∙ w.live
        ∙ ap (λ (z : List ℕ). without d (records (used s) z)) (tail_lent header_size s)

    past_now : drop (store_size (room s)) (marked s d m ys) ≡ drop (store_size (room s)) s
    past_now =
        agree_later (header_size + width * m) (store_size (room s)) (marked s d m ys) s (omega (arith, few_left, (passed s h).framed.few))
        (sym (drop-drop (width * m) header_size (marked s d m ys))
        ∙ ap (drop (width * m)) after_header
        ∙ w.past
        ∙ ap (drop (width * m)) (tail_lent header_size s)
        ∙ drop-drop (width * m) header_size s)

    marked_closed : Closed s (marked s d m ys) d
    marked_closed = record {
      beside = record {
        room_same = unwritten 0 (omega arith) (λ q. omega arith) (λ q. omega arith);
        others = λ e f n k i. unwritten (desk_start e + f) (omega arith) (λ q. omega arith) (λ q. n (omega arith));
        past = past_now;
        long = marked_long;
      };
      records_left = records_now;
      marked = get_or-set_same (set (back s ys) 1 m) (desk_start d + 0) 0 0 (rw (length-set (back s ys) 1 m, back_long) (omega (arith, header_long s h)));
    }

    -- THEOREM. What the code leaves, where it has written the number of records left and 0 for the desk, is the store with desk d closed
    pub closed_now : (n v : ℕ) → n ≡ m → v ≡ 0 → Closed s (set (set (back s ys) 1 n) (desk_start d + 0) v) d
    closed_now n v e f = rw (e, f) marked_closed
