-- The records in use: how many, and each as the code lends it. Assumes nothing.
use mathlib.Core.Path.{◌≡◌, sym}
use mathlib.Core.List.{List, []}
use Prim.Native.Nat.{ℕ, ◌+◌, ◌-◌, ◌*◌, ◌≤◌, ◌<◌}
use native.Mathlib.Omega.{arith}
use lib.ListN.{length, take, drop, get_or, length-drop}
use lib.Seq.{length-take-le}
use Rattle.records.specs.Records.{width, records}
use Rattle.records.proofs.Parts.{length_parts, part_at}
use Rattle.store.specs.Layout.{header_size, used, records_in}

-- as many as are in use
pub records_length : (s : List ℕ) → length (records_in s) ≡ used s
unfolding records_in
records_length s = length_parts width (used s) (drop header_size s)

-- a record as the code lends it
abbrev pub lent : ℕ → List ℕ → List ℕ
lent i l = take (width * i + width - width * i) (drop (width * i) l)

pub record_lent : (n i : ℕ) (l : List ℕ) → i < n → lent i l ≡ get_or (records n l) i []
record_lent n i l h =
    let w : width * i + width - width * i ≡ width = omega arith in
    rw w (sym (part_at width n i l h))

pub record_long : (n i : ℕ) (l : List ℕ) → i < n → width * n ≤ length l → length (lent i l) ≡ width
record_long n i l h b =
    let w : width * i + width - width * i ≡ width = omega arith in
    rw w (length-take-le width (drop (width * i) l) (rw (length-drop (width * i) l) (omega arith)))
