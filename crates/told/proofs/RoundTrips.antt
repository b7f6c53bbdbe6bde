-- From C: what was written reads back as the same sitting, and what was read is written again as the same bytes. Assumes nothing.
use Prim.Native.Nat.{ℕ, ◌≤◌}
use mathlib.Core.Path.{◌≡◌, sym, ap, ap₂, ◌∙◌}
use mathlib.Core.List.{List, [], ◌∷◌, ◌++◌}
use lib.ListN.{length, get_or, take, drop}
use Rattle.replay.specs.Table.{Outcome}
use Rattle.sitting_file.specs.Format.{read_of}
use Rattle.sitting_file.specs.Samples.{first_of, second_of}
use Rattle.sitting_file.specs.Verdict.{Bytes}
use Rattle.sitting_file.specs.declared.Shape.{Shape}
use Rattle.sitting_file.specs.Format.{Reading}
use Rattle.std.specs.Prelude.{Ok}
use Rattle.writing.specs.Writing.{writing_outcome}
use Rattle.writing.specs.RoundTrips.{ReadsAs}
use Rattle.writing.proofs.RoundTrip.{reads_back, writes_back}
use Rattle.told.specs.Codes.{told_as, read_code}
use Rattle.told.specs.Outputs.{shape_after, length_after}
use Rattle.told.specs.Told.{ReadTold, WriteTold}
use Rattle.told.proofs.Accepted.{read_accepted, write_accepted}

module _ {A D : ℕ} {xs ys before after : List ℕ} {old size : ℕ} where
  -- THEOREM. The bytes that `sobumikeyo_write` has written are accepted by `sobumikeyo_read`, with A, D, n and m, and their symbols are the samples
  pub read_again : WriteTold A D xs ys before 0 after old size → {r : ℕ} {shape shape' : List ℕ} → ReadTold (take size after) r shape shape'
      → (r ≡ 0) × (shape' ≡ A ∷ D ∷ length xs ∷ length ys ∷ []) × ReadsAs (take size after) A D xs ys
  read_again w {r} {shape} m =
      let back = reads_back A D xs ys before after size (write_accepted w) in
      (m.number ∙ ap read_code back.accepted, m.output ∙ ap (λ (q : Reading). shape_after q shape) back.accepted, back)

-- the shape of four numbers
abbrev shaped : ℕ → ℕ → ℕ → ℕ → Shape
shaped A D n m = record { alphabet = A; depth = D; first = n; second = m }

same_shape : (A D n m : ℕ) (s : Shape) → ◌≡◌ {A = List ℕ} (A ∷ D ∷ n ∷ m ∷ []) (s.alphabet ∷ s.depth ∷ s.first ∷ s.second ∷ []) → s ≡ shaped A D n m
same_shape A D n m s e =
    let each : (i : ℕ) → get_or (s.alphabet ∷ s.depth ∷ s.first ∷ s.second ∷ []) i 0 ≡ get_or (A ∷ D ∷ n ∷ m ∷ []) i 0 = λ i. ap (λ (l : List ℕ). get_or l i 0) (sym e) in
    ap₂ (λ (a d : ℕ). shaped a d s.first s.second) (each 0) (each 1) ∙ ap₂ (shaped A D) (each 2) (each 3)

-- a file that `sobumikeyo_read` has accepted with these numbers
module _ {file old : List ℕ} {A D n m : ℕ} (bytes : Bytes file) (read : ReadTold file 0 old (A ∷ D ∷ n ∷ m ∷ [])) where
  abbrev shape : Shape
  shape = shaped A D n m

  announced : read_of file ≡ Ok shape
  announced = let a = read_accepted read in a.accepted ∙ ap Ok (same_shape A D n m a.shape a.output)

  -- THEOREM. They and its last n + m bytes, written again where as many bytes are lent, are accepted and the same bytes
  pub write_again : {before after : List ℕ} {r was size : ℕ} → length file ≤ length before → WriteTold A D (first_of file shape) (second_of file shape) before r after was size
      → (r ≡ 0) × (size ≡ length file) × (after ≡ file ++ drop (length file) before)
  write_again {before} {after} {r} {was} room w =
      let same = writes_back file shape bytes announced before after (writing_outcome w.answer) room w.promise in
      (w.number ∙ ap told_as same.whole, w.output ∙ ap (λ (o : Outcome ℕ). length_after o was) same.whole, same.same_bytes)
