-- A piece put into lent bytes at a place. Assumes nothing.
use Rattle.std.specs.Prelude.{ℕ, ◌+◌, ◌≤◌, ◌≡◌, List, ◌++◌, length, take, drop}

-- bytes with a piece from a place on, and every other byte as it was
abbrev pub laid : List ℕ → ℕ → List ℕ → List ℕ
laid piece at bytes = take at bytes ++ (piece ++ drop (at + length piece) bytes)

-- the piece fits from that place on
abbrev pub HasRoom : List ℕ → ℕ → List ℕ → Type 0
HasRoom piece at bytes = at + length piece ≤ length bytes

-- the piece was put at a place, and the answer is the place after it
pub record Puts (piece : List ℕ) (at : ℕ) (before after : List ℕ) (answer : ℕ) : Type 0 where
  pub next : answer ≡ at + length piece
  pub bytes : after ≡ laid piece at before
