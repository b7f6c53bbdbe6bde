-- The logarithm of document 01, for every n. Assumes nothing.
use Rattle.std.specs.Prelude.{ℕ, ◌+◌, ◌-◌, ◌^◌, ◌≤◌, ◌<◌}
use Rattle.std.specs.Float.Ieee.{size}

-- "L(n) is the whole number k with 2^k <= n^1024 < 2^(k+1)"
pub record IsLog (n k : ℕ) : Type 0 where
  pub reached : 2 ^ k ≤ n ^ 1024
  pub passed : n ^ 1024 < 2 ^ (k + 1)

-- One less than how many binary digits n^1024 has: the only number that meets the rule where n > 0 (proofs/Laws: `L_is_log`, `L_only`).
-- 0 has no digit, and 0 - 1 is 0: "L(0) is 0 by convention."
unfoldable pub L : ℕ → ℕ
unfolding size
L n = size (n ^ 1024) - 1
