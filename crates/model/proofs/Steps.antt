-- Functions of the tick, by what one step does to them.
use Rattle.std.proofs.Common.{ℕ, zero, suc, ◌+◌, ◌≤◌, arith}

-- what no step lowers rises
pub rising : (F : ℕ → ℕ) → ((t : ℕ) → F t ≤ F (suc t)) → (t u : ℕ) → t ≤ u → F t ≤ F u
rising F step t zero h = grind arith
rising F step t (suc u) h = grind (arith, rising F step t u)

-- what each step raises by at most one rises by at most the steps between
pub slow : (F : ℕ → ℕ) → ((t : ℕ) → F (suc t) ≤ F t + 1) → (t u : ℕ) → t ≤ u → F u + t ≤ F t + u
slow F step t zero h = grind arith
slow F step t (suc u) h = grind (arith, slow F step t u)
