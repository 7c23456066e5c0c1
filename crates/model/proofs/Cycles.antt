-- Periods that divide a cycle, and what repeats with it.
use Rattle.std.proofs.Common.{◌≡◌, ℕ, zero, suc, ◌+◌, ◌*◌, ◌/◌, ◌%◌, ◌↔◌, arith}
use Rattle.std.proofs.lemmas.Nat.{div-add-mod'}
use mathlib.Core.Logic.Iff
use native.Mathlib.Nat.{mul-mod_left}

-- what is a multiple leaves no remainder
pub multiple_leaves_none : (k period cycle : ℕ) → k * period ≡ cycle → cycle % period ≡ 0
multiple_leaves_none k period cycle e = rw (← e) (mul-mod_left k period)

-- what holds of l just where it holds of k + l ..
module _ (P : ℕ → Type 0) (k : ℕ) (again : (l : ℕ) → P l ↔ P (k + l)) where
  after_cycles : (q x : ℕ) → P x ↔ P (q * k + x)
  after_cycles zero x = let none : zero * k + x ≡ x = omega arith in rw none Iff.rfl
  after_cycles (suc q) x =
      let one_more : suc q * k + x ≡ k + (q * k + x) = omega arith in
      rw one_more (Iff.trans (after_cycles q x) (again (q * k + x)))

  -- .. holds of l just where it holds of l mod k
  pub by_remainder : (l : ℕ) → P l ↔ P (l % k)
  by_remainder l = Iff.symm (rw (div-add-mod' l k) at (after_cycles (l / k) (l % k)))
