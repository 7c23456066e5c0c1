-- Work that is released and served, as functions of the tick, with no jobs in sight.
use Rattle.std.proofs.Common.{◌≡◌, ℕ, zero, suc, ◌+◌, ◌<◌, ◌≤◌, min, inl, inr, eq-or-lt_of_le, arith}
use Rattle.std.proofs.lemmas.Bool.{cases_lt}

-- S t is the work served before t, R t the work released before it: each tick serves one if there is one
pub record Greedy (S R : ℕ → ℕ) : Type 0 where
  pub none_served : S 0 ≡ 0
  pub none_released : R 0 ≡ 0
  pub step : (t : ℕ) → S (suc t) ≡ min (S t + 1) (R (suc t))

module _ (S R : ℕ → ℕ) (g : Greedy S R) where
  pub served_le : (t : ℕ) → S t ≤ R t
  served_le zero = omega arith
  served_le (suc t) = omega arith

  -- work is left at d, and none was at t0: so from some instant between, with none left, every tick serves
  pub busy : (t0 d : ℕ) → t0 ≤ d → S t0 ≡ R t0 → S d < R d → (t1 : ℕ) × (t0 ≤ t1) × (t1 < d) × (S t1 ≡ R t1) × (S d + t1 ≡ S t1 + d)
  busy t0 zero h z l = absurd (omega arith)
  busy t0 (suc d) h z l = elim (eq-or-lt_of_le h) [
    | inl now ↦ absurd (omega (arith, rw now at z))
    | inr later ↦ elim (cases_lt (S d) (R d)) [
      | inl some ↦ let (t1, a, b, c, f) = busy t0 d (omega arith) z some in (t1, a, omega arith, c, omega arith)
      | inr none ↦ (d, omega arith, omega arith, omega (arith, served_le d), omega arith)
    ]
  ]

-- where each tick releases no more, no more is ever left
pub less_left : (S R S' R' : ℕ → ℕ) → Greedy S R → Greedy S' R' → ((t : ℕ) → R' (suc t) + R t ≤ R (suc t) + R' t) → (t : ℕ) → R' t + S t ≤ R t + S' t
less_left S R S' R' g g' h zero = omega arith
less_left S R S' R' g g' h (suc t) = omega (arith, less_left S R S' R' g g' h t, h t, g.step t, g'.step t, served_le S R g (suc t))
