-- Sums over the jobs (i, l) with i < n and l < m.
use Rattle.std.proofs.Common.{◌≡◌, ℕ, ◌+◌, ◌<◌, ◌≤◌, Bool, cond, arith}
use Rattle.model.specs.Demand.{sum_below}
use Rattle.model.proofs.Sums.{sum_le, sum_none, sum_le_both, sum_one_more, sum_lt, sum_find}

abbrev pub sum_jobs : ℕ → ℕ → (ℕ → ℕ → ℕ) → ℕ
sum_jobs n m f = sum_below n (λ i. sum_below m (f i))

-- f counts where the test holds
abbrev pub only : (ℕ → ℕ → Bool) → (ℕ → ℕ → ℕ) → ℕ → ℕ → ℕ
only p f i l = cond (p i l) (f i l) 0

module _ (n m : ℕ) where
  pub jobs_le : (f g : ℕ → ℕ → ℕ) → ((i l : ℕ) → i < n → l < m → f i l ≤ g i l) → sum_jobs n m f ≤ sum_jobs n m g
  jobs_le f g h = grind (arith, sum_le)

  pub jobs_none : (f : ℕ → ℕ → ℕ) → ((i l : ℕ) → i < n → l < m → f i l ≡ 0) → sum_jobs n m f ≡ 0
  jobs_none f h = grind (arith, sum_none)

  pub jobs_le_both : (f g a b : ℕ → ℕ → ℕ) → ((i l : ℕ) → i < n → l < m → f i l + g i l ≤ a i l + b i l) → sum_jobs n m f + sum_jobs n m g ≤ sum_jobs n m a + sum_jobs n m b
  jobs_le_both f g a b h = sum_le_both n _ _ _ _ (λ i p. sum_le_both m _ _ _ _ (λ l. h i l p))

  pub jobs_one_more : (f g : ℕ → ℕ → ℕ) (a b : ℕ) → ((i l : ℕ) → i < n → l < m → ((i ≡ a) × (l ≡ b) → ⊥) → g i l ≤ f i l) → (a < n → b < m → g a b ≤ f a b + 1) → sum_jobs n m g ≤ sum_jobs n m f + 1
  jobs_one_more f g a b h one =
      sum_one_more n _ _ a (λ i p d. sum_le m _ _ (λ l q. h i l p q (λ e. d e.0)))
      (λ p. sum_one_more m _ _ b (λ l q d. h a l p q (λ e. d e.1)) (one p))

  pub jobs_lt : (f g : ℕ → ℕ → ℕ) (a b : ℕ) → ((i l : ℕ) → i < n → l < m → f i l ≤ g i l) → a < n → b < m → f a b < g a b → sum_jobs n m f < sum_jobs n m g
  jobs_lt f g a b h p q lt = sum_lt n _ _ a (λ i p. sum_le m _ _ (λ l. h i l p)) p (sum_lt m _ _ b (λ l. h a l p) q lt)

  pub jobs_find : (f g : ℕ → ℕ → ℕ) → sum_jobs n m f < sum_jobs n m g → (i : ℕ) × (l : ℕ) × (i < n) × (l < m) × (f i l < g i l)
  jobs_find f g h = grind (arith, sum_find)
