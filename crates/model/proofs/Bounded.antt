-- Tests of all numbers below a bound, and what it tells that they pass.
use Rattle.std.proofs.Common.{◌≡◌, ℕ, ◌<◌, Bool, true}
use Rattle.std.proofs.lemmas.Bool.{agree_below, agree_below_at}

abbrev pub all_below : ℕ → (ℕ → Bool) → Bool
all_below n p = agree_below p (λ _. true) n

pub passes_below : (n : ℕ) (p : ℕ → Bool) (k : ℕ) → k < n → all_below n p ≡ true → p k ≡ true
passes_below n p k h e = agree_below_at p (λ _. true) n k e h

-- all pairs of numbers i below n and l below m i
abbrev pub all_pairs : ℕ → (ℕ → ℕ) → (ℕ → ℕ → Bool) → Bool
all_pairs n m p = all_below n (λ i. all_below (m i) (p i))

pub passes_pairs : (n : ℕ) (m : ℕ → ℕ) (p : ℕ → ℕ → Bool) (i l : ℕ) → i < n → l < m i → all_pairs n m p ≡ true → p i l ≡ true
passes_pairs n m p i l h k e = passes_below (m i) (p i) l k (passes_below n (λ a. all_below (m a) (p a)) i h e)
