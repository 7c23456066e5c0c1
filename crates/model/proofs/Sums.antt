-- Sums over the numbers below a bound.
use Rattle.std.proofs.Common.{◌≡◌, ℕ, zero, suc, ◌+◌, ◌<◌, ◌≤◌, add-zero, add-suc, arith}
use Rattle.model.specs.Demand.{sum_below}
use Rattle.model.proofs.Steps.{rising}

-- ---- one bound

pub sum_le : (n : ℕ) (f g : ℕ → ℕ) → ((k : ℕ) → k < n → f k ≤ g k) → sum_below n f ≤ sum_below n g
sum_le zero f g h = omega arith
sum_le (suc n) f g h = grind (arith, sum_le n f g)

pub sum_none : (n : ℕ) (f : ℕ → ℕ) → ((k : ℕ) → k < n → f k ≡ 0) → sum_below n f ≡ 0
sum_none zero f h = omega arith
sum_none (suc n) f h = grind (arith, sum_none n f)

pub sum_le_both : (n : ℕ) (f g a b : ℕ → ℕ) → ((k : ℕ) → k < n → f k + g k ≤ a k + b k) → sum_below n f + sum_below n g ≤ sum_below n a + sum_below n b
sum_le_both zero f g a b h = omega arith
sum_le_both (suc n) f g a b h = grind (arith, sum_le_both n f g a b)

-- g is at most f, but for one place, where it is at most one more
pub sum_one_more : (n : ℕ) (f g : ℕ → ℕ) (a : ℕ) → ((k : ℕ) → k < n → (k ≡ a → ⊥) → g k ≤ f k) → (a < n → g a ≤ f a + 1) → sum_below n g ≤ sum_below n f + 1
sum_one_more zero f g a h one = omega arith
sum_one_more (suc n) f g a h one = grind (arith, sum_one_more n f g a, sum_le n g f)

-- f is at most g, and less at one place
pub sum_lt : (n : ℕ) (f g : ℕ → ℕ) (a : ℕ) → ((k : ℕ) → k < n → f k ≤ g k) → a < n → f a < g a → sum_below n f < sum_below n g
sum_lt zero f g a h l lt = omega arith
sum_lt (suc n) f g a h l lt = grind (arith, sum_lt n f g a, sum_le n f g)

-- a smaller sum is smaller at some place
pub sum_find : (n : ℕ) (f g : ℕ → ℕ) → sum_below n f < sum_below n g → (k : ℕ) × (k < n) × (f k < g k)
sum_find zero f g h = absurd (omega arith)
sum_find (suc n) f g h = grind (arith, sum_find n f g)

-- ---- other bounds

sum_grows : (f : ℕ → ℕ) (n m : ℕ) → n ≤ m → sum_below n f ≤ sum_below m f
sum_grows f = rising (λ k. sum_below k f) (λ k. omega arith)

-- what is 0 from d on has no larger sum than that below d
pub sum_trim : (d n : ℕ) (f : ℕ → ℕ) → ((l : ℕ) → d ≤ l → f l ≡ 0) → sum_below n f ≤ sum_below d f
sum_trim d zero f h = omega arith
sum_trim d (suc n) f h = grind (arith, sum_trim d n f, sum_grows f (suc n) d)

-- f is 0 below q, and from there on at most g
sum_from : (q n : ℕ) (f g : ℕ → ℕ) → ((l : ℕ) → l < q → f l ≡ 0) → ((l : ℕ) → f (q + l) ≤ g l) → sum_below (q + n) f ≤ sum_below n g
sum_from q zero f g none shifted = rw add-zero (omega (arith, sum_none q f none))
sum_from q (suc n) f g none shifted = rw add-suc (omega (arith, sum_from q n f g none shifted, shifted n))

-- and g is 0 from d on
pub sum_shift : (q d n : ℕ) (f g : ℕ → ℕ) → ((l : ℕ) → l < q → f l ≡ 0) → ((l : ℕ) → f (q + l) ≤ g l) → ((l : ℕ) → d ≤ l → g l ≡ 0) → sum_below n f ≤ sum_below d g
sum_shift q d n f g none shifted trimmed = omega (arith, sum_grows f n (q + n) (omega arith), sum_from q n f g none shifted, sum_trim d n g trimmed)
