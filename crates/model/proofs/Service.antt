-- What a run gives a job, and all jobs of a set together.
use Rattle.std.proofs.Common.{◌≡◌, ℕ, zero, suc, ◌+◌, ◌<◌, ◌≤◌, Bool, ◌⊎◌, ◌≢◌, refl, inl, inr, arith}
use Rattle.std.proofs.lemmas.Bool.Decides.{nat_tests}
use Rattle.model.specs.Runs.{Slot, idle, serves, Run, served}
use Rattle.model.proofs.Steps.{rising}
use Rattle.model.proofs.JobSums.{sum_jobs, only, jobs_le, jobs_one_more}

pub cases_slot : (s : Slot) → (s ≡ idle) ⊎ ((a : ℕ) × (b : ℕ) × (s ≡ serves a b))
cases_slot idle = inl refl
cases_slot (serves a b) = inr (a, b, refl)

-- ---- one job

module _ (r : Run) (i l : ℕ) where
  -- a tick goes to the job and is counted, or neither
  pub cases_tick : (t : ℕ) → ((r t ≡ serves i l) × (served r i l (suc t) ≡ served r i l t + 1)) ⊎ ((r t ≢ serves i l) × (served r i l (suc t) ≡ served r i l t))
  cases_tick t = grind (arith, nat_tests)

  pub served_grows : (t u : ℕ) → t ≤ u → served r i l t ≤ served r i l u
  served_grows = rising (served r i l) (λ t. omega arith)

  -- a job that has no tick before s has been served nothing by then
  pub served_none : (s : ℕ) → ((t : ℕ) → r t ≡ serves i l → s ≤ t) → (t : ℕ) → t ≤ s → served r i l t ≡ 0
  served_none s h zero le = refl
  served_none s h (suc t) le = grind (arith, cases_tick t, served_none s h t)

  -- a job that has had c ticks had the last of them at some tick
  pub last_tick : (c t : ℕ) → 0 < c → c ≤ served r i l t → (f : ℕ) × (f < t) × (r f ≡ serves i l) × (c ≤ served r i l (suc f))
  last_tick c zero some h = absurd (omega arith)
  last_tick c (suc t) some h = grind (arith, cases_tick t, last_tick c t)

-- ---- a set of jobs

-- the ticks before t that go to the jobs of P, of n tasks, with numbers below m
unfoldable pub given : ℕ → ℕ → (ℕ → ℕ → Bool) → Run → ℕ → ℕ
given n m P r t = sum_jobs n m (only P (λ i l. served r i l t))

module _ (n m : ℕ) (P : ℕ → ℕ → Bool) (r : Run) (t : ℕ) where
  pub given_grows : given n m P r t ≤ given n m P r (suc t)
  unfolding given
  given_grows = jobs_le n m _ _ (λ i l _ _. grind arith)

  pub given_slow : given n m P r (suc t) ≤ given n m P r t + 1
  unfolding given
  given_slow = elim (cases_slot (r t)) [
    | inl e ↦ omega (arith, jobs_le n m (only P (λ i l. served r i l (suc t))) (only P (λ i l. served r i l t)) (λ i l _ _. grind (arith, cases_tick r i l t)))
    | inr (a, b, e) ↦ jobs_one_more n m _ _ a b (λ i l _ _ other. grind (arith, cases_tick r i l t)) (λ _ _. grind arith)
  ]
