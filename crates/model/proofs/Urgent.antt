-- Earliest deadline first serves a set of most urgent jobs in every tick in which one of them has work left.
use Rattle.std.proofs.Common.{◌≡◌, ℕ, zero, suc, ◌<◌, ◌≤◌, Bool, true, ◌&&◌, ltb, ◌⊎◌, inl, inr, arith}
use Rattle.std.proofs.lemmas.Bool.{cases_Bool}
use Rattle.std.proofs.lemmas.Bool.Decides.{nat_tests}
use Rattle.model.specs.Workloads.{Workload}
use Rattle.model.specs.Runs.{serves, Run, served}
use Rattle.model.specs.Edf.{Execution, Pending, Before, ObeysEdf}
use Rattle.model.proofs.Backlog.{Greedy}
use Rattle.model.proofs.JobSums.{sum_jobs, only, jobs_le, jobs_lt, jobs_none}
use Rattle.model.proofs.Service.{cases_slot, cases_tick, served_none, given, given_grows, given_slow}

-- ---- work that counts once its job is released

-- the jobs of P that are released before t
abbrev pub released_before : Workload → (ℕ → ℕ → Bool) → ℕ → ℕ → ℕ → Bool
released_before W P t i l = P i l && ltb (W.release i l) t

-- their work
unfoldable pub wanted : Workload → ℕ → (ℕ → ℕ → Bool) → Execution → ℕ → ℕ
wanted W m P e t = sum_jobs W.tasks m (only (released_before W P t) e)

-- P has with a job all that go before it, and no job with a number from m on
pub record Urgent (W : Workload) (m : ℕ) (P : ℕ → ℕ → Bool) : Type 0 where
  pub closed : (i l a b : ℕ) → P a b ≡ true → Before W i l a b → P i l ≡ true
  pub low : (i l : ℕ) → i < W.tasks → P i l ≡ true → l < m

-- ---- runs by earliest deadline first

module _ (W : Workload) (e : Execution) (r : Run) (o : ObeysEdf W e r) where
  pub served_most : (i l t : ℕ) → served r i l t ≤ e i l
  served_most i l zero = omega arith
  served_most i l (suc t) = elim (cases_tick r i l t) [
    | inl here ↦ omega (arith, here, o.serves_pending t i l here.0)
    | inr stays ↦ omega (arith, stays, served_most i l t)
  ]

  pub served_early : (i l t : ℕ) → t ≤ W.release i l → served r i l t ≡ 0
  served_early i l t h = served_none r i l (W.release i l) (λ u g. (o.serves_pending u i l g).released) t h

  module _ (m : ℕ) (P : ℕ → ℕ → Bool) where
    given_most : (t i l : ℕ) → only P (λ i l. served r i l t) i l ≤ only (released_before W P t) e i l
    given_most t i l = grind (arith, nat_tests, served_most i l t, served_early i l t)

    given_wanted : (t : ℕ) → given W.tasks m P r t ≤ wanted W m P e t
    unfolding given wanted
    given_wanted t = grind (arith, jobs_le, given_most)

    -- all that is wanted is given: each job of P that is released is done
    pub all_done : (t : ℕ) → wanted W m P e t ≤ given W.tasks m P r t →
        (i l : ℕ) → i < W.tasks → l < m → P i l ≡ true → W.release i l < t → e i l ≤ served r i l t
    unfolding given wanted
    all_done t h i l task low p early =
        let less = jobs_lt W.tasks m (only P (λ i l. served r i l t)) (only (released_before W P t) e) i l (λ a b _ _. given_most t a b) task low in
        grind (arith, nat_tests, less)

    -- no job of P is pending: all that is wanted after the tick is given before it
    none_pending : (t : ℕ) → ((a b : ℕ) → P a b ≡ true → Pending W e r t a b → ⊥) → wanted W m P e (suc t) ≤ given W.tasks m P r t
    unfolding given wanted
    none_pending t none = jobs_le W.tasks m _ _ (λ i l a _. grind (arith, nat_tests, none i l))

    module _ (u : Urgent W m P) where
      one_served : (t a b : ℕ) → r t ≡ serves a b → P a b ≡ true → given W.tasks m P r t < given W.tasks m P r (suc t)
      unfolding given
      one_served t a b h p =
          let task = (o.serves_pending t a b h).task in
          jobs_lt W.tasks m _ _ a b (λ i l _ _. grind arith) task (u.low a b task p) (grind (arith, cases_tick r a b t))

      cases_urgent : (t : ℕ) → (wanted W m P e (suc t) ≤ given W.tasks m P r t) ⊎ (given W.tasks m P r t < given W.tasks m P r (suc t))
      cases_urgent t = elim (cases_slot (r t)) [
        | inl none ↦ inl (none_pending t (λ a b _ q. o.idles t none a b q))
        | inr (i, l, h) ↦ elim (cases_Bool (P i l)) [
          | inl p ↦ inr (one_served t i l h p)
          | inr p ↦ inl (none_pending t (λ a b pa q. grind (arith, u.closed i l a b pa, o.serves_first t i l h a b q)))
        ]
      ]

      pub greedy : Greedy (given W.tasks m P r) (wanted W m P e)
      unfolding given wanted
      greedy = record {
        none_served = jobs_none W.tasks m _ (λ i l _ _. grind arith);
        none_released = jobs_none W.tasks m _ (λ i l _ _. grind (arith, nat_tests));
        step = λ t. omega (arith, cases_urgent t, given_wanted (suc t), given_grows W.tasks m P r t, given_slow W.tasks m P r t);
      }
