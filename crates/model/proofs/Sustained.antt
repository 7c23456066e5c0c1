-- Where no job takes longer, no job is done later.
use Rattle.std.proofs.Common.{◌≡◌, ℕ, suc, ◌+◌, ◌<◌, ◌≤◌, Bool, inl, inr, arith}
use Rattle.std.proofs.lemmas.Bool.{cases_lt}
use Rattle.std.proofs.lemmas.Bool.Decides.{nat_tests}
use Rattle.model.specs.Workloads.{Workload}
use Rattle.model.specs.Runs.{serves, Run, served}
use Rattle.model.specs.Edf.{Execution, ObeysEdf}
use Rattle.model.proofs.Regularity.{Ordered, due_far}
use Rattle.model.proofs.Backlog.{less_left}
use Rattle.model.proofs.JobSums.{jobs_le, jobs_le_both}
use Rattle.model.proofs.Service.{last_tick, served_grows, given}
use Rattle.model.proofs.Urgent.{wanted, all_done, greedy}
use Rattle.model.proofs.Priorities.{before_both, at_or_before, urgent_before}

module _ (W : Workload) (ord : Ordered W) (c e : Execution) (less : (i l : ℕ) → i < W.tasks → e i l ≤ c i l)
    (r s : Run) (o : ObeysEdf W c r) (p : ObeysEdf W e s) (i l : ℕ) (task : i < W.tasks) where
  abbrev first_jobs : ℕ → ℕ → Bool
  first_jobs = at_or_before W i l

  abbrev bound : ℕ
  bound = W.deadline i l

  -- when the job ends in r, nothing is left of it and of what goes before it
  none_left : (f : ℕ) → r f ≡ serves i l → c i l ≤ served r i l (suc f) → wanted W bound first_jobs c (suc f) ≤ given W.tasks bound first_jobs r (suc f)
  unfolding given wanted
  none_left f here done = jobs_le W.tasks bound _ _ (λ a b q _. grind (arith, nat_tests, o.serves_first f i l here a b, before_both W ord a b i l q task))

  wants_no_more : (t : ℕ) → wanted W bound first_jobs e (suc t) + wanted W bound first_jobs c t ≤ wanted W bound first_jobs c (suc t) + wanted W bound first_jobs e t
  unfolding wanted
  wants_no_more t = jobs_le_both W.tasks bound _ _ _ _ (λ a b q _. grind (arith, nat_tests, less a b q))

  -- so nothing is left of them in s either
  none_left_too : (f : ℕ) → r f ≡ serves i l → c i l ≤ served r i l (suc f) → wanted W bound first_jobs e (suc f) ≤ given W.tasks bound first_jobs s (suc f)
  none_left_too f here done =
      let u = urgent_before W ord i l in
      omega (arith, none_left f here done, less_left _ _ _ _ (greedy W c r o bound first_jobs u) (greedy W e s p bound first_jobs u) wants_no_more (suc f))

  pub done_no_later : (t : ℕ) → c i l ≤ served r i l t → e i l ≤ served s i l t
  done_no_later t h = elim (cases_lt 0 (c i l)) [
    | inr none ↦ omega (arith, less i l task)
    | inl some ↦
        let (f, lt, here, done) = last_tick r i l (c i l) t some h in
        let all = all_done W e s p bound first_jobs (suc f) (none_left_too f here done) i l task (due_far W ord i l task) in
        grind (arith, nat_tests, all, o.serves_pending f i l here, served_grows s i l (suc f) t)
  ]
