-- The jobs repeat with the cycle and no window crosses its end, so the first cycle tells of all.
use Rattle.std.proofs.Common.{◌≡◌, ℕ, zero, suc, ◌+◌, ◌-◌, ◌*◌, ◌<◌, ◌≤◌, ◌⊎◌, refl, inl, inr, le-mul_of_pos_right, arith}
use Rattle.std.proofs.lemmas.Bool.Decides.{nat_tests}
use Rattle.model.specs.Workloads.{Workload}
use Rattle.model.specs.Runs.{Run, served, InWindows, MeetsDeadlines}
use Rattle.model.specs.Edf.{WorstCaseRun}
use Rattle.model.specs.Demand.{inside, demand, Overloaded, IsRelease, IsDeadline, NoOverload}
use Rattle.model.proofs.Regularity.{Ordered, Cyclic}
use Rattle.model.proofs.Sums.{sum_le, sum_shift}
use Rattle.model.proofs.JobSums.{only}
use Rattle.model.proofs.Service.{served_grows}
use Rattle.model.proofs.Overloads.{none_inside_from, done_by_deadline}

module _ (W : Workload) (H : ℕ) (many : ℕ → ℕ) (ord : Ordered W) (y : Cyclic W H many) where
  -- a job after the first cycle has its window one cycle after that of an earlier job
  earlier : (i l : ℕ) → i < W.tasks → many i ≤ l → (W.release i l ≡ H + W.release i (l - many i)) × (W.deadline i l ≡ H + W.deadline i (l - many i))
  earlier i l t h = grind (arith, y.again_release i (l - many i) t, y.again_deadline i (l - many i) t)

  -- what is released within the first cycle is a job of it
  pub in_first : (i l : ℕ) → i < W.tasks → W.release i l < H → l < many i
  in_first i l t h = grind (arith, earlier i l t)

  past_first : (i l : ℕ) → i < W.tasks → H < W.deadline i l → many i ≤ l
  past_first i l t h = grind (arith, y.first i l t)

  demand_shift : (t u : ℕ) → demand W (H + t) (H + u) ≤ demand W t u
  demand_shift t u = sum_le W.tasks _ _ (λ i p. sum_shift (many i) u (H + u) (only (inside W (H + t) (H + u)) W.wcet i) (only (inside W t u) W.wcet i)
      (λ l q. grind (arith, nat_tests, y.first i l p q, ord.window i l p))
      (λ l. grind (arith, nat_tests, y.again_release i l p, y.again_deadline i l p, y.again_wcet i l p))
      (none_inside_from W ord t u i p))

  -- the cycle c begins at c * H: a job's window lies before it, or after it
  cases_start : (c i l : ℕ) → i < W.tasks → (W.deadline i l ≤ c * H) ⊎ (c * H ≤ W.release i l)
  cases_start zero i l t = inr (omega arith)
  cases_start (suc c) i l t = grind (arith, y.first i l t, earlier i l t, cases_start c i (l - many i) t)

  module _ (free : NoOverload W H) where
    -- no interval from a release to a deadline within one cycle, the first or a later one, is overloaded
    never_overloaded : (c t1 t2 : ℕ) → c * H ≤ t1 → t2 ≤ suc c * H → IsRelease W t1 → IsDeadline W t2 → Overloaded W t1 t2 → ⊥
    never_overloaded zero t1 t2 x z released due over = free t1 t2 (record { released = released; due = due; in_cycle = omega arith; overloaded = over })
    never_overloaded (suc c) t1 t2 x z (i, l, p, e) (a, b, q, f) over =
        let t1' = W.release i (l - many i) in
        let t2' = W.deadline a (b - many a) in
        let back1 : t1 ≡ H + t1' = omega (arith, earlier i l p (past_first i l p (omega (arith, ord.window i l p)))) in
        let back2 : t2 ≡ H + t2' = omega (arith, earlier a b q (past_first a b q (omega (arith, over.0)))) in
        never_overloaded c t1' t2' (omega arith) (omega arith) (i, l - many i, p, refl) (a, b - many a, q, refl) (omega (arith, rw (back1, back2) at over, demand_shift t1' t2'))

    module _ (r : Run) (o : WorstCaseRun W r) where
      done_in_cycles : (c i l : ℕ) → i < W.tasks → W.deadline i l ≤ c * H → W.wcet i l ≤ served r i l (W.deadline i l)
      done_in_cycles zero i l t h = absurd (omega (arith, ord.window i l t))
      done_in_cycles (suc c) i l t h = elim (cases_start c i l t) [
        | inl old ↦ done_in_cycles c i l t old
        | inr new ↦ done_by_deadline W ord r o (c * H) (W.deadline i l)
            (λ a b p lt. grind (arith, cases_start c a b p, done_in_cycles c a b p, served_grows r a b (W.deadline a b) (c * H)))
            (omega (arith, ord.window i l t))
            (λ t1 x released over. never_overloaded c t1 (W.deadline i l) x h released (i, l, t, refl) over)
            i l t refl
      ]

      pub meets : MeetsDeadlines W r
      meets i l t = done_in_cycles (W.deadline i l) i l t (le-mul_of_pos_right (W.deadline i l) y.some)

      pub in_windows : InWindows W r
      in_windows t i l e =
          let q = o.serves_pending t i l e in
          let early : t < W.deadline i l = grind (arith, meets i l, served_grows r i l (W.deadline i l) t) in omega (arith, q, early)
