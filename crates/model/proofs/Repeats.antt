-- A run at the worst case that meets every deadline repeats with the cycle.
use Rattle.std.proofs.Common.{◌≡◌, ℕ, zero, suc, ◌+◌, ◌-◌, ◌<◌, ◌≤◌, ◌↔◌, ◌∙◌, inl, inr, add-zero, add-suc, arith}
use Rattle.model.specs.Workloads.{Workload}
use Rattle.model.specs.Runs.{Slot, idle, serves, Run, served, MeetsDeadlines}
use Rattle.model.specs.Edf.{Before, Pending, WorstCaseRun}
use Rattle.model.specs.Finishes.{Ends}
use Rattle.model.proofs.Regularity.{Ordered, Cyclic}
use Rattle.model.proofs.Service.{cases_slot, cases_tick, served_grows}
use Rattle.model.proofs.Urgent.{served_early}
use Rattle.model.proofs.Agreement.{served_same}

abbrev one_cycle_earlier : (ℕ → ℕ) → Slot → Slot
one_cycle_earlier many idle = idle
one_cycle_earlier many (serves i l) = serves i (l - many i)

module _ (W : Workload) (H : ℕ) (many : ℕ → ℕ) (ord : Ordered W) (y : Cyclic W H many)
    (some : (i l : ℕ) → i < W.tasks → 1 ≤ W.wcet i l) (r : Run) (o : WorstCaseRun W r) (m : MeetsDeadlines W r) where
  -- the run from the second cycle on
  abbrev next : Run
  next t = one_cycle_earlier many (r (H + t))

  past_first : (t i l : ℕ) → r (H + t) ≡ serves i l → many i ≤ l
  past_first t i l h = grind (arith, o.serves_pending (H + t) i l h, m i l, y.first i l, served_grows r i l (W.deadline i l) (H + t))

  from_next : (t i l : ℕ) → next t ≡ serves i l → r (H + t) ≡ serves i (many i + l)
  from_next t i l h = elim (cases_slot (r (H + t))) [
    | inl e ↦ cc
    | inr (a, b, e) ↦ grind (arith, past_first t a b e)
  ]

  same_served : (i l : ℕ) → i < W.tasks → (t : ℕ) → served r i (many i + l) (H + t) ≡ served next i l t
  same_served i l p zero = rw add-zero (served_early W W.wcet r o i (many i + l) H (omega (arith, y.again_release i l p)))
  same_served i l p (suc t) = rw add-suc (grind (arith, cases_tick r i (many i + l) (H + t), cases_tick next i l t, from_next t i l, same_served i l p t))

  pending_same : (t i l : ℕ) → i < W.tasks → Pending W W.wcet r (H + t) i (many i + l) ↔ Pending W W.wcet next t i l
  pending_same t i l p = omega (arith, same_served i l p t, y.again_release i l p, y.again_wcet i l p)

  before_next : (i l a b : ℕ) → i < W.tasks → a < W.tasks → Before W i (many i + l) a (many a + b) → Before W i l a b
  before_next i l a b p q h = grind (arith, y.again_deadline i l p, y.again_deadline a b q)

  next_obeys : WorstCaseRun W next
  next_obeys = record {
    serves_pending = λ t i l h. let q = o.serves_pending (H + t) i (many i + l) (from_next t i l h) in (pending_same t i l q.task).0 q;
    serves_first = λ t i l h a b p.
        let g = from_next t i l h in
        before_next i l a b (o.serves_pending (H + t) i (many i + l) g).task p.task
        (o.serves_first (H + t) i (many i + l) g a (many a + b) ((pending_same t a b p.task).1 p));
    idles = λ t h a b p. o.idles (H + t) (grind arith) a (many a + b) ((pending_same t a b p.task).1 p);
  }

  served_again : (i l : ℕ) → i < W.tasks → (t : ℕ) → served r i (many i + l) (H + t) ≡ served r i l t
  served_again i l p t = same_served i l p t ∙ served_same W ord W.wcet next r next_obeys o i l t

  -- before the second cycle the job of it has had nothing
  not_yet_again : (i l u t : ℕ) → i < W.tasks → Ends W.wcet r i l t → u < H + t → served r i (many i + l) u < W.wcet i (many i + l)
  not_yet_again i l u t p x lt = grind (arith, some i (many i + l) p, served_early W W.wcet r o i (many i + l) u, y.again_release i l p, served_again i l p (u - H), x.no_sooner (u - H), y.again_wcet i l p)

  pub ends_again : (i l t : ℕ) → i < W.tasks → Ends W.wcet r i l t ↔ Ends W.wcet r i (many i + l) (H + t)
  ends_again i l t p = (
    (λ x. record {
      done = omega (arith, x.done, served_again i l p t, y.again_wcet i l p);
      no_sooner = λ u lt. not_yet_again i l u t p x lt;
    }),
    (λ x. record {
      done = omega (arith, x.done, served_again i l p t, y.again_wcet i l p);
      no_sooner = λ u lt. grind (arith, x.no_sooner (H + u), served_again i l p u, y.again_wcet i l p);
    }),
  )
