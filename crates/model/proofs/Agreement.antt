-- Runs that obey earliest deadline first, with the same execution, are alike.
use Rattle.std.proofs.Common.{◌≡◌, ℕ, zero, suc, ◌<◌, ◌≤◌, refl, arith}
use Rattle.model.specs.Workloads.{Workload}
use Rattle.model.specs.Runs.{Slot, idle, serves, Run, served}
use Rattle.model.specs.Edf.{Execution, Pending, Before, ObeysEdf}
use Rattle.model.proofs.Regularity.{Ordered}
use Rattle.model.proofs.Priorities.{before_both}

-- tick t is rightly given to nobody, or to the job
abbrev pub ObeysAt : Workload → Execution → Run → ℕ → Slot → Type 0
ObeysAt W e r t idle = (a b : ℕ) → Pending W e r t a b → ⊥
ObeysAt W e r t (serves i l) = Pending W e r t i l × ((a b : ℕ) → Pending W e r t a b → Before W i l a b)

pub obeys_at : (W : Workload) (e : Execution) (r : Run) → ObeysEdf W e r → (t : ℕ) → ObeysAt W e r t (r t)
obeys_at W e r o t = grind arith

module _ (W : Workload) (ord : Ordered W) (e : Execution) where
  -- where both have served each job alike so far
  module _ (r s : Run) (t : ℕ) (same : (i l : ℕ) → served r i l t ≡ served s i l t) where
    one_slot : (x y : Slot) → ObeysAt W e r t x → ObeysAt W e s t y → x ≡ y
    one_slot x y p q = grind (arith, before_both W ord)

  -- runs that obey at each tick before n
  pub served_alike : (r s : Run) (n : ℕ) →
      ((t : ℕ) → t < n → ObeysAt W e r t (r t)) → ((t : ℕ) → t < n → ObeysAt W e s t (s t)) →
      (t : ℕ) → t ≤ n → (i l : ℕ) → served r i l t ≡ served s i l t
  served_alike r s n p q zero h i l = refl
  served_alike r s n p q (suc t) h i l =
      let same = served_alike r s n p q t (omega arith) in
      let slot : r t ≡ s t = one_slot r s t same (r t) (s t) (p t h) (q t h) in
      cc (same i l)

  module _ (r s : Run) (o : ObeysEdf W e r) (p : ObeysEdf W e s) where
    pub served_same : (i l t : ℕ) → served r i l t ≡ served s i l t
    served_same i l t = served_alike r s t (λ u _. obeys_at W e r o u) (λ u _. obeys_at W e s p u) t (omega arith) i l

    pub one_run : (t : ℕ) → r t ≡ s t
    one_run t = one_slot r s t (λ i l. served_same i l t) (r t) (s t) (obeys_at W e r o t) (obeys_at W e s p t)
