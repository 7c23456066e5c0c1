-- The order in which earliest deadline first serves jobs, and its most urgent sets.
use Rattle.std.proofs.Common.{◌≡◌, ℕ, ◌<◌, Bool, ◌&&◌, ◌||◌, eqb, ltb, leb, ◌⊎◌, arith}
use Rattle.std.proofs.lemmas.Bool.{leb-true, le-leb}
use Rattle.std.proofs.lemmas.Bool.Decides.{nat_tests}
use Rattle.model.specs.Workloads.{Workload}
use Rattle.model.specs.Edf.{Before}
use Rattle.model.proofs.Regularity.{Ordered, due_far}
use Rattle.model.proofs.Urgent.{Urgent}

module _ (W : Workload) where
  -- ---- the jobs that are due by d are a most urgent set

  abbrev pub due_by : ℕ → ℕ → ℕ → Bool
  due_by d i l = leb (W.deadline i l) d

  pub urgent_due : Ordered W → (d : ℕ) → Urgent W d (due_by d)
  urgent_due o d = record {
    closed = λ i l a b p h. le-leb _ _ (omega (arith, leb-true _ _ p));
    low = λ i l t p. omega (arith, due_far W o i l t, leb-true _ _ p);
  }

  -- ---- the order is total

  pub before_either : (i l a b : ℕ) → Before W i l a b ⊎ Before W a b i l
  before_either i l a b = grind arith

  -- two jobs that each go before the other are one
  pub before_both : Ordered W → (i l a b : ℕ) → i < W.tasks → a < W.tasks → Before W i l a b → Before W a b i l → (i ≡ a) × (l ≡ b)
  before_both o i l a b p q x y = grind (arith, o.numbers i a, o.apart i l b)

  -- ---- the jobs at or before (a, b) are a most urgent set

  abbrev pub at_or_before : ℕ → ℕ → ℕ → ℕ → Bool
  at_or_before a b i l = ltb (W.deadline i l) (W.deadline a b) || (eqb (W.deadline i l) (W.deadline a b) && leb (W.number i) (W.number a))

  pub urgent_before : Ordered W → (a b : ℕ) → Urgent W (W.deadline a b) (at_or_before a b)
  urgent_before o a b = grind (arith, nat_tests, due_far W o)
