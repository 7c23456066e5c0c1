-- The first job of a set, in the order of earliest deadline first, or that the set has none.
use Rattle.std.proofs.Common.{◌≡◌, ℕ, zero, suc, ◌<◌, ◌⊎◌, inl, inr, arith}
use Rattle.model.specs.Workloads.{Workload}
use Rattle.model.specs.Runs.{Slot, idle, serves}
use Rattle.model.specs.Edf.{Before}
use Rattle.model.proofs.Priorities.{before_either}

abbrev pub Job : Type 0
Job = ℕ × ℕ

module _ (W : Workload) where
  abbrev pub GoesBefore : Job → Job → Type 0
  GoesBefore x y = Before W x.0 x.1 y.0 y.1

  abbrev pub Choice : (Job → Type 0) → Type 0
  Choice Q = ((y : Job) → Q y → ⊥) ⊎ ((x : Job) × Q x × ((y : Job) → Q y → GoesBefore x y))

  choose_either : (P Q : Job → Type 0) → Choice P → Choice Q → Choice (λ x. P x ⊎ Q x)
  choose_either P Q (inl n) (inl m) = grind arith
  choose_either P Q (inl n) (inr (x, q, f)) = inr (x, inr q, grind arith)
  choose_either P Q (inr (x, p, f)) (inl m) = inr (x, inl p, grind arith)
  choose_either P Q (inr (x, p, f)) (inr (z, q, g)) = elim (before_either W x.0 x.1 z.0 z.1) [
    | inl a ↦ inr (x, inl p, λ y h. grind (arith, f y, g y))
    | inr a ↦ inr (z, inr q, λ y h. grind (arith, f y, g y))
  ]

  choose_same : (P Q : Job → Type 0) → ((x : Job) → P x → Q x) → ((x : Job) → Q x → P x) → Choice P → Choice Q
  choose_same P Q to from c = grind arith

  pub choose_below : (Q : ℕ → Job → Type 0) → ((k : ℕ) → Choice (Q k)) → (n : ℕ) → Choice (λ x. (k : ℕ) × (k < n) × Q k x)
  choose_below Q h zero = inl (λ y q. omega arith)
  choose_below Q h (suc n) = choose_same (λ x. ((k : ℕ) × (k < n) × Q k x) ⊎ Q n x) (λ x. (k : ℕ) × (k < suc n) × Q k x)
      (λ x p. grind arith) (λ x p. grind arith) (choose_either _ _ (choose_below Q h n) (h n))

  pub slot_of : (Q : Job → Type 0) → Choice Q → Slot
  slot_of Q (inl n) = idle
  slot_of Q (inr (x, p, f)) = serves x.0 x.1

  pub slot_idle : (Q : Job → Type 0) (c : Choice Q) → slot_of Q c ≡ idle → (y : Job) → Q y → ⊥
  unfolding slot_of
  slot_idle Q c e y q = grind arith

  pub slot_serves : (Q : Job → Type 0) (c : Choice Q) (i l : ℕ) → slot_of Q c ≡ serves i l → Q (i, l) × ((y : Job) → Q y → GoesBefore (i, l) y)
  unfolding slot_of
  slot_serves Q c i l e = grind arith
