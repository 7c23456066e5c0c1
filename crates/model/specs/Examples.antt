-- Tasks that share a core, worked out: two that fit, what a third one does to them, and a tie. Names no program.
use Rattle.std.specs.Prelude.{◌≡◌, ℕ, ◌≤◌, List, [], ◌∷◌}
use Rattle.model.specs.Jobs.{Row}
use Rattle.model.specs.Workloads.{workload, Sound}
use Rattle.model.specs.Runs.{Run, Feasible}
use Rattle.model.specs.Edf.{ObeysEdf}
use Rattle.model.specs.Demand.{demand, Overloaded, Overload, NoOverload}
use Rattle.model.specs.Finishes.{Ends, Told}

-- released at 2 and at 12, due at 8 and at 18
abbrev pub first : Row
first = record { number = 1; core = 0; memory = 2; compute = 3; deadline = 8; period = 10; offsets = 0 ∷ 0 ∷ [] }

-- released at 5, due at 15
abbrev pub second : Row
second = record { number = 2; core = 0; memory = 3; compute = 5; deadline = 15; period = 20; offsets = 2 ∷ [] }

-- released at 6, due at 12
abbrev pub third : ℕ → Row
third compute = record { number = 3; core = 0; memory = 1; compute = compute; deadline = 12; period = 20; offsets = 5 ∷ [] }

abbrev pub two : List Row
two = first ∷ second ∷ []

abbrev pub three : ℕ → List Row
three compute = first ∷ second ∷ third compute ∷ []

-- two tasks that are due at 8, released at 1 and at 2: the one with the smaller number stands second
abbrev pub tied : List Row
tied =
    record { number = 7; core = 0; memory = 1; compute = 2; deadline = 8; period = 10; offsets = 0 ∷ [] } ∷
    record { number = 4; core = 0; memory = 1; compute = 2; deadline = 8; period = 10; offsets = 1 ∷ [] } ∷ []

-- the two tasks fit
pub record TwoFit : Type 0 where
  pub sound : Sound 20 two
  pub no_overload : NoOverload (workload two) 20
  pub first_ends : Told two 0 0 5 × Told two 0 1 5
  pub second_ends : Told two 1 0 10

-- with a third task of 5 ticks the interval from 2 to 15 is full and not overloaded
pub record ThreeFill : Type 0 where
  pub sound : Sound 20 (three 5)
  pub full : demand (workload (three 5)) 2 15 ≡ 13
  pub no_overload : NoOverload (workload (three 5)) 20
  pub feasible : Feasible (workload (three 5))
  pub first_ends : Told (three 5) 0 0 5 × Told (three 5) 0 1 8
  pub second_ends : Told (three 5) 1 0 15
  pub third_ends : Told (three 5) 2 0 11

-- with one of 6 ticks it is overloaded, which no interval of the cycle that begins at 0 shows
pub record ThreeOverload : Type 0 where
  pub sound : Sound 20 (three 6)
  pub demanded : demand (workload (three 6)) 2 15 ≡ 14
  pub overload : Overload (workload (three 6)) 20 2 15
  pub from_start : demand (workload (three 6)) 0 15 ≡ 14
  pub none_from_start : (t : ℕ) → t ≤ 20 → Overloaded (workload (three 6)) 0 t → ⊥
  pub infeasible : Feasible (workload (three 6)) → ⊥
  -- and a third task that takes 6 ticks where 5 were its worst case makes the second, due at 15, end at 16
  pub too_long : (r : Run) → ObeysEdf (workload (three 5)) (workload (three 6)).wcet r → Ends (workload (three 6)).wcet r 1 0 16

-- at equal deadlines the smaller number goes first: it interrupts the other at 2, and is done before it
pub record TieGoesByNumber : Type 0 where
  pub sound : Sound 10 tied
  pub larger_ends : Told tied 0 0 5
  pub smaller_ends : Told tied 1 0 4
