-- The order of phases and of ready jobs: field by field, and the first field that differs decides.
use Rattle.std.specs.Prelude.{ℕ, Bool, true, false, cond, List, [], ◌∷◌, ◌==◌, nat_lt}
use Rattle.queue.specs.declared.entries.Phase.{Phase}
use Rattle.queue.specs.declared.entries.Ready.{Ready}

-- the first numbers are at or before the second
abbrev pub lexicographic : List ℕ → List ℕ → Bool
lexicographic [] ys = true
lexicographic (x ∷ xs) [] = false
lexicographic (x ∷ xs) (y ∷ ys) = cond (x == y) (lexicographic xs ys) (nat_lt x y)

-- by start tick, then task, job and length
abbrev pub phase_key : Phase → List ℕ
phase_key p = p.start ∷ p.task ∷ p.job ∷ p.length ∷ []

abbrev pub phase_precedes : Phase → Phase → Bool
phase_precedes p q = lexicographic (phase_key p) (phase_key q)

-- by deadline, then task, job and ticks left
abbrev pub ready_key : Ready → List ℕ
ready_key r = r.deadline ∷ r.task ∷ r.job ∷ r.left ∷ []

abbrev pub ready_precedes : Ready → Ready → Bool
ready_precedes r s = lexicographic (ready_key r) (ready_key s)
