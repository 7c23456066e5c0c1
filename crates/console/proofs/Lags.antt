-- A source under one lag, or under two, by its meaning.
use Rattle.std.proofs.Common.{◌≡◌, ℕ, List, [], ◌∷◌, length, slice_index, refl, arith}
use Rattle.model.specs.Sources.{Meaning, late}
use Rattle.console.specs.Placements.{lagged}

pub lagged-one : (lags : List ℕ) (m : Meaning) → length lags ≡ 1 → lagged lags m ≡ late (slice_index lags 0) m
lagged-one [] m h = absurd (omega arith)
lagged-one (lag ∷ []) m h = refl
lagged-one (lag ∷ more ∷ rest) m h = absurd (omega arith)

pub lagged-two : (lags : List ℕ) (m : Meaning) → length lags ≡ 2 → lagged lags m ≡ late (slice_index lags 0) (late (slice_index lags 1) m)
lagged-two [] m h = absurd (omega arith)
lagged-two (outer ∷ []) m h = absurd (omega arith)
lagged-two (outer ∷ inner ∷ []) m h = refl
lagged-two (outer ∷ inner ∷ more ∷ rest) m h = absurd (omega arith)
