-- A comparison of two lists of numbers, one place on and at its end.
use Rattle.std.proofs.Common.{◌≡◌, ℕ, ◌+◌, ◌<◌, ◌≤◌, true, ltb, List, length, get_or, drop}
use Rattle.std.proofs.lemmas.List.{drop_more, drop_all}
use Rattle.std.proofs.lemmas.Bool.{eq-eqb, ne_eqb}
use Rattle.queue.specs.Keys.{lexicographic}

module _ (xs ys : List ℕ) (i : ℕ) where
  pub places_differ : i < length xs → i < length ys → (get_or xs i 0 ≡ get_or ys i 0 → ⊥)
      → lexicographic (drop i xs) (drop i ys) ≡ ltb (get_or xs i 0) (get_or ys i 0)
  places_differ m n differ =
      let a = drop_more xs i 0 m in let b = drop_more ys i 0 n in let e = ne_eqb (get_or xs i 0) (get_or ys i 0) differ in cc

  pub places_agree : i < length xs → i < length ys → get_or xs i 0 ≡ get_or ys i 0
      → lexicographic (drop i xs) (drop i ys) ≡ lexicographic (drop (i + 1) xs) (drop (i + 1) ys)
  places_agree m n agree =
      let a = drop_more xs i 0 m in let b = drop_more ys i 0 n in let e = eq-eqb (get_or xs i 0) (get_or ys i 0) agree in cc

  pub places_end : length xs ≤ i → lexicographic (drop i xs) (drop i ys) ≡ true
  places_end m = let a = drop_all i xs m in cc
