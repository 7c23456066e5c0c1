-- What a total order is. precedes x y says that x is at or before y. Names no program.
use Rattle.std.specs.Prelude.{◌≡◌, Bool, true, false}

pub record TotalOrder {X : Type 0} (precedes : X → X → Bool) : Type 0 where
  -- of any two, at least one is at or before the other
  pub total : (x y : X) → precedes x y ≡ false → precedes y x ≡ true
  -- two that are each at or before the other are equal
  pub antisymmetric : (x y : X) → precedes x y ≡ true → precedes y x ≡ true → x ≡ y
  -- the order carries over a third
  pub transitive : (x y z : X) → precedes x y ≡ true → precedes y z ≡ true → precedes x z ≡ true
