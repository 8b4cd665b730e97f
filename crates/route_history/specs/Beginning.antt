-- A list that begins another.
use Rattle.std.specs.Prelude.{◌≡◌, List, ◌++◌}

-- the first list begins the second
pub record Begins {A : Type 0} (xs ys : List A) : Type 0 where
  pub rest : List A
  pub is : ys ≡ xs ++ rest
