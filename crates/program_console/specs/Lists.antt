-- A search from the end of a list.
use Rattle.std.specs.Prelude.{Bool, List, Option, reverse}
use Rattle.std.specs.List.{find}

-- the last element of a list at which a test gives true
abbrev pub last_such : {A : Type 0} → (A → Bool) → List A → Option A
last_such test all = find test (reverse all)
