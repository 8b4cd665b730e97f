-- Warnings that are found at one instruction after another. (This project's own choice.)
use Rattle.std.specs.Prelude.{ℕ, zero, suc, List, [], ◌++◌, Option, option_to_list}
use Rattle.filter_lint.specs.declared.warning.Warning.{Warning}

-- those of the first n instructions, in order, where it is known what is said of each
unfoldable pub below : (ℕ → Option Warning) → ℕ → List Warning
below said zero = []
below said (suc n) = below said n ++ option_to_list (said n)

-- the same where more than one may be said of each
unfoldable pub all_of : (ℕ → List Warning) → ℕ → List Warning
all_of said zero = []
all_of said (suc n) = all_of said n ++ said n
