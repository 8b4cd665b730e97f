-- The histories that a command can ask for. (This project's own choice.)
use Rattle.std.specs.Prelude.{ℕ, ◌≤◌, Option, IfSome}
use Rattle.route_history.specs.Limits.{largest_limit}

-- a limit of a history, if one is given: a history has at least one entry
abbrev pub IsLimit : Option ℕ → Type 0
IsLimit limit = IfSome limit (λ n. (1 ≤ n) × (n ≤ largest_limit))
