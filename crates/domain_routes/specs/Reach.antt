-- How far the routes of a domain go, and how soon they are all right. `dist v u` is the distance of node u to node v at rest.
use Rattle.std.specs.Prelude.{ℕ, suc, zero, ◌+◌, max, min, nat_lt, if◌then◌else◌}

-- the greatest value at the numbers below one; 0 where there are none
abbrev pub greatest_below : ℕ → (ℕ → ℕ) → ℕ
greatest_below zero f = 0
greatest_below (suc n) f = max (greatest_below n f) (f n)

-- a distance counts where it is below a limit
abbrev pub counted : ℕ → ℕ → ℕ
counted limit d = if nat_lt d limit then d else 0

-- the greatest of those that count, to one destination and to all
abbrev pub greatest_to : ℕ → ℕ → (ℕ → ℕ) → ℕ
greatest_to size limit dist = greatest_below size (λ u. counted limit (dist u))

abbrev pub greatest : ℕ → ℕ → (ℕ → ℕ → ℕ) → ℕ
greatest size limit dist = greatest_below size (λ v. greatest_to size limit (dist v))

-- the longest route that there is: a node that is out of reach has the size for its distance
abbrev pub longest : ℕ → (ℕ → ℕ → ℕ) → ℕ
longest size dist = greatest size size dist

-- after how many phases all is told: one more than the longest route; or as many as there are nodes, where one is out of reach of another
abbrev pub phases_to_rest : ℕ → (ℕ → ℕ → ℕ) → ℕ
phases_to_rest size dist = min size (greatest size (size + 1) dist + 1)
