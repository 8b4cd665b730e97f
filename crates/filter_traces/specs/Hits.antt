-- To which instructions a run came, by the machine's configurations. (This project's own choice.)
use Rattle.std.specs.Prelude.{ℕ, zero, suc, ◌+◌, ◌-◌, ◌^◌, ◌==◌, ◌||◌, Bool, false, min, if◌then◌else◌, length}
use Rattle.filter_code.specs.CodeView.{CodeView}
use Rattle.filter_code.specs.Machine.{State, Going, Ended, after}
use Rattle.filter_code.specs.RouteView.{RouteView}

-- whether a run is at a place: its next instruction is the one there
abbrev pub is_at : ℕ → State → Bool
is_at place (Going c) = c.pc == place
is_at place (Ended end) = false

-- whether the run on a route is at a place in one of its first n states
unfoldable pub comes_within : CodeView → RouteView → ℕ → ℕ → Bool
comes_within program route place zero = false
comes_within program route place (suc n) = comes_within program route place n || is_at place (after program route n)

-- whether the run on a route comes to the instruction at a place
abbrev pub comes_to : CodeView → RouteView → ℕ → Bool
comes_to program route place = comes_within program route place (length program.instrs + 1)

-- a count of 64 bits, and one more where something is so
abbrev pub counted_up : Bool → ℕ → ℕ
counted_up is_so count = if is_so then min (count + 1) (2 ^ 64 - 1) else count
