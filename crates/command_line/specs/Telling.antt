-- When a refusal is told in words. (This project's own choice.)
use Rattle.std.specs.Prelude.{Bool, true, false, ◌||◌}
use Rattle.command_line.specs.declared.telling.Telling.{Telling}
use Rattle.command_line.specs.declared.telling.Telling.TheVariants.{Auto, Always, Never}

-- as the option says; where it says nothing, if standard error is a terminal or a source is a file that was named
abbrev pub is_explained : Telling → Bool → Bool → Bool
is_explained Auto is_terminal has_files = is_terminal || has_files
is_explained Always is_terminal has_files = true
is_explained Never is_terminal has_files = false
