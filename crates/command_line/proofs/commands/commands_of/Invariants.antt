use Rattle.std.proofs.Common.{◌≡◌, false, map, take}
use Rattle.std.specs.List.{All}
use Rattle.clap.specs.Words.{shape_of}
use Rattle.command_line.specs.Parameters.{command_app, has_globals}
use Rattle.command_line.proofs.commands.commands_of.Given as goal

-- the commands so far, of which none has a global argument
abbrev pub invariant-loop-name : goal.invariant-loop-name
invariant-loop-name l =
    (map shape_of l.commands.items ≡ map (λ name. (command_app l.fn.choices name).top) (map (λ entry. entry.0.now) (take l.name-index l.name-items)))
    × All (λ c. has_globals c ≡ false) l.commands.items
