use Rattle.std.proofs.Common.{◌≡◌, false, map, take}
use Rattle.std.specs.List.{All}
use Rattle.clap.specs.Words.{rule_of}
use Rattle.command_line.specs.Parameters.{rules_of, taken_by}
use Rattle.command_line.proofs.commands.args_of.Given as goal

-- the rules of the entries so far, of which none is global
abbrev pub invariant-loop-name : goal.invariant-loop-name
invariant-loop-name l = (map rule_of l.args.items ≡ rules_of l.choices l.command (map taken_by (take l.name-index l.name-items)))
    × All (λ a. a.global ≡ false) l.args.items
