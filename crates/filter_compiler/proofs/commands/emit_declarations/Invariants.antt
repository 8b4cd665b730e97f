use Rattle.std.proofs.Common.{map, take}
use Rattle.std.specs.Prelude.{flat_map}
use Rattle.filter_syntax.specs.SyntaxCommands.{view_decl}
use Rattle.filter_compiler.specs.InstructionPlaces.{decl_places}
use Rattle.filter_compiler.specs.Translation.{declarations_code}
use Rattle.filter_compiler.specs.Written.{Notes, Puts}
use Rattle.filter_compiler.proofs.commands.emit_declarations.Given as goal

-- the declarations so far are written
abbrev pub invariant-loop-number : goal.invariant-loop-number
invariant-loop-number l =
    Puts l.initial.out l.out (declarations_code 0 (map view_decl (take l.number l.variables)))
    × Notes l.initial.out l.out (flat_map decl_places (take l.number l.variables))
