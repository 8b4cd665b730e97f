-- The parts of a `case`, as a walk over them has put them into an output.
use Rattle.std.proofs.Common.{◌≡◌, Vec, Global, List, [], ◌∷◌, map, sym, ap, subst, ◌∙◌}
use Rattle.filter_code.specs.declared.instruction.Instr.{Instr}
use Rattle.filter_syntax.specs.SyntaxCommands.{CommandsView, DeclView, commands_of, else_label, no_parts}
use Rattle.filter_syntax.specs.SyntaxCommands.{part_then, parts_of, view_command, view_label, view_part}
use Rattle.filter_syntax.specs.declared.tree.command.Command.{Command}
use Rattle.filter_syntax.specs.declared.tree.command.Label.{Label}
use Rattle.filter_compiler.specs.SetOrder.{SetCounts}
use Rattle.filter_compiler.specs.Translation.{commands_code}
use Rattle.filter_compiler.specs.Written.{Emits, IsCounted, commands_part, parts_part}
use Rattle.filter_compiler.specs.declared.numbers.SetNumbers.{SetNumbers}
use Rattle.filter_compiler.specs.declared.output.Output.{Output}
use Rattle.filter_compiler.proofs.Puts.{past_none}

-- the view of parts, by the first of them
pub viewed : (parts : List (Label × Vec Command Global)) (x : Label × Vec Command Global) (l : Label) (commands : List Command)
    (more : List (Label × Vec Command Global)) → parts ≡ x ∷ more → x.0 ≡ l → commands ≡ x.1.items
    → parts_of (map view_part parts) ≡ part_then (view_label l) (commands_of (map view_command commands)) (parts_of (map view_part more))
viewed parts x l commands more is labelled are =
    ap (λ (ps : List (Label × Vec Command Global)). parts_of (map view_part ps)) is
    ∙ (ap (λ (k : Label). part_then (view_label k) (commands_of (map view_command x.1.items)) (parts_of (map view_part more))) labelled
    ∙ ap (λ (cs : List Command). part_then (view_label l) (commands_of (map view_command cs)) (parts_of (map view_part more))) (sym are))

-- after the last part comes the `else` part, whose sets are numbered already
pub end_emits : {a b : Output} {k j l : SetNumbers} (decls : List DeclView) (argument : List Instr) (commands : CommandsView)
    (m : SetCounts) → IsCounted m j → Emits a b j l (commands_part decls commands)
    → Emits a b k k (parts_part decls argument (commands_code decls m commands) no_parts)
end_emits {k = k} decls argument commands m counted emits = record {
  puts = λ n first. emits.puts m counted;
  counts = λ n first. subst (λ x. IsCounted x k) (past_none n) first;
}

pub no_parts_emit : {a b : Output} {k j l : SetNumbers} (decls : List DeclView) (argument : List Instr) (commands : CommandsView)
    (m : SetCounts) (parts : List (Label × Vec Command Global)) → parts ≡ [] → IsCounted m j
    → Emits a b j l (commands_part decls commands)
    → Emits a b k k (parts_part decls argument (commands_code decls m commands) (parts_of (map view_part parts)))
no_parts_emit {a} {b} {k} decls argument commands m parts none counted emits =
    subst (λ (ps : List (Label × Vec Command Global)). Emits a b k k (parts_part decls argument (commands_code decls m commands) (parts_of (map view_part ps))))
    (sym none) (end_emits decls argument commands m counted emits)
