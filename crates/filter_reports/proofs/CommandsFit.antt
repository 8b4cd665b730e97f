-- The instructions of commands and declarations fit their fields in a code file.
use Rattle.std.proofs.Common.{◌≡◌, ℕ, zero, suc, ◌+◌, ◌^◌, ◌<◌, ◌≤◌, ◌&&◌, Bool, true, false, List}
use Rattle.std.proofs.Common.{[], ◌∷◌, ◌++◌, length, refl, arith, lit≤, lit<, length-append}
use Rattle.filter_syntax.specs.Syntax.{spelling}
use Rattle.filter_tokens.specs.Lexemes.{Lexeme}
use Rattle.filter_tokens.specs.declared.symbol.Symbol.TheVariants as symbols
use Rattle.filter_syntax.specs.SyntaxCommands.{CommandView, empty, block, if_then, if_else, case, assign}
use Rattle.filter_syntax.specs.SyntaxCommands.{accept, reject, CommandsView, no_commands, command_then}
use Rattle.filter_syntax.specs.SyntaxCommands.{ranges_label, else_label, PartsView, no_parts, part_then}
use Rattle.filter_syntax.specs.SyntaxCommands.{TargetView, to_name, to_metric, to_net, DeclView}
use Rattle.filter_syntax.specs.SyntaxCommands.{spelling_command, spelling_commands, spelling_label, spelling_parts}
use Rattle.filter_syntax.specs.SyntaxCommands.{FitsCommand, FitsCommands, FitsParts}
use Rattle.filter_syntax.specs.declared.tree.decl.Kind.{Kind}
use Rattle.filter_syntax.specs.declared.tree.decl.Kind.TheVariants as kind
use Rattle.filter_code.specs.declared.instruction.Instr.{Instr}
use Rattle.filter_code.specs.declared.instruction.Instr.TheVariants as instr
use Rattle.filter_compiler.specs.SetOrder.{Sets, SetCounts, past, with_sets}
use Rattle.filter_compiler.specs.Translation.{command_code, command_sets, commands_code, commands_sets, declarations_code}
use Rattle.filter_compiler.specs.Translation.{expression_code, first_value, has_labelled, if_code, if_else_code}
use Rattle.filter_compiler.specs.Translation.{opening_code, opening_sets, part_code, parts_code, parts_sets, ranges_set, sets_of, target_code}
use Rattle.code_file.specs.Spelling.{IsInstruction}
use Rattle.code_file.specs.declared.version.Version.TheVariants as version
use Rattle.filter_reports.proofs.LexemeLimits.{AreSmall, IsSmall, parts_of_all}
use Rattle.filter_reports.proofs.InstructionsFit.{AreFit, AreNumbered, expression_fits, first_numbered, joined_fit, then_numbered, variable_fits}

if_length : (test chosen : List Instr) → length (if_code test chosen) ≡ length test + (1 + length chosen)
if_length test chosen = omega (arith, length-append test (instr.JumpIfNot (length chosen) ∷ chosen))

if_fits : (test chosen : List Instr) → length (if_code test chosen) ≤ 1024 → AreFit test → AreFit chosen → AreFit (if_code test chosen)
if_fits test chosen few a b =
    let skipped : length chosen < 2 ^ 16 = omega (arith, few, if_length test chosen) in
    joined_fit test (instr.JumpIfNot (length chosen) ∷ chosen) a ((skipped, refl), b)

if_else_length : (test chosen other : List Instr) → length (if_else_code test chosen other) ≡ length test + (length chosen + (length other + 2))
if_else_length test chosen other =
    let last = instr.Jump (length other) ∷ other in
    omega (arith, length-append test (instr.JumpIfNot (length chosen + 1) ∷ (chosen ++ last)), length-append chosen last)

if_else_fits : (test chosen other : List Instr) → length (if_else_code test chosen other) ≤ 1024 → AreFit test → AreFit chosen → AreFit other
    → AreFit (if_else_code test chosen other)
if_else_fits test chosen other few a b c =
    let last = instr.Jump (length other) ∷ other in
    let one : length chosen + 1 < 2 ^ 16 = omega (arith, few, if_else_length test chosen other) in
    let two : length other < 2 ^ 16 = omega (arith, few, if_else_length test chosen other) in
    joined_fit test (instr.JumpIfNot (length chosen + 1) ∷ (chosen ++ last)) a ((one, refl), joined_fit chosen last b ((two, refl), c))

part_length : (argument : List Instr) (set : ℕ) (commands rest : List Instr)
    → length (part_code argument set commands rest) ≡ length argument + (length commands + (length rest + 3))
part_length argument set commands rest =
    omega (arith, if_else_length (argument ++ instr.InSet set ∷ []) commands rest, length-append argument (instr.InSet set ∷ []))

part_fits : (argument : List Instr) (set : ℕ) (commands rest : List Instr) → length (part_code argument set commands rest) ≤ 1024 → set < 256
    → AreFit argument → AreFit commands → AreFit rest → AreFit (part_code argument set commands rest)
part_fits argument set commands rest few numbered a b c =
    if_else_fits (argument ++ instr.InSet set ∷ []) commands rest few (joined_fit argument (instr.InSet set ∷ []) a ((numbered, refl), tt)) b c

-- what a set of ranges that comes next is numbered by
next_number : (before : SetCounts) (a b : Sets) → 0 < length a.ints → AreNumbered before (with_sets a b) → before.ints < 256
next_number before a b some h = omega (arith, h.ints, length-append a.ints b.ints)

opening_length : (is_labelled : Bool) (argument : List Instr) (set : ℕ) (rest : List Instr)
    → length rest ≤ length (opening_code is_labelled argument set rest)
opening_length true argument set rest = omega arith
opening_length false argument set rest = omega (arith, part_length argument set [] rest)

opening_fit : (is_labelled : Bool) (argument : List Instr) (before : SetCounts) (others : Sets) (rest : List Instr)
    → length (opening_code is_labelled argument before.ints rest) ≤ 1024 → AreNumbered before (with_sets (opening_sets is_labelled) others)
    → AreFit argument → AreFit rest → AreFit (opening_code is_labelled argument before.ints rest)
opening_fit true argument before others rest few numbered a b = b
opening_fit false argument before others rest few numbered a b =
    part_fits argument before.ints [] rest few (next_number before (ranges_set []) others (lit< tt) numbered) a tt b

-- the argument is in the code of a part with a label
argument_length : (decls : List DeclView) (argument other : List Instr) (before : SetCounts) (parts : PartsView) → has_labelled parts ≡ true
    → length argument ≤ length (parts_code decls argument other before parts)
argument_length decls argument other before no_parts labelled = cc
argument_length decls argument other before (part_then (ranges_label ranges) commands more) labelled =
    let middle = past before (ranges_set ranges) in
    omega (
      arith,
      part_length argument before.ints (commands_code decls middle commands)
          (parts_code decls argument other (past middle (commands_sets commands)) more),
    )
argument_length decls argument other before (part_then else_label commands more) labelled =
    argument_length decls argument (commands_code decls before commands) (past before (commands_sets commands)) more labelled

case_length : (is_labelled : Bool) (decls : List DeclView) (argument : List Instr) (set : ℕ) (before : SetCounts) (parts : PartsView)
    → has_labelled parts ≡ is_labelled
    → length argument ≤ length (opening_code is_labelled argument set (parts_code decls argument [] before parts))
case_length true decls argument set before parts labelled = argument_length decls argument [] before parts labelled
case_length false decls argument set before parts labelled =
    omega (arith, part_length argument set [] (parts_code decls argument [] before parts))

-- what is run where no label has the argument is in the code of the parts, if no other `else` follows
other_length : (decls : List DeclView) (argument other : List Instr) (before : SetCounts) (parts : PartsView) (depth : ℕ)
    → FitsParts parts false depth → length other ≤ length (parts_code decls argument other before parts)
other_length decls argument other before no_parts depth fits = omega arith
other_length decls argument other before (part_then (ranges_label ranges) commands more) depth fits =
    let middle = past before (ranges_set ranges) in
    omega (
      arith,
      part_length argument before.ints (commands_code decls middle commands)
          (parts_code decls argument other (past middle (commands_sets commands)) more),
      other_length decls argument other (past middle (commands_sets commands)) more depth fits.2,
    )
other_length decls argument other before (part_then else_label _ more) depth fits = let no = fits.0 in cc

target_fits : (decls : List DeclView) → length decls ≤ 16 → (target : TargetView) → AreFit (target_code decls target)
target_fits decls declared (to_name text) = ((variable_fits decls text declared, refl), tt)
target_fits decls declared to_metric = ((tt, refl), ((tt, refl), ((tt, refl), tt)))
target_fits decls declared to_net = tt

module _ (decls : List DeclView) (declared : length decls ≤ 16) where
  mutual
    command_fits : (before : SetCounts) (x : CommandView) (depth : ℕ) → FitsCommand x depth → AreSmall (spelling_command x)
        → AreNumbered before (command_sets x) → length (command_code decls before x) ≤ 1024 → AreFit (command_code decls before x)
    command_fits before empty depth fits small numbered few = tt
    command_fits before (block body) zero fits small numbered few = absurd fits
    command_fits before (block body) (suc depth) fits small numbered few =
        let here = parts_of_all IsSmall (spelling_commands body) (Lexeme.symbol symbols.RightBrace ∷ []) small.1 in
        commands_fit before body depth fits here.0 numbered few
    command_fits before (if_then test chosen) zero fits small numbered few = absurd fits
    command_fits before (if_then test chosen) (suc depth) fits small numbered few =
        let here = parts_of_all IsSmall (spelling test) (Lexeme.symbol symbols.Then ∷ spelling_command chosen) small.1 in
        let middle = past before (sets_of test) in
        let a = expression_code decls before test in
        let b = command_code decls middle chosen in
        let first : length a ≤ 1024 = omega (arith, few, if_length a b) in
        let second : length b ≤ 1024 = omega (arith, few, if_length a b) in
        if_fits a b few
        (expression_fits decls declared before test depth fits.0 here.0 (first_numbered before (sets_of test) (command_sets chosen) numbered) first)
        (command_fits middle chosen depth fits.1 here.1.1 (then_numbered before (sets_of test) (command_sets chosen) numbered) second)
    command_fits before (if_else test chosen other) zero fits small numbered few = absurd fits.1
    command_fits before (if_else test chosen other) (suc depth) fits small numbered few =
        let last = Lexeme.symbol symbols.Else ∷ spelling_command other in
        let here = parts_of_all IsSmall (spelling test) (Lexeme.symbol symbols.Then ∷ (spelling_command chosen ++ last)) small.1 in
        let branches = parts_of_all IsSmall (spelling_command chosen) last here.1.1 in
        let both = with_sets (command_sets chosen) (command_sets other) in
        let middle = past before (sets_of test) in
        let end = past middle (command_sets chosen) in
        let a = expression_code decls before test in
        let b = command_code decls middle chosen in
        let c = command_code decls end other in
        let rest = then_numbered before (sets_of test) both numbered in
        let first : length a ≤ 1024 = omega (arith, few, if_else_length a b c) in
        let second : length b ≤ 1024 = omega (arith, few, if_else_length a b c) in
        let third : length c ≤ 1024 = omega (arith, few, if_else_length a b c) in
        if_else_fits a b c few
        (expression_fits decls declared before test depth fits.1.0 here.0 (first_numbered before (sets_of test) both numbered) first)
        (command_fits middle chosen depth fits.1.1 branches.0 (first_numbered middle (command_sets chosen) (command_sets other) rest) second)
        (command_fits end other depth fits.1.2 branches.1.1 (then_numbered middle (command_sets chosen) (command_sets other) rest) third)
    command_fits before (case argument parts) zero fits small numbered few = absurd fits
    command_fits before (case argument parts) (suc depth) fits small numbered few =
        let last = Lexeme.symbol symbols.RightBrace ∷ [] in
        let here = parts_of_all IsSmall (spelling argument) (Lexeme.symbol symbols.LeftBrace ∷ (spelling_parts parts ++ last)) small.1 in
        let inside = parts_of_all IsSmall (spelling_parts parts) last here.1.1 in
        let opening = opening_sets (has_labelled parts) in
        let both = with_sets opening (parts_sets parts) in
        let middle = past before (sets_of argument) in
        let end = past middle opening in
        let a = expression_code decls before argument in
        let b = parts_code decls a [] end parts in
        let rest = then_numbered before (sets_of argument) both numbered in
        let first : length a ≤ 1024 = omega (arith, few, case_length (has_labelled parts) decls a middle.ints end parts refl) in
        let second : length b ≤ 1024 = omega (arith, few, opening_length (has_labelled parts) a middle.ints b) in
        let argument_fit =
        expression_fits decls declared before argument depth fits.0 here.0 (first_numbered before (sets_of argument) both numbered) first in
        opening_fit (has_labelled parts) a middle (parts_sets parts) b few rest argument_fit
        (parts_fit a [] end parts true depth fits.1 inside.0 (then_numbered middle opening (parts_sets parts) rest) second argument_fit tt)
    command_fits before (assign target value) depth fits small numbered few =
        let here = parts_of_all IsSmall (spelling value) (Lexeme.symbol symbols.Semicolon ∷ []) small.1.1 in
        let a = expression_code decls before value in
        let first : length a ≤ 1024 = omega (arith, few, length-append a (target_code decls target)) in
        joined_fit a (target_code decls target) (expression_fits decls declared before value depth fits here.0 numbered first)
        (target_fits decls declared target)
    command_fits before (accept has_text) depth fits small numbered few = ((tt, refl), tt)
    command_fits before (reject has_text) depth fits small numbered few = ((tt, refl), tt)

    pub commands_fit : (before : SetCounts) (x : CommandsView) (depth : ℕ) → FitsCommands x depth → AreSmall (spelling_commands x)
        → AreNumbered before (commands_sets x) → length (commands_code decls before x) ≤ 1024 → AreFit (commands_code decls before x)
    commands_fit before no_commands depth fits small numbered few = tt
    commands_fit before (command_then x more) depth fits small numbered few =
        let here = parts_of_all IsSmall (spelling_command x) (spelling_commands more) small in
        let middle = past before (command_sets x) in
        let a = command_code decls before x in
        let b = commands_code decls middle more in
        let first : length a ≤ 1024 = omega (arith, few, length-append a b) in
        let second : length b ≤ 1024 = omega (arith, few, length-append a b) in
        joined_fit a b
        (command_fits before x depth fits.0 here.0 (first_numbered before (command_sets x) (commands_sets more) numbered) first)
        (commands_fit middle more depth fits.1 here.1 (then_numbered before (command_sets x) (commands_sets more) numbered) second)

    parts_fit : (argument other : List Instr) (before : SetCounts) (x : PartsView) (is_first : Bool) (depth : ℕ) → FitsParts x is_first depth
        → AreSmall (spelling_parts x) → AreNumbered before (parts_sets x) → length (parts_code decls argument other before x) ≤ 1024
        → AreFit argument → AreFit other → AreFit (parts_code decls argument other before x)
    parts_fit argument other before no_parts is_first depth fits small numbered few a b = b
    parts_fit argument other before (part_then (ranges_label ranges) commands more) is_first depth fits small numbered few a b =
        let label = ranges_label ranges in
        let after = spelling_commands commands ++ spelling_parts more in
        let here = parts_of_all IsSmall (spelling_label label) (Lexeme.symbol symbols.Colon ∷ after) small in
        let inside = parts_of_all IsSmall (spelling_commands commands) (spelling_parts more) here.1.1 in
        let both = with_sets (commands_sets commands) (parts_sets more) in
        let middle = past before (ranges_set ranges) in
        let end = past middle (commands_sets commands) in
        let c = commands_code decls middle commands in
        let d = parts_code decls argument other end more in
        let rest = then_numbered before (ranges_set ranges) both numbered in
        let first : length c ≤ 1024 = omega (arith, few, part_length argument before.ints c d) in
        let second : length d ≤ 1024 = omega (arith, few, part_length argument before.ints c d) in
        part_fits argument before.ints c d few (next_number before (ranges_set ranges) both (lit< tt) numbered) a
        (commands_fit middle commands depth fits.1 inside.0 (first_numbered middle (commands_sets commands) (parts_sets more) rest) first)
        (parts_fit argument other end more (is_first && true) depth fits.2 inside.1
        (then_numbered middle (commands_sets commands) (parts_sets more) rest) second a b)
    parts_fit argument other before (part_then else_label _ more) false depth fits small numbered few a b = let no = fits.0 in cc
    parts_fit argument other before (part_then else_label commands more) true depth fits small numbered few a b =
        let here = small.1.1 in
        let inside = parts_of_all IsSmall (spelling_commands commands) (spelling_parts more) here in
        let end = past before (commands_sets commands) in
        let c = commands_code decls before commands in
        let first : length c ≤ 1024 = omega (arith, few, other_length decls argument c end more depth fits.2) in
        let start : AreNumbered before (commands_sets commands) = first_numbered before (commands_sets commands) (parts_sets more) numbered in
        let later : AreNumbered end (parts_sets more) = then_numbered before (commands_sets commands) (parts_sets more) numbered in
        parts_fit argument c end more false depth fits.2 inside.1 later few a (commands_fit before commands depth fits.1 inside.0 start first)

first_fits : (k : Kind) → IsInstruction version.Two (first_value k)
first_fits kind.Int = (lit< tt, refl)
first_fits kind.Bool = (tt, refl)
first_fits kind.Ip = (lit< tt, refl)
first_fits kind.Prefix = (lit≤ tt, refl)

pub declarations_fit : (before : ℕ) (decls : List DeclView) → before + length decls ≤ 16 → AreFit (declarations_code before decls)
declarations_fit before [] few = tt
declarations_fit before (d ∷ rest) few =
    let stored : before < 256 = omega (arith, few) in
    (first_fits d.kind, ((stored, refl), declarations_fit (before + 1) rest (omega (arith, few))))
