-- What an output holds once instructions were put into it, one after another, and what is kept of the sets. (This project's own choice.)
use Rattle.std.specs.Prelude.{◌≡◌, ◌↔◌, ◌⊎◌, ℕ, ◌+◌, ◌≤◌, min, true, List, [], ◌∷◌, ◌++◌, length, map, slice_set}
use Rattle.int_sets.specs.Holding.{range_limit}
use Rattle.prefix_patterns.specs.Matching.{pattern_limit}
use Rattle.filter_code.specs.Limits.{instruction_limit, set_limit, int_set_limit}
use Rattle.filter_code.specs.declared.instruction.Instr.{Instr}
use Rattle.filter_code.specs.declared.instruction.Instr.TheVariants as instr
use Rattle.filter_syntax.specs.declared.tree.op.Membership.{Membership}
use Rattle.filter_syntax.specs.declared.tree.op.Op.{Op}
use Rattle.filter_syntax.specs.Syntax.{ExprView, RangeView, SetView}
use Rattle.filter_syntax.specs.SyntaxCommands.{CommandView, CommandsView, DeclView, PartsView}
use Rattle.filter_compiler.specs.Limits.{AreTooMany}
use Rattle.filter_compiler.specs.SetOrder.{Sets, SetCounts, no_sets, none_before, past, with_sets}
use Rattle.filter_compiler.specs.Translation.{sets_of, expression_code, joined_code, member_code, command_sets, command_code}
use Rattle.filter_compiler.specs.Translation.{commands_sets, commands_code, one_set, parts_code, parts_sets, question, ranges_set}
use Rattle.filter_compiler.specs.declared.numbers.SetNumbers.{SetNumbers}
use Rattle.filter_compiler.specs.declared.output.Output.{Output}
use Rattle.filter_compiler.specs.declared.sets.SetLists.{SetLists}

-- a part of a translation: its instructions, where so many sets come before it in the text, and its sets
pub record TranslatedPart : Type 0 where
  pub code : SetCounts → List Instr
  pub sets : Sets

-- instructions without sets
abbrev pub code_alone : List Instr → TranslatedPart
code_alone instrs = record { code = λ n. instrs; sets = no_sets }

-- an expression, and an operator with the operand at its right, among these declarations
abbrev pub expression_part : List DeclView → ExprView → TranslatedPart
expression_part decls tree = record { code = λ n. expression_code decls n tree; sets = sets_of tree }

abbrev pub right_part : List DeclView → Op → ExprView → TranslatedPart
right_part decls op right = record { code = λ n. joined_code op [] (expression_code decls n right); sets = sets_of right }

-- the question whether an operand is in a set
abbrev pub member_part : Membership → SetView → TranslatedPart
member_part op set = record { code = λ n. member_code op (question set n); sets = one_set set }

-- a command, and commands one after another
abbrev pub command_part : List DeclView → CommandView → TranslatedPart
command_part decls command = record { code = λ n. command_code decls n command; sets = command_sets command }

abbrev pub commands_part : List DeclView → CommandsView → TranslatedPart
commands_part decls commands = record { code = λ n. commands_code decls n commands; sets = commands_sets commands }

-- a labelled part of a `case` up to its last command: with one more instruction its commands are passed over where the argument is not
-- in its label
abbrev pub labelled_part : List DeclView → List Instr → List RangeView → CommandsView → TranslatedPart
labelled_part decls argument ranges commands = record {
  code = λ n.
      let code = commands_code decls (past n (ranges_set ranges)) commands in
      (argument ++ instr.InSet n.ints ∷ []) ++ instr.JumpIfNot (length code + 1) ∷ code;
  sets = with_sets (ranges_set ranges) (commands_sets commands);
}

-- the parts of a `case` among these declarations, with the code of its argument and, where it came before, that of the `else` part
abbrev pub parts_part : List DeclView → List Instr → List Instr → PartsView → TranslatedPart
parts_part decls argument other parts = record { code = λ n. parts_code decls argument other n parts; sets = parts_sets parts }

-- the numbers of the next sets, as far as they can be counted
pub record IsCounted (counts : SetCounts) (numbers : SetNumbers) : Type 0 where
  pub patterns : numbers.patterns ≡ min counts.patterns 255
  pub ints : numbers.ints ≡ min counts.ints 255

-- an output after instructions were put into it: it has counted them as far as the limit, and what it keeps are they
pub record Holds (out : Output) (written : List Instr) : Type 0 where
  pub counted : min out.length 1025 ≡ min (length written) 1025
  pub short : out.kept ≡ true → length written ≤ instruction_limit
  pub instrs : out.kept ≡ true → out.mapped.instrs ≡ written

-- instructions were put into the one output, and the other is what came of it
pub record Puts (old new : Output) (instrs : List Instr) : Type 0 where
  pub holds : (before : List Instr) → Holds old before → Holds new (before ++ instrs)

-- a part whose first sets have these numbers was put into the one output: the other is what came of it, and the next sets have the
-- other numbers
pub record Emits (old new : Output) (first next : SetNumbers) (part : TranslatedPart) : Type 0 where
  pub puts : (n : SetCounts) → IsCounted n first → Puts old new (part.code n)
  pub counts : (n : SetCounts) → IsCounted n first → IsCounted (past n part.sets) next

-- instructions from these places in the text were put into the one output, and the other is what came of it: where it keeps what was
-- put, it has kept them all, and one place for each instruction if there was one for each before
pub record Notes (old new : Output) (places : List ℕ) : Type 0 where
  pub went_on : new.kept ≡ true → old.kept ≡ true
  pub noted : new.kept ≡ true → new.mapped.places ≡ old.mapped.places ++ places
  pub each : new.kept ≡ true → length old.mapped.places ≡ length old.mapped.instrs → length new.mapped.places ≡ length new.mapped.instrs

-- an output with another instruction in this place
abbrev pub patched : Output → ℕ → Instr → Output
patched out at instr = record {
  alloc = out.alloc;
  mapped = record { instrs = slice_set out.mapped.instrs at instr; places = out.mapped.places };
  length = out.length;
  kept = out.kept;
}

-- too many sets of either kind
abbrev pub TooManySets : Sets → Type 0
TooManySets sets = AreTooMany set_limit pattern_limit sets.patterns ⊎ AreTooMany int_set_limit range_limit sets.ints

-- lists into which these sets were put, one after another: there are too many or not, and what is kept are they
pub record HoldsSets (lists : SetLists) (sets : Sets) : Type 0 where
  pub counted : IsCounted (past none_before sets) lists.numbers
  pub too_many : (lists.too_many ≡ true) ↔ TooManySets sets
  pub patterns : lists.kept ≡ true → lists.patterns.items ≡ sets.patterns
  pub ints : lists.kept ≡ true → lists.ints.items ≡ sets.ints

-- these sets were put into the one, and the other is what came of it
pub record Gathers (old new : SetLists) (sets : Sets) : Type 0 where
  pub counts : (n : SetCounts) → IsCounted n old.numbers → IsCounted (past n sets) new.numbers
  pub holds : (before : Sets) → HoldsSets old before → HoldsSets new (with_sets before sets)
