-- The patterns and the ranges of the sets of a filter fit their fields in a code file.
use Rattle.std.proofs.Common.{ℕ, zero, suc, ◌&&◌, Bool, true, false, List, [], ◌∷◌, ◌++◌, map, arith, lit≤}
use Rattle.std.specs.List.{AllByRecursion}
use Rattle.filter_syntax.specs.Syntax.{ExprView, number, address, prefix, truth, name, attribute, defined, group, negation, binary, member}
use Rattle.filter_syntax.specs.Syntax.{suffixed, SetView, of_patterns, of_ranges, SetPatternView, exact, or_longer, or_shorter, between}
use Rattle.filter_syntax.specs.Syntax.{RangeView, one, from_to, pattern_of, range_of, spelling, spelling_set, spelling_set_pattern}
use Rattle.filter_syntax.specs.Syntax.{op_symbol, membership_symbol, spelling_suffix, spelling_set_patterns}
use Rattle.filter_syntax.specs.Syntax.{spelling_range, spelling_ranges, spelling_more_ranges}
use Rattle.filter_syntax.specs.Syntax.{Fits, FitsMoreRanges, FitsRange, FitsRanges, FitsSet, FitsSetPattern, FitsSetPatterns}
use Rattle.filter_tokens.specs.Lexemes.{Lexeme}
use Rattle.filter_tokens.specs.declared.symbol.Symbol.TheVariants as symbols
use Rattle.filter_syntax.specs.SyntaxCommands.{CommandView, empty, block, if_then, if_else, case, assign}
use Rattle.filter_syntax.specs.SyntaxCommands.{accept, reject, CommandsView, no_commands, command_then}
use Rattle.filter_syntax.specs.SyntaxCommands.{LabelView, ranges_label, else_label, PartsView, no_parts, part_then}
use Rattle.filter_syntax.specs.SyntaxCommands.{spelling_command, spelling_commands, spelling_label, spelling_parts}
use Rattle.filter_syntax.specs.SyntaxCommands.{FitsCommand, FitsCommands, FitsLabel, FitsParts, has_ranges}
use Rattle.filter_compiler.specs.SetOrder.{Sets, no_sets, with_sets}
use Rattle.filter_compiler.specs.Translation.{command_sets, commands_sets, has_labelled, label_sets, one_set, opening_sets, parts_sets, sets_of}
use Rattle.code_file.specs.Spelling.{IsPattern, IsRange}
use Rattle.filter_reports.proofs.LexemeLimits.{AreSmall, IsSmall, all_of_parts, parts_of_all}

-- each pattern and each range of these sets fits
pub record MembersFit (sets : Sets) : Type 0 where
  pub patterns : AllByRecursion (AllByRecursion IsPattern) sets.patterns
  pub ints : AllByRecursion (AllByRecursion IsRange) sets.ints

none_fit : MembersFit no_sets
none_fit = record { patterns = tt; ints = tt }

both_fit : (a b : Sets) → MembersFit a → MembersFit b → MembersFit (with_sets a b)
both_fit a b h k = record {
  patterns = all_of_parts (AllByRecursion IsPattern) a.patterns b.patterns h.patterns k.patterns;
  ints = all_of_parts (AllByRecursion IsRange) a.ints b.ints h.ints k.ints;
}

pattern_fits : (x : SetPatternView) → FitsSetPattern x → AreSmall (spelling_set_pattern x) → IsPattern (pattern_of x)
pattern_fits (exact p) fits small =
    record { prefix = small.0; lengths = record { order = omega arith; limit = small.0 } }
pattern_fits (or_longer p) fits small =
    record { prefix = small.0; lengths = record { order = small.0; limit = lit≤ tt } }
pattern_fits (or_shorter p) fits small =
    record { prefix = small.0; lengths = record { order = omega arith; limit = small.0 } }
pattern_fits (between p l h) fits small = record { prefix = small.0; lengths = fits }

patterns_fit : (xs : List SetPatternView) → FitsSetPatterns xs → AreSmall (spelling_set_patterns xs)
    → AllByRecursion IsPattern (map pattern_of xs)
patterns_fit [] fits small = tt
patterns_fit (x ∷ xs) fits small =
    let here = parts_of_all IsSmall (spelling_set_pattern x) (spelling_set_patterns xs) small.1 in
    (pattern_fits x fits.0 here.0, patterns_fit xs fits.1 here.1)

range_fits : (x : RangeView) → FitsRange x → AreSmall (spelling_range x) → IsRange (range_of x)
range_fits (one n) fits small = record { order = omega arith; fits = small.0 }
range_fits (from_to l h) fits small = record { order = fits; fits = small.1.1.0 }

more_ranges_fit : (xs : List RangeView) → FitsMoreRanges xs → AreSmall (spelling_more_ranges xs) → AllByRecursion IsRange (map range_of xs)
more_ranges_fit [] fits small = tt
more_ranges_fit (x ∷ xs) fits small =
    let here = parts_of_all IsSmall (spelling_range x) (spelling_more_ranges xs) small.1 in
    (range_fits x fits.0 here.0, more_ranges_fit xs fits.1 here.1)

ranges_fit : (xs : List RangeView) → FitsRanges xs → AreSmall (spelling_ranges xs) → AllByRecursion IsRange (map range_of xs)
ranges_fit [] fits small = tt
ranges_fit (x ∷ xs) fits small =
    let here = parts_of_all IsSmall (spelling_range x) (spelling_more_ranges xs) small in
    (range_fits x fits.0 here.0, more_ranges_fit xs fits.1 here.1)

set_fits : (set : SetView) → FitsSet set → AreSmall (spelling_set set) → MembersFit (one_set set)
set_fits (of_patterns []) fits small = absurd fits
set_fits (of_patterns (x ∷ xs)) fits small =
    let here = parts_of_all IsSmall (spelling_set_pattern x) (spelling_set_patterns xs) small.1 in
    record { patterns = ((pattern_fits x fits.0 here.0, patterns_fit xs fits.1 here.1), tt); ints = tt }
set_fits (of_ranges xs) fits small =
    let here = parts_of_all IsSmall (spelling_ranges xs) (Lexeme.symbol symbols.RightBracket ∷ []) small.1 in
    record { patterns = tt; ints = (ranges_fit xs fits here.0, tt) }

pub expression_sets_fit : (e : ExprView) (depth : ℕ) → Fits e depth → AreSmall (spelling e) → MembersFit (sets_of e)
expression_sets_fit (number n) depth fits small = none_fit
expression_sets_fit (address a) depth fits small = none_fit
expression_sets_fit (prefix bits) depth fits small = none_fit
expression_sets_fit (truth b) depth fits small = none_fit
expression_sets_fit (name text) depth fits small = none_fit
expression_sets_fit (attribute a) depth fits small = none_fit
expression_sets_fit (defined a) depth fits small = none_fit
expression_sets_fit (group inner) zero fits small = absurd fits
expression_sets_fit (group inner) (suc depth) fits small =
    let here = parts_of_all IsSmall (spelling inner) (Lexeme.symbol symbols.RightParen ∷ []) small.1 in
    expression_sets_fit inner depth fits here.0
expression_sets_fit (negation inner) zero fits small = absurd fits.1
expression_sets_fit (negation inner) (suc depth) fits small = expression_sets_fit inner depth fits.1 small.1
expression_sets_fit (binary op left right) depth fits small =
    let here = parts_of_all IsSmall (spelling left) (Lexeme.symbol (op_symbol op) ∷ spelling right) small in
    both_fit (sets_of left) (sets_of right) (expression_sets_fit left depth fits.1 here.0) (expression_sets_fit right depth fits.2 here.1.1)
expression_sets_fit (member op left set) depth fits small =
    let here = parts_of_all IsSmall (spelling left) (Lexeme.symbol (membership_symbol op) ∷ spelling_set set) small in
    both_fit (sets_of left) (one_set set) (expression_sets_fit left depth fits.1 here.0) (set_fits set fits.2 here.1.1)
expression_sets_fit (suffixed inner s) depth fits small =
    let here = parts_of_all IsSmall (spelling inner) (spelling_suffix s) small in
    expression_sets_fit inner depth fits.1 here.0

label_fits : (label : LabelView) (is_first : Bool) → FitsLabel label is_first → AreSmall (spelling_label label) → MembersFit (label_sets label)
label_fits (ranges_label ranges) is_first fits small = record { patterns = tt; ints = (ranges_fit ranges fits small, tt) }
label_fits else_label is_first fits small = none_fit

opening_fits : (is_labelled : Bool) → MembersFit (opening_sets is_labelled)
opening_fits true = none_fit
opening_fits false = record { patterns = tt; ints = (tt, tt) }

mutual
  command_sets_fit : (x : CommandView) (depth : ℕ) → FitsCommand x depth → AreSmall (spelling_command x) → MembersFit (command_sets x)
  command_sets_fit empty depth fits small = none_fit
  command_sets_fit (block body) zero fits small = absurd fits
  command_sets_fit (block body) (suc depth) fits small =
      let here = parts_of_all IsSmall (spelling_commands body) (Lexeme.symbol symbols.RightBrace ∷ []) small.1 in
      commands_sets_fit body depth fits here.0
  command_sets_fit (if_then test chosen) zero fits small = absurd fits
  command_sets_fit (if_then test chosen) (suc depth) fits small =
      let here = parts_of_all IsSmall (spelling test) (Lexeme.symbol symbols.Then ∷ spelling_command chosen) small.1 in
      both_fit (sets_of test) (command_sets chosen) (expression_sets_fit test depth fits.0 here.0)
      (command_sets_fit chosen depth fits.1 here.1.1)
  command_sets_fit (if_else test chosen other) zero fits small = absurd fits.1
  command_sets_fit (if_else test chosen other) (suc depth) fits small =
      let last = Lexeme.symbol symbols.Else ∷ spelling_command other in
      let here = parts_of_all IsSmall (spelling test) (Lexeme.symbol symbols.Then ∷ (spelling_command chosen ++ last)) small.1 in
      let branches = parts_of_all IsSmall (spelling_command chosen) last here.1.1 in
      both_fit (sets_of test) (with_sets (command_sets chosen) (command_sets other)) (expression_sets_fit test depth fits.1.0 here.0)
      (both_fit (command_sets chosen) (command_sets other) (command_sets_fit chosen depth fits.1.1 branches.0)
      (command_sets_fit other depth fits.1.2 branches.1.1))
  command_sets_fit (case argument parts) zero fits small = absurd fits
  command_sets_fit (case argument parts) (suc depth) fits small =
      let last = Lexeme.symbol symbols.RightBrace ∷ [] in
      let here = parts_of_all IsSmall (spelling argument) (Lexeme.symbol symbols.LeftBrace ∷ (spelling_parts parts ++ last)) small.1 in
      let inside = parts_of_all IsSmall (spelling_parts parts) last here.1.1 in
      let opening = opening_sets (has_labelled parts) in
      both_fit (sets_of argument) (with_sets opening (parts_sets parts)) (expression_sets_fit argument depth fits.0 here.0)
      (both_fit opening (parts_sets parts) (opening_fits (has_labelled parts)) (parts_sets_fit parts true depth fits.1 inside.0))
  command_sets_fit (assign target value) depth fits small =
      let here = parts_of_all IsSmall (spelling value) (Lexeme.symbol symbols.Semicolon ∷ []) small.1.1 in
      expression_sets_fit value depth fits here.0
  command_sets_fit (accept has_text) depth fits small = none_fit
  command_sets_fit (reject has_text) depth fits small = none_fit

  pub commands_sets_fit : (x : CommandsView) (depth : ℕ) → FitsCommands x depth → AreSmall (spelling_commands x)
      → MembersFit (commands_sets x)
  commands_sets_fit no_commands depth fits small = none_fit
  commands_sets_fit (command_then first more) depth fits small =
      let here = parts_of_all IsSmall (spelling_command first) (spelling_commands more) small in
      both_fit (command_sets first) (commands_sets more) (command_sets_fit first depth fits.0 here.0)
      (commands_sets_fit more depth fits.1 here.1)

  parts_sets_fit : (x : PartsView) (is_first : Bool) (depth : ℕ) → FitsParts x is_first depth → AreSmall (spelling_parts x)
      → MembersFit (parts_sets x)
  parts_sets_fit no_parts is_first depth fits small = none_fit
  parts_sets_fit (part_then label commands more) is_first depth fits small =
      let after = spelling_commands commands ++ spelling_parts more in
      let here = parts_of_all IsSmall (spelling_label label) (Lexeme.symbol symbols.Colon ∷ after) small in
      let inside = parts_of_all IsSmall (spelling_commands commands) (spelling_parts more) here.1.1 in
      both_fit (label_sets label) (with_sets (commands_sets commands) (parts_sets more)) (label_fits label is_first fits.0 here.0)
      (both_fit (commands_sets commands) (parts_sets more) (commands_sets_fit commands depth fits.1 inside.0)
      (parts_sets_fit more (is_first && has_ranges label) depth fits.2 inside.1))
