-- Each member of a set has at least two lexemes of the text for itself: its own, and a comma or a bracket or a colon.
use Rattle.std.proofs.Common.{◌≡◌, ℕ, ◌+◌, ◌*◌, ◌≤◌, Bool, true, false, List, [], ◌∷◌, ◌++◌, length, refl, arith, lit≤, length-append}
use Rattle.std.proofs.lemmas.List.{length-map}
use Rattle.filter_syntax.specs.Syntax.{ExprView, number, address, prefix, truth, name, attribute, defined, group, negation, binary, member}
use Rattle.filter_syntax.specs.Syntax.{suffixed, SetView, of_patterns, of_ranges, SetPatternView, exact, or_longer, or_shorter, between}
use Rattle.filter_syntax.specs.Syntax.{RangeView, one, from_to, pattern_of, range_of, spelling, spelling_set, spelling_set_pattern}
use Rattle.filter_syntax.specs.Syntax.{op_symbol, membership_symbol, spelling_suffix, spelling_set_patterns}
use Rattle.filter_syntax.specs.Syntax.{spelling_range, spelling_ranges, spelling_more_ranges}
use Rattle.filter_tokens.specs.Lexemes.{Lexeme}
use Rattle.filter_tokens.specs.declared.symbol.Symbol.TheVariants as symbols
use Rattle.filter_syntax.specs.SyntaxCommands.{CommandView, empty, block, if_then, if_else, case, assign}
use Rattle.filter_syntax.specs.SyntaxCommands.{accept, reject, CommandsView, no_commands, command_then}
use Rattle.filter_syntax.specs.SyntaxCommands.{LabelView, ranges_label, else_label, PartsView, no_parts, part_then}
use Rattle.filter_syntax.specs.SyntaxCommands.{spelling_command, spelling_commands, spelling_label, spelling_parts}
use Rattle.filter_compiler.specs.SetOrder.{Sets, no_sets, with_sets}
use Rattle.filter_compiler.specs.Translation.{command_sets, commands_sets, has_labelled, label_sets, one_set, opening_sets, parts_sets, sets_of}

-- how many members these sets have together
abbrev pub members_in : {X : Type 0} → List (List X) → ℕ
members_in [] = 0
members_in (set ∷ sets) = length set + members_in sets

-- how many patterns and ranges these sets have together
abbrev pub members : Sets → ℕ
members sets = members_in sets.patterns + members_in sets.ints

members_in-append : {X : Type 0} (xs ys : List (List X)) → members_in (xs ++ ys) ≡ members_in xs + members_in ys
members_in-append [] ys = omega arith
members_in-append (x ∷ xs) ys = omega (arith, members_in-append xs ys)

members-with : (a b : Sets) → members (with_sets a b) ≡ members a + members b
members-with a b = omega (arith, members_in-append a.patterns b.patterns, members_in-append a.ints b.ints)

-- these sets have at most half as many members as a text has lexemes
abbrev pub AreHalf : Sets → List Lexeme → Type 0
AreHalf sets lexemes = 2 * members sets ≤ length lexemes

none : (lexemes : List Lexeme) → AreHalf no_sets lexemes
none lexemes = omega arith

pattern_spelled : (x : SetPatternView) → 1 ≤ length (spelling_set_pattern x)
pattern_spelled (exact p) = lit≤ tt
pattern_spelled (or_longer p) = lit≤ tt
pattern_spelled (or_shorter p) = lit≤ tt
pattern_spelled (between p l h) = lit≤ tt

patterns_spelled : (xs : List SetPatternView) → 2 * length xs + 1 ≤ length (spelling_set_patterns xs)
patterns_spelled [] = lit≤ tt
patterns_spelled (x ∷ xs) =
    omega (arith, pattern_spelled x, patterns_spelled xs, length-append (spelling_set_pattern x) (spelling_set_patterns xs))

range_spelled : (x : RangeView) → 1 ≤ length (spelling_range x)
range_spelled (one n) = lit≤ tt
range_spelled (from_to l h) = lit≤ tt

more_ranges_spelled : (xs : List RangeView) → 2 * length xs ≤ length (spelling_more_ranges xs)
more_ranges_spelled [] = lit≤ tt
more_ranges_spelled (x ∷ xs) =
    omega (arith, range_spelled x, more_ranges_spelled xs, length-append (spelling_range x) (spelling_more_ranges xs))

ranges_spelled : (xs : List RangeView) → 2 * length xs ≤ length (spelling_ranges xs) + 1
ranges_spelled [] = lit≤ tt
ranges_spelled (x ∷ xs) =
    omega (arith, range_spelled x, more_ranges_spelled xs, length-append (spelling_range x) (spelling_more_ranges xs))

set_spelled : (set : SetView) → AreHalf (one_set set) (spelling_set set)
set_spelled (of_patterns []) = lit≤ tt
set_spelled (of_patterns (x ∷ xs)) =
    omega (
      arith,
      pattern_spelled x,
      patterns_spelled xs,
      length-append (spelling_set_pattern x) (spelling_set_patterns xs),
      length-map xs pattern_of,
    )
set_spelled (of_ranges xs) =
    omega (arith, ranges_spelled xs, length-append (spelling_ranges xs) (Lexeme.symbol symbols.RightBracket ∷ []), length-map xs range_of)

expression_spelled : (e : ExprView) → AreHalf (sets_of e) (spelling e)
expression_spelled (number n) = none (spelling (number n))
expression_spelled (address a) = none (spelling (address a))
expression_spelled (prefix bits) = none (spelling (prefix bits))
expression_spelled (truth b) = none (spelling (truth b))
expression_spelled (name text) = none (spelling (name text))
expression_spelled (attribute a) = none (spelling (attribute a))
expression_spelled (defined a) = none (spelling (defined a))
expression_spelled (group inner) =
    omega (arith, expression_spelled inner, length-append (spelling inner) (Lexeme.symbol symbols.RightParen ∷ []))
expression_spelled (negation inner) = omega (arith, expression_spelled inner)
expression_spelled (binary op left right) =
    omega (
      arith,
      expression_spelled left,
      expression_spelled right,
      members-with (sets_of left) (sets_of right),
      length-append (spelling left) (Lexeme.symbol (op_symbol op) ∷ spelling right),
    )
expression_spelled (member op left set) =
    omega (
      arith,
      expression_spelled left,
      set_spelled set,
      members-with (sets_of left) (one_set set),
      length-append (spelling left) (Lexeme.symbol (membership_symbol op) ∷ spelling_set set),
    )
expression_spelled (suffixed inner s) =
    omega (arith, expression_spelled inner, length-append (spelling inner) (spelling_suffix s))

-- a label, with the colon after it
label_spelled : (label : LabelView) → 2 * members (label_sets label) ≤ length (spelling_label label) + 1
label_spelled (ranges_label ranges) = omega (arith, ranges_spelled ranges, length-map ranges range_of)
label_spelled else_label = lit≤ tt

no_members : (is_labelled : Bool) → members (opening_sets is_labelled) ≡ 0
no_members true = refl
no_members false = refl

mutual
  command_spelled : (x : CommandView) → AreHalf (command_sets x) (spelling_command x)
  command_spelled empty = lit≤ tt
  command_spelled (block body) =
      omega (arith, commands_spelled body, length-append (spelling_commands body) (Lexeme.symbol symbols.RightBrace ∷ []))
  command_spelled (if_then test chosen) =
      omega (
        arith,
        expression_spelled test,
        command_spelled chosen,
        members-with (sets_of test) (command_sets chosen),
        length-append (spelling test) (Lexeme.symbol symbols.Then ∷ spelling_command chosen),
      )
  command_spelled (if_else test chosen other) =
      let last = Lexeme.symbol symbols.Else ∷ spelling_command other in
      omega (
        arith,
        expression_spelled test,
        command_spelled chosen,
        command_spelled other,
        members-with (sets_of test) (with_sets (command_sets chosen) (command_sets other)),
        members-with (command_sets chosen) (command_sets other),
        length-append (spelling test) (Lexeme.symbol symbols.Then ∷ (spelling_command chosen ++ last)),
        length-append (spelling_command chosen) last,
      )
  command_spelled (case argument parts) =
      let last = Lexeme.symbol symbols.RightBrace ∷ [] in
      let opening = opening_sets (has_labelled parts) in
      omega (
        arith,
        expression_spelled argument,
        parts_spelled parts,
        no_members (has_labelled parts),
        members-with (sets_of argument) (with_sets opening (parts_sets parts)),
        members-with opening (parts_sets parts),
        length-append (spelling argument) (Lexeme.symbol symbols.LeftBrace ∷ (spelling_parts parts ++ last)),
        length-append (spelling_parts parts) last,
      )
  command_spelled (assign target value) =
      omega (arith, expression_spelled value, length-append (spelling value) (Lexeme.symbol symbols.Semicolon ∷ []))
  command_spelled (accept has_text) = none (spelling_command (accept has_text))
  command_spelled (reject has_text) = none (spelling_command (reject has_text))

  pub commands_spelled : (x : CommandsView) → AreHalf (commands_sets x) (spelling_commands x)
  commands_spelled no_commands = lit≤ tt
  commands_spelled (command_then first more) =
      omega (
        arith,
        command_spelled first,
        commands_spelled more,
        members-with (command_sets first) (commands_sets more),
        length-append (spelling_command first) (spelling_commands more),
      )

  parts_spelled : (x : PartsView) → AreHalf (parts_sets x) (spelling_parts x)
  parts_spelled no_parts = lit≤ tt
  parts_spelled (part_then label commands more) =
      omega (
        arith,
        label_spelled label,
        commands_spelled commands,
        parts_spelled more,
        members-with (label_sets label) (with_sets (commands_sets commands) (parts_sets more)),
        members-with (commands_sets commands) (parts_sets more),
        length-append (spelling_label label) (Lexeme.symbol symbols.Colon ∷ (spelling_commands commands ++ spelling_parts more)),
        length-append (spelling_commands commands) (spelling_parts more),
      )
