-- What commands are spelled as is read as those commands.
use Rattle.std.proofs.Common.{◌≡◌, refl, sym, ap, subst, ◌∙◌, ◌&&◌, ℕ, zero, suc, ◌<◌, Bool, true, false, List, [], ◌∷◌, ◌++◌}
use Rattle.std.proofs.Common.{length, Some, None, append_assoc, length-append, arith}
use Rattle.filter_tokens.specs.Lexemes.{Lexeme}
use Rattle.filter_tokens.specs.declared.symbol.Symbol.TheVariants as symbols
use Rattle.filter_parser.specs.ReadingCommands.{command_at, commands_from, commands_with, assign_with, block_with}
use Rattle.filter_parser.specs.ReadingCommands.{an_else, case_with, command_begins, if_with, end_of, label_of}
use Rattle.filter_parser.specs.ReadingCommands.{part_begins, parts_from, parts_with, ranges_label_from}
use Rattle.expression_parser.specs.Readers.{Reader, symbol}
use Rattle.expression_parser.specs.Reading.{expr_at}
use Rattle.filter_syntax.specs.Syntax.{ExprView, RangeView, Fits, FitsMoreRanges, FitsRange, spelling, spelling_more_ranges}
use Rattle.filter_syntax.specs.SyntaxCommands.{TargetView, CommandView, CommandsView, FitsCommand, FitsCommands}
use Rattle.filter_syntax.specs.SyntaxCommands.{is_open, spelling_command, spelling_commands}
use Rattle.filter_syntax.specs.SyntaxCommands.{FitsLabel, FitsParts, LabelView, PartsView, has_ranges, spelling_label}
use Rattle.filter_syntax.specs.SyntaxCommands.{spelling_parts, spelling_target, spelling_end}
use Rattle.filter_parser.proofs.Bodies.{command_is}
use Rattle.expression_parser.proofs.Ranges.{after_int, first_int, ranges_back}

-- an expression before `;`, `then` and `{` is read as it is spelled
pub record AreComplete (depth : ℕ) (expr : Reader ExprView) : Type 0 where
  pub before_end : (t : ExprView) (rest : List Lexeme) → Fits t depth
      → expr (spelling t ++ Lexeme.symbol symbols.Semicolon ∷ rest) ≡ Some (t, Lexeme.symbol symbols.Semicolon ∷ rest)
  pub before_then : (t : ExprView) (rest : List Lexeme) → Fits t depth
      → expr (spelling t ++ Lexeme.symbol symbols.Then ∷ rest) ≡ Some (t, Lexeme.symbol symbols.Then ∷ rest)
  pub before_brace : (t : ExprView) (rest : List Lexeme) → Fits t depth
      → expr (spelling t ++ Lexeme.symbol symbols.LeftBrace ∷ rest) ≡ Some (t, Lexeme.symbol symbols.LeftBrace ∷ rest)

-- where an `else` would belong to an `if` in the command, none follows
abbrev pub Settled : CommandView → List Lexeme → Type 0
Settled t rest = is_open t ≡ true → an_else rest ≡ None

-- each command is read as it is spelled
pub record IsCommandComplete (depth : ℕ) (command : Reader CommandView) : Type 0 where
  pub complete : (t : CommandView) (rest : List Lexeme) → FitsCommand t depth → Settled t rest → command (spelling_command t ++ rest) ≡ Some (t, rest)

-- how a command begins
begins_so : (t : CommandView) (rest : List Lexeme) → command_begins (spelling_command t ++ rest) ≡ true
begins_so CommandView.empty rest = refl
begins_so (CommandView.block body) rest = refl
begins_so (CommandView.if_then test chosen) rest = refl
begins_so (CommandView.if_else test chosen other) rest = refl
begins_so (CommandView.case argument parts) rest = refl
begins_so (CommandView.assign (TargetView.to_name text) value) rest = refl
begins_so (CommandView.assign TargetView.to_metric value) rest = refl
begins_so (CommandView.assign TargetView.to_net value) rest = refl
begins_so (CommandView.accept has_text) rest = refl
begins_so (CommandView.reject has_text) rest = refl

no_else : (t : CommandView) (rest : List Lexeme) → an_else (spelling_command t ++ rest) ≡ None
no_else CommandView.empty rest = refl
no_else (CommandView.block body) rest = refl
no_else (CommandView.if_then test chosen) rest = refl
no_else (CommandView.if_else test chosen other) rest = refl
no_else (CommandView.case argument parts) rest = refl
no_else (CommandView.assign (TargetView.to_name text) value) rest = refl
no_else (CommandView.assign TargetView.to_metric value) rest = refl
no_else (CommandView.assign TargetView.to_net value) rest = refl
no_else (CommandView.accept has_text) rest = refl
no_else (CommandView.reject has_text) rest = refl

no_colon : (t : CommandView) (rest : List Lexeme) → symbol symbols.Colon (spelling_command t ++ rest) ≡ None
no_colon CommandView.empty rest = refl
no_colon (CommandView.block body) rest = refl
no_colon (CommandView.if_then test chosen) rest = refl
no_colon (CommandView.if_else test chosen other) rest = refl
no_colon (CommandView.case argument parts) rest = refl
no_colon (CommandView.assign (TargetView.to_name text) value) rest = refl
no_colon (CommandView.assign TargetView.to_metric value) rest = refl
no_colon (CommandView.assign TargetView.to_net value) rest = refl
no_colon (CommandView.accept has_text) rest = refl
no_colon (CommandView.reject has_text) rest = refl

no_else_commands : (body : CommandsView) (rest : List Lexeme) → an_else rest ≡ None → an_else (spelling_commands body ++ rest) ≡ None
no_else_commands CommandsView.no_commands rest none = none
no_else_commands (CommandsView.command_then first more) rest none =
    rw (append_assoc {A = Lexeme} (spelling_command first) (spelling_commands more) rest)
    (no_else first (spelling_commands more ++ rest))

-- each command has a lexeme at least
after_more : {A : Type 0} (w : A) (ws rest : List A) → length rest < length ((w ∷ ws) ++ rest)
after_more w ws rest = simp length-append (omega arith)

some_lexeme : (t : CommandView) (rest : List Lexeme) → length rest < length (spelling_command t ++ rest)
some_lexeme CommandView.empty rest = after_more (Lexeme.symbol symbols.Semicolon) [] rest
some_lexeme (CommandView.block body) rest = after_more (Lexeme.symbol symbols.LeftBrace) _ rest
some_lexeme (CommandView.if_then test chosen) rest = after_more (Lexeme.symbol symbols.If) _ rest
some_lexeme (CommandView.if_else test chosen other) rest = after_more (Lexeme.symbol symbols.If) _ rest
some_lexeme (CommandView.case argument parts) rest = after_more (Lexeme.symbol symbols.Case) _ rest
some_lexeme (CommandView.assign target value) rest =
    after_more (spelling_target target) (Lexeme.symbol symbols.Equal ∷ (spelling value ++ Lexeme.symbol symbols.Semicolon ∷ [])) rest
some_lexeme (CommandView.accept has_text) rest = after_more (Lexeme.symbol symbols.Accept) _ rest
some_lexeme (CommandView.reject has_text) rest = after_more (Lexeme.symbol symbols.Reject) _ rest

one_turn : (command : Reader CommandView) (n : ℕ) (ws rest : List Lexeme) (t : CommandView) (x : CommandsView × List Lexeme) → command_begins ws ≡ true
    → command ws ≡ Some (t, rest)
    → commands_from command n rest ≡ Some x → commands_from command (suc n) ws ≡ Some (CommandsView.command_then t x.0, x.1)
one_turn command n ws rest t x some one more = rw (some, one, more) refl

no_turn : (command : Reader CommandView) (n : ℕ) (ws : List Lexeme) → command_begins ws ≡ false
    → commands_from command (suc n) ws ≡ Some (CommandsView.no_commands, ws)
no_turn command n ws none = rw none refl

-- what ends commands: no command begins, and no `else` of an `if`
pub record Ends (rest : List Lexeme) : Type 0 where
  pub begins : command_begins rest ≡ false
  pub none : an_else rest ≡ None

-- commands up to what ends them
commands_complete : (depth : ℕ) (command : Reader CommandView) → IsCommandComplete depth command → (body : CommandsView) (n : ℕ) (rest : List Lexeme) → FitsCommands body depth
    → Ends rest → length (spelling_commands body ++ rest) < n
    → commands_from command n (spelling_commands body ++ rest) ≡ Some (body, rest)
commands_complete depth command of body zero rest fits ends lt = absurd (omega arith)
commands_complete depth command of CommandsView.no_commands (suc n) rest fits ends lt = no_turn command n rest ends.begins
commands_complete depth command of (CommandsView.command_then first more) (suc n) rest fits ends lt =
    let after = spelling_commands more ++ rest in
    let group : (spelling_command first ++ spelling_commands more) ++ rest ≡ spelling_command first ++ after =
    append_assoc (spelling_command first) (spelling_commands more) rest in
    let some = some_lexeme first after in
    let shorter : length after < n = omega (arith, ap (length {A = Lexeme}) group) in
    ap (commands_from command (suc n)) group
    ∙ one_turn command n (spelling_command first ++ after) after first (more, rest) (begins_so first after)
    (of.complete first after fits.0 (λ opened. no_else_commands more rest ends.none)) (commands_complete depth command of more n rest fits.1 ends shorter)

pub commands_with_complete : (depth : ℕ) (command : Reader CommandView) → IsCommandComplete depth command → (body : CommandsView) (rest : List Lexeme) → FitsCommands body depth
    → Ends rest → commands_with command (spelling_commands body ++ rest) ≡ Some (body, rest)
unfolding commands_with
commands_with_complete depth command of body rest fits ends =
    commands_complete depth command of body (suc (length (spelling_commands body ++ rest))) rest fits ends (omega arith)

-- a `}` ends commands
pub brace_ends : (rest : List Lexeme) → Ends (Lexeme.symbol symbols.RightBrace ∷ rest)
brace_ends rest = record { begins = refl; none = refl }

end_complete : (has_text : Bool) (rest : List Lexeme) → end_of (spelling_end has_text ++ rest) ≡ Some (has_text, rest)
end_complete true rest = refl
end_complete false rest = refl

assign_complete : (depth : ℕ) (expr : Reader ExprView) → AreComplete depth expr → (target : TargetView) (value : ExprView) (rest : List Lexeme)
    → Fits value depth
    → assign_with expr target (Lexeme.symbol symbols.Equal ∷ ((spelling value ++ Lexeme.symbol symbols.Semicolon ∷ []) ++ rest))
    ≡ Some (CommandView.assign target value, rest)
assign_complete depth expr of target value rest fits =
    let group : (spelling value ++ Lexeme.symbol symbols.Semicolon ∷ []) ++ rest ≡ spelling value ++ Lexeme.symbol symbols.Semicolon ∷ rest =
    simp append_assoc in
    ap (λ (ws : List Lexeme). assign_with expr target (Lexeme.symbol symbols.Equal ∷ ws)) group
    ∙ rw (of.before_end value rest fits) refl

block_complete : (depth : ℕ) (command : Reader CommandView) → IsCommandComplete depth command → (body : CommandsView) (rest : List Lexeme) → FitsCommands body depth
    → block_with command ((spelling_commands body ++ Lexeme.symbol symbols.RightBrace ∷ []) ++ rest) ≡ Some (CommandView.block body, rest)
block_complete depth command of body rest fits =
    let after : List Lexeme = Lexeme.symbol symbols.RightBrace ∷ rest in
    ap (block_with command) (append_assoc (spelling_commands body) (Lexeme.symbol symbols.RightBrace ∷ []) rest)
    ∙ rw (commands_with_complete depth command of body after fits (brace_ends rest)) refl

-- a label and what follows it: a part begins there, and it ends commands
record StartsPart (ws : List Lexeme) : Type 0 where
  begins : part_begins ws ≡ true
  ends : Ends ws

label_starts : (label : LabelView) (is_first : Bool) (rest : List Lexeme) → FitsLabel label is_first
    → StartsPart (spelling_label label ++ Lexeme.symbol symbols.Colon ∷ rest)
label_starts LabelView.else_label is_first rest fits = record { begins = refl; ends = record { begins = refl; none = refl } }
label_starts (LabelView.ranges_label []) is_first rest fits = absurd fits
label_starts (LabelView.ranges_label (RangeView.one n ∷ more)) is_first rest fits = record { begins = refl; ends = record { begins = refl; none = refl } }
label_starts (LabelView.ranges_label (RangeView.from_to l h ∷ more)) is_first rest fits = record { begins = refl; ends = record { begins = refl; none = refl } }

ranges_label_back : (x : RangeView) (more : List RangeView) (rest : List Lexeme) → FitsRange x → FitsMoreRanges more
    → ranges_label_from (first_int x) ((after_int x ++ spelling_more_ranges more) ++ Lexeme.symbol symbols.Colon ∷ rest)
    ≡ Some (LabelView.ranges_label (x ∷ more), rest)
ranges_label_back x more rest f g = rw (ranges_back x more (Lexeme.symbol symbols.Colon ∷ rest) f g refl refl) refl

label_back : (label : LabelView) (is_first : Bool) (rest : List Lexeme) → FitsLabel label is_first
    → label_of is_first (spelling_label label ++ Lexeme.symbol symbols.Colon ∷ rest) ≡ Some (label, rest)
label_back LabelView.else_label true rest fits = refl
label_back LabelView.else_label false rest fits = absurd (cc)
label_back (LabelView.ranges_label []) is_first rest fits = absurd fits
label_back (LabelView.ranges_label (RangeView.one n ∷ more)) is_first rest fits = ranges_label_back (RangeView.one n) more rest fits.0 fits.1
label_back (LabelView.ranges_label (RangeView.from_to l h ∷ more)) is_first rest fits = ranges_label_back (RangeView.from_to l h) more rest fits.0 fits.1

part_group : (a b d rest : List Lexeme) → (a ++ Lexeme.symbol symbols.Colon ∷ (b ++ d)) ++ rest ≡ a ++ Lexeme.symbol symbols.Colon ∷ (b ++ (d ++ rest))
part_group a b d rest = simp append_assoc

-- parts, or what follows them, end commands
parts_end : (parts : PartsView) (is_first : Bool) (depth : ℕ) (rest : List Lexeme) → FitsParts parts is_first depth → Ends rest
    → Ends (spelling_parts parts ++ rest)
parts_end PartsView.no_parts is_first depth rest fits ends = ends
parts_end (PartsView.part_then label commands more) is_first depth rest fits ends =
    subst Ends (sym (part_group (spelling_label label) (spelling_commands commands) (spelling_parts more) rest))
    ((label_starts label is_first (spelling_commands commands ++ (spelling_parts more ++ rest)) fits.0).ends)

part_turn : (commands : Reader CommandsView) (n : ℕ) (is_first : Bool) (ws after rest last : List Lexeme) (label : LabelView) (body : CommandsView)
    (more : PartsView) → part_begins ws ≡ true → label_of is_first ws ≡ Some (label, after) → commands after ≡ Some (body, rest)
    → parts_from commands n (is_first && has_ranges label) rest ≡ Some (more, last)
    → parts_from commands (suc n) is_first ws ≡ Some (PartsView.part_then label body more, last)
part_turn commands n is_first ws after rest last label body more some one two others = rw (some, one, two, others) refl

no_part_turn : (commands : Reader CommandsView) (n : ℕ) (is_first : Bool) (ws : List Lexeme) → part_begins ws ≡ false
    → parts_from commands (suc n) is_first ws ≡ Some (PartsView.no_parts, ws)
no_part_turn commands n is_first ws none = rw none refl

part_shorter : (a b after : List Lexeme) → length after < length (a ++ Lexeme.symbol symbols.Colon ∷ (b ++ after))
part_shorter a b after = simp length-append (omega arith)

parts_complete : (depth : ℕ) (command : Reader CommandView) → IsCommandComplete depth command → (parts : PartsView) (n : ℕ) (is_first : Bool)
    (rest : List Lexeme) → FitsParts parts is_first depth → Ends rest → part_begins rest ≡ false → length (spelling_parts parts ++ rest) < n
    → parts_from (commands_with command) n is_first (spelling_parts parts ++ rest) ≡ Some (parts, rest)
parts_complete depth command of parts zero is_first rest fits ends none lt = absurd (omega arith)
parts_complete depth command of PartsView.no_parts (suc n) is_first rest fits ends none lt = no_part_turn (commands_with command) n is_first rest none
parts_complete depth command of (PartsView.part_then label commands more) (suc n) is_first rest fits ends none lt =
    let after = spelling_parts more ++ rest in
    let behind = spelling_commands commands ++ after in
    let group : (spelling_label label ++ Lexeme.symbol symbols.Colon ∷ (spelling_commands commands ++ spelling_parts more)) ++ rest
    ≡ spelling_label label ++ Lexeme.symbol symbols.Colon ∷ behind =
    part_group (spelling_label label) (spelling_commands commands) (spelling_parts more) rest in
    let shorter : length after < n = omega (arith, ap (length {A = Lexeme}) group, part_shorter (spelling_label label) (spelling_commands commands) after) in
    ap (parts_from (commands_with command) (suc n) is_first) group
    ∙ part_turn (commands_with command) n is_first (spelling_label label ++ Lexeme.symbol symbols.Colon ∷ behind) behind after rest label commands more
    ((label_starts label is_first behind fits.0).begins) (label_back label is_first behind fits.0)
    (commands_with_complete depth command of commands after fits.1 (parts_end more (is_first && has_ranges label) depth rest fits.2 ends))
    (parts_complete depth command of more n (is_first && has_ranges label) rest fits.2 ends none shorter)

parts_with_complete : (depth : ℕ) (command : Reader CommandView) → IsCommandComplete depth command → (parts : PartsView) (rest : List Lexeme)
    → FitsParts parts true depth → Ends rest → part_begins rest ≡ false
    → parts_with (commands_with command) (spelling_parts parts ++ rest) ≡ Some (parts, rest)
unfolding parts_with
parts_with_complete depth command of parts rest fits ends none =
    parts_complete depth command of parts (suc (length (spelling_parts parts ++ rest))) true rest fits ends none (omega arith)

case_complete : (depth : ℕ) (expr : Reader ExprView) (command : Reader CommandView) → AreComplete depth expr → IsCommandComplete depth command
    → (argument : ExprView) (parts : PartsView) (rest : List Lexeme) → Fits argument depth → FitsParts parts true depth
    → case_with expr command
    ((spelling argument ++ Lexeme.symbol symbols.LeftBrace ∷ (spelling_parts parts ++ Lexeme.symbol symbols.RightBrace ∷ [])) ++ rest)
    ≡ Some (CommandView.case argument parts, rest)
case_complete depth expr command tests of argument parts rest a b =
    let last : List Lexeme = Lexeme.symbol symbols.RightBrace ∷ rest in
    let after = spelling_parts parts ++ last in
    let group : (spelling argument ++ Lexeme.symbol symbols.LeftBrace ∷ (spelling_parts parts ++ Lexeme.symbol symbols.RightBrace ∷ [])) ++ rest
    ≡ spelling argument ++ Lexeme.symbol symbols.LeftBrace ∷ after = simp append_assoc in
    ap (case_with expr command) group
    ∙ rw (tests.before_brace argument after a, parts_with_complete depth command of parts last b (brace_ends rest) refl) refl

if_complete : (depth : ℕ) (expr : Reader ExprView) (command : Reader CommandView) → AreComplete depth expr → IsCommandComplete depth command
    → (test : ExprView) (chosen : CommandView) (rest : List Lexeme)
    → Fits test depth → FitsCommand chosen depth → an_else rest ≡ None
    → if_with expr command ((spelling test ++ Lexeme.symbol symbols.Then ∷ spelling_command chosen) ++ rest) ≡ Some (CommandView.if_then test chosen, rest)
if_complete depth expr command tests of test chosen rest a b none =
    let after = spelling_command chosen ++ rest in
    let group : (spelling test ++ Lexeme.symbol symbols.Then ∷ spelling_command chosen) ++ rest ≡ spelling test ++ Lexeme.symbol symbols.Then ∷ after =
    simp append_assoc in
    ap (if_with expr command) group
    ∙ rw (tests.before_then test after a, of.complete chosen rest b (λ opened. none), none) refl

else_complete : (depth : ℕ) (expr : Reader ExprView) (command : Reader CommandView) → AreComplete depth expr → IsCommandComplete depth command
    → (test : ExprView) (chosen other : CommandView) (rest : List Lexeme)
    → Fits test depth → FitsCommand chosen depth → FitsCommand other depth → is_open chosen ≡ false → Settled other rest
    → if_with expr command
    ((spelling test ++ Lexeme.symbol symbols.Then ∷ (spelling_command chosen ++ Lexeme.symbol symbols.Else ∷ spelling_command other)) ++ rest)
    ≡ Some (CommandView.if_else test chosen other, rest)
else_complete depth expr command tests of test chosen other rest a b d closed settled =
    let after = spelling_command other ++ rest in
    let front = spelling_command chosen ++ Lexeme.symbol symbols.Else ∷ after in
    let group : (spelling test ++ Lexeme.symbol symbols.Then ∷ (spelling_command chosen ++ Lexeme.symbol symbols.Else ∷ spelling_command other)) ++ rest
    ≡ spelling test ++ Lexeme.symbol symbols.Then ∷ front = simp append_assoc in
    ap (if_with expr command) group
    ∙ rw (
      tests.before_then test front a,
      of.complete chosen (Lexeme.symbol symbols.Else ∷ after) b (λ opened. absurd (cc)),
      no_colon other rest,
      of.complete other rest d settled,
    ) refl

-- what a command is spelled as is read as that command
pub command_complete : (of : (depth : ℕ) → AreComplete depth (expr_at depth)) (depth : ℕ) → IsCommandComplete depth (command_at depth)
command_complete of depth = record { complete = go depth }
  where
    go : (depth : ℕ) (t : CommandView) (rest : List Lexeme) → FitsCommand t depth → Settled t rest
        → command_at depth (spelling_command t ++ rest) ≡ Some (t, rest)
    go depth CommandView.empty rest fits settled = command_is depth _
    go depth (CommandView.assign (TargetView.to_name text) value) rest fits settled =
        command_is depth _ ∙ assign_complete depth (expr_at depth) (of depth) (TargetView.to_name text) value rest fits
    go depth (CommandView.assign TargetView.to_metric value) rest fits settled =
        command_is depth _ ∙ assign_complete depth (expr_at depth) (of depth) TargetView.to_metric value rest fits
    go depth (CommandView.assign TargetView.to_net value) rest fits settled =
        command_is depth _ ∙ assign_complete depth (expr_at depth) (of depth) TargetView.to_net value rest fits
    go depth (CommandView.accept has_text) rest fits settled = command_is depth _ ∙ rw (end_complete has_text rest) refl
    go depth (CommandView.reject has_text) rest fits settled = command_is depth _ ∙ rw (end_complete has_text rest) refl
    go zero (CommandView.block body) rest fits settled = absurd fits
    go zero (CommandView.if_then test chosen) rest fits settled = absurd fits
    go zero (CommandView.case argument parts) rest fits settled = absurd fits
    go zero (CommandView.if_else test chosen other) rest fits settled = absurd fits.1
    go (suc depth) (CommandView.block body) rest fits settled =
        let inner : IsCommandComplete depth (command_at depth) = record { complete = go depth } in
        command_is (suc depth) _ ∙ block_complete depth (command_at depth) inner body rest fits
    go (suc depth) (CommandView.case argument parts) rest fits settled =
        let inner : IsCommandComplete depth (command_at depth) = record { complete = go depth } in
        command_is (suc depth) _ ∙ case_complete depth (expr_at depth) (command_at depth) (of depth) inner argument parts rest fits.0 fits.1
    go (suc depth) (CommandView.if_then test chosen) rest fits settled =
        let inner : IsCommandComplete depth (command_at depth) = record { complete = go depth } in
        command_is (suc depth) _
        ∙ if_complete depth (expr_at depth) (command_at depth) (of depth) inner test chosen rest fits.0 fits.1 (settled refl)
    go (suc depth) (CommandView.if_else test chosen other) rest fits settled =
        let inner : IsCommandComplete depth (command_at depth) = record { complete = go depth } in
        command_is (suc depth) _
        ∙ else_complete depth (expr_at depth) (command_at depth)
        (of depth) inner test chosen other rest fits.1.0 fits.1.1 fits.1.2 fits.0 settled
