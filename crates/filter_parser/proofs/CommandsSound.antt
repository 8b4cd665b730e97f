-- What is read of commands is spelled so, and fits.
use Rattle.std.proofs.Common.{◌≡◌, refl, ap, subst, ◌∙◌, ℕ, zero, suc, Bool, true, false, List, [], ◌∷◌, ◌++◌, length}
use Rattle.std.proofs.Common.{Option, Some, None, ◌&&◌, ◌⊎◌, inl, inr, if◌then◌else◌, sym}
use Rattle.prefix_patterns.specs.Reading.{◌>>=◌}
use Rattle.filter_tokens.specs.Lexemes.{Lexeme}
use Rattle.filter_tokens.specs.declared.symbol.Symbol.{Symbol}
use Rattle.filter_tokens.specs.declared.symbol.Symbol.TheVariants as symbols
use Rattle.filter_parser.specs.ReadingCommands.{accepts, command_at, command_by, command_with, commands_from, commands_with, assign_with, block_with}
use Rattle.expression_parser.specs.Readers.{refused, Reader, a_number, symbol, quote}
use Rattle.filter_parser.specs.ReadingCommands.{an_else, case_with, command_begins, else_label_of, if_with, end_of}
use Rattle.filter_parser.specs.ReadingCommands.{label_of, part_begins, part_of, parts_from, parts_with}
use Rattle.filter_parser.specs.ReadingCommands.{ranges_label_from, rejects}
use Rattle.expression_parser.specs.Reading.{expr_at, ranges_from}
use Rattle.filter_syntax.specs.Syntax.{ExprView, Fits, spelling, spelling_ranges}
use Rattle.filter_syntax.specs.SyntaxCommands.{TargetView, CommandView, CommandsView, FitsCommand, FitsCommands}
use Rattle.filter_syntax.specs.SyntaxCommands.{is_open, spelling_command, spelling_commands}
use Rattle.filter_syntax.specs.SyntaxCommands.{FitsLabel, FitsParts, LabelView, PartsView, has_ranges, spelling_label}
use Rattle.filter_syntax.specs.SyntaxCommands.{spelling_parts, spelling_target, spelling_end}
use Rattle.filter_parser.proofs.Joined.{both_joined, case_joined, part_joined, assign_joined, block_joined, if_joined, else_joined, front_joined}
use Rattle.expression_parser.proofs.Ranges.{ranges_sound}
use Rattle.expression_parser.proofs.SoundWords.{number_found}
use Rattle.expression_parser.proofs.Steps.{bind_some, symbol_found, some_is, with_some_cases}

-- what is read of expressions is spelled so, and fits
pub record AreSound (depth : ℕ) (expr : Reader ExprView) : Type 0 where
  pub sound : (ws : List Lexeme) (x : ExprView × List Lexeme) → expr ws ≡ Some x → (ws ≡ spelling x.0 ++ x.1) × Fits x.0 depth

-- what was read of a command: it is spelled so, fits, and where an `else` would belong to an `if` in it, none follows
pub record FoundCommand (depth : ℕ) (ws : List Lexeme) (x : CommandView × List Lexeme) : Type 0 where
  pub spelled : ws ≡ spelling_command x.0 ++ x.1
  pub fits : FitsCommand x.0 depth
  pub settled : is_open x.0 ≡ true → an_else x.1 ≡ None

-- a reading function finds only such commands, of which these lexemes were read before
pub record IsCommandSound (depth : ℕ) (before : List Lexeme) (command : Reader CommandView) : Type 0 where
  pub sound : (ws : List Lexeme) (x : CommandView × List Lexeme) → command ws ≡ Some x → FoundCommand depth (before ++ ws) x

-- a text was found
pub quote_found : (ws rest : List Lexeme) → quote ws ≡ Some rest → ws ≡ Lexeme.quote ∷ rest
quote_found [] rest e = absurd (cc)
quote_found (Lexeme.quote ∷ ws) rest e = let f : ws ≡ rest = some_is e in ap (λ (vs : List Lexeme). Lexeme.quote ∷ vs) f
quote_found (Lexeme.name text ∷ ws) rest e = absurd (cc)
quote_found (Lexeme.number n ∷ ws) rest e = absurd (cc)
quote_found (Lexeme.address a ∷ ws) rest e = absurd (cc)
quote_found (Lexeme.prefix bits ∷ ws) rest e = absurd (cc)
quote_found (Lexeme.symbol k ∷ ws) rest e = absurd (cc)

end_sound : (ws : List Lexeme) (x : Bool × List Lexeme) → end_of ws ≡ Some x → ws ≡ spelling_end x.0 ++ x.1
end_sound ws x e =
    let P : Bool × List Lexeme → Type 0 = λ y. ws ≡ spelling_end y.0 ++ y.1 in
    elim (with_some_cases (quote ws) _ _ x e) [
      | inl (none, read) ↦
          let (rest, found, same) = bind_some (symbol symbols.Semicolon ws) _ x read in
          subst P (some_is same) (symbol_found symbols.Semicolon ws rest found)
      | inr (after, quoted, read) ↦
          let (rest, found, same) = bind_some (symbol symbols.Semicolon after) _ x read in
          subst P (some_is same) (quote_found ws after quoted
          ∙ ap (λ (vs : List Lexeme). Lexeme.quote ∷ vs) (symbol_found symbols.Semicolon after rest found))
    ]

accepts_sound : (depth : ℕ) → IsCommandSound depth (Lexeme.symbol symbols.Accept ∷ []) accepts
accepts_sound depth = record {
  sound = λ ws x e.
      let (read, first, same) = bind_some (end_of ws) _ x e in
      let found : FoundCommand depth (Lexeme.symbol symbols.Accept ∷ ws) (CommandView.accept read.0, read.1) = record {
        spelled = ap (λ (vs : List Lexeme). Lexeme.symbol symbols.Accept ∷ vs) (end_sound ws read first);
        fits = tt;
        settled = λ opened. absurd (cc);
      } in
      subst (FoundCommand depth (Lexeme.symbol symbols.Accept ∷ ws)) (some_is same) found;
}

rejects_sound : (depth : ℕ) → IsCommandSound depth (Lexeme.symbol symbols.Reject ∷ []) rejects
rejects_sound depth = record {
  sound = λ ws x e.
      let (read, first, same) = bind_some (end_of ws) _ x e in
      let found : FoundCommand depth (Lexeme.symbol symbols.Reject ∷ ws) (CommandView.reject read.0, read.1) = record {
        spelled = ap (λ (vs : List Lexeme). Lexeme.symbol symbols.Reject ∷ vs) (end_sound ws read first);
        fits = tt;
        settled = λ opened. absurd (cc);
      } in
      subst (FoundCommand depth (Lexeme.symbol symbols.Reject ∷ ws)) (some_is same) found;
}

assign_sound : (depth : ℕ) (expr : Reader ExprView) → AreSound depth expr → (target : TargetView)
    → IsCommandSound depth (spelling_target target ∷ []) (assign_with expr target)
assign_sound depth expr of target = record {
  sound = λ ws x e.
      let (value, e1, f1) = bind_some (symbol symbols.Equal ws) _ x e in
      let (tree, e2, f2) = bind_some (expr value) _ x f1 in
      let (rest, e3, f3) = bind_some (symbol symbols.Semicolon tree.1) _ x f2 in
      let read = of.sound value tree e2 in
      let found : FoundCommand depth (spelling_target target ∷ ws) (CommandView.assign target tree.0, rest) = record {
        spelled = assign_joined (spelling_target target) (Lexeme.symbol symbols.Equal) (Lexeme.symbol symbols.Semicolon) ws value (spelling tree.0) tree.1 rest
            (symbol_found symbols.Equal ws value e1) read.0 (symbol_found symbols.Semicolon tree.1 rest e3);
        fits = read.1;
        settled = λ opened. absurd (cc);
      } in
      subst (FoundCommand depth (spelling_target target ∷ ws)) (some_is f3) found;
}

-- one of two ways was taken, by how the lexemes begin
when_cases : {B : Type 0} (b : Bool) (later other : Option B) (y : B) → (if b then later else other) ≡ Some y
    → (later ≡ Some y) ⊎ (other ≡ Some y)
when_cases true later other y e = inl e
when_cases false later other y e = inr e

-- what was read of commands
pub record FoundCommands (depth : ℕ) (ws : List Lexeme) (x : CommandsView × List Lexeme) : Type 0 where
  pub spelled : ws ≡ spelling_commands x.0 ++ x.1
  pub fits : FitsCommands x.0 depth

commands_sound : (depth : ℕ) (command : Reader CommandView) → IsCommandSound depth [] command → (n : ℕ) (ws : List Lexeme) (x : CommandsView × List Lexeme)
    → commands_from command n ws ≡ Some x → FoundCommands depth ws x
commands_sound depth command of zero ws x e = absurd (cc)
commands_sound depth command of (suc n) ws x e =
    elim (when_cases (command_begins ws) _ _ x e) [
      | inl read ↦
          let (first, e1, f1) = bind_some (command ws) _ x read in
          let (more, e2, f2) = bind_some (commands_from command n first.1) _ x f1 in
          let one = of.sound ws first e1 in
          let others = commands_sound depth command of n first.1 more e2 in
          let found : FoundCommands depth ws (CommandsView.command_then first.0 more.0, more.1) = record {
            spelled = both_joined ws (spelling_command first.0) first.1 (spelling_commands more.0) more.1 one.spelled others.spelled;
            fits = (one.fits, others.fits);
          } in
          subst (FoundCommands depth ws) (some_is f2) found
      | inr same ↦
          let found : FoundCommands depth ws (CommandsView.no_commands, ws) = record { spelled = refl; fits = tt } in
          subst (FoundCommands depth ws) (some_is same) found
    ]

pub commands_with_sound : (depth : ℕ) (command : Reader CommandView) → IsCommandSound depth [] command → (ws : List Lexeme) (x : CommandsView × List Lexeme)
    → commands_with command ws ≡ Some x → FoundCommands depth ws x
unfolding commands_with
commands_with_sound depth command of ws x e = commands_sound depth command of (suc (length ws)) ws x e

block_sound : (depth : ℕ) (command : Reader CommandView) → IsCommandSound depth [] command
    → IsCommandSound (suc depth) (Lexeme.symbol symbols.LeftBrace ∷ []) (block_with command)
block_sound depth command of = record {
  sound = λ ws x e.
      let (body, e1, f1) = bind_some (commands_with command ws) _ x e in
      let (rest, e2, same) = bind_some (symbol symbols.RightBrace body.1) _ x f1 in
      let read = commands_with_sound depth command of ws body e1 in
      let found : FoundCommand (suc depth) (Lexeme.symbol symbols.LeftBrace ∷ ws) (CommandView.block body.0, rest) = record {
        spelled = block_joined (Lexeme.symbol symbols.LeftBrace) (Lexeme.symbol symbols.RightBrace) ws (spelling_commands body.0) rest
            (read.spelled ∙ ap (λ (vs : List Lexeme). spelling_commands body.0 ++ vs) (symbol_found symbols.RightBrace body.1 rest e2));
        fits = read.fits;
        settled = λ opened. absurd (cc);
      } in
      subst (FoundCommand (suc depth) (Lexeme.symbol symbols.LeftBrace ∷ ws)) (some_is same) found;
}

-- a label and its `:`
record FoundLabel (is_first : Bool) (ws : List Lexeme) (x : LabelView × List Lexeme) : Type 0 where
  spelled : ws ≡ spelling_label x.0 ++ Lexeme.symbol symbols.Colon ∷ x.1
  fits : FitsLabel x.0 is_first

ranges_label_sound : (is_first : Bool) (low : ℕ) (ws : List Lexeme) (x : LabelView × List Lexeme) → ranges_label_from low ws ≡ Some x
    → FoundLabel is_first (Lexeme.number low ∷ ws) x
ranges_label_sound is_first low ws x e =
    let (ranges, e1, f1) = bind_some (ranges_from low ws) _ x e in
    let (rest, e2, same) = bind_some (symbol symbols.Colon ranges.1) _ x f1 in
    let read = ranges_sound low ws ranges e1 in
    let found : FoundLabel is_first (Lexeme.number low ∷ ws) (LabelView.ranges_label ranges.0, rest) = record {
      spelled = read.spelled ∙ ap (λ (vs : List Lexeme). spelling_ranges ranges.0 ++ vs) (symbol_found symbols.Colon ranges.1 rest e2);
      fits = read.fits;
    } in
    subst (FoundLabel is_first (Lexeme.number low ∷ ws)) (some_is same) found

else_label_sound : (is_first : Bool) (ws : List Lexeme) (x : LabelView × List Lexeme) → else_label_of is_first ws ≡ Some x → FoundLabel is_first ws x
else_label_sound false ws x e = absurd (cc)
else_label_sound true ws x e =
    let (after, e1, f1) = bind_some (symbol symbols.Else ws) _ x e in
    let (rest, e2, same) = bind_some (symbol symbols.Colon after) _ x f1 in
    let found : FoundLabel true ws (LabelView.else_label, rest) = record {
      spelled = symbol_found symbols.Else ws after e1 ∙ ap (λ (vs : List Lexeme). Lexeme.symbol symbols.Else ∷ vs) (symbol_found symbols.Colon after rest e2);
      fits = refl;
    } in
    subst (FoundLabel true ws) (some_is same) found

label_sound : (is_first : Bool) (ws : List Lexeme) (x : LabelView × List Lexeme) → label_of is_first ws ≡ Some x → FoundLabel is_first ws x
label_sound is_first ws x e = elim (with_some_cases (a_number ws) _ _ x e) [
  | inl p ↦ else_label_sound is_first ws x p.1
  | inr p ↦
      let Q : List Lexeme → Type 0 = λ vs. FoundLabel is_first vs x in
      subst Q (sym (number_found ws p.0 p.1)) (ranges_label_sound is_first p.0.0 p.0.1 x p.2)
]

-- what was read of the parts of a `case`
record FoundParts (depth : ℕ) (is_first : Bool) (ws : List Lexeme) (x : PartsView × List Lexeme) : Type 0 where
  spelled : ws ≡ spelling_parts x.0 ++ x.1
  fits : FitsParts x.0 is_first depth

parts_sound : (depth : ℕ) (command : Reader CommandView) → IsCommandSound depth [] command → (n : ℕ) (is_first : Bool) (ws : List Lexeme)
    (x : PartsView × List Lexeme) → parts_from (commands_with command) n is_first ws ≡ Some x → FoundParts depth is_first ws x
parts_sound depth command of zero is_first ws x e = absurd (cc)
parts_sound depth command of (suc n) is_first ws x e =
    elim (when_cases (part_begins ws) _ _ x e) [
      | inl read ↦
          let (part, e1, f1) = bind_some (part_of (commands_with command) is_first ws) _ x read in
          let (label, e2, f2) = bind_some (label_of is_first ws) _ part e1 in
          let (body, e3, f3) = bind_some (commands_with command label.1) _ part f2 in
          let is : ((label.0, body.0), body.1) ≡ part = some_is f3 in
          let P : (LabelView × CommandsView) × List Lexeme → Type 0 =
          λ p. (parts_from (commands_with command) n (is_first && has_ranges p.0.0) p.1 >>= λ more. Some (PartsView.part_then p.0.0 p.0.1 more.0, more.1)) ≡ Some x in
          let (more, e4, f4) = bind_some (parts_from (commands_with command) n (is_first && has_ranges label.0) body.1) _ x (subst P (sym is) f1) in
          let first = label_sound is_first ws label e2 in
          let commands = commands_with_sound depth command of label.1 body e3 in
          let others = parts_sound depth command of n (is_first && has_ranges label.0) body.1 more e4 in
          let found : FoundParts depth is_first ws (PartsView.part_then label.0 body.0 more.0, more.1) = record {
            spelled = part_joined (Lexeme.symbol symbols.Colon) ws (spelling_label label.0) label.1 (spelling_commands body.0) body.1
                (spelling_parts more.0) more.1 first.spelled commands.spelled others.spelled;
            fits = (first.fits, commands.fits, others.fits);
          } in
          subst (FoundParts depth is_first ws) (some_is f4) found
      | inr same ↦
          let found : FoundParts depth is_first ws (PartsView.no_parts, ws) = record { spelled = refl; fits = tt } in
          subst (FoundParts depth is_first ws) (some_is same) found
    ]

parts_with_sound : (depth : ℕ) (command : Reader CommandView) → IsCommandSound depth [] command → (ws : List Lexeme) (x : PartsView × List Lexeme)
    → parts_with (commands_with command) ws ≡ Some x → FoundParts depth true ws x
unfolding parts_with
parts_with_sound depth command of ws x e = parts_sound depth command of (suc (length ws)) true ws x e

case_sound : (depth : ℕ) (expr : Reader ExprView) (command : Reader CommandView) → AreSound depth expr → IsCommandSound depth [] command
    → IsCommandSound (suc depth) (Lexeme.symbol symbols.Case ∷ []) (case_with expr command)
case_sound depth expr command tests of = record {
  sound = λ ws x e.
      let (argument, e1, f1) = bind_some (expr ws) _ x e in
      let (after, e2, f2) = bind_some (symbol symbols.LeftBrace argument.1) _ x f1 in
      let (parts, e3, f3) = bind_some (parts_with (commands_with command) after) _ x f2 in
      let (rest, e4, same) = bind_some (symbol symbols.RightBrace parts.1) _ x f3 in
      let asked = tests.sound ws argument e1 in
      let read = parts_with_sound depth command of after parts e3 in
      let found : FoundCommand (suc depth) (Lexeme.symbol symbols.Case ∷ ws) (CommandView.case argument.0 parts.0, rest) = record {
        spelled = case_joined (Lexeme.symbol symbols.Case) (Lexeme.symbol symbols.LeftBrace) (Lexeme.symbol symbols.RightBrace) ws (spelling argument.0)
            argument.1 after (spelling_parts parts.0) parts.1 rest asked.0 (symbol_found symbols.LeftBrace argument.1 after e2) read.spelled
            (symbol_found symbols.RightBrace parts.1 rest e4);
        fits = (asked.1, read.fits);
        settled = λ opened. absurd (cc);
      } in
      subst (FoundCommand (suc depth) (Lexeme.symbol symbols.Case ∷ ws)) (some_is same) found;
}

-- the `else` of an `if` was found
else_found : (ws rest : List Lexeme) → an_else ws ≡ Some rest → ws ≡ Lexeme.symbol symbols.Else ∷ rest
else_found ws rest e =
    let (after, found, read) = bind_some (symbol symbols.Else ws) _ rest e in
    elim (with_some_cases (symbol symbols.Colon after) _ _ rest read) [
      | inl p ↦
          let same : after ≡ rest = some_is p.1 in
          symbol_found symbols.Else ws after found ∙ ap (λ (vs : List Lexeme). Lexeme.symbol symbols.Else ∷ vs) same
      | inr p ↦ absurd (cc (p.2))
    ]

-- a command after which an `else` was found is not open
closed : (t : CommandView) (ws after : List Lexeme) → (is_open t ≡ true → an_else ws ≡ None) → an_else ws ≡ Some after
    → is_open t ≡ false
closed t ws after settled found = go (is_open t) refl
  where
    go : (b : Bool) → is_open t ≡ b → is_open t ≡ false
    go false e = e
    go true e = let none : an_else ws ≡ None = settled e in absurd (cc)

if_sound : (depth : ℕ) (expr : Reader ExprView) (command : Reader CommandView) → AreSound depth expr → IsCommandSound depth [] command
    → IsCommandSound (suc depth) (Lexeme.symbol symbols.If ∷ []) (if_with expr command)
if_sound depth expr command tests of = record {
  sound = λ ws x e.
      let (test, e1, f1) = bind_some (expr ws) _ x e in
      let (after, e2, f2) = bind_some (symbol symbols.Then test.1) _ x f1 in
      let (chosen, e3, f3) = bind_some (command after) _ x f2 in
      let asked = tests.sound ws test e1 in
      let taken = of.sound after chosen e3 in
      let front : ws ≡ spelling test.0 ++ Lexeme.symbol symbols.Then ∷ (spelling_command chosen.0 ++ chosen.1) =
      front_joined (Lexeme.symbol symbols.Then) ws (spelling test.0) test.1 after (spelling_command chosen.0) chosen.1 asked.0
      (symbol_found symbols.Then test.1 after e2) taken.spelled in
      elim (with_some_cases (an_else chosen.1) _ _ x f3) [
        | inl (none, same) ↦
            let found : FoundCommand (suc depth) (Lexeme.symbol symbols.If ∷ ws) (CommandView.if_then test.0 chosen.0, chosen.1) = record {
              spelled = if_joined (Lexeme.symbol symbols.If) (Lexeme.symbol symbols.Then) ws (spelling test.0) (spelling_command chosen.0) chosen.1 front;
              fits = (asked.1, taken.fits);
              settled = λ opened. none;
            } in
            subst (FoundCommand (suc depth) (Lexeme.symbol symbols.If ∷ ws)) (some_is same) found
        | inr (others, some, read) ↦
            let (other, e4, same) = bind_some (command others) _ x read in
            let left = of.sound others other e4 in
            let found : FoundCommand (suc depth) (Lexeme.symbol symbols.If ∷ ws) (CommandView.if_else test.0 chosen.0 other.0, other.1) = record {
              spelled = else_joined (Lexeme.symbol symbols.If) (Lexeme.symbol symbols.Then) (Lexeme.symbol symbols.Else) ws (spelling test.0)
                  (spelling_command chosen.0) chosen.1 others
                  (spelling_command other.0) other.1 front (else_found chosen.1 others some) left.spelled;
              fits = (closed chosen.0 chosen.1 others taken.settled some, (asked.1, taken.fits, left.fits));
              settled = left.settled;
            } in
            subst (FoundCommand (suc depth) (Lexeme.symbol symbols.If ∷ ws)) (some_is same) found
      ];
}

refused_sound : (depth : ℕ) (before : List Lexeme) → IsCommandSound depth before refused
refused_sound depth before = record { sound = λ ws x e. absurd (cc) }

by_sound : (depth : ℕ) (expr : Reader ExprView) (block if_then cases : Reader CommandView) → AreSound depth expr
    → IsCommandSound depth (Lexeme.symbol symbols.LeftBrace ∷ []) block
    → IsCommandSound depth (Lexeme.symbol symbols.If ∷ []) if_then → IsCommandSound depth (Lexeme.symbol symbols.Case ∷ []) cases → (k : Symbol) → IsCommandSound depth (Lexeme.symbol k ∷ []) (command_by expr block if_then cases k)
by_sound depth expr block if_then cases of blocks choices parts symbols.Semicolon = record {
  sound = λ ws x e.
      let found : FoundCommand depth (Lexeme.symbol symbols.Semicolon ∷ ws) (CommandView.empty, ws) =
      record { spelled = refl; fits = tt; settled = λ opened. absurd (cc) } in
      subst (FoundCommand depth (Lexeme.symbol symbols.Semicolon ∷ ws)) (some_is e) found;
}
by_sound depth expr block if_then cases of blocks choices parts symbols.LeftBrace = blocks
by_sound depth expr block if_then cases of blocks choices parts symbols.If = choices
by_sound depth expr block if_then cases of blocks choices parts symbols.Case = parts
by_sound depth expr block if_then cases of blocks choices parts symbols.Accept = accepts_sound depth
by_sound depth expr block if_then cases of blocks choices parts symbols.Reject = rejects_sound depth
by_sound depth expr block if_then cases of blocks choices parts symbols.RipMetric = assign_sound depth expr of TargetView.to_metric
by_sound depth expr block if_then cases of blocks choices parts symbols.Net = assign_sound depth expr of TargetView.to_net
by_sound depth expr block if_then cases of blocks choices parts other = record { sound = λ ws x e. absurd (cc) }

with_sound : (depth : ℕ) (expr : Reader ExprView) (block if_then cases : Reader CommandView) → AreSound depth expr
    → IsCommandSound depth (Lexeme.symbol symbols.LeftBrace ∷ []) block
    → IsCommandSound depth (Lexeme.symbol symbols.If ∷ []) if_then → IsCommandSound depth (Lexeme.symbol symbols.Case ∷ []) cases → (ws : List Lexeme) (x : CommandView × List Lexeme) → command_with expr block if_then cases ws ≡ Some x
    → FoundCommand depth ws x
with_sound depth expr block if_then cases of blocks choices parts [] x e = absurd (cc)
with_sound depth expr block if_then cases of blocks choices parts (Lexeme.name text ∷ ws) x e =
    (assign_sound depth expr of (TargetView.to_name text)).sound ws x e
with_sound depth expr block if_then cases of blocks choices parts (Lexeme.number n ∷ ws) x e = absurd (cc)
with_sound depth expr block if_then cases of blocks choices parts (Lexeme.address a ∷ ws) x e = absurd (cc)
with_sound depth expr block if_then cases of blocks choices parts (Lexeme.prefix bits ∷ ws) x e = absurd (cc)
with_sound depth expr block if_then cases of blocks choices parts (Lexeme.quote ∷ ws) x e = absurd (cc)
with_sound depth expr block if_then cases of blocks choices parts (Lexeme.symbol k ∷ ws) x e =
    (by_sound depth expr block if_then cases of blocks choices parts k).sound ws x e

-- what is read of a command is spelled so, and fits
pub command_sound : (of : (depth : ℕ) → AreSound depth (expr_at depth)) (depth : ℕ) → IsCommandSound depth [] (command_at depth)
unfolding command_at
command_sound of zero = record {
  sound = λ ws x e. with_sound zero (expr_at zero) refused refused refused (of zero) (refused_sound zero _) (refused_sound zero _) (refused_sound zero _) ws x e;
}
command_sound of (suc depth) = record {
  sound = λ ws x e.
      with_sound (suc depth) (expr_at (suc depth)) (block_with (command_at depth)) (if_with (expr_at depth) (command_at depth))
      (case_with (expr_at depth) (command_at depth)) (of (suc depth))
      (block_sound depth (command_at depth) (command_sound of depth))
      (if_sound depth (expr_at depth) (command_at depth) (of depth) (command_sound of depth))
      (case_sound depth (expr_at depth) (command_at depth) (of depth) (command_sound of depth)) ws x e;
}
