-- The places that commands and declarations keep, put together as they are read.
use Rattle.std.proofs.Common.{◌≡◌, refl, sym, ap, ◌∙◌, ℕ, List, [], ◌∷◌, ◌++◌, map, Some, None}
use Rattle.std.proofs.lemmas.List.{append-nil}
use Rattle.filter_tokens.specs.Lexemes.{Lexeme, lexeme, lexemes}
use Rattle.filter_tokens.specs.declared.symbol.Symbol.TheVariants as symbols
use Rattle.filter_tokens.specs.declared.token.Token.{Token}
use Rattle.std.specs.Prelude.{Bool, Vec}
use Rattle.std.specs.declared.alloc.Global.{Global}
use Rattle.expression_parser.specs.declared.input.Input.{Input}
use Rattle.expression_parser.proofs.Placing.{spans_both}
use Rattle.filter_syntax.specs.declared.tree.command.Command.{Command}
use Rattle.filter_syntax.specs.declared.tree.command.Command.TheFolds.{fold-roll-Command}
use Rattle.filter_syntax.specs.declared.tree.command.Command.TheOpen.{Command-F}
use Rattle.filter_syntax.specs.declared.tree.command.Command.TheVariants as command
use Rattle.filter_syntax.specs.declared.tree.command.Label.{Label}
use Rattle.filter_syntax.specs.declared.tree.command.Target.{Target}
use Rattle.filter_syntax.specs.declared.tree.expr.Expr.{Expr}
use Rattle.filter_syntax.specs.declared.tree.decl.Decl.{Decl}
use Rattle.filter_syntax.specs.Placed.{Kept, AreAt, joined, expr_kept}
use Rattle.filter_syntax.specs.Placed.{ArePlaced, decl_kept, part_kept, part_kept_step, command_kept, command_kept_step, end_kept}
use Rattle.expression_parser.specs.Readers.{symbol}
use Rattle.expression_parser.specs.Steps.{Spans, Grown, remaining}
use Rattle.expression_parser.proofs.Steps.{symbol_found}

-- the brace before the body
pub record IsBrace (text : List ℕ) (tokens more : List Token) : Type 0 where
  pub brace : Token
  pub whole : tokens ≡ brace ∷ more
  pub is : lexeme text brace ≡ Lexeme.symbol symbols.LeftBrace

one_token : (at : ℕ) (text : List ℕ) (tokens front more : List Token) → tokens ≡ front ++ more → AreAt (Some at ∷ []) front
    → lexemes text tokens ≡ Lexeme.symbol symbols.LeftBrace ∷ lexemes text more → IsBrace text tokens more
one_token at text tokens [] more e placed read = absurd placed
one_token at text tokens (t ∷ []) more e placed read =
    let found : lexeme text t ∷ lexemes text more ≡ Lexeme.symbol symbols.LeftBrace ∷ lexemes text more =
    ap (lexemes text) (sym e) ∙ read in
    record { brace = t; whole = e; is = cc }
one_token at text tokens (t ∷ u ∷ ts) more e placed read = absurd placed.1

-- a filter from its first token on
pub all_placed : {start input rest second last : Input} {at : ℕ} {head decls : List Decl} {body : List Command}
    → Spans (None ∷ None ∷ joined (map decl_kept head)) start input → Spans (Some at ∷ []) input rest
    → symbol symbols.LeftBrace (remaining input) ≡ Some (remaining rest) → Grown decl_kept head decls rest second
    → Spans (joined (map command_kept body) ++ None ∷ []) second last → last.tokens.now ≡ []
    → ArePlaced start.source.now.text.now start.tokens.now decls body
all_placed {start} {input} {rest} {second} {last} {at} {head} {decls} {body} front brace read grown commands end =
    let found : remaining input ≡ Lexeme.symbol symbols.LeftBrace ∷ lexemes input.source.now.text.now rest.tokens.now =
    symbol_found symbols.LeftBrace (remaining input) (remaining rest) read
    ∙ ap (λ (text : List ℕ). Lexeme.symbol symbols.LeftBrace ∷ lexemes text rest.tokens.now) brace.same_text in
    let one = one_token at input.source.now.text.now input.tokens.now brace.tokens rest.tokens.now brace.whole brace.placed found in
    let back = spans_both grown.spans commands in
    record {
      head = head;
      inner = grown.more;
      declared = grown.whole;
      front = front.tokens;
      brace = one.brace;
      back = back.tokens;
      cut = front.whole ∙ ap (λ (ts : List Token). front.tokens ++ ts) (one.whole
          ∙ ap (λ (ts : List Token). one.brace ∷ ts) (back.whole ∙ ap (λ (ts : List Token). back.tokens ++ ts) end ∙ append-nil back.tokens));
      is_brace = ap (λ (text : List ℕ). lexeme text one.brace) (sym front.same_text) ∙ one.is;
      head_placed = front.placed;
      body_placed = back.placed;
    }
