-- A text and its filter: what is read of the tokens of a text is the filter that the text spells.
use Rattle.std.proofs.Common.{◌≡◌, refl, ap, sym, ◌∙◌, ℕ, ◌≤◌, List, length, Some}
use Rattle.filter_tokens.specs.Tokenization.{IsTokenization}
use Rattle.filter_tokens.specs.Lexemes.{lexemes}
use Rattle.filter_tokens.specs.declared.token.Token.{Token}
use Rattle.filter_tokens.proofs.Tokenized.{tokenized_once}
use Rattle.filter_parser.specs.ReadingCommands.{SaidView, filter_of}
use Rattle.filter_syntax.specs.SyntaxCommands.{DeclView}
use Rattle.filter_syntax.specs.Syntax.{text_limit}
use Rattle.filter_syntax.specs.SyntaxText.{IsText, FilterView}
use Rattle.filter_parser.proofs.FilterLaws.{filter_complete, filter_sound}
use Rattle.expression_parser.proofs.Steps.{some_is}

-- what a filter says without its tokens, and with tokens
abbrev pub said : FilterView → SaidView
said t = record { name = t.name; decls = t.decls; body = t.body }

abbrev pub program : SaidView → List Token → FilterView
program x tokens = record { name = x.name; decls = x.decls; body = x.body; tokens = tokens }

-- what is read of the tokens that a text is cut into, the text spells
pub text_found : (text : List ℕ) (tokens : List Token) (x : SaidView) → length text ≤ text_limit → IsTokenization tokens 0 text
    → filter_of (lexemes text tokens) ≡ Some x
    → IsText text (program x tokens)
text_found text tokens x size cut read =
    let found = filter_sound (lexemes text tokens) x read in
    record {
      size = size;
      cut = cut;
      head = found.head;
      inner = found.inner;
      declared = found.declared;
      spelled = found.spelled;
      fits = found.fits;
    }

-- what a text spells is read of its tokens
pub text_only : (text : List ℕ) (tokens : List Token) (t : FilterView) → IsText text t → tokens ≡ t.tokens
    → filter_of (lexemes text tokens) ≡ Some (said t)
text_only text tokens t is same =
    ap (λ (ts : List Token). filter_of (lexemes text ts)) same ∙ ap filter_of is.spelled
    ∙ filter_complete t.name is.head is.inner t.body is.fits
    ∙ ap (λ (ds : List DeclView). let x : SaidView = record { name = t.name; decls = ds; body = t.body } in Some x) (sym is.declared)

-- a text spells one filter
pub text_once : (text : List ℕ) (tokens : List Token) (x : SaidView) (t : FilterView) → filter_of (lexemes text tokens) ≡ Some x → IsText text t
    → tokens ≡ t.tokens
    → t ≡ program x tokens
text_once text tokens x t read is same =
    let e : said t ≡ x = some_is (sym (text_only text tokens t is same) ∙ read) in
    ap (λ (ts : List Token). program (said t) ts) (sym same) ∙ ap (λ (y : SaidView). program y tokens) e

-- no text spells two filters
pub text_one : (text : List ℕ) (t u : FilterView) → IsText text t → IsText text u → t ≡ u
text_one text t u is other =
    let same : u.tokens ≡ t.tokens = tokenized_once text u.tokens t.tokens other.cut is.cut in
    let read = text_only text t.tokens t is refl in
    text_once text t.tokens (said t) t read is refl ∙ sym (text_once text t.tokens (said t) u read other (sym same))
