-- What is read of a filter is spelled so, and what is spelled so is read.
use Rattle.std.proofs.Common.{◌≡◌, refl, ap, subst, ◌∙◌, sym, ℕ, zero, suc, ◌≤◌, List, [], ◌∷◌, ◌++◌, length, Some}
use Rattle.std.proofs.Common.{None, inl, inr, append_assoc, arith}
use Rattle.std.proofs.lemmas.List.{append-nil}
use Rattle.filter_tokens.specs.Lexemes.{Lexeme}
use Rattle.filter_tokens.specs.declared.symbol.Symbol.{Symbol}
use Rattle.filter_tokens.specs.declared.symbol.Symbol.TheVariants as symbols
use Rattle.filter_syntax.specs.declared.tree.decl.Kind.{Kind}
use Rattle.filter_syntax.specs.declared.tree.decl.Kind.TheVariants as kind
use Rattle.filter_parser.specs.ReadingCommands.{SaidView, command_at, commands_with, decl_turn, decl_with, decls_after, filter_of, a_kind}
use Rattle.expression_parser.specs.Readers.{a_name, turns, symbol}
use Rattle.filter_parser.specs.ReadingCommands.{kind_of, nothing_after}
use Rattle.expression_parser.specs.Reading.{expr_at}
use Rattle.filter_syntax.specs.Syntax.{nesting_limit}
use Rattle.filter_syntax.specs.SyntaxCommands.{TargetView, CommandView, CommandsView, DeclView, FitsCommands}
use Rattle.filter_syntax.specs.SyntaxCommands.{kind_symbol, spelling_command, spelling_commands}
use Rattle.filter_syntax.specs.SyntaxCommands.{spelling_decl, spelling_decls}
use Rattle.filter_syntax.specs.SyntaxText.{spelling_filter}
use Rattle.filter_parser.proofs.CommandsComplete.{AreComplete, brace_ends, command_complete, commands_with_complete}
use Rattle.filter_parser.proofs.CommandsSound.{AreSound, command_sound, commands_with_sound}
use Rattle.expression_parser.proofs.Complete.{expr_complete}
use Rattle.expression_parser.proofs.CompleteOperands.{rank_most}
use Rattle.expression_parser.proofs.Sound.{expr_sound}
use Rattle.expression_parser.proofs.Steps.{bind_some, symbol_found, some_is, with_some_cases}

exprs_sound : (depth : ℕ) → AreSound depth (expr_at depth)
exprs_sound depth = record { sound = λ ws x e. let found = (expr_sound depth).sound ws x e in (found.spelled, found.fits) }

exprs_complete : (depth : ℕ) → AreComplete depth (expr_at depth)
exprs_complete depth = record {
  before_end = λ t rest fits. (expr_complete depth).complete t (Lexeme.symbol symbols.Semicolon ∷ rest) fits (rank_most t) (omega arith);
  before_then = λ t rest fits. (expr_complete depth).complete t (Lexeme.symbol symbols.Then ∷ rest) fits (rank_most t) (omega arith);
  before_brace = λ t rest fits. (expr_complete depth).complete t (Lexeme.symbol symbols.LeftBrace ∷ rest) fits (rank_most t) (omega arith);
}

-- ---- declarations

kind_is : (k : Symbol) (found : Kind) → kind_of k ≡ Some found → k ≡ kind_symbol found
kind_is symbols.Int found e = ap kind_symbol (some_is e)
kind_is symbols.Bool found e = ap kind_symbol (some_is e)
kind_is symbols.Ip found e = ap kind_symbol (some_is e)
kind_is symbols.Prefix found e = ap kind_symbol (some_is e)
kind_is _ found e = absurd (cc)

kind_again : (k : Kind) → kind_of (kind_symbol k) ≡ Some k
kind_again kind.Int = refl
kind_again kind.Bool = refl
kind_again kind.Ip = refl
kind_again kind.Prefix = refl

kind_found : (ws : List Lexeme) (x : Kind × List Lexeme) → a_kind ws ≡ Some x → ws ≡ Lexeme.symbol (kind_symbol x.0) ∷ x.1
kind_found [] x e = absurd (cc)
kind_found (Lexeme.symbol k ∷ ws) x e =
    let (found, e1, same) = bind_some (kind_of k) _ x e in
    let P : Kind × List Lexeme → Type 0 = λ y. Lexeme.symbol k ∷ ws ≡ Lexeme.symbol (kind_symbol y.0) ∷ y.1 in
    subst P (some_is same) (ap (λ (n : Symbol). Lexeme.symbol n ∷ ws) (kind_is k found e1))
kind_found (_ ∷ ws) x e = absurd (cc)

name_found : (ws : List Lexeme) (x : List ℕ × List Lexeme) → a_name ws ≡ Some x → ws ≡ Lexeme.name x.0 ∷ x.1
name_found [] x e = absurd (cc)
name_found (Lexeme.name text ∷ ws) x e =
    let P : List ℕ × List Lexeme → Type 0 = λ y. Lexeme.name text ∷ ws ≡ Lexeme.name y.0 ∷ y.1 in
    subst P (some_is e) refl
name_found (_ ∷ ws) x e = absurd (cc)

decl_found : (k : Kind) (w : Lexeme) (ws : List Lexeme) (x : DeclView × List Lexeme) → w ≡ Lexeme.symbol (kind_symbol k)
    → decl_with k ws ≡ Some x → w ∷ ws ≡ spelling_decl x.0 ++ x.1
decl_found k w ws x first e =
    let (name, e1, f1) = bind_some (a_name ws) _ x e in
    let (rest, e2, f2) = bind_some (symbol symbols.Semicolon name.1) _ x f1 in
    let P : DeclView × List Lexeme → Type 0 = λ y. w ∷ ws ≡ spelling_decl y.0 ++ y.1 in
    let a : ws ≡ Lexeme.name name.0 ∷ name.1 = name_found ws name e1 in
    let b : name.1 ≡ Lexeme.symbol symbols.Semicolon ∷ rest = symbol_found symbols.Semicolon name.1 rest e2 in
    let c : w ∷ ws ≡ Lexeme.symbol (kind_symbol k) ∷ Lexeme.name name.0 ∷ Lexeme.symbol symbols.Semicolon ∷ rest = cc in
    subst P (some_is f2) c

-- declarations that were read after others
pub record FoundDecls (front : List DeclView) (ws : List Lexeme) (x : List DeclView × List Lexeme) : Type 0 where
  pub more : List DeclView
  pub all : x.0 ≡ front ++ more
  pub spelled : ws ≡ spelling_decls more ++ x.1

turn_found : (front : List DeclView) (ws : List Lexeme) (y : List DeclView × List Lexeme) → decl_turn front ws ≡ Some (Some y)
    → (d : DeclView) × (y.0 ≡ front ++ d ∷ []) × (ws ≡ spelling_decl d ++ y.1)
turn_found front ws y e =
    elim (with_some_cases (a_kind ws) _ _ (Some y) e) [
      | inl (none, same) ↦ absurd (cc)
      | inr (k, e1, read) ↦
          let (d, e2, same) = bind_some (decl_with k.0 k.1) _ (Some y) read in
          let is : (front ++ d.0 ∷ [], d.1) ≡ y = some_is (some_is same) in
          let P : List DeclView × List Lexeme → Type 0 = λ z. (d : DeclView) × (z.0 ≡ front ++ d ∷ []) × (ws ≡ spelling_decl d ++ z.1) in
          subst P is (d.0, refl, kind_found ws k e1 ∙ decl_found k.0 (Lexeme.symbol (kind_symbol k.0)) k.1 d refl e2)
    ]

turns_found : (n : ℕ) (front : List DeclView) (ws : List Lexeme) (x : List DeclView × List Lexeme) → turns decl_turn n front ws ≡ Some x
    → FoundDecls front ws x
turns_found zero front ws x e =
    let found : FoundDecls front ws (front, ws) = record { more = []; all = sym (append-nil front); spelled = refl } in
    subst (FoundDecls front ws) (some_is e) found
turns_found (suc n) front ws x e =
    let (turn, e1, read) = bind_some (decl_turn front ws) _ x e in
    elim (with_some_cases turn _ _ x read) [
      | inl (none, same) ↦
          let found : FoundDecls front ws (front, ws) = record { more = []; all = sym (append-nil front); spelled = refl } in
          subst (FoundDecls front ws) (some_is same) found
      | inr (y, e2, later) ↦
          let one = turn_found front ws y (e1 ∙ ap Some e2) in
          let others = turns_found n y.0 y.1 x later in
          record {
            more = one.0 ∷ others.more;
            all = all_joined front one.0 others.more y.0 x.0 one.1 others.all;
            spelled = joined ws (spelling_decl one.0) (spelling_decls others.more) y.1 x.1 one.2 others.spelled;
          }
    ]
  where
    all_joined : (front : List DeclView) (d : DeclView) (more next all : List DeclView) → next ≡ front ++ d ∷ [] → all ≡ next ++ more
        → all ≡ front ++ d ∷ more
    all_joined front d more next all a b = b ∙ ap (λ (xs : List DeclView). xs ++ more) a ∙ append_assoc front (d ∷ []) more

    joined : (ws a b r s : List Lexeme) → ws ≡ a ++ r → r ≡ b ++ s → ws ≡ (a ++ b) ++ s
    joined ws a b r s e f = rw (e, f) (simp append_assoc)

decls_found : (front : List DeclView) (ws : List Lexeme) (x : List DeclView × List Lexeme) → decls_after front ws ≡ Some x
    → FoundDecls front ws x
unfolding decls_after
decls_found front ws x e = turns_found (length ws) front ws x e

turn_again : (front : List DeclView) (d : DeclView) (rest : List Lexeme)
    → decl_turn front (spelling_decl d ++ rest) ≡ Some (Some (front ++ d ∷ [], rest))
turn_again front d rest = rw (kind_again d.kind) refl

turns_again : (ds : List DeclView) (n : ℕ) (front : List DeclView) (rest : List Lexeme) → a_kind rest ≡ None
    → length (spelling_decls ds ++ rest) ≤ n
    → turns decl_turn n front (spelling_decls ds ++ rest) ≡ Some (front ++ ds, rest)
turns_again [] zero front rest none le = ap (λ (xs : List DeclView). Some (xs, rest)) (sym (append-nil front))
turns_again [] (suc n) front rest none le = rw none (ap (λ (xs : List DeclView). Some (xs, rest)) (sym (append-nil front)))
turns_again (d ∷ ds) zero front rest none le = absurd (omega arith)
turns_again (d ∷ ds) (suc n) front rest none le =
    rw (kind_again d.kind) (turns_again ds n (front ++ d ∷ []) rest none (omega arith)
    ∙ ap (λ (xs : List DeclView). Some (xs, rest)) (append_assoc front (d ∷ []) ds))

decls_again : (ds front : List DeclView) (rest : List Lexeme) → a_kind rest ≡ None
    → decls_after front (spelling_decls ds ++ rest) ≡ Some (front ++ ds, rest)
unfolding decls_after
decls_again ds front rest none = turns_again ds (length (spelling_decls ds ++ rest)) front rest none (omega arith)

-- ---- a filter

-- no declaration begins as a command, or as the end of commands
no_kind : (t : CommandView) (rest : List Lexeme) → a_kind (spelling_command t ++ rest) ≡ None
no_kind CommandView.empty rest = refl
no_kind (CommandView.block body) rest = refl
no_kind (CommandView.if_then test chosen) rest = refl
no_kind (CommandView.if_else test chosen other) rest = refl
no_kind (CommandView.case argument parts) rest = refl
no_kind (CommandView.assign (TargetView.to_name text) value) rest = refl
no_kind (CommandView.assign TargetView.to_metric value) rest = refl
no_kind (CommandView.assign TargetView.to_net value) rest = refl
no_kind (CommandView.accept has_text) rest = refl
no_kind (CommandView.reject has_text) rest = refl

no_kind_commands : (body : CommandsView) (rest : List Lexeme) → a_kind (spelling_commands body ++ Lexeme.symbol symbols.RightBrace ∷ rest) ≡ None
no_kind_commands CommandsView.no_commands rest = refl
no_kind_commands (CommandsView.command_then first more) rest =
    rw (append_assoc {A = Lexeme} (spelling_command first) (spelling_commands more) (Lexeme.symbol symbols.RightBrace ∷ rest))
    (no_kind first (spelling_commands more ++ Lexeme.symbol symbols.RightBrace ∷ rest))

whole_found : {A : Type 0} (x : A) (ws : List Lexeme) (y : A) → nothing_after x ws ≡ Some y → (ws ≡ []) × (x ≡ y)
whole_found x [] y e = (refl, some_is e)
whole_found x (w ∷ ws) y e = absurd (cc)

-- what was read of a filter: it is spelled so, and fits
pub record FoundFilter (ws : List Lexeme) (x : SaidView) : Type 0 where
  pub head : List DeclView
  pub inner : List DeclView
  pub declared : x.decls ≡ head ++ inner
  pub spelled : ws ≡ spelling_filter x.name head inner x.body
  pub fits : FitsCommands x.body nesting_limit

filter_joined : (ws a b c d e : List Lexeme) (f g h k n : Lexeme) (front inner body : List Lexeme) → ws ≡ f ∷ a → a ≡ n ∷ b → b ≡ front ++ c
    → c ≡ g ∷ d → d ≡ inner ++ e → e ≡ body ++ k ∷ []
    → ws ≡ f ∷ n ∷ (front ++ g ∷ (inner ++ (body ++ k ∷ [])))
filter_joined ws a b c d e f g h k n front inner body e1 e2 e3 e4 e5 e6 = rw (e1, e2, e3, e4, e5, e6) refl

pub filter_sound : (ws : List Lexeme) (x : SaidView) → filter_of ws ≡ Some x → FoundFilter ws x
filter_sound ws x e =
    let (a, e1, f1) = bind_some (symbol symbols.Filter ws) _ x e in
    let (name, e2, f2) = bind_some (a_name a) _ x f1 in
    let (head, e3, f3) = bind_some (decls_after [] name.1) _ x f2 in
    let (d, e4, f4) = bind_some (symbol symbols.LeftBrace head.1) _ x f3 in
    let (all, e5, f5) = bind_some (decls_after head.0 d) _ x f4 in
    let (body, e6, f6) = bind_some (commands_with (command_at nesting_limit) all.1) _ x f5 in
    let (last, e7, f7) = bind_some (symbol symbols.RightBrace body.1) _ x f6 in
    let (nothing, is) = whole_found _ last x f7 in
    let front = decls_found [] name.1 head e3 in
    let inner = decls_found head.0 d all e5 in
    let commands = commands_with_sound nesting_limit (command_at nesting_limit) (command_sound exprs_sound nesting_limit) all.1 body e6 in
    let found : FoundFilter ws (record { name = name.0; decls = all.0; body = body.0 }) = record {
      head = front.more;
      inner = inner.more;
      declared = inner.all ∙ ap (λ (xs : List DeclView). xs ++ inner.more) front.all;
      spelled = filter_joined ws a name.1 head.1 d all.1 (Lexeme.symbol symbols.Filter) (Lexeme.symbol symbols.LeftBrace) (Lexeme.symbol symbols.LeftBrace)
          (Lexeme.symbol symbols.RightBrace) (Lexeme.name name.0)
          (spelling_decls front.more) (spelling_decls inner.more) (spelling_commands body.0) (symbol_found symbols.Filter ws a e1)
          (name_found a name e2) front.spelled
          (symbol_found symbols.LeftBrace head.1 d e4) inner.spelled (commands.spelled
          ∙ ap (λ (rest : List Lexeme). spelling_commands body.0 ++ rest) (symbol_found symbols.RightBrace body.1 last e7)
          ∙ ap (λ (rest : List Lexeme). spelling_commands body.0 ++ Lexeme.symbol symbols.RightBrace ∷ rest) nothing);
      fits = commands.fits;
    } in
    subst (FoundFilter ws) is found

pub filter_complete : (name : List ℕ) (head inner : List DeclView) (body : CommandsView) → FitsCommands body nesting_limit
    → filter_of (spelling_filter name head inner body) ≡ Some (record { name = name; decls = head ++ inner; body = body })
filter_complete name head inner body fits =
    rw (
      decls_again head [] (Lexeme.symbol symbols.LeftBrace ∷ (spelling_decls inner ++ (spelling_commands body ++ Lexeme.symbol symbols.RightBrace ∷ []))) refl,
      decls_again inner head (spelling_commands body ++ Lexeme.symbol symbols.RightBrace ∷ []) (no_kind_commands body []),
      commands_with_complete nesting_limit (command_at nesting_limit) (command_complete exprs_complete nesting_limit) body (Lexeme.symbol symbols.RightBrace ∷ []) fits
          (brace_ends []),
    ) refl
