-- The loop over declarations, beside the function that reads them.
use Rattle.std.proofs.Common.{◌≡◌, ◌<◌, List, [], ◌∷◌, ◌++◌, length, Option, Some, None, refl, arith}
use Rattle.filter_tokens.specs.Lexemes.{Lexeme}
use Rattle.filter_syntax.specs.declared.tree.decl.Kind.{Kind}
use Rattle.filter_parser.specs.ReadingCommands.{a_kind, decl_with, decl_turn, decls_after}
use Rattle.filter_syntax.specs.SyntaxCommands.{DeclView}
use Rattle.expression_parser.proofs.Turns.{Goes}
use Rattle.expression_parser.proofs.Turns as turns

pub begins : (front : List DeclView) (ws : List Lexeme) → Goes decl_turn front ws (decls_after front ws)
unfolding decls_after
begins front ws = turns.starts decl_turn front ws

turn_on : (front : List DeclView) (k : Kind) (ws after rest : List Lexeme) (d : DeclView)
    → a_kind ws ≡ Some (k, after) → decl_with k after ≡ Some (d, rest) → decl_turn front ws ≡ Some (Some (front ++ d ∷ [], rest))
turn_on front k ws after rest d first read = rw (first, read) refl

turn_stops : (front : List DeclView) (k : Kind) (ws after : List Lexeme) → a_kind ws ≡ Some (k, after) → decl_with k after ≡ None
    → decl_turn front ws ≡ None
turn_stops front k ws after first read = rw (first, read) refl

turn_ends : (front : List DeclView) (ws : List Lexeme) → a_kind ws ≡ None → decl_turn front ws ≡ Some None
turn_ends front ws first = rw first refl

pub goes_on : {front : List DeclView} {k : Kind} {ws after rest : List Lexeme} {d : DeclView} {total : Option
    (List DeclView × List Lexeme)}
    → Goes decl_turn front ws total → a_kind ws ≡ Some (k, after) → decl_with k after ≡ Some (d, rest) → length rest < length after
    → length after < length ws
    → Goes decl_turn (front ++ d ∷ []) rest total
goes_on {front} {k} {ws} {after} {rest} {d} {total} g first read shorter shorter_yet =
    turns.goes_on decl_turn front (front ++ d ∷ []) ws rest total (turn_on front k ws after rest d first read) (omega arith) g

pub stops : {front : List DeclView} {k : Kind} {ws after : List Lexeme} {total : Option (List DeclView × List Lexeme)}
    → Goes decl_turn front ws total → a_kind ws ≡ Some (k, after) → decl_with k after ≡ None → total ≡ None
stops {front} {k} {ws} {after} {total} g first read =
    turns.refuses decl_turn front ws total refl (turn_stops front k ws after first read) g

pub ends : {front : List DeclView} {ws : List Lexeme} {total : Option (List DeclView × List Lexeme)}
    → Goes decl_turn front ws total → a_kind ws ≡ None → total ≡ Some (front, ws)
ends {front} {ws} {total} g first = turns.ends decl_turn front ws total (turn_ends front ws first) g
