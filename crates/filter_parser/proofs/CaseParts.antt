-- The loop over the parts of a `case`, beside the function that reads them.
use Rattle.std.proofs.Common.{◌≡◌, ℕ, suc, ◌&&◌, ◌-◌, ◌<◌, List, [], ◌∷◌, ◌++◌, length, Option, Some, None, Bool, true, false, refl}
use Rattle.std.proofs.Common.{sym, ap, ◌∙◌, arith}
use Rattle.filter_tokens.specs.Lexemes.{Lexeme}
use Rattle.filter_parser.specs.ReadingCommands.{part_begins, part_of, parts_from, parts_with}
use Rattle.expression_parser.specs.Readers.{Reader}
use Rattle.prefix_patterns.specs.Reading.{◌>>=◌}
use Rattle.filter_syntax.specs.SyntaxCommands.{CommandsView, LabelView, PartsView, has_ranges, parts_of}

-- a part: its label and its commands
abbrev pub CasePartView : Type 0
CasePartView = LabelView × CommandsView

-- parts before others
abbrev pub before : List CasePartView → PartsView → PartsView
before [] more = more
before (x ∷ xs) more = PartsView.part_then x.0 x.1 (before xs more)

abbrev pub with_front : List CasePartView → Option (PartsView × List Lexeme) → Option (PartsView × List Lexeme)
with_front xs r = r >>= λ more. Some (before xs more.0, more.1)

-- the loop has made these parts, and the rest is read in turns enough; whether no part so far is the `else` part
pub record Goes (commands : Reader CommandsView) (is_first : Bool) (xs : List CasePartView) (ws : List Lexeme) (total : Option (PartsView × List Lexeme)) : Type 0 where
  pub turns : ℕ
  pub enough : length ws < turns
  pub same : with_front xs (parts_from commands turns is_first ws) ≡ total

nothing_before : (r : Option (PartsView × List Lexeme)) → with_front [] r ≡ r
nothing_before None = refl
nothing_before (Some x) = refl

one_more : (xs : List CasePartView) (x : CasePartView) (more : PartsView) → before (xs ++ x ∷ []) more ≡ before xs (PartsView.part_then x.0 x.1 more)
one_more [] x more = refl
one_more (y ∷ xs) x more = ap (PartsView.part_then y.0 y.1) (one_more xs x more)

all_of : (xs : List CasePartView) → before xs PartsView.no_parts ≡ parts_of xs
all_of [] = refl
all_of (x ∷ xs) = ap (PartsView.part_then x.0 x.1) (all_of xs)

regroup : (xs : List CasePartView) (x : CasePartView) (r : Option (PartsView × List Lexeme))
    → with_front xs (r >>= λ more. Some (PartsView.part_then x.0 x.1 more.0, more.1)) ≡ with_front (xs ++ x ∷ []) r
regroup xs x None = refl
regroup xs x (Some more) = ap (λ (all : PartsView). Some (all, more.1)) (sym (one_more xs x more.0))

first_is : (commands : Reader CommandsView) (n : ℕ) (is_first : Bool) (ws rest : List Lexeme) (x : CasePartView) → part_begins ws ≡ true
    → part_of commands is_first ws ≡ Some (x, rest)
    → parts_from commands (suc n) is_first ws
    ≡ (parts_from commands n (is_first && has_ranges x.0) rest >>= λ more. Some (PartsView.part_then x.0 x.1 more.0, more.1))
first_is commands n is_first ws rest x some found = rw (some, found) refl

none_is : (commands : Reader CommandsView) (n : ℕ) (is_first : Bool) (ws : List Lexeme) → part_begins ws ≡ true → part_of commands is_first ws ≡ None
    → parts_from commands (suc n) is_first ws ≡ None
none_is commands n is_first ws some found = rw (some, found) refl

end_is : (commands : Reader CommandsView) (n : ℕ) (is_first : Bool) (ws : List Lexeme) → part_begins ws ≡ false
    → parts_from commands (suc n) is_first ws ≡ Some (PartsView.no_parts, ws)
end_is commands n is_first ws found = rw found refl

pub begins : (commands : Reader CommandsView) (ws : List Lexeme) → Goes commands true [] ws (parts_with commands ws)
unfolding parts_with
begins commands ws = record { turns = suc (length ws); enough = omega arith; same = nothing_before (parts_from commands (suc (length ws)) true ws) }

pub goes_on : {commands : Reader CommandsView} {is_first : Bool} {xs : List CasePartView} {ws rest : List Lexeme} {total : Option (PartsView × List Lexeme)} {x : CasePartView}
    → Goes commands is_first xs ws total → part_begins ws ≡ true → part_of commands is_first ws ≡ Some (x, rest) → length rest < length ws
    → Goes commands (is_first && has_ranges x.0) (xs ++ x ∷ []) rest total
goes_on {commands} {is_first} {xs} {ws} {rest} {total} {x} g some found lt =
    let enough : length ws < g.turns = g.enough in
    let n : ℕ = g.turns - 1 in
    let is_suc : suc n ≡ g.turns = omega arith in
    record {
      turns = n;
      enough = omega arith;
      same = sym (regroup xs x (parts_from commands n (is_first && has_ranges x.0) rest))
          ∙ ap (with_front xs) (sym (first_is commands n is_first ws rest x some found))
          ∙ ap (λ (k : ℕ). with_front xs (parts_from commands k is_first ws)) is_suc ∙ g.same;
    }

pub stops : {commands : Reader CommandsView} {is_first : Bool} {xs : List CasePartView} {ws : List Lexeme} {total : Option (PartsView × List Lexeme)}
    → Goes commands is_first xs ws total → part_begins ws ≡ true → part_of commands is_first ws ≡ None → total ≡ None
stops {commands} {is_first} {xs} {ws} {total} g some found =
    let enough : length ws < g.turns = g.enough in
    let n : ℕ = g.turns - 1 in
    let is_suc : suc n ≡ g.turns = omega arith in
    sym g.same ∙ ap (λ (k : ℕ). with_front xs (parts_from commands k is_first ws)) (sym is_suc)
    ∙ ap (with_front xs) (none_is commands n is_first ws some found)

pub ends : {commands : Reader CommandsView} {is_first : Bool} {xs : List CasePartView} {ws : List Lexeme} {total : Option (PartsView × List Lexeme)}
    → Goes commands is_first xs ws total → part_begins ws ≡ false → total ≡ Some (parts_of xs, ws)
ends {commands} {is_first} {xs} {ws} {total} g found =
    let enough : length ws < g.turns = g.enough in
    let n : ℕ = g.turns - 1 in
    let is_suc : suc n ≡ g.turns = omega arith in
    sym g.same ∙ ap (λ (k : ℕ). with_front xs (parts_from commands k is_first ws)) (sym is_suc)
    ∙ ap (with_front xs) (end_is commands n is_first ws found)
    ∙ ap (λ (all : PartsView). Some (all, ws)) (all_of xs)
