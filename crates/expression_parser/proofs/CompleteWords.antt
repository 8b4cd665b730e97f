-- Suffixes, sets and operands of one word are read as they are spelled.
use Rattle.std.proofs.Common.{◌≡◌, refl, sym, ap, subst, ◌∙◌, ℕ, ◌≤◌, ◌<◌, nat_le, List, [], ◌∷◌, ◌++◌, length, true, Option, Some, None}
use Rattle.std.proofs.Common.{append_assoc, append-nil, length-append, codes, arith}
use Rattle.filter_tokens.specs.Lexemes.{Lexeme}
use Rattle.filter_tokens.specs.declared.symbol.Symbol.TheVariants as symbols
use Rattle.filter_syntax.specs.declared.tree.op.Suffix.{Suffix}
use Rattle.filter_syntax.specs.declared.tree.op.Suffix.TheVariants as suffix
use Rattle.expression_parser.specs.Reading.{suffix_of, a_set_pattern, adds_set_pattern, set_patterns_from}
use Rattle.expression_parser.specs.Reading.{set_after_first, pattern_set_of, range_set_from, set_of}
use Rattle.prefix_patterns.specs.Reading.{◌>>=◌}
use Rattle.expression_parser.specs.Readers.{a_number, symbol, with_some}
use Rattle.filter_syntax.specs.Syntax.{SetPatternView, RangeView, SetView, FitsMoreRanges, FitsRange, spelling_more_ranges, spelling_ranges}
use Rattle.filter_syntax.specs.Syntax.{FitsSetPattern, FitsSetPatterns, FitsSuffix, spelling_set_pattern, spelling_set_patterns, spelling_suffix}
use Rattle.expression_parser.proofs.Chains.{set_pattern_on, set_pattern_ends}
use Rattle.expression_parser.proofs.Ranges.{after_int, first_int, ranges_back}
use Rattle.expression_parser.proofs.Turns.{Goes, starts}

le_true : (a b : ℕ) → a ≤ b → nat_le a b ≡ true
le_true a b h = grind arith

-- a suffix is read after its dot
pub record SuffixBack (s : Suffix) (rest : List Lexeme) : Type 0 where
  pub after : List Lexeme
  pub dot : symbol symbols.Dot (spelling_suffix s ++ rest) ≡ Some after
  pub reads : suffix_of after ≡ Some (s, rest)
  pub shorter : length rest < length (spelling_suffix s ++ rest)

pub suffix_back : (s : Suffix) (rest : List Lexeme) → FitsSuffix s → SuffixBack s rest
suffix_back suffix.Ip rest f = record { after = Lexeme.symbol symbols.Ip ∷ rest; dot = refl; reads = refl; shorter = omega arith }
suffix_back suffix.Len rest f = record { after = Lexeme.name (codes "len") ∷ rest; dot = refl; reads = refl; shorter = omega arith }
suffix_back (suffix.Mask n) rest f = record {
  after = Lexeme.name (codes "mask") ∷ Lexeme.symbol symbols.LeftParen ∷ Lexeme.number n ∷ Lexeme.symbol symbols.RightParen ∷ rest;
  dot = refl;
  reads = rw (le_true n 32 f) refl;
  shorter = omega arith;
}

-- a pattern is read where a comma or the set's bracket follows
set_pattern_back : (x : SetPatternView) (more : List SetPatternView) (rest : List Lexeme) → FitsSetPattern x →
    a_set_pattern (spelling_set_pattern x ++ (spelling_set_patterns more ++ rest)) ≡ Some (x, spelling_set_patterns more ++ rest)
set_pattern_back (SetPatternView.exact p) [] rest f = refl
set_pattern_back (SetPatternView.exact p) (y ∷ ys) rest f = refl
set_pattern_back (SetPatternView.or_longer p) more rest f = refl
set_pattern_back (SetPatternView.or_shorter p) more rest f = refl
set_pattern_back (SetPatternView.between p l h) more rest f = rw (le_true l h f.order, le_true h 32 f.limit) refl

set_patterns_back : (xs more : List SetPatternView) (rest : List Lexeme) (answer : Option (List SetPatternView × List Lexeme)) → FitsSetPatterns more →
    Goes adds_set_pattern xs (spelling_set_patterns more ++ rest) answer → Goes adds_set_pattern (xs ++ more) (Lexeme.symbol symbols.RightBracket ∷ rest) answer
set_patterns_back xs [] rest answer f g =
    let P : List SetPatternView → Type 0 = λ v. Goes adds_set_pattern v (Lexeme.symbol symbols.RightBracket ∷ rest) answer in subst P (sym (append-nil xs)) g
set_patterns_back xs (x ∷ more) rest answer f g =
    let same : (spelling_set_pattern x ++ spelling_set_patterns more) ++ rest ≡ spelling_set_pattern x ++ (spelling_set_patterns more ++ rest) =
    append_assoc (spelling_set_pattern x) (spelling_set_patterns more) rest in
    let h : length (spelling_set_patterns more ++ rest) < length (spelling_set_patterns (x ∷ more) ++ rest) =
    omega (arith, ap length same, length-append (spelling_set_pattern x) (spelling_set_patterns more ++ rest)) in
    let t : Goes adds_set_pattern (xs ++ (x ∷ [])) (spelling_set_patterns more ++ rest) answer =
    set_pattern_on {ws = spelling_set_patterns (x ∷ more) ++ rest} {rest = (spelling_set_pattern x ++ spelling_set_patterns more) ++ rest} refl
    (ap a_set_pattern same ∙ set_pattern_back x more rest f.0) h g in
    let P : List SetPatternView → Type 0 = λ v. Goes adds_set_pattern v (Lexeme.symbol symbols.RightBracket ∷ rest) answer in
    subst P (append_assoc xs (x ∷ []) more) (set_patterns_back (xs ++ (x ∷ [])) more rest answer f.1 t)

after_back : (x : SetPatternView) (more : List SetPatternView) (rest : List Lexeme) → FitsSetPatterns more →
    set_after_first x (spelling_set_patterns more ++ rest) ≡ Some (SetView.of_patterns (x ∷ more), rest)
after_back x more rest f =
    let g = set_patterns_back (x ∷ []) more rest (set_patterns_from (x ∷ []) (spelling_set_patterns more ++ rest)) f
    (starts adds_set_pattern (x ∷ []) (spelling_set_patterns more ++ rest)) in
    let e : set_patterns_from (x ∷ []) (spelling_set_patterns more ++ rest) ≡ Some (x ∷ more, Lexeme.symbol symbols.RightBracket ∷ rest) = set_pattern_ends refl g in
    ap (λ r. r >>= λ xs. symbol symbols.RightBracket xs.1 >>= λ rest. Some (SetView.of_patterns xs.0, rest)) e

-- a pattern begins with no int
no_int : (x : SetPatternView) (ws : List Lexeme) → a_number (spelling_set_pattern x ++ ws) ≡ None
no_int (SetPatternView.exact p) ws = refl
no_int (SetPatternView.or_longer p) ws = refl
no_int (SetPatternView.or_shorter p) ws = refl
no_int (SetPatternView.between p l h) ws = refl

-- a set of prefixes is read after its bracket
pub set_back : (x : SetPatternView) (more : List SetPatternView) (rest : List Lexeme) → FitsSetPattern x → FitsSetPatterns more →
    set_of ((spelling_set_pattern x ++ spelling_set_patterns more) ++ rest) ≡ Some (SetView.of_patterns (x ∷ more), rest)
set_back x more rest f g =
    let ws : List Lexeme = spelling_set_pattern x ++ (spelling_set_patterns more ++ rest) in
    ap set_of (append_assoc (spelling_set_pattern x) (spelling_set_patterns more) rest)
    ∙ (ap (λ r. with_some r (pattern_set_of ws) (λ n. range_set_from n.0 n.1)) (no_int x (spelling_set_patterns more ++ rest))
    ∙ (ap (λ r. r >>= λ first. set_after_first first.0 first.1) (set_pattern_back x more rest f) ∙ after_back x more rest g))

-- a set of ints, after its first int
range_set_from_back : (x : RangeView) (more : List RangeView) (rest : List Lexeme) → FitsRange x → FitsMoreRanges more →
    range_set_from (first_int x) ((after_int x ++ spelling_more_ranges more) ++ Lexeme.symbol symbols.RightBracket ∷ rest)
    ≡ Some (SetView.of_ranges (x ∷ more), rest)
range_set_from_back x more rest f g =
    ap (λ r. r >>= λ xs. symbol symbols.RightBracket xs.1 >>= λ rest. Some (SetView.of_ranges xs.0, rest))
    (ranges_back x more (Lexeme.symbol symbols.RightBracket ∷ rest) f g refl refl)

-- a set of ints is read after its bracket
pub range_set_back : (x : RangeView) (more : List RangeView) (rest : List Lexeme) → FitsRange x → FitsMoreRanges more →
    set_of ((spelling_ranges (x ∷ more) ++ Lexeme.symbol symbols.RightBracket ∷ []) ++ rest) ≡ Some (SetView.of_ranges (x ∷ more), rest)
range_set_back (RangeView.one n) more rest f g =
    ap set_of (append_assoc (spelling_ranges (RangeView.one n ∷ more)) (Lexeme.symbol symbols.RightBracket ∷ []) rest)
    ∙ range_set_from_back (RangeView.one n) more rest f g
range_set_back (RangeView.from_to l h) more rest f g =
    ap set_of (append_assoc (spelling_ranges (RangeView.from_to l h ∷ more)) (Lexeme.symbol symbols.RightBracket ∷ []) rest)
    ∙ range_set_from_back (RangeView.from_to l h) more rest f g
