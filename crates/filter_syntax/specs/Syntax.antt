-- The expressions of the filter language: the tree of an expression without places, the lexemes that spell it, and
-- which trees fit the grammar. As in the BIRD 2.0 User's Guide on filters; what is left out is this project's own choice.
use Rattle.std.specs.Prelude.{◌≢◌, ℕ, zero, suc, ◌≤◌, Bool, true, false, List, [], ◌∷◌, ◌++◌, length, map, codes}
use Rattle.filter_tokens.specs.Lexemes.{Lexeme}
use Rattle.filter_tokens.specs.declared.symbol.Symbol.{Symbol}
use Rattle.filter_tokens.specs.declared.symbol.Symbol.TheVariants as symbols
use Rattle.int_sets.specs.Holding.{NumberRange}
use Rattle.prefix_patterns.specs.Matching.{PrefixPattern, HasOrderedLengths}
use Rattle.filter_syntax.specs.declared.tree.expr.Attribute.{Attribute}
use Rattle.filter_syntax.specs.declared.tree.expr.Attribute.TheVariants as attributes
use Rattle.filter_syntax.specs.declared.tree.expr.Expr.{Expr}
use Rattle.filter_syntax.specs.declared.tree.expr.Expr.TheFolds.{fold-Expr}
use Rattle.filter_syntax.specs.declared.tree.expr.Expr.TheOpen.{Expr-F}
use Rattle.filter_syntax.specs.declared.tree.op.Membership.{Membership}
use Rattle.filter_syntax.specs.declared.tree.op.Membership.TheVariants as membership
use Rattle.filter_syntax.specs.declared.tree.op.Op.{Op}
use Rattle.filter_syntax.specs.declared.tree.op.Op.TheVariants as o
use Rattle.filter_syntax.specs.declared.tree.op.Suffix.{Suffix}
use Rattle.filter_syntax.specs.declared.tree.op.Suffix.TheVariants as suffix
use Rattle.filter_syntax.specs.declared.tree.set.Members.{Members}
use Rattle.filter_syntax.specs.declared.tree.set.Members.TheVariants as members
use Rattle.filter_syntax.specs.declared.tree.set.SetPattern.{SetPattern}
use Rattle.filter_syntax.specs.declared.tree.set.SetPattern.TheVariants as written
use Rattle.filter_syntax.specs.declared.tree.set.SetRange.{SetRange}
use Rattle.filter_syntax.specs.declared.tree.set.SetRange.TheVariants as range

-- a pattern as a set has it: `a/len`, `a/len+`, `a/len-`, `a/len{low,high}`
pub data SetPatternView : Type 0 where
  exact : (bits : List Bool) → SetPatternView
  or_longer : (bits : List Bool) → SetPatternView
  or_shorter : (bits : List Bool) → SetPatternView
  between : (bits : List Bool) (low high : ℕ) → SetPatternView

-- ints as a set or a label has them: `n`, `low..high`
pub data RangeView : Type 0 where
  one : (n : ℕ) → RangeView
  from_to : (low high : ℕ) → RangeView

-- a set of prefixes or of ints
pub data SetView : Type 0 where
  of_patterns : (patterns : List SetPatternView) → SetView
  of_ranges : (ranges : List RangeView) → SetView

-- an expression; parentheses are a part of the tree
pub data ExprView : Type 0 where
  number : (n : ℕ) → ExprView
  address : (a : ℕ) → ExprView
  prefix : (bits : List Bool) → ExprView
  truth : (b : Bool) → ExprView
  name : (text : List ℕ) → ExprView
  attribute : (a : Attribute) → ExprView
  defined : (a : Attribute) → ExprView
  group : (inner : ExprView) → ExprView
  negation : (inner : ExprView) → ExprView
  binary : (op : Op) (left right : ExprView) → ExprView
  member : (op : Membership) (left : ExprView) (set : SetView) → ExprView
  suffixed : (inner : ExprView) (s : Suffix) → ExprView

-- a set's pattern without its place
abbrev pub view_set_pattern : SetPattern → SetPatternView
view_set_pattern (written.Exact at bits) = exact bits
view_set_pattern (written.OrLonger at bits) = or_longer bits
view_set_pattern (written.OrShorter at bits) = or_shorter bits
view_set_pattern (written.Between at pattern) = between pattern.bits pattern.low pattern.high

-- a range without its place
abbrev pub view_range : SetRange → RangeView
view_range (range.One at n) = one n
view_range (range.FromTo at r) = from_to r.low r.high

-- a set's members without their places
abbrev pub view_members : Members → SetView
view_members (members.Patterns patterns) = of_patterns (map view_set_pattern patterns.items)
view_members (members.Ranges ranges) = of_ranges (map view_range ranges.items)

-- a chain from the left, whatever the places of its operators: `a op b op c` is `(a op b) op c`
abbrev pub chain_of : ExprView → List (ℕ × Op × ExprView) → ExprView
chain_of left [] = left
chain_of left (x ∷ xs) = chain_of (binary x.1 left x.2) xs

-- an operand with suffixes, from the left
abbrev pub suffixes_of : ExprView → List Suffix → ExprView
suffixes_of inner [] = inner
suffixes_of inner (x ∷ xs) = suffixes_of (suffixed inner x) xs

-- an expression without its places, where the expressions in it are already so
abbrev pub view_expr_step : Expr-F ExprView → ExprView
view_expr_step (Expr-F.Number at n) = number n
view_expr_step (Expr-F.Address at a) = address a.0
view_expr_step (Expr-F.Prefix at bits) = prefix bits
view_expr_step (Expr-F.Truth at b) = truth b
view_expr_step (Expr-F.Name at text) = name text
view_expr_step (Expr-F.Attribute at a) = attribute a
view_expr_step (Expr-F.Defined at a) = defined a
view_expr_step (Expr-F.AttributePart at a s) = suffixed (attribute a) s
view_expr_step (Expr-F.Group at inner) = group inner.value
view_expr_step (Expr-F.GroupedBinary at parts) = group (binary parts.value.2 parts.value.0 parts.value.3)
view_expr_step (Expr-F.Not at inner) = negation inner.value
view_expr_step (Expr-F.Binary parts) = binary parts.value.2 parts.value.0 parts.value.3
view_expr_step (Expr-F.Chain first more) = chain_of first.value more.items
view_expr_step (Expr-F.Member op left set) = member op left.value (view_members set.members)
view_expr_step (Expr-F.Suffixed inner suffixes) = suffixes_of inner.value suffixes.items

-- an expression without its places
abbrev pub view : Expr → ExprView
view = fold-Expr ExprView view_expr_step

-- the operators of a chain, each with its place and the operand at its right, which is without its places
abbrev pub view_more : List (ℕ × Op × Expr) → List (ℕ × Op × ExprView)
view_more xs = map (λ p. (p.0, p.1, view p.2)) xs

-- the pattern that is meant: `+` takes the longer prefixes too, `-` the shorter ones
abbrev pub pattern_of : SetPatternView → PrefixPattern
pattern_of (exact p) = record { bits = p; low = length p; high = length p }
pattern_of (or_longer p) = record { bits = p; low = length p; high = 32 }
pattern_of (or_shorter p) = record { bits = p; low = 0; high = length p }
pattern_of (between p l h) = record { bits = p; low = l; high = h }

-- the range that is meant
abbrev pub range_of : RangeView → NumberRange
range_of (one n) = record { low = n; high = n }
range_of (from_to l h) = record { low = l; high = h }

-- the symbol of an operator
abbrev pub op_symbol : Op → Symbol
op_symbol o.Add = symbols.Plus
op_symbol o.Sub = symbols.Minus
op_symbol o.Mul = symbols.Times
op_symbol o.Div = symbols.Divide
op_symbol o.Equal = symbols.Equal
op_symbol o.NotEqual = symbols.NotEqual
op_symbol o.Less = symbols.Less
op_symbol o.Greater = symbols.Greater
op_symbol o.LessEqual = symbols.LessEqual
op_symbol o.GreaterEqual = symbols.GreaterEqual
op_symbol o.Match = symbols.Match
op_symbol o.NotMatch = symbols.NotMatch
op_symbol o.And = symbols.And
op_symbol o.Or = symbols.Or

-- the operator before a set
abbrev pub membership_symbol : Membership → Symbol
membership_symbol membership.In = symbols.Match
membership_symbol membership.NotIn = symbols.NotMatch

-- the keyword of a truth value
abbrev pub truth_symbol : Bool → Symbol
truth_symbol true = symbols.True
truth_symbol false = symbols.False

-- the keyword of an attribute
abbrev pub attribute_symbol : Attribute → Symbol
attribute_symbol attributes.Net = symbols.Net
attribute_symbol attributes.RipMetric = symbols.RipMetric

-- `.ip`, `.len` and `.mask(n)` after an operand; `len` and `mask` are no keywords
abbrev pub spelling_suffix : Suffix → List Lexeme
spelling_suffix suffix.Ip = Lexeme.symbol symbols.Dot ∷ Lexeme.symbol symbols.Ip ∷ []
spelling_suffix suffix.Len = Lexeme.symbol symbols.Dot ∷ Lexeme.name (codes "len") ∷ []
spelling_suffix (suffix.Mask n) =
    Lexeme.symbol symbols.Dot ∷ Lexeme.name (codes "mask") ∷ Lexeme.symbol symbols.LeftParen ∷ Lexeme.number n ∷ Lexeme.symbol symbols.RightParen ∷ []

-- a pattern: a prefix, and after it the lengths that it takes
abbrev pub spelling_set_pattern : SetPatternView → List Lexeme
spelling_set_pattern (exact p) = Lexeme.prefix p ∷ []
spelling_set_pattern (or_longer p) = Lexeme.prefix p ∷ Lexeme.symbol symbols.Plus ∷ []
spelling_set_pattern (or_shorter p) = Lexeme.prefix p ∷ Lexeme.symbol symbols.Minus ∷ []
spelling_set_pattern (between p l h) =
    Lexeme.prefix p ∷ Lexeme.symbol symbols.LeftBrace ∷ Lexeme.number l ∷ Lexeme.symbol symbols.Comma ∷ Lexeme.number h ∷ Lexeme.symbol symbols.RightBrace ∷ []

-- the patterns of a set after its first, each after a comma, and the bracket that ends it
abbrev pub spelling_set_patterns : List SetPatternView → List Lexeme
spelling_set_patterns [] = Lexeme.symbol symbols.RightBracket ∷ []
spelling_set_patterns (x ∷ xs) = Lexeme.symbol symbols.Comma ∷ (spelling_set_pattern x ++ spelling_set_patterns xs)

-- a range: an int, and after `..` another one
abbrev pub spelling_range : RangeView → List Lexeme
spelling_range (one n) = Lexeme.number n ∷ []
spelling_range (from_to l h) = Lexeme.number l ∷ Lexeme.symbol symbols.DotDot ∷ Lexeme.number h ∷ []

-- ranges after a first one, each after a comma
abbrev pub spelling_more_ranges : List RangeView → List Lexeme
spelling_more_ranges [] = []
spelling_more_ranges (x ∷ xs) = Lexeme.symbol symbols.Comma ∷ (spelling_range x ++ spelling_more_ranges xs)

-- ranges with commas between them
abbrev pub spelling_ranges : List RangeView → List Lexeme
spelling_ranges [] = []
spelling_ranges (x ∷ xs) = spelling_range x ++ spelling_more_ranges xs

-- a set in its brackets; a set without a member has no spelling that fits
abbrev pub spelling_set : SetView → List Lexeme
spelling_set (of_patterns []) = Lexeme.symbol symbols.LeftBracket ∷ Lexeme.symbol symbols.RightBracket ∷ []
spelling_set (of_patterns (x ∷ xs)) = Lexeme.symbol symbols.LeftBracket ∷ (spelling_set_pattern x ++ spelling_set_patterns xs)
spelling_set (of_ranges xs) = Lexeme.symbol symbols.LeftBracket ∷ (spelling_ranges xs ++ Lexeme.symbol symbols.RightBracket ∷ [])

-- the lexemes of an expression
abbrev pub spelling : ExprView → List Lexeme
spelling (number n) = Lexeme.number n ∷ []
spelling (address a) = Lexeme.address a ∷ []
spelling (prefix p) = Lexeme.prefix p ∷ []
spelling (truth b) = Lexeme.symbol (truth_symbol b) ∷ []
spelling (name text) = Lexeme.name text ∷ []
spelling (attribute a) = Lexeme.symbol (attribute_symbol a) ∷ []
spelling (defined a) =
    Lexeme.symbol symbols.Defined ∷ Lexeme.symbol symbols.LeftParen ∷ Lexeme.symbol (attribute_symbol a) ∷ Lexeme.symbol symbols.RightParen ∷ []
spelling (group inner) = Lexeme.symbol symbols.LeftParen ∷ (spelling inner ++ Lexeme.symbol symbols.RightParen ∷ [])
spelling (negation inner) = Lexeme.symbol symbols.Not ∷ spelling inner
spelling (binary op left right) = spelling left ++ Lexeme.symbol (op_symbol op) ∷ spelling right
spelling (member op left set) = spelling left ++ Lexeme.symbol (membership_symbol op) ∷ spelling_set set
spelling (suffixed inner s) = spelling inner ++ spelling_suffix s

-- how loosely an operator binds: 2 products, 3 sums, 4 comparisons, 5 `&&`, 6 `||`
abbrev pub rank_of : Op → ℕ
rank_of o.Add = 3
rank_of o.Sub = 3
rank_of o.Mul = 2
rank_of o.Div = 2
rank_of o.Equal = 4
rank_of o.NotEqual = 4
rank_of o.Less = 4
rank_of o.Greater = 4
rank_of o.LessEqual = 4
rank_of o.GreaterEqual = 4
rank_of o.Match = 4
rank_of o.NotMatch = 4
rank_of o.And = 5
rank_of o.Or = 6

-- how loosely a tree binds: 0 what a suffix may follow, 1 `!`, then as its operator
abbrev pub rank : ExprView → ℕ
rank (number n) = 0
rank (address a) = 0
rank (prefix p) = 0
rank (truth b) = 0
rank (name text) = 0
rank (attribute a) = 0
rank (defined a) = 0
rank (group inner) = 0
rank (negation inner) = 1
rank (binary op left right) = rank_of op
rank (member op left set) = 4
rank (suffixed inner s) = 0

-- which operands an operator may have: chains of sums and of products group to the left, a comparison has two sides and
-- no chain, and a chain has only `&&` or only `||`
abbrev pub FitsSides : Op → ℕ → ℕ → Type 0
FitsSides o.Add left right = (left ≤ 3) × (right ≤ 2)
FitsSides o.Sub left right = (left ≤ 3) × (right ≤ 2)
FitsSides o.Mul left right = (left ≤ 2) × (right ≤ 1)
FitsSides o.Div left right = (left ≤ 2) × (right ≤ 1)
FitsSides o.Equal left right = (left ≤ 3) × (right ≤ 3)
FitsSides o.NotEqual left right = (left ≤ 3) × (right ≤ 3)
FitsSides o.Less left right = (left ≤ 3) × (right ≤ 3)
FitsSides o.Greater left right = (left ≤ 3) × (right ≤ 3)
FitsSides o.LessEqual left right = (left ≤ 3) × (right ≤ 3)
FitsSides o.GreaterEqual left right = (left ≤ 3) × (right ≤ 3)
FitsSides o.Match left right = (left ≤ 3) × (right ≤ 3)
FitsSides o.NotMatch left right = (left ≤ 3) × (right ≤ 3)
FitsSides o.And left right = (left ≤ 5) × (right ≤ 4)
FitsSides o.Or left right = (left ≤ 6) × (left ≢ 5) × (right ≤ 4)

-- the greatest number of bits that `.mask` keeps
abbrev pub mask_limit : ℕ
mask_limit = 32

-- the number of `.mask` is one of bits of an address
abbrev pub FitsSuffix : Suffix → Type 0
FitsSuffix suffix.Ip = Unit {0}
FitsSuffix suffix.Len = Unit {0}
FitsSuffix (suffix.Mask n) = n ≤ mask_limit

-- the lengths in a pattern's braces are in order, and at most 32
abbrev pub FitsSetPattern : SetPatternView → Type 0
FitsSetPattern (exact p) = Unit {0}
FitsSetPattern (or_longer p) = Unit {0}
FitsSetPattern (or_shorter p) = Unit {0}
FitsSetPattern (between p l h) = HasOrderedLengths l h

-- each of these patterns fits
abbrev pub FitsSetPatterns : List SetPatternView → Type 0
FitsSetPatterns [] = Unit {0}
FitsSetPatterns (x ∷ xs) = FitsSetPattern x × FitsSetPatterns xs

-- the ints of a range are in order
abbrev pub FitsRange : RangeView → Type 0
FitsRange (one n) = Unit {0}
FitsRange (from_to l h) = l ≤ h

-- each of these ranges fits
abbrev pub FitsMoreRanges : List RangeView → Type 0
FitsMoreRanges [] = Unit {0}
FitsMoreRanges (x ∷ xs) = FitsRange x × FitsMoreRanges xs

-- there is at least one range, and each fits
abbrev pub FitsRanges : List RangeView → Type 0
FitsRanges [] = ⊥
FitsRanges (x ∷ xs) = FitsRange x × FitsMoreRanges xs

-- a set has at least one member
abbrev pub FitsSet : SetView → Type 0
FitsSet (of_patterns []) = ⊥
FitsSet (of_patterns (x ∷ xs)) = FitsSetPattern x × FitsSetPatterns xs
FitsSet (of_ranges xs) = FitsRanges xs

-- the greatest number of bytes in a filter's text (this project's own choice)
abbrev pub text_limit : ℕ
text_limit = 65536

-- how deep blocks, parentheses, `!`, `if` and `case` may nest in a filter (this project's own choice)
abbrev pub nesting_limit : ℕ
nesting_limit = 32

-- one more level still fits, and what is in it fits at the level below
abbrev pub one_less : ℕ → (ℕ → Type 0) → Type 0
one_less zero P = ⊥
one_less (suc n) P = P n

-- an expression fits the grammar where this many more levels may nest
abbrev pub Fits : ExprView → ℕ → Type 0
Fits (number n) depth = Unit {0}
Fits (address a) depth = Unit {0}
Fits (prefix p) depth = Unit {0}
Fits (truth b) depth = Unit {0}
Fits (name text) depth = Unit {0}
Fits (attribute a) depth = Unit {0}
Fits (defined a) depth = Unit {0}
Fits (group inner) depth = one_less depth (Fits inner)
Fits (negation inner) depth = (rank inner ≤ 1) × one_less depth (Fits inner)
Fits (binary op left right) depth = FitsSides op (rank left) (rank right) × Fits left depth × Fits right depth
Fits (member op left set) depth = (rank left ≤ 3) × Fits left depth × FitsSet set
Fits (suffixed inner s) depth = (rank inner ≤ 0) × Fits inner depth × FitsSuffix s
