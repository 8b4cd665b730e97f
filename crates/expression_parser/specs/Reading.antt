-- Reading expressions from a list of lexemes: what is read first, and what is left. It follows the parser; no crate above
-- `filter_parser` cites it.
use Rattle.std.specs.Prelude.{ℕ, zero, suc, ◌&&◌, nat_le, Bool, true, false, List, [], ◌∷◌, ◌++◌, length, Option, Some, None, codes}
use Rattle.std.specs.Prelude.{if◌then◌else◌, Vec, map}
use Rattle.std.specs.declared.alloc.Global.{Global}
use Rattle.filter_tokens.specs.Lexemes.{Lexeme}
use Rattle.filter_tokens.specs.declared.symbol.Symbol.{Symbol}
use Rattle.filter_tokens.specs.declared.symbol.Symbol.TheVariants as symbols
use Rattle.expression_parser.specs.declared.expr_level.Level.{Level}
use Rattle.expression_parser.specs.declared.expr_level.Level.TheVariants as l
use Rattle.expression_parser.specs.declared.input.Input.{Input}
use Rattle.filter_syntax.specs.declared.tree.expr.Attribute.{Attribute}
use Rattle.filter_syntax.specs.declared.tree.expr.Attribute.TheVariants as attributes
use Rattle.filter_syntax.specs.declared.tree.expr.Expr.{Expr}
use Rattle.filter_syntax.specs.declared.tree.op.Membership.{Membership}
use Rattle.filter_syntax.specs.declared.tree.op.Membership.TheVariants as membership
use Rattle.filter_syntax.specs.declared.tree.op.Op.{Op}
use Rattle.filter_syntax.specs.declared.tree.op.Op.TheVariants as o
use Rattle.filter_syntax.specs.declared.tree.op.Suffix.{Suffix}
use Rattle.filter_syntax.specs.declared.tree.op.Suffix.TheVariants as suffix
use Rattle.filter_syntax.specs.declared.tree.set.Set.{Set}
use Rattle.filter_syntax.specs.declared.tree.set.SetPattern.{SetPattern}
use Rattle.filter_syntax.specs.declared.tree.set.SetRange.{SetRange}
use Rattle.expression_parser.specs.Readers.{Reader, Turn, ◌>>=◌, ◌>>◌, after◌then◌else◌, with◌then◌else◌, done, given, refused, again, stop}
use Rattle.expression_parser.specs.Readers.{turns, symbol, word, a_number, a_prefix}
use Rattle.expression_parser.specs.Steps.{remaining}
use Rattle.filter_syntax.specs.Syntax.{SetPatternView, RangeView, SetView, ExprView, view, view_members, view_range, view_set_pattern}

-- what the program read, as the reading functions answer it
abbrev pub read_of : Expr × Input → ExprView × List Lexeme
read_of x = (view x.0, remaining x.1)

-- a pattern that the program read
abbrev pub set_pattern_read_of : SetPattern × Input → SetPatternView × List Lexeme
set_pattern_read_of x = (view_set_pattern x.0, remaining x.1)

-- patterns that the program read
abbrev pub set_patterns_read_of : Vec SetPattern Global × Input → List SetPatternView × List Lexeme
set_patterns_read_of x = (map view_set_pattern x.0.items, remaining x.1)

-- a range that the program read
abbrev pub range_read_of : SetRange × Input → RangeView × List Lexeme
range_read_of x = (view_range x.0, remaining x.1)

-- ranges that the program read
abbrev pub ranges_read_of : Vec SetRange Global × Input → List RangeView × List Lexeme
ranges_read_of x = (map view_range x.0.items, remaining x.1)

-- a set of the program
abbrev pub set_view : Set → SetView
set_view set = view_members set.members

-- a set that the program read
abbrev pub set_read_of : Set × Input → SetView × List Lexeme
set_read_of x = (set_view x.0, remaining x.1)

-- the attribute that a keyword names
abbrev pub attribute_of : Symbol → Option Attribute
attribute_of symbols.Net = Some attributes.Net
attribute_of symbols.RipMetric = Some attributes.RipMetric
attribute_of _ = None

-- an attribute
abbrev pub an_attribute : Reader Attribute
an_attribute [] = None
an_attribute (Lexeme.symbol k ∷ ws) = given (attribute_of k) ws
an_attribute (_ ∷ ws) = None

-- the operators of each level
abbrev pub op_of : Level → Symbol → Option Op
op_of l.Product symbols.Times = Some o.Mul
op_of l.Product symbols.Divide = Some o.Div
op_of l.Product _ = None
op_of l.Sum symbols.Plus = Some o.Add
op_of l.Sum symbols.Minus = Some o.Sub
op_of l.Sum _ = None
op_of l.Comparison symbols.Equal = Some o.Equal
op_of l.Comparison symbols.NotEqual = Some o.NotEqual
op_of l.Comparison symbols.Less = Some o.Less
op_of l.Comparison symbols.Greater = Some o.Greater
op_of l.Comparison symbols.LessEqual = Some o.LessEqual
op_of l.Comparison symbols.GreaterEqual = Some o.GreaterEqual
op_of l.Comparison symbols.Match = Some o.Match
op_of l.Comparison symbols.NotMatch = Some o.NotMatch
op_of l.Comparison _ = None
op_of l.And symbols.And = Some o.And
op_of l.And _ = None
op_of l.Or symbols.Or = Some o.Or
op_of l.Or _ = None

-- an operator of a level
abbrev pub an_operator : Level → Reader Op
an_operator level [] = None
an_operator level (Lexeme.symbol k ∷ ws) = given (op_of level k) ws
an_operator level (_ ∷ ws) = None

-- one operator of a level, and the operand at its right
abbrev pub joins : Reader ExprView → Level → Turn ExprView
joins next level left =
    with an_operator level then (λ op. do
      right ← next
      again (ExprView.binary op left right))
    else stop

-- a chain of a level's operators, after its first operand
abbrev pub chain_from : Reader ExprView → Level → ExprView → Reader ExprView
chain_from next level left ws = turns (joins next level) (length ws) left ws

-- the number of `.mask`, where it is one of bits of an address
abbrev pub mask_suffix : ℕ → Option Suffix
mask_suffix n = if nat_le n 32 then Some (suffix.Mask n) else None

-- what follows `.mask`
abbrev pub mask_of : Reader Suffix
mask_of = do
  symbol symbols.LeftParen
  n ← a_number
  found ← given (mask_suffix n)
  symbol symbols.RightParen
  done found

-- what follows a dot
abbrev pub suffix_of : Reader Suffix
suffix_of =
    after symbol symbols.Ip then done suffix.Ip else
    after word (codes "len") then done suffix.Len else do
      word (codes "mask")
      mask_of

-- one suffix
abbrev pub suffixes : Turn ExprView
suffixes inner =
    after symbol symbols.Dot then (do
      found ← suffix_of
      again (ExprView.suffixed inner found))
    else stop

-- the suffixes of an operand
abbrev pub suffixes_from : ExprView → Reader ExprView
suffixes_from inner ws = turns suffixes (length ws) inner ws

-- a pattern with lengths, where these are in order
abbrev pub between_of : List Bool → ℕ → ℕ → Option SetPatternView
between_of p low high = if nat_le low high && nat_le high 32 then Some (SetPatternView.between p low high) else None

-- the lengths of a pattern, after the `{`
abbrev pub braces_of : List Bool → Reader SetPatternView
braces_of p = do
  low ← a_number
  symbol symbols.Comma
  high ← a_number
  symbol symbols.RightBrace
  given (between_of p low high)

-- what follows a pattern's prefix
abbrev pub lengths_of : List Bool → Reader SetPatternView
lengths_of p =
    after symbol symbols.Plus then done (SetPatternView.or_longer p) else
    after symbol symbols.Minus then done (SetPatternView.or_shorter p) else
    after symbol symbols.LeftBrace then braces_of p else
    done (SetPatternView.exact p)

-- a pattern
abbrev pub a_set_pattern : Reader SetPatternView
a_set_pattern = do
  p ← a_prefix
  lengths_of p

-- one more pattern of a set
abbrev pub adds_set_pattern : Turn (List SetPatternView)
adds_set_pattern xs =
    after symbol symbols.Comma then (do
      x ← a_set_pattern
      again (xs ++ (x ∷ [])))
    else stop

-- the patterns of a set, after the first
abbrev pub set_patterns_from : List SetPatternView → Reader (List SetPatternView)
set_patterns_from xs ws = turns adds_set_pattern (length ws) xs ws

-- a set of prefixes, after its first pattern
abbrev pub set_after_first : SetPatternView → Reader SetView
set_after_first first = do
  xs ← set_patterns_from (first ∷ [])
  symbol symbols.RightBracket
  done (SetView.of_patterns xs)

-- a set of prefixes, after its `[`
abbrev pub pattern_set_of : Reader SetView
pattern_set_of = do
  first ← a_set_pattern
  set_after_first first

-- the range from one int to another one, where these are in order
abbrev pub from_to_of : ℕ → ℕ → Option RangeView
from_to_of low high = if nat_le low high then Some (RangeView.from_to low high) else None

-- a range, after its first int and `..`
abbrev pub range_up_from : ℕ → Reader RangeView
range_up_from low = do
  high ← a_number
  given (from_to_of low high)

-- a range, after its first int
abbrev pub range_from : ℕ → Reader RangeView
range_from low = after symbol symbols.DotDot then range_up_from low else done (RangeView.one low)

-- a range
abbrev pub a_range : Reader RangeView
a_range = do
  low ← a_number
  range_from low

-- one more range
abbrev pub adds_range : Turn (List RangeView)
adds_range xs =
    after symbol symbols.Comma then (do
      x ← a_range
      again (xs ++ (x ∷ [])))
    else stop

-- ranges, after the first
abbrev pub more_ranges : List RangeView → Reader (List RangeView)
more_ranges xs ws = turns adds_range (length ws) xs ws

-- ranges, after the first int of the first one
abbrev pub ranges_from : ℕ → Reader (List RangeView)
ranges_from low = do
  first ← range_from low
  more_ranges (first ∷ [])

-- a set of ints, after its first int
abbrev pub range_set_from : ℕ → Reader SetView
range_set_from low = do
  xs ← ranges_from low
  symbol symbols.RightBracket
  done (SetView.of_ranges xs)

-- a set, after its `[`
abbrev pub set_of : Reader SetView
set_of = with a_number then range_set_from else pattern_set_of

-- what follows `defined`
abbrev pub defined_of : Reader ExprView
defined_of = do
  symbol symbols.LeftParen
  a ← an_attribute
  symbol symbols.RightParen
  done (ExprView.defined a)

-- the expression that a keyword is
abbrev pub keyword_of : Symbol → Option ExprView
keyword_of symbols.True = Some (ExprView.truth true)
keyword_of symbols.False = Some (ExprView.truth false)
keyword_of symbols.Net = Some (ExprView.attribute attributes.Net)
keyword_of symbols.RipMetric = Some (ExprView.attribute attributes.RipMetric)
keyword_of _ = None

-- the expression that a lexeme is
abbrev pub single_of : Lexeme → Option ExprView
single_of (Lexeme.number n) = Some (ExprView.number n)
single_of (Lexeme.address a) = Some (ExprView.address a)
single_of (Lexeme.prefix p) = Some (ExprView.prefix p)
single_of (Lexeme.name text) = Some (ExprView.name text)
single_of (Lexeme.symbol k) = keyword_of k
single_of Lexeme.quote = None

-- an expression of one lexeme
abbrev pub a_single : Reader ExprView
a_single [] = None
a_single (w ∷ ws) = given (single_of w) ws

-- an operand without parentheses
abbrev pub atom_of : Reader ExprView
atom_of = after symbol symbols.Defined then defined_of else a_single

-- the `)` after an expression in parentheses
abbrev pub group_end : ExprView → Reader ExprView
group_end inner = do
  symbol symbols.RightParen
  done (ExprView.group inner)

-- an operand in parentheses, after the `(`
abbrev pub group_with : Reader ExprView → Reader ExprView
group_with expr = do
  inner ← expr
  group_end inner

-- an operand
abbrev pub primary_with : Reader ExprView → Reader ExprView
primary_with expr = after symbol symbols.LeftParen then group_with expr else atom_of

-- an operand and its suffixes
abbrev pub postfix_with : Reader ExprView → Reader ExprView
postfix_with expr = do
  inner ← primary_with expr
  suffixes_from inner

-- an operand, after its `!`
abbrev pub not_with : Reader ExprView → Reader ExprView
not_with unary = do
  inner ← unary
  done (ExprView.negation inner)

-- an operand, with any `!` before it
abbrev pub unary_with : Reader ExprView → Reader ExprView → Reader ExprView
unary_with expr unary = after symbol symbols.Not then not_with unary else postfix_with expr

-- a product, or its one operand
abbrev pub product_with : Reader ExprView → Reader ExprView
product_with unary = do
  first ← unary
  chain_from unary l.Product first

-- a sum, or its one operand
abbrev pub sum_with : Reader ExprView → Reader ExprView
sum_with unary = do
  first ← product_with unary
  chain_from (product_with unary) l.Sum first

-- the operator before a set
abbrev pub membership_of : Op → Option Membership
membership_of o.Match = Some membership.In
membership_of o.NotMatch = Some membership.NotIn
membership_of _ = None

-- the `[` of a set, after such an operator
abbrev pub set_opening : Op → Reader Membership
set_opening op = do
  k ← given (membership_of op)
  symbol symbols.LeftBracket
  done k

-- an operand's set
abbrev pub member_of : ExprView → Membership → Reader ExprView
member_of left k = do
  xs ← set_of
  done (ExprView.member k left xs)

-- what follows a comparison operator
abbrev pub right_operand_with : Reader ExprView → ExprView → Op → Reader ExprView
right_operand_with sum left op =
    with set_opening op then member_of left else do
      right ← sum
      done (ExprView.binary op left right)

-- a sum, or a comparison
abbrev pub comparison_with : Reader ExprView → Reader ExprView
comparison_with unary = do
  left ← sum_with unary
  with an_operator l.Comparison then right_operand_with (sum_with unary) left else done left

-- the kind of a chain, by whether its first operator is `||`
abbrev pub level_by : Option (List Lexeme) → Level
level_by None = l.And
level_by (Some ws) = l.Or

-- the kind of a chain, by what follows its first operand
abbrev pub level_of : List Lexeme → Level
level_of ws = level_by (symbol symbols.Or ws)

-- a chain of `&&` or of `||`, after its first operand
abbrev pub join_from : Reader ExprView → ExprView → Reader ExprView
join_from comparison first ws = chain_from comparison (level_of ws) first ws

-- what was read, where no operator of the other kind follows
abbrev pub unmixed : ExprView → Reader ExprView
unmixed x =
    with an_operator l.And then (λ _. refused) else
    with an_operator l.Or then (λ _. refused) else
    done x

-- an expression
abbrev pub expr_with : Reader ExprView → Reader ExprView
expr_with unary = do
  first ← comparison_with unary
  whole ← join_from (comparison_with unary) first
  unmixed whole

-- the operands of a level's operators
abbrev pub next_with : Reader ExprView → Level → Reader ExprView
next_with unary l.Product = unary
next_with unary l.Sum = product_with unary
next_with unary l.Comparison = sum_with unary
next_with unary l.And = comparison_with unary
next_with unary l.Or = comparison_with unary

-- a chain after its first operand, where this many more levels may nest
abbrev pub chain_with : Reader ExprView → Level → ExprView → Reader ExprView
chain_with unary level left = chain_from (next_with unary level) level left

-- an operand where this many more levels may nest
unfoldable pub unary_at : ℕ → Reader ExprView
unary_at zero = unary_with refused refused
unary_at (suc depth) = unary_with (expr_with (unary_at depth)) (unary_at depth)

-- an expression where this many more levels may nest
abbrev pub expr_at : ℕ → Reader ExprView
expr_at depth = expr_with (unary_at depth)

-- an expression in parentheses, and an operand after `!`, where this many more levels may nest, this one included
abbrev pub inner_at : ℕ → Reader ExprView
inner_at zero = refused
inner_at (suc depth) = expr_at depth
