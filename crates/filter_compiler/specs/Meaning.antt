-- The meaning of expressions: the value that one has for a route, where each variable has its value by its name. There
-- is no stack and there are no jumps. As in the BIRD 2.0 User's Guide on filters; that numbers wrap and that a zero
-- divisor has no value are this project's own choice. An expression whose kinds do not fit has no value either.
use Rattle.std.specs.Prelude.{ℕ, zero, suc, ◌+◌, ◌-◌, ◌*◌, ◌/◌, ◌%◌, ◌^◌, ◌==◌, nat_lt, nat_le, Bool, true, false, not, if◌then◌else◌}
use Rattle.std.specs.Prelude.{Option, Some, None, option_and_then, List, [], ◌∷◌, length, map}
use Rattle.std.specs.Bool.{beq}
use Rattle.std.specs.Cmp.Lexicographic.{pointwise}
use Rattle.std.specs.Option.{option_map}
use Rattle.std.specs.Str.{bytes_eq}
use Rattle.int_sets.specs.Holding.{holds_any}
use Rattle.prefix_patterns.specs.Bits.{address_bits, address_of, prefix_bits}
use Rattle.prefix_patterns.specs.Matching.{lies_within, matches_any}
use Rattle.filter_code.specs.declared.value.Value.{Value}
use Rattle.filter_code.specs.declared.value.Value.TheVariants as value
use Rattle.filter_code.specs.RouteView.{RouteView}
use Rattle.filter_syntax.specs.declared.tree.expr.Attribute.{Attribute}
use Rattle.filter_syntax.specs.declared.tree.expr.Attribute.TheVariants as attributes
use Rattle.filter_syntax.specs.declared.tree.op.Membership.{Membership}
use Rattle.filter_syntax.specs.declared.tree.op.Membership.TheVariants as membership
use Rattle.filter_syntax.specs.declared.tree.op.Op.{Op}
use Rattle.filter_syntax.specs.declared.tree.op.Op.TheVariants as o
use Rattle.filter_syntax.specs.declared.tree.op.Suffix.{Suffix}
use Rattle.filter_syntax.specs.declared.tree.op.Suffix.TheVariants as suffix
use Rattle.filter_syntax.specs.Syntax.{ExprView, number, address, prefix, truth, name, attribute, defined, group, negation, binary, member}
use Rattle.filter_syntax.specs.Syntax.{suffixed, SetView, of_patterns, of_ranges, pattern_of, range_of}

-- a variable and its value
pub record Bound : Type 0 where
  pub name : List ℕ
  pub value : Value

-- what commands change: the values of the variables, and the current metric
pub record Scene : Type 0 where
  pub variables : List Bound
  pub metric : ℕ

-- the value of the variable with a name
abbrev pub value_named : List Bound → List ℕ → Option Value
value_named [] text = None
value_named (b ∷ rest) text = if bytes_eq b.name text then Some b.value else value_named rest text

-- two ints
abbrev pub of_ints : (ℕ → ℕ → Option Value) → Value → Value → Option Value
of_ints f (value.Int a) (value.Int b) = f a b
of_ints f _ _ = None

-- a quotient, the rest dropped; there is none by zero
abbrev pub quotient : ℕ → ℕ → Option Value
quotient a zero = None
quotient a (suc b) = Some (value.Int (a / suc b))

-- two ints, or two addresses, by a test of numbers
abbrev pub ordered : (ℕ → ℕ → Bool) → Value → Value → Option Value
ordered test (value.Int a) (value.Int b) = Some (value.Bool (test a b))
ordered test (value.Addr a) (value.Addr b) = Some (value.Bool (test a.0 b.0))
ordered test _ _ = None

-- whether two values of one kind are the same
abbrev pub are_same : Value → Value → Option Bool
are_same (value.Int a) (value.Int b) = Some (a == b)
are_same (value.Bool a) (value.Bool b) = Some (beq a b)
are_same (value.Addr a) (value.Addr b) = Some (a.0 == b.0)
are_same (value.Net a) (value.Net b) = Some (pointwise beq a b)
are_same _ _ = None

-- whether an address or a prefix lies within a prefix
abbrev pub is_within : Value → Value → Option Bool
is_within (value.Addr a) (value.Net p) = Some (lies_within (address_bits a.0) p)
is_within (value.Net q) (value.Net p) = Some (lies_within q p)
is_within _ _ = None

-- a truth value as it is, and its opposite
abbrev pub as_it_is : Option Bool → Option Value
as_it_is = option_map (λ b. value.Bool b)

abbrev pub opposite : Option Bool → Option Value
opposite = option_map (λ b. value.Bool (not b))

-- what an operator makes of the values of its operands: sums, differences and products modulo 2^32
abbrev pub result_of : Op → Value → Value → Option Value
result_of o.Add = of_ints (λ a b. Some (value.Int ((a + b) % 2 ^ 32)))
result_of o.Sub = of_ints (λ a b. Some (value.Int ((a + (2 ^ 32 - b)) % 2 ^ 32)))
result_of o.Mul = of_ints (λ a b. Some (value.Int ((a * b) % 2 ^ 32)))
result_of o.Div = of_ints quotient
result_of o.Equal = λ a b. as_it_is (are_same a b)
result_of o.NotEqual = λ a b. opposite (are_same a b)
result_of o.Less = ordered (λ a b. nat_lt a b)
result_of o.Greater = ordered (λ a b. nat_lt b a)
result_of o.LessEqual = ordered (λ a b. nat_le a b)
result_of o.GreaterEqual = ordered (λ a b. nat_le b a)
result_of o.Match = λ a b. as_it_is (is_within a b)
result_of o.NotMatch = λ a b. opposite (is_within a b)
result_of o.And = λ a b. None
result_of o.Or = λ a b. None

-- both operands have values
abbrev pub both : (Value → Value → Option Value) → Option Value → Option Value → Option Value
both f (Some a) (Some b) = f a b
both f _ _ = None

-- `&&` and `||`: where the left side decides, the right side is skipped, and need not have a value
abbrev pub if_true : Option Value → Option Value → Option Value
if_true (Some (value.Bool true)) right = right
if_true (Some (value.Bool false)) right = Some (value.Bool false)
if_true _ right = None

abbrev pub if_false : Option Value → Option Value → Option Value
if_false (Some (value.Bool true)) right = Some (value.Bool true)
if_false (Some (value.Bool false)) right = right
if_false _ right = None

-- what an operator makes of its operands
abbrev pub joined : Op → Option Value → Option Value → Option Value
joined o.And = if_true
joined o.Or = if_false
joined op = both (result_of op)

-- what follows `!`
abbrev pub negated : Value → Option Value
negated (value.Bool b) = Some (value.Bool (not b))
negated _ = None

-- what a suffix makes of an operand: the first address of a prefix, its length, the first bits of an address
abbrev pub suffix_of : Suffix → Value → Option Value
suffix_of suffix.Ip (value.Net p) = Some (value.Addr (record { 0 = address_of p }))
suffix_of suffix.Len (value.Net p) = Some (value.Int (length p))
suffix_of (suffix.Mask n) (value.Addr a) = Some (value.Addr (record { 0 = address_of (prefix_bits a.0 n) }))
suffix_of _ _ = None

-- whether a prefix matches one of the patterns of a set, or an int is in one of its ranges
abbrev pub is_in : SetView → Value → Option Bool
is_in (of_patterns patterns) (value.Net p) = Some (matches_any p (map pattern_of patterns))
is_in (of_ranges ranges) (value.Int n) = Some (holds_any n (map range_of ranges))
is_in _ _ = None

-- whether it is, or is not
abbrev pub member_of : Membership → SetView → Value → Option Value
member_of membership.In set v = as_it_is (is_in set v)
member_of membership.NotIn set v = opposite (is_in set v)

-- the route's prefix, and the current metric
abbrev pub attribute_of : RouteView → Scene → Attribute → Value
attribute_of route scene attributes.Net = value.Net route.net
attribute_of route scene attributes.RipMetric = value.Int scene.metric

-- the value of an expression; each route has what `defined` asks for
abbrev pub value_of : RouteView → Scene → ExprView → Option Value
value_of route scene (number n) = Some (value.Int n)
value_of route scene (address a) = Some (value.Addr (record { 0 = a }))
value_of route scene (prefix bits) = Some (value.Net bits)
value_of route scene (truth b) = Some (value.Bool b)
value_of route scene (name text) = value_named scene.variables text
value_of route scene (attribute a) = Some (attribute_of route scene a)
value_of route scene (defined a) = Some (value.Bool true)
value_of route scene (group inner) = value_of route scene inner
value_of route scene (negation inner) = option_and_then negated (value_of route scene inner)
value_of route scene (binary op left right) = joined op (value_of route scene left) (value_of route scene right)
value_of route scene (member op left set) = option_and_then (member_of op set) (value_of route scene left)
value_of route scene (suffixed inner s) = option_and_then (suffix_of s) (value_of route scene inner)
