-- The instructions of a filter fit their fields in a code file.
use Rattle.std.proofs.Common.{ℕ, zero, suc, ◌+◌, ◌^◌, ◌<◌, ◌≤◌, true, false, List, [], ◌∷◌, ◌++◌, length, refl, arith, lit<, length-append}
use Rattle.std.proofs.lemmas.List.Sums.{prefix_len-le-length}
use Rattle.std.specs.List.{AllByRecursion, position_or_len}
use Rattle.std.specs.Prelude.{not}
use Rattle.std.specs.Str.{bytes_eq}
use Rattle.filter_syntax.specs.Syntax.{ExprView, number, address, prefix, truth, name, attribute, defined, group, negation, binary, member}
use Rattle.filter_syntax.specs.Syntax.{suffixed, SetView, of_patterns, of_ranges, spelling, spelling_set}
use Rattle.filter_syntax.specs.Syntax.{op_symbol, membership_symbol, spelling_suffix}
use Rattle.filter_syntax.specs.Syntax.{Fits, FitsSuffix}
use Rattle.filter_syntax.specs.declared.tree.expr.Attribute.{Attribute}
use Rattle.filter_syntax.specs.declared.tree.expr.Attribute.TheVariants as attributes
use Rattle.filter_syntax.specs.declared.tree.op.Membership.{Membership}
use Rattle.filter_syntax.specs.declared.tree.op.Membership.TheVariants as membership
use Rattle.filter_syntax.specs.declared.tree.op.Op.{Op}
use Rattle.filter_syntax.specs.declared.tree.op.Op.TheVariants as o
use Rattle.filter_syntax.specs.declared.tree.op.Suffix.{Suffix}
use Rattle.filter_syntax.specs.declared.tree.op.Suffix.TheVariants as suffix
use Rattle.filter_tokens.specs.Lexemes.{Lexeme}
use Rattle.filter_tokens.specs.declared.symbol.Symbol.TheVariants as symbols
use Rattle.filter_syntax.specs.SyntaxCommands.{DeclView}
use Rattle.filter_code.specs.declared.instruction.Instr.{Instr}
use Rattle.filter_code.specs.declared.instruction.Instr.TheVariants as instr
use Rattle.filter_compiler.specs.SetOrder.{Sets, SetCounts, past, with_sets}
use Rattle.filter_compiler.specs.Translation.{and_code, attribute_code, expression_code, joined_code, member_code, one_set}
use Rattle.filter_compiler.specs.Translation.{operator_code, or_code, question, sets_of, suffix_code}
use Rattle.code_file.specs.Spelling.{IsInstruction}
use Rattle.code_file.specs.declared.version.Version.TheVariants as version
use Rattle.filter_reports.proofs.LexemeLimits.{AreSmall, IsSmall, all_of_parts, parts_of_all}

-- each of these instructions fits
abbrev pub AreFit : List Instr → Type 0
AreFit instrs = AllByRecursion (IsInstruction version.Two) instrs

pub joined_fit : (xs ys : List Instr) → AreFit xs → AreFit ys → AreFit (xs ++ ys)
joined_fit xs ys a b = all_of_parts (IsInstruction version.Two) xs ys a b

-- so many sets before a part and in it have numbers of one byte
pub record AreNumbered (before : SetCounts) (sets : Sets) : Type 0 where
  pub patterns : before.patterns + length sets.patterns ≤ 64
  pub ints : before.ints + length sets.ints ≤ 64

pub first_numbered : (before : SetCounts) (a b : Sets) → AreNumbered before (with_sets a b) → AreNumbered before a
first_numbered before a b h = record {
  patterns = omega (arith, h.patterns, length-append a.patterns b.patterns);
  ints = omega (arith, h.ints, length-append a.ints b.ints);
}

pub then_numbered : (before : SetCounts) (a b : Sets) → AreNumbered before (with_sets a b) → AreNumbered (past before a) b
then_numbered before a b h = record {
  patterns = omega (arith, h.patterns, length-append a.patterns b.patterns);
  ints = omega (arith, h.ints, length-append a.ints b.ints);
}

-- variables have numbers of one byte
pub variable_fits : (decls : List DeclView) (text : List ℕ) → length decls ≤ 16 → position_or_len (λ (d : DeclView). bytes_eq d.name text) decls < 256
variable_fits decls text few = omega (arith, few, prefix_len-le-length (λ (d : DeclView). not (bytes_eq d.name text)) decls)

operator_fits : (op : Op) → AreFit (operator_code op)
operator_fits o.Add = ((tt, refl), tt)
operator_fits o.Sub = ((tt, refl), tt)
operator_fits o.Mul = ((tt, refl), tt)
operator_fits o.Div = ((tt, refl), tt)
operator_fits o.Equal = ((tt, refl), tt)
operator_fits o.NotEqual = ((tt, refl), ((tt, refl), tt))
operator_fits o.Less = ((tt, refl), tt)
operator_fits o.Greater = ((tt, refl), ((tt, refl), tt))
operator_fits o.LessEqual = ((tt, refl), tt)
operator_fits o.GreaterEqual = ((tt, refl), ((tt, refl), tt))
operator_fits o.Match = ((tt, refl), tt)
operator_fits o.NotMatch = ((tt, refl), ((tt, refl), tt))
operator_fits o.And = tt
operator_fits o.Or = tt

and_fits : (left right : List Instr) → length (and_code left right) ≤ 1024 → AreFit left → AreFit right → AreFit (and_code left right)
and_fits left right few a b =
    let last = instr.Jump 1 ∷ instr.Bool false ∷ [] in
    let later = instr.JumpIfNot (length right + 1) ∷ (right ++ last) in
    let skipped : length right + 1 < 2 ^ 16 = omega (arith, few, length-append left later, length-append right last) in
    joined_fit left later a
    ((skipped, refl), joined_fit right last b ((lit< tt, refl), ((tt, refl), tt)))

or_fits : (left right : List Instr) → length (or_code left right) ≤ 1024 → AreFit left → AreFit right → AreFit (or_code left right)
or_fits left right few a b =
    let last = instr.JumpIfNot 2 ∷ instr.Bool true ∷ instr.Jump (length right) ∷ right in
    let skipped : length right < 2 ^ 16 = omega (arith, few, length-append left last) in
    joined_fit left last a ((lit< tt, refl), ((tt, refl), ((skipped, refl), b)))

plain_fits : (op : Op) (left right : List Instr) → AreFit left → AreFit right → AreFit (left ++ (right ++ operator_code op))
plain_fits op left right a b = joined_fit left (right ++ operator_code op) a (joined_fit right (operator_code op) b (operator_fits op))

operation_fits : (op : Op) (left right : List Instr) → length (joined_code op left right) ≤ 1024 → AreFit left → AreFit right
    → AreFit (joined_code op left right)
operation_fits o.Add left right few a b = plain_fits o.Add left right a b
operation_fits o.Sub left right few a b = plain_fits o.Sub left right a b
operation_fits o.Mul left right few a b = plain_fits o.Mul left right a b
operation_fits o.Div left right few a b = plain_fits o.Div left right a b
operation_fits o.Equal left right few a b = plain_fits o.Equal left right a b
operation_fits o.NotEqual left right few a b = plain_fits o.NotEqual left right a b
operation_fits o.Less left right few a b = plain_fits o.Less left right a b
operation_fits o.Greater left right few a b = plain_fits o.Greater left right a b
operation_fits o.LessEqual left right few a b = plain_fits o.LessEqual left right a b
operation_fits o.GreaterEqual left right few a b = plain_fits o.GreaterEqual left right a b
operation_fits o.Match left right few a b = plain_fits o.Match left right a b
operation_fits o.NotMatch left right few a b = plain_fits o.NotMatch left right a b
operation_fits o.And left right few a b = and_fits left right few a b
operation_fits o.Or left right few a b = or_fits left right few a b

plain_length : (op : Op) (left right : List Instr) → length left + length right ≤ length (left ++ (right ++ operator_code op))
plain_length op left right = omega (arith, length-append left (right ++ operator_code op), length-append right (operator_code op))

operation_length : (op : Op) (left right : List Instr) → length left + length right ≤ length (joined_code op left right)
operation_length o.Add left right = plain_length o.Add left right
operation_length o.Sub left right = plain_length o.Sub left right
operation_length o.Mul left right = plain_length o.Mul left right
operation_length o.Div left right = plain_length o.Div left right
operation_length o.Equal left right = plain_length o.Equal left right
operation_length o.NotEqual left right = plain_length o.NotEqual left right
operation_length o.Less left right = plain_length o.Less left right
operation_length o.Greater left right = plain_length o.Greater left right
operation_length o.LessEqual left right = plain_length o.LessEqual left right
operation_length o.GreaterEqual left right = plain_length o.GreaterEqual left right
operation_length o.Match left right = plain_length o.Match left right
operation_length o.NotMatch left right = plain_length o.NotMatch left right
operation_length o.And left right =
    let last = instr.Jump 1 ∷ instr.Bool false ∷ [] in
    omega (arith, length-append left (instr.JumpIfNot (length right + 1) ∷ (right ++ last)), length-append right last)
operation_length o.Or left right =
    omega (arith, length-append left (instr.JumpIfNot 2 ∷ instr.Bool true ∷ instr.Jump (length right) ∷ right))

question_fits : (set : SetView) (before : SetCounts) → AreNumbered before (one_set set) → IsInstruction version.Two (question set before)
question_fits (of_patterns patterns) before h = (omega (arith, h.patterns), refl)
question_fits (of_ranges ranges) before h = (omega (arith, h.ints), refl)

member_fits : (op : Membership) (asked : Instr) → IsInstruction version.Two asked → AreFit (member_code op asked)
member_fits membership.In asked h = (h, tt)
member_fits membership.NotIn asked h = (h, ((tt, refl), tt))

suffix_fits : (s : Suffix) → FitsSuffix s → IsInstruction version.Two (suffix_code s)
suffix_fits suffix.Ip fits = (tt, refl)
suffix_fits suffix.Len fits = (tt, refl)
suffix_fits (suffix.Mask n) fits = (fits, refl)

attribute_fits : (a : Attribute) → IsInstruction version.Two (attribute_code a)
attribute_fits attributes.Net = (tt, refl)
attribute_fits attributes.RipMetric = (tt, refl)

-- the code of an expression that fits, of lexemes within their limits
pub expression_fits : (decls : List DeclView) → length decls ≤ 16 → (before : SetCounts) (e : ExprView) (depth : ℕ) → Fits e depth
    → AreSmall (spelling e) → AreNumbered before (sets_of e) → length (expression_code decls before e) ≤ 1024
    → AreFit (expression_code decls before e)
expression_fits decls declared before (number n) depth fits small numbered few = ((small.0, refl), tt)
expression_fits decls declared before (address a) depth fits small numbered few = ((small.0, refl), tt)
expression_fits decls declared before (prefix bits) depth fits small numbered few = ((small.0, refl), tt)
expression_fits decls declared before (truth b) depth fits small numbered few = ((tt, refl), tt)
expression_fits decls declared before (name text) depth fits small numbered few = ((variable_fits decls text declared, refl), tt)
expression_fits decls declared before (attribute a) depth fits small numbered few = (attribute_fits a, tt)
expression_fits decls declared before (defined a) depth fits small numbered few = ((tt, refl), tt)
expression_fits decls declared before (group inner) zero fits small numbered few = absurd fits
expression_fits decls declared before (group inner) (suc depth) fits small numbered few =
    let here = parts_of_all IsSmall (spelling inner) (Lexeme.symbol symbols.RightParen ∷ []) small.1 in
    expression_fits decls declared before inner depth fits here.0 numbered few
expression_fits decls declared before (negation inner) zero fits small numbered few = absurd fits.1
expression_fits decls declared before (negation inner) (suc depth) fits small numbered few =
    let code = expression_code decls before inner in
    let within : length code ≤ 1024 = omega (arith, few, length-append code (instr.Not ∷ [])) in
    joined_fit code (instr.Not ∷ []) (expression_fits decls declared before inner depth fits.1 small.1 numbered within) ((tt, refl), tt)
expression_fits decls declared before (binary op left right) depth fits small numbered few =
    let here = parts_of_all IsSmall (spelling left) (Lexeme.symbol (op_symbol op) ∷ spelling right) small in
    let middle = past before (sets_of left) in
    let a = expression_code decls before left in
    let b = expression_code decls middle right in
    let first : length a ≤ 1024 = omega (arith, few, operation_length op a b) in
    let second : length b ≤ 1024 = omega (arith, few, operation_length op a b) in
    operation_fits op a b few
    (expression_fits decls declared before left depth fits.1 here.0 (first_numbered before (sets_of left) (sets_of right) numbered) first)
    (expression_fits decls declared middle right depth fits.2 here.1.1 (then_numbered before (sets_of left) (sets_of right) numbered) second)
expression_fits decls declared before (member op left set) depth fits small numbered few =
    let here = parts_of_all IsSmall (spelling left) (Lexeme.symbol (membership_symbol op) ∷ spelling_set set) small in
    let middle = past before (sets_of left) in
    let a = expression_code decls before left in
    let asked = member_code op (question set middle) in
    let within : length a ≤ 1024 = omega (arith, few, length-append a asked) in
    joined_fit a asked
    (expression_fits decls declared before left depth fits.1 here.0 (first_numbered before (sets_of left) (one_set set) numbered) within)
    (member_fits op (question set middle) (question_fits set middle (then_numbered before (sets_of left) (one_set set) numbered)))
expression_fits decls declared before (suffixed inner s) depth fits small numbered few =
    let here = parts_of_all IsSmall (spelling inner) (spelling_suffix s) small in
    let code = expression_code decls before inner in
    let within : length code ≤ 1024 = omega (arith, few, length-append code (suffix_code s ∷ [])) in
    joined_fit code (suffix_code s ∷ []) (expression_fits decls declared before inner depth fits.1 here.0 numbered within)
    (suffix_fits s fits.2, tt)
