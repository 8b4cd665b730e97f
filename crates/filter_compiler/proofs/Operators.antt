-- The instructions of each operator: they put its result in the place of its operands.
use Rattle.std.proofs.Common.{◌≡◌, ℕ, zero, suc, ◌+◌, ◌/◌, ◌==◌, ◌<◌, Bool, true, false, not, List, [], ◌∷◌}
use Rattle.std.proofs.Common.{length, map, Option, Some, None, refl, subst, arith}
use Rattle.std.specs.Prelude.{nat_lt, nat_le, slice_get}
use Rattle.std.proofs.lemmas.Bool.Decides.{nat_tests}
use Rattle.std.proofs.lemmas.Option.{slice_get_within}
use Rattle.prefix_patterns.specs.Matching.{matches_any, PrefixPattern}
use Rattle.filter_code.specs.declared.instruction.Instr.{Instr}
use Rattle.filter_code.specs.declared.instruction.Instr.TheVariants as instr
use Rattle.filter_code.specs.declared.value.Value.{Value}
use Rattle.filter_code.specs.declared.value.Value.TheVariants as value
use Rattle.filter_code.specs.RouteView.{RouteView}
use Rattle.filter_code.specs.Machine.{Going, unless_full, carry_out}
use Rattle.filter_code.specs.CodeView.{CodeView}
use Rattle.filter_compiler.proofs.Reaching.{carried_over}
use Rattle.int_sets.specs.Holding.{NumberRange, holds_any}
use Rattle.filter_syntax.specs.declared.tree.decl.Kind.{Kind}
use Rattle.filter_syntax.specs.declared.tree.decl.Kind.TheVariants as kind
use Rattle.filter_syntax.specs.declared.tree.op.Membership.{Membership}
use Rattle.filter_syntax.specs.declared.tree.op.Membership.TheVariants as membership
use Rattle.filter_syntax.specs.declared.tree.op.Op.{Op}
use Rattle.filter_syntax.specs.declared.tree.op.Op.TheVariants as o
use Rattle.filter_syntax.specs.declared.tree.op.Suffix.{Suffix}
use Rattle.filter_syntax.specs.declared.tree.op.Suffix.TheVariants as suffix
use Rattle.filter_syntax.specs.Syntax.{SetView, of_patterns, of_ranges}
use Rattle.filter_types.specs.Table.{arithmetic, equality, order, within, operator, in_set, suffixed_by, negated}
use Rattle.filter_compiler.specs.Meaning as meaning
use Rattle.filter_compiler.specs.Meaning.{Scene, quotient, result_of, suffix_of, member_of}
use Rattle.filter_compiler.specs.SetOrder.{SetCounts}
use Rattle.filter_compiler.specs.Translation.{operator_code, suffix_code, member_code, one_set, question}
use Rattle.filter_compiler.proofs.Parts.{HasAt, HasSets}
use Rattle.filter_compiler.proofs.Scenes.{kind_of_value}
use Rattle.filter_compiler.proofs.Steps.{Stands, Divides, config_in, same_place, replaced}

-- an operator that takes both operands
abbrev pub TakesBoth : Op → Type 0
TakesBoth o.And = ⊥
TakesBoth o.Or = ⊥
TakesBoth _ = Unit {0}

-- one that is not greater is the other that is not less
le_is_not_gt : (a b : ℕ) → not (nat_le a b) ≡ nat_lt b a
le_is_not_gt a b = grind (arith, nat_tests)

lt_is_not_ge : (a b : ℕ) → not (nat_lt a b) ≡ nat_le b a
lt_is_not_ge a b = grind (arith, nat_tests)

suc_is_not_zero : (n : ℕ) → (suc n == 0) ≡ false
suc_is_not_zero n = grind (arith, nat_tests)

-- the answer to a question
abbrev pub answer_of : Membership → Bool → Option Value
answer_of membership.In b = Some (value.Bool b)
answer_of membership.NotIn b = Some (value.Bool (not b))

module _ (program : CodeView) (route : RouteView) (scene : Scene) where
  -- a value of a kind is on the stack, or the run has divided by zero
  abbrev pub Gives : ℕ → List Value → Kind → Option Value → Type 0
  Gives pc stack k (Some v) = Stands program route scene pc (v ∷ stack) × (kind_of_value v ≡ k)
  Gives pc stack k None = Divides program route

  -- NOT
  inverted : (pc : ℕ) (stack : List Value) (b : Bool) → slice_get program.instrs pc ≡ Some instr.Not
      → Stands program route scene pc (value.Bool b ∷ stack) → Stands program route scene (pc + 1) (value.Bool (not b) ∷ stack)
  inverted pc stack b here s =
      replaced program route scene pc (value.Bool b ∷ stack) stack instr.Not (value.Bool (not b)) here (omega arith) refl s

  -- an instruction that takes two operands and gives a value
  two : (pc : ℕ) (stack : List Value) (i : Instr) (a b v : Value) → slice_get program.instrs pc ≡ Some i
      → carry_out program route (config_in program route scene pc (b ∷ a ∷ stack)) (Some i) ≡ unless_full
      (nat_lt 32 (suc (length stack))) pc (Going (config_in program route scene (pc + 1) (v ∷ stack)))
      → Stands program route scene pc (b ∷ a ∷ stack) → Stands program route scene (pc + 1) (v ∷ stack)
  two pc stack i a b v here e s = replaced program route scene pc (b ∷ a ∷ stack) stack i v here (omega arith) e s

  -- and its opposite
  two_inverted : (pc : ℕ) (stack : List Value) (i : Instr) (a b : Value) (answer : Bool) → slice_get program.instrs pc ≡ Some i
      → slice_get program.instrs (pc + 1) ≡ Some instr.Not
      → carry_out program route (config_in program route scene pc (b ∷ a ∷ stack)) (Some i) ≡ unless_full
      (nat_lt 32 (suc (length stack))) pc (Going (config_in program route scene (pc + 1) (value.Bool answer ∷ stack)))
      → Stands program route scene pc (b ∷ a ∷ stack) → Stands program route scene (pc + 2) (value.Bool (not answer) ∷ stack)
  two_inverted pc stack i a b answer here next e s =
      let at : pc + 1 + 1 ≡ pc + 2 = omega arith in
      subst (λ n. Stands program route scene n (value.Bool (not answer) ∷ stack)) at (inverted (pc + 1) stack answer next
      (two pc stack i a b (value.Bool answer) here e s))

  add_runs : (pc : ℕ) (stack : List Value) (a b : Value) (k : Kind) → arithmetic (kind_of_value a) (kind_of_value b) ≡ Some k
      → HasAt program.instrs pc (operator_code o.Add) → Stands program route scene pc (b ∷ a ∷ stack)
      → Gives (pc + 1) stack k (result_of o.Add a b)
  add_runs pc stack (value.Int a) (value.Int b) k fits has s = (two pc stack instr.Add _ _ _ has.0 refl s, cc)
  add_runs pc stack _ _ k fits has s = cc

  sub_runs : (pc : ℕ) (stack : List Value) (a b : Value) (k : Kind) → arithmetic (kind_of_value a) (kind_of_value b) ≡ Some k
      → HasAt program.instrs pc (operator_code o.Sub) → Stands program route scene pc (b ∷ a ∷ stack)
      → Gives (pc + 1) stack k (result_of o.Sub a b)
  sub_runs pc stack (value.Int a) (value.Int b) k fits has s = (two pc stack instr.Sub _ _ _ has.0 refl s, cc)
  sub_runs pc stack _ _ k fits has s = cc

  mul_runs : (pc : ℕ) (stack : List Value) (a b : Value) (k : Kind) → arithmetic (kind_of_value a) (kind_of_value b) ≡ Some k
      → HasAt program.instrs pc (operator_code o.Mul) → Stands program route scene pc (b ∷ a ∷ stack)
      → Gives (pc + 1) stack k (result_of o.Mul a b)
  mul_runs pc stack (value.Int a) (value.Int b) k fits has s = (two pc stack instr.Mul _ _ _ has.0 refl s, cc)
  mul_runs pc stack _ _ k fits has s = cc

  -- DIV by a number that is not 0
  divided_step : (pc : ℕ) (stack : List Value) (a b : ℕ)
      → carry_out program route (config_in program route scene pc (value.Int (suc b) ∷ value.Int a ∷ stack)) (Some instr.Div)
      ≡ unless_full (nat_lt 32 (suc (length stack))) pc (Going (config_in program route scene (pc + 1) (value.Int (a / suc b) ∷ stack)))
  divided_step pc stack a b = rw (suc_is_not_zero b) refl

  div_runs : (pc : ℕ) (stack : List Value) (a b : Value) (k : Kind) → arithmetic (kind_of_value a) (kind_of_value b) ≡ Some k
      → HasAt program.instrs pc (operator_code o.Div) → Stands program route scene pc (b ∷ a ∷ stack)
      → Gives (pc + 1) stack k (result_of o.Div a b)
  div_runs pc stack (value.Int a) (value.Int zero) k fits has s =
      record { at = pc; ended = carried_over program route (config_in program route scene pc _) instr.Div _ s.reached has.0 refl }
  div_runs pc stack (value.Int a) (value.Int (suc b)) k fits has s =
      (two pc stack instr.Div (value.Int a) (value.Int (suc b)) (value.Int (a / suc b)) has.0 (divided_step pc stack a b) s, cc)
  div_runs pc stack _ _ k fits has s = cc

  equal_runs : (pc : ℕ) (stack : List Value) (a b : Value) (k : Kind) → equality (kind_of_value a) (kind_of_value b) ≡ Some k
      → HasAt program.instrs pc (operator_code o.Equal) → Stands program route scene pc (b ∷ a ∷ stack)
      → Gives (pc + 1) stack k (result_of o.Equal a b)
  equal_runs pc stack (value.Int a) (value.Int b) k fits has s = (two pc stack instr.Eq _ _ _ has.0 refl s, cc)
  equal_runs pc stack (value.Bool a) (value.Bool b) k fits has s = (two pc stack instr.Eq _ _ _ has.0 refl s, cc)
  equal_runs pc stack (value.Addr a) (value.Addr b) k fits has s = (two pc stack instr.Eq _ _ _ has.0 refl s, cc)
  equal_runs pc stack (value.Net a) (value.Net b) k fits has s = (two pc stack instr.Eq _ _ _ has.0 refl s, cc)
  equal_runs pc stack _ _ k fits has s = cc

  unequal_runs : (pc : ℕ) (stack : List Value) (a b : Value) (k : Kind) → equality (kind_of_value a) (kind_of_value b) ≡ Some k
      → HasAt program.instrs pc (operator_code o.NotEqual) → Stands program route scene pc (b ∷ a ∷ stack)
      → Gives (pc + 2) stack k (result_of o.NotEqual a b)
  unequal_runs pc stack (value.Int a) (value.Int b) k fits has s = (two_inverted pc stack instr.Eq _ _ _ has.0 has.1.0 refl s, cc)
  unequal_runs pc stack (value.Bool a) (value.Bool b) k fits has s = (two_inverted pc stack instr.Eq _ _ _ has.0 has.1.0 refl s, cc)
  unequal_runs pc stack (value.Addr a) (value.Addr b) k fits has s = (two_inverted pc stack instr.Eq _ _ _ has.0 has.1.0 refl s, cc)
  unequal_runs pc stack (value.Net a) (value.Net b) k fits has s = (two_inverted pc stack instr.Eq _ _ _ has.0 has.1.0 refl s, cc)
  unequal_runs pc stack _ _ k fits has s = cc

  less_runs : (pc : ℕ) (stack : List Value) (a b : Value) (k : Kind) → order (kind_of_value a) (kind_of_value b) ≡ Some k
      → HasAt program.instrs pc (operator_code o.Less) → Stands program route scene pc (b ∷ a ∷ stack)
      → Gives (pc + 1) stack k (result_of o.Less a b)
  less_runs pc stack (value.Int a) (value.Int b) k fits has s = (two pc stack instr.Lt _ _ _ has.0 refl s, cc)
  less_runs pc stack (value.Addr a) (value.Addr b) k fits has s = (two pc stack instr.Lt _ _ _ has.0 refl s, cc)
  less_runs pc stack _ _ k fits has s = cc

  at_most_runs : (pc : ℕ) (stack : List Value) (a b : Value) (k : Kind) → order (kind_of_value a) (kind_of_value b) ≡ Some k
      → HasAt program.instrs pc (operator_code o.LessEqual) → Stands program route scene pc (b ∷ a ∷ stack)
      → Gives (pc + 1) stack k (result_of o.LessEqual a b)
  at_most_runs pc stack (value.Int a) (value.Int b) k fits has s = (two pc stack instr.Le _ _ _ has.0 refl s, cc)
  at_most_runs pc stack (value.Addr a) (value.Addr b) k fits has s = (two pc stack instr.Le _ _ _ has.0 refl s, cc)
  at_most_runs pc stack _ _ k fits has s = cc

  -- `a > b` is not `a <= b`, and `a >= b` is not `a < b`
  opposite_is : (pc : ℕ) (stack : List Value) (test answer : Bool) → not test ≡ answer
      → Stands program route scene pc (value.Bool (not test) ∷ stack) → Stands program route scene pc (value.Bool answer ∷ stack)
  opposite_is pc stack test answer e s = subst (λ b. Stands program route scene pc (value.Bool b ∷ stack)) e s

  greater_runs : (pc : ℕ) (stack : List Value) (a b : Value) (k : Kind) → order (kind_of_value a) (kind_of_value b) ≡ Some k
      → HasAt program.instrs pc (operator_code o.Greater) → Stands program route scene pc (b ∷ a ∷ stack)
      → Gives (pc + 2) stack k (result_of o.Greater a b)
  greater_runs pc stack (value.Int a) (value.Int b) k fits has s =
      (opposite_is (pc + 2) stack _ _ (le_is_not_gt a b) (two_inverted pc stack instr.Le _ _ (nat_le a b) has.0 has.1.0 refl s), cc)
  greater_runs pc stack (value.Addr a) (value.Addr b) k fits has s =
      (opposite_is (pc + 2) stack _ _ (le_is_not_gt a.0 b.0) (two_inverted pc stack instr.Le _ _ (nat_le a.0 b.0) has.0 has.1.0 refl s), cc)
  greater_runs pc stack _ _ k fits has s = cc

  at_least_runs : (pc : ℕ) (stack : List Value) (a b : Value) (k : Kind) → order (kind_of_value a) (kind_of_value b) ≡ Some k
      → HasAt program.instrs pc (operator_code o.GreaterEqual) → Stands program route scene pc (b ∷ a ∷ stack)
      → Gives (pc + 2) stack k (result_of o.GreaterEqual a b)
  at_least_runs pc stack (value.Int a) (value.Int b) k fits has s =
      (opposite_is (pc + 2) stack _ _ (lt_is_not_ge a b) (two_inverted pc stack instr.Lt _ _ (nat_lt a b) has.0 has.1.0 refl s), cc)
  at_least_runs pc stack (value.Addr a) (value.Addr b) k fits has s =
      (opposite_is (pc + 2) stack _ _ (lt_is_not_ge a.0 b.0) (two_inverted pc stack instr.Lt _ _ (nat_lt a.0 b.0) has.0 has.1.0 refl s), cc)
  at_least_runs pc stack _ _ k fits has s = cc

  within_runs : (pc : ℕ) (stack : List Value) (a b : Value) (k : Kind) → within (kind_of_value a) (kind_of_value b) ≡ Some k
      → HasAt program.instrs pc (operator_code o.Match) → Stands program route scene pc (b ∷ a ∷ stack)
      → Gives (pc + 1) stack k (result_of o.Match a b)
  within_runs pc stack (value.Addr a) (value.Net b) k fits has s = (two pc stack instr.Within _ _ _ has.0 refl s, cc)
  within_runs pc stack (value.Net a) (value.Net b) k fits has s = (two pc stack instr.Within _ _ _ has.0 refl s, cc)
  within_runs pc stack _ _ k fits has s = cc

  outside_runs : (pc : ℕ) (stack : List Value) (a b : Value) (k : Kind) → within (kind_of_value a) (kind_of_value b) ≡ Some k
      → HasAt program.instrs pc (operator_code o.NotMatch) → Stands program route scene pc (b ∷ a ∷ stack)
      → Gives (pc + 2) stack k (result_of o.NotMatch a b)
  outside_runs pc stack (value.Addr a) (value.Net b) k fits has s = (two_inverted pc stack instr.Within _ _ _ has.0 has.1.0 refl s, cc)
  outside_runs pc stack (value.Net a) (value.Net b) k fits has s = (two_inverted pc stack instr.Within _ _ _ has.0 has.1.0 refl s, cc)
  outside_runs pc stack _ _ k fits has s = cc

  -- an operator after both its operands
  pub operator_runs : (op : Op) (pc : ℕ) (stack : List Value) (a b : Value) (k : Kind) → TakesBoth op
      → operator op (kind_of_value a) (kind_of_value b) ≡ Some k → HasAt program.instrs pc (operator_code op)
      → Stands program route scene pc (b ∷ a ∷ stack) → Gives (pc + length (operator_code op)) stack k (result_of op a b)
  operator_runs o.Add pc stack a b k both fits has s = add_runs pc stack a b k fits has s
  operator_runs o.Sub pc stack a b k both fits has s = sub_runs pc stack a b k fits has s
  operator_runs o.Mul pc stack a b k both fits has s = mul_runs pc stack a b k fits has s
  operator_runs o.Div pc stack a b k both fits has s = div_runs pc stack a b k fits has s
  operator_runs o.Equal pc stack a b k both fits has s = equal_runs pc stack a b k fits has s
  operator_runs o.NotEqual pc stack a b k both fits has s = unequal_runs pc stack a b k fits has s
  operator_runs o.Less pc stack a b k both fits has s = less_runs pc stack a b k fits has s
  operator_runs o.Greater pc stack a b k both fits has s = greater_runs pc stack a b k fits has s
  operator_runs o.LessEqual pc stack a b k both fits has s = at_most_runs pc stack a b k fits has s
  operator_runs o.GreaterEqual pc stack a b k both fits has s = at_least_runs pc stack a b k fits has s
  operator_runs o.Match pc stack a b k both fits has s = within_runs pc stack a b k fits has s
  operator_runs o.NotMatch pc stack a b k both fits has s = outside_runs pc stack a b k fits has s
  operator_runs o.And pc stack a b k both fits has s = absurd both
  operator_runs o.Or pc stack a b k both fits has s = absurd both

  -- `!`
  pub negation_runs : (pc : ℕ) (stack : List Value) (a : Value) (k : Kind) → negated (kind_of_value a) ≡ Some k
      → HasAt program.instrs pc (instr.Not ∷ []) → Stands program route scene pc (a ∷ stack) → Gives (pc + 1) stack k (meaning.negated a)
  negation_runs pc stack (value.Bool b) k fits has s = (inverted pc stack b has.0 s, cc)
  negation_runs pc stack _ k fits has s = cc

  -- a suffix
  pub suffix_runs : (s : Suffix) (pc : ℕ) (stack : List Value) (a : Value) (k : Kind) → suffixed_by s (kind_of_value a) ≡ Some k
      → HasAt program.instrs pc (suffix_code s ∷ []) → Stands program route scene pc (a ∷ stack) → Gives (pc + 1) stack k (suffix_of s a)
  suffix_runs suffix.Ip pc stack (value.Net p) k fits has s =
      (replaced program route scene pc (value.Net p ∷ stack) stack instr.Addr _ has.0 (omega arith) refl s, cc)
  suffix_runs suffix.Len pc stack (value.Net p) k fits has s =
      (replaced program route scene pc (value.Net p ∷ stack) stack instr.Len _ has.0 (omega arith) refl s, cc)
  suffix_runs (suffix.Mask n) pc stack (value.Addr a) k fits has s =
      (replaced program route scene pc (value.Addr a ∷ stack) stack (instr.Mask n) _ has.0 (omega arith) refl s, cc)
  suffix_runs suffix.Ip pc stack _ k fits has s = cc
  suffix_runs suffix.Len pc stack _ k fits has s = cc
  suffix_runs (suffix.Mask n) pc stack _ k fits has s = cc

  -- MEMBER of a set of the code
  member_step : (pc : ℕ) (stack : List Value) (set : ℕ) (patterns : List PrefixPattern) (p : List Bool)
      → slice_get program.sets set ≡ Some patterns
      → carry_out program route (config_in program route scene pc (value.Net p ∷ stack)) (Some (instr.Member set)) ≡ unless_full
      (nat_lt 32 (suc (length stack))) pc (Going (config_in program route scene (pc + 1) (value.Bool (matches_any p patterns) ∷ stack)))
  member_step pc stack set patterns p found =
      let within : set < length program.sets = slice_get_within program.sets set patterns found in
      let test : nat_lt set (length program.sets) ≡ true = grind (arith, nat_tests) in
      rw (test, found) refl

  -- INSET of a set of the code
  in_set_step : (pc : ℕ) (stack : List Value) (set : ℕ) (ranges : List NumberRange) (n : ℕ)
      → slice_get program.int_sets set ≡ Some ranges
      → carry_out program route (config_in program route scene pc (value.Int n ∷ stack)) (Some (instr.InSet set)) ≡ unless_full
      (nat_lt 32 (suc (length stack))) pc (Going (config_in program route scene (pc + 1) (value.Bool (holds_any n ranges) ∷ stack)))
  in_set_step pc stack set ranges n found =
      let within : set < length program.int_sets = slice_get_within program.int_sets set ranges found in
      let test : nat_lt set (length program.int_sets) ≡ true = grind (arith, nat_tests) in
      rw (test, found) refl

  -- a question, and its opposite
  question_runs : (op : Membership) (pc : ℕ) (stack : List Value) (i : Instr) (a : Value) (answer : Bool) (k : Kind) → Some kind.Bool ≡ Some k
      → carry_out program route (config_in program route scene pc (a ∷ stack)) (Some i) ≡ unless_full
      (nat_lt 32 (suc (length stack))) pc (Going (config_in program route scene (pc + 1) (value.Bool answer ∷ stack)))
      → HasAt program.instrs pc (member_code op i) → Stands program route scene pc (a ∷ stack)
      → Gives (pc + length (member_code op i)) stack k (answer_of op answer)
  question_runs membership.In pc stack i a answer k fits e has s =
      (replaced program route scene pc (a ∷ stack) stack i _ has.0 (omega arith) e s, cc)
  question_runs membership.NotIn pc stack i a answer k fits e has s =
      let at : pc + 1 + 1 ≡ pc + 2 = omega arith in
      let one = replaced program route scene pc (a ∷ stack) stack i _ has.0 (omega arith) e s in (
        same_place program route scene (pc + 1 + 1) (pc + 2) (value.Bool (not answer) ∷ stack) at (inverted (pc + 1) stack _ has.1.0 one),
        cc,
      )

  pub member_runs : (op : Membership) (pc : ℕ) (stack : List Value) (n : SetCounts) (set : SetView) (a : Value) (k : Kind)
      → in_set set (kind_of_value a) ≡ Some k → HasSets program n (one_set set)
      → HasAt program.instrs pc (member_code op (question set n)) → Stands program route scene pc (a ∷ stack)
      → Gives (pc + length (member_code op (question set n))) stack k (member_of op set a)
  member_runs membership.In pc stack n (of_patterns set) (value.Net p) k fits found has s =
      question_runs membership.In pc stack _ _ _ k fits (member_step pc stack n.patterns _ p found.patterns.0) has s
  member_runs membership.NotIn pc stack n (of_patterns set) (value.Net p) k fits found has s =
      question_runs membership.NotIn pc stack _ _ _ k fits (member_step pc stack n.patterns _ p found.patterns.0) has s
  member_runs membership.In pc stack n (of_ranges set) (value.Int i) k fits found has s =
      question_runs membership.In pc stack _ _ _ k fits (in_set_step pc stack n.ints _ i found.ints.0) has s
  member_runs membership.NotIn pc stack n (of_ranges set) (value.Int i) k fits found has s =
      question_runs membership.NotIn pc stack _ _ _ k fits (in_set_step pc stack n.ints _ i found.ints.0) has s
  member_runs op pc stack n (of_patterns set) _ k fits found has s = cc
  member_runs op pc stack n (of_ranges set) _ k fits found has s = cc
