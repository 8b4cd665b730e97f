-- Chains and operands with suffixes, judged part by part, have the kinds that their trees have.
use Rattle.std.proofs.Common.{◌≡◌, ℕ, Option, Some, None, List, [], ◌∷◌, Result, refl, sym, ap, subst, ◌∙◌}
use Rattle.filter_syntax.specs.Syntax.{ExprView, chain_of, suffixes_of}
use Rattle.filter_syntax.specs.SyntaxCommands.{DeclView}
use Rattle.filter_syntax.specs.declared.tree.decl.Kind.{Kind}
use Rattle.filter_syntax.specs.declared.tree.op.Op.{Op}
use Rattle.filter_syntax.specs.declared.tree.op.Suffix.{Suffix}
use Rattle.filter_types.specs.Answers.{AnswersKind}
use Rattle.filter_types.specs.Kinds.{kind_in, of_one, of_two}
use Rattle.filter_types.specs.Table.{operator, suffixed_by}
use Rattle.filter_types.specs.Turns.{kind_after, kind_with}
use Rattle.filter_types.specs.declared.fault.TypeFault.{TypeFault}

-- a form of two operands, of which the first is of a known kind
two_is : (row : Kind → Kind → Option Kind) (a b : Option Kind) (f : Kind → Option Kind)
    → of_one f (of_two row a b) ≡ of_one (λ k. of_one f (of_one (row k) b)) a
two_is row None b f = refl
two_is row (Some a) b f = refl

one_is : (row f : Kind → Option Kind) (a : Option Kind) → of_one f (of_one row a) ≡ of_one (λ k. of_one f (row k)) a
one_is row f None = refl
one_is row f (Some a) = refl

some_is : (a : Option Kind) → of_one Some a ≡ a
some_is None = refl
some_is (Some a) = refl

-- the kind of a chain is that of its first operand with what follows it
pub chain_kind : (vs : List DeclView) (left : ExprView) (xs : List (ℕ × Op × ExprView))
    → kind_in vs (chain_of left xs) ≡ of_one (λ k. kind_with vs k xs) (kind_in vs left)
chain_kind vs left [] = sym (some_is (kind_in vs left))
chain_kind vs left (x ∷ xs) =
    chain_kind vs (ExprView.binary x.1 left x.2) xs
    ∙ two_is (operator x.1) (kind_in vs left) (kind_in vs x.2) (λ k. kind_with vs k xs)

-- the kind of an operand with suffixes is that of the operand with what follows it
pub suffixes_kind : (vs : List DeclView) (inner : ExprView) (xs : List Suffix)
    → kind_in vs (suffixes_of inner xs) ≡ of_one (λ k. kind_after k xs) (kind_in vs inner)
suffixes_kind vs inner [] = sym (some_is (kind_in vs inner))
suffixes_kind vs inner (x ∷ xs) =
    suffixes_kind vs (ExprView.suffixed inner x) xs ∙ one_is (suffixed_by x) (λ k. kind_after k xs) (kind_in vs inner)

-- what is known of the first operand
pub chain_gives : (vs : List DeclView) (t left : ExprView) (xs : List (ℕ × Op × ExprView)) (k : Kind) (answer : Result Kind TypeFault)
    → t ≡ chain_of left xs → kind_in vs left ≡ Some k → AnswersKind answer (kind_with vs k xs) → AnswersKind answer (kind_in vs t)
chain_gives vs t left xs k answer is found given =
    subst (AnswersKind answer) (sym (ap (kind_in vs) is ∙ chain_kind vs left xs ∙ ap (of_one (λ j. kind_with vs j xs)) found)) given

pub chain_none : (vs : List DeclView) (t left : ExprView) (xs : List (ℕ × Op × ExprView)) → t ≡ chain_of left xs → kind_in vs left ≡ None
    → kind_in vs t ≡ None
chain_none vs t left xs is none = ap (kind_in vs) is ∙ chain_kind vs left xs ∙ ap (of_one (λ j. kind_with vs j xs)) none

pub suffixes_give : (vs : List DeclView) (t inner : ExprView) (xs : List Suffix) (k : Kind) (answer : Result Kind TypeFault)
    → t ≡ suffixes_of inner xs → kind_in vs inner ≡ Some k → AnswersKind answer (kind_after k xs) → AnswersKind answer (kind_in vs t)
suffixes_give vs t inner xs k answer is found given =
    subst (AnswersKind answer) (sym (ap (kind_in vs) is ∙ suffixes_kind vs inner xs ∙ ap (of_one (λ j. kind_after j xs)) found)) given

pub suffixes_none : (vs : List DeclView) (t inner : ExprView) (xs : List Suffix) → t ≡ suffixes_of inner xs
    → kind_in vs inner ≡ None → kind_in vs t ≡ None
suffixes_none vs t inner xs is none = ap (kind_in vs) is ∙ suffixes_kind vs inner xs ∙ ap (of_one (λ j. kind_after j xs)) none
