-- Which fault a tree has, from what each step of its judgement found.
use Rattle.std.proofs.Common.{◌≡◌, ◌≢◌, ◌⊎◌, inl, inr, ℕ, zero, suc, ◌+◌, ◌<◌, ◌≤◌, Bool, true, false}
use Rattle.std.proofs.Common.{cond, Option, Some, None, List, [], ◌∷◌, ◌++◌, Vec, Global}
use Rattle.std.proofs.Common.{length, drop, drop-cons, map, take, get_or, refl, sym, ap, subst, ◌∙◌, add-one, arith}
use Rattle.std.proofs.Math.Seq.{take-suc}
use Rattle.std.specs.Prelude.{Contains, flat_map, slice_get}
use Rattle.std.proofs.lemmas.List.{get_or-map, length-map, map-append}
use Rattle.std.proofs.lemmas.List.Elements.{Contains-append_left, Contains-append_right}
use Rattle.std.proofs.lemmas.Option.{get_or_from_slice_get, slice_get_read, slice_get_within}
use Rattle.filter_syntax.specs.Places.{expr_place}
use Rattle.filter_syntax.specs.Syntax.{ExprView, suffixes_of, chain_of, view, view_more}
use Rattle.filter_syntax.specs.SyntaxCommands.{DeclView}
use Rattle.filter_syntax.specs.declared.tree.decl.Kind.{Kind}
use Rattle.filter_syntax.specs.declared.tree.expr.Expr.{Expr}
use Rattle.filter_syntax.specs.declared.tree.op.Op.{Op}
use Rattle.filter_syntax.specs.declared.tree.op.Suffix.{Suffix}
use Rattle.filter_syntax.specs.declared.tree.op.Suffix.TheVariants as suffix
use Rattle.filter_types.specs.Codes.{fault_place}
use Rattle.filter_types.specs.Faults.{IsRefusedOperator, IsRefusedSuffix}
use Rattle.filter_types.specs.Kinds.{kind_in, of_one}
use Rattle.filter_types.specs.Refusals.{OperandView, operator_refusal, row_refusal, suffix_refusal, wrong_kind}
use Rattle.filter_types.specs.Table.{OperatorRow, operator, row_of, suffixed_by}
use Rattle.filter_types.specs.Table.OperatorRow.{Arithmetic, Equality, Order, Within, Logic}
use Rattle.filter_types.specs.Turns.{OperatorRefuses, SuffixRefuses, kind_after, kind_with}
use Rattle.filter_types.specs.declared.fault.ExpectedKind.{ExpectedKind}
use Rattle.filter_types.specs.declared.fault.TypeFault.{TypeFault}
use Rattle.filter_types.specs.declared.fault.TypeFault.TheVariants as fault
use Rattle.filter_types.proofs.Turns.{chain_kind, suffixes_kind}

-- ---- what a form refuses is no refused memory, and is said at one of its operands

blames : (b : Bool) (p q : OperandView) (x y : ExpectedKind) → (cond b (wrong_kind p x) (wrong_kind q y) ≢ fault.Memory)
    × ((fault_place (cond b (wrong_kind p x) (wrong_kind q y)) ≡ p.at) ⊎ (fault_place (cond b (wrong_kind p x) (wrong_kind q y)) ≡ q.at))
blames true p q x y = ((λ e. cc), inl refl)
blames false p q x y = ((λ e. cc), inr refl)

row_blames : (row : OperatorRow) (left right : OperandView) → (row_refusal row left right ≢ fault.Memory)
    × ((fault_place (row_refusal row left right) ≡ right.at) ⊎ (fault_place (row_refusal row left right) ≡ left.at))
row_blames Arithmetic left right = blames _ right left _ _
row_blames Equality left right = ((λ e. cc), inl refl)
row_blames Order left right = blames _ right left _ _
row_blames Within left right = blames _ right left _ _
row_blames Logic left right = blames _ right left _ _

pub operator_blames : (op : Op) (left right : OperandView) → (operator_refusal op left right ≢ fault.Memory)
    × ((fault_place (operator_refusal op left right) ≡ right.at) ⊎ (fault_place (operator_refusal op left right) ≡ left.at))
operator_blames op = row_blames (row_of op)

pub suffix_blames : (s : Suffix) (operand : OperandView) → (suffix_refusal s operand ≢ fault.Memory)
    × (fault_place (suffix_refusal s operand) ≡ operand.at)
suffix_blames suffix.Ip operand = ((λ e. cc), refl)
suffix_blames suffix.Len operand = ((λ e. cc), refl)
suffix_blames (suffix.Mask n) operand = ((λ e. cc), refl)

-- ---- suffixes, one after another

kind_after-append : (k : Kind) (xs ys : List Suffix) → kind_after k (xs ++ ys) ≡ of_one (λ j. kind_after j ys) (kind_after k xs)
kind_after-append k [] ys = refl
kind_after-append k (x ∷ xs) ys = on (λ j. kind_after-append j xs ys) (suffixed_by x k) where
  on : ((j : Kind) → kind_after j (xs ++ ys) ≡ of_one (λ i. kind_after i ys) (kind_after j xs)) → (o : Option Kind)
      → of_one (λ j. kind_after j (xs ++ ys)) o ≡ of_one (λ j. kind_after j ys) (of_one (λ j. kind_after j xs) o)
  on rest None = refl
  on rest (Some j) = rest j

one_more : {A : Type 0} (xs : List A) (i : ℕ) (x : A) → i < length xs → x ≡ get_or xs i x → take (i + 1) xs ≡ take i xs ++ x ∷ []
one_more xs i x low is = ap (λ n. take n xs) (add-one i) ∙ take-suc xs i x low ∙ ap (λ y. take i xs ++ y ∷ []) (sym is)

one_less : {A : Type 0} (xs : List A) (i : ℕ) (x : A) → i < length xs → x ≡ get_or xs i x → drop i xs ≡ x ∷ drop (i + 1) xs
one_less xs i x low is =
    drop-cons xs i x low ∙ ap (λ y. y ∷ drop (suc i) xs) (sym is) ∙ ap (λ n. x ∷ drop n xs) (sym (add-one i))

given : (o : Option Kind) → of_one Some o ≡ o
given None = refl
given (Some k) = refl

-- the operand with one more suffix
pub suffix_taken : (k left next : Kind) (xs : List Suffix) (i : ℕ) (x : Suffix) → i < length xs → x ≡ get_or xs i x
    → kind_after k (take i xs) ≡ Some left → suffixed_by x left ≡ Some next → kind_after k (take (i + 1) xs) ≡ Some next
suffix_taken k left next xs i x low is before gives =
    ap (kind_after k) (one_more xs i x low is) ∙ kind_after-append k (take i xs) (x ∷ [])
    ∙ ap (of_one (λ j. kind_after j (x ∷ []))) before ∙ given (suffixed_by x left) ∙ gives

-- and what is left gives what it gave before
pub suffix_left : (k next : Kind) (xs : List Suffix) (i : ℕ) (x : Suffix) → i < length xs → x ≡ get_or xs i x → suffixed_by x k ≡ Some next
    → kind_after next (drop (i + 1) xs) ≡ kind_after k (drop i xs)
suffix_left k next xs i x low is gives =
    sym (ap (kind_after k) (one_less xs i x low is) ∙ ap (of_one (λ j. kind_after j (drop (i + 1) xs))) gives)

-- what an operand with suffixes is refused for
pub refused_suffix : (vs : List DeclView) (inner : Expr) (k : Kind) (suffixes : List Suffix) (why : TypeFault) → kind_in vs (view inner) ≡ Some k
    → SuffixRefuses (record { at = expr_place inner; kind = k }) suffixes why → IsRefusedSuffix vs inner suffixes why
refused_suffix vs inner k suffixes why is r = record {
  index = r.index;
  suffix = r.suffix;
  is = r.is;
  left = record {
    kind = r.left;
    found = suffixes_kind vs (view inner) (take r.index suffixes) ∙ ap (of_one (λ j. kind_after j (take r.index suffixes))) is ∙ r.before;
    refused = r.refused;
    is_said = r.is_said;
  };
}

-- ---- operators, one after another

kind_with-append : (vs : List DeclView) (k : Kind) (xs ys : List (ℕ × Op × ExprView))
    → kind_with vs k (xs ++ ys) ≡ of_one (λ j. kind_with vs j ys) (kind_with vs k xs)
kind_with-append vs k [] ys = refl
kind_with-append vs k (x ∷ xs) ys = on (λ j. kind_with-append vs j xs ys) (of_one (operator x.1 k) (kind_in vs x.2)) where
  on : ((j : Kind) → kind_with vs j (xs ++ ys) ≡ of_one (λ i. kind_with vs i ys) (kind_with vs j xs)) → (o : Option Kind)
      → of_one (λ j. kind_with vs j (xs ++ ys)) o ≡ of_one (λ j. kind_with vs j ys) (of_one (λ j. kind_with vs j xs) o)
  on rest None = refl
  on rest (Some j) = rest j

-- the operand with one more operator
pub operator_taken : (vs : List DeclView) (k left right next : Kind) (xs : List (ℕ × Op × Expr)) (i : ℕ) (x : ℕ × Op × Expr)
    → i < length xs → x ≡ get_or xs i x → kind_with vs k (view_more (take i xs)) ≡ Some left → kind_in vs (view x.2) ≡ Some right
    → operator x.1 left right ≡ Some next → kind_with vs k (view_more (take (i + 1) xs)) ≡ Some next
operator_taken vs k left right next xs i x low is before found gives =
    let last : List (ℕ × Op × ExprView) = (x.0, x.1, view x.2) ∷ [] in
    ap (λ l. kind_with vs k (view_more l)) (one_more xs i x low is)
    ∙ ap (kind_with vs k) (map-append (λ (p : ℕ × Op × Expr). (p.0, p.1, view p.2)) (take i xs) (x ∷ []))
    ∙ kind_with-append vs k (view_more (take i xs)) last
    ∙ ap (of_one (λ j. kind_with vs j last)) before
    ∙ given (of_one (operator x.1 left) (kind_in vs (view x.2)))
    ∙ ap (of_one (operator x.1 left)) found
    ∙ gives

-- and what is left gives what it gave before
pub operator_left : (vs : List DeclView) (k right next : Kind) (xs : List (ℕ × Op × Expr)) (i : ℕ) (x : ℕ × Op × Expr) → i < length xs
    → x ≡ get_or xs i x → kind_in vs (view x.2) ≡ Some right → operator x.1 k right ≡ Some next
    → kind_with vs next (view_more (drop (i + 1) xs)) ≡ kind_with vs k (view_more (drop i xs))
operator_left vs k right next xs i x low is found gives =
    let rest = view_more (drop (i + 1) xs) in
    sym (ap (λ l. kind_with vs k (view_more l)) (one_less xs i x low is)
    ∙ ap (λ o. of_one (λ j. kind_with vs j rest) (of_one (operator x.1 k) o)) found
    ∙ ap (of_one (λ j. kind_with vs j rest)) gives)

-- the operator that comes next does not take its operands
pub refuses_here : (vs : List DeclView) (first : OperandView) (more : List (ℕ × Op × Expr)) (i : ℕ) (x : ℕ × Op × Expr) (left right : Kind)
    (why : TypeFault) → i < length more → x ≡ get_or more i x → kind_with vs first.kind (view_more (take i more)) ≡ Some left
    → kind_in vs (view x.2) ≡ Some right → (why ≢ fault.Memory → operator x.1 left right ≡ None)
    → why ≡ operator_refusal x.1 (record { at = first.at; kind = left }) (record { at = expr_place x.2; kind = right })
    → OperatorRefuses vs first more why
refuses_here vs first more i x left right why low is before found none said = record {
  index = i;
  next = x;
  is = slice_get_read more (length more) i x refl low is;
  left = left;
  before = before;
  right = right;
  found = found;
  refused = none (subst (λ (w : TypeFault). w ≢ fault.Memory) (sym said)
      (operator_blames x.1 (record { at = first.at; kind = left }) (record { at = expr_place x.2; kind = right })).0);
  is_said = said;
}

-- what a chain is refused for
pub refused_operator : (vs : List DeclView) (first : Expr) (k : Kind) (more : List (ℕ × Op × Expr)) (why : TypeFault)
    → kind_in vs (view first) ≡ Some k → OperatorRefuses vs (record { at = expr_place first; kind = k }) more why
    → IsRefusedOperator vs first more why
refused_operator vs first k more why is r = record {
  index = r.index;
  next = r.next;
  is = r.is;
  right = r.right;
  found = r.found;
  left = record {
    kind = r.left;
    found =
        chain_kind vs (view first) (view_more (take r.index more)) ∙ ap (of_one (λ j. kind_with vs j (view_more (take r.index more)))) is
        ∙ r.before;
    refused = r.refused;
    is_said = r.is_said;
  };
}

-- ---- members of lists

pub contains_at : {A : Type 0} (xs : List A) (i : ℕ) (x : A) → i < length xs → x ≡ get_or xs i x → Contains xs x
contains_at xs i x low is = (i, low, sym is)

pub contains_first : {A : Type 0} (x : A) (xs : List A) → Contains (x ∷ xs) x
contains_first x xs = (0, omega arith, refl)

pub contains_later : {A : Type 0} (y : A) (xs : List A) (x : A) → Contains xs x → Contains (y ∷ xs) x
contains_later y xs x h = (suc h.0, omega (arith, h.1), h.2)

pub contains_only : {A : Type 0} (y x : A) → Contains (y ∷ []) x → y ≡ x
contains_only y x (zero, low, is) = is
contains_only y x (suc i, low, is) = absurd (omega (arith, low))

pub contains_map : {A B : Type 0} (f : A → B) (xs : List A) (x : A) → Contains xs x → Contains (map f xs) (f x)
contains_map f [] x h = absurd (omega (arith, h.1))
contains_map f (y ∷ xs) x (zero, low, is) = (0, omega arith, ap f is)
contains_map f (y ∷ xs) x (suc i, low, is) = contains_later (f y) (map f xs) (f x) (contains_map f xs x (i, omega (arith, low), is))

pub contains_flat : {A B : Type 0} (f : A → List B) (xs : List A) (x : A) (y : B) → Contains xs x → Contains (f x) y → Contains (flat_map f xs) y
contains_flat f [] x y h k = absurd (omega (arith, h.1))
contains_flat {A = A} f (z ∷ xs) x y (zero, low, is) k =
    Contains-append_left (f z) (flat_map f xs) y (subst (λ (w : A). Contains (f w) y) (sym is) k)
contains_flat f (z ∷ xs) x y (suc i, low, is) k =
    Contains-append_right (f z) (flat_map f xs) y (contains_flat f xs x y (i, omega (arith, low), is) k)

pub contains_got : {A : Type 0} (xs : List A) (i : ℕ) (x : A) → slice_get xs i ≡ Some x → Contains xs x
contains_got xs i x is = (i, slice_get_within xs i x is, get_or_from_slice_get xs i x x is)
