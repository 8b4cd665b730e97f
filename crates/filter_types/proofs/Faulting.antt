-- The fault of an expression, from what its judgement found of its parts.
use Rattle.std.proofs.Common.{◌≡◌, inl, inr, ℕ, Some, None, List, [], ◌∷◌, Box, Vec, Global, refl, sym, ap, subst, ◌∙◌}
use Rattle.std.specs.Prelude.{Contains}
use Rattle.filter_syntax.specs.Places.{expr_place, expr_place_step}
use Rattle.filter_syntax.specs.Syntax.{view, view_members}
use Rattle.filter_syntax.specs.SyntaxCommands.{DeclView}
use Rattle.filter_syntax.specs.declared.tree.decl.Kind.{Kind}
use Rattle.filter_syntax.specs.declared.tree.expr.Attribute.{Attribute}
use Rattle.filter_syntax.specs.declared.tree.expr.Expr.{Expr}
use Rattle.filter_syntax.specs.declared.tree.expr.Expr.TheFolds.{fold-roll-Expr}
use Rattle.filter_syntax.specs.declared.tree.expr.Expr.TheOpen.{Expr-F}
use Rattle.filter_syntax.specs.declared.tree.expr.Expr.TheVariants as e
use Rattle.filter_syntax.specs.declared.tree.expr.Expr.TheViews.{roll-Expr}
use Rattle.filter_syntax.specs.declared.tree.op.Membership.{Membership}
use Rattle.filter_syntax.specs.declared.tree.op.Op.{Op}
use Rattle.filter_syntax.specs.declared.tree.op.Suffix.{Suffix}
use Rattle.filter_syntax.specs.declared.tree.set.Set.{Set}
use Rattle.filter_types.specs.Faults.{HasFault, HasOwnFault, IsRefusedOperator, operands}
use Rattle.filter_types.specs.Kinds.{kind_in, kind_named}
use Rattle.filter_types.specs.Refusals.{OperandView, member_refusal, operator_refusal, suffix_refusal, wrong_kind}
use Rattle.filter_types.specs.Table.{attribute_kind, in_set, negated, operator, suffixed_by}
use Rattle.filter_types.specs.Turns.{BinaryHasFault, ChainHasFault, SuffixRefuses}
use Rattle.filter_types.specs.declared.fault.ExpectedKind.TheVariants as expected
use Rattle.filter_types.specs.declared.fault.TypeFault.{TypeFault}
use Rattle.filter_types.specs.declared.fault.TypeFault.TheVariants as fault
use Rattle.filter_types.proofs.Blaming.{contains_first, contains_later, contains_map, refused_operator, refused_suffix}

-- an operand with its kind
abbrev pub with_kind : Expr → Kind → OperandView
with_kind x k = record { at = expr_place x; kind = k }

-- an operator does not take its two operands
pub operator_fault : (vs : List DeclView) (why : TypeFault) (y : Expr × ℕ × Op × Expr) (a b : Kind) → kind_in vs (view y.0) ≡ Some a → kind_in vs (view y.3) ≡ Some b
    → operator y.2 a b ≡ None → why ≡ operator_refusal y.2 (with_kind y.0 a) (with_kind y.3 b) → BinaryHasFault vs y why
operator_fault vs why y a b left right none said = inr (inr (record {
  index = 0;
  next = (y.1, y.2, y.3);
  is = refl;
  right = b;
  found = right;
  left = record { kind = a; found = left; refused = none; is_said = said };
}))

module _ (vs : List DeclView) (x : Expr) (why : TypeFault) where
  of_one_operand : (form : Expr-F Expr) (z y : Expr) → x ≡ roll-Expr form → Contains (operands form) z → y ≡ z → HasFault vs y why → HasFault vs x why
  of_one_operand form z y is inside same h =
      HasFault.of_operand form z is inside (subst (λ (w : Expr). HasFault vs w why) same h)

  pub name_fault : (at : ℕ) (name text : List ℕ) → x ≡ e.Name at name → text ≡ name
      → (kind_named vs text ≡ None) × (why ≡ fault.UnknownName at) → HasFault vs x why
  name_fault at name text is same h =
      HasFault.own (Expr-F.Name at name) (is ∙ sym (e.rolls-Name at name)) (ap (kind_named vs) (sym same) ∙ h.0, h.1)

  pub group_operand : (at : ℕ) (inner : Box Expr Global) (y : Expr) → x ≡ e.Group at inner → y ≡ inner.value → HasFault vs y why → HasFault vs x why
  group_operand at inner y is same h =
      of_one_operand (Expr-F.Group at inner) inner.value y (is ∙ sym (e.rolls-Group at inner)) (contains_first inner.value []) same h

  pub not_operand : (at : ℕ) (inner : Box Expr Global) (y : Expr) → x ≡ e.Not at inner → y ≡ inner.value → HasFault vs y why → HasFault vs x why
  not_operand at inner y is same h =
      of_one_operand (Expr-F.Not at inner) inner.value y (is ∙ sym (e.rolls-Not at inner)) (contains_first inner.value []) same h

  pub not_fault : (at : ℕ) (inner : Box Expr Global) (y : Expr) (k : Kind) → x ≡ e.Not at inner → y ≡ inner.value → kind_in vs (view y) ≡ Some k
      → negated k ≡ None → why ≡ wrong_kind (with_kind y k) expected.Bool → HasFault vs x why
  not_fault at inner y k is same found refused said =
      HasFault.own (Expr-F.Not at inner) (is ∙ sym (e.rolls-Not at inner)) (record {
        kind = k;
        found = ap (λ (z : Expr). kind_in vs (view z)) (sym same) ∙ found;
        refused = refused;
        is_said = said ∙ ap (λ (z : Expr). wrong_kind (with_kind z k) expected.Bool) same;
      })

  -- an attribute does not take the suffix after it
  pub attribute_part_fault : (at : ℕ) (a : Attribute) (s : Suffix) (k : Kind) → x ≡ e.AttributePart at a s → k ≡ attribute_kind a
      → suffixed_by s k ≡ None → why ≡ suffix_refusal s (with_kind x k) → HasFault vs x why
  attribute_part_fault at a s k is found refused said =
      let form : Expr-F Expr = Expr-F.AttributePart at a s in
      let rolled : x ≡ roll-Expr form = is ∙ sym (e.rolls-AttributePart at a s) in
      let begins : expr_place x ≡ at = ap expr_place rolled ∙ fold-roll-Expr ℕ expr_place_step form in
      HasFault.own form rolled (record {
        kind = k;
        found = ap (λ (j : Kind). Some j) (sym found);
        refused = refused;
        is_said = said ∙ ap (λ (n : ℕ). suffix_refusal s (record { at = n; kind = k })) begins;
      })

  -- the fault of two operands with the operator between them is that of what holds them
  of_binary : (form : Expr-F Expr) (z y : Expr × ℕ × Op × Expr) → x ≡ roll-Expr form → operands form ≡ z.0 ∷ z.3 ∷ []
      → (IsRefusedOperator vs z.0 ((z.1, z.2, z.3) ∷ []) why → HasOwnFault vs form why) → y ≡ z → BinaryHasFault vs y why → HasFault vs x why
  of_binary form z y is are own same h = by_case (subst (λ (w : Expr × ℕ × Op × Expr). BinaryHasFault vs w why) same h) where
    by_case : BinaryHasFault vs z why → HasFault vs x why
    by_case (inl left) =
        HasFault.of_operand form z.0 is (subst (λ (xs : List Expr). Contains xs z.0) (sym are) (contains_first z.0 (z.3 ∷ []))) left
    by_case (inr (inl right)) =
        HasFault.of_operand form z.3 is (subst (λ (xs : List Expr). Contains xs z.3) (sym are)
        (contains_later z.0 (z.3 ∷ []) z.3 (contains_first z.3 []))) right
    by_case (inr (inr refused)) = HasFault.own form is (own refused)

  pub binary_fault : (parts : Box (Expr × ℕ × Op × Expr) Global) (y : Expr × ℕ × Op × Expr) → x ≡ e.Binary parts → y ≡ parts.value
      → BinaryHasFault vs y why → HasFault vs x why
  binary_fault parts y is same h =
      of_binary (Expr-F.Binary parts) parts.value y (is ∙ sym (e.rolls-Binary parts)) refl (λ r. r) same h

  pub grouped_fault : (at : ℕ) (parts : Box (Expr × ℕ × Op × Expr) Global) (y : Expr × ℕ × Op × Expr) → x ≡ e.GroupedBinary at parts
      → y ≡ parts.value → BinaryHasFault vs y why → HasFault vs x why
  grouped_fault at parts y is same h =
      of_binary (Expr-F.GroupedBinary at parts) parts.value y (is ∙ sym (e.rolls-GroupedBinary at parts)) refl (λ r. r) same h

  pub chain_operand : (first : Box Expr Global) (more : Vec (ℕ × Op × Expr) Global) (y : Expr) → x ≡ e.Chain first more → y ≡ first.value
      → HasFault vs y why → HasFault vs x why
  chain_operand first more y is same h =
      of_one_operand (Expr-F.Chain first more) first.value y (is ∙ sym (e.rolls-Chain first more)) (contains_first first.value _) same h

  pub chain_fault : (first : Box Expr Global) (more : Vec (ℕ × Op × Expr) Global) (y : Expr) (ys : List (ℕ × Op × Expr)) (k : Kind)
      → x ≡ e.Chain first more → y ≡ first.value → ys ≡ more.items → kind_in vs (view y) ≡ Some k
      → ChainHasFault vs (with_kind y k) ys why → HasFault vs x why
  chain_fault first more y ys k is same are found h =
      by_case (subst (λ (z : Expr). kind_in vs (view z) ≡ Some k) same found)
      (subst (λ (z : Expr). ChainHasFault vs (with_kind z k) more.items why) same
      (subst (λ (zs : List (ℕ × Op × Expr)). ChainHasFault vs (with_kind y k) zs why) are h)) where
        by_case : kind_in vs (view first.value) ≡ Some k → ChainHasFault vs (with_kind first.value k) more.items why → HasFault vs x why
        by_case found (inl right) =
            HasFault.of_operand (Expr-F.Chain first more) right.0.2 (is ∙ sym (e.rolls-Chain first more))
            (contains_later first.value _ right.0.2 (contains_map (λ z. z.2) more.items right.0 right.1)) right.2
        by_case found (inr refuses) =
            HasFault.own (Expr-F.Chain first more) (is ∙ sym (e.rolls-Chain first more)) (refused_operator vs first.value k more.items why found refuses)

  pub member_operand : (op : Membership) (left : Box Expr Global) (set : Set) (y : Expr) → x ≡ e.Member op left set → y ≡ left.value
      → HasFault vs y why → HasFault vs x why
  member_operand op left set y is same h =
      of_one_operand (Expr-F.Member op left set) left.value y (is ∙ sym (e.rolls-Member op left set)) (contains_first left.value []) same h

  pub member_fault : (op : Membership) (left : Box Expr Global) (set : Set) (y : Expr) (k : Kind) → x ≡ e.Member op left set → y ≡ left.value
      → kind_in vs (view y) ≡ Some k → in_set (view_members set.members) k ≡ None
      → why ≡ member_refusal (view_members set.members) (with_kind y k) → HasFault vs x why
  member_fault op left set y k is same found refused said =
      HasFault.own (Expr-F.Member op left set) (is ∙ sym (e.rolls-Member op left set)) (record {
        kind = k;
        found = ap (λ (z : Expr). kind_in vs (view z)) (sym same) ∙ found;
        refused = refused;
        is_said = said ∙ ap (λ (z : Expr). member_refusal (view_members set.members) (with_kind z k)) same;
      })

  pub suffixed_operand : (inner : Box Expr Global) (suffixes : Vec Suffix Global) (y : Expr) → x ≡ e.Suffixed inner suffixes → y ≡ inner.value
      → HasFault vs y why → HasFault vs x why
  suffixed_operand inner suffixes y is same h =
      of_one_operand (Expr-F.Suffixed inner suffixes) inner.value y (is ∙ sym (e.rolls-Suffixed inner suffixes)) (contains_first inner.value []) same h

  pub suffixed_fault : (inner : Box Expr Global) (suffixes : Vec Suffix Global) (y : Expr) (ys : List Suffix) (k : Kind)
      → x ≡ e.Suffixed inner suffixes → y ≡ inner.value → ys ≡ suffixes.items → kind_in vs (view y) ≡ Some k
      → SuffixRefuses (with_kind y k) ys why → HasFault vs x why
  suffixed_fault inner suffixes y ys k is same are found h =
      HasFault.own (Expr-F.Suffixed inner suffixes) (is ∙ sym (e.rolls-Suffixed inner suffixes))
      (refused_suffix vs inner.value k suffixes.items why (subst (λ (z : Expr). kind_in vs (view z) ≡ Some k) same found)
      (subst (λ (z : Expr). SuffixRefuses (with_kind z k) suffixes.items why) same
      (subst (λ (zs : List Suffix). SuffixRefuses (with_kind y k) zs why) are h)))
