-- A fault of a filter is at a place that its tree keeps.
use Rattle.std.proofs.Common.{◌≡◌, ◌⊎◌, inl, inr, ℕ, zero, suc, ◌+◌, ◌<◌, Some, None, Option, List, [], ◌∷◌, ◌++◌, Box, Vec, Global}
use Rattle.std.proofs.Common.{length, map, take, get_or, refl, sym, ap, subst, ◌∙◌, arith}
use Rattle.std.specs.Prelude.{Contains, flat_map, slice_get}
use Rattle.std.proofs.lemmas.List.Quantifiers.{all_pairs_push}
use Rattle.std.proofs.lemmas.Option.{get_or_from_slice_get, slice_get_within}
use Rattle.int_sets.specs.Holding.{NumberRange, HoldsAny}
use Rattle.std.proofs.lemmas.List.Elements.{Contains-append_cases, Contains-append_left, Contains-append_right}
use Rattle.filter_syntax.specs.Placed.{Kept, expr_kept, expr_kept_step, joined, operand_kept, range_kept, ranges_kept, suffix_kept}
use Rattle.filter_syntax.specs.Placed.{command_kept, command_kept_step, decl_kept, label_kept, part_kept}
use Rattle.filter_syntax.specs.Places.{expr_place, expr_place_step, range_place}
use Rattle.filter_syntax.specs.Places.{body_of, decls_of}
use Rattle.filter_syntax.specs.Syntax.{range_of, view_range}
use Rattle.filter_syntax.specs.SyntaxCommands.{DeclView, view_decl, view_label}
use Rattle.filter_syntax.specs.declared.tree.command.Command.{Command}
use Rattle.filter_syntax.specs.declared.tree.command.Command.TheFolds.{fold-roll-Command, map-Command}
use Rattle.filter_syntax.specs.declared.tree.command.Command.TheOpen.{Command-F}
use Rattle.filter_syntax.specs.declared.tree.command.Command.TheVariants as command
use Rattle.filter_syntax.specs.declared.tree.command.Command.TheViews.{roll-Command}
use Rattle.filter_syntax.specs.declared.tree.command.Label.{Label}
use Rattle.filter_syntax.specs.declared.tree.command.Label.TheVariants as label
use Rattle.filter_syntax.specs.declared.tree.command.Target.{Target}
use Rattle.filter_syntax.specs.declared.tree.command.Target.TheVariants as target
use Rattle.filter_syntax.specs.declared.tree.decl.Decl.{Decl}
use Rattle.filter_syntax.specs.declared.tree.expr.Expr.{Expr}
use Rattle.filter_syntax.specs.declared.tree.expr.Expr.TheFolds.{fold-roll-Expr, ind-Expr, map-Expr}
use Rattle.filter_syntax.specs.declared.tree.expr.Expr.TheOpen.{Expr-F}
use Rattle.filter_syntax.specs.declared.tree.expr.Expr.TheViews.{roll-Expr}
use Rattle.filter_syntax.specs.declared.tree.filter.Filter.{Filter}
use Rattle.filter_syntax.specs.declared.tree.op.Op.{Op}
use Rattle.filter_syntax.specs.declared.tree.set.SetRange.{SetRange}
use Rattle.filter_syntax.specs.declared.tree.set.SetRange.TheVariants as range
use Rattle.filter_syntax.proofs.Placing.{kept_case}
use Rattle.filter_types.specs.Codes.{fault_place}
use Rattle.filter_types.specs.Faults.{CommandHasFault, CommandHasOwnFault, HasFault, HasOwnFault, IsFaultOf, IsOtherKind, IsOtherThanTarget}
use Rattle.filter_types.specs.Faults.{IsRefusedOperator, IsTargetFault, KeepsPlace, SharesLabel, commands_in, expressions, operands}
use Rattle.filter_syntax.specs.Surroundings.{variable_limit}
use Rattle.filter_types.specs.Labels.{AreAllApart, AreApart, label_ranges}
use Rattle.filter_types.specs.Refusals.{first_place, label_place}
use Rattle.filter_types.specs.Table.{argument_kind}
use Rattle.filter_types.specs.declared.fault.TypeFault.{TypeFault}
use Rattle.filter_types.proofs.Blaming.{contains_first, contains_got, contains_later, contains_map, contains_only, operator_blames, suffix_blames}
use Rattle.filter_types.proofs.Lists.{map_next}

-- ---- expressions

-- an expression keeps the place that it begins at
abbrev KeepsItsPlace : Expr → Type 0
KeepsItsPlace x = Contains (expr_kept x) (Some (expr_place x))

begins_step : (y : Expr-F ((x : Expr) × KeepsItsPlace x))
    → Contains (expr_kept_step (map-Expr Expr Kept expr_kept (map-Expr ((x : Expr) × KeepsItsPlace x) Expr (λ p. p.0) y)))
    (Some (expr_place_step (map-Expr Expr ℕ expr_place (map-Expr ((x : Expr) × KeepsItsPlace x) Expr (λ p. p.0) y))))
begins_step (Expr-F.Number at n) = (0, omega arith, refl)
begins_step (Expr-F.Address at a) = (0, omega arith, refl)
begins_step (Expr-F.Prefix at bits) = (0, omega arith, refl)
begins_step (Expr-F.Truth at b) = (0, omega arith, refl)
begins_step (Expr-F.Name at text) = (0, omega arith, refl)
begins_step (Expr-F.Attribute at a) = (0, omega arith, refl)
begins_step (Expr-F.Defined at a) = (0, omega arith, refl)
begins_step (Expr-F.AttributePart at a s) = (0, omega arith, refl)
begins_step (Expr-F.GroupedBinary at parts) = (0, omega arith, refl)
begins_step (Expr-F.Group at inner) = (0, omega arith, refl)
begins_step (Expr-F.Not at inner) = (0, omega arith, refl)
begins_step (Expr-F.Binary parts) = Contains-append_left _ _ _ parts.value.0.1
begins_step (Expr-F.Chain first more) = Contains-append_left _ _ _ first.value.1
begins_step (Expr-F.Member op left set) = Contains-append_left _ _ _ left.value.1
begins_step (Expr-F.Suffixed inner suffixes) = Contains-append_left _ _ _ inner.value.1

begins_kept : (x : Expr) → KeepsItsPlace x
begins_kept = ind-Expr KeepsItsPlace (λ x y is.
    subst (λ (k : Kept). Contains k (Some (expr_place (roll-Expr x)))) (sym (fold-roll-Expr Kept expr_kept_step x))
    (subst (λ (at : ℕ). Contains (expr_kept_step (map-Expr Expr Kept expr_kept x)) (Some at)) (sym (fold-roll-Expr ℕ expr_place_step x))
    (subst (λ z. Contains (expr_kept_step (map-Expr Expr Kept expr_kept z)) (Some (expr_place_step (map-Expr Expr ℕ expr_place z)))) is (begins_step y))))

-- what the operand of an operator keeps
right_kept : (more : List (ℕ × Op × Expr)) (z : Expr) (o : Option ℕ) → Contains (map (λ x. x.2) more) z → Contains (expr_kept z) o
    → Contains (joined (map operand_kept (map (λ p. (p.0, p.1, expr_kept p.2)) more))) o
right_kept [] z o h k = absurd (omega (arith, h.1))
right_kept (x ∷ more) z o (zero, low, is) k =
    contains_later (Some x.0) _ o (Contains-append_left (expr_kept x.2) _ o (subst (λ (e : Expr). Contains (expr_kept e) o) (sym is) k))
right_kept (x ∷ more) z o (suc i, low, is) k =
    contains_later (Some x.0) _ o (Contains-append_right (expr_kept x.2) _ o (right_kept more z o (i, omega (arith, low), is) k))

same_kept : (x z : Expr) (o : Option ℕ) → Contains (x ∷ []) z → Contains (expr_kept z) o → Contains (expr_kept x) o
same_kept x z o h k = subst (λ (e : Expr). Contains (expr_kept e) o) (sym (contains_only x z h)) k

first_or_later : {A : Type 0} (y : A) (xs : List A) (x : A) → Contains (y ∷ xs) x → (y ≡ x) ⊎ Contains xs x
first_or_later y xs x (zero, low, is) = inl is
first_or_later y xs x (suc i, low, is) = inr (i, omega (arith, low), is)

chain_kept : (first : Expr) (more : List (ℕ × Op × Expr)) (z : Expr) (o : Option ℕ) → (first ≡ z) ⊎ Contains (map (λ x. x.2) more) z
    → Contains (expr_kept z) o
    → Contains (expr_kept first ++ joined (map operand_kept (map (λ p. (p.0, p.1, expr_kept p.2)) more))) o
chain_kept first more z o (inl is) k =
    Contains-append_left (expr_kept first) _ o (subst (λ (e : Expr). Contains (expr_kept e) o) (sym is) k)
chain_kept first more z o (inr h) k = Contains-append_right (expr_kept first) _ o (right_kept more z o h k)

binary_kept : (first right : Expr) (at : ℕ) (z : Expr) (o : Option ℕ) → (first ≡ z) ⊎ Contains (right ∷ []) z → Contains (expr_kept z) o
    → Contains (expr_kept first ++ Some at ∷ expr_kept right) o
binary_kept first right at z o (inl is) k =
    Contains-append_left (expr_kept first) _ o (subst (λ (e : Expr). Contains (expr_kept e) o) (sym is) k)
binary_kept first right at z o (inr h) k =
    Contains-append_right (expr_kept first) _ o (contains_later (Some at) _ o (same_kept right z o h k))

-- an expression keeps what its operands do
operand_step : (form : Expr-F Expr) (z : Expr) (o : Option ℕ) → Contains (operands form) z → Contains (expr_kept z) o
    → Contains (expr_kept_step (map-Expr Expr Kept expr_kept form)) o
operand_step (Expr-F.Number at n) z o h k = absurd (omega (arith, h.1))
operand_step (Expr-F.Address at a) z o h k = absurd (omega (arith, h.1))
operand_step (Expr-F.Prefix at bits) z o h k = absurd (omega (arith, h.1))
operand_step (Expr-F.Truth at b) z o h k = absurd (omega (arith, h.1))
operand_step (Expr-F.Name at text) z o h k = absurd (omega (arith, h.1))
operand_step (Expr-F.Attribute at a) z o h k = absurd (omega (arith, h.1))
operand_step (Expr-F.Defined at a) z o h k = absurd (omega (arith, h.1))
operand_step (Expr-F.AttributePart at a s) z o h k = absurd (omega (arith, h.1))
operand_step (Expr-F.GroupedBinary at parts) z o h k =
    contains_later (Some at) _ o (Contains-append_left (expr_kept parts.value.0 ++ Some parts.value.1 ∷ expr_kept parts.value.3) _ o
    (binary_kept parts.value.0 parts.value.3 parts.value.1 z o (first_or_later parts.value.0 (parts.value.3 ∷ []) z h) k))
operand_step (Expr-F.Group at inner) z o h k = contains_later (Some at) _ o (Contains-append_left (expr_kept inner.value) _ o (same_kept inner.value z o h k))
operand_step (Expr-F.Not at inner) z o h k = contains_later (Some at) _ o (same_kept inner.value z o h k)
operand_step (Expr-F.Binary parts) z o h k =
    binary_kept parts.value.0 parts.value.3 parts.value.1 z o (first_or_later parts.value.0 (parts.value.3 ∷ []) z h) k
operand_step (Expr-F.Chain first more) z o h k = chain_kept first.value more.items z o (first_or_later first.value (map (λ x. x.2) more.items) z h) k
operand_step (Expr-F.Member op left set) z o h k = Contains-append_left (expr_kept left.value) _ o (same_kept left.value z o h k)
operand_step (Expr-F.Suffixed inner suffixes) z o h k = Contains-append_left (expr_kept inner.value) _ o (same_kept inner.value z o h k)

-- an expression keeps what its form does
of_form : (x : Expr) (form : Expr-F Expr) (o : Option ℕ) → x ≡ roll-Expr form → Contains (expr_kept_step (map-Expr Expr Kept expr_kept form)) o
    → Contains (expr_kept x) o
of_form x form o is h = subst (λ (k : Kept). Contains k o) (sym (ap expr_kept is ∙ fold-roll-Expr Kept expr_kept_step form)) h

-- what is kept of an operand that a form has is that the form keeps its place
at_operand : (form : Expr-F Expr) (z : Expr) (why : TypeFault) → Contains (operands form) z → fault_place why ≡ expr_place z
    → Contains (expr_kept_step (map-Expr Expr Kept expr_kept form)) (Some (fault_place why))
at_operand form z why h e =
    subst (λ (at : ℕ). Contains (expr_kept_step (map-Expr Expr Kept expr_kept form)) (Some at)) (sym e)
    (operand_step form z (Some (expr_place z)) h (begins_kept z))

chain_fault : (vs : List DeclView) (first : Box Expr Global) (more : Vec (ℕ × Op × Expr) Global) (why : TypeFault)
    → (r : IsRefusedOperator vs first.value more.items why)
    → (fault_place why ≡ expr_place r.next.2) ⊎ (fault_place why ≡ expr_place first.value)
    → Contains (expr_kept_step (map-Expr Expr Kept expr_kept (Expr-F.Chain first more))) (Some (fault_place why))
chain_fault vs first more why r (inl right) =
    at_operand (Expr-F.Chain first more) r.next.2 why
    (contains_later first.value (map (λ x. x.2) more.items) r.next.2 (contains_map (λ x. x.2) more.items r.next (contains_got more.items r.index r.next r.is))) right
chain_fault vs first more why r (inr left) = at_operand (Expr-F.Chain first more) first.value why (contains_first first.value (map (λ x. x.2) more.items)) left

along : {a b x y : ℕ} → a ≡ b → (b ≡ x) ⊎ (b ≡ y) → (a ≡ x) ⊎ (a ≡ y)
along e (inl f) = inl (e ∙ f)
along e (inr f) = inr (e ∙ f)

-- an operator that does not take its two operands is blamed at one of them
binary_fault : (vs : List DeclView) (form : Expr-F Expr) (y : Expr × ℕ × Op × Expr) (why : TypeFault) → operands form ≡ y.0 ∷ y.3 ∷ []
    → IsRefusedOperator vs y.0 ((y.1, y.2, y.3) ∷ []) why → Contains (expr_kept_step (map-Expr Expr Kept expr_kept form)) (Some (fault_place why))
binary_fault vs form y why are r =
    let place = ap fault_place r.left.is_said in
    let blamed = (operator_blames r.next.1 (record { at = expr_place y.0; kind = r.left.kind })
    (record { at = expr_place r.next.2; kind = r.right })).1 in
    by_case (along place blamed) where
      by_case : (fault_place why ≡ expr_place r.next.2) ⊎ (fault_place why ≡ expr_place y.0)
          → Contains (expr_kept_step (map-Expr Expr Kept expr_kept form)) (Some (fault_place why))
      by_case (inl right) =
          let one : List (ℕ × Op × Expr) = (y.1, y.2, y.3) ∷ [] in
          at_operand form r.next.2 why (subst (λ (xs : List Expr). Contains xs r.next.2) (sym are)
          (contains_later y.0 (map (λ (x : ℕ × Op × Expr). x.2) one) r.next.2
          (contains_map (λ (x : ℕ × Op × Expr). x.2) one r.next (contains_got one r.index r.next r.is)))) right
      by_case (inr left) =
          at_operand form y.0 why (subst (λ (xs : List Expr). Contains xs y.0) (sym are) (contains_first y.0 (y.3 ∷ []))) left

own_step : (vs : List DeclView) (form : Expr-F Expr) (why : TypeFault) → HasOwnFault vs form why
    → Contains (expr_kept_step (map-Expr Expr Kept expr_kept form)) (Some (fault_place why))
own_step vs (Expr-F.Number at n) why h = absurd h
own_step vs (Expr-F.Address at a) why h = absurd h
own_step vs (Expr-F.Prefix at bits) why h = absurd h
own_step vs (Expr-F.Truth at b) why h = absurd h
own_step vs (Expr-F.Name at text) why h =
    subst (λ (w : TypeFault). Contains (Some at ∷ []) (Some (fault_place w))) (sym h.1) (contains_first (Some at) [])
own_step vs (Expr-F.Attribute at a) why h = absurd h
own_step vs (Expr-F.Defined at a) why h = absurd h
own_step vs (Expr-F.AttributePart at a s) why h =
    subst (λ (n : ℕ). Contains (Some at ∷ suffix_kept s) (Some n))
    (sym (ap fault_place h.is_said ∙ (suffix_blames s (record { at = at; kind = h.kind })).1)) (contains_first (Some at) (suffix_kept s))
own_step vs (Expr-F.GroupedBinary at parts) why r = binary_fault vs (Expr-F.GroupedBinary at parts) parts.value why refl r
own_step vs (Expr-F.Group at inner) why h = absurd h
own_step vs (Expr-F.Not at inner) why h =
    at_operand (Expr-F.Not at inner) inner.value why (contains_first inner.value []) (ap fault_place h.is_said)
own_step vs (Expr-F.Binary parts) why r = binary_fault vs (Expr-F.Binary parts) parts.value why refl r
own_step vs (Expr-F.Chain first more) why r =
    let place = ap fault_place r.left.is_said in
    let blamed = (operator_blames r.next.1 (record { at = expr_place first.value; kind = r.left.kind })
    (record { at = expr_place r.next.2; kind = r.right })).1 in
    chain_fault vs first more why r (along place blamed)
own_step vs (Expr-F.Member op left set) why h =
    at_operand (Expr-F.Member op left set) left.value why (contains_first left.value []) (ap fault_place h.is_said)
own_step vs (Expr-F.Suffixed inner suffixes) why r =
    at_operand (Expr-F.Suffixed inner suffixes) inner.value why (contains_first inner.value [])
    (ap fault_place r.left.is_said ∙ (suffix_blames r.suffix (record { at = expr_place inner.value; kind = r.left.kind })).1)

expression_fault : (vs : List DeclView) (x : Expr) (why : TypeFault) → HasFault vs x why → Contains (expr_kept x) (Some (fault_place why))
expression_fault vs x why (HasFault.own form is h) = of_form x form (Some (fault_place why)) is (own_step vs form why h)
expression_fault vs x why (HasFault.of_operand form z is inside h) =
    of_form x form (Some (fault_place why)) is (operand_step form z (Some (fault_place why)) inside (expression_fault vs z why h))

-- ---- commands

-- what one of them keeps, all do
joined_kept : {A : Type 0} (f : A → Kept) (xs : List A) (x : A) (o : Option ℕ) → Contains xs x → Contains (f x) o → Contains (joined (map f xs)) o
joined_kept f [] x o h k = absurd (omega (arith, h.1))
joined_kept {A} f (y ∷ xs) x o (zero, low, is) k = Contains-append_left (f y) _ o (subst (λ (z : A). Contains (f z) o) (sym is) k)
joined_kept f (y ∷ xs) x o (suc i, low, is) k = Contains-append_right (f y) _ o (joined_kept f xs x o (i, omega (arith, low), is) k)

-- a part of a `case` keeps what its commands do
part_command : (p : Label × Vec Command Global) (c : Command) (o : Option ℕ) → Contains p.1.items c → Contains (command_kept c) o
    → Contains (part_kept p) o
part_command p c o h k = Contains-append_right (label_kept p.0) _ o (contains_later None _ o (joined_kept command_kept p.1.items c o h k))

parts_commands : (ps : List (Label × Vec Command Global)) (c : Command) (o : Option ℕ) → Contains (flat_map (λ p. p.1.items) ps) c
    → Contains (command_kept c) o → Contains (joined (map part_kept ps)) o
parts_commands [] c o h k = absurd (omega (arith, h.1))
parts_commands (p ∷ ps) c o h k =
    by_case (λ later. parts_commands ps c o later k) (Contains-append_cases p.1.items (flat_map (λ q. q.1.items) ps) c h) where
      by_case : (Contains (flat_map (λ q. q.1.items) ps) c → Contains (joined (map part_kept ps)) o)
          → Contains p.1.items c ⊎ Contains (flat_map (λ q. q.1.items) ps) c → Contains (part_kept p ++ joined (map part_kept ps)) o
      by_case rest (inl here) = Contains-append_left (part_kept p) _ o (part_command p c o here k)
      by_case rest (inr later) = Contains-append_right (part_kept p) _ o (rest later)

-- a command keeps what its form does
of_layer : (x : Command) (form : Command-F Command) (o : Option ℕ) → x ≡ roll-Command form
    → Contains (command_kept_step (map-Command Command Kept command_kept form)) o → Contains (command_kept x) o
of_layer x form o is h = subst (λ (k : Kept). Contains k o) (sym (ap command_kept is ∙ fold-roll-Command Kept command_kept_step form)) h

case_is : (x : Command) (at : ℕ) (argument : Expr) (parts : Vec (Label × Vec Command Global) Global)
    → x ≡ roll-Command (Command-F.Case at argument parts)
    → command_kept x ≡ Some at ∷ (expr_kept argument ++ None ∷ (joined (map part_kept parts.items) ++ None ∷ []))
case_is x at argument parts is = ap command_kept (is ∙ command.rolls-Case at argument parts) ∙ kept_case at argument parts

-- a command keeps what its expressions do
expression_step : (form : Command-F Command) (z : Expr) (o : Option ℕ) → Contains (expressions form) z → Contains (expr_kept z) o
    → Contains (command_kept_step (map-Command Command Kept command_kept form)) o
expression_step (Command-F.Empty at) z o h k = absurd (omega (arith, h.1))
expression_step (Command-F.Block at body) z o h k = absurd (omega (arith, h.1))
expression_step (Command-F.If at test chosen None) z o h k =
    contains_later (Some at) _ o (Contains-append_left (expr_kept test) _ o (same_kept test z o h k))
expression_step (Command-F.If at test chosen (Some other)) z o h k =
    contains_later (Some at) _ o (Contains-append_left (expr_kept test) _ o (same_kept test z o h k))
expression_step (Command-F.Case at argument parts) z o h k =
    contains_later (Some at) _ o (Contains-append_left (expr_kept argument) _ o (same_kept argument z o h k))
expression_step (Command-F.Assign at target value) z o h k =
    let tail = expr_kept value ++ None ∷ [] in
    contains_later (Some at) (None ∷ tail) o (contains_later None tail o (Contains-append_left (expr_kept value) (None ∷ []) o (same_kept value z o h k)))
expression_step (Command-F.Accept at has_text) z o h k = absurd (omega (arith, h.1))
expression_step (Command-F.Reject at has_text) z o h k = absurd (omega (arith, h.1))

only_command : (c d : Command) (o : Option ℕ) → Contains (c ∷ []) d → Contains (command_kept d) o → Contains (command_kept c) o
only_command c d o h k = subst (λ (x : Command). Contains (command_kept x) o) (sym (contains_only c d h)) k

two_commands : (a b d : Command) (o : Option ℕ) → (a ≡ d) ⊎ Contains (b ∷ []) d → Contains (command_kept d) o
    → Contains (command_kept a ++ None ∷ command_kept b) o
two_commands a b d o (inl is) k = Contains-append_left (command_kept a) _ o (subst (λ (x : Command). Contains (command_kept x) o) (sym is) k)
two_commands a b d o (inr h) k = Contains-append_right (command_kept a) _ o (contains_later None _ o (only_command b d o h k))

-- a command keeps what the commands in it do
command_step : (x : Command) (form : Command-F Command) (c : Command) (o : Option ℕ) → x ≡ roll-Command form → Contains (commands_in form) c
    → Contains (command_kept c) o → Contains (command_kept x) o
command_step x (Command-F.Empty at) c o is h k = absurd (omega (arith, h.1))
command_step x (Command-F.Block at body) c o is h k =
    of_layer x (Command-F.Block at body) o is
    (contains_later (Some at) _ o (Contains-append_left _ _ o (joined_kept command_kept body.items c o h k)))
command_step x (Command-F.If at test chosen None) c o is h k =
    of_layer x (Command-F.If at test chosen None) o is
    (contains_later (Some at) _ o (Contains-append_right (expr_kept test) _ o (contains_later None _ o (only_command chosen.value c o h k))))
command_step x (Command-F.If at test chosen (Some other)) c o is h k =
    of_layer x (Command-F.If at test chosen (Some other)) o is
    (contains_later (Some at) _ o (Contains-append_right (expr_kept test) _ o (contains_later None _ o
    (two_commands chosen.value other.value c o (first_or_later chosen.value (other.value ∷ []) c h) k))))
command_step x (Command-F.Case at argument parts) c o is h k =
    subst (λ (l : Kept). Contains l o) (sym (case_is x at argument parts is))
    (contains_later (Some at) _ o (Contains-append_right (expr_kept argument) _ o (contains_later None _ o
    (Contains-append_left _ _ o (parts_commands parts.items c o h k)))))
command_step x (Command-F.Assign at target value) c o is h k = absurd (omega (arith, h.1))
command_step x (Command-F.Accept at has_text) c o is h k = absurd (omega (arith, h.1))
command_step x (Command-F.Reject at has_text) c o is h k = absurd (omega (arith, h.1))

-- ---- labels

range_begins : (r : SetRange) → Contains (range_kept r) (Some (range_place r))
range_begins (range.One at n) = contains_first (Some at) []
range_begins (range.FromTo at r) = contains_first (Some at) (None ∷ None ∷ [])

-- a label that has a range keeps its place
label_begins : (l : Label) → (label_ranges (view_label l) ≡ [] → ⊥) → Contains (label_kept l) (Some (label_place l))
label_begins (label.Else at) some = contains_first (Some at) []
label_begins (label.Ranges ranges) some = of_ranges ranges.items some where
  of_ranges : (rs : List SetRange) → (map range_of (map view_range rs) ≡ [] → ⊥) → Contains (ranges_kept rs) (Some (first_place rs))
  of_ranges [] some = absurd (some refl)
  of_ranges (r ∷ rs) some = Contains-append_left (range_kept r) _ (Some (range_place r)) (range_begins r)

-- a label that shares a number has one
shared_has : (labels : List (List NumberRange)) (l : List NumberRange) → AreAllApart labels → (AreAllApart (labels ++ l ∷ []) → ⊥) → l ≡ [] → ⊥
shared_has labels l before shared none =
    shared (all_pairs_push AreApart labels l before (λ k d low number here there.
    let P : List NumberRange → Type 0 = HoldsAny number in
    let any : HoldsAny number [] = subst P none there in omega (arith, any.2)))

-- the label that shares a number keeps its place
label_fault : (ps : List (Label × Vec Command Global)) (why : TypeFault) → SharesLabel ps why
    → Contains (joined (map part_kept ps)) (Some (fault_place why))
label_fault ps why r =
    let ranges : Label × Vec Command Global → List NumberRange = λ p. label_ranges (view_label p.0) in
    let low : r.index < length ps = slice_get_within ps r.index r.part r.is in
    let here : r.part ≡ get_or ps r.index r.part = sym (get_or_from_slice_get ps r.index r.part r.part r.is) in
    let next : map ranges (take (r.index + 1) ps) ≡ map ranges (take r.index ps) ++ ranges r.part ∷ [] =
    map_next ranges ps r.index r.part low here in
    let some : ranges r.part ≡ [] → ⊥ =
    shared_has (map ranges (take r.index ps)) (ranges r.part) r.before (λ all. r.shared (subst AreAllApart (sym next) all)) in
    subst (λ (w : TypeFault). Contains (joined (map part_kept ps)) (Some (fault_place w))) (sym r.is_said)
    (joined_kept part_kept ps r.part (Some (label_place r.part.0)) (contains_got ps r.index r.part r.is)
    (Contains-append_left (label_kept r.part.0) _ (Some (label_place r.part.0)) (label_begins r.part.0 some)))

-- ---- faults of commands

at_expression : (form : Command-F Command) (z : Expr) (why : TypeFault) → Contains (expressions form) z → fault_place why ≡ expr_place z
    → Contains (command_kept_step (map-Command Command Kept command_kept form)) (Some (fault_place why))
at_expression form z why h e =
    subst (λ (at : ℕ). Contains (command_kept_step (map-Command Command Kept command_kept form)) (Some at)) (sym e)
    (expression_step form z (Some (expr_place z)) h (begins_kept z))

target_fault : (vs : List DeclView) (at : ℕ) (t : Target) (why : TypeFault) → IsTargetFault vs at t why → fault_place why ≡ at
target_fault vs at (target.Name text) why h = ap fault_place h.1
target_fault vs at target.Net why h = ap fault_place h
target_fault vs at target.RipMetric why h = absurd h

at_first : (at : ℕ) (rest : Kept) (why : TypeFault) → fault_place why ≡ at → Contains (Some at ∷ rest) (Some (fault_place why))
at_first at rest why e = subst (λ (n : ℕ). Contains (Some at ∷ rest) (Some n)) (sym e) (contains_first (Some at) rest)

assign_fault : (vs : List DeclView) (at : ℕ) (t : Target) (value : Expr) (why : TypeFault)
    → IsTargetFault vs at t why ⊎ IsOtherThanTarget vs t value why
    → Contains (command_kept_step (map-Command Command Kept command_kept (Command-F.Assign at t value))) (Some (fault_place why))
assign_fault vs at t value why (inl h) = at_first at (None ∷ (expr_kept value ++ None ∷ [])) why (target_fault vs at t why h)
assign_fault vs at t value why (inr h) =
    at_expression (Command-F.Assign at t value) value why (contains_first value []) (ap fault_place h.2.is_said)

case_fault : (vs : List DeclView) (x : Command) (at : ℕ) (argument : Expr) (parts : Vec (Label × Vec Command Global) Global) (why : TypeFault)
    → x ≡ roll-Command (Command-F.Case at argument parts) → IsOtherKind vs argument_kind argument why ⊎ SharesLabel parts.items why
    → Contains (command_kept x) (Some (fault_place why))
case_fault vs x at argument parts why is (inl h) =
    of_layer x (Command-F.Case at argument parts) (Some (fault_place why)) is
    (at_expression (Command-F.Case at argument parts) argument why (contains_first argument []) (ap fault_place h.is_said))
case_fault vs x at argument parts why is (inr r) =
    subst (λ (l : Kept). Contains l (Some (fault_place why))) (sym (case_is x at argument parts is))
    (contains_later (Some at) _ _ (Contains-append_right (expr_kept argument) _ _ (contains_later None _ _
    (Contains-append_left _ _ _ (label_fault parts.items why r)))))

own_command : (vs : List DeclView) (x : Command) (form : Command-F Command) (why : TypeFault) → x ≡ roll-Command form
    → CommandHasOwnFault vs form why → Contains (command_kept x) (Some (fault_place why))
own_command vs x (Command-F.Empty at) why is h = absurd h
own_command vs x (Command-F.Block at body) why is h = absurd h
own_command vs x (Command-F.If at test chosen other) why is h =
    of_layer x (Command-F.If at test chosen other) (Some (fault_place why)) is
    (at_expression (Command-F.If at test chosen other) test why (contains_first test []) (ap fault_place h.is_said))
own_command vs x (Command-F.Case at argument parts) why is h = case_fault vs x at argument parts why is h
own_command vs x (Command-F.Assign at t value) why is h =
    of_layer x (Command-F.Assign at t value) (Some (fault_place why)) is (assign_fault vs at t value why h)
own_command vs x (Command-F.Accept at has_text) why is h = absurd h
own_command vs x (Command-F.Reject at has_text) why is h = absurd h

command_fault : (vs : List DeclView) (x : Command) (why : TypeFault) → CommandHasFault vs x why
    → Contains (command_kept x) (Some (fault_place why))
command_fault vs x why (CommandHasFault.own form is h) = own_command vs x form why is h
command_fault vs x why (CommandHasFault.of_expression form z is inside h) =
    of_layer x form (Some (fault_place why)) is
    (expression_step form z (Some (fault_place why)) inside (expression_fault vs z why h))
command_fault vs x why (CommandHasFault.of_command form inner is inside h) =
    command_step x form inner (Some (fault_place why)) is inside (command_fault vs inner why h)

-- ---- filters

decl_fault : (ds : List Decl) (i : ℕ) (d : Decl) (why : TypeFault) → slice_get ds i ≡ Some d → fault_place why ≡ d.at
    → Contains (joined (map decl_kept ds)) (Some (fault_place why))
decl_fault ds i d why is place =
    joined_kept decl_kept ds d (Some (fault_place why)) (contains_got ds i d is)
    (contains_later None (Some d.at ∷ None ∷ []) (Some (fault_place why)) (at_first d.at (None ∷ []) why place))

-- a filter keeps the place of its fault
pub place_kept : (filter : Filter) (why : TypeFault) → IsFaultOf filter why → KeepsPlace filter (fault_place why)
place_kept filter why (IsFaultOf.declared_twice r) =
    Contains-append_left _ _ _ (decl_fault (decls_of filter) r.index r.variable why r.is (ap fault_place r.is_said))
place_kept filter why (IsFaultOf.one_too_many r) =
    Contains-append_left _ _ _ (decl_fault (decls_of filter) variable_limit r.0 why r.1 (ap fault_place r.2))
place_kept filter why (IsFaultOf.of_command c inside h) =
    Contains-append_right (joined (map decl_kept (decls_of filter))) _ _
    (joined_kept command_kept (body_of filter) c (Some (fault_place why)) inside (command_fault (map view_decl (decls_of filter)) c why h))
