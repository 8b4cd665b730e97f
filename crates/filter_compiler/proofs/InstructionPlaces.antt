-- The places of instructions, part by part.
use Rattle.std.proofs.Common.{◌≡◌, ℕ, Box, Global, List, Vec, [], ◌∷◌, ◌++◌, length, refl, sym, ap, subst, ◌∙◌}
use Rattle.std.specs.Prelude.{flat_map, replicate}
use Rattle.std.proofs.lemmas.List.Folds.{flat_map-map}
use Rattle.filter_code.specs.declared.instruction.Instr.TheVariants as instr
use Rattle.filter_syntax.specs.declared.tree.expr.Attribute.{Attribute}
use Rattle.filter_syntax.specs.declared.tree.expr.Expr.{Expr}
use Rattle.filter_syntax.specs.declared.tree.expr.Expr.TheFolds.{fold-roll-Expr, ind-Expr, map-Expr}
use Rattle.filter_syntax.specs.declared.tree.expr.Expr.TheOpen.{Expr-F}
use Rattle.filter_syntax.specs.declared.tree.expr.Expr.TheVariants as e
use Rattle.filter_syntax.specs.declared.tree.op.Membership.{Membership}
use Rattle.filter_syntax.specs.declared.tree.op.Op.{Op}
use Rattle.filter_syntax.specs.declared.tree.op.Op.TheVariants as op
use Rattle.filter_syntax.specs.declared.tree.op.Suffix.{Suffix}
use Rattle.filter_syntax.specs.declared.tree.set.Set.{Set}
use Rattle.filter_syntax.specs.Places.{expr_place, expr_place_step}
use Rattle.filter_compiler.specs.InstructionPlaces.{Origins, all_at, expression_places, origins, origins_step, right_places}
use Rattle.filter_compiler.specs.InstructionPlaces.{suffixes_places}
use Rattle.filter_compiler.specs.Translation.{member_code, operator_code}

-- an operator of a chain and its right operand
abbrev pub one_right : ℕ × Op × Expr → List ℕ
one_right x = right_places x.0 x.1 (expression_places x.2)

-- the places of an expression that holds others
pub chain_places : (first : Box Expr Global) (more : Vec (ℕ × Op × Expr) Global)
    → expression_places (e.Chain first more) ≡ expression_places first.value ++ flat_map one_right more.items
chain_places first more =
    ap expression_places (sym (e.rolls-Chain first more))
    ∙ (ap (λ (o : Origins). o.places) (fold-roll-Expr Origins origins_step (Expr-F.Chain first more))
    ∙ ap (λ l. expression_places first.value ++ l)
    (flat_map-map (λ (x : ℕ × Op × Origins). right_places x.0 x.1 x.2.places) (λ (x : ℕ × Op × Expr). (x.0, x.1, origins x.2)) more.items))

pub member_places : (op : Membership) (left : Box Expr Global) (set : Set)
    → expression_places (e.Member op left set) ≡ expression_places left.value ++ all_at set.at (member_code op (instr.Member 0))
member_places op left set =
    ap expression_places (sym (e.rolls-Member op left set))
    ∙ ap (λ (o : Origins). o.places) (fold-roll-Expr Origins origins_step (Expr-F.Member op left set))

-- the place that an expression begins at is the place of its first byte
abbrev BeginsThere : Expr → Type 0
BeginsThere x = (origins x).start ≡ expr_place x

begins_step : (y : Expr-F ((x : Expr) × BeginsThere x))
    → (origins_step (map-Expr Expr Origins origins (map-Expr ((x : Expr) × BeginsThere x) Expr (λ p. p.0) y))).start
    ≡ expr_place_step (map-Expr Expr ℕ expr_place (map-Expr ((x : Expr) × BeginsThere x) Expr (λ p. p.0) y))
begins_step (Expr-F.Number at n) = refl
begins_step (Expr-F.Address at a) = refl
begins_step (Expr-F.Prefix at bits) = refl
begins_step (Expr-F.Truth at b) = refl
begins_step (Expr-F.Name at text) = refl
begins_step (Expr-F.Attribute at a) = refl
begins_step (Expr-F.Defined at a) = refl
begins_step (Expr-F.AttributePart at a s) = refl
begins_step (Expr-F.GroupedBinary at parts) = refl
begins_step (Expr-F.Group at inner) = refl
begins_step (Expr-F.Not at inner) = refl
begins_step (Expr-F.Binary parts) = parts.value.0.1
begins_step (Expr-F.Chain first more) = first.value.1
begins_step (Expr-F.Member op left set) = left.value.1
begins_step (Expr-F.Suffixed inner suffixes) = inner.value.1

pub begins_there : (x : Expr) → BeginsThere x
begins_there = ind-Expr BeginsThere (λ x y is.
    ap (λ (o : Origins). o.start) (fold-roll-Expr Origins origins_step x)
    ∙ (subst (λ z. (origins_step (map-Expr Expr Origins origins z)).start ≡ expr_place_step (map-Expr Expr ℕ expr_place z)) is (begins_step y)
    ∙ sym (fold-roll-Expr ℕ expr_place_step x)))

pub suffixed_places : (inner : Box Expr Global) (suffixes : Vec Suffix Global)
    → expression_places (e.Suffixed inner suffixes)
    ≡ expression_places inner.value ++ replicate (length suffixes.items) (expr_place inner.value)
suffixed_places inner suffixes =
    ap expression_places (sym (e.rolls-Suffixed inner suffixes))
    ∙ (ap (λ (o : Origins). o.places) (fold-roll-Expr Origins origins_step (Expr-F.Suffixed inner suffixes))
    ∙ ap (λ at. expression_places inner.value ++ replicate (length suffixes.items) at) (begins_there inner.value))

-- the parts of an expression that were walked
pub chain_at : (x : Expr) (first : Box Expr Global) (more : Vec (ℕ × Op × Expr) Global) (y : Expr) (ys : List (ℕ × Op × Expr))
    → x ≡ e.Chain first more → y ≡ first.value → ys ≡ more.items
    → expression_places x ≡ expression_places y ++ flat_map one_right ys
chain_at x first more y ys is is_first is_more =
    ap expression_places is ∙ (chain_places first more
    ∙ (ap (λ z. expression_places z ++ flat_map one_right more.items) (sym is_first)
    ∙ ap (λ zs. expression_places y ++ flat_map one_right zs) (sym is_more)))

pub binary_at : (x : Expr) (parts : Box (Expr × ℕ × Op × Expr) Global) (y : Expr × ℕ × Op × Expr) → x ≡ e.Binary parts → y ≡ parts.value
    → expression_places x ≡ expression_places y.0 ++ right_places y.1 y.2 (expression_places y.3)
binary_at x parts y is are =
    ap expression_places (is ∙ sym (e.rolls-Binary parts))
    ∙ (ap (λ (o : Origins). o.places) (fold-roll-Expr Origins origins_step (Expr-F.Binary parts))
    ∙ ap (λ (z : Expr × ℕ × Op × Expr). expression_places z.0 ++ right_places z.1 z.2 (expression_places z.3)) (sym are))

pub part_at : (x : Expr) (at : ℕ) (a : Attribute) (s : Suffix) → x ≡ e.AttributePart at a s → expression_places x ≡ at ∷ at ∷ []
part_at x at a s is =
    ap expression_places (is ∙ sym (e.rolls-AttributePart at a s))
    ∙ ap (λ (o : Origins). o.places) (fold-roll-Expr Origins origins_step (Expr-F.AttributePart at a s))

pub grouped_at : (x : Expr) (at : ℕ) (parts : Box (Expr × ℕ × Op × Expr) Global) (y : Expr × ℕ × Op × Expr) → x ≡ e.GroupedBinary at parts
    → y ≡ parts.value → expression_places x ≡ expression_places y.0 ++ right_places y.1 y.2 (expression_places y.3)
grouped_at x at parts y is are =
    ap expression_places (is ∙ sym (e.rolls-GroupedBinary at parts))
    ∙ (ap (λ (o : Origins). o.places) (fold-roll-Expr Origins origins_step (Expr-F.GroupedBinary at parts))
    ∙ ap (λ (z : Expr × ℕ × Op × Expr). expression_places z.0 ++ right_places z.1 z.2 (expression_places z.3)) (sym are))

pub not_at : (x : Expr) (at : ℕ) (inner : Box Expr Global) (y : Expr) → x ≡ e.Not at inner → y ≡ inner.value
    → expression_places x ≡ expression_places y ++ at ∷ []
not_at x at inner y is is_inner =
    ap expression_places (is ∙ sym (e.rolls-Not at inner))
    ∙ (ap (λ (o : Origins). o.places) (fold-roll-Expr Origins origins_step (Expr-F.Not at inner))
    ∙ ap (λ z. expression_places z ++ at ∷ []) (sym is_inner))

pub member_at : (x : Expr) (op : Membership) (left : Box Expr Global) (set : Set) (y : Expr) → x ≡ e.Member op left set
    → y ≡ left.value → expression_places x ≡ expression_places y ++ all_at set.at (member_code op (instr.Member 0))
member_at x op left set y is is_left =
    ap expression_places is ∙ (member_places op left set ∙ ap (λ z. expression_places z ++ all_at set.at (member_code op (instr.Member 0))) (sym is_left))

pub suffixed_at : (x : Expr) (inner : Box Expr Global) (suffixes : Vec Suffix Global) (y : Expr) (ys : List Suffix)
    → x ≡ e.Suffixed inner suffixes → y ≡ inner.value → ys ≡ suffixes.items
    → expression_places x ≡ expression_places y ++ suffixes_places (expr_place y) ys
suffixed_at x inner suffixes y ys is is_inner are =
    ap expression_places is ∙ (suffixed_places inner suffixes
    ∙ (ap (λ z. expression_places z ++ suffixes_places (expr_place z) suffixes.items) (sym is_inner)
    ∙ ap (λ zs. expression_places y ++ suffixes_places (expr_place y) zs) (sym are)))

-- the instructions of an operator that takes both operands are at the operator
pub places_of_both : (at : ℕ) (is : Op) (right : List ℕ) → (is ≡ op.And → ⊥) → (is ≡ op.Or → ⊥)
    → right ++ all_at at (operator_code is) ≡ right_places at is right
places_of_both at op.And right not_and not_or = absurd (not_and refl)
places_of_both at op.Or right not_and not_or = absurd (not_or refl)
places_of_both at _ right not_and not_or = refl
