-- The code of an expression puts its value on the stack.
use Rattle.std.proofs.Common.{◌≡◌, ℕ, suc, ◌+◌, ◌<◌, ◌≤◌, max, ◌⊎◌, inl, inr, true, false, List, [], ◌∷◌, ◌++◌, length, map, Option, Some}
use Rattle.std.proofs.Common.{None, refl, sym, subst, arith, length-append}
use Rattle.std.specs.Prelude.{nat_lt, option_and_then, slice_get}
use Rattle.std.proofs.lemmas.Bool.Decides.{nat_tests}
use Rattle.std.proofs.lemmas.Option.{slice_get_within}
use Rattle.filter_code.specs.declared.instruction.Instr.{Instr}
use Rattle.filter_code.specs.declared.instruction.Instr.TheVariants as instr
use Rattle.filter_code.specs.declared.value.Value.{Value}
use Rattle.filter_code.specs.declared.value.Value.TheVariants as value
use Rattle.filter_code.specs.RouteView.{RouteView}
use Rattle.filter_code.specs.Machine.{Going, unless_full, carry_out}
use Rattle.filter_code.specs.CodeView.{CodeView}
use Rattle.filter_syntax.specs.declared.tree.decl.Kind.{Kind}
use Rattle.filter_syntax.specs.declared.tree.decl.Kind.TheVariants as kind
use Rattle.filter_syntax.specs.declared.tree.expr.Attribute.{Attribute}
use Rattle.filter_syntax.specs.declared.tree.expr.Attribute.TheVariants as attributes
use Rattle.int_sets.specs.Holding.{holds_any}
use Rattle.filter_syntax.specs.declared.tree.op.Membership.TheVariants as membership
use Rattle.filter_syntax.specs.declared.tree.op.Op.{Op}
use Rattle.filter_syntax.specs.declared.tree.op.Op.TheVariants as o
use Rattle.filter_syntax.specs.Syntax.{ExprView, number, address, prefix, truth, name, attribute, defined, group, negation, binary, member}
use Rattle.filter_syntax.specs.Syntax.{suffixed, RangeView, of_ranges, range_of}
use Rattle.filter_syntax.specs.SyntaxCommands.{DeclView}
use Rattle.filter_types.specs.Kinds.{kind_in, of_one, of_two, number_of}
use Rattle.filter_types.specs.Table.{operator, logic, attribute_kind, in_set, suffixed_by}
use Rattle.filter_types.specs.Table as table
use Rattle.filter_compiler.specs.Meaning.{Scene, value_of, both, result_of, if_true, if_false, negated, member_of, suffix_of, value_named}
use Rattle.filter_compiler.specs.Need.{expression_need}
use Rattle.filter_compiler.specs.Translation.{expression_code, sets_of, operator_code, and_code, or_code}
use Rattle.filter_compiler.specs.Translation.{member_code, one_set, question, ranges_set, suffix_code}
use Rattle.filter_compiler.specs.Translation.{attribute_code}
use Rattle.filter_compiler.proofs.Operators.{TakesBoth, Gives, operator_runs, negation_runs, suffix_runs, member_runs}
use Rattle.filter_compiler.proofs.Parts.{HasAt, HasSets, has_front, has_back, sets_front, sets_back}
use Rattle.filter_compiler.specs.SetOrder.{SetCounts, past, with_sets}
use Rattle.filter_compiler.proofs.Scenes.{HaveKinds, IsHeld, held, kind_of_value, locals_of}
use Rattle.filter_compiler.proofs.Steps.{Stands, Fills, config_in, fills_more, same_place, pushed, put, jumped, not_jumped, jumped_if_not}

-- an instruction that puts a value of a kind on the stack
module _ (program : CodeView) (route : RouteView) (scene : Scene) where
  -- the run comes to the end of the code with the value, or has ended
  abbrev pub Comes : ℕ → List Value → Kind → ℕ → Option Value → Type 0
  Comes pc stack k depth o = Gives program route scene pc stack k o ⊎ Fills program route depth

  from_push : (pc : ℕ) (stack : List Value) (k : Kind) (v : Value) → kind_of_value v ≡ k
      → Stands program route scene (pc + 1) (v ∷ stack) ⊎ Fills program route (length stack + 1)
      → Comes (pc + 1) stack k (length stack + 1) (Some v)
  from_push pc stack k v is (inl s) = inl (s, is)
  from_push pc stack k v is (inr f) = inr f

  -- an instruction that takes no operand
  push_runs : (pc : ℕ) (stack : List Value) (i : Instr) (k : Kind) (v : Value) → kind_of_value v ≡ k
      → slice_get program.instrs pc ≡ Some i
      → carry_out program route (config_in program route scene pc stack) (Some i) ≡ unless_full (nat_lt 32 (suc (length stack))) pc
      (Going (config_in program route scene (pc + 1) (v ∷ stack))) → Stands program route scene pc stack
      → Comes (pc + 1) stack k (length stack + 1) (Some v)
  push_runs pc stack i k v is here e s = from_push pc stack k v is (pushed program route scene pc stack i v here e s)

  attribute_runs : (a : Attribute) (pc : ℕ) (stack : List Value) (k : Kind) (sets : SetCounts) (decls : List DeclView)
      → Some (attribute_kind a) ≡ Some k → HasAt program.instrs pc (attribute_code a ∷ []) → Stands program route scene pc stack
      → Comes (pc + 1) stack k (length stack + 1) (value_of route scene (attribute a))
  attribute_runs attributes.Net pc stack k sets decls fits has s = push_runs pc stack instr.Net k (value.Net route.net) (cc) has.0 refl s
  attribute_runs attributes.RipMetric pc stack k sets decls fits has s =
      push_runs pc stack instr.Metric k (value.Int scene.metric) (cc) has.0 refl s

  -- LOAD of a variable
  load_step : (pc : ℕ) (stack : List Value) (i : ℕ) (v : Value) → slice_get (locals_of scene.variables) i ≡ Some (Some v)
      → carry_out program route (config_in program route scene pc stack) (Some (instr.Load i)) ≡ unless_full
      (nat_lt 32 (suc (length stack))) pc (Going (config_in program route scene (pc + 1) (v ∷ stack)))
  load_step pc stack i v found =
      let within : i < length (locals_of scene.variables) = slice_get_within (locals_of scene.variables) i (Some v) found in
      let test : nat_lt i (length (locals_of scene.variables)) ≡ true = grind (arith, nat_tests) in
      rw (test, found) refl

  name_runs : (decls : List DeclView) (text : List ℕ) (pc : ℕ) (stack : List Value) (k : Kind) → IsHeld decls scene.variables text k
      → HasAt program.instrs pc (instr.Load (number_of decls text) ∷ []) → Stands program route scene pc stack
      → Comes (pc + 1) stack k (length stack + 1) (value_named scene.variables text)
  name_runs decls text pc stack k h has s =
      subst (Comes (pc + 1) stack k (length stack + 1)) (sym h.named)
      (push_runs pc stack (instr.Load (number_of decls text)) k h.value h.kind has.0 (load_step pc stack
      (number_of decls text) h.value h.in_local) s)

  -- a deeper stack
  comes_deeper : (pc : ℕ) (stack : List Value) (k : Kind) (depth more : ℕ) (o : Option Value) → depth ≤ more → Comes pc stack k depth o
      → Comes pc stack k more o
  comes_deeper pc stack k depth more o le (inl g) = inl g
  comes_deeper pc stack k depth more o le (inr f) = inr (fills_more program route depth more le f)

  -- what follows an operand, where it has a value
  follow : (pc pc' : ℕ) (stack stack' : List Value) (k k' : Kind) (f : Value → Option Value) (o : Option Value)
      → ((v : Value) → kind_of_value v ≡ k → Stands program route scene pc (v ∷ stack) → Gives program route scene pc' stack' k' (f v))
      → Gives program route scene pc stack k o → Gives program route scene pc' stack' k' (option_and_then f o)
  follow pc pc' stack stack' k k' f None then g = g
  follow pc pc' stack stack' k k' f (Some v) then g = then v g.1 g.0

  -- a form of one operand
  one_runs : (pc pc' : ℕ) (stack : List Value) (row : Kind → Option Kind) (ki : Option Kind) (k : Kind) (depth : ℕ)
      (f : Value → Option Value) (o : Option Value) → of_one row ki ≡ Some k → ((j : Kind) → ki ≡ Some j → Comes pc stack j depth o)
      → ((v : Value) → row (kind_of_value v) ≡ Some k → Stands program route scene pc (v ∷ stack) → Gives program route scene pc' stack k
      (f v)) → Comes pc' stack k depth (option_and_then f o)
  one_runs pc pc' stack row None k depth f o fits inner then = cc
  one_runs pc pc' stack row (Some j) k depth f o fits inner then =
      elim (inner j refl) [
        | inl g ↦ inl (follow pc pc' stack stack j k f o (λ v is s. then v (subst (λ x. row x ≡ Some k) (sym is) fits) s) g)
        | inr full ↦ inr full
      ]

  -- two operands and an operator that takes both
  both_from : (pc1 pc2 pc3 : ℕ) (stack : List Value) (ja jb k : Kind) (depth : ℕ) (f : Value → Value → Option Value) (a b : Option Value)
      → Comes pc1 stack ja depth a → ((v : Value) → Stands program route scene pc1 (v ∷ stack) → Comes pc2 (v ∷ stack) jb depth b)
      → ((x y : Value) → kind_of_value x ≡ ja → kind_of_value y ≡ jb → Stands program route scene pc2
      (y ∷ x ∷ stack) → Gives program route scene pc3 stack k (f x y)) → Comes pc3 stack k depth (both f a b)
  both_from pc1 pc2 pc3 stack ja jb k depth f None b (inl g) right then = inl g
  both_from pc1 pc2 pc3 stack ja jb k depth f (Some x) None (inl g) right then = right x g.0
  both_from pc1 pc2 pc3 stack ja jb k depth f (Some x) (Some y) (inl g) right then =
      elim (right x g.0) [ inl h ↦ inl (then x y g.1 h.1 h.0) | inr full ↦ inr full ]
  both_from pc1 pc2 pc3 stack ja jb k depth f a b (inr full) right then = inr full

  -- the value of `&&` and of `||` is where the right side's is
  moved : (pc pc' : ℕ) (stack : List Value) (k : Kind) (o : Option Value)
      → ((v : Value) → Stands program route scene pc (v ∷ stack) → Stands program route scene pc' (v ∷ stack))
      → Gives program route scene pc stack k o → Gives program route scene pc' stack k o
  moved pc pc' stack k None go g = g
  moved pc pc' stack k (Some v) go g = (go v g.0, g.1)

  comes_to : (pc pc' : ℕ) (stack : List Value) (k : Kind) (depth : ℕ) (o : Option Value)
      → ((v : Value) → Stands program route scene pc (v ∷ stack) → Stands program route scene pc' (v ∷ stack)) → Comes pc stack k depth o
      → Comes pc' stack k depth o
  comes_to pc pc' stack k depth o go (inl g) = inl (moved pc pc' stack k o go g)
  comes_to pc pc' stack k depth o go (inr full) = inr full

  -- `&&`, where the left side has a truth value
  and_from : (pc1 pc2 : ℕ) (stack : List Value) (depth : ℕ) (a b : Option Value) → Comes pc1 stack kind.Bool depth a
      → (Stands program route scene pc1 (value.Bool true ∷ stack) → Comes pc2 stack kind.Bool depth b)
      → (Stands program route scene pc1 (value.Bool false ∷ stack) → Stands program route scene pc2 (value.Bool false ∷ stack))
      → Comes pc2 stack kind.Bool depth (if_true a b)
  and_from pc1 pc2 stack depth None b (inl g) on_true on_false = inl g
  and_from pc1 pc2 stack depth (Some (value.Bool true)) b (inl g) on_true on_false = on_true g.0
  and_from pc1 pc2 stack depth (Some (value.Bool false)) b (inl g) on_true on_false = inl (on_false g.0, refl)
  and_from pc1 pc2 stack depth (Some _) b (inl g) on_true on_false = absurd (let e = g.1 in cc)
  and_from pc1 pc2 stack depth a b (inr full) on_true on_false = inr full

  -- `||`
  or_from : (pc1 pc2 : ℕ) (stack : List Value) (depth : ℕ) (a b : Option Value) → Comes pc1 stack kind.Bool depth a
      → (Stands program route scene pc1 (value.Bool false ∷ stack) → Comes pc2 stack kind.Bool depth b)
      → (Stands program route scene pc1 (value.Bool true ∷ stack) → Stands program route scene pc2 (value.Bool true ∷ stack))
      → Comes pc2 stack kind.Bool depth (if_false a b)
  or_from pc1 pc2 stack depth None b (inl g) on_false on_true = inl g
  or_from pc1 pc2 stack depth (Some (value.Bool false)) b (inl g) on_false on_true = on_false g.0
  or_from pc1 pc2 stack depth (Some (value.Bool true)) b (inl g) on_false on_true = inl (on_true g.0, refl)
  or_from pc1 pc2 stack depth (Some _) b (inl g) on_false on_true = absurd (let e = g.1 in cc)
  or_from pc1 pc2 stack depth a b (inr full) on_false on_true = inr full

  comes_at : (pc pc' : ℕ) (stack : List Value) (k : Kind) (depth : ℕ) (o : Option Value) → pc ≡ pc' → Comes pc stack k depth o
      → Comes pc' stack k depth o
  comes_at pc pc' stack k depth o e c = subst (λ n. Comes n stack k depth o) e c

  -- the code of `&&`, between the codes of its sides
  and_runs : (left right : List Instr) (pc : ℕ) (stack : List Value) (depth : ℕ) (a b : Option Value)
      → HasAt program.instrs pc (and_code left right) → Comes (pc + length left) stack kind.Bool depth a
      → (Stands program route scene (pc + length left + 1) stack → Comes (pc + length left + 1 + length right) stack kind.Bool depth b)
      → Comes (pc + length (and_code left right)) stack kind.Bool depth (if_true a b)
  and_runs left right pc stack depth a b has first second =
      let tail = right ++ instr.Jump 1 ∷ instr.Bool false ∷ [] in
      let pc1 = pc + length left in
      let pc3 = pc1 + 1 + length right in
      let h1 = has_back program.instrs pc left (instr.JumpIfNot (length right + 1) ∷ tail) has in
      let h3 = has_back program.instrs (pc1 + 1) right (instr.Jump 1 ∷ instr.Bool false ∷ []) h1.1 in
      let l1 = length-append left (instr.JumpIfNot (length right + 1) ∷ tail) in
      let l2 = length-append right (instr.Jump 1 ∷ instr.Bool false ∷ []) in
      let over : pc3 + (1 + 1) ≡ pc + length (and_code left right) = omega (arith, l1, l2) in
      let to_false : pc1 + (1 + (length right + 1)) ≡ pc3 + 1 = omega arith in
      let behind : pc3 + 1 + 1 ≡ pc + length (and_code left right) = omega (arith, l1, l2) in
      and_from pc1 (pc + length (and_code left right)) stack depth a b first
      (λ s. comes_to pc3 _ stack kind.Bool depth b (λ v t. same_place program route scene (pc3 + (1 + 1)) _ (v ∷ stack) over
      (jumped program route scene pc3 1 (v ∷ stack) h3.0 t)) (second (not_jumped program route scene pc1 (length right + 1) stack h1.0 s)))
      (λ s.
      let room : suc (length stack) ≤ 32 = s.room in
      let t = same_place program route scene _ (pc3 + 1) stack to_false (jumped_if_not program route scene pc1
      (length right + 1) stack h1.0 s) in
      same_place program route scene (pc3 + 1 + 1) _ (value.Bool false ∷ stack) behind (put program route scene (pc3 + 1) stack stack
      (instr.Bool false) (value.Bool false) h3.1.0 room refl t))

  -- the code of `||`
  or_runs : (left right : List Instr) (pc : ℕ) (stack : List Value) (depth : ℕ) (a b : Option Value)
      → HasAt program.instrs pc (or_code left right) → Comes (pc + length left) stack kind.Bool depth a
      → (Stands program route scene (pc + length left + 1 + 1 + 1) stack → Comes
      (pc + length left + 1 + 1 + 1 + length right) stack kind.Bool depth b) → Comes (pc + length
      (or_code left right)) stack kind.Bool depth (if_false a b)
  or_runs left right pc stack depth a b has first second =
      let pc1 = pc + length left in
      let h1 = has_back program.instrs pc left (instr.JumpIfNot 2 ∷ instr.Bool true ∷ instr.Jump (length right) ∷ right) has in
      let l1 = length-append left (instr.JumpIfNot 2 ∷ instr.Bool true ∷ instr.Jump (length right) ∷ right) in
      let to_right : pc1 + (1 + 2) ≡ pc1 + 1 + 1 + 1 = omega arith in
      let behind : pc1 + 1 + 1 + 1 + length right ≡ pc + length (or_code left right) = omega (arith, l1) in
      let over : pc1 + 1 + 1 + (1 + length right) ≡ pc + length (or_code left right) = omega (arith, l1) in
      or_from pc1 (pc + length (or_code left right)) stack depth a b first
      (λ s. comes_at _ _ stack kind.Bool depth b behind (second (same_place program route scene _ (pc1 + 1 + 1 + 1) stack to_right
      (jumped_if_not program route scene pc1 2 stack h1.0 s))))
      (λ s.
      let room : suc (length stack) ≤ 32 = s.room in
      let t = put program route scene (pc1 + 1) stack stack (instr.Bool true) (value.Bool true) h1.1.0 room refl
      (not_jumped program route scene pc1 2 stack h1.0 s) in
      same_place program route scene (pc1 + 1 + 1 + (1 + length right)) _ (value.Bool true ∷ stack) over (jumped program route scene
      (pc1 + 1 + 1) (length right) (value.Bool true ∷ stack) h1.1.1.0 t))

-- the kinds of two operands that fit
record BothFit (row : Kind → Kind → Option Kind) (a b : Option Kind) (k : Kind) : Type 0 where
  left : Kind
  right : Kind
  is_left : a ≡ Some left
  is_right : b ≡ Some right
  fits : row left right ≡ Some k

both_fit : (row : Kind → Kind → Option Kind) (a b : Option Kind) (k : Kind) → of_two row a b ≡ Some k → BothFit row a b k
both_fit row None b k e = cc
both_fit row (Some x) None k e = cc
both_fit row (Some x) (Some y) k e = record { left = x; right = y; is_left = refl; is_right = refl; fits = e }

record AreBools (a b : Option Kind) (k : Kind) : Type 0 where
  left : a ≡ Some kind.Bool
  right : b ≡ Some kind.Bool
  is : kind.Bool ≡ k

bools : (a b k : Kind) → logic a b ≡ Some k → AreBools (Some a) (Some b) k
bools kind.Bool kind.Bool k e = record { left = refl; right = refl; is = cc }
bools _ _ k e = cc

are_bools : (a b : Option Kind) (k : Kind) → of_two logic a b ≡ Some k → AreBools a b k
are_bools None b k e = cc
are_bools (Some x) None k e = cc
are_bools (Some x) (Some y) k e = bools x y k e

module _ (program : CodeView) (route : RouteView) (decls : List DeclView) (scene : Scene) (have : HaveKinds decls scene.variables) where
  -- the code of two operands and an operator that takes both
  strict_runs : (op : Op) (left right : List Instr) (ka kb : Option Kind) (pc : ℕ) (stack : List Value) (k : Kind) (need_a need_b : ℕ)
      (a b : Option Value) → TakesBoth op → of_two (operator op) ka kb ≡ Some k
      → HasAt program.instrs pc (left ++ (right ++ operator_code op))
      → ((j : Kind) → ka ≡ Some j → Comes program route scene (pc + length left) stack j (length stack + need_a) a)
      → ((j : Kind) (v : Value) → kb ≡ Some j → Stands program route scene (pc + length left) (v ∷ stack) → Comes program route scene
      (pc + length left + length right) (v ∷ stack) j (suc (length stack) + need_b) b) → Comes program route scene (pc + length (left ++
      (right ++ operator_code op))) stack k (length stack + max need_a (need_b + 1)) (both (result_of op) a b)
  strict_runs op left right ka kb pc stack k need_a need_b a b takes fits has first second =
      let f = both_fit (operator op) ka kb k fits in
      let pc1 = pc + length left in
      let pc2 = pc1 + length right in
      let all = length stack + max need_a (need_b + 1) in
      let h1 = has_back program.instrs pc left (right ++ operator_code op) has in
      let h2 = has_back program.instrs pc1 right (operator_code op) h1 in
      let behind : pc2 + length (operator_code op) ≡ pc + length (left ++ (right ++ operator_code op)) =
      omega (arith, length-append left (right ++ operator_code op), length-append right (operator_code op)) in
      let c1 = comes_deeper program route scene pc1 stack f.left (length stack + need_a) all a (omega arith) (first f.left f.is_left) in
      comes_at program route scene _ _ stack k all _ behind
      (both_from program route scene pc1 pc2 (pc2 + length (operator_code op)) stack f.left f.right k all (result_of op) a b c1
      (λ v s. comes_deeper program route scene pc2 (v ∷ stack) f.right (suc (length stack) + need_b) all b (omega arith)
      (second f.right v f.is_right s))
      (λ x y is_x is_y s. operator_runs program route scene op pc2 stack x y k takes (subst (λ j. operator op j
      (kind_of_value y) ≡ Some k) (sym is_x) (subst (λ j. operator op f.left j ≡ Some k) (sym is_y) f.fits)) h2 s))

  -- an expression's code puts its value on the stack
  pub expression_runs : (t : ExprView) (sets : SetCounts) (pc : ℕ) (stack : List Value) (k : Kind) → kind_in decls t ≡ Some k
      → HasAt program.instrs pc (expression_code decls sets t) → HasSets program sets (sets_of t)
      → Stands program route scene pc stack
      → Comes program route scene (pc + length (expression_code decls sets t)) stack k (length stack + expression_need t)
      (value_of route scene t)
  expression_runs (number n) sets pc stack k fits has has_sets s =
      push_runs program route scene pc stack (instr.Int n) k (value.Int n) (cc) has.0 refl s
  expression_runs (address a) sets pc stack k fits has has_sets s =
      push_runs program route scene pc stack (instr.Ip (record { 0 = a })) k (value.Addr (record { 0 = a })) (cc) has.0 refl s
  expression_runs (prefix bits) sets pc stack k fits has has_sets s =
      push_runs program route scene pc stack (instr.Prefix bits) k (value.Net bits) (cc) has.0 refl s
  expression_runs (truth b) sets pc stack k fits has has_sets s =
      push_runs program route scene pc stack (instr.Bool b) k (value.Bool b) (cc) has.0 refl s
  expression_runs (name text) sets pc stack k fits has has_sets s =
      name_runs program route scene decls text pc stack k (held decls scene.variables text k have fits) has s
  expression_runs (attribute a) sets pc stack k fits has has_sets s = attribute_runs program route scene a pc stack k sets decls fits has s
  expression_runs (defined a) sets pc stack k fits has has_sets s =
      push_runs program route scene pc stack (instr.Bool true) k (value.Bool true) (cc) has.0 refl s
  expression_runs (group inner) sets pc stack k fits has has_sets s = expression_runs inner sets pc stack k fits has has_sets s
  expression_runs (negation inner) sets pc stack k fits has has_sets s =
      let c = expression_code decls sets inner in
      let pc1 = pc + length c in
      let behind : pc1 + 1 ≡ pc + length (c ++ instr.Not ∷ []) = omega (arith, length-append c (instr.Not ∷ [])) in
      let h = has_back program.instrs pc c (instr.Not ∷ []) has in
      comes_at program route scene _ _ stack k _ _ behind
      (one_runs program route scene pc1 (pc1 + 1) stack table.negated (kind_in decls inner) k
      (length stack + expression_need inner) negated (value_of route scene inner) fits
      (λ j is. expression_runs inner sets pc stack j is (has_front program.instrs pc c (instr.Not ∷ []) has) has_sets s)
      (λ v is t. negation_runs program route scene pc1 stack v k is h t))
  expression_runs (binary o.And left right) sets pc stack k fits has has_sets s =
      let sets' = past sets (sets_of left) in
      let l = expression_code decls sets left in
      let r = expression_code decls sets' right in
      let tail = r ++ instr.Jump 1 ∷ instr.Bool false ∷ [] in
      let f = are_bools (kind_in decls left) (kind_in decls right) k fits in
      let all = length stack + max (expression_need left) (expression_need right) in
      let h1 = has_back program.instrs pc l (instr.JumpIfNot (length r + 1) ∷ tail) has in
      subst (λ j. Comes program route scene (pc + length (and_code l r)) stack j all (if_true (value_of route scene left)
      (value_of route scene right))) f.is
      (and_runs program route scene l r pc stack all (value_of route scene left) (value_of route scene right) has
      (comes_deeper program route scene _ stack kind.Bool (length stack + expression_need left) all _ (omega arith)
      (expression_runs left sets pc stack kind.Bool f.left (has_front program.instrs pc l (instr.JumpIfNot (length r + 1) ∷ tail) has)
      (sets_front program sets (sets_of left) (sets_of right) has_sets) s))
      (λ t. comes_deeper program route scene _ stack kind.Bool (length stack + expression_need right) all _ (omega arith)
      (expression_runs right sets' (pc + length l + 1) stack kind.Bool f.right (has_front program.instrs _ r
      (instr.Jump 1 ∷ instr.Bool false ∷ []) h1.1) (sets_back program sets (sets_of left) (sets_of right) has_sets) t)))
  expression_runs (binary o.Or left right) sets pc stack k fits has has_sets s =
      let sets' = past sets (sets_of left) in
      let l = expression_code decls sets left in
      let r = expression_code decls sets' right in
      let tail = instr.Bool true ∷ instr.Jump (length r) ∷ r in
      let f = are_bools (kind_in decls left) (kind_in decls right) k fits in
      let all = length stack + max (expression_need left) (expression_need right) in
      let h1 = has_back program.instrs pc l (instr.JumpIfNot 2 ∷ tail) has in
      subst (λ j. Comes program route scene (pc + length (or_code l r)) stack j all (if_false (value_of route scene left)
      (value_of route scene right))) f.is
      (or_runs program route scene l r pc stack all (value_of route scene left) (value_of route scene right) has
      (comes_deeper program route scene _ stack kind.Bool (length stack + expression_need left) all _ (omega arith)
      (expression_runs left sets pc stack kind.Bool f.left (has_front program.instrs pc l (instr.JumpIfNot 2 ∷ tail) has)
      (sets_front program sets (sets_of left) (sets_of right) has_sets) s))
      (λ t. comes_deeper program route scene _ stack kind.Bool (length stack + expression_need right) all _ (omega arith)
      (expression_runs right sets' (pc + length l + 1 + 1 + 1) stack kind.Bool f.right h1.1.1.1 (sets_back program sets (sets_of left)
      (sets_of right) has_sets) t)))
  expression_runs (binary op left right) sets pc stack k fits has has_sets s =
      let sets' = past sets (sets_of left) in
      let l = expression_code decls sets left in
      let r = expression_code decls sets' right in
      let h1 = has_back program.instrs pc l (r ++ operator_code op) has in
      strict_runs op l r (kind_in decls left) (kind_in decls right) pc stack k (expression_need left) (expression_need right)
      (value_of route scene left) (value_of route scene right) tt fits has
      (λ j is. expression_runs left sets pc stack j is (has_front program.instrs pc l (r ++ operator_code op) has)
      (sets_front program sets (sets_of left) (sets_of right) has_sets) s)
      (λ j v is t. expression_runs right sets' (pc + length l) (v ∷ stack) j is (has_front program.instrs (pc + length l) r
      (operator_code op) h1) (sets_back program sets (sets_of left) (sets_of right) has_sets) t)
  expression_runs (member op left set) sets pc stack k fits has has_sets s =
      let n = past sets (sets_of left) in
      let c = expression_code decls sets left in
      let pc1 = pc + length c in
      let last = member_code op (question set n) in
      let behind : pc1 + length last ≡ pc + length (c ++ last) = omega (arith, length-append c last) in
      let h = has_back program.instrs pc c last has in
      let found = sets_back program sets (sets_of left) (one_set set) has_sets in
      comes_at program route scene _ _ stack k _ _ behind
      (one_runs program route scene pc1 (pc1 + length last) stack (in_set set) (kind_in decls left) k (length stack + expression_need left)
      (member_of op set) (value_of route scene left) fits
      (λ j is. expression_runs left sets pc stack j is (has_front program.instrs pc c last has)
      (sets_front program sets (sets_of left) (one_set set) has_sets) s)
      (λ v is t. member_runs program route scene op pc1 stack n set v k is found h t))
  expression_runs (suffixed inner x) sets pc stack k fits has has_sets s =
      let c = expression_code decls sets inner in
      let pc1 = pc + length c in
      let behind : pc1 + 1 ≡ pc + length (c ++ suffix_code x ∷ []) = omega (arith, length-append c (suffix_code x ∷ [])) in
      let h = has_back program.instrs pc c (suffix_code x ∷ []) has in
      comes_at program route scene _ _ stack k _ _ behind
      (one_runs program route scene pc1 (pc1 + 1) stack (suffixed_by x) (kind_in decls inner) k (length stack + expression_need inner)
      (suffix_of x) (value_of route scene inner) fits
      (λ j is. expression_runs inner sets pc stack j is (has_front program.instrs pc c (suffix_code x ∷ []) has) has_sets s)
      (λ v is t. suffix_runs program route scene x pc1 stack v k is h t))

  -- the argument of a `case`, and the question whether it is in the set of ints of a label
  pub question_comes : (argument : ExprView) (a n : SetCounts) (ranges : List RangeView) (pc i : ℕ) → kind_in decls argument ≡ Some kind.Int
      → value_of route scene argument ≡ Some (value.Int i)
      → HasAt program.instrs pc (expression_code decls a argument ++ instr.InSet n.ints ∷ []) → HasSets program a (sets_of argument)
      → HasSets program n (ranges_set ranges) → Stands program route scene pc []
      → Comes program route scene (pc + length (expression_code decls a argument ++ instr.InSet n.ints ∷ [])) [] kind.Bool
      (0 + expression_need argument) (Some (value.Bool (holds_any i (map range_of ranges))))
  question_comes argument a n ranges pc i fits is has has_a has_n s =
      let c = expression_code decls a argument in
      let pc1 = pc + length c in
      let last = instr.InSet n.ints ∷ [] in
      let set = of_ranges ranges in
      let behind : pc1 + 1 ≡ pc + length (c ++ last) = omega (arith, length-append c last) in
      let fits' : of_one (in_set set) (kind_in decls argument) ≡ Some kind.Bool = rw fits refl in
      subst (λ o. Comes program route scene (pc + length (c ++ last)) [] kind.Bool (0 + expression_need argument)
      (option_and_then (member_of membership.In set) o)) is
      (comes_at program route scene _ _ [] kind.Bool _ _ behind
      (one_runs program route scene pc1 (pc1 + 1) [] (in_set set) (kind_in decls argument) kind.Bool (0 + expression_need argument)
      (member_of membership.In set) (value_of route scene argument) fits'
      (λ j is_j. expression_runs argument a pc [] j is_j (has_front program.instrs pc c last has) has_a s)
      (λ v is_v t. member_runs program route scene membership.In pc1 [] n set v kind.Bool is_v has_n (has_back program.instrs pc c last has) t)))
