-- The trees that loops go through, with one more element; and the code of operators.
use Rattle.std.proofs.Common.{◌≡◌, ℕ, ◌+◌, ◌<◌, ◌≤◌, List, [], ◌∷◌, ◌++◌, length, map, take, get_or, suc, min, true, refl, sym, ap, subst, ◌∙◌}
use Rattle.std.proofs.Common.{add-one, arith, append_assoc, length-append}
use Rattle.std.proofs.Math.Seq.{take-suc}
use Rattle.std.proofs.lemmas.List.{append-nil, length-map, length-take-le}
use Rattle.int_sets.specs.Holding.{NumberRange}
use Rattle.prefix_patterns.specs.Matching.{PrefixPattern}
use Rattle.filter_code.specs.declared.instruction.Instr.{Instr}
use Rattle.filter_code.specs.declared.instruction.Instr.TheVariants as instr
use Rattle.filter_syntax.specs.declared.tree.command.Command.{Command}
use Rattle.filter_syntax.specs.declared.tree.decl.Decl.{Decl}
use Rattle.filter_syntax.specs.declared.tree.expr.Expr.{Expr}
use Rattle.filter_syntax.specs.declared.tree.op.Membership.{Membership}
use Rattle.filter_syntax.specs.declared.tree.op.Membership.TheVariants as membership
use Rattle.filter_syntax.specs.declared.tree.op.Op.{Op}
use Rattle.filter_syntax.specs.declared.tree.op.Op.TheVariants as o
use Rattle.filter_syntax.specs.declared.tree.op.Suffix.{Suffix}
use Rattle.filter_syntax.specs.Syntax.{ExprView, binary, suffixed, chain_of, suffixes_of, view, view_more}
use Rattle.filter_syntax.specs.SyntaxCommands.{CommandView, CommandsView, DeclView, LabelView, commands_of, parts_of, view_command, view_decl}
use Rattle.filter_types.proofs.Lists.{map_next}
use Rattle.filter_compiler.specs.declared.output.Output.{Output}
use Rattle.filter_compiler.specs.Translation.{joined_code, operator_code, commands_code, command_code, commands_sets, command_sets}
use Rattle.filter_compiler.specs.Translation.{declarations_code, first_value, suffix_code, expression_code}
use Rattle.filter_compiler.specs.Translation.{member_code, sets_of, label_sets, parts_sets}
use Rattle.filter_compiler.specs.SetOrder.{Sets, SetCounts, no_sets, past, with_sets}
use Rattle.filter_compiler.specs.declared.numbers.SetNumbers.{SetNumbers}
use Rattle.filter_compiler.specs.Written.{Emits, Holds, Puts, expression_part, right_part, command_part, commands_part}
use Rattle.filter_compiler.proofs.Puts.{as_part, joined, past_both, past_none, puts_then, then, then_code}
use Rattle.filter_compiler.proofs.Within.{exchanged}

-- an operator's code with both operands
pub joined_apart : (op : Op) (left right : List Instr) → left ++ joined_code op [] right ≡ joined_code op left right
joined_apart o.And left right = refl
joined_apart o.Or left right = refl
joined_apart _ left right = refl

pub takes_both : (op : Op) (right : List Instr) → (op ≡ o.And → ⊥) → (op ≡ o.Or → ⊥) → right ++ operator_code op ≡ joined_code op [] right
takes_both o.And right not_and not_or = absurd (not_and refl)
takes_both o.Or right not_and not_or = absurd (not_or refl)
takes_both _ right not_and not_or = refl

pub chain_push : (left : ExprView) (xs : List (ℕ × Op × ExprView)) (x : ℕ × Op × ExprView)
    → binary x.1 (chain_of left xs) x.2 ≡ chain_of left (xs ++ x ∷ [])
chain_push left [] x = refl
chain_push left (y ∷ xs) x = chain_push (binary y.1 left y.2) xs x

suffixes_push : (inner : ExprView) (xs : List Suffix) (x : Suffix) → suffixed (suffixes_of inner xs) x ≡ suffixes_of inner (xs ++ x ∷ [])
suffixes_push inner [] x = refl
suffixes_push inner (y ∷ xs) x = suffixes_push (suffixed inner y) xs x

pub take_next : {A : Type 0} (xs : List A) (i : ℕ) (x : A) → i < length xs → x ≡ get_or xs i x → take (i + 1) xs ≡ take i xs ++ x ∷ []
take_next xs i x low is = ap (λ n. take n xs) (add-one i) ∙ (take-suc xs i x low ∙ ap (λ y. take i xs ++ y ∷ []) (sym is))

module _ (decls : List DeclView) (a b c : Output) (k l m : SetNumbers) where
  -- an operator more, and a suffix more
  pub right_next : (left : ExprView) (op : Op) (right : ExprView) → Emits a b k l (expression_part decls left)
      → Emits b c l m (right_part decls op right) → Emits a c k m (expression_part decls (binary op left right))
  right_next left op right first second =
      as_part a c k m (joined (expression_part decls left) (right_part decls op right)) (expression_part decls (binary op left right))
      (λ n. joined_apart op (expression_code decls n left) (expression_code decls (past n (sets_of left)) right)) refl
      (then first second)

  pub chain_next : (left : ExprView) (xs : List (ℕ × Op × Expr)) (i : ℕ) (x : ℕ × Op × Expr) → i < length xs → x ≡ get_or xs i x
      → Emits a b k l (expression_part decls (chain_of left (view_more (take i xs)))) → Emits b c l m (right_part decls x.1 (view x.2))
      → Emits a c k m (expression_part decls (chain_of left (view_more (take (i + 1) xs))))
  chain_next left xs i x low is first second =
      let f : (ℕ × Op × Expr) → (ℕ × Op × ExprView) = λ p. (p.0, p.1, view p.2) in
      let so_far = map f (take i xs) in
      subst (λ t. Emits a c k m (expression_part decls t))
      (chain_push left so_far (f x) ∙ ap (chain_of left) (sym (map_next f xs i x low is)))
      (right_next (chain_of left so_far) x.1 (view x.2) first second)

  pub suffix_next : (inner : ExprView) (xs : List Suffix) (i : ℕ) (x : Suffix) → i < length xs → x ≡ get_or xs i x
      → Emits a b k l (expression_part decls (suffixes_of inner (take i xs))) → Puts b c (suffix_code x ∷ [])
      → Emits a c k l (expression_part decls (suffixes_of inner (take (i + 1) xs)))
  suffix_next inner xs i x low is first second =
      subst (λ t. Emits a c k l (expression_part decls t))
      (suffixes_push inner (take i xs) x ∙ ap (suffixes_of inner) (sym (take_next xs i x low is)))
      (then_code first second)

abbrev sets_from : List (List PrefixPattern) → List (List NumberRange) → Sets
sets_from patterns ints = record { patterns = patterns; ints = ints }

-- sets of several parts
same_sets : (a c : List (List PrefixPattern)) (b d : List (List NumberRange)) → a ≡ c → b ≡ d → sets_from a b ≡ sets_from c d
same_sets a c b d e f = ap (λ x. sets_from x b) e ∙ ap (sets_from c) f

pub without_more : (s : Sets) → with_sets s no_sets ≡ s
without_more s = same_sets _ _ _ _ (append-nil s.patterns) (append-nil s.ints)

pub sets_assoc : (s t u : Sets) → with_sets (with_sets s t) u ≡ with_sets s (with_sets t u)
sets_assoc s t u =
    same_sets _ _ _ _ (append_assoc s.patterns t.patterns u.patterns) (append_assoc s.ints t.ints u.ints)

-- a command more
codes_push : (decls : List DeclView) (n : SetCounts) (xs : List CommandView) (x : CommandView)
    → commands_code decls n (commands_of xs) ++ command_code decls (past n (commands_sets (commands_of xs))) x
    ≡ commands_code decls n (commands_of (xs ++ x ∷ []))
codes_push decls n [] x = ap (λ m. command_code decls m x) (sym (past_none n)) ∙ sym (append-nil (command_code decls n x))
codes_push decls n (y ∷ xs) x =
    let m = past n (command_sets y) in
    let rest = commands_code decls m (commands_of xs) in
    append_assoc (command_code decls n y) rest _
    ∙ ap (λ k. command_code decls n y ++ (rest ++ command_code decls k x)) (sym (past_both n (command_sets y) (commands_sets (commands_of xs))))
    ∙ ap (λ l. command_code decls n y ++ l) (codes_push decls m xs x)

pub sets_push : (xs : List CommandView) (x : CommandView)
    → with_sets (commands_sets (commands_of xs)) (command_sets x) ≡ commands_sets (commands_of (xs ++ x ∷ []))
sets_push [] x = sym (without_more (command_sets x))
sets_push (y ∷ xs) x =
    sets_assoc (command_sets y) (commands_sets (commands_of xs)) (command_sets x) ∙ ap (with_sets (command_sets y)) (sets_push xs x)

pub command_next : (decls : List DeclView) (a b c : Output) (k l m : SetNumbers) (xs : List Command) (i : ℕ) (x : Command) → i < length xs
    → x ≡ get_or xs i x → Emits a b k l (commands_part decls (commands_of (map view_command (take i xs))))
    → Emits b c l m (command_part decls (view_command x))
    → Emits a c k m (commands_part decls (commands_of (map view_command (take (i + 1) xs))))
command_next decls a b c k l m xs i x low is first second =
    let so_far = map view_command (take i xs) in
    subst (λ v. Emits a c k m (commands_part decls (commands_of v))) (sym (map_next view_command xs i x low is))
    (as_part a c k m (joined (commands_part decls (commands_of so_far)) (command_part decls (view_command x)))
    (commands_part decls (commands_of (so_far ++ view_command x ∷ [])))
    (λ n. codes_push decls n so_far (view_command x)) (sets_push so_far (view_command x))
    (then first second))

-- a declaration more
declared_push : (before : ℕ) (xs : List DeclView) (x : DeclView)
    → declarations_code before xs ++ first_value x.kind ∷ instr.Store (before + length xs) ∷ [] ≡ declarations_code before (xs ++ x ∷ [])
declared_push before [] x = ap (λ n. first_value x.kind ∷ instr.Store n ∷ []) (omega arith)
declared_push before (y ∷ xs) x =
    let e : before + suc (length xs) ≡ before + 1 + length xs = omega arith in
    ap (λ n. first_value y.kind ∷ instr.Store before ∷ (declarations_code (before + 1) xs ++ first_value x.kind ∷ instr.Store n ∷ [])) e
    ∙ ap (λ l. first_value y.kind ∷ instr.Store before ∷ l) (declared_push (before + 1) xs x)

pub declared_next : (a b c d : Output) (xs : List Decl) (i : ℕ) (x : Decl) → i < length xs → x ≡ get_or xs i x
    → Puts a b (declarations_code 0 (map view_decl (take i xs))) → Puts b c (first_value x.kind ∷ [])
    → Puts c d (instr.Store i ∷ []) → Puts a d (declarations_code 0 (map view_decl (take (i + 1) xs)))
declared_next a b c d xs i x low is first second third =
    let so_far = map view_decl (take i xs) in
    let count : i ≡ 0 + length so_far = omega (arith, length-map (take i xs) view_decl, length-take-le i xs (omega arith)) in
    let code = declarations_code 0 so_far in
    subst (Puts a d)
    (append_assoc code (first_value x.kind ∷ []) (instr.Store i ∷ [])
    ∙ (ap (λ n. code ++ first_value x.kind ∷ instr.Store n ∷ []) count
    ∙ (declared_push 0 so_far (view_decl x) ∙ ap (declarations_code 0) (sym (map_next view_decl xs i x low is)))))
    (puts_then (puts_then first second) third)

-- a question for a set, whose number is within the limit where it is kept
member_length : (op : Membership) (x y : Instr) → length (member_code op x) ≡ length (member_code op y)
member_length membership.In x y = refl
member_length membership.NotIn x y = refl

pub numbered : {a b c : Output} {number : ℕ} (n : ℕ) (question : ℕ → Instr) (op : Membership) → Puts a b []
    → (c.kept ≡ true → number < 64) → number ≡ min n 255 → Puts b c (member_code op (question number))
    → Puts a c (member_code op (question n))
numbered {a} {b} {c} {number} n question op first low is second = record {
  holds = λ before h.
      let x = question number in
      let y = question n in
      let h2 = subst (λ l. Holds c (l ++ member_code op x)) (append-nil before) (second.holds _ (first.holds before h)) in
      let same : length (before ++ member_code op x) ≡ length (before ++ member_code op y) =
      omega (arith, length-append before (member_code op x), length-append before (member_code op y), member_length op x y) in
      let number_is : c.kept ≡ true → number ≡ n = (λ k. let l = low k in omega arith) in
      exchanged c c _ _ refl refl same (λ k. h2.instrs k ∙ ap (λ m. before ++ member_code op (question m)) (number_is k)) h2;
}

-- a part of a `case` more
pub parts_push : (xs : List (LabelView × CommandsView)) (x : LabelView × CommandsView)
    → with_sets (parts_sets (parts_of xs)) (with_sets (label_sets x.0) (commands_sets x.1)) ≡ parts_sets (parts_of (xs ++ x ∷ []))
parts_push [] x = ap (with_sets (label_sets x.0)) (sym (without_more (commands_sets x.1)))
parts_push (y ∷ xs) x =
    let rest = parts_sets (parts_of xs) in
    let new = with_sets (label_sets x.0) (commands_sets x.1) in
    sets_assoc (label_sets y.0) (with_sets (commands_sets y.1) rest) new
    ∙ ap (with_sets (label_sets y.0)) (sets_assoc (commands_sets y.1) rest new ∙ ap (with_sets (commands_sets y.1)) (parts_push xs x))
