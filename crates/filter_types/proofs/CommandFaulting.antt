-- The fault of a command, from what its judgement found of its parts.
use Rattle.std.proofs.lemmas.List.{take-map}
use Rattle.std.proofs.lemmas.Option.{slice_get_read}
use Rattle.std.proofs.Common.{◌+◌, ◌<◌, length, take, get_or, arith}
use Rattle.std.proofs.Common.{◌≡◌, ◌≢◌, ◌⊎◌, inl, inr, ℕ, Option, Some, None, Result, Ok, Err}
use Rattle.std.proofs.Common.{List, [], ◌∷◌, Box, Vec, Global, map, refl, sym, ap, subst, ◌∙◌}
use Rattle.std.specs.Prelude.{Contains, IfErr, flat_map}
use Rattle.filter_syntax.specs.Places.{expr_place}
use Rattle.filter_syntax.specs.Syntax.{view}
use Rattle.filter_syntax.specs.SyntaxCommands.{DeclView}
use Rattle.filter_syntax.specs.declared.tree.command.Command.{Command}
use Rattle.filter_syntax.specs.declared.tree.command.Command.TheOpen.{Command-F}
use Rattle.filter_syntax.specs.declared.tree.command.Command.TheVariants as command
use Rattle.filter_syntax.specs.declared.tree.command.Label.{Label}
use Rattle.filter_syntax.specs.declared.tree.command.Target.{Target}
use Rattle.filter_syntax.specs.declared.tree.decl.Kind.{Kind}
use Rattle.filter_syntax.specs.declared.tree.expr.Expr.{Expr}
use Rattle.filter_types.specs.Codes.{expected_of}
use Rattle.filter_types.specs.Faults.{CommandHasFault, HasFault, IsOtherKind, IsOtherThanTarget, IsTargetFault, SharesLabel}
use Rattle.filter_types.specs.Kinds.{kind_in}
use Rattle.filter_types.specs.Labels.{AreAllApart}
use Rattle.filter_types.specs.Refusals.{label_place, wrong_kind}
use Rattle.filter_types.specs.Sweep.{part_ranges}
use Rattle.filter_types.specs.Table.{argument_kind, condition_kind}
use Rattle.filter_types.specs.declared.fault.TypeFault.{TypeFault}
use Rattle.filter_types.specs.declared.fault.TypeFault.TheVariants as fault
use Rattle.filter_syntax.specs.Places.{body_of, decls_of}
use Rattle.filter_syntax.specs.SyntaxCommands.{view_decl}
use Rattle.filter_syntax.specs.declared.tree.decl.Decl.{Decl}
use Rattle.filter_syntax.specs.declared.tree.filter.Filter.{Filter}
use Rattle.filter_types.specs.Faults.{IsDeclaredTwice, IsFaultOf, IsOneTooMany}
use Rattle.filter_types.proofs.Blaming.{contains_first, contains_later}
use Rattle.filter_types.proofs.Faulting.{with_kind}

-- an operand whose kind is known, and not what is expected
pub other_kind : {A : Type 0} (vs : List DeclView) (x : Expr) (k wanted : Kind) (r : Result A TypeFault) (Q : TypeFault → Type 0)
    → kind_in vs (view x) ≡ Some k → ((why : TypeFault) → IsOtherKind vs wanted x why → Q why)
    → IfErr r (λ why. (k ≢ wanted) × (why ≡ wrong_kind (with_kind x k) (expected_of wanted))) → IfErr r Q
other_kind vs x k wanted (Ok a) Q found then h = tt
other_kind vs x k wanted (Err why) Q found then h = then why (record { kind = k; found = found; refused = h.0; is_said = h.1 })

-- a label that shares a number, where those before it share none
pub shares_label : (ps : List (Label × Vec Command Global)) (i n : ℕ) (p : Label × Vec Command Global) (why : TypeFault) → i ≡ n
    → i < length ps → p ≡ get_or ps i p → AreAllApart (take n (map part_ranges ps))
    → (n < length ps → AreAllApart (take (n + 1) (map part_ranges ps)) → ⊥) → why ≡ fault.SharedLabel (label_place p.0) → SharesLabel ps why
shares_label ps i n p why same low is apart most said = record {
  index = i;
  part = p;
  is = slice_get_read ps (length ps) i p refl low is;
  before = subst AreAllApart (ap (λ k. take k (map part_ranges ps)) (sym same) ∙ take-map part_ranges i ps) apart;
  shared = λ all. most (omega (arith, low, same))
      (subst AreAllApart (sym (take-map part_ranges (i + 1) ps) ∙ ap (λ k. take (k + 1) (map part_ranges ps)) same) all);
  is_said = said;
}

-- a command among those of a list has a fault
abbrev pub OneHasFault : List DeclView → List Command → TypeFault → Type 0
OneHasFault vs commands why = (c : Command) × Contains commands c × CommandHasFault vs c why

module _ (vs : List DeclView) (x : Command) (why : TypeFault) where
  pub block_fault : (at : ℕ) (body : Vec Command Global) (ys : List Command) → x ≡ command.Block at body → ys ≡ body.items
      → OneHasFault vs ys why → CommandHasFault vs x why
  block_fault at body ys is same h =
      CommandHasFault.of_command (Command-F.Block at body) h.0 (is ∙ sym (command.rolls-Block at body))
      (subst (λ (l : List Command). Contains l h.0) same h.1) h.2

  pub test_fault : (at : ℕ) (test : Expr) (chosen : Box Command Global) (other : Option (Box Command Global)) → x ≡ command.If at test chosen other
      → HasFault vs test why ⊎ IsOtherKind vs condition_kind test why → CommandHasFault vs x why
  test_fault at test chosen other is (inl h) =
      CommandHasFault.of_expression (Command-F.If at test chosen other) test (is ∙ sym (command.rolls-If at test chosen other))
      (contains_first test []) h
  test_fault at test chosen other is (inr h) =
      CommandHasFault.own (Command-F.If at test chosen other) (is ∙ sym (command.rolls-If at test chosen other)) h

  chosen_of : (at : ℕ) (test : Expr) (chosen : Box Command Global) (other : Option (Box Command Global)) → x ≡ command.If at test chosen other
      → CommandHasFault vs chosen.value why → CommandHasFault vs x why
  chosen_of at test chosen None is h =
      CommandHasFault.of_command (Command-F.If at test chosen None) chosen.value (is ∙ sym (command.rolls-If at test chosen None))
      (contains_first chosen.value []) h
  chosen_of at test chosen (Some other) is h =
      CommandHasFault.of_command (Command-F.If at test chosen (Some other)) chosen.value (is ∙ sym (command.rolls-If at test chosen (Some other)))
      (contains_first chosen.value (other.value ∷ [])) h

  pub chosen_fault : (at : ℕ) (test : Expr) (chosen : Box Command Global) (other : Option (Box Command Global)) (y : Command)
      → x ≡ command.If at test chosen other → y ≡ chosen.value → CommandHasFault vs y why → CommandHasFault vs x why
  chosen_fault at test chosen other y is same h =
      chosen_of at test chosen other is (subst (λ (c : Command). CommandHasFault vs c why) same h)

  pub other_fault : (at : ℕ) (test : Expr) (chosen other : Box Command Global) (y : Command) → x ≡ command.If at test chosen (Some other)
      → y ≡ other.value → CommandHasFault vs y why → CommandHasFault vs x why
  other_fault at test chosen other y is same h =
      CommandHasFault.of_command (Command-F.If at test chosen (Some other)) other.value
      (is ∙ sym (command.rolls-If at test chosen (Some other))) (contains_later chosen.value (other.value ∷ []) other.value (contains_first other.value []))
      (subst (λ (c : Command). CommandHasFault vs c why) same h)

  pub argument_fault : (at : ℕ) (argument : Expr) (parts : Vec (Label × Vec Command Global) Global) → x ≡ command.Case at argument parts
      → HasFault vs argument why ⊎ IsOtherKind vs argument_kind argument why → CommandHasFault vs x why
  argument_fault at argument parts is (inl h) =
      CommandHasFault.of_expression (Command-F.Case at argument parts) argument (is ∙ sym (command.rolls-Case at argument parts))
      (contains_first argument []) h
  argument_fault at argument parts is (inr h) =
      CommandHasFault.own (Command-F.Case at argument parts) (is ∙ sym (command.rolls-Case at argument parts)) (inl h)

  pub parts_fault : (at : ℕ) (argument : Expr) (parts : Vec (Label × Vec Command Global) Global) (ys : List (Label × Vec Command Global))
      → x ≡ command.Case at argument parts → ys ≡ parts.items
      → SharesLabel ys why ⊎ OneHasFault vs (flat_map (λ p. p.1.items) ys) why → CommandHasFault vs x why
  parts_fault at argument parts ys is same (inl h) =
      CommandHasFault.own (Command-F.Case at argument parts) (is ∙ sym (command.rolls-Case at argument parts))
      (inr (subst (λ (l : List (Label × Vec Command Global)). SharesLabel l why) same h))
  parts_fault at argument parts ys is same (inr h) =
      CommandHasFault.of_command (Command-F.Case at argument parts) h.0 (is ∙ sym (command.rolls-Case at argument parts))
      (subst (λ (l : List (Label × Vec Command Global)). Contains (flat_map (λ p. p.1.items) l) h.0) same h.1) h.2

  pub assign_fault : (at : ℕ) (target : Target) (value : Expr) → x ≡ command.Assign at target value
      → HasFault vs value why ⊎ (IsTargetFault vs at target why ⊎ IsOtherThanTarget vs target value why) → CommandHasFault vs x why
  assign_fault at target value is (inl h) =
      CommandHasFault.of_expression (Command-F.Assign at target value) value (is ∙ sym (command.rolls-Assign at target value))
      (contains_first value []) h
  assign_fault at target value is (inr h) =
      CommandHasFault.own (Command-F.Assign at target value) (is ∙ sym (command.rolls-Assign at target value)) h

-- the fault of a filter
pub variables_fault : (filter : Filter) (ds : List Decl) (why : TypeFault) → ds ≡ decls_of filter → IsDeclaredTwice ds why ⊎ IsOneTooMany ds why
    → IsFaultOf filter why
variables_fault filter ds why is (inl h) = IsFaultOf.declared_twice (subst (λ (l : List Decl). IsDeclaredTwice l why) is h)
variables_fault filter ds why is (inr h) = IsFaultOf.one_too_many (subst (λ (l : List Decl). IsOneTooMany l why) is h)

pub body_fault : (filter : Filter) (ds : List Decl) (cs : List Command) (why : TypeFault) → ds ≡ decls_of filter → cs ≡ body_of filter
    → OneHasFault (map view_decl ds) cs why → IsFaultOf filter why
body_fault filter ds cs why is are h =
    IsFaultOf.of_command h.0 (subst (λ (l : List Command). Contains l h.0) are h.1)
    (subst (λ (l : List Decl). CommandHasFault (map view_decl l) h.0 why) is h.2)
