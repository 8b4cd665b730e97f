-- The code of a filter means what the filter means.
use Rattle.std.proofs.Common.{◌≡◌, ℕ, ◌+◌, ◌<◌, ◌≤◌, inl, inr, true, false, List, [], ◌∷◌, ◌++◌, length, map, replicate, Option, Some}
use Rattle.std.proofs.Common.{None, refl, sym, subst, arith, append_assoc, length-append}
use Rattle.std.specs.Prelude.{nat_lt, slice_get, slice_set}
use Rattle.std.proofs.Math.Seq.{set-append_seam}
use Rattle.std.proofs.lemmas.Bool.Decides.{nat_tests}
use Rattle.filter_code.specs.declared.instruction.Instr.TheVariants as instr
use Rattle.filter_code.specs.declared.value.Value.{Value}
use Rattle.filter_code.specs.RouteView.{RouteView}
use Rattle.filter_code.specs.Machine.{Going, carry_out, outcome_of}
use Rattle.filter_code.specs.CodeView.{CodeView}
use Rattle.filter_code.specs.Steps.{config_of}
use Rattle.filter_compiler.proofs.Reaching.{Reaches, begun, carried_on, carried_over}
use Rattle.filter_syntax.specs.declared.tree.decl.Kind.{Kind}
use Rattle.filter_syntax.specs.declared.tree.decl.Kind.TheVariants as kind
use Rattle.filter_syntax.specs.SyntaxCommands.{DeclView}
use Rattle.filter_syntax.specs.SyntaxText as syntax
use Rattle.filter_types.specs.Kinds.{IsTyped}
use Rattle.filter_compiler.specs.Meaning.{Scene}
use Rattle.filter_compiler.specs.Need.{need, commands_need}
use Rattle.filter_compiler.specs.Same.{Agrees, MeansTheSame}
use Rattle.filter_compiler.specs.SetOrder.{none_before}
use Rattle.filter_compiler.specs.Translation.{commands_code, declarations_code, first_value, code_of}
use Rattle.filter_compiler.specs.Verdicts as verdicts
use Rattle.filter_compiler.specs.Verdicts.{accepted, rejected, divided, Course, goes_on, ends, course_of_all, declared_as, unassigned}
use Rattle.filter_compiler.specs.Verdicts.{verdict_of, meaning}
use Rattle.filter_compiler.proofs.CommandRuns.{Runs, commands_run}
use Rattle.filter_compiler.proofs.Parts.{HasAt, has_front, has_back, has_all}
use Rattle.filter_compiler.proofs.Scenes.{declared_kinds, locals_of}
use Rattle.filter_compiler.proofs.Steps.{Stands}

module _ (program : CodeView) (route : RouteView) (metric : ℕ) where
  -- the first value of a variable
  first_pushed : (k : Kind) (pc : ℕ) (locals : List (Option Value)) → slice_get program.instrs pc ≡ Some (first_value k)
      → Reaches program route (config_of pc [] locals metric) → Reaches program route (config_of (pc + 1) (unassigned k ∷ []) locals metric)
  first_pushed kind.Int pc locals here r = carried_on program route (config_of pc [] locals metric) (instr.Int 0) _ r here refl
  first_pushed kind.Bool pc locals here r = carried_on program route (config_of pc [] locals metric) (instr.Bool false) _ r here refl
  first_pushed kind.Ip pc locals here r =
      carried_on program route (config_of pc [] locals metric) (instr.Ip (record { 0 = 0 })) _ r here refl
  first_pushed kind.Prefix pc locals here r = carried_on program route (config_of pc [] locals metric) (instr.Prefix []) _ r here refl

  -- STORE into the first local variable that is still empty
  first_stored : (pc : ℕ) (before rest : List (Option Value)) (v : Value)
      → slice_get program.instrs pc ≡ Some (instr.Store (length before))
      → Reaches program route (config_of pc (v ∷ []) (before ++ None ∷ rest) metric)
      → Reaches program route (config_of (pc + 1) [] (before ++ Some v ∷ rest) metric)
  first_stored pc before rest v here r =
      let within : length before < length (before ++ None ∷ rest) = omega (arith, length-append before (None ∷ rest)) in
      let test : nat_lt (length before) (length (before ++ None ∷ rest)) ≡ true = grind (arith, nat_tests) in
      let set : slice_set (before ++ None ∷ rest) (length before) (Some v) ≡ before ++ Some v ∷ rest =
      set-append_seam before None rest (Some v) in
      let step : carry_out program route (config_of pc (v ∷ []) (before ++ None ∷ rest) metric) (Some (instr.Store
      (length before))) ≡ Going (config_of (pc + 1) [] (before ++ Some v ∷ rest) metric) = rw (test, set) refl in
      carried_on program route (config_of pc (v ∷ []) (before ++ None ∷ rest) metric) (instr.Store (length before)) _ r here step

  -- the declarations give each variable its first value
  declared_run : (decls : List DeclView) (before : List (Option Value)) (pc : ℕ)
      → HasAt program.instrs pc (declarations_code (length before) decls)
      → Reaches program route (config_of pc [] (before ++ replicate (length decls) None) metric)
      → Reaches program route (config_of (pc + length (declarations_code (length before) decls)) [] (before ++ locals_of
      (map declared_as decls)) metric)
  declared_run [] before pc has r =
      let e : pc ≡ pc + 0 = omega arith in
      subst (λ n. Reaches program route (config_of n [] (before ++ []) metric)) e r
  declared_run (d ∷ decls) before pc has r =
      let v = unassigned d.kind in
      let after = before ++ Some v ∷ [] in
      let longer : length before + 1 ≡ length after = omega (arith, length-append before (Some v ∷ [])) in
      let r1 = first_pushed d.kind pc (before ++ None ∷ replicate (length decls) None) has.0 r in
      let r2 = first_stored (pc + 1) before (replicate (length decls) None) v has.1.0 r1 in
      let r3 = subst (λ l. Reaches program route (config_of (pc + 1 + 1) [] l metric)) (sym (append_assoc before (Some v ∷ []) (replicate
      (length decls) None))) r2 in
      let has3 = subst (λ n. HasAt program.instrs (pc + 1 + 1) (declarations_code n decls)) longer has.1.1 in
      let r4 = declared_run decls after (pc + 1 + 1) has3 r3 in
      let r5 = subst (λ l. Reaches program route (config_of (pc + 1 + 1 + length (declarations_code (length after) decls)) [] l metric))
      (append_assoc before (Some v ∷ []) (locals_of (map declared_as decls))) r4 in
      let r6 = subst (λ n. Reaches program route (config_of (pc + 1 + 1 + length (declarations_code n decls)) [] (before ++ locals_of
      (map declared_as (d ∷ decls))) metric)) (sym longer) r5 in
      let place : pc + 1 + 1 + length (declarations_code (length before + 1) decls) ≡ pc + length (declarations_code (length before)
      (d ∷ decls)) = omega arith in
      subst (λ n. Reaches program route (config_of n [] (before ++ locals_of (map declared_as (d ∷ decls))) metric)) place r6

-- what the end of a body means
ends_so : (program : CodeView) (route : RouteView) (decls : List DeclView) (pc depth operands : ℕ) (course : Course)
    → slice_get program.instrs pc ≡ Some instr.Reject → depth ≤ operands → Runs program route decls pc depth course
    → Agrees operands (verdict_of course) (outcome_of program route)
ends_so program route decls pc depth operands (goes_on scene) here le (inl l) =
    subst (Agrees operands rejected) (carried_over program route _ instr.Reject _ l.0.reached here refl) refl
ends_so program route decls pc depth operands (ends (accepted metric)) here le (inl l) = subst (Agrees operands (accepted metric)) l refl
ends_so program route decls pc depth operands (ends rejected) here le (inl l) = subst (Agrees operands rejected) l refl
ends_so program route decls pc depth operands (ends divided) here le (inl l) = subst (Agrees operands divided) l.ended refl
ends_so program route decls pc depth operands course here le (inr f) =
    let over : 32 < depth = f.over in
    let over' : 32 < operands = omega arith in
    subst (Agrees operands (verdict_of course)) f.ended over'

-- for every route the outcome of a filter's code is what the filter says
pub means_the_same : (filter : syntax.FilterView) → IsTyped filter → MeansTheSame filter (code_of filter)
means_the_same filter typed = record {
  agrees = λ route.
      let program = code_of filter in
      let first = declarations_code 0 filter.decls in
      let body = commands_code filter.decls none_before filter.body in
      let scene : Scene = verdicts.begun filter route in
      let has = has_all program.instrs in
      let after_first = has_back program.instrs 0 first (body ++ instr.Reject ∷ []) has in
      let pc1 = 0 + length first in
      let last = (has_back program.instrs pc1 body (instr.Reject ∷ []) after_first).0 in
      let r = declared_run program route route.metric filter.decls [] 0 (has_front program.instrs 0 first (body ++ instr.Reject ∷ []) has)
      (begun program route) in
      let s : Stands program route scene pc1 [] = record { reached = r; room = omega arith } in
      let run = commands_run program route filter.decls filter.body none_before pc1 scene typed.body (declared_kinds filter.decls)
      (has_front program.instrs pc1 body (instr.Reject ∷ []) after_first) (record { patterns = has_all program.sets; ints = has_all program.int_sets }) s in
      ends_so program route filter.decls (pc1 + length body) (commands_need filter.body) (need filter)
      (course_of_all route filter.body scene) last (omega arith) run;
}
