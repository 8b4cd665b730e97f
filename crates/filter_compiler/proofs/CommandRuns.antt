-- The code of commands does what they say.
use Rattle.std.proofs.Common.{◌≡◌, ℕ, ◌+◌, ◌<◌, ◌≤◌, max, ◌⊎◌, inl, inr, true, false, List, [], ◌∷◌, ◌++◌, length, Option, Some, None}
use Rattle.std.proofs.Common.{Bool, map, refl, subst, arith, length-append}
use Rattle.std.specs.Prelude.{if◌then◌else◌}
use Rattle.std.specs.Prelude.{nat_lt, slice_get}
use Rattle.std.proofs.lemmas.Bool.Decides.{nat_tests}
use Rattle.std.proofs.lemmas.Option.{slice_get_within}
use Rattle.int_sets.specs.Holding.{holds_any}
use Rattle.filter_code.specs.declared.instruction.Instr.{Instr}
use Rattle.filter_code.specs.declared.instruction.Instr.TheVariants as instr
use Rattle.filter_code.specs.declared.outcome.Outcome.TheVariants as outcome
use Rattle.filter_code.specs.declared.value.Value.{Value}
use Rattle.filter_code.specs.declared.value.Value.TheVariants as value
use Rattle.filter_code.specs.RouteView.{RouteView}
use Rattle.filter_code.specs.Machine.{Going, carry_out, outcome_of}
use Rattle.filter_code.specs.CodeView.{CodeView}
use Rattle.filter_compiler.proofs.Reaching.{carried_over}
use Rattle.filter_syntax.specs.declared.tree.decl.Kind.{Kind}
use Rattle.filter_syntax.specs.declared.tree.decl.Kind.TheVariants as kind
use Rattle.filter_syntax.specs.Syntax.{ExprView, range_of}
use Rattle.filter_syntax.specs.SyntaxCommands.{CommandView, empty, block, if_then, if_else, case, assign}
use Rattle.filter_syntax.specs.SyntaxCommands.{accept, reject, CommandsView, no_commands, command_then}
use Rattle.filter_syntax.specs.SyntaxCommands.{TargetView, to_name, to_metric, to_net, DeclView, PartsView}
use Rattle.filter_syntax.specs.SyntaxCommands.{no_parts, part_then, ranges_label, else_label}
use Rattle.filter_types.specs.Kinds.{kind_in, kind_named, number_of, target_kind, HasSameKind, KindsFit, KindsFitAll, KindsFitParts}
use Rattle.filter_compiler.specs.Meaning.{Scene, value_of}
use Rattle.filter_compiler.specs.Need.{expression_need, target_need, command_need, commands_need, parts_need}
use Rattle.filter_compiler.specs.Translation.{expression_code, sets_of, command_sets, commands_sets, if_code, if_else_code, target_code}
use Rattle.filter_compiler.specs.Translation.{command_code, commands_code, has_labelled, opening_code}
use Rattle.filter_compiler.specs.Translation.{opening_sets, parts_code, parts_sets, ranges_set}
use Rattle.filter_compiler.specs.Verdicts.{accepted, rejected, divided, Course, goes_on, ends, assigned, kept_in_range, set_to, chosen_by}
use Rattle.filter_compiler.specs.Verdicts.{then_do, course_of, course_of_all, course_of_parts, for_int}
use Rattle.filter_compiler.proofs.ExpressionRuns.{Comes, expression_runs, question_comes}
use Rattle.filter_compiler.proofs.Parts.{HasAt, HasSets, has_front, has_back, sets_front, sets_back}
use Rattle.filter_compiler.specs.SetOrder.{SetCounts, past, with_sets}
use Rattle.filter_compiler.proofs.Scenes.{HaveKinds, held, is_assigned, kind_of_value, locals_of}
use Rattle.filter_compiler.proofs.Steps.{Stands, Fills, Divides, config_in, fills_more, same_place, goes_to, put, replaced, jumped}
use Rattle.filter_compiler.proofs.Steps.{not_jumped, jumped_if_not}

-- what is set is not below the metric received
not_lower : (n least : ℕ) → nat_lt (max n least) least ≡ false
not_lower n least = grind (arith, nat_tests)

module _ (program : CodeView) (route : RouteView) (decls : List DeclView) where
  -- the run comes to the end of the code, with nothing on the stack, or has ended as the course says
  abbrev pub Leads : ℕ → Course → Type 0
  Leads pc (goes_on scene) = Stands program route scene pc [] × HaveKinds decls scene.variables
  Leads pc (ends (accepted metric)) = outcome.Accept metric ≡ outcome_of program route
  Leads pc (ends rejected) = outcome.Reject ≡ outcome_of program route
  Leads pc (ends divided) = Divides program route

  abbrev pub Runs : ℕ → ℕ → Course → Type 0
  Runs pc depth course = Leads pc course ⊎ Fills program route depth

  runs_deeper : (pc depth more : ℕ) (course : Course) → depth ≤ more → Runs pc depth course → Runs pc more course
  runs_deeper pc depth more course le (inl l) = inl l
  runs_deeper pc depth more course le (inr f) = inr (fills_more program route depth more le f)

  runs_at : (pc pc' depth : ℕ) (course : Course) → pc ≡ pc' → Runs pc depth course → Runs pc' depth course
  runs_at pc pc' depth course e r = subst (λ n. Runs n depth course) e r

  -- one of two courses, after the value of a test
  chosen_from : (scene : Scene) (pc1 pc2 depth all : ℕ) (o : Option Value) (first second : Course) → depth ≤ all
      → Comes program route scene pc1 [] kind.Bool depth o → (Stands program route scene pc1 (value.Bool true ∷ []) → Runs pc2 all first)
      → (Stands program route scene pc1 (value.Bool false ∷ []) → Runs pc2 all second) → Runs pc2 all (chosen_by o first second)
  chosen_from scene pc1 pc2 depth all None first second le (inl g) on_true on_false = inl g
  chosen_from scene pc1 pc2 depth all (Some (value.Bool true)) first second le (inl g) on_true on_false = on_true g.0
  chosen_from scene pc1 pc2 depth all (Some (value.Bool false)) first second le (inl g) on_true on_false = on_false g.0
  chosen_from scene pc1 pc2 depth all (Some _) first second le (inl g) on_true on_false = absurd (let e = g.1 in cc)
  chosen_from scene pc1 pc2 depth all o first second le (inr f) on_true on_false = inr (fills_more program route depth all le f)

  -- what follows a command
  then_from : (pc1 pc2 depth all : ℕ) (course : Course) (more : Scene → Course) → depth ≤ all → Runs pc1 depth course
      → ((scene : Scene) → HaveKinds decls scene.variables → Stands program route scene pc1 [] → Runs pc2 all (more scene))
      → Runs pc2 all (then_do course more)
  then_from pc1 pc2 depth all (goes_on scene) more le (inl l) next = next scene l.1 l.0
  then_from pc1 pc2 depth all (ends (accepted metric)) more le (inl l) next = inl l
  then_from pc1 pc2 depth all (ends rejected) more le (inl l) next = inl l
  then_from pc1 pc2 depth all (ends divided) more le (inl l) next = inl l
  then_from pc1 pc2 depth all course more le (inr f) next = inr (fills_more program route depth all le f)

  -- a jump over the other command, where the run goes on
  over_other : (pc end passed depth : ℕ) (course : Course) → pc + (1 + passed) ≡ end
      → slice_get program.instrs pc ≡ Some (instr.Jump passed) → Runs pc depth course → Runs end depth course
  over_other pc end passed depth (goes_on scene) e here (inl l) =
      inl (same_place program route scene (pc + (1 + passed)) end [] e (jumped program route scene pc passed [] here l.0), l.1)
  over_other pc end passed depth (ends (accepted metric)) e here (inl l) = inl l
  over_other pc end passed depth (ends rejected) e here (inl l) = inl l
  over_other pc end passed depth (ends divided) e here (inl l) = inl l
  over_other pc end passed depth course e here (inr f) = inr f

  -- one of two commands: the test, a jump over the first, the first, a jump over the second, and the second
  if_else_runs : (t c d : List Instr) (pc : ℕ) (scene : Scene) (depth all : ℕ) (o : Option Value) (first second : Course) → depth ≤ all
      → HasAt program.instrs pc (if_else_code t c d) → Comes program route scene (pc + length t) [] kind.Bool depth o
      → (HasAt program.instrs (pc + length t + 1) c → Stands program route scene (pc + length t + 1) []
      → Runs (pc + length t + 1 + length c) all first)
      → (HasAt program.instrs (pc + length t + 1 + length c + 1) d → Stands program route scene (pc + length t + 1 + length c + 1) []
      → Runs (pc + length t + 1 + length c + 1 + length d) all second)
      → Runs (pc + length (if_else_code t c d)) all (chosen_by o first second)
  if_else_runs t c d pc scene depth all o first second le has comes on_true on_false =
      let tail = c ++ instr.Jump (length d) ∷ d in
      let pc1 = pc + length t in
      let pc2 = pc1 + 1 + length c in
      let end = pc + length (if_else_code t c d) in
      let h1 = has_back program.instrs pc t (instr.JumpIfNot (length c + 1) ∷ tail) has in
      let h2 = has_back program.instrs (pc1 + 1) c (instr.Jump (length d) ∷ d) h1.1 in
      let l1 = length-append t (instr.JumpIfNot (length c + 1) ∷ tail) in
      let l2 = length-append c (instr.Jump (length d) ∷ d) in
      let over : pc2 + (1 + length d) ≡ end = omega (arith, l1, l2) in
      let to_other : pc1 + (1 + (length c + 1)) ≡ pc2 + 1 = omega arith in
      let behind : pc2 + 1 + length d ≡ end = omega (arith, l1, l2) in
      chosen_from scene pc1 end depth all o first second le comes
      (λ u. over_other pc2 end (length d) all first over h2.0
      (on_true (has_front program.instrs (pc1 + 1) c (instr.Jump (length d) ∷ d) h1.1)
      (not_jumped program route scene pc1 (length c + 1) [] h1.0 u)))
      (λ u. runs_at _ _ _ _ behind
      (on_false h2.1 (same_place program route scene _ (pc2 + 1) [] to_other (jumped_if_not program route scene pc1 (length c + 1) [] h1.0 u))))

  -- the argument of a `case`: where it has a value, that is an int, and the run goes on
  for_int_from : (scene : Scene) (pc1 pc2 depth all : ℕ) (o : Option Value) (next : ℕ → Course) → depth ≤ all
      → Comes program route scene pc1 [] kind.Int depth o → ((i : ℕ) → o ≡ Some (value.Int i) → Runs pc2 all (next i))
      → Runs pc2 all (for_int o next)
  for_int_from scene pc1 pc2 depth all None next le (inl g) go = inl g
  for_int_from scene pc1 pc2 depth all (Some (value.Int i)) next le (inl g) go = go i refl
  for_int_from scene pc1 pc2 depth all (Some _) next le (inl g) go = absurd (let e = g.1 in cc)
  for_int_from scene pc1 pc2 depth all o next le (inr f) go = inr (fills_more program route depth all le f)

  -- the first argument that is run among parts of which one has a label of ranges
  first_argument : (parts : PartsView) (argument : ExprView) (a n : SetCounts) (other : List Instr) (pc : ℕ) (scene : Scene)
      → has_labelled parts ≡ true → kind_in decls argument ≡ Some kind.Int → HaveKinds decls scene.variables
      → HasAt program.instrs pc (parts_code decls (expression_code decls a argument) other n parts) → HasSets program a (sets_of argument)
      → Stands program route scene pc []
      → Comes program route scene (pc + length (expression_code decls a argument)) [] kind.Int (0 + expression_need argument)
      (value_of route scene argument)
  first_argument no_parts argument a n other pc scene some fits have has has_a s = absurd (let e = some in cc)
  first_argument (part_then (ranges_label ranges) commands more) argument a n other pc scene some fits have has has_a s =
      let e = expression_code decls a argument in
      let n1 = past n (ranges_set ranges) in
      let c = commands_code decls n1 commands in
      let d = parts_code decls e other (past n1 (commands_sets commands)) more in
      let t = e ++ instr.InSet n.ints ∷ [] in
      expression_runs program route decls scene have argument a pc [] kind.Int fits
      (has_front program.instrs pc e (instr.InSet n.ints ∷ []) (has_front program.instrs pc t (instr.JumpIfNot (length c + 1)
      ∷ (c ++ instr.Jump (length d) ∷ d)) has)) has_a s
  first_argument (part_then else_label commands more) argument a n other pc scene some fits have has has_a s =
      first_argument more argument a (past n (commands_sets commands)) (commands_code decls n commands) pc scene some fits have has has_a s

  -- what a `case` comes to, by what its parts come to for each int
  case_runs : (labelled : Bool) (argument : ExprView) (sets : SetCounts) (rest : List Instr) (pc : ℕ) (scene : Scene) (all : ℕ)
      (next : ℕ → Course) → kind_in decls argument ≡ Some kind.Int → HaveKinds decls scene.variables → expression_need argument ≤ all
      → HasAt program.instrs pc (opening_code labelled (expression_code decls sets argument) (past sets (sets_of argument)).ints rest)
      → HasSets program sets (sets_of argument) → HasSets program (past sets (sets_of argument)) (opening_sets labelled)
      → Stands program route scene pc []
      → (labelled ≡ true → HasAt program.instrs pc rest → Comes program route scene (pc + length (expression_code decls sets argument)) []
      kind.Int (0 + expression_need argument) (value_of route scene argument))
      → ((i : ℕ) (pc' : ℕ) → value_of route scene argument ≡ Some (value.Int i) → HasAt program.instrs pc' rest
      → Stands program route scene pc' [] → Runs (pc' + length rest) all (next i))
      → Runs (pc + length (opening_code labelled (expression_code decls sets argument) (past sets (sets_of argument)).ints rest)) all
      (for_int (value_of route scene argument) next)
  case_runs true argument sets rest pc scene all next fits have le has has_a has_set s first go =
      for_int_from scene _ _ (0 + expression_need argument) all (value_of route scene argument) next (omega arith) (first refl has)
      (λ i is. go i pc is has s)
  case_runs false argument sets rest pc scene all next fits have le has has_a has_set s first go =
      let e = expression_code decls sets argument in
      let n = past sets (sets_of argument) in
      let t = e ++ instr.InSet n.ints ∷ [] in
      let tail = instr.JumpIfNot (0 + 1) ∷ instr.Jump (length rest) ∷ rest in
      let h = has_front program.instrs pc t tail has in
      for_int_from scene _ _ (0 + expression_need argument) all (value_of route scene argument) next (omega arith)
      (expression_runs program route decls scene have argument sets pc [] kind.Int fits (has_front program.instrs pc e (instr.InSet n.ints ∷ []) h)
      has_a s)
      (λ i is. if_else_runs t [] rest pc scene (0 + expression_need argument) all (Some (value.Bool false)) (goes_on scene) (next i) (omega arith)
      has (question_comes program route decls scene have argument sets n [] pc i fits is h has_a has_set s)
      (λ h1 u. let at : pc + length t + 1 ≡ pc + length t + 1 + 0 = omega arith in
      inl (same_place program route scene _ _ [] at u, have))
      (λ h1 u. go i _ is h1 u))

  if_chosen : (b : Bool) (first second : Course) → chosen_by (Some (value.Bool b)) first second ≡ (if b then first else second)
  if_chosen true first second = refl
  if_chosen false first second = refl

  -- STORE
  stored : (scene : Scene) (pc : ℕ) (text : List ℕ) (k : Kind) (v : Value) → HaveKinds decls scene.variables
      → kind_named decls text ≡ Some k → kind_of_value v ≡ k → slice_get program.instrs pc ≡ Some (instr.Store (number_of decls text))
      → Stands program route scene pc (v ∷ [])
      → Leads (pc + 1) (goes_on (record { variables = assigned scene.variables text v; metric = scene.metric }))
  stored scene pc text k v have named is here s =
      let after : Scene = record { variables = assigned scene.variables text v; metric = scene.metric } in
      let a = is_assigned decls scene.variables text k v have named is in
      let h = held decls scene.variables text k have named in
      let within : number_of decls text < length (locals_of scene.variables) =
      slice_get_within (locals_of scene.variables) (number_of decls text) (Some h.value) h.in_local in
      let test : nat_lt (number_of decls text) (length (locals_of scene.variables)) ≡ true = grind (arith, nat_tests) in
      let step : carry_out program route (config_in program route scene pc (v ∷ [])) (Some (instr.Store (number_of decls text))) ≡ Going
      (config_in program route after (pc + 1) []) = rw (test, a.locals) refl in
      (goes_to program route scene after pc (pc + 1) (v ∷ []) [] (instr.Store (number_of decls text)) here (omega arith) step s, a.kinds)

  name_from : (scene : Scene) (pc : ℕ) (text : List ℕ) (k : Kind) (depth : ℕ) (o : Option Value) → HaveKinds decls scene.variables
      → kind_named decls text ≡ Some k → slice_get program.instrs pc ≡ Some (instr.Store (number_of decls text))
      → Comes program route scene pc [] k depth o → Runs (pc + 1) depth (set_to route scene (to_name text) o)
  name_from scene pc text k depth None have named here (inl g) = inl g
  name_from scene pc text k depth (Some v) have named here (inl g) = inl (stored scene pc text k v have named g.1 here g.0)
  name_from scene pc text k depth o have named here (inr f) = inr f

  -- RECEIVED, MAX and SETMETRIC
  metric_set : (scene : Scene) (pc n : ℕ) → HasAt program.instrs pc (instr.Received ∷ instr.Max ∷ instr.SetMetric ∷ [])
      → HaveKinds decls scene.variables → Stands program route scene pc (value.Int n ∷ [])
      → Leads (pc + 1 + 1 + 1) (goes_on (record { variables = scene.variables; metric = kept_in_range route n }))
  metric_set scene pc n has have s =
      let after : Scene = record { variables = scene.variables; metric = kept_in_range route n } in
      let s1 = put program route scene pc (value.Int n ∷ []) (value.Int n ∷ []) instr.Received (value.Int route.metric) has.0
      (omega arith) refl s in
      let s2 = replaced program route scene (pc + 1) (value.Int route.metric ∷ value.Int n ∷ []) [] instr.Max (value.Int
      (max n route.metric)) has.1.0 (omega arith) refl s1 in
      let step : carry_out program route (config_in program route scene (pc + 1 + 1) (value.Int (max n route.metric) ∷ []))
      (Some instr.SetMetric) ≡ Going (config_in program route after (pc + 1 + 1 + 1) []) = rw (not_lower n route.metric) refl in (
        goes_to program route scene after (pc + 1 + 1) (pc + 1 + 1 + 1) (value.Int (max n route.metric) ∷ []) [] instr.SetMetric has.1.1.0
            (omega arith) step s2,
        have,
      )

  metric_from : (scene : Scene) (pc depth : ℕ) (o : Option Value) → HaveKinds decls scene.variables
      → HasAt program.instrs pc (instr.Received ∷ instr.Max ∷ instr.SetMetric ∷ []) → Comes program route scene pc [] kind.Int depth o
      → Runs (pc + 1 + 1 + 1) depth (set_to route scene to_metric o)
  metric_from scene pc depth None have has (inl g) = inl g
  metric_from scene pc depth (Some (value.Int n)) have has (inl g) = inl (metric_set scene pc n has have g.0)
  metric_from scene pc depth (Some _) have has (inl g) = absurd (let e = g.1 in cc)
  metric_from scene pc depth o have has (inr f) = inr f

  -- an assignment
  assign_runs : (target : TargetView) (tree : ExprView) (sets : SetCounts) (pc : ℕ) (scene : Scene) → HasSameKind (target_kind decls target) (kind_in decls tree)
      → HaveKinds decls scene.variables → HasAt program.instrs pc (expression_code decls sets tree ++ target_code decls target)
      → HasSets program sets (sets_of tree) → Stands program route scene pc []
      → Runs (pc + length (expression_code decls sets tree ++ target_code decls target)) (target_need target (expression_need tree))
      (set_to route scene target (value_of route scene tree))
  assign_runs (to_name text) tree sets pc scene fits have has has_sets s =
      let c = expression_code decls sets tree in
      let last = instr.Store (number_of decls text) ∷ [] in
      let behind : pc + length c + 1 ≡ pc + length (c ++ last) = omega (arith, length-append c last) in
      let comes = expression_runs program route decls scene have tree sets pc [] fits.0 fits.2
      (has_front program.instrs pc c last has) has_sets s in
      runs_at _ _ _ _ behind
      (runs_deeper _ (0 + expression_need tree) (expression_need tree) (set_to route scene (to_name text) (value_of route scene tree))
      (omega arith)
      (name_from scene (pc + length c) text fits.0 (0 + expression_need tree) (value_of route scene tree) have fits.1
      (has_back program.instrs pc c last has).0 comes))
  assign_runs to_metric tree sets pc scene fits have has has_sets s =
      let c = expression_code decls sets tree in
      let last = instr.Received ∷ instr.Max ∷ instr.SetMetric ∷ [] in
      let is_int : kind_in decls tree ≡ Some kind.Int = (let e1 = fits.1 in let e2 = fits.2 in cc) in
      let behind : pc + length c + 1 + 1 + 1 ≡ pc + length (c ++ last) = omega (arith, length-append c last) in
      let comes = expression_runs program route decls scene have tree sets pc [] kind.Int is_int
      (has_front program.instrs pc c last has) has_sets s in
      runs_at _ _ _ _ behind
      (runs_deeper _ (0 + expression_need tree) (max (expression_need tree) 2) (set_to route scene to_metric (value_of route scene tree))
      (omega arith)
      (metric_from scene (pc + length c) (0 + expression_need tree) (value_of route scene tree) have
      (has_back program.instrs pc c last has) comes))
  assign_runs to_net tree sets pc scene fits have has has_sets s = absurd (let e = fits.1 in cc)

  mutual
    -- a command's code does what the command says
    pub command_runs : (command : CommandView) (sets : SetCounts) (pc : ℕ) (scene : Scene) → KindsFit decls command → HaveKinds decls scene.variables
        → HasAt program.instrs pc (command_code decls sets command) → HasSets program sets (command_sets command) → Stands program route scene pc []
        → Runs (pc + length (command_code decls sets command)) (command_need command) (course_of route command scene)
    command_runs empty sets pc scene fits have has has_sets s =
        let behind : pc ≡ pc + 0 = omega arith in
        inl (same_place program route scene pc _ [] behind s, have)
    command_runs (block body) sets pc scene fits have has has_sets s = commands_run body sets pc scene fits have has has_sets s
    command_runs (if_then test chosen) sets pc scene fits have has has_sets s =
        let sets' = past sets (sets_of test) in
        let t = expression_code decls sets test in
        let c = command_code decls sets' chosen in
        let pc1 = pc + length t in
        let all = max (expression_need test) (command_need chosen) in
        let h1 = has_back program.instrs pc t (instr.JumpIfNot (length c) ∷ c) has in
        let l1 = length-append t (instr.JumpIfNot (length c) ∷ c) in
        let behind : pc1 + 1 + length c ≡ pc + length (if_code t c) = omega (arith, l1) in
        let over : pc1 + (1 + length c) ≡ pc + length (if_code t c) = omega (arith, l1) in
        chosen_from scene pc1 (pc + length (if_code t c)) (0 + expression_need test) all (value_of route scene test)
        (course_of route chosen scene) (goes_on scene) (omega arith)
        (expression_runs program route decls scene have test sets pc [] kind.Bool fits.0 (has_front program.instrs pc t (instr.JumpIfNot
        (length c) ∷ c) has) (sets_front program sets (sets_of test) (command_sets chosen) has_sets) s)
        (λ u. runs_at _ _ _ _ behind (runs_deeper _ (command_need chosen) all _ (omega arith) (command_runs chosen sets'
        (pc1 + 1) scene fits.1 have h1.1 (sets_back program sets (sets_of test) (command_sets chosen) has_sets)
        (not_jumped program route scene pc1 (length c) [] h1.0 u))))
        (λ u. inl (
          same_place program route scene (pc1 + (1 + length c)) _ [] over (jumped_if_not program route scene pc1
              (length c) [] h1.0 u),
          have,
        ))
    command_runs (if_else test chosen other) sets pc scene fits have has has_sets s =
        let sets1 = past sets (sets_of test) in
        let sets2 = past sets1 (command_sets chosen) in
        let t = expression_code decls sets test in
        let c = command_code decls sets1 chosen in
        let d = command_code decls sets2 other in
        let tail = c ++ instr.Jump (length d) ∷ d in
        let pc1 = pc + length t in
        let pc2 = pc1 + 1 + length c in
        let all = max (expression_need test) (max (command_need chosen) (command_need other)) in
        let end = pc + length (if_else_code t c d) in
        let h1 = has_back program.instrs pc t (instr.JumpIfNot (length c + 1) ∷ tail) has in
        let h2 = has_back program.instrs (pc1 + 1) c (instr.Jump (length d) ∷ d) h1.1 in
        let l1 = length-append t (instr.JumpIfNot (length c + 1) ∷ tail) in
        let l2 = length-append c (instr.Jump (length d) ∷ d) in
        let over : pc2 + (1 + length d) ≡ end = omega (arith, l1, l2) in
        let to_other : pc1 + (1 + (length c + 1)) ≡ pc2 + 1 = omega arith in
        let behind : pc2 + 1 + length d ≡ end = omega (arith, l1, l2) in
        let sets_rest = sets_back program sets (sets_of test) (with_sets (command_sets chosen) (command_sets other)) has_sets in
        let first = course_of route chosen scene in
        chosen_from scene pc1 end (0 + expression_need test) all (value_of route scene test) first (course_of route other scene)
        (omega arith)
        (expression_runs program route decls scene have test sets pc [] kind.Bool fits.0 (has_front program.instrs pc t (instr.JumpIfNot
        (length c + 1) ∷ tail) has) (sets_front program sets (sets_of test) (with_sets (command_sets chosen) (command_sets other)) has_sets) s)
        (λ u. over_other pc2 end (length d) all first over h2.0 (runs_deeper _ (command_need chosen) all first (omega arith)
        (command_runs chosen sets1 (pc1 + 1) scene fits.1 have (has_front program.instrs (pc1 + 1) c (instr.Jump (length d) ∷ d) h1.1)
        (sets_front program sets1 (command_sets chosen) (command_sets other) sets_rest) (not_jumped program route scene pc1
        (length c + 1) [] h1.0 u))))
        (λ u. runs_at _ _ _ _ behind (runs_deeper _ (command_need other) all _ (omega arith) (command_runs other sets2
        (pc2 + 1) scene fits.2 have h2.1 (sets_back program sets1 (command_sets chosen) (command_sets other) sets_rest)
        (same_place program route scene _ (pc2 + 1) [] to_other (jumped_if_not program route scene pc1 (length c + 1) [] h1.0 u)))))
    command_runs (case argument parts) sets pc scene fits have has has_sets s =
        let all = max (expression_need argument) (parts_need parts) in
        let e = expression_code decls sets argument in
        let first = past sets (sets_of argument) in
        let opening = opening_sets (has_labelled parts) in
        let start = past first opening in
        let sets_rest = sets_back program sets (sets_of argument) (with_sets opening (parts_sets parts)) has_sets in
        let has_a = sets_front program sets (sets_of argument) (with_sets opening (parts_sets parts)) has_sets in
        case_runs (has_labelled parts) argument sets (parts_code decls e [] start parts) pc scene all
        (λ i. course_of_parts route parts i scene (goes_on scene)) fits.0 have (omega arith) has has_a
        (sets_front program first opening (parts_sets parts) sets_rest) s
        (λ some h. first_argument parts argument sets start [] pc scene some fits.0 have h has_a s)
        (λ i pc' is h u. parts_run parts argument sets start [] pc' scene all i (goes_on scene) fits.0 is fits.2 have (omega arith) (omega arith) h
        has_a (sets_back program first opening (parts_sets parts) sets_rest)
        (λ pc2 h2 u2. let at : pc2 ≡ pc2 + 0 = omega arith in inl (same_place program route scene pc2 _ [] at u2, have)) u)
    command_runs (assign target tree) sets pc scene fits have has has_sets s = assign_runs target tree sets pc scene fits have has has_sets s
    command_runs (accept has_text) sets pc scene fits have has has_sets s =
        inl (carried_over program route (config_in program route scene pc []) instr.Accept _ s.reached has.0 refl)
    command_runs (reject has_text) sets pc scene fits have has has_sets s =
        inl (carried_over program route (config_in program route scene pc []) instr.Reject _ s.reached has.0 refl)

    pub commands_run : (commands : CommandsView) (sets : SetCounts) (pc : ℕ) (scene : Scene) → KindsFitAll decls commands → HaveKinds decls scene.variables
        → HasAt program.instrs pc (commands_code decls sets commands) → HasSets program sets (commands_sets commands)
        → Stands program route scene pc []
        → Runs (pc + length (commands_code decls sets commands)) (commands_need commands) (course_of_all route commands scene)
    commands_run no_commands sets pc scene fits have has has_sets s =
        let behind : pc ≡ pc + 0 = omega arith in
        inl (same_place program route scene pc _ [] behind s, have)
    commands_run (command_then first more) sets pc scene fits have has has_sets s =
        let sets' = past sets (command_sets first) in
        let c = command_code decls sets first in
        let d = commands_code decls sets' more in
        let pc1 = pc + length c in
        let all = max (command_need first) (commands_need more) in
        let behind : pc1 + length d ≡ pc + length (c ++ d) = omega (arith, length-append c d) in
        runs_at _ _ _ _ behind
        (then_from pc1 (pc1 + length d) (command_need first) all (course_of route first scene) (course_of_all route more) (omega arith)
        (command_runs first sets pc scene fits.0 have (has_front program.instrs pc c d has) (sets_front program sets (command_sets first)
        (commands_sets more) has_sets) s)
        (λ scene' have' u. runs_deeper _ (commands_need more) all _ (omega arith) (commands_run more sets' pc1 scene' fits.1 have'
        (has_back program.instrs pc c d has) (sets_back program sets (command_sets first) (commands_sets more) has_sets) u)))

    -- the code of the parts of a `case` does what the parts say for this int
    pub parts_run : (parts : PartsView) (argument : ExprView) (a n : SetCounts) (other : List Instr) (pc : ℕ) (scene : Scene) (all i : ℕ)
        (otherwise : Course) → kind_in decls argument ≡ Some kind.Int → value_of route scene argument ≡ Some (value.Int i)
        → KindsFitParts decls parts → HaveKinds decls scene.variables → expression_need argument ≤ all → parts_need parts ≤ all
        → HasAt program.instrs pc (parts_code decls (expression_code decls a argument) other n parts) → HasSets program a (sets_of argument)
        → HasSets program n (parts_sets parts)
        → ((pc' : ℕ) → HasAt program.instrs pc' other → Stands program route scene pc' [] → Runs (pc' + length other) all otherwise)
        → Stands program route scene pc []
        → Runs (pc + length (parts_code decls (expression_code decls a argument) other n parts)) all
        (course_of_parts route parts i scene otherwise)
    parts_run no_parts argument a n other pc scene all i otherwise fits is parts_fit have le needs has has_a has_sets go s = go pc has s
    parts_run (part_then (ranges_label ranges) commands more) argument a n other pc scene all i otherwise fits is parts_fit have le needs has has_a
        has_sets go s =
        let e = expression_code decls a argument in
        let n1 = past n (ranges_set ranges) in
        let n2 = past n1 (commands_sets commands) in
        let c = commands_code decls n1 commands in
        let d = parts_code decls e other n2 more in
        let t = e ++ instr.InSet n.ints ∷ [] in
        let b = holds_any i (map range_of ranges) in
        let first = course_of_all route commands scene in
        let second = course_of_parts route more i scene otherwise in
        let rest = with_sets (commands_sets commands) (parts_sets more) in
        let sets_rest = sets_back program n (ranges_set ranges) rest has_sets in
        subst (Runs (pc + length (if_else_code t c d)) all) (if_chosen b first second)
        (if_else_runs t c d pc scene (0 + expression_need argument) all (Some (value.Bool b)) first second (omega arith) has
        (question_comes program route decls scene have argument a n ranges pc i fits is
        (has_front program.instrs pc t (instr.JumpIfNot (length c + 1) ∷ (c ++ instr.Jump (length d) ∷ d)) has) has_a
        (sets_front program n (ranges_set ranges) rest has_sets) s)
        (λ h u. runs_deeper _ (commands_need commands) all first (omega arith) (commands_run commands n1 _ scene parts_fit.0 have h
        (sets_front program n1 (commands_sets commands) (parts_sets more) sets_rest) u))
        (λ h u. parts_run more argument a n2 other _ scene all i otherwise fits is parts_fit.1 have le (omega arith) h has_a
        (sets_back program n1 (commands_sets commands) (parts_sets more) sets_rest) go u))
    parts_run (part_then else_label commands more) argument a n other pc scene all i otherwise fits is parts_fit have le needs has has_a has_sets
        go s =
        parts_run more argument a (past n (commands_sets commands)) (commands_code decls n commands) pc scene all i
        (course_of_all route commands scene) fits is parts_fit.1 have le (omega arith) has has_a
        (sets_back program n (commands_sets commands) (parts_sets more) has_sets)
        (λ pc' h u. runs_deeper _ (commands_need commands) all _ (omega arith) (commands_run commands n pc' scene parts_fit.0 have h
        (sets_front program n (commands_sets commands) (parts_sets more) has_sets) u))
        s
