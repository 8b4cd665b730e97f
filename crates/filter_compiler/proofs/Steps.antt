-- Single steps of the machine, from one place to the next.
use Rattle.std.proofs.Common.{◌≡◌, ℕ, suc, ◌+◌, ◌<◌, ◌≤◌, ◌⊎◌, inl, inr, Bool, true, false, List, ◌∷◌, length, Some, refl, ap, ◌∙◌, subst}
use Rattle.std.proofs.Common.{arith}
use Rattle.std.specs.Prelude.{nat_lt, slice_get}
use Rattle.std.proofs.lemmas.Bool.Decides.{nat_tests}
use Rattle.filter_code.specs.declared.instruction.Instr.{Instr}
use Rattle.filter_code.specs.declared.instruction.Instr.TheVariants as instr
use Rattle.filter_code.specs.declared.outcome.FaultKind.TheVariants as fault
use Rattle.filter_code.specs.declared.outcome.Outcome.TheVariants as outcome
use Rattle.filter_code.specs.declared.value.Value.{Value}
use Rattle.filter_code.specs.declared.value.Value.TheVariants as value
use Rattle.filter_code.specs.RouteView.{RouteView}
use Rattle.filter_code.specs.Machine.{Config, Going, unless_full, carry_out, outcome_of}
use Rattle.filter_code.specs.CodeView.{CodeView}
use Rattle.filter_code.specs.Steps.{config_of}
use Rattle.filter_compiler.proofs.Reaching.{Reaches, carried_on, carried_over}
use Rattle.filter_compiler.specs.Meaning.{Scene}
use Rattle.filter_compiler.proofs.Scenes.{locals_of}

module _ (program : CodeView) (route : RouteView) where
  -- a configuration with the variables and the metric of a scene
  abbrev pub config_in : Scene → ℕ → List Value → Config
  config_in scene pc stack = config_of pc stack (locals_of scene.variables) scene.metric

  -- the run comes to a place in a scene, with a stack within its limit
  pub record Stands (scene : Scene) (pc : ℕ) (stack : List Value) : Type 0 where
    pub reached : Reaches program route (config_in scene pc stack)
    pub room : length stack ≤ 32

  -- the run ends since the stack would hold too many values, and there were to be so many
  pub record Fills (depth : ℕ) : Type 0 where
    pub at : ℕ
    pub ended : outcome.Fault fault.FullStack at ≡ outcome_of program route
    pub over : 32 < depth

  -- the run ends by a division by zero
  pub record Divides : Type 0 where
    pub at : ℕ
    pub ended : outcome.Fault fault.ZeroDivisor at ≡ outcome_of program route

  pub fills_more : (depth more : ℕ) → depth ≤ more → Fills depth → Fills more
  fills_more depth more le f = let over : 32 < depth = f.over in record { at = f.at; ended = f.ended; over = omega arith }

  -- the same place, by another number
  pub same_place : (scene : Scene) (pc pc' : ℕ) (stack : List Value) → pc ≡ pc' → Stands scene pc stack → Stands scene pc' stack
  same_place scene pc pc' stack e s = subst (λ n. Stands scene n stack) e s

  -- an instruction that goes on to a configuration
  pub goes_to : (scene scene' : Scene) (pc pc' : ℕ) (stack stack' : List Value) (i : Instr) → slice_get program.instrs pc ≡ Some i
      → length stack' ≤ 32 → carry_out program route (config_in scene pc stack) (Some i) ≡ Going (config_in scene' pc' stack')
      → Stands scene pc stack → Stands scene' pc' stack'
  goes_to scene scene' pc pc' stack stack' i here room e s =
      record { reached = carried_on program route (config_in scene pc stack) i (config_in scene' pc' stack') s.reached here e; room = room }

  pushed_if : (full : Bool) (scene : Scene) (pc : ℕ) (stack : List Value) (i : Instr) (v : Value) → nat_lt 32 (suc (length stack)) ≡ full
      → slice_get program.instrs pc ≡ Some i
      → carry_out program route (config_in scene pc stack) (Some i) ≡ unless_full full pc (Going (config_in scene (pc + 1) (v ∷ stack)))
      → Stands scene pc stack → Stands scene (pc + 1) (v ∷ stack) ⊎ Fills (length stack + 1)
  pushed_if true scene pc stack i v test here e s =
      inr (record {
        at = pc;
        ended = carried_over program route (config_in scene pc stack) i _ s.reached here e;
        over = grind (arith, nat_tests);
      })
  pushed_if false scene pc stack i v test here e s =
      let room : suc (length stack) ≤ 32 = grind (arith, nat_tests) in
      inl (goes_to scene scene pc (pc + 1) stack (v ∷ stack) i here room e s)

  -- an instruction that puts a value on the stack, where there is room for it
  pub pushed : (scene : Scene) (pc : ℕ) (stack : List Value) (i : Instr) (v : Value) → slice_get program.instrs pc ≡ Some i
      → carry_out program route (config_in scene pc stack) (Some i) ≡ unless_full (nat_lt 32 (suc (length stack))) pc
      (Going (config_in scene (pc + 1) (v ∷ stack))) → Stands scene pc stack → Stands scene (pc + 1) (v ∷ stack) ⊎ Fills (length stack + 1)
  pushed scene pc stack i v here e s = pushed_if _ scene pc stack i v refl here e s

  -- an instruction that puts a value on what it leaves of the stack, where there is room for it
  pub put : (scene : Scene) (pc : ℕ) (old stack : List Value) (i : Instr) (v : Value) → slice_get program.instrs pc ≡ Some i
      → suc (length stack) ≤ 32
      → carry_out program route (config_in scene pc old) (Some i) ≡ unless_full (nat_lt 32 (suc (length stack))) pc
      (Going (config_in scene (pc + 1) (v ∷ stack))) → Stands scene pc old → Stands scene (pc + 1) (v ∷ stack)
  put scene pc old stack i v here room e s =
      let test : nat_lt 32 (suc (length stack)) ≡ false = grind (arith, nat_tests) in
      let e' : carry_out program route (config_in scene pc old) (Some i) ≡ Going (config_in scene (pc + 1) (v ∷ stack)) =
      e ∙ ap (λ full. unless_full full pc (Going (config_in scene (pc + 1) (v ∷ stack)))) test in
      goes_to scene scene pc (pc + 1) old (v ∷ stack) i here room e' s

  -- in the place of others there is room
  pub replaced : (scene : Scene) (pc : ℕ) (old stack : List Value) (i : Instr) (v : Value) → slice_get program.instrs pc ≡ Some i
      → suc (length stack) ≤ length old
      → carry_out program route (config_in scene pc old) (Some i) ≡ unless_full (nat_lt 32 (suc (length stack))) pc
      (Going (config_in scene (pc + 1) (v ∷ stack))) → Stands scene pc old → Stands scene (pc + 1) (v ∷ stack)
  replaced scene pc old stack i v here fewer e s =
      let old_room : length old ≤ 32 = s.room in
      put scene pc old stack i v here (omega arith) e s

  -- jumps
  pub jumped : (scene : Scene) (pc k : ℕ) (stack : List Value) → slice_get program.instrs pc ≡ Some (instr.Jump k)
      → Stands scene pc stack → Stands scene (pc + (1 + k)) stack
  jumped scene pc k stack here s = goes_to scene scene pc (pc + (1 + k)) stack stack (instr.Jump k) here s.room refl s

  pub not_jumped : (scene : Scene) (pc k : ℕ) (stack : List Value) → slice_get program.instrs pc ≡ Some (instr.JumpIfNot k)
      → Stands scene pc (value.Bool true ∷ stack) → Stands scene (pc + 1) stack
  not_jumped scene pc k stack here s =
      let room : suc (length stack) ≤ 32 = s.room in
      goes_to scene scene pc (pc + 1) (value.Bool true ∷ stack) stack (instr.JumpIfNot k) here (omega arith) refl s

  pub jumped_if_not : (scene : Scene) (pc k : ℕ) (stack : List Value) → slice_get program.instrs pc ≡ Some (instr.JumpIfNot k)
      → Stands scene pc (value.Bool false ∷ stack) → Stands scene (pc + (1 + k)) stack
  jumped_if_not scene pc k stack here s =
      let room : suc (length stack) ≤ 32 = s.room in
      goes_to scene scene pc (pc + (1 + k)) (value.Bool false ∷ stack) stack (instr.JumpIfNot k) here (omega arith) refl s
