-- What instructions do on all routes of a class.
use Rattle.std.specs.Prelude.{◌≡◌, ℕ, ◌+◌, ◌<◌, Bool, true, false, Option, Some, List, ◌∷◌, length}
use Rattle.filter_code.specs.Limits.{stack_limit}
use Rattle.filter_code.specs.declared.instruction.Instr.{Instr}
use Rattle.filter_code.specs.CodeView.{CodeView}
use Rattle.filter_code.specs.Machine.{Going, Ended, carry_out, outcome_of}
use Rattle.filter_diff.specs.Classes.{Always}
use Rattle.filter_diff.specs.Endings.{outcome_at}
use Rattle.filter_diff.specs.Symbols.{config_at}
use Rattle.filter_diff.specs.declared.class.Class.{Class}
use Rattle.filter_diff.specs.declared.symbol.SymbolicValue.{SymbolicValue}
use Rattle.filter_diff.specs.declared.symbol.SymbolicValue.TheVariants as symbol
use Rattle.filter_diff.specs.declared.turn.Turn.{Turn}
use Rattle.filter_diff.specs.declared.turn.Turn.TheVariants as turn

-- an instruction changes nothing but the stack, and the next one follows
abbrev pub Restacks : CodeView → Class → Instr → List SymbolicValue → List SymbolicValue → Bool → Type 0
Restacks program class i before after false = Unit {0}
Restacks program class i before after true = Always class (λ route. (pc : ℕ) (locals : List (Option SymbolicValue)) (metric : Option ℕ) →
    carry_out program route (config_at route pc before locals metric) (Some i) ≡ Going (config_at route (pc + 1) after locals metric))

-- the parts of a configuration
pub record Parts : Type 0 where
  pub pc : ℕ
  pub stack : List SymbolicValue
  pub locals : List (Option SymbolicValue)
  pub metric : Option ℕ

-- an instruction takes the one configuration to the other, or ends the run, as a turn says; one that asks says nothing
abbrev pub Takes : CodeView → Class → Instr → Parts → Parts → Turn → Type 0
Takes program class i before after turn.On = Always class (λ route.
    carry_out program route (config_at route before.pc before.stack before.locals before.metric) (Some i)
    ≡ Going (config_at route (after.pc + 1) after.stack after.locals after.metric))
Takes program class i before after (turn.Ended end) = Always class (λ route.
    carry_out program route (config_at route before.pc before.stack before.locals before.metric) (Some i)
    ≡ Ended (outcome_at route end))
Takes program class i before after _ = Unit {0}

-- all runs end so
abbrev pub EndSo : CodeView → Class → Turn → Type 0
EndSo program class (turn.Ended end) = Always class (λ route. outcome_of program route ≡ outcome_at route end)
EndSo program class _ = Unit {0}

-- a turn that goes on has put a symbol on the stack, in which there was room; none ends the run
abbrev pub IsGiven : SymbolicValue → List SymbolicValue → List SymbolicValue → Turn → Type 0
IsGiven value before after turn.On = (after ≡ value ∷ before) × (length before < stack_limit)
IsGiven value before after (turn.Ended end) = ⊥
IsGiven value before after _ = Unit {0}

-- the same of a metric that is known
abbrev pub IsGivenIfKnown : Option ℕ → List SymbolicValue → List SymbolicValue → Turn → Type 0
IsGivenIfKnown metric before after turn.On = (m : ℕ) × (metric ≡ Some m) × (after ≡ symbol.Int m ∷ before) × (length before < stack_limit)
IsGivenIfKnown metric before after (turn.Ended end) = ⊥
IsGivenIfKnown metric before after _ = Unit {0}
