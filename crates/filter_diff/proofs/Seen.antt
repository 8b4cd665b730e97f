-- What the run on one route comes to, step by step.
use Rattle.std.proofs.Common.{◌≡◌, ◌⊎◌, inl, inr, ℕ, ◌+◌, Bool, true, false, Some, None, List, [], ◌∷◌}
use Rattle.std.proofs.Common.{refl, sym, ◌∙◌, ap, subst}
use Rattle.std.specs.Prelude.{slice_get}
use Rattle.filter_code.specs.declared.instruction.Instr.{Instr}
use Rattle.filter_code.specs.declared.instruction.Instr.TheVariants as instr
use Rattle.filter_code.specs.declared.outcome.FaultKind.{FaultKind}
use Rattle.filter_code.specs.declared.outcome.FaultKind.TheVariants as fault
use Rattle.filter_code.specs.declared.outcome.Outcome.{Outcome}
use Rattle.filter_code.specs.declared.outcome.Outcome.TheVariants as outcome
use Rattle.filter_code.specs.declared.value.Value.{Value}
use Rattle.filter_code.specs.declared.value.Value.TheVariants as value
use Rattle.filter_code.specs.CodeView.{CodeView}
use Rattle.filter_code.specs.RouteView.{RouteView}
use Rattle.filter_code.specs.Machine.{Config, State, Ended, Going, after, carry_out, next, start, step}
use Rattle.filter_code.proofs.Runs.{after-suc, begun_in}
use Rattle.filter_diff.specs.Marking.{AreAllMarked, AreSound, Extend, IsSeen, IsUnseen, joined}
use Rattle.filter_diff.specs.Parts.{IsIn}
use Rattle.filter_diff.specs.Reaching.{AreOnTop, Comes, IsCondition, IsMax, IsOnTop, IsSound, NeverFaultsOn, has_truth}
use Rattle.filter_diff.specs.declared.mark.Mark.{Mark}
use Rattle.filter_diff.proofs.Marking.{added_more, extend_further, marked_at, marked_more, or_either, set_from, truth_either}
use Rattle.filter_diff.proofs.Reached.{AreMarkedBefore, all_marked, marked_next, none_before, sound_at}

-- a run came to a configuration, and what it came to before is marked
pub record SeenTo (program : CodeView) (route : RouteView) (marks : List Mark) (c : Config) : Type 0 where
  pub steps : ℕ
  pub going : after program route steps ≡ Going c
  pub marked : AreMarkedBefore program marks route steps

pub seen_none : (program : CodeView) (route : RouteView) (marks : List Mark) (c : Config) → c ≡ start program route
    → SeenTo program route marks c
seen_none program route marks c is = record {
  steps = 0;
  going = (begun_in program route).is_there ∙ ap Going (sym is);
  marked = none_before program marks route;
}

-- one step more
next_state : (program : CodeView) (route : RouteView) (n : ℕ) (c : Config) (state : State) → after program route n ≡ Going c
    → step program route c ≡ state → after program route (n + 1) ≡ state
next_state program route n c state going stepped =
    after-suc program route n ∙ (ap (next program route) going ∙ stepped)

module _ (program : CodeView) (route : RouteView) (i : Instr) (c : Config) (first before marks : List Mark)
    (here : slice_get program.instrs c.pc ≡ Some i) (noted : IsSeen i c before marks true) (seen : SeenTo program route before c) where
  marked_too : AreMarkedBefore program marks route (seen.steps + 1)
  marked_too =
      let more = added_more noted.0 c.pc before marks noted.2 in
      marked_next program marks route seen.steps c seen.going (marked_at program i noted.0 c before marks here noted.1 noted.2)
      (λ k h d going. marked_more program before marks d more (seen.marked k h d going))

  pub seen_more : (d : Config) → step program route c ≡ Going d → SeenTo program route marks d
  seen_more d stepped = record {
    steps = seen.steps + 1;
    going = next_state program route seen.steps c (Going d) seen.going stepped;
    marked = marked_too;
  }

  pub seen_end : (end : Outcome) → step program route c ≡ Ended end → AreAllMarked program marks route
  seen_end end stepped =
      all_marked program marks route (seen.steps + 1) end (next_state program route seen.steps c (Ended end) seen.going stepped) marked_too

  pub seen_extend : Extend first before → Extend first marks
  seen_extend more = extend_further first before marks more (added_more noted.0 c.pc before marks noted.2)

  -- what is marked is so
  module _ (size : ℕ) (is_in : IsIn size route) where
    comes : Comes program size c.pc c
    comes = record { route = route; is_in = is_in; steps = seen.steps; going = seen.going; here = refl }

    condition_of : (truth : Bool) (had : Mark) → IsSound program size c.pc had
        → (has_truth truth had ≡ true) ⊎ (has_truth truth noted.0 ≡ true)
        → IsCondition program c.pc × (d : Config) × Comes program size c.pc d × IsOnTop truth d
    condition_of truth had sound (inl e) = sound.condition truth e
    condition_of truth had sound (inr e) =
        let shown = noted.1.real truth e in
        let is : slice_get program.instrs c.pc ≡ Some (instr.JumpIfNot shown.0.0) = here ∙ ap Some shown.0.1 in
        (record { skipped = shown.0.0; instruction = is }, c, comes, shown.1)

    raised_of : (had : Mark) → IsSound program size c.pc had → (had.is_raised ≡ true) ⊎ (noted.0.is_raised ≡ true)
        → IsMax program c.pc × (d : Config) × Comes program size c.pc d × AreOnTop true d
    raised_of had sound (inl e) = sound.raised e
    raised_of had sound (inr e) =
        let shown = noted.1.really_raised e in
        (here ∙ ap Some shown.0, c, comes, shown.1)

    sound_joined : (had : Mark) → IsSound program size c.pc had → IsSound program size c.pc (joined had noted.0)
    sound_joined had sound = record {
      reached = λ e. (c, comes);
      condition = λ truth e. condition_of truth had sound (truth_either truth had noted.0 e);
      raised = λ e. raised_of had sound (or_either had.is_raised noted.0.is_raised e);
    }

    pub seen_sound : (AreSound program size first → AreSound program size before) → AreSound program size first
        → AreSound program size marks
    seen_sound so_far at_first place now there =
        let added = noted.2 in
        let sound = so_far at_first in
        sound_at program size c.pc noted.0 before marks added sound (sound_joined added.had (sound c.pc added.had added.there)) place now
        (set_from before c.pc (joined added.had noted.0) place now
        (subst (λ (ms : List Mark). slice_get ms place ≡ Some now) added.set there))

-- a JUMPIFNOT without a bool on top is a fault, and a MAX without two ints
abbrev Faults : CodeView → RouteView → Config → Instr → Type 0
Faults program route c i = (why : FaultKind) × (carry_out program route c (Some i) ≡ Ended (outcome.Fault why c.pc))

abbrev with_stack : Config → List Value → Config
with_stack c stack = record { pc = c.pc; frame = record { stack = stack; locals = c.frame.locals }; metric = c.metric }

jump_faults : (program : CodeView) (route : RouteView) (c : Config) (skipped : ℕ) (stack : List Value)
    → ((truth : Bool) → slice_get stack 0 ≡ Some (value.Bool truth) → ⊥) → Faults program route (with_stack c stack) (instr.JumpIfNot skipped)
jump_faults program route c skipped [] none = (fault.MissingOperand, refl)
jump_faults program route c skipped (value.Int n ∷ rest) none = (fault.WrongKind, refl)
jump_faults program route c skipped (value.Bool b ∷ rest) none = absurd (none b refl)
jump_faults program route c skipped (value.Addr a ∷ rest) none = (fault.WrongKind, refl)
jump_faults program route c skipped (value.Net bits ∷ rest) none = (fault.WrongKind, refl)

max_faults : (program : CodeView) (route : RouteView) (c : Config) (stack : List Value)
    → ((upper lower : ℕ) → slice_get stack 0 ≡ Some (value.Int upper) → slice_get stack 1 ≡ Some (value.Int lower) → ⊥)
    → Faults program route (with_stack c stack) instr.Max
max_faults program route c [] none = (fault.MissingOperand, refl)
max_faults program route c (x ∷ []) none = (fault.MissingOperand, refl)
max_faults program route c (value.Int a ∷ (value.Int b ∷ rest)) none = absurd (none a b refl refl)
max_faults program route c (value.Int a ∷ (value.Bool b ∷ rest)) none = (fault.WrongKind, refl)
max_faults program route c (value.Int a ∷ (value.Addr b ∷ rest)) none = (fault.WrongKind, refl)
max_faults program route c (value.Int a ∷ (value.Net b ∷ rest)) none = (fault.WrongKind, refl)
max_faults program route c (value.Bool a ∷ (value.Int b ∷ rest)) none = (fault.WrongKind, refl)
max_faults program route c (value.Bool a ∷ (value.Bool b ∷ rest)) none = (fault.WrongKind, refl)
max_faults program route c (value.Bool a ∷ (value.Addr b ∷ rest)) none = (fault.WrongKind, refl)
max_faults program route c (value.Bool a ∷ (value.Net b ∷ rest)) none = (fault.WrongKind, refl)
max_faults program route c (value.Addr a ∷ (value.Int b ∷ rest)) none = (fault.WrongKind, refl)
max_faults program route c (value.Addr a ∷ (value.Bool b ∷ rest)) none = (fault.WrongKind, refl)
max_faults program route c (value.Addr a ∷ (value.Addr b ∷ rest)) none = (fault.WrongKind, refl)
max_faults program route c (value.Addr a ∷ (value.Net b ∷ rest)) none = (fault.WrongKind, refl)
max_faults program route c (value.Net a ∷ (value.Int b ∷ rest)) none = (fault.WrongKind, refl)
max_faults program route c (value.Net a ∷ (value.Bool b ∷ rest)) none = (fault.WrongKind, refl)
max_faults program route c (value.Net a ∷ (value.Addr b ∷ rest)) none = (fault.WrongKind, refl)
max_faults program route c (value.Net a ∷ (value.Net b ∷ rest)) none = (fault.WrongKind, refl)

unseen_faults : (program : CodeView) (route : RouteView) (c : Config) (i : Instr)
    → IsUnseen i (slice_get c.frame.stack 0) (slice_get c.frame.stack 1) → Faults program route c i
unseen_faults program route c i (inl ((skipped, is), none)) =
    subst (Faults program route c) (sym is) (jump_faults program route c skipped c.frame.stack none)
unseen_faults program route c i (inr (is, none)) =
    subst (Faults program route c) (sym is) (max_faults program route c c.frame.stack none)

pub unseen_never : (program : CodeView) (route : RouteView) (c : Config) (i : Instr) (before marks : List Mark)
    → slice_get program.instrs c.pc ≡ Some i → IsSeen i c before marks false → SeenTo program route before c
    → NeverFaultsOn program route → ⊥
unseen_never program route c i before marks here noted seen never =
    let faults = unseen_faults program route c i noted.1 in
    let stepped : step program route c ≡ Ended (outcome.Fault faults.0 c.pc) = ap (carry_out program route c) here ∙ faults.1 in
    never (seen.steps + 1) faults.0 c.pc
    (next_state program route seen.steps c (Ended (outcome.Fault faults.0 c.pc)) seen.going stepped)

pub outside_never : (program : CodeView) (route : RouteView) (c : Config) (marks : List Mark) → slice_get program.instrs c.pc ≡ None
    → SeenTo program route marks c → NeverFaultsOn program route → ⊥
outside_never program route c marks outside seen never =
    let stepped : step program route c ≡ Ended (outcome.Fault fault.OutsideCode c.pc) = ap (carry_out program route c) outside in
    never (seen.steps + 1) fault.OutsideCode c.pc
    (next_state program route seen.steps c (Ended (outcome.Fault fault.OutsideCode c.pc)) seen.going stepped)
