-- How a told run grows, step by step, and that it stays as it is once it has ended.
use Rattle.std.proofs.Common.{◌≡◌, ℕ, zero, suc, ◌+◌, ◌-◌, ◌<◌, ◌≤◌, List, [], ◌++◌, length, refl, sym, ap, ◌∙◌, add-zero, add-suc, add-one, arith}
use Rattle.std.proofs.lemmas.List.{append-nil}
use Rattle.filter_code.specs.CodeView.{CodeView}
use Rattle.filter_code.specs.Machine.{Config, State, Going, Ended, after, end_of, next, outcome_of, start, step}
use Rattle.filter_code.specs.RouteView.{RouteView}
use Rattle.filter_code.specs.declared.instruction.Instr.{Instr}
use Rattle.filter_code.specs.declared.outcome.Outcome.{Outcome}
use Rattle.filter_code.proofs.Runs.{after-suc}
use Rattle.filter_traces.specs.Steps.{all_lines, deciding_place, last_place, line_between, lines_of, place_or}
use Rattle.filter_traces.specs.TracedView.{TracedView}

-- the steps are no more than there are instructions
pub few_steps : (program code : CodeView) (instrs : List Instr) (n : ℕ) → code ≡ program → instrs ≡ code.instrs → n < length instrs + 1
    → n ≤ length program.instrs
few_steps program code instrs n same is below =
    let counted : length instrs ≡ length program.instrs = ap length is ∙ ap (λ (p : CodeView). length p.instrs) same in
    omega arith

-- no step
pub begun : (program : CodeView) (route : RouteView) → after program route 0 ≡ Going (start program route)
unfolding after
begun program route = refl

-- one more step
pub after_more : (program : CodeView) (route : RouteView) (n : ℕ) (c : Config) (s : State) → after program route n ≡ Going c
    → step program route c ≡ s → after program route (n + 1) ≡ s
after_more program route n c s here e = after-suc program route n ∙ (ap (next program route) here ∙ e)

-- what has ended stays so
pub stays : (program : CodeView) (route : RouteView) (n more : ℕ) (end : Outcome) → after program route n ≡ Ended end
    → after program route (n + more) ≡ Ended end
unfolding after
stays program route n zero end e = rw add-zero e
stays program route n (suc more) end e = rw add-suc (ap (next program route) (stays program route n more end e))

-- what is told of one step more
lines-suc : (t : TracedView) (route : RouteView) (n : ℕ)
    → lines_of t route (n + 1) ≡ lines_of t route n ++ line_between t (after t.program route n) (after t.program route (n + 1))
unfolding lines_of
lines-suc t route n = rw add-one refl

pub none_told : (t : TracedView) (route : RouteView) → lines_of t route 0 ≡ []
unfolding lines_of
none_told t route = refl

pub lines_more : (t : TracedView) (route : RouteView) (n : ℕ) (c : Config) (s : State) → after t.program route n ≡ Going c
    → step t.program route c ≡ s → lines_of t route (n + 1) ≡ lines_of t route n ++ line_between t (Going c) s
lines_more t route n c s here e =
    lines-suc t route n
    ∙ (ap (λ (a : State). lines_of t route n ++ line_between t a (after t.program route (n + 1))) here
    ∙ ap (λ (a : State). lines_of t route n ++ line_between t (Going c) a) (after_more t.program route n c s here e))

lines_still : (t : TracedView) (route : RouteView) (n : ℕ) (end : Outcome) → after t.program route n ≡ Ended end
    → lines_of t route (n + 1) ≡ lines_of t route n
lines_still t route n end e =
    lines-suc t route n
    ∙ (ap (λ (a : State). lines_of t route n ++ line_between t a (after t.program route (n + 1))) e ∙ append-nil (lines_of t route n))

lines_stay : (t : TracedView) (route : RouteView) (n more : ℕ) (end : Outcome) → after t.program route n ≡ Ended end
    → lines_of t route (n + more) ≡ lines_of t route n
lines_stay t route n zero end e = rw add-zero refl
lines_stay t route n (suc more) end e =
    let next_one : n + suc more ≡ (n + more) + 1 = omega arith in
    ap (lines_of t route) next_one
    ∙ (lines_still t route (n + more) end (stays t.program route n more end e) ∙ lines_stay t route n more end e)

-- the last place after one step more
place-suc : (program : CodeView) (route : RouteView) (n : ℕ)
    → last_place program route (n + 1) ≡ place_or (last_place program route n) (after program route n)
unfolding last_place
place-suc program route n = rw add-one refl

pub no_place : (program : CodeView) (route : RouteView) → last_place program route 0 ≡ 0
unfolding last_place
no_place program route = refl

pub place_more : (program : CodeView) (route : RouteView) (n : ℕ) (c : Config) → after program route n ≡ Going c
    → last_place program route (n + 1) ≡ c.pc
place_more program route n c here = place-suc program route n ∙ ap (place_or (last_place program route n)) here

place_stays : (program : CodeView) (route : RouteView) (n more : ℕ) (end : Outcome) → after program route n ≡ Ended end
    → last_place program route (n + more) ≡ last_place program route n
place_stays program route n zero end e = rw add-zero refl
place_stays program route n (suc more) end e =
    let next_one : n + suc more ≡ (n + more) + 1 = omega arith in
    ap (last_place program route) next_one
    ∙ (place-suc program route (n + more)
    ∙ (ap (place_or (last_place program route (n + more))) (stays program route n more end e) ∙ place_stays program route n more end e))

-- A step ends the run: its outcome, all that is told of it, and where it was decided.
module _ (t : TracedView) (route : RouteView) (n : ℕ) (c : Config) (end : Outcome) (few : n ≤ length t.program.instrs)
    (here : after t.program route n ≡ Going c) (ends : step t.program route c ≡ Ended end) where
  rest_is : (n + 1) + (length t.program.instrs - n) ≡ length t.program.instrs + 1
  rest_is = omega arith

  there : after t.program route (n + 1) ≡ Ended end
  there = after_more t.program route n c (Ended end) here ends

  pub ended_outcome : end ≡ outcome_of t.program route
  ended_outcome = sym (ap end_of (rw rest_is at (stays t.program route (n + 1) (length t.program.instrs - n) end there)))

  pub ended_lines : all_lines t route ≡ lines_of t route (n + 1)
  ended_lines = rw rest_is at (lines_stay t route (n + 1) (length t.program.instrs - n) end there)

  pub ended_place : deciding_place t.program route ≡ c.pc
  ended_place =
      let stayed = rw rest_is at (place_stays t.program route (n + 1) (length t.program.instrs - n) end there) in
      stayed ∙ place_more t.program route n c here
