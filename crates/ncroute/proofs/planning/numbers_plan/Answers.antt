-- Whether the history is saved, a copy of the words says too.
use Rattle.std.proofs.Common.{◌≡◌, ℕ, Bool, true, Option, Result, Ok, Err, IfOk, IfErr, Global, subst}
use Rattle.std.specs.Prelude.{OnOk, String, is_some}
use Rattle.command_line.specs.declared.router_words.RouterWords.{RouterWords}
use Rattle.router_options.specs.PlanView.{PlanView}
use Rattle.router_options.specs.Plans.{RefusesNumbers, are_numbers, new_plan}
use Rattle.router_options.specs.declared.fault.NumberFault.{NumberFault}
use Rattle.ncroute.specs.Planning.{IsOfNumbers, numbers_of, text_in}
use Rattle.ncroute.proofs.planning.numbers_plan.Goals as goal

of_numbers : (r : Result PlanView NumberFault) (words : RouterWords) (size me : ℕ) (save : Option (String Global)) →
    IfOk r (λ plan. plan ≡ new_plan (numbers_of words size me) save words.stays) → OnOk r (are_numbers (numbers_of words size me) (is_some save) ≡ true) →
    text_in save ≡ text_in words.save → is_some save ≡ is_some words.save → IfOk r (IsOfNumbers words size me)
of_numbers (Ok plan) words size me save made fit says there = record {
  fit = subst (λ (b : Bool). are_numbers (numbers_of words size me) b ≡ true) there fit;
  save = save;
  saves = says;
  is = made;
}
of_numbers (Err why) words size me save made fit says there = tt

pub returns-clause-made : goal.returns-clause-made
returns-clause-made c =
    of_numbers c.new.result c.args.words.now c.args.size c.args.me c.in_ok-save.save c.new.ensures.made c.new.ensures.fit c.in_ok-save.ensures.says c.in_ok-save.ensures.there

pub returns-clause-refused : goal.returns-clause-refused
returns-clause-refused c =
    subst (λ (saves : Bool). IfErr c.new.result (RefusesNumbers (numbers_of c.args.words.now c.args.size c.args.me) saves)) c.in_ok-save.ensures.there c.new.ensures.refused
