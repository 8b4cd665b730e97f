use Rattle.std.proofs.Common.{length, inl, inr, refl, arith}
use Rattle.std.proofs.lemmas.Bool.{cases_lt}
use Rattle.bird_import.specs.Rules.{CallsNoneAt}
use Rattle.bird_import.proofs.Below.{one_more}
use Rattle.bird_import.proofs.Outside.{kind_past}
use Rattle.bird_import.proofs.rules.calls_none.Goals as goal

pub loop-at-preserved : goal.loop-at-preserved
loop-at-preserved c = one_more (CallsNoneAt c.args.words.now) c.loop-at.at c.loop-at.invariant (c.if-may_call.ensures refl)

pub returns : goal.returns
returns c = λ _ k named opens.
    elim (cases_lt k (length c.args.words.now)) [
      | inl below ↦ c.loop-at.invariant k (omega (arith, below)) named opens
      | inr past ↦ let none = kind_past c.args.words.now k past in absurd (cc)
    ]
