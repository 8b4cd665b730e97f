use Rattle.std.proofs.Common.{false, subst, sym}
use Rattle.filter_reports.specs.Checking.{ArePlaces}
use Rattle.filter_reports.proofs.VerifiedFilters.{refused_code, verified_of}
use Rattle.filter_reports.proofs.placed.placed_code.Goals as goal

pub returns-in-Ok-clause-verified : goal.returns-in-Ok-clause-verified
returns-in-Ok-clause-verified c =
    verified_of c.args.size c.args.text.now c.in_ok-code.field-0.code c.in-Ok.verified
    c.in_ok-code.ensures.code c.in-Ok.ensures.verified.0 c.in-Ok.ensures.safe

pub returns-in-Err-clause-refused : goal.returns-in-Err-clause-refused
returns-in-Err-clause-refused c =
    refused_code c.args.size c.args.text.now c.as_slice.result.now c.in_ok-code.field-0.code c.in-Err.failure c.in_ok-code.ensures.code
    (subst (ArePlaces false c.args.text.now) (sym c.as_slice.ensures.value) c.in_ok-code.ensures.places)
    c.in-Err.ensures.refused c.in-Err.ensures.diagnosis
