use Rattle.std.proofs.Common.{◌≡◌, ◌<◌, ◌⊎◌, subst}
use Rattle.bird_import.specs.declared.case_rules.AddressRange.{AddressRange}
use Rattle.bird_import.proofs.Below.{same_some}
use Rattle.bird_import.proofs.Ranges.{none_in_both}
use Rattle.bird_import.proofs.case_rules.is_free_at.Goals as goal

pub returns-in-Some : goal.returns-in-Some
returns-in-Some c is from to address range above below low high =
    let one : AddressRange = record { low = from; high = to } in
    let same : c.in-Some.other ≡ one = same_some c.range_at.result c.in-Some.other one c.in-Some.is (c.range_at.ensures from to range) in
    none_in_both c.args.range.low c.args.range.high from to address
    (subst (λ (r : AddressRange). (c.args.range.high < r.low) ⊎ (r.high < c.args.range.low)) same (c.are_apart.ensures.0 is)) above below low high

pub returns-in-None : goal.returns-in-None
returns-in-None c _ from to address range above below low high =
    let some = c.range_at.ensures from to range in
    let none = c.in-None.is in
    absurd (cc)
