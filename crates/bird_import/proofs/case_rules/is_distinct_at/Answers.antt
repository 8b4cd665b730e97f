use Rattle.std.proofs.Common.{◌≡◌, ◌≤◌, subst}
use Rattle.bird_import.specs.declared.case_rules.AddressRange.{AddressRange}
use Rattle.bird_import.proofs.Below.{same_some}
use Rattle.bird_import.proofs.case_rules.is_distinct_at.Goals as goal

pub returns-in-Some : goal.returns-in-Some
returns-in-Some c is low high address range above below other =
    let one : AddressRange = record { low = low; high = high } in
    let same : one ≡ c.in-Some.range = same_some c.range_at.result one c.in-Some.range (c.range_at.ensures low high range) c.in-Some.is in
    c.is_free.ensures is address (subst (λ (r : AddressRange). r.low ≤ address) same above)
    (subst (λ (r : AddressRange). address ≤ r.high) same below) other

pub returns-in-None : goal.returns-in-None
returns-in-None c _ low high address range above below other =
    let some = c.range_at.ensures low high range in
    let none = c.in-None.is in
    absurd (cc)
