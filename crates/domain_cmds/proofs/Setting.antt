-- The plan of a domain that is just set up.
use Rattle.std.proofs.Common.{◌≡◌, ℕ, Bool, true, List, length, arith}
use Rattle.std.proofs.lemmas.Bool.Decides.{nat_tests}
use Rattle.domain_routes.specs.PlanView.{IsSize}
use Rattle.netchange_core.specs.Openings.{is_network}
use Rattle.netchange_core.specs.Openings.{default_prefixes}
use Rattle.netchange_core.proofs.Openings.{is_opening}
use Rattle.domain_cmds.specs.Sizes.{is_size}

is_first : (size : ℕ) → is_size size ≡ true → is_network size 0 ≡ true
is_first size h = grind (arith, nat_tests)

-- there is a default prefix for each node
pub one_a_node : (size : ℕ) (prefixes : List (List Bool)) → is_size size ≡ true → prefixes ≡ default_prefixes size → length prefixes ≡ size
one_a_node size prefixes h e = (is_opening size 0 prefixes (is_first size h) e).one_a_node

pub fits_size : (size : ℕ) (prefixes : List (List Bool)) → is_size size ≡ true → prefixes ≡ default_prefixes size → IsSize (length prefixes)
fits_size size prefixes h e =
    let o = is_opening size 0 prefixes (is_first size h) e in
    record { from_two = omega (arith, o.from_two, o.one_a_node); to_largest = omega (arith, o.to_largest, o.one_a_node) }
