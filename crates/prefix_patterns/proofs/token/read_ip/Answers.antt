use Rattle.std.proofs.Common.{rules, ℕ, ◌≡◌, Option, Some, None, List, IfSome}
use Rattle.std.specs.Option.{option_map, IsSomeAnd}
use Rattle.prefix_patterns.specs.Reading.{address_in}
use Rattle.prefix_patterns.specs.Token.{IsAddress}
use Rattle.prefix_patterns.specs.declared.address.Ip.{Ip}
use Rattle.prefix_patterns.proofs.Tokens.{address_in-found, address_in-only}
use Rattle.prefix_patterns.proofs.token.read_ip.Goals as goal

found : (text : List ℕ) (result : Option Ip) → address_in text ≡ option_map (λ ip. ip.0) result → IfSome result (λ ip. IsAddress text ip.0)
found text None e = tt
found text (Some ip) e = address_in-found text ip.0 e

only : (text : List ℕ) (result : Option Ip) → address_in text ≡ option_map (λ ip. ip.0) result →
    (address : ℕ) → IsAddress text address → IsSomeAnd result (λ ip. ip.0 ≡ address)
only text None e address is = let some = address_in-only text address is in absurd cc
only text (Some ip) e address is = let some = address_in-only text address is in cc

pub returns-in_err-groups-clause-only : goal.returns-in_err-groups-clause-only
unfolding address_in
returns-in_err-groups-clause-only c =
    let exact : address_in c.args.text.now ≡ option_map (λ (ip : Ip). ip.0) c.from_residual.result = search rules in
    only c.args.text.now c.from_residual.result exact

pub returns-clause-found : goal.returns-clause-found
unfolding address_in
returns-clause-found c =
    let exact : address_in c.args.text.now ≡ Some c.from_be_bytes.result = search rules in
    address_in-found c.args.text.now c.from_be_bytes.result exact

pub returns-clause-only : goal.returns-clause-only
unfolding address_in
returns-clause-only c =
    let exact : address_in c.args.text.now ≡ Some c.from_be_bytes.result = search rules in
    λ address is. let some = address_in-only c.args.text.now address is in cc
