use Rattle.std.proofs.Common.{◌≡◌, ℕ, Ok, Bool, false, arith, rules, subst, sym}
use Rattle.message_streams.specs.Lines.{FitsMessage}
use Rattle.message_streams.specs.Views.{WriterView}
use Rattle.route_session.specs.Links.{Sent}
use Rattle.neighbour_session.specs.Links.{IsOutput, OutputView, output_view}
use Rattle.neighbour_session.proofs.Linking.{output_sent, output_told}
use Rattle.neighbour_session.proofs.links.OutputLinkLink.send.Goals as goal

pub invariant_of-self-in-Ok : goal.invariant_of-self-in-Ok
invariant_of-self-in-Ok g c =
    let i = c.self.inside in
    let first = g.T.GivenWriter.writer in
    let new = c.write_message.new.self in
    let formed = c.well_formed in
    let fits : FitsMessage c.args.message = record { dest = omega arith; dist = omega arith } in
    let none : i.failures ≡ 0 = omega (arith, c.if-self-gt0.false) in
    let last : c.of.result.value ≡ new = search rules in
    subst (λ (w : WriterView). IsOutput first w new i.first_refused i.failures) (sym last)
    (subst (λ (n : ℕ). IsOutput first new new i.first_refused n) (sym none)
    (output_sent first i.last.value i.output new i.first_refused c.args.message
    (subst (λ (n : ℕ). IsOutput first i.last.value i.output i.first_refused n) none c.self.invariant) fits c.in-Ok.ensures.ok.2))

pub returns-in-Ok : goal.returns-in-Ok
returns-in-Ok g c =
    let i = c.self.inside in
    let first = g.T.GivenWriter.writer in
    let new = c.write_message.new.self in
    let message = c.args.message in
    let formed = c.well_formed in
    let fits : FitsMessage message = record { dest = omega arith; dist = omega arith } in
    let none : i.failures ≡ 0 = omega (arith, c.if-self-gt0.false) in
    let last : c.of.result.value ≡ new = search rules in
    let is_open : i.is_closed ≡ false = c.if-self.false in
    let told = output_told first i.last.value i.output new i.first_refused message i.has_ended
    (subst (λ (n : ℕ). IsOutput first i.last.value i.output i.first_refused n) none c.self.invariant) fits c.in-Ok.ensures.ok.2 in
    subst (λ (v : OutputView). Sent v.told message (Ok tt)
    (output_view first c.of.result.value new i.first_refused i.has_ended i.failures i.is_closed).told) c.self.view_is
    (subst (λ (b : Bool). Sent (output_view first i.last.value i.output i.first_refused i.has_ended i.failures b).told message (Ok tt)
    (output_view first c.of.result.value new i.first_refused i.has_ended i.failures b).told) (sym is_open)
    (subst (λ (n : ℕ). Sent (output_view first i.last.value i.output i.first_refused i.has_ended n false).told message (Ok tt)
    (output_view first c.of.result.value new i.first_refused i.has_ended n false).told) (sym none)
    (subst (λ (w : WriterView). Sent (output_view first i.last.value i.output i.first_refused i.has_ended 0 false).told message (Ok tt)
    (output_view first w new i.first_refused i.has_ended 0 false).told) (sym last) told)))
