use Rattle.std.proofs.Common.{◌≡◌, ◌∙◌, Ok, Bool, None, Some, false, rules, subst, sym}
use Rattle.message_streams.specs.Views.{ReaderView}
use Rattle.route_session.specs.Links.{Received}
use Rattle.route_session.specs.declared.link.Got.{Got}
use Rattle.neighbour_session.specs.Links.{InputView, IsInput, input_view}
use Rattle.neighbour_session.proofs.Linking.{answer_told, input_over, input_read, input_told, none_where_not}
use Rattle.neighbour_session.proofs.links.InputLinkLink.recv.Goals as goal

-- a message was read, or an empty line
pub invariant_of-self-in-Ok : goal.invariant_of-self-in-Ok
invariant_of-self-in-Ok g c =
    let i = c.self.inside in
    let first = g.S.GivenReader.reader in
    let new = c.hear_line.new.input in
    let told = c.in-Ok.ensures.told in
    let last : c.of.result.value ≡ new = search rules in
    let none : i.over ≡ None = none_where_not i.over (sym c.is_some.ensures ∙ c.if-is_some.false) in
    subst (λ (r : ReaderView). IsInput first r new i.over) (sym last)
    (input_read first i.last.value i.input new i.over c.in-Ok.told c.self.invariant none told.0 told.1)

pub returns-in-Ok : goal.returns-in-Ok
returns-in-Ok g c =
    let i = c.self.inside in
    let first = g.S.GivenReader.reader in
    let new = c.hear_line.new.input in
    let told = c.in-Ok.ensures.told in
    let last : c.of.result.value ≡ new = search rules in
    let none : i.over ≡ None = none_where_not i.over (sym c.is_some.ensures ∙ c.if-is_some.false) in
    let is_open : i.is_closed ≡ false = c.if-self.false in
    let received = input_told first i.last.value i.input new i.over c.in-Ok.told i.has_ended i.failures c.self.invariant none told.1 in
    let answered = subst (λ (a : Got). Received (input_view first i.last.value i.input i.over i.has_ended i.failures false).told (Ok a)
    (input_view first new new i.over i.has_ended i.failures false).told) (sym c.got_of.ensures) received in
    subst (λ (v : InputView). Received v.told (Ok c.got_of.result)
    (input_view first c.of.result.value new i.over i.has_ended i.failures i.is_closed).told) c.self.view_is
    (subst (λ (b : Bool). Received (input_view first i.last.value i.input i.over i.has_ended i.failures b).told (Ok c.got_of.result)
    (input_view first c.of.result.value new i.over i.has_ended i.failures b).told) (sym is_open)
    (subst (λ (r : ReaderView). Received (input_view first i.last.value i.input i.over i.has_ended i.failures false).told (Ok c.got_of.result)
    (input_view first r new i.over i.has_ended i.failures false).told) (sym last) answered))

-- what ended the session was read
pub invariant_of-self-in-Err : goal.invariant_of-self-in-Err
invariant_of-self-in-Err g c =
    let i = c.self.inside in
    let none : i.over ≡ None = none_where_not i.over (sym c.is_some.ensures ∙ c.if-is_some.false) in
    input_over g.S.GivenReader.reader i.last.value i.input c.hear_line.new.input i.over c.in-Err.why c.self.invariant none c.in-Err.ensures.over

pub returns-in-Err : goal.returns-in-Err
returns-in-Err g c =
    let i = c.self.inside in
    let first = g.S.GivenReader.reader in
    let new = c.hear_line.new.input in
    let later = c.answer_of.new in
    let is_open : i.is_closed ≡ false = c.if-self.false in
    let answered = answer_told c.answer_of.result first i.last.value i.input new i.over (Some c.in-Err.why) i.has_ended later.has_ended i.failures
    later.failures c.answer_of.ensures.ended c.answer_of.ensures.failed in
    subst (λ (v : InputView). Received v.told c.answer_of.result
    (input_view first i.last.value new (Some c.in-Err.why) later.has_ended later.failures i.is_closed).told) c.self.view_is
    (subst (λ (b : Bool). Received (input_view first i.last.value i.input i.over i.has_ended i.failures b).told c.answer_of.result
    (input_view first i.last.value new (Some c.in-Err.why) later.has_ended later.failures b).told) (sym is_open) answered)
