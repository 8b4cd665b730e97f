use Rattle.std.proofs.Common.{◌≡◌, ◌∙◌, ◌∷◌, [], ℕ, Bool, rules, subst, sym}
use Rattle.line_protocol.specs.Runs.{AppendsFront}
use Rattle.message_streams.specs.Views.{WriterView}
use Rattle.route_session.specs.Telling.{known}
use Rattle.neighbour_session.specs.Links.{IsOutput, OutputView, output_view}
use Rattle.neighbour_session.proofs.Linking.{empty_written, output_empty, output_unfailed, over_where_not, written_or_not}
use Rattle.neighbour_session.proofs.links.OutputLink.write_empty.Goals as goal

-- an empty line was written, or not, by a writer that did not fail before
pub invariant_of-self : goal.invariant_of-self
invariant_of-self g c =
    let i = c.self.inside in
    let first = g.T.GivenWriter.writer in
    let new = c.write_text.new.self in
    let last : c.of.result.value ≡ new = search rules in
    let none : i.failures ≡ 0 = output_unfailed first i.last.value i.output i.first_refused i.has_ended i.is_closed i.failures
    (subst (λ (v : OutputView). v.told.failures ≡ known 0) (sym c.self.view_is) c.requires) in
    let moved : AppendsFront i.output.held new.held (10 ∷ []) =
    written_or_not c.write_text.result i.output new (10 ∷ []) c.write_text.ensures.ok c.write_text.ensures.err in
    subst (λ (w : WriterView). IsOutput first w new i.first_refused i.failures) (sym last)
    (subst (λ (n : ℕ). IsOutput first new new i.first_refused n) (sym none)
    (output_empty first i.last.value i.output new i.first_refused
    (subst (λ (n : ℕ). IsOutput first i.last.value i.output i.first_refused n) none c.self.invariant) moved))

pub returns-clause-told : goal.returns-clause-told
returns-clause-told g c =
    let i = c.self.inside in
    let first = g.T.GivenWriter.writer in
    let new = c.write_text.new.self in
    let last : c.of.result.value ≡ new = search rules in
    let none : i.failures ≡ 0 = output_unfailed first i.last.value i.output i.first_refused i.has_ended i.is_closed i.failures
    (subst (λ (v : OutputView). v.told.failures ≡ known 0) (sym c.self.view_is) c.requires) in
    let moved : AppendsFront i.output.held new.held (10 ∷ []) =
    written_or_not c.write_text.result i.output new (10 ∷ []) c.write_text.ensures.ok c.write_text.ensures.err in
    let told = empty_written first i.last.value i.output new i.first_refused i.has_ended i.is_closed
    (subst (λ (n : ℕ). IsOutput first i.last.value i.output i.first_refused n) none c.self.invariant) moved in
    subst (λ (v : OutputView). (output_view first c.of.result.value new i.first_refused i.has_ended i.failures i.is_closed).told ≡ v.told)
    c.self.view_is
    (subst (λ (n : ℕ). (output_view first c.of.result.value new i.first_refused i.has_ended n i.is_closed).told
    ≡ (output_view first i.last.value i.output i.first_refused i.has_ended n i.is_closed).told) (sym none)
    (subst (λ (w : WriterView). (output_view first w new i.first_refused i.has_ended 0 i.is_closed).told
    ≡ (output_view first i.last.value i.output i.first_refused i.has_ended 0 i.is_closed).told) (sym last) told))

pub returns-clause-unwritten : goal.returns-clause-unwritten
returns-clause-unwritten g c =
    let i = c.self.inside in λ unwritten.
    over_where_not c.write_text.result i.output c.write_text.new.self (10 ∷ []) c.write_text.ensures.err
    (sym c.is_ok-is_written.ensures.value ∙ unwritten)
