use Rattle.std.proofs.Common.{◌≡◌, refl, subst}
use Rattle.neighbour_session.specs.Links.{GotLinesOf, OutputView}
use Rattle.neighbour_session.proofs.Linking.{output_lines}
use Rattle.neighbour_session.proofs.links.OutputLink.into_writer.Goals as goal

pub returns-clause-lines : goal.returns-clause-lines
returns-clause-lines g c =
    let i = c.self.inside in
    subst (λ (v : OutputView). GotLinesOf g.T.GivenWriter.writer v.told i.output) c.self.view_is
    (output_lines g.T.GivenWriter.writer i.last.value i.output i.first_refused i.failures i.has_ended i.is_closed c.self.invariant)

pub returns-clause-writer : goal.returns-clause-writer
returns-clause-writer g c = subst (λ (v : OutputView). c.self.inside.output ≡ v.writer) c.self.view_is refl
