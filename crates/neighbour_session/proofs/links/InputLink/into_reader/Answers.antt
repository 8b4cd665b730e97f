use Rattle.std.proofs.Common.{subst}
use Rattle.neighbour_session.specs.Links.{InputView, ReadsLines}
use Rattle.neighbour_session.proofs.Linking.{input_lines}
use Rattle.neighbour_session.proofs.links.InputLink.into_reader.Goals as goal

pub returns : goal.returns
returns g c =
    let i = c.self.inside in
    let first = g.S.GivenReader.reader in
    subst (λ (v : InputView). ReadsLines first v.told.handed v.over i.input) c.self.view_is
    (input_lines first i.last.value i.input i.over c.self.invariant)
