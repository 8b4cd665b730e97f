use Rattle.std.proofs.Common.{◌≡◌, None, rules, subst, sym}
use Rattle.message_streams.specs.Views.{WriterView}
use Rattle.neighbour_session.specs.Links.{IsOutput}
use Rattle.neighbour_session.proofs.Linking.{output_new}
use Rattle.neighbour_session.proofs.links.OutputLink.new.Goals as goal

pub invariant_of-result : goal.invariant_of-result
invariant_of-result g c =
    let output = c.args.output in
    let last : c.of.result.value ≡ output = search rules in
    subst (λ (w : WriterView). IsOutput g.T.GivenWriter.writer w output None 0) (sym last)
    (subst (λ (w : WriterView). IsOutput w output output None 0) c.requires (output_new output))
