-- The line that sets the domain up is answered by what becomes of the filters.
use Rattle.std.proofs.Common.{◌≡◌, arith, length, sym, ◌∙◌}
use Rattle.router_script.specs.State.{script_of}
use Rattle.router_script.specs.State.{prepared_of}
use Rattle.router_script.proofs.Named.{prepared}
use Rattle.router_script.proofs.filter_naming.Prepared.answer.Goals as goal

pub returns-in-Some-clause-ok : goal.returns-in-Some-clause-ok
returns-in-Some-clause-ok c =
    let (text, grown, told) = c.in_ok-reply.ensures.ok in
    let all : c.len-begun.result ≡ length c.args.out.now.items = omega (arith, c.len-begun.ensures, c.args.out.now.ok.0) in
    prepared (prepared_of c.args.self.now) (prepared_of c.set_up.new.self) (script_of c.answer.new.self) c.args.number c.args.line.now text
    c.in_ok-reply.reply c.in-Some.size c.len-begun.result c.size-earlier.result c.size.result c.args.out.now.items c.answer.new.out.items
    c.set_up.new.out.items c.set_up.result all c.size-earlier.ensures c.size.ensures
    (sym c.size_set_up.ensures ∙ c.in-Some.is) grown told c.set_up.ensures.named c.set_up.ensures.filters c.set_up.ensures.told
