-- The page was written to its end, or a front of it.
use Rattle.std.proofs.Common.{refl}
use Rattle.domain_cmds.proofs.Leaving.{no_page, page_of}
use Rattle.domain_cmds.proofs.paged.write_page.Goals as goal

pub returns-in_ok-push_page-in-Some : goal.returns-in_ok-push_page-in-Some
returns-in_ok-push_page-in-Some g c =
    page_of c.page_shell-shell.result c.args.name.now c.args.engine.now.planning _ c.new-text.result.items c.push_page.new.out.items
    c.as_slice.result.now (g.P.Write.contents c.args.page.now) (g.P.Write.contents c.write_text.new.writer) c.write_text.result c.is_ok.result
    c.in-Some.is c.new-text.ensures.items c.in_ok-push_page-in-Some.ensures.ok c.as_slice.ensures.value c.write_text.ensures.ok
    c.write_text.ensures.err c.is_ok.ensures.value

pub returns-in-None : goal.returns-in-None
returns-in-None g c =
    no_page c.page_shell-shell.result c.args.name.now c.args.engine.now.planning (g.P.Write.contents c.args.page.now) _ c.in-None.is refl
