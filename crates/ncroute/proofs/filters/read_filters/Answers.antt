-- The filters so far were read, and the next one is read too, or it is not.
use Rattle.std.proofs.Common.{List, refl, subst, sym}
use Rattle.router_script.specs.declared.filter_naming.NamedFilter.{NamedFilter}
use Rattle.ncroute.specs.Filters.{ReadsFirst}
use Rattle.ncroute.proofs.FiltersRead.{none_read, not_read, one_more_read}
use Rattle.ncroute.proofs.filters.read_filters.Goals as goal

pub loop-file-init : goal.loop-file-init
loop-file-init g c =
    let opens = g.F.Folder.opens c.args.files.now in
    let known = g.R.Read.remaining c.args.reader.now in
    subst (λ (l : List NamedFilter). ReadsFirst opens c.args.named.now 0 l known known) (sym c.new-filters.ensures.items)
    (none_read opens c.args.named.now known)

pub loop-file-preserved : goal.loop-file-preserved
loop-file-preserved g c =
    let (filter, reads, grown) = c.in-Ok.ensures.read in
    one_more_read (g.F.Folder.opens c.args.files.now) c.args.named.now c.loop-file.file-index c.file-item.result filter
    c.loop-file.filters.items c.read_next.new.filters.items _ _ _ c.loop-file-test.true c.file-item.is c.loop-file.invariant reads grown

pub returns-in-Err-clause-unread : goal.returns-in-Err-clause-unread
returns-in-Err-clause-unread g c =
    not_read (g.F.Folder.opens c.args.files.now) c.args.named.now c.loop-file.file-index c.file-item.result c.file-item.result.source
    c.in-Err.why c.loop-file.filters.items _ _ _ c.loop-file-test.true c.file-item.is refl c.loop-file.invariant c.in-Err.ensures.unread
