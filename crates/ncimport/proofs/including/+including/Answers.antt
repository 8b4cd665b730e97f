use Rattle.std.proofs.Common.{arith, sym}
use Rattle.ncimport.specs.Including.{PutsIncluded}
use Rattle.ncimport.specs.Places.{view_of}
use Rattle.ncimport.proofs.Gathered.{all_put, left_out, none_put, not_read, one_more_put, put_there, too_deep}
use Rattle.ncimport.proofs.including.+including.Goals as goal

pub push_included-returns-in_default : goal.push_included-returns-in_default
push_included-returns-in_default g t c =
    too_deep (g.F.Folder.opens c.args.files.now) c.args.included.now _ _ _ _ c.leave_out.result c.args.depth (omega arith) c.leave_out.ensures

pub push_included-returns-in-Left : goal.push_included-returns-in-Left
push_included-returns-in-Left g t c =
    left_out (g.F.Folder.opens c.args.files.now) c.args.included.now _ _ _ _ c.leave_out-in-Left.result c.args.depth c.in-Some.depth c.in-Left.why.now
    (omega arith) (rw c.in-Left.is at c.in_ok-why.ensures) c.leave_out-in-Left.ensures

pub push_included-returns-in-Some-2 : goal.push_included-returns-in-Some-2
push_included-returns-in-Some-2 g t c =
    let looks = rw c.in-Read.is at c.in_ok-why.ensures in
    let reads = rw c.in-Some-2.is at c.in_ok-text-in-Read.ensures.read in
    put_there (g.F.Folder.opens c.args.files.now) c.args.included.now _ _ _ _ c.push_source.result c.args.depth c.in-Some.depth c.in-Read.source
    c.in-Some-2.text.items c.as_slice-text.result.now _ (omega arith) c.as_slice-text.ensures.value looks reads c.push_source.ensures

pub push_included-returns-in-None : goal.push_included-returns-in-None
push_included-returns-in-None g t c =
    let looks = rw c.in-Read.is at c.in_ok-why.ensures in
    let skips = rw c.in-None.is at c.in_ok-text-in-Read.ensures.read in
    not_read (g.F.Folder.opens c.args.files.now) c.args.included.now _ _ _ _ c.leave_out-in-None.result c.args.depth c.in-Some.depth c.in-Read.source _
    (omega arith) looks skips c.leave_out-in-None.ensures

pub push_source-loop-one-init : goal.push_source-loop-one-init
push_source-loop-one-init g t c =
    none_put (PutsIncluded (g.F.Folder.opens c.args.files.now) c.args.depth) c.in_ok-file.file c.args.text.now c.as_slice-one-items.result.now _ _
    c.args.console.now c.in_ok-file.ensures.opened

pub push_source-loop-one-preserved : goal.push_source-loop-one-preserved
push_source-loop-one-preserved g t c =
    one_more_put (PutsIncluded (g.F.Folder.opens c.args.files.now) c.args.depth) c.in_ok-file.file c.args.text.now c.as_slice-one-items.result.now
    c.loop-one.one-index _ _ _ _ _ _ _ _ c.loop-one.done c.loop-one-test.true c.loop-one.invariant c.in_ok-push_stretch.ensures
    c.in_ok-push_included.ensures

pub push_source-returns : goal.push_source-returns
push_source-returns g t c =
    let found = rw (sym c.as_slice-one-items.ensures.value) at c.in_ok-included.ensures in
    all_put (PutsIncluded (g.F.Folder.opens c.args.files.now) c.args.depth) (view_of c.args.source c.args.text.now) c.in_ok-file.file
    c.loop-one.one-index c.as_slice-one-items.result.now _ _ _ _ _ c.loop-one.done found c.in_ok-file.ensures.index (omega arith) c.loop-one.invariant
    c.in_ok-close_file.ensures
