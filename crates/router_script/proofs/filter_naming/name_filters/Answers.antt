-- Each filter that is verified gets its name; the first that is refused is told.
use Rattle.router_script.specs.State.{script_of}
use Rattle.router_script.proofs.Named.{gets_name, next_named, stopped_at}
use Rattle.router_script.proofs.filter_naming.name_filters.Goals as goal

pub returns-in-Err : goal.returns-in-Err
returns-in-Err c =
    stopped_at c.args.size c.args.filters.now c.loop-index.index c.index-filters-index.result c.as_slice.result.now (script_of c.args.script.now)
    (script_of c.loop-index.script) c.in-Err.failure c.unfit_at.result c.loop-index-test.true c.index-filters-index.is
    c.as_slice.ensures.value c.loop-index.invariant c.in-Err.ensures.refused c.unfit_at.ensures

pub loop-index-preserved : goal.loop-index-preserved
loop-index-preserved c =
    let x = c.index-filters-index.result in
    next_named c.args.size c.args.filters.now c.loop-index.index x (script_of c.args.script.now)
    (script_of c.loop-index.script) (script_of c.give_name.new.script) c.loop-index-test.true c.index-filters-index.is c.loop-index.invariant
    (gets_name c.args.size x c.as_slice.result.now c.as_slice-in-Ok.result.now c.in-Ok.filter (script_of c.loop-index.script)
    (script_of c.give_name.new.script) c.as_slice.ensures.value c.as_slice-in-Ok.ensures.value c.in-Ok.ensures.verified
    c.in_ok-give_name-in-Ok.ensures)
