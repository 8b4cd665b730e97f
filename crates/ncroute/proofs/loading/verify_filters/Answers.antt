use Rattle.router_script.specs.State.{script_of}
use Rattle.ncroute.proofs.Loaded.{loaded, unfit}
use Rattle.ncroute.proofs.loading.verify_filters.Goals as goal

pub returns-in-None : goal.returns-in-None
returns-in-None c =
    loaded c.args.size c.args.given.now c.in_ok-name_filters.field-0 (script_of c.new-script.result) (script_of c.name_filters.new.script) c.new-script.ensures
    c.in_ok-name_filters.ensures c.into_filters.result.entries c.in-None.is c.into_filters.ensures

pub returns-in-Some : goal.returns-in-Some
returns-in-Some c =
    unfit c.args.size c.args.given.now c.in_ok-name_filters.field-0 (script_of c.new-script.result) (script_of c.name_filters.new.script) c.new-script.ensures
    c.in_ok-name_filters.ensures c.in-Some.unfit c.in-Some.is
