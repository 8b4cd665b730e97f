-- It was not set up, of which standard error was told.
use Rattle.std.proofs.Common.{refl}
use Rattle.router_words.specs.Stated.{origin_of}
use Rattle.ncroute.proofs.Routed.{stopped}
use Rattle.ncroute.proofs.routing.run_words.Goals as goal

pub returns-in-Err-clause-served : goal.returns-in-Err-clause-served
returns-in-Err-clause-served g c =
    stopped (g.R.Folder.opens c.args.rt.now) (g.R.HistoryFolders.makes c.args.rt.now) (g.R.HistoryFolders.keeps c.args.rt.now) (origin_of c.args.origin) c.args.words.now
    c.end_unset.result c.args.console.now _ _ c.in-Err.fault (rw (← c.console.view_is) at c.in-Err.ensures.stopped) c.end_unset.ensures.told
    refl refl
