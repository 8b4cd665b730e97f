-- The filter gets the name, and the stage stays.
use Rattle.std.proofs.Common.{refl}
use Rattle.std.proofs.lemmas.Result.{on_ok_weaker}
use Rattle.router_script.proofs.script.Script.set_filter.Goals as goal

pub returns : goal.returns
returns c = on_ok_weaker c.give_name.result (λ gets. record { stage = refl; filters = gets }) c.give_name.ensures.ok
