use Rattle.std.proofs.Common.{refl}
use Rattle.std.specs.Prelude.{string_bytes}
use Rattle.ncroute.proofs.domain_loading.source_of.Goals as goal

pub returns : goal.returns
returns c = (string_bytes c.in_ok-path.path, c.in_ok-path.ensures, refl)
