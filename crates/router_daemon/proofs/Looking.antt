-- What the right to forget learns as the history is saved.
use Rattle.history_saver.specs.Looking.{Looks}
use Rattle.slot_lock.specs.Passes.{PassView, RouterView}
use Rattle.router_daemon.specs.Passes.{IsLegalPass}

-- a pass that looks stays legal
pub legal_looks : (r : RouterView) (old new : PassView) → IsLegalPass r old → Looks r old new → IsLegalPass r new
legal_looks r old new h looks = record { of = looks.of; legal = looks.legal h.legal }
