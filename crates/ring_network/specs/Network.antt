-- What a network of routers prints, and the codes of what ends it. (This project's own choice.)
use Rattle.std.specs.Prelude.{ℕ, Option, List, [], ◌∷◌, ◌++◌, codes}
use Rattle.std.specs.Io.KnownBytes.{Keeps}
use Rattle.line_protocol.specs.declared.faults.StreamFault.TheVariants as stream
use Rattle.line_protocol.specs.Faults.{fault_code}
use Rattle.line_protocol.specs.Runs.{AppendsFront}
use Rattle.ring_network.specs.declared.fault.NetworkFault.{NetworkFault}
use Rattle.ring_network.specs.declared.fault.NetworkFault.TheVariants.{Stream, Call, Lock, Run}
use Rattle.route_history.specs.Codes.{call_code}
use Rattle.route_session.specs.Codes.{run_code}
use Rattle.slot_lock.specs.Codes.{lock_code}

-- the code of a fault, as ASCII text
abbrev pub network_code : NetworkFault → List ℕ
network_code (Stream fault) = fault_code fault
network_code (Call fault) = call_code fault
network_code (Lock fault) = lock_code fault
network_code (Run fault) = run_code fault

-- one line for each node
abbrev pub replayed_lines : List ℕ
replayed_lines = codes "node 0 replay ok" ++ 10 ∷ codes "node 1 replay ok" ++ 10 ∷ codes "node 2 replay ok" ++ 10 ∷ []

-- What a writer that held something holds after a fault: a beginning of the lines where it failed itself, and nothing more
-- after any other.
abbrev pub LeavesOff : NetworkFault → Option (List ℕ) → Option (List ℕ) → Type 0
LeavesOff (Stream stream.Write) held holds = AppendsFront held holds replayed_lines
LeavesOff _ held holds = Keeps held holds
