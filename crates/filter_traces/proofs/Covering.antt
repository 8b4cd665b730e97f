-- What the service that counts answers to a line.
use Rattle.std.proofs.Common.{◌≡◌, ℕ, [], Some, None, Result, Ok, Err, refl, ap}
use Rattle.filter_code.specs.RouteView.{RouteView}
use Rattle.line_protocol.specs.Answers.{Answer, refusal}
use Rattle.line_protocol.specs.declared.answers.LineReply.TheVariants as reply
use Rattle.route_answers.specs.RouteLine.{line_code}
use Rattle.route_answers.specs.declared.line_fault.LineFault.{LineFault}
use Rattle.filter_traces.specs.Coverage.{cover_read, fault_in}

-- the answer to a line that is refused, and to one that is not
pub refused_as : (n : ℕ) (r : Result RouteView LineFault) (why : LineFault) → Some why ≡ fault_in r
    → (let a : Answer = record { text = refusal (line_code why) n; reply = reply.Refused } in a) ≡ cover_read n r
refused_as n (Ok route) why is = cc
refused_as n (Err found) why is =
    let same : why ≡ found = cc in
    ap (λ (f : LineFault). let a : Answer = record { text = refusal (line_code f) n; reply = reply.Refused } in a) same

pub answered_as : (n : ℕ) (r : Result RouteView LineFault) → None ≡ fault_in r
    → (let a : Answer = record { text = []; reply = reply.Answered } in a) ≡ cover_read n r
answered_as n (Ok route) is = refl
answered_as n (Err found) is = cc
