-- What a link tells after each call. (This project's own choice.)
use Rattle.std.specs.Prelude.{◌≡◌, false, Result, Ok, Err, [], ◌∷◌}
use Rattle.netchange_core.specs.declared.message.Message.{Message}
use Rattle.route_session.specs.declared.link.Got.{Got}
use Rattle.route_session.specs.declared.link.Got.TheVariants as got
use Rattle.route_session.specs.declared.link.LinkFault.{LinkFault}
use Rattle.route_session.specs.LinkTrace.{Rose, LinkTrace, counted, ended_now, grown, refuse}

-- only the count of failures changed, and it rose
pub record Failed (t u : LinkTrace) : Type 0 where
  pub only : u ≡ record t { failures = u.failures }
  pub rose : Rose t.failures u.failures

-- a link with t was asked for a message, and tells u afterwards; one that is closed answers that it has ended
abbrev pub Received : LinkTrace → Result Got LinkFault → LinkTrace → Type 0
Received t (Ok (got.Message m)) u = (t.closed ≡ false) × (u ≡ record t { handed = grown t.handed (m ∷ []) })
Received t (Ok got.Nothing) u = (t.closed ≡ false) × (u ≡ record t { nothings = counted t.nothings 1 })
Received t (Ok got.Ended) u = u ≡ record t { ended = ended_now t.ended }
Received t (Err fault) u = (t.closed ≡ false) × Failed t u

-- a link with t was given a message, and tells u afterwards; one that is closed fails
abbrev pub Sent : LinkTrace → Message → Result (Unit {0}) LinkFault → LinkTrace → Type 0
Sent t m (Ok done) u = (t.closed ≡ false) × (u ≡ record t { given = grown t.given (m ∷ []) })
Sent t m (Err fault) u = Failed (record t { first_refused = refuse t.first_refused m }) u
