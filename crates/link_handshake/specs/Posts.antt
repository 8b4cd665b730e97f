-- What an end of a link that several threads share has to write. (This project's own choice.)
use Rattle.std.specs.Prelude.{◌≡◌, ◌⊎◌, Bool, false, true, None, cond, is_none}
use Rattle.link_handshake.specs.Clocks.{IsDue}
use Rattle.link_handshake.specs.declared.ends.Speaker.{Speaker}
use Rattle.link_handshake.specs.declared.post.Post.{Post}
use Rattle.link_handshake.specs.declared.said.Said.{Said}
use Rattle.link_handshake.specs.declared.said.Said.TheVariants as said

-- whether the last greeting that was heard says no digest, once this line was heard
abbrev pub plain_after : Said → Bool → Bool
plain_after (said.Greeting g) is_plain = is_none g.digest
plain_after (said.Message m) is_plain = is_plain
plain_after said.Alive is_plain = is_plain
plain_after said.Nothing is_plain = is_plain

-- Who speaks in its next greeting: with the digest of its domain, unless the last greeting that it heard says none. So a neighbour understands it
-- that knows no digests.
abbrev pub speaking : Post → Speaker
speaking p = record p.speaker { digest = cond p.is_plain None p.speaker.digest }

-- its greeting: it owes one, since it began anew or has to answer; or it has no session, and wrote nothing for a third of its HOLD
abbrev pub HasToGreet : Post → Type 0
HasToGreet p = (p.owes_greeting ≡ true) ⊎ ((p.end.is_up ≡ false) × IsDue p.clocks)

-- a line: a greeting that it owes; or it wrote nothing for a third of its HOLD
abbrev pub HasToWrite : Post → Type 0
HasToWrite p = (p.owes_greeting ≡ true) ⊎ IsDue p.clocks
