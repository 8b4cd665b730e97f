-- Two neighbours greet one another. (This project's own choice.)
use Rattle.std.specs.Prelude.{◌≡◌, ◌⊎◌, ℕ, List, ◌++◌, Option, Some, None, if◌then◌else◌}
use Rattle.std.specs.Str.{bytes_eq}
use Rattle.std.specs.Io.KnownBytes.{Consumes}
use Rattle.link_handshake.specs.Reading.{said_by}
use Rattle.link_handshake.specs.declared.greeting.Greeting.{Greeting}
use Rattle.link_handshake.specs.declared.post.CameUp.{CameUp}
use Rattle.link_handshake.specs.declared.said.Said.{Said}
use Rattle.link_handshake.specs.declared.said.Said.TheVariants as said
use Rattle.message_streams.specs.Ends.{ReadsLine, StopsAtLine}
use Rattle.message_streams.specs.Views.{ReaderView}
use Rattle.message_streams.specs.declared.ends.StreamEnd.{StreamEnd}
use Rattle.message_streams.specs.declared.ends.StreamEnd.TheVariants as stream
use Rattle.neighbour_session.specs.declared.ends.GreetingFault.{GreetingFault}
use Rattle.neighbour_session.specs.declared.ends.GreetingFault.TheVariants as fault
use Rattle.neighbour_session.specs.declared.ends.SessionEnd.{SessionEnd}
use Rattle.neighbour_session.specs.declared.ends.SessionEnd.TheVariants as end
use Rattle.neighbour_session.specs.declared.greeting.Domain.{Domain}

-- a greeting says another digest than the router's domain has, if both say one
abbrev pub unless_same : List ℕ → List ℕ → Option GreetingFault
unless_same said own = if bytes_eq said own then None else Some (fault.OtherDomain said own)

abbrev pub digest_fault : Option (List ℕ) → Option (List ℕ) → Option GreetingFault
digest_fault (Some said) (Some own) = unless_same said own
digest_fault _ _ = None

-- the greeting is that of this node of the router's domain
pub record IsOf (d : Domain) (neighbour : ℕ) (g : Greeting) : Type 0 where
  pub size : g.size ≡ d.size
  pub node : g.node ≡ neighbour
  pub digest : digest_fault g.digest d.digest ≡ None

-- or it is one from a domain of another size; or from one of this size, by another node; or by this node, from one of another file
abbrev pub IsOfOther : Domain → ℕ → Greeting → GreetingFault → Type 0
IsOfOther d neighbour g (fault.OtherSize size) = (size ≡ g.size) × (g.size ≡ d.size → ⊥)
IsOfOther d neighbour g (fault.OtherNode node) = (node ≡ g.node) × (g.size ≡ d.size) × (g.node ≡ neighbour → ⊥)
IsOfOther d neighbour g (fault.OtherDomain said own) =
    (g.size ≡ d.size) × (g.node ≡ neighbour) × (digest_fault g.digest d.digest ≡ Some (fault.OtherDomain said own))

-- a line was heard that says this; or 64 bytes without a line feed, which say nothing
pub record HearsLine (heard : Said) (input i : ReaderView) : Type 0 where
  pub readable : input.end ≡ None
  pub readable_on : i.end ≡ None
  pub line : ((text : List ℕ) × ReadsLine text input.left i.left × (said_by text ≡ heard))
      ⊎ (StopsAtLine stream.TooLong input.left i.left × (heard ≡ said.Nothing))

-- this was heard: it is what was heard before, and nothing was read; or else a line says it
abbrev pub TakesSaid : Option Said → Said → ReaderView → ReaderView → Type 0
TakesSaid before heard input i = ((before ≡ Some heard) × (i ≡ input)) ⊎ HearsLine heard input i

-- no greeting but that of this node of the router's domain
abbrev pub IsWelcome : Domain → ℕ → Said → Type 0
IsWelcome d neighbour (said.Greeting g) = IsOf d neighbour g
IsWelcome d neighbour _ = Unit {0}

-- no line was read, for this reason, at a line of this number
abbrev pub read_end : StreamEnd → ℕ → SessionEnd
read_end why line = end.Read why line

-- no line was heard any more
abbrev pub IsUnheard : SessionEnd → ReaderView → ReaderView → Type 0
IsUnheard (end.Read why line) input i = (i.end ≡ Some why) × (line ≡ i.line)
IsUnheard _ input i = ⊥

-- a greeting came from a stream, behind these bytes; or it is the line that was heard before
abbrev pub Comes : Option Said → ReaderView → Greeting → ReaderView → Type 0
Comes first input g i = (first ≡ Some (said.Greeting g)) ⊎ ((before : List ℕ) × (mid : Option (List ℕ)) × (line : List ℕ)
    × Consumes input.left mid before × ReadsLine line mid i.left × (said_by line ≡ said.Greeting g))

-- The end of the link came up, on a greeting that came last: it is this neighbour's, and repeats the number of this end's present attempt.
pub record Meets (d : Domain) (neighbour : ℕ) (first : Option Said) (input : ReaderView) (m : CameUp) (i : ReaderView) : Type 0 where
  pub of : IsOf d neighbour m.greeting
  pub answers : m.greeting.heard ≡ m.number
  pub comes : Comes first input m.greeting i

-- why it did not: no line was heard any more; a greeting is another's; the neighbour said too much besides greetings; or the link is closed
abbrev pub IsUnmet : SessionEnd → Domain → ℕ → ReaderView → Type 0
IsUnmet (end.Read why line) d neighbour i = (i.end ≡ Some why) × (line ≡ i.line)
IsUnmet (end.Mistaken why line) d neighbour i = (line ≡ i.line) × ((g : Greeting) × IsOfOther d neighbour g why)
IsUnmet end.Ungreeted d neighbour i = Unit {0}
IsUnmet end.Closed d neighbour i = Unit {0}
IsUnmet _ d neighbour i = ⊥
