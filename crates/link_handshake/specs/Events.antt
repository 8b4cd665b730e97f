-- What may happen to a link, in any order. (This project's own choice.)
use Rattle.std.specs.Prelude.{◌≡◌, ℕ, ◌+◌, cond, true, List, [], ◌∷◌, ⊤}
use Rattle.netchange_core.specs.declared.message.Message.{Message}
use Rattle.link_handshake.specs.Links.{IsFresh, IsOpening, Line, Link, Opening, begins, greets_there, hears_first, opened, turned, without, writes}
use Rattle.link_handshake.specs.Links.Line.{broken, greets, idles, tells}
use Rattle.link_handshake.specs.declared.ends.Speaker.{Speaker}

-- What an end does, or is done to what it wrote: it ends and is started again, which remembers nothing; it begins anew by itself; it hears
-- the first line on its way to it, with a number for an attempt that may begin there; it writes a message, if it is in session, and its
-- greeting again, if it is not; it writes an empty line, and a part of a line; the first lines of what it wrote, so many, are lost; and its
-- greetings say something else of it from now on, as another digest or none.
pub data Action : Type 0 where
  Restarts : (number : ℕ) → Action
  Begins : (number : ℕ) → Action
  Hears : (next : ℕ) → Action
  Tells : (message : Message) → Action
  Greets : Action
  Idles : Action
  Breaks : Action
  Loses : (count : ℕ) → Action
  Speaks : (speaker : Speaker) → Action

-- it does so at this end
abbrev pub acts : Link → Action → Link
acts l (Restarts number) = begins l number 0
acts l (Begins number) = begins l number l.here.heard
acts l (Hears next) = hears_first l l.back.coming next
acts l (Tells m) = cond l.here.is_up (writes l (tells l.here.number m)) l
acts l Greets = cond l.here.is_up l (greets_there l)
acts l Idles = writes l idles
acts l Breaks = writes l broken
acts l (Loses count) = record l { forth = without count l.forth.gone l.forth.coming }
acts l (Speaks speaker) = record l { speaker = speaker }

-- at this end or at the other
pub data Event : Type 0 where
  Here : (action : Action) → Event
  There : (action : Action) → Event

abbrev pub happens : Link → Event → Link
happens l (Here a) = acts l a
happens l (There a) = turned (acts (turned l) a)

-- one after another
abbrev pub run : List Event → Link → Link
run [] l = l
run (e ∷ es) l = run es (happens l e)

-- a number that is chosen is fresh: the premise on who chooses it
abbrev pub ChoosesFresh : Action → Link → Type 0
ChoosesFresh (Restarts number) l = IsFresh number l
ChoosesFresh (Begins number) l = IsFresh number l
ChoosesFresh (Hears next) l = l.here.is_up ≡ true → IsFresh next l
ChoosesFresh (Tells m) l = ⊤
ChoosesFresh Greets l = ⊤
ChoosesFresh Idles l = ⊤
ChoosesFresh Breaks l = ⊤
ChoosesFresh (Loses count) l = ⊤
ChoosesFresh (Speaks speaker) l = ⊤

abbrev pub ChoosesFreshAt : Event → Link → Type 0
ChoosesFreshAt (Here a) l = ChoosesFresh a l
ChoosesFreshAt (There a) l = ChoosesFresh a (turned l)

-- all numbers that are chosen in a run are
abbrev pub AreFresh : List Event → Link → Type 0
AreFresh [] l = ⊤
AreFresh (e ∷ es) l = ChoosesFreshAt e l × AreFresh es (happens l e)

-- a link that is reached from two ends that have begun, by any events, where each number that was chosen was fresh
pub record IsReached (l : Link) : Type 0 where
  pub opening : Opening
  pub events : List Event
  pub opens : IsOpening opening
  pub fresh : AreFresh events (opened opening)
  pub is : run events (opened opening) ≡ l

-- two ends in session, each with the other's present attempt, and nothing on its way
pub record IsInStep (l : Link) : Type 0 where
  pub here : l.here.is_up ≡ true
  pub there : l.there.is_up ≡ true
  pub heard : l.here.heard ≡ l.there.number
  pub heard_there : l.there.heard ≡ l.here.number
  pub forth : l.forth.coming ≡ []
  pub back : l.back.coming ≡ []

-- this end greets again, if it is not in session, and what that brings about is heard, in the only order that there is
abbrev pub greeting_round : ℕ → List Event
greeting_round next = Here Greets ∷ (There (Hears next) ∷ (Here (Hears next) ∷ (There (Hears next) ∷ [])))

-- how many greetings are among these lines, and on their way in both directions
abbrev pub greetings : List Line → ℕ
greetings [] = 0
greetings (greets g ∷ xs) = greetings xs + 1
greetings (tells attempt m ∷ xs) = greetings xs
greetings (idles ∷ xs) = greetings xs
greetings (broken ∷ xs) = greetings xs

abbrev pub on_their_way : Link → ℕ
on_their_way l = greetings l.forth.coming + greetings l.back.coming
