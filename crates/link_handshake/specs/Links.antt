-- A link: its two ends, and what is on its way between them. (This project's own choice.)
use Rattle.std.specs.Prelude.{◌≡◌, ◌≢◌, ℕ, zero, suc, Bool, true, false, List, [], ◌∷◌, ◌++◌, ⊤}
use Rattle.std.specs.List.{AllByRecursion}
use Rattle.netchange_core.specs.declared.message.Message.{Message}
use Rattle.link_handshake.specs.Ends.{begun, greeting_of, heard_line}
use Rattle.link_handshake.specs.declared.ends.End.{End}
use Rattle.link_handshake.specs.declared.ends.Heard.{Heard}
use Rattle.link_handshake.specs.declared.ends.Speaker.{Speaker}
use Rattle.link_handshake.specs.declared.greeting.Greeting.{Greeting}
use Rattle.link_handshake.specs.declared.said.Said.{Said}
use Rattle.link_handshake.specs.declared.said.Said.TheVariants as said

-- A line on its way: a greeting; a message, with the number of the attempt that it was written in, which the line itself does not say; an
-- empty line; or a part of a line, which says nothing.
pub data Line : Type 0 where
  greets : (greeting : Greeting) → Line
  tells : (attempt : ℕ) (message : Message) → Line
  idles : Line
  broken : Line

-- what the end that hears a line makes of it: it does not see the attempt
abbrev pub said_of : Line → Said
said_of (greets g) = said.Greeting g
said_of (tells attempt m) = said.Message m
said_of idles = said.Alive
said_of broken = said.Nothing

-- a direction: the lines that left it, which were heard or lost, and those that are on their way, the oldest first
pub record Way : Type 0 where
  pub gone : List Line
  pub coming : List Line

abbrev pub way : List Line → List Line → Way
way gone coming = record { gone = gone; coming = coming }

-- all lines that were written there, the oldest first
abbrev pub written : Way → List Line
written w = w.gone ++ w.coming

-- one more line is written
abbrev pub with_line : Way → Line → Way
with_line w x = way w.gone (w.coming ++ x ∷ [])

-- the first lines, so many of them, leave it
abbrev pub without : ℕ → List Line → List Line → Way
without zero gone coming = way gone coming
without (suc count) gone [] = way gone []
without (suc count) gone (x ∷ coming) = without count (gone ++ x ∷ []) coming

-- a link as one of its ends sees it: that end and the other, what each says of itself, and the directions from here to there and back
pub record Link : Type 0 where
  pub here : End
  pub there : End
  pub speaker : Speaker
  pub other : Speaker
  pub forth : Way
  pub back : Way

-- the same as the other end sees it
abbrev pub turned : Link → Link
turned l = record { here = l.there; there = l.here; speaker = l.other; other = l.speaker; forth = l.back; back = l.forth }

-- this end writes a line
abbrev pub writes : Link → Line → Link
writes l x = record l { forth = with_line l.forth x }

-- it writes its greeting
abbrev pub greets_there : Link → Link
greets_there l = writes l (greets (greeting_of l.speaker l.here))

-- it does so if it has to
abbrev pub greets_if : Bool → Link → Link
greets_if true l = greets_there l
greets_if false l = l

-- it hears the first of the lines that are on their way to it
abbrev pub hears_one : Link → Line → List Line → ℕ → Link
hears_one l x rest next =
    let h : Heard = heard_line l.here (said_of x) next in
    greets_if h.answers (record l { here = h.end; back = way (l.back.gone ++ x ∷ []) rest })

abbrev pub hears_first : Link → List Line → ℕ → Link
hears_first l [] next = l
hears_first l (x ∷ rest) next = hears_one l x rest next

-- it begins an attempt with this number, and greets
abbrev pub begins : Link → ℕ → ℕ → Link
begins l number heard = greets_there (record l { here = begun number heard })

-- what two ends are opened with: who they are, and the numbers of their first attempts
pub record Opening : Type 0 where
  pub speaker : Speaker
  pub other : Speaker
  pub number : ℕ
  pub number_there : ℕ

-- two ends that have begun, whose first greetings are on their way
abbrev pub opened : Opening → Link
opened o = record {
  here = begun o.number 0;
  there = begun o.number_there 0;
  speaker = o.speaker;
  other = o.other;
  forth = way [] (greets (greeting_of o.speaker (begun o.number 0)) ∷ []);
  back = way [] (greets (greeting_of o.other (begun o.number_there 0)) ∷ []);
}

-- their numbers are not 0
pub record IsOpening (o : Opening) : Type 0 where
  pub some : o.number ≢ 0
  pub some_there : o.number_there ≢ 0

-- a line was not written in the attempt of this number
abbrev pub IsNotOf : ℕ → Line → Type 0
IsNotOf n (greets g) = g.number ≢ n
IsNotOf n (tells attempt m) = attempt ≢ n
IsNotOf n idles = ⊤
IsNotOf n broken = ⊤

-- a line was written in it, or is an empty one or a part of one
abbrev pub IsOf : ℕ → Line → Type 0
IsOf n (greets g) = g.number ≡ n
IsOf n (tells attempt m) = attempt ≡ n
IsOf n idles = ⊤
IsOf n broken = ⊤

-- a line is no message of that attempt
abbrev pub IsUntold : ℕ → Line → Type 0
IsUntold n (greets g) = ⊤
IsUntold n (tells attempt m) = attempt ≢ n
IsUntold n idles = ⊤
IsUntold n broken = ⊤

-- a line is no greeting that repeats this number
abbrev pub IsUnrepeated : ℕ → Line → Type 0
IsUnrepeated n (greets g) = g.heard ≢ n
IsUnrepeated n (tells attempt m) = ⊤
IsUnrepeated n idles = ⊤
IsUnrepeated n broken = ⊤

-- A number that this end can choose: it is not 0, the other end does not hold it for the last one that it heard, no line that this end
-- wrote is of it, and none that is on its way here repeats it. So it is of each number that this end never chose before.
pub record IsFresh (n : ℕ) (l : Link) : Type 0 where
  pub some : n ≢ 0
  pub unheard : l.there.heard ≢ n
  pub own : AllByRecursion (IsNotOf n) (written l.forth)
  pub unrepeated : AllByRecursion (IsUnrepeated n) l.back.coming
