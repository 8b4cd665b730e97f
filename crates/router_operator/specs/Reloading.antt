-- What an operator is answered whose router's files are read again, and what becomes of the router's history. (This project's own choice.)
use Rattle.std.specs.Prelude.{◌≡◌, ◌⊎◌, ◌==◌, ℕ, ◌-◌, ◌++◌, Bool, true, false, MatchBool, List, [], ◌∷◌, flat_map, length, take, slice_get, Option, Some, None, nat_lt}
use Rattle.std.specs.Prelude.{if◌then◌else◌, codes, decimal, IfOk}
use Rattle.std.specs.Str.{bytes_eq}
use Rattle.std.specs.declared.sync.Arc.{Arc}
use Rattle.std.specs.declared.alloc.Global.{Global}
use Rattle.filter_differences.specs.Differences.{TellsParts}
use Rattle.filter_verifier.specs.VerifiedView.{VerifiedView}
use Rattle.line_protocol.specs.Answers.{Answer}
use Rattle.line_protocol.specs.Words.{words}
use Rattle.line_protocol.specs.declared.answers.LineReply.{LineReply}
use Rattle.line_protocol.specs.declared.answers.LineReply.TheVariants as line_reply
use Rattle.netchange_core.specs.Kept.{filter_of}
use Rattle.netchange_core.specs.World.{NeighbourView, World, neighbour_at}
use Rattle.operator_cmds.specs.CommandView.{Load}
use Rattle.line_protocol.specs.Names.{is_name}
use Rattle.operator_cmds.specs.Replies.{answered}
use Rattle.operator_cmds.specs.Script.{setting, tables_of}
use Rattle.operator_cmds.specs.WordLists.{one_of, two_of}
use Rattle.operator_cmds.specs.declared.event.Direction.{Direction}
use Rattle.operator_cmds.specs.declared.event.Direction.TheVariants as direction
use Rattle.route_history.specs.Beginning.{Begins}
use Rattle.route_history.specs.JournalView.{JournalView}
use Rattle.router_operator.specs.OperatorView.{Names, OperatorView, journal_seen}
use Rattle.router_operator.specs.Operators.{AnswersEvent, AsScript, Looks, OnlyPass}
use Rattle.router_operator.specs.Operators as operator
use Rattle.router_operator.specs.declared.configuration.LinkChange.{LinkChange}
use Rattle.router_operator.specs.declared.configuration.NamedUse.{NamedUse}
use Rattle.router_operator.specs.declared.reloading.FindingFilter.{FindingFilter}
use Rattle.router_options.specs.declared.parts.LinkFiles.{LinkFiles}
use Rattle.router_status.specs.Status.{is_same_code}

-- ---- what is in force

abbrev pub filter_toward : Direction → NeighbourView → Option VerifiedView
filter_toward direction.Import n = n.imports
filter_toward direction.Export n = n.exports

-- the filter that a node of the domain has in a direction, if it has one
abbrev pub in_force : World → Direction → ℕ → Option VerifiedView
in_force w way node = if nat_lt node w.opening.size then filter_toward way (neighbour_at w.neighbours node) else None

-- a use is met by the filter that is there, or by there being none
abbrev pub is_met_by : NamedUse → Option VerifiedView → Bool
is_met_by used None = used.is_plain
is_met_by used (Some f) = is_same_code f used.filter.value

abbrev pub is_in_force : World → NamedUse → Bool
is_in_force w used = is_met_by used (in_force w used.direction used.node)

-- the filter was looked for there, unless memory was refused
abbrev pub FindsFilter : FindingFilter → JournalView → FindingFilter → Type 0
FindsFilter before history after =
    IfOk after.found (λ found. filter_of found ≡ in_force (tables_of history) before.direction before.node)

-- ---- a use is put in force

-- its filter is set by an event, to which this is replied
abbrev pub Sets : OperatorView → NamedUse → LineReply → OperatorView → Type 0
Sets before used reply after = (filter : Arc VerifiedView Global) × (filter.value ≡ used.filter.value)
    × (answer : Answer) × AnswersEvent before (setting used.direction used.node filter) answer after × (reply ≡ answer.reply)

-- nothing is called where the use is only looked at, as if it were set
abbrev pub SetsUnless : Bool → OperatorView → NamedUse → LineReply → OperatorView → Type 0
SetsUnless true before used reply after = (reply ≡ line_reply.Answered) × (after ≡ before)
SetsUnless false before used reply after = Sets before used reply after

-- lines, told in one: each behind a bar
abbrev pub shown_byte : ℕ → List ℕ
shown_byte byte = if byte == 10 then codes " | " else byte ∷ []

abbrev pub without_last : List ℕ → List ℕ
without_last text = take (length text - 1) text

abbrev pub in_one_line : List ℕ → List ℕ
in_one_line text = codes " | " ++ flat_map shown_byte (without_last text)

-- so many classes of routes are tried where filters are compared
abbrev pub compared : ℕ
compared = 1000000

-- in what the filter of a use differs from the one that is there, if there is one: lines as `diff` writes them
abbrev pub DiffersBy : NamedUse → Option VerifiedView → List ℕ → Type 0
DiffersBy used None told = told ≡ []
DiffersBy used (Some f) told = (text : List ℕ) × TellsParts f.program used.filter.value.program f.size compared text
    × (told ≡ in_one_line text)

-- they are told where the use is only looked at
abbrev pub TellsDifference : Bool → NamedUse → Option VerifiedView → List ℕ → Type 0
TellsDifference true used found told = DiffersBy used found told
TellsDifference false used found told = told ≡ []

-- The history is looked at: by it the use is in force, and nothing is replied; or it is not, and is set, and it is told in what that differs.
abbrev pub Puts : Bool → OperatorView → NamedUse → Option LineReply → List ℕ → OperatorView → Type 0
Puts checks before used put differs after = (mid : OperatorView) × Looks before mid × MatchBool (is_in_force (tables_of (journal_seen mid)) used)
    ((put ≡ None) × (differs ≡ []) × (after ≡ mid))
    ((reply : LineReply) × (put ≡ Some reply) × SetsUnless checks mid used reply after
    × TellsDifference checks used (in_force (tables_of (journal_seen mid)) used.direction used.node) differs)

abbrev pub direction_word : Direction → List ℕ
direction_word direction.Import = codes " | import "
direction_word direction.Export = codes " | export "

abbrev pub use_words : NamedUse → List ℕ
use_words used = direction_word used.direction ++ decimal used.node ++ 32 ∷ used.name.items

-- what is told of a use that is not refused
abbrev pub put_words : NamedUse → Option LineReply → List ℕ → List ℕ
put_words used None differs = []
put_words used (Some reply) differs = use_words used ++ differs

abbrev pub is_refused : Option LineReply → Bool
is_refused None = false
is_refused (Some line_reply.Answered) = false
is_refused (Some line_reply.Refused) = true
is_refused (Some line_reply.Ended) = true

-- what is told of it stands behind what there was, unless it is refused
abbrev pub PutsNext : Bool → OperatorView → NamedUse → List ℕ → Bool → List ℕ → OperatorView → Type 0
PutsNext checks before used old refused new after = (put : Option LineReply) × (differs : List ℕ) × Puts checks before used put differs after
    × (is_refused put ≡ refused) × (new ≡ (if refused then old else old ++ put_words used put differs))

-- ---- the uses of a configuration, one after another

-- this is told of those that were not in force
abbrev pub PutsAll : Bool → OperatorView → List NamedUse → List ℕ → OperatorView → Type 0
PutsAll checks before [] text after = (text ≡ []) × (after ≡ before)
PutsAll checks before (used ∷ uses) text after = (mid : OperatorView) × (put : Option LineReply) × (differs : List ℕ)
    × Puts checks before used put differs mid × (is_refused put ≡ false) × (more : List ℕ) × PutsAll checks mid uses more after
    × (text ≡ put_words used put differs ++ more)

-- up to one whose event was refused
abbrev pub PutsSome : Bool → OperatorView → List NamedUse → List ℕ → OperatorView → Type 0
PutsSome checks before uses text after = (count : ℕ) × (used : NamedUse) × (slice_get uses count ≡ Some used)
    × (mid : OperatorView) × PutsAll checks before (take count uses) text mid
    × (put : Option LineReply) × (differs : List ℕ) × Puts checks mid used put differs after × (is_refused put ≡ true)

-- all of them, or not the whole; and what is told of them stands behind what there was
abbrev pub PutsEach : Bool → OperatorView → List NamedUse → List ℕ → Bool → List ℕ → OperatorView → Type 0
PutsEach checks before uses old whole new after = (text : List ℕ) × (new ≡ old ++ text)
    × MatchBool whole (PutsAll checks before uses text after) (PutsSome checks before uses text after)

-- ---- a reload

-- the names are those of the configuration, unless that is only looked at
abbrev pub renamed : Bool → Names → OperatorView → OperatorView
renamed true names o = o
renamed false names o = record o { names = names }

abbrev pub reload_word : Bool → List ℕ
reload_word true = codes "reload"
reload_word false = codes "reloaded"

unfoldable pub broken_off : List ℕ
broken_off = codes "refused O13 "

abbrev pub refused_behind : ℕ → List ℕ → Answer
refused_behind number text = record { text = broken_off ++ decimal number ++ text ++ 10 ∷ []; reply = line_reply.Refused }

-- All uses are in force, which the answer says of those that were not. Or the router refused one, as where its history is full: the uses before it
-- are in force, and the names are as they were.
abbrev pub Reloads : Bool → OperatorView → ℕ → Names → List NamedUse → List ℕ → Answer → OperatorView → Type 0
Reloads checks before number names uses told answer after =
    ((text : List ℕ) × (mid : OperatorView) × PutsAll checks before uses text mid × (after ≡ renamed checks names mid)
    × (answer ≡ answered (reload_word checks ++ text ++ told)))
    ⊎ ((text : List ℕ) × PutsSome checks before uses text after
    × (answer ≡ refused_behind number text))

-- what is told of a link that changes
abbrev pub change_word_of : Option LinkFiles → Bool → List ℕ
change_word_of None is_new = codes " is gone"
change_word_of (Some files) true = codes " is new"
change_word_of (Some files) false = codes " has other files"

abbrev pub change_word : LinkChange → List ℕ
change_word change = change_word_of change.files change.is_new

abbrev pub change_words : LinkChange → List ℕ
change_words change = codes " | link " ++ decimal change.node ++ change_word change

-- links change, too, which is told behind the uses; which links they are stands in no history
abbrev pub ReloadsLinks : Bool → OperatorView → ℕ → Names → List NamedUse → Answer → OperatorView → Type 0
ReloadsLinks checks before number names uses answer after = (changes : List LinkChange)
    × Reloads checks before number names uses (flat_map change_words changes) answer after

-- what is not taken is told in words, and changes nothing
unfoldable pub not_taken : List ℕ
not_taken = codes "refused O12 "

abbrev pub because : List ℕ → List ℕ
because why = 32 ∷ why ++ 10 ∷ []

abbrev pub refused_in_words : ℕ → List ℕ → Answer
refused_in_words number why = record { text = not_taken ++ decimal number ++ because why; reply = line_reply.Refused }

abbrev pub RefusesInWords : OperatorView → ℕ → Answer → OperatorView → Type 0
RefusesInWords before number answer after = (why : List ℕ) × (answer ≡ refused_in_words number why) × (after ≡ before)

-- ---- a line

-- a name that a filter may have, and a file
abbrev pub naming : Option (List ℕ × List ℕ) → Option (List ℕ × List ℕ)
naming None = None
naming (Some (name, file)) = if is_name name then Some (name, file) else None

-- `read NAME FILE`
abbrev pub read_by : List (List ℕ) → Option (List ℕ × List ℕ)
read_by [] = None
read_by (word ∷ others) = if bytes_eq word (codes "read") then naming (two_of others) else None

abbrev pub read_in : List ℕ → Option (List ℕ × List ℕ)
read_in line = read_by (words line)

-- `reload`, and `reload check`, by which the configuration is only looked at
abbrev pub reload_of : List ℕ → Option Bool
reload_of word = if bytes_eq word (codes "reload") then Some false else None

abbrev pub reload_for : List ℕ → List ℕ → Option Bool
reload_for word how = if bytes_eq how (codes "check") then (if bytes_eq word (codes "reload") then Some true else None) else None

abbrev pub reload_by : Option (List ℕ) → Option (List ℕ × List ℕ) → Option Bool
reload_by (Some word) both = reload_of word
reload_by None (Some both) = reload_for both.0 both.1
reload_by None None = None

abbrev pub reload_in : List ℕ → Option Bool
reload_in line = reload_by (one_of (words line)) (two_of (words line))

-- `reads size file text` says that a file may have this text
module _ (reads : ℕ → List ℕ → List ℕ → Type 0) where
  -- the text of a file is taken as `load` takes it; or what is wrong is told in words
  abbrev pub AnswersReading : OperatorView → ℕ → List ℕ → List ℕ → Answer → OperatorView → Type 0
  AnswersReading before number name file answer after =
      ((text : List ℕ) × reads before.router.opening.size file text × AsScript before number (Load name text) answer after)
      ⊎ RefusesInWords before number answer after

-- `says names uses` says that the configuration may say these filters and uses
module _ (says : Names → List NamedUse → Type 0) where
  -- the configuration is put in force; or what is wrong is told in words
  abbrev pub AnswersReload : Bool → OperatorView → ℕ → Answer → OperatorView → Type 0
  AnswersReload checks before number answer after =
      ((names : Names) × (uses : List NamedUse) × says names uses × ReloadsLinks checks before number names uses answer after)
      ⊎ RefusesInWords before number answer after

module _ (reads : ℕ → List ℕ → List ℕ → Type 0) (says : Names → List NamedUse → Type 0) where
  -- any other line is answered as ever
  abbrev pub AnswersAsked : OperatorView → ℕ → List ℕ → Option (List ℕ × List ℕ) → Option Bool → Answer → OperatorView → Type 0
  AnswersAsked before number line (Some (name, file)) reload answer after =
      AnswersReading reads before number name file answer after
  AnswersAsked before number line None (Some checks) answer after = AnswersReload says checks before number answer after
  AnswersAsked before number line None None answer after = operator.AnswersLine before number line answer after

  -- the operator of a router whose files are read again may be given this answer to the line of this number
  abbrev pub AnswersLine : OperatorView → ℕ → List ℕ → Answer → OperatorView → Type 0
  AnswersLine before number line answer after = AnswersAsked before number line (read_in line) (reload_in line) answer after

-- ---- refused memory

-- A line that was refused memory may have entered events; that they are the line's own is not said here. No name was changed.
pub record BreaksOff (before after : OperatorView) : Type 0 where
  pub only : OnlyPass before after
  pub begins : Begins before.pass.fragment.seen after.pass.fragment.seen
  pub mine : Begins before.pass.fragment.mine after.pass.fragment.mine
