-- What the program says for `replay`. (This project's own choice.)
use Rattle.std.specs.Prelude.{◌≡◌, ◌⊎◌, ℕ, zero, suc, ◌+◌, ◌≤◌, true, false, if◌then◌else◌, List, [], Option, Some, None, ◌++◌, Result, length, slice_get, ⊤}
use Rattle.std.specs.declared.io.Error.{Error}
use Rattle.filter_reports.specs.Reports.{ReportView}
use Rattle.history_file.specs.ChainLines.{chain_line, fault_line, file_words}
use Rattle.history_file.specs.Chains.{IsJoinFault, Joins, is_segment}
use Rattle.history_file.specs.Replays.{IsVerdict, is_right, verdict_line}
use Rattle.history_file.specs.declared.chain.Chain.{Chain}
use Rattle.history_file.specs.declared.chain.ChainFault.{ChainFault}
use Rattle.history_file.specs.declared.verdict.ReplayVerdict.{ReplayVerdict}
use Rattle.line_protocol.specs.declared.faults.StreamFault.{StreamFault}
use Rattle.line_protocol.specs.declared.faults.StreamFault.TheVariants.{Memory, TooLong}
use Rattle.program_console.specs.Commands.{unread_report}
use Rattle.program_console.specs.Reading.{IsRead, IsUnreadBy, StopsLoading}
use Rattle.program_words.specs.declared.source.Source.{Source}
use Rattle.ncroute.specs.declared.replaying.ReplayedSegments.{ReplayedSegments}
use Rattle.ncroute.specs.declared.replaying.ReplayedSegments.TheVariants as replayed

-- the text of a history of more bytes than this is not replayed
abbrev pub replay_limit : ℕ
replay_limit = 1073741824

-- A fault kept a text from being replayed: memory was refused, or the text is over the limit.
abbrev pub StopsReplay : StreamFault → List ℕ → Type 0
StopsReplay Memory text = ⊤
StopsReplay TooLong text = replay_limit + 1 ≤ length text
StopsReplay _ text = ⊥

-- the report on the text of a whole history, by the verdict on it: its line, and whether it is the text of a right history, to its end
abbrev pub verdict_report : ReplayVerdict → ReportView
verdict_report verdict = record { out = verdict_line verdict; err = []; status = if is_right verdict then 0 else 1 }

pub record ReplaysHistory (text : List ℕ) (report : ReportView) : Type 0 where
  pub within : length text ≤ replay_limit
  pub verdict : ReplayVerdict
  pub is_verdict : IsVerdict text verdict
  pub is_report : report ≡ verdict_report verdict

-- A text is the next segment of a chain, or its first where there is none; or it is not, of the file of this number.
abbrev pub JoinsText : Option Chain → Option ℕ → List ℕ → ReplayedSegments → Type 0
JoinsText chain file text (replayed.Right now) = (length text ≤ replay_limit) × Joins text chain now
JoinsText chain file text (replayed.Refused number fault) =
    (length text ≤ replay_limit) × (number ≡ file) × IsJoinFault text chain fault
JoinsText chain file text (replayed.Unread line) = ⊥

-- a file was not read, and this line tells why
abbrev pub IsUnreadAs : List ℕ → ReplayedSegments → Type 0
IsUnreadAs line (replayed.Right chain) = ⊥
IsUnreadAs line (replayed.Refused file fault) = ⊥
IsUnreadAs line (replayed.Unread told) = told.items ≡ line

-- the report on what came of segments
abbrev pub replay_report : ReplayedSegments → ReportView
replay_report (replayed.Right chain) = record { out = chain_line chain; err = []; status = 0 }
replay_report (replayed.Refused file fault) = record { out = file_words file ++ fault_line fault; err = []; status = 1 }
replay_report (replayed.Unread line) = unread_report 3 line.items

-- that on the text of one segment
abbrev pub ReplaysSegment : List ℕ → ReportView → Type 0
ReplaysSegment text report = (found : ReplayedSegments) × JoinsText None None text found × (report ≡ replay_report found)

-- that on one text, which is a segment's, or else is taken for that of a whole history
abbrev pub ReplaysText : List ℕ → ReportView → Type 0
ReplaysText text report = ((is_segment text ≡ true) × ReplaysSegment text report) ⊎ ((is_segment text ≡ false) × ReplaysHistory text report)

-- `opens name` says what may come of opening a file of this name.
module _ (opens : List ℕ → Result (Option (List ℕ)) Error → Type 0) where
  -- the report on one source: that on its text; or it says that this was not read
  abbrev pub ReplaysSource : Source → ReportView → Option (List ℕ) → Option (List ℕ) → Type 0
  ReplaysSource source report known left =
      ((text : List ℕ) × IsRead opens replay_limit source text known left × ReplaysText text report)
      ⊎ ((line : List ℕ) × IsUnreadBy opens replay_limit source line known left × (report ≡ unread_report 3 line))

  -- A fault kept its text from being read or replayed.
  abbrev pub StopsReading : StreamFault → Source → Option (List ℕ) → Option (List ℕ) → Type 0
  StopsReading fault source known left = StopsLoading opens fault replay_limit source known left
      ⊎ ((text : List ℕ) × IsRead opens replay_limit source text known left × StopsReplay fault text)

  -- A source was read and joined to a chain; or it was not read.
  abbrev pub JoinsSource : Option Chain → Option ℕ → Source → ReplayedSegments → Option (List ℕ) → Option (List ℕ) → Type 0
  JoinsSource chain file source found known left =
      ((text : List ℕ) × IsRead opens replay_limit source text known left × JoinsText chain file text found)
      ⊎ ((line : List ℕ) × IsUnreadBy opens replay_limit source line known left × IsUnreadAs line found)

  -- The first n of some sources were joined, in order.
  unfoldable pub JoinsFirst : List Source → ℕ → Option Chain → Option (List ℕ) → Option (List ℕ) → Type 0
  JoinsFirst sources zero chain known left = (left ≡ known) × (chain ≡ None)
  JoinsFirst sources (suc n) chain known left = (source : Source) × (mid : Option (List ℕ)) × (earlier : Option Chain) × (now : Chain)
      × (chain ≡ Some now) × (slice_get sources n ≡ Some source) × JoinsFirst sources n earlier known mid
      × JoinsSource earlier (Some (n + 1)) source (replayed.Right now) mid left

  -- The one after them was refused or not read.
  pub record BailsOut (sources : List Source) (found : ReplayedSegments) (known left : Option (List ℕ)) : Type 0 where
    pub n : ℕ
    pub source : Source
    pub is_source : slice_get sources n ≡ Some source
    pub mid : Option (List ℕ)
    pub chain : Option Chain
    pub first : JoinsFirst sources n chain known mid
    pub refused : JoinsSource chain (Some (n + 1)) source found mid left

  -- All were joined, or those before one that was refused or not read; where there is none there is nothing to replay.
  abbrev pub JoinsAll : List Source → ReplayedSegments → Option (List ℕ) → Option (List ℕ) → Type 0
  JoinsAll sources (replayed.Right chain) known left = JoinsFirst sources (length sources) (Some chain) known left
  JoinsAll sources (replayed.Refused file fault) known left = BailsOut sources (replayed.Refused file fault) known left
  JoinsAll sources (replayed.Unread line) known left = BailsOut sources (replayed.Unread line) known left
      ⊎ (JoinsFirst sources (length sources) None known left × (line.items ≡ []))

  -- A fault ended it behind the first of some sources.
  pub record StopsAmong (fault : StreamFault) (sources : List Source) (known left : Option (List ℕ)) : Type 0 where
    pub n : ℕ
    pub source : Source
    pub is_source : slice_get sources n ≡ Some source
    pub mid : Option (List ℕ)
    pub chain : Option Chain
    pub first : JoinsFirst sources n chain known mid
    pub stopped : StopsReading fault source mid left

  -- the report on several sources, which are the segments of one history
  abbrev pub ReplaysSegments : List Source → ReportView → Option (List ℕ) → Option (List ℕ) → Type 0
  ReplaysSegments sources report known left = (found : ReplayedSegments) × JoinsAll sources found known left × (report ≡ replay_report found)

  abbrev pub StopsSegments : StreamFault → List Source → Option (List ℕ) → Option (List ℕ) → Type 0
  StopsSegments fault sources known left = StopsAmong fault sources known left
      ⊎ ((found : ReplayedSegments) × JoinsAll sources found known left × (fault ≡ Memory))

  -- the report on sources: one is a history or a segment, and several are the segments of a history in order
  abbrev pub ReplaysSources : List Source → ReportView → Option (List ℕ) → Option (List ℕ) → Type 0
  ReplaysSources sources report known left =
      ((source : Source) × (slice_get sources 0 ≡ Some source) × (length sources ≡ 1) × ReplaysSource source report known left)
      ⊎ ReplaysSegments sources report known left

  abbrev pub StopsSources : StreamFault → List Source → Option (List ℕ) → Option (List ℕ) → Type 0
  StopsSources fault sources known left =
      ((source : Source) × (slice_get sources 0 ≡ Some source) × (length sources ≡ 1) × StopsReading fault source known left)
      ⊎ StopsSegments fault sources known left
