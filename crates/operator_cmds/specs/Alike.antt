-- What two runs of one script have in common. (This project's own choice.)
use Rattle.std.specs.Prelude.{◌≡◌, ◌⊎◌, ℕ, List, [], ◌∷◌, map, Option}
use Rattle.std.specs.Io.KnownBytes.{Appends}
use Rattle.filter_source.specs.Refusals.{place_in_line, refusal_code}
use Rattle.filter_source.specs.Sources as sources
use Rattle.filter_source.specs.declared.refusal.Refusal.{Refusal}
use Rattle.history_lines.specs.Views.{entry_view}
use Rattle.line_protocol.specs.Answers.{Answer, text_of}
use Rattle.line_protocol.specs.Lines.{numbered}
use Rattle.route_history.specs.JournalView.{JournalView}
use Rattle.operator_cmds.specs.Replies.{refused}
use Rattle.operator_cmds.specs.Script.{ScriptView}
use Rattle.operator_cmds.specs.Stages.{StageView, Empty, Setting, Open}

-- journals with the same history: a filter in it is its code and its size, wherever it is kept
pub record AreAlikeJournals (one other : JournalView) : Type 0 where
  pub opening : one.opening ≡ other.opening
  pub limit : one.limit ≡ other.limit
  pub entries : map entry_view one.entries ≡ map entry_view other.entries

-- scripts that have come equally far
abbrev pub AreAlikeStages : StageView → StageView → Type 0
AreAlikeStages Empty Empty = Unit {0}
AreAlikeStages (Setting opening limit) (Setting o l) = (opening ≡ o) × (limit ≡ l)
AreAlikeStages (Open journal) (Open other) = AreAlikeJournals journal other
AreAlikeStages one other = ⊥

-- scripts that have come equally far and have the same filters
pub record AreAlike (one other : ScriptView) : Type 0 where
  pub stage : AreAlikeStages one.stage other.stage
  pub filters : (name : List ℕ) → one.filters name ≡ other.filters name

-- Two answers to the line of a number: the same, or both refuse the text of a filter with a P code, or both with a Y code. Which of the
-- faults of a text is answered is left open.
abbrev pub AreAlikeAnswers : ℕ → Answer → Answer → Type 0
AreAlikeAnswers number one other = (one ≡ other) ⊎ ((why : Refusal) × (another : Refusal) × sources.AreAlike why another
    × (one ≡ refused (refusal_code why) (place_in_line why number)) × (other ≡ refused (refusal_code another) (place_in_line another number)))

-- two lists of answers to the first of some lines
abbrev pub AreAnsweredAlike : List (ℕ × List ℕ) → List Answer → List Answer → Type 0
AreAnsweredAlike lines [] [] = Unit {0}
AreAnsweredAlike (line ∷ lines) (one ∷ given) (other ∷ told) =
    AreAlikeAnswers line.0 one other × AreAnsweredAlike lines given told
AreAnsweredAlike lines given told = ⊥

-- What two writers got that the answers to one input were written to. They held `held` and `had` before, and now hold `holds` and `has`.
pub record AreWrittenAlike (input : List ℕ) (held holds had has : Option (List ℕ)) : Type 0 where
  pub given : List Answer
  pub told : List Answer
  pub one : Appends held holds (text_of given)
  pub other : Appends had has (text_of told)
  pub alike : AreAnsweredAlike (numbered input) given told
