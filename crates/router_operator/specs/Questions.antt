-- What a line asks of a running router that no script can ask. (This project's own choice.)
use Rattle.std.specs.Prelude.{ℕ, List, Option, Some, None, codes, if◌then◌else◌}
use Rattle.std.specs.Str.{bytes_eq}
use Rattle.line_protocol.specs.Words.{words}
use Rattle.operator_cmds.specs.WordLists.{one_of, two_of}
use Rattle.router_operator.specs.declared.questions.Question.{Question}
use Rattle.router_operator.specs.declared.questions.Question.TheVariants.{Quit, Status, Routes}
use Rattle.router_status.specs.Lines.{status_text}
use Rattle.router_status.specs.Objects.{status_json}
use Rattle.router_status.specs.Status.{StatusView}
use Rattle.router_status.specs.declared.form.Form.{Form}
use Rattle.router_status.specs.declared.form.Form.TheVariants.{Text, Json}

-- one word: `quit`, `status`
abbrev pub question_of : List ℕ → Option Question
question_of word =
    if bytes_eq word (codes "quit") then Some Quit else if bytes_eq word (codes "status") then Some (Status Text) else None

-- two words: `status json`, `routes json`
abbrev pub question_for : List ℕ → List ℕ → Option Question
question_for word form =
    if bytes_eq form (codes "json")
    then (if bytes_eq word (codes "status") then Some (Status Json) else if bytes_eq word (codes "routes") then Some Routes else None)
    else None

abbrev pub asked_by : Option (List ℕ) → Option (List ℕ × List ℕ) → Option Question
asked_by (Some word) both = question_of word
asked_by None (Some both) = question_for both.0 both.1
asked_by None None = None

abbrev pub question_in : List ℕ → Option Question
question_in line = asked_by (one_of (words line)) (two_of (words line))

-- what a router is about, in a form
abbrev pub status_words : Form → StatusView → List ℕ
status_words Text status = status_text status
status_words Json status = status_json status
