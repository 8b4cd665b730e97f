-- How a run of `eval` goes and ends (this project's own choice).
use Rattle.std.specs.Prelude.{◌≡◌, ◌≤◌, ◌+◌, ℕ, false, List, [], ◌++◌, length, take, Option, Some, ⊤}
use Rattle.std.specs.Io.KnownBytes.{Appends, Consumes}
use Rattle.line_protocol.specs.Answers.{Answer, is_over, text_of}
use Rattle.line_protocol.specs.Lines.{numbered, whole_lines}
use Rattle.line_protocol.specs.Runs.{IsWritten}
use Rattle.line_protocol.specs.declared.faults.StreamFault.{StreamFault}
use Rattle.line_protocol.specs.declared.faults.StreamFault.TheVariants.{Read, Write, Memory, TooLong}
use Rattle.route_answers.specs.Eval.{eval_answers, eval_out, eval_refusals, line_answers}
use Rattle.line_protocol.specs.Limits.{input_limit}

-- A run was answered to its end. `input` is all that the reader had, `left` what it has now; `held` and `holds` are what the
-- writer held before and holds now; `refused` is the number that was returned.
pub record Evaluates (input : List ℕ) (left held holds : Option (List ℕ)) (refused : ℕ) : Type 0 where
  pub written : Appends held holds (eval_out input)
  pub counted : refused ≡ eval_refusals input
  pub read : List ℕ
  pub consumed : Consumes (Some input) left read
  pub within : length read ≤ input_limit
  -- only after a refused line of the code may something be left unread
  pub to_end : is_over (eval_answers input) ≡ false → left ≡ Some []

-- How far the answers reach where a fault ended the run, when `read` was read of the input.
abbrev pub ReachesTo : StreamFault → List ℕ → List Answer → Type 0
-- each line that ended in what was read is answered
ReachesTo Read read given = text_of given ≡ text_of (line_answers (numbered (whole_lines read)))
ReachesTo Write read given = ⊤
ReachesTo Memory read given = ⊤
-- one byte more than the limit was read, and each line that ended within the limit is answered
ReachesTo TooLong read given = (length read ≡ input_limit + 1) ×
    (text_of given ≡ text_of (line_answers (numbered (whole_lines (take input_limit read)))))

-- A fault ended a run: the first of the answers to the input are written, each whole, but for a writer that failed.
pub record Breaks (fault : StreamFault) (input : List ℕ) (left held holds : Option (List ℕ)) : Type 0 where
  pub given : List Answer
  pub others : List Answer
  pub first : eval_answers input ≡ given ++ others
  pub written : IsWritten fault held holds (text_of given)
  pub read : List ℕ
  pub consumed : Consumes (Some input) left read
  pub reach : ReachesTo fault read given
