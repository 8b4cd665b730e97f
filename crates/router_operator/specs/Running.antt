-- How an operator's lines go and end. (This project's own choice.)
use Rattle.std.specs.Prelude.{◌≡◌, ℕ, false, List, [], Option, Some}
use Rattle.line_protocol.specs.Runs.{Finishes, Stops}
use Rattle.line_protocol.specs.declared.faults.StreamFault.{StreamFault}
use Rattle.route_history.specs.Beginning.{Begins}
use Rattle.router_operator.specs.OperatorView.{OperatorView}
use Rattle.router_operator.specs.Operators.{AnswersLine, BreaksOff}

-- the most bytes that an operator may type: lines are numbered below 2^32
abbrev pub input_limit : ℕ
input_limit = 4294967200

-- the operator is at the same router, with the same links and as many shares, and what they had seen begins what they have seen now
pub record Stays (before after : OperatorView) : Type 0 where
  pub router : after.router ≡ before.router
  pub links : after.links ≡ before.links
  pub shares : after.pass.fragment.shares ≡ before.pass.fragment.shares
  pub begins : Begins before.pass.fragment.seen after.pass.fragment.seen

-- The operator's lines were answered to their end, or to `quit`. `input` is all that the reader had, `left` what it has now; `held`
-- and `holds` are what the writer held before and holds now; `refused` is the number that was returned.
pub record IsServed (before after : OperatorView) (input : List ℕ) (left held holds : Option (List ℕ)) (refused : ℕ) : Type 0 where
  pub finishes : Finishes AnswersLine input_limit before after input left held holds refused
  pub to_end : after.has_quit ≡ false → left ≡ Some []
  pub stays : Stays before after

-- A fault ended the operator's lines: the first ones are answered, each whole, but for a writer that failed. The names are those of
-- `IsServed`.
pub record IsBrokenOff (fault : StreamFault) (before now : OperatorView) (input : List ℕ) (left held holds : Option (List ℕ)) : Type 0 where
  pub stops : Stops AnswersLine BreaksOff input_limit fault before now input left held holds
  pub stays : Stays before now
