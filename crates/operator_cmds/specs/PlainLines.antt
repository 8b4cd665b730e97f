-- Lines of a script in the usual spelling: one space between the words, and numbers of few digits. (This project's own choice.)
use Rattle.std.specs.Prelude.{◌≡◌, ℕ, List, ◌∷◌, ◌++◌, Some, codes}
use Rattle.line_protocol.specs.Words.{words}
use Rattle.prefix_patterns.specs.Leading.{IsUsualNumber}
use Rattle.prefix_patterns.specs.Reading.{number_in}
use Rattle.operator_cmds.specs.CommandView.{CommandView, Receive, Take, Show}
use Rattle.line_protocol.specs.Limits.{number_limit}
use Rattle.operator_cmds.specs.declared.plain.PlainCommand.{PlainCommand}
use Rattle.operator_cmds.specs.declared.plain.PlainCommand.TheVariants as plain

-- the first word of a line writes a number, and these words follow it
pub record BeginsWithNumber (line : List ℕ) (value : ℕ) (others : List (List ℕ)) : Type 0 where
  pub word : List ℕ
  pub cut : words line ≡ word ∷ others
  pub writes : number_in number_limit word ≡ Some value

-- the command of a line in the usual spelling
abbrev pub plain_view : PlainCommand → CommandView
plain_view (plain.Receive node dest dist) = Receive node dest dist
plain_view (plain.Take node) = Take node
plain_view (plain.Show node) = Show node

-- three numbers in the usual spelling, with a space between them
pub record AreThreeNumbers (text : List ℕ) : Type 0 where
  pub first : List ℕ
  pub second : List ℕ
  pub third : List ℕ
  pub are_usual : IsUsualNumber first × IsUsualNumber second × IsUsualNumber third
  pub spelled : text ≡ first ++ 32 ∷ (second ++ 32 ∷ third)

-- a line in the usual spelling: `recv` and three numbers, or `take` or `show` and one
pub data IsUsualLine (line : List ℕ) : Type 0 where
  usual_receive : (text : List ℕ) → AreThreeNumbers text → line ≡ codes "recv" ++ 32 ∷ text → IsUsualLine line
  usual_take : (text : List ℕ) → IsUsualNumber text → line ≡ codes "take" ++ 32 ∷ text → IsUsualLine line
  usual_show : (text : List ℕ) → IsUsualNumber text → line ≡ codes "show" ++ 32 ∷ text → IsUsualLine line
