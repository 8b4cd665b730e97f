-- What becomes of a text that was written for some words.
use Rattle.std.specs.Prelude.{List, ℕ}
use Rattle.filter_parser.specs.Telling.{TellsRound}
use Rattle.filter_syntax.specs.SyntaxCommands.{DeclView}
use Rattle.filter_parser.specs.Unspelled.{IsUnspelled}
use Rattle.bird_import.specs.Indices.{IsNamedAt}
use Rattle.bird_import.specs.Spelling.{IsWritten}
use Rattle.bird_import.specs.Unassigned.{AreAssigned, MayReadUnset}
use Rattle.bird_import.specs.declared.text.TextOutcome.{TextOutcome}
use Rattle.bird_import.specs.declared.text.TextOutcome.TheVariants as text_outcome
use Rattle.bird_import.specs.declared.word.Word.{Word}

-- a text is written for some words, and the filter assigns each variable before it reads it
pub record IsTaken (words : List Word) (text : List ℕ) : Type 0 where
  pub written : IsWritten words text
  pub assigned : AreAssigned written.filter

-- A text is written for some words, and the one at an index is the name of a variable that the filter may read before it assigns it.
pub record HasUnsetAt (words : List Word) (text : List ℕ) (k : ℕ) : Type 0 where
  pub written : IsWritten words text
  pub variable : DeclView
  pub unset : (n : ℕ) × MayReadUnset written.filter n variable
  pub named : IsNamedAt variable.name words k

-- A text that is taken spells a filter, its tokens are the words, and it reads no variable before it is assigned. One that is refused spells no
-- filter, for a fault that it has, and what stands round the place is told. One that is garbled is not written for the words. One that is
-- unset is, and has a variable that may be read before it is assigned.
abbrev pub HasOutcome : List Word → List ℕ → TextOutcome → Type 0
HasOutcome words text text_outcome.Taken = IsTaken words text
HasOutcome words text (text_outcome.Refused why) = IsUnspelled text why.fault × TellsRound text why.fault why.around
HasOutcome words text text_outcome.Garbled = IsWritten words text → ⊥
HasOutcome words text (text_outcome.Unset k) = HasUnsetAt words text k
