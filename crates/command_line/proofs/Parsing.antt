-- What the parser of words makes of a command line.
use Rattle.std.proofs.Common.{◌≡◌, ◌∙◌, ◌⊎◌, true, List, ℕ, Result, Ok, Err, ap, inl, inr, refl, subst, sym}
use Rattle.std.specs.Prelude.{IfErr, IfOk}
use Rattle.clap.specs.Words.{App, HasMatchesOf, IsAmong, fault_of, is_simple, is_simple_and_free, kind_of, subcommand_of, subcommand_rows_of}
use Rattle.clap.specs.Kinds.{FailsBy as ParseFailsBy}
use Rattle.clap.specs.declared.error.Error.{Error}
use Rattle.clap.specs.declared.error.kind.ErrorKind.TheVariants as kind
use Rattle.clap.specs.declared.parser.matches.ArgMatches.{ArgMatches}
use Rattle.command_line.specs.Meaning.{FailsBy, IsParsed, Meets, Shows}
use Rattle.command_line.specs.Parameters.{AreChoices, all_taken, command_app, program}
use Rattle.command_line.specs.declared.options.Choices.{Choices}
use Rattle.command_line.specs.declared.terminals.Terminals.{Terminals}
use Rattle.command_line.specs.declared.words.Invocation.TheVariants.{Shown}
use Rattle.program_words.specs.Showing.{status_of}
use Rattle.line_protocol.specs.declared.faults.StreamFault.{StreamFault}
use Rattle.line_protocol.specs.declared.faults.StreamFault.TheVariants.{Memory, Write}

-- the program is one of which the parser's contract gives the matches, and the kinds of its errors
program_is_simple : (choices : Choices) → is_simple (program choices) ≡ true
unfolding all_taken command_app
program_is_simple choices = refl

program_is_free : (choices : Choices) → is_simple_and_free (program choices) ≡ true
unfolding all_taken command_app
program_is_free choices = refl

module _ (choices : Choices) (are : AreChoices choices) (made : App) (is : made ≡ program choices) (line : List (List ℕ)) where
  simple : is_simple made ≡ true
  simple = ap is_simple is ∙ program_is_simple choices

  free : is_simple_and_free made ≡ true
  free = ap is_simple_and_free is ∙ program_is_free choices

  same : fault_of made line ≡ fault_of (program choices) line
  same = ap (λ (a : App). fault_of a line) is

  pub meets : (parsed : Result ArgMatches Error) → IfOk parsed (HasMatchesOf made line) → (is_simple_and_free made ≡ true → ParseFailsBy (fault_of made line) parsed)
      → IfOk parsed (λ matches. Meets line (subcommand_rows_of matches))
  meets (Ok matches) has fails = record {
    choices = choices;
    are_choices = are;
    accepted = sym same ∙ fails free;
    is_met = (has simple).1 ∙ ap (λ (a : App). subcommand_of a line) is;
  }
  meets (Err error) has fails = tt

  pub shows : (parsed : Result ArgMatches Error) → (is_simple_and_free made ≡ true → ParseFailsBy (fault_of made line) parsed)
      → IfErr parsed (λ error. (kind_of error ≡ kind.OutOfMemory) ⊎ Shows line (kind_of error))
  shows (Ok matches) fails = tt
  shows (Err error) fails = elim (fails free) [
    | inl none ↦ inl none
    | inr among ↦ inr (record { choices = choices; are_choices = are; among = subst (IsAmong (kind_of error)) same among })
  ]

-- what is shown in place of matches
module _ (line : List (List ℕ)) (terminals : Terminals) (error : Error) (shows : (kind_of error ≡ kind.OutOfMemory) ⊎ Shows line (kind_of error)) where
  known : (kind_of error ≡ kind.OutOfMemory → ⊥) → Shows line (kind_of error)
  known other = elim shows [
    | inl none ↦ absurd (other none)
    | inr shown ↦ shown
  ]

  pub shown_is_parsed : (status : ℕ) → (kind_of error ≡ kind.OutOfMemory → ⊥) × (status ≡ status_of (kind_of error)) → IsParsed line terminals (Shown status)
  shown_is_parsed status shown = inl (kind_of error, known shown.0, ap (λ s. Shown s) shown.1)

  pub show_fails : (fault : StreamFault) → (fault ≡ Memory) ⊎ ((fault ≡ Write) × (kind_of error ≡ kind.OutOfMemory → ⊥) × (status_of (kind_of error) ≡ 0))
      → FailsBy line fault
  show_fails fault (inl memory) = inl memory
  show_fails fault (inr (write, other, help)) = inr (write, (kind_of error, known other, help))
