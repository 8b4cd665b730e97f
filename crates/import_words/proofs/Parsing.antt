-- What the parser of words makes of a command line.
use Rattle.std.proofs.Common.{◌≡◌, ◌∙◌, ◌⊎◌, true, List, [], ℕ, Result, Ok, Err, ap, inl, inr, refl, subst, sym}
use Rattle.std.specs.Prelude.{IfErr, IfOk}
use Rattle.clap.specs.Words.{App, HasMatchesOf, IsAmong, fault_of, is_simple, is_simple_and_free, kind_of, matches_of}
use Rattle.clap.specs.Kinds.{FailsBy as ParseFailsBy}
use Rattle.clap.specs.declared.error.Error.{Error}
use Rattle.clap.specs.declared.error.kind.ErrorKind.TheVariants as kind
use Rattle.clap.specs.declared.parser.matches.ArgMatches.{ArgMatches}
use Rattle.import_words.specs.Meaning.{FailsBy, IsMeant, IsWrong}
use Rattle.import_words.specs.Program.{program}
use Rattle.import_words.specs.declared.words.Invocation.TheVariants.{Shown}
use Rattle.line_protocol.specs.declared.faults.StreamFault.{StreamFault}
use Rattle.line_protocol.specs.declared.faults.StreamFault.TheVariants.{Memory, Write}
use Rattle.program_words.specs.Showing.{status_of}
use Rattle.program_words.specs.Given.{given_in}

-- the program is one of which the parser's contract gives the matches, and the kinds of its errors
program_is_simple : is_simple program ≡ true
unfolding program
program_is_simple = refl

program_is_free : is_simple_and_free program ≡ true
unfolding program
program_is_free = refl

module _ (made : App) (is : made ≡ program) (line : List (List ℕ)) where
  free : is_simple_and_free made ≡ true
  free = ap is_simple_and_free is ∙ program_is_free

  same : fault_of made line ≡ fault_of program line
  same = ap (λ (a : App). fault_of a line) is

  pub accepts : (parsed : Result ArgMatches Error) → (is_simple_and_free made ≡ true → ParseFailsBy (fault_of made line) parsed)
      → IfOk parsed (λ matches. fault_of program line ≡ [])
  accepts (Ok found) fails = sym same ∙ fails free
  accepts (Err error) fails = tt

  pub has_matches : (parsed : Result ArgMatches Error) → IfOk parsed (HasMatchesOf made line)
      → IfOk parsed (λ matches. given_in matches ≡ matches_of program line)
  unfolding given_in
  has_matches (Ok found) has = (has (ap is_simple is ∙ program_is_simple)).0 ∙ ap (λ (a : App). matches_of a line) is
  has_matches (Err error) has = tt

  pub refuses : (parsed : Result ArgMatches Error) → (is_simple_and_free made ≡ true → ParseFailsBy (fault_of made line) parsed)
      → IfErr parsed (λ error. (kind_of error ≡ kind.OutOfMemory) ⊎ IsAmong (kind_of error) (fault_of program line))
  refuses (Ok found) fails = tt
  refuses (Err error) fails = elim (fails free) [
    | inl none ↦ inl none
    | inr among ↦ inr (subst (IsAmong (kind_of error)) same among)
  ]

-- what is shown in place of matches
module _ (line : List (List ℕ)) (error : Error) (refused : (kind_of error ≡ kind.OutOfMemory) ⊎ IsWrong line (kind_of error)) where
  known : (kind_of error ≡ kind.OutOfMemory → ⊥) → IsWrong line (kind_of error)
  known other = elim refused [
    | inl none ↦ absurd (other none)
    | inr wrong ↦ wrong
  ]

  pub shown_is_meant : (status : ℕ) → (kind_of error ≡ kind.OutOfMemory → ⊥) × (status ≡ status_of (kind_of error)) → IsMeant line (Shown status)
  shown_is_meant status shown = inl (kind_of error, known shown.0, ap (λ s. Shown s) shown.1)

  pub show_fails : (fault : StreamFault) → (fault ≡ Memory) ⊎ ((fault ≡ Write) × (kind_of error ≡ kind.OutOfMemory → ⊥) × (status_of (kind_of error) ≡ 0))
      → FailsBy line fault
  show_fails fault (inl memory) = inl memory
  show_fails fault (inr (write, other, help)) = inr (write, (kind_of error, known other, help))
