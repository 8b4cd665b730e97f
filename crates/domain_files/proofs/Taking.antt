-- The lines of a domain's file are taken one after another.
use Rattle.std.proofs.Common.{◌≡◌, ℕ, ◌+◌, Bool, false, List, [], ◌∷◌, ◌++◌, Option, Some, None, Result, Ok, Err, IfOk, refl, subst, sym, ap, ◌∙◌}
use Rattle.std.proofs.Common.{append_assoc, append-nil}
use Rattle.std.specs.Prelude.{MatchBool}
use Rattle.std.specs.List.{enumerate_from}
use Rattle.std.specs.Str.Lines.{lines}
use Rattle.domain_files.specs.FileView.{FileView}
use Rattle.line_protocol.specs.Lines.{is_skipped}
use Rattle.domain_cmds.specs.CommandView.{CommandView}
use Rattle.domain_cmds.specs.Commands.{Read, command_in}
use Rattle.domain_files.specs.Files.{CarriesFirst, ComesTo, NamesAgainFirst, RefusesFirst, RefusesRead, TakesRead}
use Rattle.domain_files.specs.Files.{IsNoFile, IsWrongLine, NamesAgain, Numbered, Reaches, RefusesLine, TakesAll, TakesLine, numbered}
use Rattle.domain_files.specs.declared.file.WrongFile.{WrongFile}
use Rattle.domain_files.specs.declared.reading.Carried.{Carried}
use Rattle.domain_files.specs.declared.reading.Carried.TheVariants as carried
use Rattle.domain_files.specs.declared.file.WrongFile.TheVariants as wrong

-- ---- one line

again : (before : Option FileView) (line : List ℕ) (c : CommandView) → command_in line ≡ Ok c → NamesAgainFirst before c → NamesAgain before line
again None line c read names = absurd names
again (Some f) line c read names = (f, refl, c, read, names)

-- a line that is not skipped says a command
pub said : {E : Type 0} (before after : Option FileView) (number : ℕ) (line answer : List ℕ) (c : CommandView) {skipped : Bool}
    → skipped ≡ is_skipped line → skipped ≡ false → command_in line ≡ Ok c → (r : Result Carried E)
    → IfOk r (ComesTo (CarriesFirst before number c after) (RefusesFirst before number c answer) (NamesAgainFirst before c))
    → IfOk r (ComesTo (TakesLine before number line after) (RefusesLine before number line answer) (NamesAgain before line))
said before after number line answer c is not read (Ok carried.Done) h =
    subst (λ (b : Bool). MatchBool b (after ≡ before) (TakesRead before number (command_in line) after)) (sym (sym is ∙ not))
    (subst (λ (r : Read). TakesRead before number r after) (sym read) h)
said before after number line answer c is not read (Ok carried.Refused) h =
    (sym is ∙ not, subst (λ (r : Read). RefusesRead before number r answer) (sym read) h)
said before after number line answer c is not read (Ok carried.NameAgain) h = again before line c read h
said before after number line answer c is not read (Err why) h = tt

-- ---- so many lines

-- so many lines of a text were taken, and these bytes are left
pub record HasTaken (text : List ℕ) (number : ℕ) (left : List ℕ) (file : Option FileView) : Type 0 where
  pub first : Numbered
  pub are : numbered text ≡ first ++ enumerate_from (number + 1) (lines left)
  pub taken : TakesAll first None file

pub nothing_taken : (text : List ℕ) → HasTaken text 0 text None
nothing_taken text = record { first = []; are = refl; taken = refl }

takes_more : (ls : Numbered) (before mid after : Option FileView) (line : ℕ × List ℕ) → TakesAll ls before mid → TakesLine mid line.0 line.1 after
    → TakesAll (ls ++ line ∷ []) before after
takes_more [] before mid after line h t = (after, subst (λ b. TakesLine b line.0 line.1 after) h t, refl)
takes_more (first ∷ others) before mid after line h t = (h.0, h.1, takes_more others h.0 mid after line h.2 t)

module _ (text : List ℕ) (number : ℕ) (left line rest : List ℕ) (file : Option FileView) (h : HasTaken text number left file)
    (cut : lines left ≡ line ∷ lines rest) where
  split : numbered text ≡ h.first ++ (number + 1, line) ∷ enumerate_from (number + 1 + 1) (lines rest)
  split = h.are ∙ ap (λ ls. h.first ++ enumerate_from (number + 1) ls) cut

  pub one_taken : (after : Option FileView) → TakesLine file (number + 1) line after → HasTaken text (number + 1) rest after
  one_taken after t = record {
    first = h.first ++ (number + 1, line) ∷ [];
    are = split ∙ sym (append_assoc h.first ((number + 1, line) ∷ []) (enumerate_from (number + 1 + 1) (lines rest)));
    taken = takes_more h.first None file after (number + 1, line) h.taken t;
  }

  pub reached : Reaches text (number + 1, line) file
  reached = (h.first, enumerate_from (number + 1 + 1) (lines rest), split, h.taken)

  pub refused_there : (answer : List ℕ) (why : WrongFile) → RefusesLine file (number + 1) line answer → IsWrongLine (number + 1) line answer why
      → IsNoFile text why
  refused_there answer (wrong.Refused it) r is = rw (is.0, is.1, is.2) (file, reached, r)
  refused_there answer (wrong.NameAgain again) r is = absurd is
  refused_there answer wrong.NoDomain r is = absurd is
  refused_there answer wrong.Memory r is = tt

  pub named_there : NamesAgain file line → IsNoFile text (wrong.NameAgain (number + 1))
  named_there again = (line, file, reached, again)

pub all_taken : (text : List ℕ) (number : ℕ) (left : List ℕ) (file : Option FileView) → HasTaken text number left file → lines left ≡ []
    → TakesAll (numbered text) None file
all_taken text number left file h none =
    subst (λ ls. TakesAll ls None file) (sym (h.are ∙ ap (λ ls. h.first ++ enumerate_from (number + 1) ls) none ∙ append-nil h.first)) h.taken
