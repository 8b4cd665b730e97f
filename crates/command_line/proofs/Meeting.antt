-- What the parser of words met: a command, and the words behind it.
use Rattle.std.proofs.Common.{◌≡◌, List, ℕ, Option, Some, None, Bor, option_map, sym, subst, ap₂}
use Rattle.std.specs.Prelude.{MatchOption}
use Rattle.std.specs.Box.{box_value}
use Rattle.clap.specs.Words.{Row, found_of, rows_of, subcommand_name_of, subcommand_rows, subcommand_rows_of}
use Rattle.clap.specs.declared.parser.matches.ArgMatches.{ArgMatches}
use Rattle.clap.specs.declared.parser.matches.ArgMatches.TheViews.{out-ArgMatches, out-SubCommand}
use Rattle.command_line.specs.CommandNames.{command_of}
use Rattle.program_words.specs.Given.{given_in}
use Rattle.command_line.specs.Meaning.{ComesTo, MetComesTo}
use Rattle.command_line.specs.declared.command_names.CommandName.{CommandName}
use Rattle.command_line.specs.declared.terminals.Terminals.{Terminals}
use Rattle.command_line.specs.declared.words.Invocation.{Invocation}
use Rattle.command_line.specs.declared.words.Invocation.TheVariants.{Shown}

abbrev pair : List ℕ → List Row → Option (List ℕ × List Row)
pair name rows = Some (name, rows)

abbrev both : {X : Type 0} → (X → List ℕ) → (X → List Row) → X → List ℕ × List Row
both name rows x = (name x, rows x)

-- a name and what stands behind it, of which two getters say a part each
met_both : {X Y : Type 0} (name : X → List ℕ) (rows : X → List Row) (word : Y → List ℕ) (given : Y → List Row) (met : Option X) (found : Option Y) (y : Y)
    → found ≡ Some y → option_map word found ≡ option_map name met
    → option_map given found ≡ option_map (λ (p : List ℕ × List Row). p.1) (option_map (both name rows) met)
    → option_map (both name rows) met ≡ Some (word y, given y)
met_both name rows word given None found y is names gives = absurd (let e = rw is at names in cc)
met_both name rows word given (Some x) found y is names gives =
    let e : Some (word y) ≡ Some (name x) = rw is at names in
    let f : Some (given y) ≡ Some (rows x) = rw is at gives in
    let n : name x ≡ word y = cc in
    let r : rows x ≡ given y = cc in
    ap₂ pair n r

module _ (matches : ArgMatches) (found : Option (Bor (List ℕ) × Bor ArgMatches))
    (names : option_map (λ p. p.0.now) found ≡ subcommand_name_of matches)
    (rows : option_map (λ p. rows_of (found_of p.1.now)) found ≡ option_map (λ p. p.1) (subcommand_rows (out-ArgMatches matches).subcommand))
    (terminals : Terminals) (words : Invocation) where
  met_words : (one : Bor (List ℕ) × Bor ArgMatches) → found ≡ Some one
      → subcommand_rows_of matches ≡ Some (one.0.now, given_in one.1.now)
  unfolding given_in
  met_words one is =
      met_both (λ b. (out-SubCommand (box_value b)).name.now) (λ b. rows_of (found_of (out-SubCommand (box_value b)).matches)) (λ p. p.0.now)
      (λ p. rows_of (found_of p.1.now)) (out-ArgMatches matches).subcommand found one is names rows

  -- a command was met, if its name is one
  pub meets : (one : Bor (List ℕ) × Bor ArgMatches) (named : Option CommandName) → found ≡ Some one → named ≡ command_of one.0.now
      → MatchOption named (words ≡ Shown 2) (λ n. ComesTo n (given_in one.1.now) terminals words)
      → MetComesTo (subcommand_rows_of matches) terminals words
  meets one named is naming comes =
      let met = met_words one is in
      subst (λ (m : Option (List ℕ × List Row)). MetComesTo m terminals words) (sym met)
      (subst (λ (n : Option CommandName). MatchOption n (words ≡ Shown 2) (λ c. ComesTo c (given_in one.1.now) terminals words)) naming comes)
