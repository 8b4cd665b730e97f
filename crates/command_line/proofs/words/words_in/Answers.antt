use Rattle.std.proofs.Common.{List, Some, ℕ, Bor, refl}
use Rattle.std.proofs.lemmas.Result.{IfOk-weaker}
use Rattle.clap.specs.declared.parser.matches.ArgMatches.{ArgMatches}
use Rattle.command_line.proofs.Meeting.{meets}
use Rattle.command_line.proofs.words.words_in.Goals as goal

pub returns-in-Some-command_named : goal.returns-in-Some-command_named
returns-in-Some-command_named g c =
    let one : Bor (List ℕ) × Bor ArgMatches = (c.in-Some.name, c.in-Some.words) in
    IfOk-weaker c.command_words.result _ _
    (λ words comes. meets c.args.matches.now (Some one) c.in-Some.ensures.name c.in-Some.ensures.rows c.args.terminals words one
    (Some c.in-Some-command_named.command) refl c.in-Some-command_named.ensures comes) c.command_words.ensures
