use Rattle.std.proofs.Common.{◌∙◌, inl, inr, map, sym}
use Rattle.clap.specs.Words.{subcommand_rows_of}
use Rattle.command_line.proofs.Parsing.{shown_is_parsed}
use Rattle.command_line.proofs.words.request_of.Goals as goal

pub returns-then-asks_for_import-clause-meant : goal.returns-then-asks_for_import-clause-meant
returns-then-asks_for_import-clause-meant g c = inl (sym c.asks_for_import.ensures ∙ c.if-asks_for_import.true, c.show_moved.ensures)

pub returns-in-Ok-words_in-clause-meant : goal.returns-in-Ok-words_in-clause-meant
returns-in-Ok-words_in-clause-meant g c =
    inr (
      sym c.asks_for_import.ensures ∙ c.if-asks_for_import.false,
      inr (subcommand_rows_of c.in-Ok.matches, c.in-Ok-words_in.words, c.in-Ok.ensures.ok, c.in-Ok-words_in.ensures, c.reading_once.ensures.kept),
    )

pub returns-in-Ok-show_wrong-clause-meant : goal.returns-in-Ok-show_wrong-clause-meant
returns-in-Ok-show_wrong-clause-meant g c =
    inr (
      sym c.asks_for_import.ensures ∙ c.if-asks_for_import.false,
      shown_is_parsed (map g.S.AsStr.text c.args.words.now) c.args.terminals c.in-Err.error c.in-Err.ensures.err c.in-Ok-show_wrong.status
          c.in-Ok-show_wrong.ensures.shown,
    )
