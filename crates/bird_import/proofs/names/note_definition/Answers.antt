use Rattle.std.proofs.Common.{sym, ◌∙◌}
use Rattle.bird_import.proofs.Noted.{knows_more, knows_on}
use Rattle.bird_import.proofs.names.note_definition.Goals as goal

pub returns : goal.returns
returns c n is so_far =
    knows_more c.args.config.now n c.args.definition is c.args.names.now c.note.new.names c.bytes_at-name.result.now c.found_again-found.result
    (c.is_name_at.ensures.0 c.if-not-is_name_at.false, sym c.bytes_at-name.ensures)
    (λ e. c.found_again-found.ensures.first (c.found_in.ensures ∙ e)) (λ not. c.found_again-found.ensures.second (λ e. not (sym c.found_in.ensures ∙ e)))
    c.in_ok-note.ensures so_far

pub returns-then-not-is_name_at : goal.returns-then-not-is_name_at
returns-then-not-is_name_at c n is so_far =
    knows_on c.args.config.now n c.args.definition is c.args.names.now
    (λ at. let named = c.is_name_at.ensures.1 at in let no : ⊥ = cc in no) so_far
