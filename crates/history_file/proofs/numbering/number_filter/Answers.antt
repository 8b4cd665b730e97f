use Rattle.std.proofs.Common.{◌≡◌, ◌++◌, Some, sym, ◌∙◌, ap, subst}
use Rattle.netchange_core.specs.Kept.{filter_of}
use Rattle.history_file.proofs.Rows.{numbered_row}
use Rattle.history_lines.specs.Fits.{FitsFilter}
use Rattle.history_file.specs.Numbering.{IsNumbered, IsRow, row_of, texts_of}
use Rattle.history_file.proofs.numbering.number_filter.Goals as goal

pub returns-in_ok-number_row-in-Some : goal.returns-in_ok-number_row-in-Some
returns-in_ok-number_row-in-Some c =
    let f = c.in-Some.filter.value in
    let old = texts_of c.args.rows.now.items in
    let new = texts_of c.number_row.new.rows.items in
    let number = c.in_ok-number_row-in-Some.field-0 in
    let row : c.push_filter.new.out.items ≡ row_of f = c.in_ok-push_filter-in-Some.ensures.ok
    ∙ ap (λ t. t ++ row_of c.deref.result.now) c.new-row.ensures.items ∙ ap row_of c.deref.ensures in
    let fits : FitsFilter f = subst FitsFilter c.deref.ensures c.in_ok-push_filter-in-Some.ensures.fits in
    let is : IsRow old (row_of f) new number = subst (λ r. IsRow old r new number) row c.in_ok-number_row-in-Some.ensures in
    subst (λ o. IsNumbered old o new (Some number)) (sym (ap filter_of c.in-Some.is)) (numbered_row old f new number fits is)
