use Rattle.std.proofs.Common.{◌∙◌, ap, string_bytes, sym}
use Rattle.refusal_texts.specs.Codes.{all_codes, is_among}
use Rattle.command_line.proofs.Lettering.{letter_said}
use Rattle.command_line.proofs.classes.page_of.Goals as goal

pub returns : goal.returns
returns c =
    letter_said c.args.word.now c.as_str-2.result.now (sym c.if-is_empty.ensures) (c.as_str-2.ensures.value ∙ c.in_ok-word.ensures.ok)
    (ap (is_among all_codes) (c.as_str-2.ensures.value ∙ sym c.as_str.ensures.value) ∙ c.in_default.ensures) (λ page. string_bytes page) c.letter_page.result
    c.letter_page.ensures
