use Rattle.std.proofs.Common.{◌≡◌, ◌∙◌, ◌++◌, List, ℕ, ap, codes, string_bytes, subst, sym, true}
use Rattle.command_line.specs.Pages.{letter_head, letter_line}
use Rattle.command_line.proofs.Lettering.{begins_itself}
use Rattle.refusal_texts.specs.Codes.{begins_with}
use Rattle.command_line.proofs.classes.codes_of.Goals as goal

pub loop-n-init : goal.loop-n-init
loop-n-init c =
    let letter = c.args.class.letter.now in
    let meaning = c.args.class.meaning.now in
    let grown : string_bytes c.push_class.new.page ≡ letter_line letter meaning =
    c.in_ok-push_class.ensures ∙ ap (λ text. text ++ letter_line letter meaning) c.new-page.ensures.bytes in
    subst (λ (text : List ℕ). begins_with (letter_head letter) text ≡ true) (sym grown) (begins_itself (letter_head letter) (meaning ++ codes "\n"))
