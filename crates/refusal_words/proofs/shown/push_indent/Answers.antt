use Rattle.std.proofs.Common.{ℕ, ◌++◌, ◌∙◌, ap}
use Rattle.refusal_words.specs.Shown.{indent_of}
use Rattle.refusal_words.proofs.Indents.{indent_grows}
use Rattle.refusal_words.proofs.shown.push_indent.Goals as goal

pub loop-character-preserved : goal.loop-character-preserved
loop-character-preserved c =
    indent_grows c.args.characters.now c.loop-character.character-index c.character-item.result c.args.out.now.items
    c.loop-character.out.items c.push_indent_of.new.out.items c.loop-character-test.true c.loop-character.invariant
    (c.in_ok-push_indent_of.ensures ∙ ap (λ (x : ℕ). c.loop-character.out.items ++ indent_of x) c.character-item.is)
