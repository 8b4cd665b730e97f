use Rattle.std.proofs.Common.{◌≡◌, ◌++◌, take}
use Rattle.std.specs.Prelude.{flat_map}
use Rattle.refusal_words.specs.Shown.{indent_of}
use Rattle.refusal_words.proofs.shown.push_indent.Given as goal

abbrev pub invariant-loop-character : goal.invariant-loop-character
invariant-loop-character l = l.out.items ≡ l.fn.out.items ++ flat_map indent_of (take l.character-index l.characters)
