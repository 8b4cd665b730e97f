use Rattle.std.proofs.Common.{◌≡◌, string_bytes, true}
use Rattle.command_line.specs.Pages.{letter_head}
use Rattle.refusal_texts.specs.Codes.{begins_with}
use Rattle.command_line.proofs.classes.codes_of.Given as goal

-- the page begins with the letter
abbrev pub invariant-loop-n : goal.invariant-loop-n
invariant-loop-n l = begins_with (letter_head l.class.letter.now) (string_bytes l.page) ≡ true
