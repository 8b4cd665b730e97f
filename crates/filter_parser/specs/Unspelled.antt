-- A text that spells no filter, and a fault of it. (This project's own choice.)
use Rattle.std.specs.Prelude.{◌≡◌, ◌≢◌, ◌<◌, ℕ, List, length}
use Rattle.expression_parser.specs.Codes.{LiesWithin}
use Rattle.filter_syntax.specs.Syntax.{text_limit}
use Rattle.expression_parser.specs.declared.fault.ParseFault.{ParseFault}
use Rattle.expression_parser.specs.declared.fault.ParseFault.TheVariants as fault
use Rattle.filter_parser.specs.Heads.{HasHead}
use Rattle.filter_syntax.specs.SyntaxText.{FilterView, IsText}

-- A text spells no filter, and this is a fault of it, at one of its bytes or at its end. P7 is the fault of a text over the limit, and
-- of no other. Which of its other faults it is, is left open.
pub record IsUnspelled (text : List ℕ) (why : ParseFault) : Type 0 where
  pub spells_none : (filter : FilterView) → IsText text filter → ⊥
  pub no_memory : why ≢ fault.Memory
  pub within : LiesWithin (length text) why
  pub head : HasHead text why
  pub long : text_limit < length text → why ≡ fault.TooLong
