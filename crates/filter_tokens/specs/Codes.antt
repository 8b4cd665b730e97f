-- The code and the place of a fault, by which it is named to a person (this project's own choice).
use Rattle.std.specs.Prelude.{ℕ, List, codes}
use Rattle.filter_tokens.specs.declared.fault.TokenFault.{TokenFault}
use Rattle.filter_tokens.specs.declared.fault.TokenFault.TheVariants as fault

-- the code, as ASCII text, and the place
abbrev pub code_and_place : TokenFault → List ℕ × ℕ
code_and_place (fault.BadCharacter at) = (codes "P1", at)
code_and_place (fault.NoDigit at) = (codes "P1", at)
code_and_place (fault.NumberTooLarge at) = (codes "P3", at)
code_and_place (fault.OutOfRange at) = (codes "P4", at)
code_and_place (fault.NameTooLong at) = (codes "P8", at)
code_and_place (fault.UnendedComment at) = (codes "P9", at)
code_and_place (fault.UnendedText at) = (codes "P9", at)
code_and_place (fault.WordLeftOut at) = (codes "P10", at)
code_and_place (fault.QuotedName at) = (codes "P10", at)

abbrev pub fault_code : TokenFault → List ℕ
fault_code why = (code_and_place why).0

abbrev pub fault_place : TokenFault → ℕ
fault_place why = (code_and_place why).1
