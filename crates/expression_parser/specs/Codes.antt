-- The codes and places of the faults of a filter's text. (This project's own choice.)
use Rattle.std.specs.Prelude.{◌≡◌, ℕ, ◌<◌, List, codes, ⊤}
use Rattle.filter_tokens.specs.Codes.{fault_code as token_fault_code, fault_place as token_fault_place}
use Rattle.filter_syntax.specs.Syntax.{text_limit}
use Rattle.expression_parser.specs.declared.fault.ParseFault.{ParseFault}
use Rattle.expression_parser.specs.declared.fault.ParseFault.TheVariants as fault

-- the code, as ASCII text, and the place; refused memory has none, which is 0
abbrev pub code_and_place : ParseFault → List ℕ × ℕ
code_and_place (fault.Token found) = (token_fault_code found, token_fault_place found)
code_and_place (fault.Unexpected at wanted) = (codes "P2", at)
code_and_place (fault.MissingAssign at name) = (codes "P2", at)
code_and_place (fault.MaskOverLimit at) = (codes "P4", at)
code_and_place (fault.PatternLengths at) = (codes "P4", at)
code_and_place (fault.RangeOrder at) = (codes "P4", at)
code_and_place (fault.TooDeep at) = (codes "P5", at)
code_and_place (fault.MixedOperators at) = (codes "P6", at)
code_and_place fault.TooLong = (codes "P7", text_limit)
code_and_place (fault.EndsEarly at) = (codes "P9", at)
code_and_place (fault.TextElsewhere at) = (codes "P10", at)
code_and_place fault.Memory = (codes "P11", 0)

abbrev pub fault_code : ParseFault → List ℕ
fault_code why = (code_and_place why).0

abbrev pub fault_place : ParseFault → ℕ
fault_place why = (code_and_place why).1

-- the place at which people are shown the fault: a missing `=` at the name before it
abbrev pub shown_place : ParseFault → ℕ
shown_place (fault.MissingAssign at name) = name
shown_place why = fault_place why

-- where the fault of a text of so many bytes is: an early end at the end of the text, and any other at one of its bytes; refused
-- memory has no place
abbrev pub LiesWithin : ℕ → ParseFault → Type 0
LiesWithin len (fault.Token found) = token_fault_place found < len
LiesWithin len (fault.Unexpected at wanted) = at < len
LiesWithin len (fault.MissingAssign at name) = at < len
LiesWithin len (fault.MaskOverLimit at) = at < len
LiesWithin len (fault.PatternLengths at) = at < len
LiesWithin len (fault.RangeOrder at) = at < len
LiesWithin len (fault.TooDeep at) = at < len
LiesWithin len (fault.MixedOperators at) = at < len
LiesWithin len fault.TooLong = text_limit < len
LiesWithin len (fault.EndsEarly at) = at ≡ len
LiesWithin len (fault.TextElsewhere at) = at < len
LiesWithin len fault.Memory = ⊤
