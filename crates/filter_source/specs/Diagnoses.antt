-- What is told of a refusal: where in a filter's text it is shown, what stands there, and the range of the int that the verifier refuses.
-- (This project's own choice.)
use Rattle.std.specs.Prelude.{◌≡◌, ℕ, Bool, true, false, List, Option, Some, None, slice_get}
use Rattle.filter_code.specs.CodeView.{CodeView}
use Rattle.expression_parser.specs.Codes as parse
use Rattle.filter_parser.specs.Telling as parser
use Rattle.filter_syntax.specs.Surroundings.{nothing}
use Rattle.filter_syntax.specs.declared.around.Around.{Around}
use Rattle.filter_types.specs.Codes as types
use Rattle.filter_verifier.specs.Faults.{fault_place}
use Rattle.filter_verifier.specs.Ranges.{RangeView}
use Rattle.filter_verifier.specs.Surveys.{refused_range}
use Rattle.filter_verifier.specs.declared.fault.VerifyFault.{VerifyFault}
use Rattle.filter_verifier.specs.declared.fault.VerifyFault.TheVariants as fault
use Rattle.filter_source.specs.declared.diagnosis.Diagnosis.{Diagnosis}
use Rattle.filter_source.specs.declared.refusal.Refusal.{Refusal}
use Rattle.filter_source.specs.declared.refusal.Refusal.TheVariants.{TooLong, Hexadecimal, File, Parse, Typing, Compile, Verify}

-- the byte of a text at which a refusal is shown before there is code: the one that the fault names
abbrev pub named_byte : Refusal → Option ℕ
named_byte (Parse why) = Some (parse.shown_place why)
named_byte (Typing why) = Some (types.fault_place why)
named_byte TooLong = None
named_byte Hexadecimal = None
named_byte (File why) = None
named_byte (Compile why) = None
named_byte (Verify why) = None

-- what is told of a source that gives no code, by what stands round the place
abbrev pub of_source : Refusal → Around → Diagnosis
of_source why around = record { refusal = why; byte = named_byte why; range = None; around = around }

-- This stands round the place of a refusal in a text. A refusal that has no place in a text has nothing round it.
abbrev pub TellsRound : List ℕ → Refusal → Around → Type 0
TellsRound text (Parse why) around = parser.TellsRound text why around
TellsRound text (Typing why) around = parser.StandsRound text (types.fault_place why) around
TellsRound text TooLong around = around ≡ nothing
TellsRound text Hexadecimal around = around ≡ nothing
TellsRound text (File why) around = around ≡ nothing
TellsRound text (Compile why) around = around ≡ nothing
TellsRound text (Verify why) around = around ≡ nothing

-- This is told of a text that gives no code, and of a code file that gives none.
abbrev pub TellsOfText : List ℕ → Diagnosis → Type 0
TellsOfText text diagnosis = (diagnosis ≡ of_source diagnosis.refusal diagnosis.around) × TellsRound text diagnosis.refusal diagnosis.around

abbrev pub TellsOfFile : Diagnosis → Type 0
TellsOfFile diagnosis = diagnosis ≡ of_source diagnosis.refusal nothing

-- the same of a source that is the one or the other
abbrev pub TellsOfSource : Bool → List ℕ → Diagnosis → Type 0
TellsOfSource true source diagnosis = TellsOfFile diagnosis
TellsOfSource false source diagnosis = TellsOfText source diagnosis

-- the instruction that the verifier refuses; the size of a domain, and memory, are about none
abbrev pub refused_instruction : VerifyFault → Option ℕ
refused_instruction fault.BadSize = None
refused_instruction fault.Memory = None
refused_instruction why = Some (fault_place why)

-- the place of the instruction of an index, if there is one
abbrev pub place_of : List ℕ → Option ℕ → Option ℕ
place_of places None = None
place_of places (Some at) = slice_get places at

-- what is told of code whose instructions come from these places of a text; a code file has no places
abbrev pub of_code : VerifyFault → Option RangeView → List ℕ → Diagnosis
of_code why range places =
    record { refusal = Verify why; byte = place_of places (refused_instruction why); range = range; around = nothing }

-- This is told of code that is refused for domains of a size: the part of the text that gave the instruction, and the range that the
-- verifier knows there.
abbrev pub TellsOfCode : CodeView → List ℕ → ℕ → Diagnosis → Type 0
TellsOfCode program places size diagnosis = (why : VerifyFault) × (diagnosis ≡ of_code why (refused_range program size why) places)
