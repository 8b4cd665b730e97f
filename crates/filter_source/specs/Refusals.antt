-- The codes and places of refused sources. (This project's own choice.)
use Rattle.std.specs.Prelude.{ℕ, List, codes}
use Rattle.code_file.specs.Codes as file
use Rattle.filter_compiler.specs.Codes as compile
use Rattle.expression_parser.specs.Codes as parse
use Rattle.filter_types.specs.Codes as types
use Rattle.filter_verifier.specs.Faults as verify
use Rattle.filter_source.specs.declared.refusal.Refusal.{Refusal}
use Rattle.filter_source.specs.declared.refusal.Refusal.TheVariants.{TooLong, Hexadecimal, File, Parse, Typing, Compile, Verify}

-- the code, as ASCII text, and the place within the source, which is 0 where there is none
abbrev pub code_and_place : Refusal → List ℕ × ℕ
code_and_place TooLong = (codes "O7", 0)
code_and_place Hexadecimal = (codes "O3", 0)
code_and_place (File fault) = (file.fault_code fault, file.fault_place fault)
code_and_place (Parse fault) = (parse.fault_code fault, parse.fault_place fault)
code_and_place (Typing fault) = (types.fault_code fault, types.fault_place fault)
code_and_place (Compile fault) = (compile.fault_code fault, 0)
code_and_place (Verify fault) = (verify.fault_code fault, verify.fault_place fault)

abbrev pub refusal_code : Refusal → List ℕ
refusal_code why = (code_and_place why).0

abbrev pub refusal_place : Refusal → ℕ
refusal_place why = (code_and_place why).1

-- the place that the answer to a line names: the number of the line for an O code
abbrev pub place_in_line : Refusal → ℕ → ℕ
place_in_line TooLong number = number
place_in_line Hexadecimal number = number
place_in_line why number = refusal_place why
