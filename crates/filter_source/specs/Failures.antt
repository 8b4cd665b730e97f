-- What the fault of a step is as a failure: refused memory is one failure, whichever step met it. (This project's own choice.)
use Rattle.std.specs.Prelude.{⊤, ℕ, List, Option, Some, None}
use Rattle.code_file.specs.declared.fault.FileFault.{FileFault}
use Rattle.code_file.specs.declared.fault.FileFault.TheVariants as file
use Rattle.filter_compiler.specs.declared.fault.CompileFault.{CompileFault}
use Rattle.filter_compiler.specs.declared.fault.CompileFault.TheVariants as compile
use Rattle.expression_parser.specs.declared.fault.ParseFault.{ParseFault}
use Rattle.expression_parser.specs.declared.fault.ParseFault.TheVariants as parse
use Rattle.filter_types.specs.declared.fault.TypeFault.{TypeFault}
use Rattle.filter_syntax.specs.Surroundings.{nothing}
use Rattle.filter_syntax.specs.declared.around.Around.{Around}
use Rattle.filter_parser.specs.declared.unparsed.Unparsed.{Unparsed}
use Rattle.filter_types.specs.declared.fault.TypeFault.TheVariants as types
use Rattle.filter_types.specs.declared.typed.Untyped.{Untyped}
use Rattle.filter_verifier.specs.Ranges.{RangeView}
use Rattle.filter_verifier.specs.declared.fault.VerifyFault.{VerifyFault}
use Rattle.filter_verifier.specs.declared.fault.VerifyFault.TheVariants as verify
use Rattle.hex.specs.declared.error.FromHexError.{FromHexError}
use Rattle.hex.specs.declared.error.FromHexError.TheVariants as digits
use Rattle.filter_source.specs.Diagnoses.{of_code, of_source}
use Rattle.filter_source.specs.declared.diagnosis.Diagnosis.{Diagnosis}
use Rattle.filter_source.specs.declared.failure.Failure.{Failure}
use Rattle.filter_source.specs.declared.failure.Failure.TheVariants.{Refused, Memory}
use Rattle.filter_source.specs.declared.refusal.Refusal.{Refusal}
use Rattle.filter_source.specs.declared.refusal.Refusal.TheVariants.{Hexadecimal, File, Parse, Typing, Compile}

-- this holds of the refusal, or of what is told of it; of refused memory nothing is said
abbrev pub OnRefusal : (Refusal → Type 0) → Failure → Type 0
OnRefusal P (Refused diagnosis) = P diagnosis.refusal
OnRefusal P Memory = ⊤

abbrev pub OnDiagnosis : (Diagnosis → Type 0) → Failure → Type 0
OnDiagnosis P (Refused diagnosis) = P diagnosis
OnDiagnosis P Memory = ⊤

-- the refusal, if it is one
abbrev pub refusal_of : Failure → Option Refusal
refusal_of (Refused diagnosis) = Some diagnosis.refusal
refusal_of Memory = None

abbrev pub of_digits : FromHexError → Failure
of_digits digits.OutOfMemory = Memory
of_digits fault = Refused (of_source Hexadecimal nothing)

abbrev pub of_file : FileFault → Failure
of_file file.Memory = Memory
of_file fault = Refused (of_source (File fault) nothing)

abbrev pub of_parse : ParseFault → Around → Failure
of_parse parse.Memory around = Memory
of_parse fault around = Refused (of_source (Parse fault) around)

abbrev pub of_unparsed : Unparsed → Failure
of_unparsed why = of_parse why.fault why.around

abbrev pub of_type : TypeFault → Around → Failure
of_type types.Memory around = Memory
of_type fault around = Refused (of_source (Typing fault) around)

abbrev pub of_untyped : Untyped → Failure
of_untyped why = of_type why.fault why.around

abbrev pub of_compile : CompileFault → Failure
of_compile compile.Memory = Memory
of_compile fault = Refused (of_source (Compile fault) nothing)

-- that of code whose instructions come from these places of a text
abbrev pub of_verify : VerifyFault → Option RangeView → List ℕ → Failure
of_verify verify.Memory range places = Memory
of_verify fault range places = Refused (of_code fault range places)
