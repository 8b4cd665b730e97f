-- Which code a source gives, and when it is refused. (This project's own choice.)
use Rattle.std.specs.Prelude.{◌≡◌, ◌≢◌, ◌<◌, ℕ, Bool, true, false, List, length, Some, Result, Ok, Err}
use Rattle.hex.specs.Hex.{decode_of}
use Rattle.hex.specs.declared.error.FromHexError.{FromHexError}
use Rattle.code_file.specs.Reading.{file_of}
use Rattle.code_file.specs.Spelling.{needs_int_sets}
use Rattle.code_file.specs.declared.fault.FileFault.{FileFault}
use Rattle.code_file.specs.declared.fault.FileFault.TheVariants as file
use Rattle.code_file.specs.declared.version.Version.{Version}
use Rattle.code_file.specs.declared.version.Version.TheVariants as version
use Rattle.filter_code.specs.CodeView.{CodeView}
use Rattle.filter_compiler.specs.Limits.{HasTooMany, IsTooLong}
use Rattle.filter_compiler.specs.Same.{MeansTheSame}
use Rattle.filter_compiler.specs.Translation.{code_of}
use Rattle.filter_compiler.specs.declared.fault.CompileFault.{CompileFault}
use Rattle.filter_compiler.specs.declared.fault.CompileFault.TheVariants as compile
use Rattle.filter_syntax.specs.Placed.{IsPlaced}
use Rattle.filter_syntax.specs.SyntaxText.{FilterView, IsText, view_filter}
use Rattle.filter_parser.specs.Unspelled.{IsUnspelled}
use Rattle.filter_syntax.specs.declared.tree.filter.Filter.{Filter}
use Rattle.filter_types.specs.Codes.{fault_place}
use Rattle.filter_types.specs.Faults.{IsFaultOf}
use Rattle.filter_types.specs.Kinds.{IsTyped}
use Rattle.filter_types.specs.declared.fault.TypeFault.{TypeFault}
use Rattle.filter_types.specs.declared.fault.TypeFault.TheVariants as types
use Rattle.filter_verifier.specs.FirstFault.{the_fault}
use Rattle.filter_verifier.specs.declared.fault.VerifyFault.{VerifyFault}
use Rattle.filter_source.specs.declared.refusal.Refusal.{Refusal}
use Rattle.filter_source.specs.declared.refusal.Refusal.TheVariants.{TooLong, Hexadecimal, File, Parse, Typing, Compile, Verify}

-- The text spells this filter and no other, its names and kinds fit, and this is its translation, which is within the limits of
-- code and means what the filter means.
pub record Translates (text : List ℕ) (filter : FilterView) (program : CodeView) : Type 0 where
  pub spelled : IsText text filter
  pub only : (other : FilterView) → IsText text other → other ≡ filter
  pub typed : IsTyped filter
  pub short : ¬ IsTooLong (code_of filter)
  pub few : ¬ HasTooMany (code_of filter)
  pub code : program ≡ code_of filter
  pub means : MeansTheSame filter program

-- A translation is over a limit, and this is the fault: the number of instructions counts before the sets.
abbrev pub IsOverLimit : CodeView → CompileFault → Type 0
IsOverLimit program compile.TooManyInstructions = IsTooLong program
IsOverLimit program compile.TooManySets = ¬ IsTooLong program × HasTooMany program
IsOverLimit program compile.Memory = ⊥

-- A text spells a filter whose names and kinds do not fit, and this is a fault of it, at one of the bytes of the text. Which of its
-- faults it is, is left open.
pub record IsUntyped (text : List ℕ) (why : TypeFault) : Type 0 where
  pub tree : Filter
  pub spelled : IsText text (view_filter tree)
  pub placed : IsPlaced text tree
  pub no_memory : why ≢ types.Memory
  pub unfit : ¬ IsTyped (view_filter tree)
  pub is_fault : IsFaultOf tree why
  pub within : fault_place why < length text

-- A text has no code, and this may be why: it spells no filter, or a filter whose names and kinds do not fit, or one whose
-- translation is over a limit.
abbrev pub IsRefusedText : List ℕ → Refusal → Type 0
IsRefusedText text (Parse why) = IsUnspelled text why
IsRefusedText text (Typing why) = IsUntyped text why
IsRefusedText text (Compile why) =
    (filter : FilterView) × IsText text filter × IsTyped filter × IsOverLimit (code_of filter) why
IsRefusedText text TooLong = ⊥
IsRefusedText text Hexadecimal = ⊥
IsRefusedText text (File why) = ⊥
IsRefusedText text (Verify why) = ⊥

-- Two refusals of one text are the same. Only which fault of its spelling is answered, or which of its names and kinds, is left open.
abbrev pub AreAlike : Refusal → Refusal → Type 0
AreAlike (Parse why) (Parse other) = Unit {0}
AreAlike (Typing why) (Typing other) = Unit {0}
AreAlike why other = why ≡ other

-- the code of a file, or the fault of its bytes
abbrev pub code_or_fault : Result CodeView FileFault → Result CodeView Refusal
code_or_fault (Ok program) = Ok program
code_or_fault (Err why) = Err (File why)

abbrev pub code_in_file : List ℕ → Result CodeView Refusal
code_in_file bytes = code_or_fault (file_of bytes)

-- the code of a file in hexadecimal
abbrev pub code_in_bytes : Result (List ℕ) FromHexError → Result CodeView Refusal
code_in_bytes (Ok bytes) = code_in_file bytes
code_in_bytes (Err why) = Err Hexadecimal

abbrev pub code_in_hexadecimal : List ℕ → Result CodeView Refusal
code_in_hexadecimal digits = code_in_bytes (decode_of digits)

-- the version of the older form of a code file, and of the newer one
abbrev pub version_for : Bool → Version
version_for true = version.One
version_for false = version.Two

-- A code has no file of a version: only the older one has not all codes.
abbrev pub IsUnwritten : Bool → CodeView → Refusal → Type 0
IsUnwritten is_old program why = (is_old ≡ true) × (why ≡ File file.OldForm) × (needs_int_sets program ≡ true)

-- the first thing that is not known of the code, and nothing else, refuses it
abbrev pub IsUnsafe : CodeView → ℕ → Refusal → Type 0
IsUnsafe program size why = (fault : VerifyFault) × (why ≡ Verify fault) × (the_fault program size ≡ Some fault)
