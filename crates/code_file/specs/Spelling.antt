-- The spelling of each code, field by field. The format is this project's own choice.
use Rattle.std.specs.Prelude.{◌≡◌, ℕ, ◌<◌, ◌≤◌, ◌^◌, ◌||◌, nat_lt, true, if◌then◌else◌, Bool, List, [], ◌∷◌, ◌++◌, length, slice_index}
use Rattle.std.specs.List.{flat_map, AllByRecursion, list_any}
use Rattle.byteorder.specs.Endian.{big_bytes}
use Rattle.prefix_patterns.specs.Matching.{pattern_limit}
use Rattle.prefix_patterns.specs.Bits.{address_length, address_of}
use Rattle.prefix_patterns.specs.Matching.{PrefixPattern, HasOrderedLengths}
use Rattle.filter_code.specs.declared.instruction.Instr.{Instr}
use Rattle.filter_code.specs.Limits.{local_limit, set_limit, int_set_limit, instruction_limit}
use Rattle.filter_code.specs.Table.{Literal, Bare, Word, Truth, Bits, Index, Length, Skip, literal_of, opcode}
use Rattle.filter_code.specs.CodeView.{CodeView}
use Rattle.int_sets.specs.Holding.{NumberRange, range_limit}
use Rattle.code_file.specs.declared.version.Version.{Version}
use Rattle.code_file.specs.declared.version.Version.TheVariants as version
use Rattle.code_file.specs.Fields.{FieldKind, width, mark_bytes, version_byte, is_in_set, is_in}
use Rattle.code_file.specs.Fields.FieldKind.{Mark, VersionMark, Locals, Sets, Patterns, Pattern, IntSets}
use Rattle.code_file.specs.Fields.FieldKind.{Ranges, Range, Instructions, Opcode, WordOperand}
use Rattle.code_file.specs.Fields.FieldKind.{TruthOperand, PrefixOperand, NameOperand, BitsOperand, SkipOperand}

-- a field with its bytes
pub record Field : Type 0 where
  pub kind : FieldKind
  pub bytes : List ℕ

-- the field that holds a number, the highest byte first
abbrev pub field : FieldKind → ℕ → Field
field kind n = record { kind = kind; bytes = big_bytes (width kind) n }

-- the bytes of fields, one after the other
abbrev pub bytes_of : List Field → List ℕ
bytes_of [] = []
bytes_of (f ∷ fs) = f.bytes ++ bytes_of fs

-- a byte of the mark is a field of its own
abbrev pub mark_byte : ℕ → Field
mark_byte place = field (Mark place) (slice_index mark_bytes place)

-- and so is its last byte
abbrev pub version_mark : Version → Field
version_mark v = field VersionMark (version_byte v)

-- a prefix: its first address in four bytes, and its length
abbrev pub prefix_bytes : List Bool → List ℕ
prefix_bytes bits = big_bytes 4 (address_of bits) ++ length bits ∷ []

-- a pattern is one field: its prefix, and the least and the greatest length
abbrev pub pattern : PrefixPattern → Field
pattern p = record { kind = Pattern; bytes = prefix_bytes p.bits ++ p.low ∷ p.high ∷ [] }

-- how many there are, and the fields of each, in order
abbrev pub counted : {A : Type 0} → FieldKind → (A → List Field) → List A → List Field
counted kind fields_of xs = field kind (length xs) ∷ flat_map fields_of xs

-- a set: its patterns, counted
abbrev pub set : List PrefixPattern → List Field
set patterns = counted Patterns (λ p. pattern p ∷ []) patterns

-- a range is one field: its first number and its last, in four bytes each
abbrev pub range : NumberRange → Field
range r = record { kind = Range; bytes = big_bytes 4 r.low ++ big_bytes 4 r.high }

-- a set of ints: its ranges, counted
abbrev pub int_set : List NumberRange → List Field
int_set ranges = counted Ranges (λ r. range r ∷ []) ranges

-- the sets of ints, counted, where the version has them
abbrev pub int_sets : Version → List (List NumberRange) → List Field
int_sets version.One sets = []
int_sets version.Two sets = counted IntSets int_set sets

-- what an instruction carries is its operand, where it carries something
abbrev pub literal_field : Literal → List Field
literal_field Bare = []
literal_field (Word n) = field WordOperand n ∷ []
literal_field (Truth b) = field TruthOperand (if b then 1 else 0) ∷ []
literal_field (Bits bits) = record { kind = PrefixOperand; bytes = prefix_bytes bits } ∷ []
literal_field (Index i) = field NameOperand i ∷ []
literal_field (Length n) = field BitsOperand n ∷ []
literal_field (Skip k) = field SkipOperand k ∷ []

abbrev pub operand : Instr → List Field
operand i = literal_field (literal_of i)

-- an instruction: its opcode, then the operand
abbrev pub instruction : Version → Instr → List Field
instruction v i = field (Opcode v) (opcode i) ∷ operand i

-- a whole file: the mark, the number of locals, the sets counted, the sets of ints, and the instructions counted
abbrev pub fields : Version → CodeView → List Field
fields v code =
    mark_byte 0 ∷ mark_byte 1 ∷ mark_byte 2 ∷ version_mark v ∷ field Locals code.locals
    ∷ counted Sets set code.sets ++ (int_sets v code.int_sets ++ counted Instructions (instruction v) code.instrs)

-- the bytes of the file of a code in a version
abbrev pub spelling_in : Version → CodeView → List ℕ
spelling_in v code = bytes_of (fields v code)

-- the bytes of the file of a code, as it is written: in the second version
abbrev pub spelling : CodeView → List ℕ
spelling code = spelling_in version.Two code

-- bits of an address, and lengths in order
pub record IsPattern (p : PrefixPattern) : Type 0 where
  pub prefix : length p.bits ≤ address_length
  pub lengths : HasOrderedLengths p.low p.high

-- a set within the limit
pub record IsSet (patterns : List PrefixPattern) : Type 0 where
  pub within_limit : length patterns ≤ pattern_limit
  pub each : AllByRecursion IsPattern patterns

-- numbers of four bytes, in order
pub record IsRange (r : NumberRange) : Type 0 where
  pub order : r.low ≤ r.high
  pub fits : r.high < 2 ^ 32

-- a set of ints within the limit
pub record IsIntSet (ranges : List NumberRange) : Type 0 where
  pub within_limit : length ranges ≤ range_limit
  pub each : AllByRecursion IsRange ranges

-- sets of ints that a version has: the first has none
abbrev pub AreIntSets : Version → List (List NumberRange) → Type 0
AreIntSets version.One sets = sets ≡ []
AreIntSets version.Two sets = (length sets ≤ int_set_limit) × AllByRecursion IsIntSet sets

-- an instruction whose operand fits its field
abbrev pub FitsField : Literal → Type 0
FitsField Bare = Unit {0}
FitsField (Word n) = n < 2 ^ 32
FitsField (Truth b) = Unit {0}
FitsField (Bits bits) = length bits ≤ address_length
FitsField (Index i) = i < 256
FitsField (Length n) = n ≤ address_length
FitsField (Skip k) = k < 2 ^ 16

-- and which the version has
abbrev pub IsInstruction : Version → Instr → Type 0
IsInstruction v i = FitsField (literal_of i) × (is_in v i ≡ true)

-- a code that has a file of a version: it is within the limits, and each set and instruction fits its fields
pub record IsCodeIn (v : Version) (code : CodeView) : Type 0 where
  pub locals : code.locals ≤ local_limit
  pub sets : length code.sets ≤ set_limit
  pub each_set : AllByRecursion IsSet code.sets
  pub int_sets : AreIntSets v code.int_sets
  pub instrs : length code.instrs ≤ instruction_limit
  pub each_instr : AllByRecursion (IsInstruction v) code.instrs

-- a code that has a file, as it is written
abbrev pub IsCode : CodeView → Type 0
IsCode code = IsCodeIn version.Two code

-- whether a code has a set of ints or an INSET, and so no file of the first version
abbrev pub needs_int_sets : CodeView → Bool
needs_int_sets code = nat_lt 0 (length code.int_sets) || list_any is_in_set code.instrs

-- bytes that are the file of a code, of some version
pub record IsFile (bytes : List ℕ) (code : CodeView) : Type 0 where
  pub version : Version
  pub is_code : IsCodeIn version code
  pub spelled : bytes ≡ spelling_in version code
