-- The fields of a code file: how many bytes each kind has, and which bytes are allowed. The format is this project's
-- own choice.
use Rattle.std.specs.Prelude.{ℕ, ◌<◌, ◌==◌, ◌&&◌, ◌||◌, not, drop, Bool, true, false, List, [], ◌∷◌, slice_index, nat_le, Option, is_some, find}
use Rattle.byteorder.specs.Endian.{big_number}
use Rattle.prefix_patterns.specs.Matching.{pattern_limit}
use Rattle.prefix_patterns.specs.Bits.{address_length, prefix_bits, address_of}
use Rattle.filter_code.specs.declared.instruction.Instr.{Instr}
use Rattle.filter_code.specs.declared.instruction.Instr.TheVariants as instr
use Rattle.filter_code.specs.Limits.{local_limit, set_limit, int_set_limit, instruction_limit}
use Rattle.filter_code.specs.Table.{opcode}
use Rattle.int_sets.specs.Holding.{range_limit}
use Rattle.code_file.specs.declared.fault.FileFault.{FileFault}
use Rattle.code_file.specs.declared.fault.FileFault.TheVariants as fault
use Rattle.code_file.specs.declared.version.Version.{Version}
use Rattle.code_file.specs.declared.version.Version.TheVariants as version

-- each item is a byte
abbrev pub IsBytes : List ℕ → Type 0
IsBytes bytes = (i : ℕ) → slice_index bytes i < 256

-- what a field is for: the byte of the mark at a place, and its last byte, which tells the version; the numbers of
-- locals, of sets, of the patterns of a set, of sets of ints, of the ranges of a set of ints and of instructions; a
-- pattern; a range of ints; the opcode of an instruction in a file of a version; its operand, of one of six kinds
pub data FieldKind : Type 0 where
  Mark : (place : ℕ) → FieldKind
  VersionMark : FieldKind
  Locals : FieldKind
  Sets : FieldKind
  Patterns : FieldKind
  Pattern : FieldKind
  IntSets : FieldKind
  Ranges : FieldKind
  Range : FieldKind
  Instructions : FieldKind
  Opcode : (version : Version) → FieldKind
  WordOperand : FieldKind
  TruthOperand : FieldKind
  PrefixOperand : FieldKind
  NameOperand : FieldKind
  BitsOperand : FieldKind
  SkipOperand : FieldKind

-- how many bytes a field has
abbrev pub width : FieldKind → ℕ
width (Mark place) = 1
width VersionMark = 1
width Locals = 1
width Sets = 1
width Patterns = 2
width Pattern = 7
width IntSets = 1
width Ranges = 2
width Range = 8
width Instructions = 2
width (Opcode v) = 1
width WordOperand = 4
width TruthOperand = 1
width PrefixOperand = 5
width NameOperand = 1
width BitsOperand = 1
width SkipOperand = 2

-- the number in the bytes of a field, the highest byte first
abbrev pub number : FieldKind → List ℕ → ℕ
number kind bytes = big_number (width kind) bytes

-- the mark with which each file begins, up to its last byte: `NCF`
abbrev pub mark_bytes : List ℕ
mark_bytes = 0x4E ∷ 0x43 ∷ 0x46 ∷ []

-- the last byte of the mark of each version: `1` and `2`
abbrev pub version_byte : Version → ℕ
version_byte version.One = 0x31
version_byte version.Two = 0x32

abbrev pub versions : List Version
versions = version.One ∷ version.Two ∷ []

-- the version whose mark ends in this byte
abbrev pub version_of : ℕ → Option Version
version_of byte = find (λ v. version_byte v == byte) versions

-- the first version has no sets of ints
abbrev pub has_int_sets : Version → Bool
has_int_sets version.One = false
has_int_sets version.Two = true

-- an instruction that looks into a set of ints
abbrev pub is_in_set : Instr → Bool
is_in_set (instr.InSet s) = true
is_in_set _ = false

-- whether a version has an instruction
abbrev pub is_in : Version → Instr → Bool
is_in v i = not (is_in_set i) || has_int_sets v

-- each instruction once, with 0, false or no bits for an operand
abbrev pub forms : List Instr
forms =
    instr.Int 0 ∷ instr.Bool false ∷ instr.Ip (record { 0 = 0 }) ∷ instr.Prefix [] ∷ instr.Load 0 ∷ instr.Store 0 ∷ instr.Net ∷ instr.Metric
    ∷ instr.Received ∷ instr.SetMetric ∷ instr.Add ∷ instr.Sub ∷ instr.Mul ∷ instr.Div ∷ instr.Max ∷ instr.Eq ∷ instr.Lt ∷ instr.Le
    ∷ instr.Not ∷ instr.Addr ∷ instr.Len ∷ instr.Mask 0 ∷ instr.Within ∷ instr.Member 0 ∷ instr.InSet 0 ∷ instr.Jump 0 ∷ instr.JumpIfNot 0
    ∷ instr.Accept ∷ instr.Reject ∷ []

-- the instruction of a version with this opcode, with a blank operand
unfoldable pub form_of : Version → ℕ → Option Instr
form_of v byte = find (λ form. opcode form == byte && is_in v form) forms

-- an address of four bytes and a length in one have no bit set past the length
abbrev pub is_prefix : List ℕ → Bool
is_prefix bytes =
    let address = big_number 4 bytes in
    let len = slice_index bytes 4 in
    nat_le len address_length && (address_of (prefix_bits address len) == address)

-- after the prefix, the least and the greatest length are in order and at most that of an address
abbrev pub is_pattern : List ℕ → Bool
is_pattern bytes = is_prefix bytes && (nat_le (slice_index bytes 5) (slice_index bytes 6) && nat_le (slice_index bytes 6) address_length)

-- the first number is at most the last
abbrev pub is_range : List ℕ → Bool
is_range bytes = nat_le (big_number 4 bytes) (big_number 4 (drop 4 bytes))

-- whether these bytes are allowed in a field
abbrev pub is_good : FieldKind → List ℕ → Bool
is_good (Mark place) bytes = number (Mark place) bytes == slice_index mark_bytes place
is_good VersionMark bytes = is_some (version_of (number VersionMark bytes))
is_good Locals bytes = nat_le (number Locals bytes) local_limit
is_good Sets bytes = nat_le (number Sets bytes) set_limit
is_good Patterns bytes = nat_le (number Patterns bytes) pattern_limit
is_good Pattern bytes = is_pattern bytes
is_good IntSets bytes = nat_le (number IntSets bytes) int_set_limit
is_good Ranges bytes = nat_le (number Ranges bytes) range_limit
is_good Range bytes = is_range bytes
is_good Instructions bytes = nat_le (number Instructions bytes) instruction_limit
is_good (Opcode v) bytes = is_some (form_of v (number (Opcode v) bytes))
is_good WordOperand bytes = true
is_good TruthOperand bytes = nat_le (number TruthOperand bytes) 1
is_good PrefixOperand bytes = is_prefix bytes
is_good NameOperand bytes = true
is_good BitsOperand bytes = nat_le (number BitsOperand bytes) address_length
is_good SkipOperand bytes = true

-- the fault of a whole field with other bytes, by the place of its first byte
abbrev pub fault_of : FieldKind → ℕ → FileFault
fault_of (Mark place) at = fault.OtherMark at
fault_of VersionMark at = fault.OtherMark at
fault_of Locals at = fault.OverLimit at
fault_of Sets at = fault.OverLimit at
fault_of Patterns at = fault.OverLimit at
fault_of Pattern at = fault.BadOperand at
fault_of IntSets at = fault.OverLimit at
fault_of Ranges at = fault.OverLimit at
fault_of Range at = fault.BadOperand at
fault_of Instructions at = fault.OverLimit at
fault_of (Opcode v) at = fault.UnknownOpcode at
fault_of WordOperand at = fault.BadOperand at
fault_of TruthOperand at = fault.BadOperand at
fault_of PrefixOperand at = fault.BadOperand at
fault_of NameOperand at = fault.BadOperand at
fault_of BitsOperand at = fault.BadOperand at
fault_of SkipOperand at = fault.BadOperand at
