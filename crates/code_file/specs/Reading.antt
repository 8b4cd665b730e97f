-- Reading a file from left to right, field by field, up to the first fault.
use Rattle.std.specs.Prelude.{◌≡◌, ◌⊎◌, ℕ, zero, suc, ◌+◌, ◌==◌, Bool, List, [], ◌∷◌, length, take, drop, slice_index, unwrap_or}
use Rattle.std.specs.Prelude.{Result, Ok, Err, nat_lt, if◌then◌else◌}
use Rattle.byteorder.specs.Endian.{big_number}
use Rattle.prefix_patterns.specs.Bits.{prefix_bits}
use Rattle.prefix_patterns.specs.Matching.{PrefixPattern}
use Rattle.filter_code.specs.declared.instruction.Instr.{Instr}
use Rattle.filter_code.specs.declared.instruction.Instr.TheVariants as instr
use Rattle.filter_code.specs.CodeView.{CodeView}
use Rattle.int_sets.specs.Holding.{NumberRange}
use Rattle.code_file.specs.declared.fault.FileFault.{FileFault}
use Rattle.code_file.specs.declared.fault.FileFault.TheVariants as fault
use Rattle.code_file.specs.declared.version.Version.{Version}
use Rattle.code_file.specs.declared.version.Version.TheVariants as version
use Rattle.code_file.specs.Fields.{FieldKind, width, number, is_good, fault_of, version_of, form_of}
use Rattle.code_file.specs.Fields.FieldKind.{Mark, VersionMark, Locals, Sets, Patterns, Pattern, IntSets}
use Rattle.code_file.specs.Fields.FieldKind.{Ranges, Range, Instructions, Opcode, WordOperand}
use Rattle.code_file.specs.Fields.FieldKind.{TruthOperand, PrefixOperand, NameOperand, BitsOperand, SkipOperand}

-- the fields to read, where each may depend on the bytes of those before it, and what they make
pub data Format (A : Type 0) : Type 0 where
  Done : (made : A) → Format A
  Next : (kind : FieldKind) (others : List ℕ → Format A) → Format A

-- one format after the other, which may depend on what the first made
infixl 10 ◌>>=◌
abbrev pub ◌>>=◌ : {A B : Type 0} → Format A → (A → Format B) → Format B
(Done made) >>= later = later made
(Next kind others) >>= later = Next kind (λ bytes. others bytes >>= later)

-- one format n times, with what they made in order
unfoldable pub times : {A : Type 0} → ℕ → Format A → Format (List A)
times zero format = Done []
times (suc n) format = do
  first ← format
  others ← times n format
  Done (first ∷ others)

-- a field that holds a number
abbrev pub a_number : FieldKind → Format ℕ
a_number kind = Next kind (λ bytes. Done (number kind bytes))

-- the prefix of an address of four bytes and a length of one
abbrev pub prefix_of : List ℕ → List Bool
prefix_of bytes = prefix_bits (big_number 4 bytes) (slice_index bytes 4)

-- the pattern of a prefix, and its least and its greatest length
abbrev pub pattern_of : List ℕ → PrefixPattern
pattern_of bytes = record { bits = prefix_of bytes; low = slice_index bytes 5; high = slice_index bytes 6 }

-- a pattern
abbrev pub a_pattern : Format PrefixPattern
a_pattern = Next Pattern (λ bytes. Done (pattern_of bytes))

-- a number, and so many of one format
abbrev pub a_count_of : {A : Type 0} → FieldKind → Format A → Format (List A)
a_count_of kind format = do
  n ← a_number kind
  times n format

-- a set
abbrev pub a_set : Format (List PrefixPattern)
a_set = a_count_of Patterns a_pattern

-- the range of two numbers of four bytes
abbrev pub range_of : List ℕ → NumberRange
range_of bytes = record { low = big_number 4 bytes; high = big_number 4 (drop 4 bytes) }

-- a range of ints
abbrev pub a_range : Format NumberRange
a_range = Next Range (λ bytes. Done (range_of bytes))

-- a set of ints
abbrev pub an_int_set : Format (List NumberRange)
an_int_set = a_count_of Ranges a_range

-- the sets of ints of a version
abbrev pub the_int_sets : Version → Format (List (List NumberRange))
the_int_sets version.One = Done []
the_int_sets version.Two = a_count_of IntSets an_int_set

-- an operand that is a truth value
abbrev pub a_truth : Format Bool
a_truth = do
  n ← a_number TruthOperand
  Done (n == 1)

-- an operand that is a prefix
abbrev pub a_prefix : Format (List Bool)
a_prefix = Next PrefixOperand (λ bytes. Done (prefix_of bytes))

-- the operand of an instruction of this form
abbrev pub an_operand : Instr → Format Instr
an_operand (instr.Int any) = do
  n ← a_number WordOperand
  Done (instr.Int n)
an_operand (instr.Bool any) = do
  b ← a_truth
  Done (instr.Bool b)
an_operand (instr.Ip any) = do
  n ← a_number WordOperand
  Done (instr.Ip (record { 0 = n }))
an_operand (instr.Prefix any) = do
  bits ← a_prefix
  Done (instr.Prefix bits)
an_operand (instr.Load any) = do
  i ← a_number NameOperand
  Done (instr.Load i)
an_operand (instr.Store any) = do
  i ← a_number NameOperand
  Done (instr.Store i)
an_operand (instr.Mask any) = do
  n ← a_number BitsOperand
  Done (instr.Mask n)
an_operand (instr.Member any) = do
  i ← a_number NameOperand
  Done (instr.Member i)
an_operand (instr.InSet any) = do
  i ← a_number NameOperand
  Done (instr.InSet i)
an_operand (instr.Jump any) = do
  k ← a_number SkipOperand
  Done (instr.Jump k)
an_operand (instr.JumpIfNot any) = do
  k ← a_number SkipOperand
  Done (instr.JumpIfNot k)
an_operand form = Done form

-- an opcode: it makes the instruction that has it, with a blank operand (a byte that is no opcode is bad, and nothing is
-- read after it)
abbrev pub a_form : Version → Format Instr
a_form v = do
  byte ← a_number (Opcode v)
  Done (unwrap_or (form_of v byte) instr.Reject)

-- an opcode and its operand
abbrev pub an_instruction : Version → Format Instr
an_instruction v = do
  form ← a_form v
  an_operand form

-- the last byte of the mark: it tells the version (a byte that tells none is bad, and nothing is read after it)
abbrev pub a_version : Format Version
a_version = do
  byte ← a_number VersionMark
  Done (unwrap_or (version_of byte) version.One)

-- the mark
abbrev pub a_mark : Format Version
a_mark = do
  n ← a_number (Mark 0)
  c ← a_number (Mark 1)
  f ← a_number (Mark 2)
  a_version

-- what follows the mark of a version
abbrev pub a_code : Version → Format CodeView
a_code v = do
  locals ← a_number Locals
  sets ← a_count_of Sets a_set
  int_sets ← the_int_sets v
  instrs ← a_count_of Instructions (an_instruction v)
  Done (record { locals = locals; sets = sets; int_sets = int_sets; instrs = instrs })

-- a whole file
unfoldable pub a_file : Format CodeView
a_file = do
  v ← a_mark
  a_code v

-- the bytes that are left of a file, and the number of bytes before them
pub record Rest : Type 0 where
  pub at : ℕ
  pub bytes : List ℕ

-- what is left after the next n bytes
abbrev pub past : ℕ → Rest → Rest
past n rest = record { at = rest.at + n; bytes = drop n rest.bytes }

-- what the fields at the front make, with what is left after them; or the first fault
abbrev pub read : {A : Type 0} → Format A → Rest → Result (A × Rest) FileFault
read (Done made) rest = Ok (made, rest)
read (Next kind others) rest =
    if nat_lt (length rest.bytes) (width kind) then Err (fault.EndsEarly (rest.at + length rest.bytes))
    else if is_good kind (take (width kind) rest.bytes) then read (others (take (width kind) rest.bytes)) (past (width kind) rest)
    else Err (fault_of kind rest.at)

-- what was made, if nothing is left
abbrev pub whole : {A : Type 0} → Result (A × Rest) FileFault → Result A FileFault
whole (Err found) = Err found
whole (Ok made) = if length made.1.bytes == 0 then Ok made.0 else Err (fault.BytesAfterEnd made.1.at)

-- the code whose file the bytes are, or their first fault
unfoldable pub file_of : List ℕ → Result CodeView FileFault
file_of bytes = whole (read a_file (record { at = 0; bytes = bytes }))

-- What a reader gave, seen by view, and what it left are what reading in this format gives; and so is its fault.
abbrev pub Reads : {A X : Type 0} → (X → A) → Format A → Rest → Rest → Result X FileFault → Type 0
Reads view format old new (Ok x) = read format old ≡ Ok (view x, new)
Reads view format old new (Err found) = read format old ≡ Err found

-- The same of a reader that needs memory, which may be refused.
abbrev pub ReadsInto : {A X : Type 0} → (X → A) → Format A → Rest → Rest → Result X FileFault → Type 0
ReadsInto view format old new (Ok x) = read format old ≡ Ok (view x, new)
ReadsInto view format old new (Err found) = (found ≡ fault.Memory) ⊎ (read format old ≡ Err found)
