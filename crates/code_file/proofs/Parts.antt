-- Reading what follows the mark, in its parts, and what may follow that.
use Rattle.std.proofs.Common.{◌≡◌, ◌⊎◌, ℕ, ◌<◌, List, length, Result, Ok, Err, ap, ◌∙◌, inl, inr}
use Rattle.prefix_patterns.specs.Matching.{PrefixPattern}
use Rattle.filter_code.specs.declared.instruction.Instr.{Instr}
use Rattle.filter_code.specs.CodeView.{CodeView}
use Rattle.int_sets.specs.Holding.{NumberRange}
use Rattle.code_file.specs.declared.fault.FileFault.{FileFault}
use Rattle.code_file.specs.declared.fault.FileFault.TheVariants as fault
use Rattle.code_file.specs.declared.version.Version.{Version}
use Rattle.code_file.specs.Fields.FieldKind.{Locals, Sets, Instructions}
use Rattle.code_file.specs.Reading.{Format, ◌>>=◌, Rest, read, whole, a_number, a_set, the_int_sets}
use Rattle.code_file.specs.Reading.{an_instruction, a_count_of, a_mark, a_code, a_file}
use Rattle.code_file.specs.Reading.{file_of}
use Rattle.code_file.specs.Reading.Format.{Done}
use Rattle.code_file.proofs.Formats.{from_start}
use Rattle.code_file.proofs.Steps.{reads_on, reads_no_more, more_after, none_after}

abbrev program_of : ℕ → List (List PrefixPattern) → List (List NumberRange) → List Instr → CodeView
program_of locals sets int_sets instrs = record { locals = locals; sets = sets; int_sets = int_sets; instrs = instrs }

abbrev made : ℕ → List (List PrefixPattern) → List (List NumberRange) → List Instr → Format CodeView
made locals sets int_sets instrs = Done (program_of locals sets int_sets instrs)

abbrev from_instructions : Version → ℕ → List (List PrefixPattern) → List (List NumberRange) → Format CodeView
from_instructions v locals sets int_sets = a_count_of Instructions (an_instruction v) >>= made locals sets int_sets

abbrev from_int_sets : Version → ℕ → List (List PrefixPattern) → Format CodeView
from_int_sets v locals sets = the_int_sets v >>= from_instructions v locals sets

abbrev from_sets : Version → ℕ → Format CodeView
from_sets v locals = a_count_of Sets a_set >>= from_int_sets v locals

abbrev all_of : Result (CodeView × Rest) FileFault → Result CodeView FileFault
all_of r = whole r

-- ---- what follows the mark

pub locals_refused : (v : Version) (start : Rest) (found : FileFault) → read (a_number Locals) start ≡ Err found →
    read (a_code v) start ≡ Err found
locals_refused v start found h = reads_no_more (a_number Locals) (from_sets v) start found h

pub sets_refused : (v : Version) (start left : Rest) (locals : ℕ) (found : FileFault) →
    read (a_number Locals) start ≡ Ok (locals, left) → (found ≡ fault.Memory) ⊎ (read (a_count_of Sets a_set) left ≡ Err found)
    → (found ≡ fault.Memory) ⊎ (read (a_code v) start ≡ Err found)
sets_refused v start left locals found h (inl none) = inl none
sets_refused v start left locals found h (inr met) =
    inr (reads_on (a_number Locals) (from_sets v) start left locals h
    ∙ reads_no_more (a_count_of Sets a_set) (from_int_sets v locals) left found met)

-- the locals and the sets were read
pub record HasSets (start : Rest) (locals : ℕ) (sets : List (List PrefixPattern)) (end : Rest) : Type 0 where
  pub left : Rest
  pub locals_read : read (a_number Locals) start ≡ Ok (locals, left)
  pub sets_read : read (a_count_of Sets a_set) left ≡ Ok (sets, end)

after_sets : (v : Version) (start : Rest) (locals : ℕ) (sets : List (List PrefixPattern)) (end : Rest) →
    HasSets start locals sets end → read (a_code v) start ≡ read (from_int_sets v locals sets) end
after_sets v start locals sets end front =
    reads_on (a_number Locals) (from_sets v) start front.left locals front.locals_read
    ∙ reads_on (a_count_of Sets a_set) (from_int_sets v locals) front.left end sets front.sets_read

pub int_sets_refused : (v : Version) (start : Rest) (locals : ℕ) (sets : List (List PrefixPattern)) (end : Rest)
    (found : FileFault) → HasSets start locals sets end → (found ≡ fault.Memory) ⊎ (read (the_int_sets v) end ≡ Err found)
    → (found ≡ fault.Memory) ⊎ (read (a_code v) start ≡ Err found)
int_sets_refused v start locals sets end found front (inl none) = inl none
int_sets_refused v start locals sets end found front (inr met) =
    inr (after_sets v start locals sets end front
    ∙ reads_no_more (the_int_sets v) (from_instructions v locals sets) end found met)

-- all before the instructions was read
pub record AreRead (v : Version) (start : Rest) (locals : ℕ) (sets : List (List PrefixPattern))
    (int_sets : List (List NumberRange)) (last : Rest) : Type 0 where
  pub end : Rest
  pub front : HasSets start locals sets end
  pub int_sets_read : read (the_int_sets v) end ≡ Ok (int_sets, last)

after_int_sets : (v : Version) (start : Rest) (locals : ℕ) (sets : List (List PrefixPattern)) (int_sets : List (List NumberRange))
    (last : Rest) → AreRead v start locals sets int_sets last → read (a_code v) start ≡ read (from_instructions v locals sets int_sets) last
after_int_sets v start locals sets int_sets last all =
    after_sets v start locals sets all.end all.front
    ∙ reads_on (the_int_sets v) (from_instructions v locals sets) all.end last int_sets all.int_sets_read

pub instructions_refused : (v : Version) (start : Rest) (locals : ℕ) (sets : List (List PrefixPattern))
    (int_sets : List (List NumberRange)) (last : Rest) (found : FileFault) → AreRead v start locals sets int_sets last
    → (found ≡ fault.Memory) ⊎ (read (a_count_of Instructions (an_instruction v)) last ≡ Err found)
    → (found ≡ fault.Memory) ⊎ (read (a_code v) start ≡ Err found)
instructions_refused v start locals sets int_sets last found all (inl none) = inl none
instructions_refused v start locals sets int_sets last found all (inr met) =
    inr (after_int_sets v start locals sets int_sets last all
    ∙ reads_no_more (a_count_of Instructions (an_instruction v)) (made locals sets int_sets) last found met)

pub code_read : (v : Version) (start : Rest) (locals : ℕ) (sets : List (List PrefixPattern)) (int_sets : List (List NumberRange))
    (last : Rest) (instrs : List Instr) (new : Rest) → AreRead v start locals sets int_sets last
    → read (a_count_of Instructions (an_instruction v)) last ≡ Ok (instrs, new)
    → read (a_code v) start ≡ Ok (program_of locals sets int_sets instrs, new)
code_read v start locals sets int_sets last instrs new all k =
    after_int_sets v start locals sets int_sets last all
    ∙ reads_on (a_count_of Instructions (an_instruction v)) (made locals sets int_sets) last new instrs k

-- ---- a whole file

pub mark_refused : (bytes : List ℕ) (found : FileFault) → read a_mark (from_start bytes) ≡ Err found → file_of bytes ≡ Err found
unfolding file_of a_file
mark_refused bytes found h = ap all_of (reads_no_more a_mark a_code (from_start bytes) found h)

after_mark : (bytes : List ℕ) (v : Version) (left : Rest) → read a_mark (from_start bytes) ≡ Ok (v, left) →
    file_of bytes ≡ all_of (read (a_code v) left)
unfolding file_of a_file
after_mark bytes v left h = ap all_of (reads_on a_mark a_code (from_start bytes) left v h)

pub code_refused : (bytes : List ℕ) (v : Version) (left : Rest) (found : FileFault) →
    read a_mark (from_start bytes) ≡ Ok (v, left) → (found ≡ fault.Memory) ⊎ (read (a_code v) left ≡ Err found) →
    (found ≡ fault.Memory) ⊎ (file_of bytes ≡ Err found)
code_refused bytes v left found h (inl none) = inl none
code_refused bytes v left found h (inr met) = inr (after_mark bytes v left h ∙ ap all_of met)

pub bytes_follow : (bytes : List ℕ) (v : Version) (left last : Rest) (code : CodeView) →
    read a_mark (from_start bytes) ≡ Ok (v, left) → read (a_code v) left ≡ Ok (code, last) → 0 < length last.bytes →
    file_of bytes ≡ Err (fault.BytesAfterEnd last.at)
bytes_follow bytes v left last code h k more = after_mark bytes v left h ∙ ap all_of k ∙ more_after code last more

pub no_bytes_follow : (bytes : List ℕ) (v : Version) (left last : Rest) (code : CodeView) →
    read a_mark (from_start bytes) ≡ Ok (v, left) → read (a_code v) left ≡ Ok (code, last) → length last.bytes ≡ 0 →
    file_of bytes ≡ Ok code
no_bytes_follow bytes v left last code h k none = after_mark bytes v left h ∙ ap all_of k ∙ none_after code last none
