-- Worked rows: what the definitions say of files that are small enough to be read aloud.
use Rattle.std.proofs.Common.{◌≡◌, true, ℕ, List, [], ◌∷◌, ◌++◌, Ok, Err, refl}
use Rattle.filter_code.specs.declared.instruction.Instr.{Instr}
use Rattle.filter_code.specs.declared.instruction.Instr.TheVariants as instr
use Rattle.prefix_patterns.specs.Bits.{bits, number as digits}
use Rattle.filter_code.specs.CodeView.{CodeView}
use Rattle.code_file.specs.declared.fault.FileFault.TheVariants as fault
use Rattle.code_file.specs.declared.version.Version.TheVariants.{One}
use Rattle.code_file.specs.Spelling.{spelling, spelling_in, needs_int_sets}
use Rattle.code_file.specs.Reading.{times, a_file, file_of}
use Rattle.code_file.specs.Fields.{form_of}

-- the marks `NCF1` and `NCF2`
abbrev mark : List ℕ
mark = 0x4E ∷ (0x43 ∷ (0x46 ∷ (0x31 ∷ [])))

abbrev new_mark : List ℕ
new_mark = 0x4E ∷ (0x43 ∷ (0x46 ∷ (0x32 ∷ [])))

abbrev program : List Instr → CodeView
program instrs = record { locals = 0; sets = []; int_sets = []; instrs = instrs }

-- the smallest file: one instruction, which accepts
pub smallest : spelling (program (instr.Accept ∷ [])) ≡ new_mark ++ 0 ∷ (0 ∷ (0 ∷ (0 ∷ (1 ∷ (0x70 ∷ [])))))
smallest = refl

pub smallest_new_is_read : file_of (new_mark ++ 0 ∷ (0 ∷ (0 ∷ (0 ∷ (1 ∷ (0x70 ∷ [])))))) ≡ Ok (program (instr.Accept ∷ []))
unfolding file_of a_file times form_of
smallest_new_is_read = refl

-- and the same with the older mark
pub smallest_old : spelling_in One (program (instr.Accept ∷ [])) ≡ mark ++ 0 ∷ (0 ∷ (0 ∷ (1 ∷ (0x70 ∷ []))))
smallest_old = refl

pub smallest_is_read : file_of (mark ++ 0 ∷ (0 ∷ (0 ∷ (1 ∷ (0x70 ∷ []))))) ≡ Ok (program (instr.Accept ∷ []))
unfolding file_of a_file times form_of
smallest_is_read = refl

-- a number has its highest byte first
pub number : spelling_in One (program (instr.Int 258 ∷ [])) ≡ mark ++ 0 ∷ (0 ∷ (0 ∷ (1 ∷ (0x01 ∷ (0 ∷ (0 ∷ (1 ∷ (2 ∷ []))))))))
number = refl

-- a byte after the end
pub goes_on : file_of (mark ++ 0 ∷ (0 ∷ (0 ∷ (1 ∷ (0x70 ∷ (0 ∷ [])))))) ≡ Err (fault.BytesAfterEnd 9)
unfolding file_of a_file times form_of
goes_on = refl

-- an end before the opcode, before the operand is whole, and in the mark
pub no_opcode : file_of (mark ++ 0 ∷ (0 ∷ (0 ∷ (1 ∷ [])))) ≡ Err (fault.EndsEarly 8)
unfolding file_of a_file times form_of
no_opcode = refl

pub half_an_operand : file_of (mark ++ 0 ∷ (0 ∷ (0 ∷ (1 ∷ (0x01 ∷ (255 ∷ (255 ∷ (255 ∷ [])))))))) ≡ Err (fault.EndsEarly 12)
unfolding file_of a_file times form_of
half_an_operand = refl

pub half_a_mark : file_of (0x4E ∷ (0x43 ∷ [])) ≡ Err (fault.EndsEarly 2)
unfolding file_of a_file
half_a_mark = refl

-- another mark, judged byte by byte
pub other_mark : file_of (0x4E ∷ (0 ∷ [])) ≡ Err (fault.OtherMark 1)
unfolding file_of a_file
other_mark = refl

-- a byte that is no opcode
pub other_opcode : file_of (mark ++ 0 ∷ (0 ∷ (0 ∷ (1 ∷ (0x72 ∷ []))))) ≡ Err (fault.UnknownOpcode 8)
unfolding file_of a_file times form_of
other_opcode = refl

-- numbers over their limits
pub too_many_locals : file_of (mark ++ 17 ∷ (0 ∷ [])) ≡ Err (fault.OverLimit 4)
unfolding file_of a_file
too_many_locals = refl

pub too_many_patterns : file_of (mark ++ 0 ∷ (1 ∷ (4 ∷ (1 ∷ [])))) ≡ Err (fault.OverLimit 6)
unfolding file_of a_file times
too_many_patterns = refl

-- a MASK of 33 bits, and a truth value of 2
pub long_mask : file_of (mark ++ 0 ∷ (0 ∷ (0 ∷ (1 ∷ (0x42 ∷ (33 ∷ [])))))) ≡ Err (fault.BadOperand 9)
unfolding file_of a_file times form_of
long_mask = refl

pub no_truth : file_of (mark ++ 0 ∷ (0 ∷ (0 ∷ (1 ∷ (0x02 ∷ (2 ∷ [])))))) ≡ Err (fault.BadOperand 9)
unfolding file_of a_file times form_of
no_truth = refl

-- a set bit past the length of a prefix
pub set_bit : file_of (mark ++ 0 ∷ (0 ∷ (0 ∷ (1 ∷ (0x04 ∷ (1 ∷ (2 ∷ (3 ∷ (4 ∷ (16 ∷ [])))))))))) ≡ Err (fault.BadOperand 9)
unfolding file_of a_file times form_of bits digits
set_bit = refl

-- least and greatest length exchanged
pub lengths_exchanged : file_of (mark ++ 0 ∷ (1 ∷ (0 ∷ (1 ∷ (1 ∷ (0 ∷ (0 ∷ (0 ∷ (8 ∷ (17 ∷ (15 ∷ []))))))))))) ≡ Err (fault.BadOperand 8)
unfolding file_of a_file times bits digits
lengths_exchanged = refl

-- a third mark
pub third_mark : file_of (0x4E ∷ (0x43 ∷ (0x46 ∷ (0x33 ∷ [])))) ≡ Err (fault.OtherMark 3)
unfolding file_of a_file
third_mark = refl

-- an older file read as a newer one ends early
pub old_with_new_mark : file_of (new_mark ++ 0 ∷ (0 ∷ (0 ∷ (1 ∷ (0x70 ∷ []))))) ≡ Err (fault.EndsEarly 9)
unfolding file_of a_file times form_of
old_with_new_mark = refl

-- INSET is an opcode of newer files only
pub no_inset : file_of (mark ++ 0 ∷ (0 ∷ (0 ∷ (1 ∷ (0x52 ∷ (0 ∷ [])))))) ≡ Err (fault.UnknownOpcode 8)
unfolding file_of a_file times form_of
no_inset = refl

pub inset : file_of (new_mark ++ 0 ∷ (0 ∷ (0 ∷ (0 ∷ (1 ∷ (0x52 ∷ (7 ∷ []))))))) ≡ Ok (program (instr.InSet 7 ∷ []))
unfolding file_of a_file times form_of
inset = refl

-- the filter `if rip_metric ~ [2, 4..6] then accept;`
abbrev of_metric : CodeView
of_metric = record {
  locals = 0;
  sets = [];
  int_sets = (record { low = 2; high = 2 } ∷ record { low = 4; high = 6 } ∷ []) ∷ [];
  instrs = instr.Metric ∷ instr.InSet 0 ∷ instr.JumpIfNot 1 ∷ instr.Accept ∷ instr.Reject ∷ [];
}

abbrev of_metric_file : List ℕ
of_metric_file = new_mark ++ 0 ∷ 0 ∷ 1 ∷ 0 ∷ 2 ∷ 0 ∷ 0 ∷ 0 ∷ 2 ∷ 0 ∷ 0 ∷ 0 ∷ 2 ∷ 0 ∷ 0 ∷ 0 ∷ 4 ∷ 0 ∷ 0 ∷ 0 ∷ 6
    ∷ 0 ∷ 5 ∷ 0x13 ∷ 0x52 ∷ 0 ∷ 0x61 ∷ 0 ∷ 1 ∷ 0x70 ∷ 0x71 ∷ []

pub of_metric_is_spelled : spelling of_metric ≡ of_metric_file
of_metric_is_spelled = refl

pub of_metric_is_read : file_of of_metric_file ≡ Ok of_metric
unfolding file_of a_file times form_of
of_metric_is_read = refl

pub of_metric_needs : needs_int_sets of_metric ≡ true
of_metric_needs = refl

-- a range whose first number is above its last, and 65 sets of ints
pub ends_exchanged : file_of (new_mark ++ 0 ∷ 0 ∷ 1 ∷ 0 ∷ 1 ∷ 0 ∷ 0 ∷ 0 ∷ 6 ∷ 0 ∷ 0 ∷ 0 ∷ 4 ∷ []) ≡ Err (fault.BadOperand 9)
unfolding file_of a_file times
ends_exchanged = refl

pub too_many_int_sets : file_of (new_mark ++ 0 ∷ 0 ∷ 65 ∷ []) ≡ Err (fault.OverLimit 6)
unfolding file_of a_file times
too_many_int_sets = refl

pub too_many_ranges : file_of (new_mark ++ 0 ∷ 0 ∷ 1 ∷ 4 ∷ 1 ∷ []) ≡ Err (fault.OverLimit 7)
unfolding file_of a_file times
too_many_ranges = refl
