-- The commands of a filter, each with a count: a line for each place of the text at which one stands, in the order of the code. (This
-- project's own choice.)
use Rattle.std.specs.Prelude.{ℕ, zero, suc, ◌&&◌, Bool, true, false, not, nat_lt, if◌then◌else◌, List}
use Rattle.std.specs.Prelude.{[], ◌∷◌, ◌++◌, Option, Some, codes, decimal, length, slice_get}
use Rattle.std.specs.Bool.{beq}
use Rattle.std.specs.Str.{bytes_eq}
use Rattle.filter_code.specs.declared.instruction.Instr.{Instr}
use Rattle.filter_code.specs.declared.instruction.Instr.TheVariants as instr
use Rattle.filter_traces.specs.Sites.{site_text, word_of}
use Rattle.filter_traces.specs.Shown.{is_declaration}
use Rattle.filter_traces.specs.TracedView.{TracedView}

-- whether an instruction is that of a command: `accept`, `reject`, an assignment, or the condition of an `if`; its word is this one
abbrev pub is_command : List ℕ → Option Instr → Bool
is_command word (Some instr.Accept) = true
is_command word (Some instr.Reject) = true
is_command word (Some (instr.Store i)) = true
is_command word (Some instr.SetMetric) = true
is_command word (Some (instr.JumpIfNot k)) = bytes_eq word (codes "if")
is_command word _ = false

-- whether the instruction at a place of the code is that of a command; a declaration is none
abbrev pub is_command_at : TracedView → ℕ → Bool
is_command_at t at = is_command (word_of t.text (slice_get t.sites at)) (slice_get t.program.instrs at) && not (is_declaration t at)

-- the line on a command
abbrev pub command_line : TracedView → ℕ → ℕ → List ℕ
command_line t at count =
    decimal count ++ 32 ∷ [] ++ site_text (slice_get t.sites at) ++ 32 ∷ [] ++ word_of t.text (slice_get t.sites at) ++ 10 ∷ []

-- the line on a command of this count, if it is to be among the reached ones, or among the others
abbrev pub chosen_line : TracedView → Bool → ℕ → ℕ → List ℕ
chosen_line t is_reached at count = if is_command_at t at && beq (nat_lt 0 count) is_reached then command_line t at count else []

-- the lines on those of the commands among the first n instructions that have been reached, or on the others
unfoldable pub chosen_lines : TracedView → Bool → (ℕ → ℕ) → ℕ → List ℕ
chosen_lines t is_reached count zero = []
chosen_lines t is_reached count (suc n) = chosen_lines t is_reached count n ++ chosen_line t is_reached n (count n)

-- the lines on the commands among the first n instructions: those that no route reached come last
abbrev pub lines_among : TracedView → (ℕ → ℕ) → ℕ → List ℕ
lines_among t count n = chosen_lines t true count n ++ chosen_lines t false count n

-- the lines on all commands
abbrev pub coverage_text : TracedView → (ℕ → ℕ) → List ℕ
coverage_text t count = lines_among t count (length t.program.instrs)
