-- What is told of one step of a run: an assignment with its value, a comparison with its operands and what it gave, and a condition
-- with its truth. (This project's own choice.)
use Rattle.std.specs.Prelude.{ℕ, ◌+◌, ◌*◌, ◌==◌, ◌&&◌, Bool, true, false, not, nat_le, if◌then◌else◌}
use Rattle.std.specs.Prelude.{List, [], ◌∷◌, ◌++◌, Option, Some, None, codes, decimal, slice_get}
use Rattle.filter_code.specs.Machine.{Config}
use Rattle.filter_code.specs.Names.{truth_text}
use Rattle.filter_code.specs.declared.instruction.Instr.{Instr}
use Rattle.filter_code.specs.declared.instruction.Instr.TheVariants as instr
use Rattle.filter_code.specs.declared.value.Value.{Value}
use Rattle.filter_code.specs.declared.value.Value.TheVariants as value
use Rattle.prefix_patterns.specs.Spelling.{address_text, prefix_text}
use Rattle.filter_traces.specs.Sites.{site_text, word_of}
use Rattle.filter_traces.specs.TracedView.{TracedView}
use Rattle.filter_traces.specs.declared.seen.Seen.{Seen}
use Rattle.filter_traces.specs.declared.site.InstructionSite.{InstructionSite}

-- a value as the language spells it
abbrev pub value_text : Value → List ℕ
value_text (value.Int n) = decimal n
value_text (value.Bool b) = truth_text b
value_text (value.Addr a) = address_text a.0
value_text (value.Net bits) = prefix_text bits

abbrev pub operand_text : Option Value → List ℕ
operand_text None = []
operand_text (Some v) = value_text v

-- what is seen of a step from one configuration to the next: the two values on top of the stack before it, and the value on top and the
-- metric after it
abbrev pub seen : Config → Config → Seen
seen c d = record {
  below = slice_get c.frame.stack 1;
  top = slice_get c.frame.stack 0;
  given = slice_get d.frame.stack 0;
  metric = d.metric;
}

-- one of two signs
abbrev pub either : Bool → List ℕ → List ℕ → List ℕ
either negated sign opposite = if negated then opposite else sign

-- the sign of a comparison; the opposite one where it is negated. A set is not written out
abbrev pub sign : Bool → Instr → List ℕ
sign negated instr.Eq = either negated (codes "=") (codes "!=")
sign negated instr.Lt = either negated (codes "<") (codes ">=")
sign negated instr.Le = either negated (codes "<=") (codes ">")
sign negated instr.Within = either negated (codes "~") (codes "!~")
sign negated (instr.Member s) = either negated (codes "~") (codes "!~")
sign negated (instr.InSet s) = either negated (codes "~") (codes "!~")
sign negated _ = []

-- the truth of a comparison that gave this value
abbrev pub truth_given : Bool → Option Value → List ℕ
truth_given negated (Some (value.Bool b)) = truth_text (if negated then not b else b)
truth_given negated _ = []

-- what stands left and right of it: two operands, or one and a set
abbrev pub left_of : Instr → Seen → Option Value
left_of (instr.Member k) s = s.top
left_of (instr.InSet k) s = s.top
left_of i s = s.below

abbrev pub right_text : Instr → Option Value → List ℕ
right_text (instr.Member k) top = codes "[..]"
right_text (instr.InSet k) top = codes "[..]"
right_text i top = operand_text top

-- a comparison
abbrev pub compared : Bool → Instr → Seen → List ℕ
compared negated i s =
    operand_text (left_of i s) ++ 32 ∷ [] ++ sign negated i ++ 32 ∷ [] ++ right_text i s.top ++ codes " is " ++ truth_given negated s.given

-- what is told of an instruction that was carried out: `word` stands where it comes from, and `negated` says that a NOT of the same
-- operator follows it
abbrev pub shown_step : List ℕ → Bool → Instr → Seen → List ℕ
shown_step word negated (instr.Store k) s = word ++ codes " = " ++ operand_text s.top
shown_step word negated instr.SetMetric s = word ++ codes " = " ++ decimal s.metric
shown_step word negated (instr.JumpIfNot k) s = word ++ 32 ∷ [] ++ operand_text s.top
shown_step word negated instr.Eq s = compared negated instr.Eq s
shown_step word negated instr.Lt s = compared negated instr.Lt s
shown_step word negated instr.Le s = compared negated instr.Le s
shown_step word negated instr.Within s = compared negated instr.Within s
shown_step word negated (instr.Member k) s = compared negated (instr.Member k) s
shown_step word negated (instr.InSet k) s = compared negated (instr.InSet k) s
shown_step word negated _ s = []

-- an instruction of which something is told
abbrev pub is_shown : Instr → Bool
is_shown (instr.Store k) = true
is_shown instr.SetMetric = true
is_shown (instr.JumpIfNot k) = true
is_shown instr.Eq = true
is_shown instr.Lt = true
is_shown instr.Le = true
is_shown instr.Within = true
is_shown (instr.Member k) = true
is_shown (instr.InSet k) = true
is_shown _ = false

-- A declaration is two instructions, and declarations come first: of them nothing is told.
abbrev pub is_declaration : TracedView → ℕ → Bool
is_declaration t at = not (nat_le (2 * t.program.locals) at)

-- whether the next instruction is a NOT that comes from the same byte of the text: that of `!=`, `>`, `>=` or `!~`
abbrev pub is_not : Option Instr → Bool
is_not (Some instr.Not) = true
is_not _ = false

abbrev pub same_byte : Option InstructionSite → Option InstructionSite → Bool
same_byte (Some a) (Some b) = a.byte == b.byte
same_byte _ _ = false

abbrev pub is_negated : TracedView → ℕ → Bool
is_negated t at = is_not (slice_get t.program.instrs (at + 1)) && same_byte (slice_get t.sites at) (slice_get t.sites (at + 1))

-- the line on an instruction, which is at this place of the code
abbrev pub shown_line : TracedView → ℕ → Instr → Seen → List ℕ
shown_line t at i s =
    codes "  " ++ site_text (slice_get t.sites at) ++ 32 ∷ [] ++ shown_step (word_of t.text (slice_get t.sites at)) (is_negated t at) i s ++ 10 ∷ []

-- what is told of a step that carried it out
abbrev pub step_line : TracedView → ℕ → Instr → Seen → List ℕ
step_line t at i s = if is_shown i && not (is_declaration t at) then shown_line t at i s else []
