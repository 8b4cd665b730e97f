-- Worked rows: the definitions compute what `eval` writes.
use Rattle.std.proofs.Common.{◌≡◌, true, false, [], ◌∷◌, Some, None, Ok, Err, codes, refl}
use Rattle.std.specs.Fmt.{digits}
use Rattle.hex.specs.Hex.{decode_pairs}
use Rattle.code_file.specs.Fields.{form_of}
use Rattle.code_file.specs.Reading.{a_file, file_of, times}
use Rattle.filter_code.specs.CodeView.{CodeView}
use Rattle.filter_code.specs.Machine.{after}
use Rattle.filter_code.specs.declared.instruction.Instr.TheVariants as instr
use Rattle.prefix_patterns.specs.Bits.{bits}
use Rattle.prefix_patterns.specs.Number.{decimal_value}
use Rattle.prefix_patterns.specs.Reading.{address_in, groups_in, number_in, parts_at, prefix_in, written_in}
use Rattle.route_answers.specs.Eval.{code_in, eval_out, eval_refusals}
use Rattle.route_answers.specs.RouteLine.{route_in}
use Rattle.route_answers.specs.declared.line_fault.LineFault.TheVariants.{Words, Numbers, Prefix}

-- the code that accepts every route as it is
abbrev accepts : CodeView
accepts = record { locals = 0; sets = []; int_sets = []; instrs = instr.Accept ∷ [] }

-- a route line has a prefix, a metric and a size
pub a_route : route_in None (codes "10.0.0.0/8 3 8")
    ≡ Ok (record { net = false ∷ false ∷ false ∷ false ∷ true ∷ false ∷ true ∷ false ∷ []; metric = 3; size = 8 })
unfolding prefix_in written_in address_in groups_in parts_at number_in decimal_value bits
a_route = refl

-- two words, a length of 33 with a metric over the size, and a metric over the size
pub two_words : route_in None (codes "10.0.0.0/8 3") ≡ Err Words
two_words = refl

-- the same words in a domain of 8 nodes
pub in_domain : route_in (Some 8) (codes "10.0.0.0/8 3")
    ≡ Ok (record { net = false ∷ false ∷ false ∷ false ∷ true ∷ false ∷ true ∷ false ∷ []; metric = 3; size = 8 })
unfolding prefix_in written_in address_in groups_in parts_at number_in decimal_value bits
in_domain = refl

pub long_prefix : route_in None (codes "10.0.0.0/33 9 8") ≡ Err Prefix
unfolding prefix_in written_in address_in groups_in parts_at number_in decimal_value bits
long_prefix = refl

pub high_metric : route_in None (codes "10.0.0.0/8 9 8") ≡ Err Numbers
unfolding prefix_in written_in address_in groups_in parts_at number_in decimal_value bits
high_metric = refl

-- the line of a code, in digits of either case, with blanks around it
pub a_code : code_in (codes " 4E4346310000000170\t") ≡ Ok accepts
unfolding decode_pairs file_of a_file times form_of
a_code = refl

-- lines that are skipped count, and a refused line ends nothing
pub evaluated : eval_out (codes "# code\n4e4346310000000170\n10.0.0.0/8 3 8\n\nno\n0.0.0.0/0 8 8\n")
    ≡ codes "accept 3\nrefused O1 5\naccept 8\n"
unfolding decode_pairs file_of a_file times form_of prefix_in written_in address_in groups_in parts_at number_in decimal_value bits after digits
evaluated = refl

-- a fault of the code is an answer, and no refusal
pub faulted : eval_out (codes "4e434631000000041301000000002370\n10.0.0.0/8 3 8\n") ≡ codes "fault K3 2\n"
unfolding decode_pairs file_of a_file times form_of prefix_in written_in address_in groups_in parts_at number_in decimal_value bits after digits
faulted = refl

pub faulted_is_no_refusal : eval_refusals (codes "4e434631000000041301000000002370\n10.0.0.0/8 3 8\n") ≡ 0
unfolding decode_pairs file_of a_file times form_of prefix_in written_in address_in groups_in parts_at number_in decimal_value bits
faulted_is_no_refusal = refl

-- no line has a code, and a code line of an odd number of digits
pub no_line : eval_out (codes "# 4e\n") ≡ codes "refused O1 0\n"
unfolding digits
no_line = refl

pub odd_digits : eval_out (codes "4e4\n10.0.0.0/8 3 8\n") ≡ codes "refused O3 1\n"
unfolding decode_pairs digits
odd_digits = refl
