-- Worked rows: the definitions compute what `check` writes.
use Rattle.std.proofs.Common.{◌≡◌, true, [], ◌∷◌, codes, refl, inl, inr, lit≤}
use Rattle.std.specs.Fmt.{digits}
use Rattle.hex.specs.Hex.{decode_pairs, encode_with}
use Rattle.filter_code.specs.CodeView.{CodeView}
use Rattle.filter_code.specs.declared.instruction.Instr.TheVariants as instr
use Rattle.filter_source.specs.declared.refusal.Refusal.TheVariants.{Hexadecimal}
use Rattle.filter_verifier.specs.FirstFault.{first_fault}
use Rattle.filter_verifier.specs.InStates.{incoming}
use Rattle.filter_reports.specs.Check.{AreLines, code_lines, refusal_lines}

-- the code that accepts every route as it is
abbrev accepts : CodeView
accepts = record { locals = 0; sets = []; int_sets = []; instrs = instr.Accept ∷ [] }

-- the code that divides by 0, once it has the metric
abbrev divides : CodeView
divides = record { locals = 0; sets = []; int_sets = []; instrs = instr.Metric ∷ instr.Int 0 ∷ instr.Div ∷ instr.Accept ∷ [] }

-- what `check` writes on a code: it is verified, or the size is none, or an instruction may go wrong
pub verified : (code_lines 8 accepts).text ≡ codes "code 4e434632000000000170\nverified 1 0\n"
unfolding encode_with incoming first_fault digits
verified = refl

pub bad_size : (code_lines 1 accepts).text ≡ codes "code 4e434632000000000170\nrefused V8 0\n"
unfolding encode_with incoming first_fault digits
bad_size = refl

pub may_divide : (code_lines 8 divides).text ≡ codes "code 4e43463200000000041301000000002370\nrefused V3 2\n"
unfolding encode_with incoming first_fault digits
may_divide = refl

-- what `check --code` writes where the digits are not hexadecimal
pub not_digits : AreLines 8 true (codes "filter a{accept;}") (refusal_lines Hexadecimal)
unfolding decode_pairs
not_digits = inl (Hexadecimal, inr (lit≤ tt, refl), refl)
