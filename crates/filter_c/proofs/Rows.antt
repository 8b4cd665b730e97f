-- Worked rows of the definitions, computed.
use Rattle.std.proofs.Common.{◌≡◌, [], ◌∷◌, ◌++◌, true, false, refl, codes}
use Rattle.std.specs.Prelude.{None}
use Rattle.std.specs.List.{list_any}
use Rattle.filter_code.specs.declared.instruction.Instr.TheVariants as instr
use Rattle.filter_code.specs.declared.outcome.Outcome.TheVariants as outcome
use Rattle.filter_c.specs.Answers.{outcome_given, reads_metric, reads_prefix}
use Rattle.filter_c.specs.Openings.{code_bytes, line_of, put}

-- two bytes of words in buffers of none to four bytes, which have other bytes before
no_room : put (codes "ab") [] ≡ []
no_room = refl

room_for_the_end : put (codes "ab") (codes "#") ≡ 0 ∷ []
room_for_the_end = refl

room_for_one : put (codes "ab") (codes "##") ≡ codes "a" ++ 0 ∷ []
room_for_one = refl

room_for_all : put (codes "ab") (codes "###") ≡ codes "ab" ++ 0 ∷ []
room_for_all = refl

room_behind : put (codes "ab") (codes "####") ≡ codes "ab" ++ 0 ∷ codes "#"
room_behind = refl

no_words : put [] (codes "##") ≡ 0 ∷ codes "#"
no_words = refl

short_code : code_bytes (codes "V3") ≡ codes "V3" ++ 0 ∷ 0 ∷ []
short_code = refl

long_code : code_bytes (codes "P10") ≡ codes "P10" ++ 0 ∷ []
long_code = refl

no_place : line_of (codes "a\nb") None ≡ 0
no_place = refl

rejected : outcome_given 0 0 ≡ outcome.Reject
rejected = refl

accepted : outcome_given 1 5 ≡ outcome.Accept 5
accepted = refl

-- a filter that accepts every route reads nothing of it, and one that adds to the metric reads that
reads_nothing : list_any reads_metric (instr.Accept ∷ []) ≡ false
reads_nothing = refl

adds : list_any reads_metric (instr.Metric ∷ instr.Int 2 ∷ instr.Add ∷ instr.SetMetric ∷ instr.Accept ∷ []) ≡ true
adds = refl

looks_at_no_prefix : list_any reads_prefix (instr.Metric ∷ instr.Int 2 ∷ instr.Add ∷ instr.SetMetric ∷ instr.Accept ∷ []) ≡ false
looks_at_no_prefix = refl
