-- What a survey says of code is what `verify` says.
use Rattle.std.proofs.Common.{◌≡◌, ℕ, ◌≤◌, false, true, Some, None, Result, Ok, Err, refl, ◌∙◌, arith}
use Rattle.std.proofs.lemmas.Bool.Decides.{nat_tests}
use Rattle.std.specs.Prelude.{◌==◌, IfErr, IfOk, MatchResult, length}
use Rattle.std.specs.declared.alloc.AllocError.{AllocError}
use Rattle.filter_code.specs.CodeView.{CodeView}
use Rattle.filter_code.specs.Limits.{largest_size, smallest_size}
use Rattle.filter_verifier.specs.declared.fault.Unverified.{Unverified}
use Rattle.filter_verifier.specs.declared.survey.RunBounds.{RunBounds}
use Rattle.filter_verifier.specs.declared.survey.Survey.{Survey}
use Rattle.filter_verifier.specs.Bounds.{cost}
use Rattle.filter_verifier.specs.FirstFault.{first_fault, is_size, the_fault}
use Rattle.filter_verifier.specs.Sweep.{highest}
use Rattle.filter_verifier.specs.Surveys.{reach, refused_range, surveyed}
use Rattle.filter_verifier.specs.Verdicts.{IsVerdict}
use Rattle.filter_verifier.proofs.Depths.{depth_is}
use Rattle.filter_verifier.proofs.Sweeps.{nothing_unknown}

-- what the sweep over instructions finds, whatever the size
abbrev pub IsFound : CodeView → ℕ → Result RunBounds Unverified → Type 0
IsFound program size verdict = MatchResult verdict
    (λ b. (first_fault program size (length program.instrs) ≡ None) × (b.budget ≡ cost program.instrs 0)
    × (b.depth ≡ highest program size (length program.instrs)))
    (λ e. first_fault program size (length program.instrs) ≡ Some e.fault)

-- for a size of domains, and code that has instructions, it is the first fault
same_fault : (program : CodeView) (size : ℕ) → smallest_size ≤ size → size ≤ largest_size → (length program.instrs == 0) ≡ false
    → the_fault program size ≡ first_fault program size (length program.instrs)
same_fault program size low high full =
    let fits : is_size size ≡ true = grind (arith, nat_tests) in
    rw (fits, full) refl

judged : (program : CodeView) (size : ℕ) (verdict : Result RunBounds Unverified) → smallest_size ≤ size → size ≤ largest_size
    → (length program.instrs == 0) ≡ false → IsFound program size verdict → IfErr verdict (λ e. e.range ≡ refused_range program size e.fault)
    → IsVerdict program size verdict
judged program size (Ok b) low high full found range =
    let none = nothing_unknown program size low high full found.0 in
    (none, found.1, found.2 ∙ depth_is program size none)
judged program size (Err e) low high full found range = (same_fault program size low high full ∙ found, range)

pub verdict_is : (program : CodeView) (size : ℕ) (r : Result Survey AllocError) → smallest_size ≤ size → size ≤ largest_size
    → (length program.instrs == 0) ≡ false → IfOk r (λ s. IsFound program size s.verdict)
    → IfOk r (λ s. IfErr s.verdict (λ e. e.range ≡ refused_range program size e.fault)) → IfOk r (λ s. IsVerdict program size s.verdict)
verdict_is program size (Ok s) low high full found range = judged program size s.verdict low high full found range
verdict_is program size (Err e) low high full found range = tt

pub reach_is : (program : CodeView) (size : ℕ) (r : Result Survey AllocError) → smallest_size ≤ size → size ≤ largest_size
    → (length program.instrs == 0) ≡ false
    → IfOk r (λ s. length s.in_states.items ≡ reach program (first_fault program size (length program.instrs)))
    → IfOk r (λ s. length s.in_states.items ≡ surveyed program size (the_fault program size))
reach_is program size (Ok s) low high full reached =
    let fits : is_size size ≡ true = grind (arith, nat_tests) in
    rw (fits, full) reached
reach_is program size (Err e) low high full reached = tt
