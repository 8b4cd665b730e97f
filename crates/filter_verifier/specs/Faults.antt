-- The codes and places of refusals, and the machine's fault that each one is about. (This project's own choice.)
use Rattle.std.specs.Prelude.{ℕ, List, codes}
use Rattle.filter_code.specs.declared.outcome.FaultKind.{FaultKind}
use Rattle.filter_code.specs.declared.outcome.FaultKind.TheVariants as fault
use Rattle.filter_verifier.specs.declared.fault.VerifyFault.{VerifyFault}
use Rattle.filter_verifier.specs.declared.fault.VerifyFault.TheVariants as refusal

-- the code of a refusal, as ASCII text, and its place, or 0
abbrev pub code_and_place : VerifyFault → List ℕ × ℕ
code_and_place (refusal.MissingOperand at) = (codes "V1", at)
code_and_place (refusal.WrongKind at) = (codes "V2", at)
code_and_place (refusal.ZeroDivisor at) = (codes "V3", at)
code_and_place (refusal.OutsideCode at) = (codes "V4", at)
code_and_place (refusal.FullStack at) = (codes "V5", at)
code_and_place (refusal.LowerMetric at) = (codes "V6", at)
code_and_place (refusal.UnknownName at) = (codes "V7", at)
code_and_place refusal.BadSize = (codes "V8", 0)
code_and_place (refusal.UnlikeDepths at) = (codes "V9", at)
code_and_place refusal.Memory = (codes "V10", 0)

abbrev pub fault_code : VerifyFault → List ℕ
fault_code why = (code_and_place why).0

abbrev pub fault_place : VerifyFault → ℕ
fault_place why = (code_and_place why).1

-- the refusal of code that may meet a fault at a place
abbrev pub refusal_of : FaultKind → ℕ → VerifyFault
refusal_of fault.MissingOperand at = refusal.MissingOperand at
refusal_of fault.WrongKind at = refusal.WrongKind at
refusal_of fault.ZeroDivisor at = refusal.ZeroDivisor at
refusal_of fault.OutsideCode at = refusal.OutsideCode at
refusal_of fault.FullStack at = refusal.FullStack at
refusal_of fault.LowerMetric at = refusal.LowerMetric at
refusal_of fault.UnknownName at = refusal.UnknownName at
