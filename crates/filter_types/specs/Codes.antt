-- The codes, places and words of the faults of names and kinds. (This project's own choice.)
use Rattle.std.specs.Prelude.{ℕ, List, codes}
use Rattle.filter_syntax.specs.declared.tree.decl.Kind.{Kind}
use Rattle.filter_syntax.specs.declared.tree.decl.Kind.TheVariants as kind
use Rattle.filter_types.specs.declared.fault.TypeFault.{TypeFault}
use Rattle.filter_types.specs.declared.fault.TypeFault.TheVariants as fault
use Rattle.filter_types.specs.declared.fault.ExpectedKind.{ExpectedKind}
use Rattle.filter_types.specs.declared.fault.ExpectedKind.TheVariants as expected

-- the code that a program answers, and the place; refused memory has none, which is 0
abbrev pub code_and_place : TypeFault → List ℕ × ℕ
code_and_place (fault.UnknownName at) = (codes "Y1", at)
code_and_place (fault.DeclaredTwice at) = (codes "Y2", at)
code_and_place (fault.WrongKind at expected found) = (codes "Y3", at)
code_and_place (fault.NetAssigned at) = (codes "Y4", at)
code_and_place (fault.TooManyVariables at) = (codes "Y5", at)
code_and_place fault.Memory = (codes "Y6", 0)
code_and_place (fault.SharedLabel at) = (codes "Y7", at)

abbrev pub fault_code : TypeFault → List ℕ
fault_code why = (code_and_place why).0

abbrev pub fault_place : TypeFault → ℕ
fault_place why = (code_and_place why).1

-- what a place takes that takes operands of one kind
abbrev pub expected_of : Kind → ExpectedKind
expected_of kind.Int = expected.Int
expected_of kind.Bool = expected.Bool
expected_of kind.Ip = expected.Ip
expected_of kind.Prefix = expected.Prefix
