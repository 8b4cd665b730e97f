-- Which code is refused, with which fault and at which place. (This project's own choice.)
use Rattle.std.specs.Prelude.{ℕ, zero, suc, ◌==◌, nat_le, Bool, ◌&&◌, if◌then◌else◌, Option, Some, None, length}
use Rattle.filter_code.specs.CodeView.{CodeView}
use Rattle.filter_code.specs.Limits.{smallest_size, largest_size}
use Rattle.filter_verifier.specs.declared.fault.VerifyFault.{VerifyFault}
use Rattle.filter_verifier.specs.declared.fault.VerifyFault.TheVariants as refusal
use Rattle.filter_verifier.specs.InStates.{out_state_at}
use Rattle.filter_verifier.specs.OutStateView.{OutStateView, Refused}

-- the fault of an out-state
abbrev pub refused_by : OutStateView → Option VerifyFault
refused_by (Refused why) = Some why
refused_by _ = None

-- the first, or otherwise the second
abbrev pub or_else : Option VerifyFault → Option VerifyFault → Option VerifyFault
or_else (Some why) other = Some why
or_else None other = other

-- the fault at the least index below n that has one
unfoldable pub first_fault : CodeView → ℕ → ℕ → Option VerifyFault
first_fault program size zero = None
first_fault program size (suc n) = or_else (first_fault program size n) (refused_by (out_state_at program size n))

-- the sizes that a domain may have
abbrev pub is_size : ℕ → Bool
is_size size = nat_le smallest_size size && nat_le size largest_size

-- the fault of a code in a domain of a size. The size is judged first; code without instructions is left at once.
abbrev pub the_fault : CodeView → ℕ → Option VerifyFault
the_fault program size =
    if is_size size
    then (if length program.instrs == 0
    then Some (refusal.OutsideCode 0)
    else first_fault program size (length program.instrs))
    else Some refusal.BadSize
