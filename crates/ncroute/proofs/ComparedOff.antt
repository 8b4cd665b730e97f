-- What was written where a fault ended a comparison of two domains: nothing before it was written, or a front of it.
use Rattle.std.proofs.Common.{◌≡◌, ℕ, List, [], Option, inl, inr, refl, subst, sym}
use Rattle.line_protocol.specs.Runs.{AppendsFront}
use Rattle.line_protocol.specs.declared.faults.StreamFault.{StreamFault}
use Rattle.report_formats.specs.declared.format.Format.{Format}
use Rattle.domain_routes.specs.PlanView.{PlanView}
use Rattle.domain_cmds.specs.Left.{ComparesOff}
use Rattle.ncroute.specs.Domains.{StopsDomains}
use Rattle.program_console.proofs.Unreported.{none_appended}

pub nothing_compared : (format : Format) (held holds : Option (List ℕ)) → holds ≡ held → StopsDomains format held holds
unfolding StopsDomains
nothing_compared format held holds same =
    inl (subst (λ (now : Option (List ℕ)). AppendsFront held now []) (sym same) ([], [], refl, none_appended held))

pub compared_off : (fault : StreamFault) (format : Format) (old new : PlanView) (held holds : Option (List ℕ))
    → ComparesOff fault format old new held holds → StopsDomains format held holds
unfolding StopsDomains
compared_off fault format old new held holds (inl off) = inl ([], [], refl, off.1)
compared_off fault format old new held holds (inr off) = inr (old, new, off.0, off.1, off.3)
