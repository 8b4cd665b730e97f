-- A line whose reading needs memory gives no size to a domain.
use Rattle.std.proofs.Common.{◌≡◌, ℕ, Option, None, Result, Ok, Err, refl}
use Rattle.std.proofs.lemmas.Bool.{false≢true}
use Rattle.domain_cmds.specs.CommandView.{CommandView, Anew, Ask, Code, Domain, Json, Link, Load, Mark, Prefix, Use}
use Rattle.domain_cmds.specs.Commands.{Read}
use Rattle.domain_cmds.specs.Readings.{IsReadIn, is_code}
use Rattle.domain_cmds.specs.declared.command.DomainCommand.{DomainCommand}
use Rattle.operator_cmds.specs.Readings.{IsFault}
use Rattle.operator_cmds.specs.declared.fault.CommandFault.{CommandFault}
use Rattle.operator_cmds.specs.declared.fault.CommandFault.TheVariants as fault
use Rattle.ncroute.specs.DomainLoading.{size_read}

not_both : {command : CommandView} {why : CommandFault} (read : Read) → read ≡ Ok command → read ≡ Err why → ⊥
not_both read is isnt = cc

is_domain : (why : CommandFault) (size : ℕ) → IsFault is_code why (Ok (Domain size)) → ⊥
is_domain fault.Words size is = not_both (Ok (Domain size)) refl is
is_domain fault.Numbers size is = not_both (Ok (Domain size)) refl is
is_domain fault.Hexadecimal size is = not_both (Ok (Domain size)) refl is
is_domain fault.TooLong size is = not_both (Ok (Domain size)) refl is
is_domain fault.Prefix size is = not_both (Ok (Domain size)) refl is
is_domain fault.Memory size is = false≢true is

none_given : (why : CommandFault) (read : Read) → IsFault is_code why read → size_read read ≡ None
none_given why (Ok (Domain size)) is = absurd (is_domain why size is)
none_given why (Ok (Prefix node prefix)) is = refl
none_given why (Ok (Load name text)) is = refl
none_given why (Ok (Code name bytes)) is = refl
none_given why (Ok (Link linked u w)) is = refl
none_given why (Ok (Use way u w name)) is = refl
none_given why (Ok (Anew u)) is = refl
none_given why (Ok Mark) is = refl
none_given why (Ok Json) is = refl
none_given why (Ok (Ask question)) is = refl
none_given why (Err other) is = refl

-- so it is where a reading of it ends in a fault
pub size_of_fault : (r : Result DomainCommand CommandFault) (why : CommandFault) (read : Read) → r ≡ Err why → IsReadIn r read → size_read read ≡ None
size_of_fault (Ok command) why read is h = cc
size_of_fault (Err other) why read is h = none_given other read h
