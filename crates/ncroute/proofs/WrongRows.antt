-- Worked rows: what people are told of wrong words of `router`.
use Rattle.std.proofs.Common.{◌≡◌, [], ◌∷◌, ◌++◌, refl}
use Rattle.std.specs.Fmt.{digits}
use Rattle.std.specs.Prelude.{codes}
use Rattle.router_files.specs.declared.options.RouterOption.TheVariants as said
use Rattle.router_options.specs.declared.fault.NodeFault.TheVariants.{Outside, Itself}
use Rattle.router_options.specs.declared.fault.NumberFault.TheVariants as number
use Rattle.router_options.specs.declared.fault.OptionFault.TheVariants as option
use Rattle.ncroute.specs.WrongWords.{option_fault_words, unplaced_line}
use Rattle.ncroute.specs.declared.planning.OptionKind.TheVariants as kind
use Rattle.ncroute.specs.declared.planning.PlanFault.TheVariants.{Missing, WrongNumber}

size : unplaced_line (WrongNumber (number.Size 251)) ≡ codes "error: invalid value '251' for '--size': a domain has 2 to 250 nodes" ++ 10 ∷ []
unfolding digits
size = refl

node : unplaced_line (WrongNumber (number.Node 9 3))
    ≡ codes "error: invalid value '9' for '--node': node 9 is not in the domain, whose nodes are 0 to 3" ++ 10 ∷ []
unfolding digits
node = refl

queue : unplaced_line (WrongNumber (number.Queue 49 50))
    ≡ codes "error: invalid value '49' for '--queue': 50 messages wait for each neighbour that comes up" ++ 10 ∷ []
unfolding digits
queue = refl

unsaved : unplaced_line (WrongNumber (number.Unsaved 3))
    ≡ codes "error: invalid value '3' for '--segments': no --save gives a folder to keep segments in" ++ 10 ∷ []
unfolding digits
unsaved = refl

wait : unplaced_line (WrongNumber number.Retry)
    ≡ codes "error: invalid value '0' for '--retry': a link is opened again after 1 second or more" ++ 10 ∷ []
unfolding digits
wait = refl

hold : unplaced_line (WrongNumber (number.Hold 3601)) ≡ codes "error: invalid value '3601' for '--hold': a HOLD is 3600 seconds or fewer" ++ 10 ∷ []
unfolding digits
hold = refl

outside : option_fault_words kind.Link (option.Node 9 (Outside 3)) ≡ codes "node 9 is not in the domain, whose nodes are 0 to 3"
unfolding digits
outside = refl

itself : option_fault_words kind.Import (option.Node 3 Itself) ≡ codes "node 3 is this router itself"
unfolding digits
itself = refl

twice : option_fault_words kind.Prefix (option.Twice 17) ≡ codes "an earlier --prefix names node 17 too"
unfolding digits
twice = refl

missing : unplaced_line (Missing said.Size) ≡ codes "error: --size N is missing" ++ 10 ∷ []
missing = refl
