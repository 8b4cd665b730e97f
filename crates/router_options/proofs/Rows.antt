-- Worked rows of the definitions, computed.
use Rattle.std.proofs.Common.{◌≡◌, true, false, [], ◌∷◌, Some, None, refl}
use Rattle.std.specs.Prelude.{codes}
use Rattle.prefix_patterns.specs.Number.{decimal_value}
use Rattle.prefix_patterns.specs.Reading.{number_in}
use Rattle.router_options.specs.Forms.{is_link, is_use, node_in}
use Rattle.router_options.specs.PlanView.{has_prefix}
use Rattle.router_options.specs.Plans.{IsNoMember, IsNoNeighbour, RefusesNumbers, are_numbers, hold_or, is_queue, queue_or}
use Rattle.router_options.specs.declared.fault.NodeFault.TheVariants.{Outside, Itself}
use Rattle.router_options.specs.declared.fault.NumberFault.TheVariants as number

-- ---- the numbers

largest_domain : are_numbers (record { size = 250; me = 249; limit = Some 1000000; queue = Some 250; segments = Some 1; retry = Some 1; hold = Some 3600 }) true ≡ true
largest_domain = refl

-- the size is wrong, and so are all others: it is told
size_first : RefusesNumbers (record { size = 1; me = 9; limit = Some 0; queue = Some 0; segments = Some 0; retry = Some 0; hold = None }) false (number.Size 1)
size_first = (refl, refl)

node_next : RefusesNumbers (record { size = 4; me = 9; limit = Some 0; queue = Some 0; segments = Some 0; retry = Some 0; hold = None }) false (number.Node 9 3)
node_next = (refl, refl, (refl, refl))

room_next : RefusesNumbers (record { size = 4; me = 3; limit = Some 2047; queue = Some 0; segments = Some 0; retry = Some 0; hold = None }) true (number.Limit 2047)
room_next = (refl, refl, refl)

much_room : RefusesNumbers (record { size = 4; me = 3; limit = Some 1000001; queue = None; segments = None; retry = None; hold = None }) true (number.Limit 1000001)
much_room = (refl, refl, refl)

-- as many messages may wait as the domain has nodes, and not one less; 65,536 where nothing is said
queue_next : RefusesNumbers (record { size = 4; me = 3; limit = None; queue = Some 3; segments = Some 0; retry = Some 0; hold = None }) false (number.Queue 3 4)
queue_next = (refl, refl, refl, refl)

least_queue : is_queue 4 4 ≡ true
least_queue = refl

usual_queue : queue_or None ≡ 65536
usual_queue = refl

segments_next : RefusesNumbers (record { size = 4; me = 3; limit = None; queue = None; segments = Some 0; retry = Some 0; hold = None }) true number.Segments
segments_next = (refl, refl)

-- a history that is not saved has no segments
no_folder : RefusesNumbers (record { size = 4; me = 3; limit = None; queue = None; segments = Some 2; retry = Some 0; hold = None }) false (number.Unsaved 2)
no_folder = (refl, refl, refl, refl)

no_wait : RefusesNumbers (record { size = 4; me = 3; limit = None; queue = None; segments = Some 2; retry = Some 0; hold = None }) true number.Retry
no_wait = (refl, refl)

-- a router may be silent for an hour at most; 0 says for any time, and 9 seconds are meant where nothing is said
long_silence : RefusesNumbers (record { size = 4; me = 3; limit = None; queue = None; segments = None; retry = Some 1; hold = Some 3601 }) false
    (number.Hold 3601)
long_silence = (refl, refl, refl)

any_silence : are_numbers (record { size = 4; me = 3; limit = None; queue = None; segments = None; retry = None; hold = Some 0 }) false ≡ true
any_silence = refl

usual_hold : hold_or None ≡ 9
usual_hold = refl

-- ---- the options

link : is_link (codes "9=a,b") ≡ true
unfolding number_in decimal_value
link = refl

link_node : node_in (codes "9=a,b") ≡ Some 9
unfolding number_in decimal_value
link_node = refl

-- a file without a name
no_output : is_link (codes "9=a,") ≡ false
unfolding number_in decimal_value
no_output = refl

-- a name does not begin with a digit
no_name : is_use (codes "1=2f") ≡ false
unfolding number_in decimal_value
no_name = refl

-- node 4 of a domain of four nodes, and the router itself
outside : IsNoMember (record { size = 4; me = 0; prefixes = [] }) 4 (Outside 3)
outside = (refl, refl)

itself : IsNoNeighbour (record { size = 4; me = 2; prefixes = [] }) 2 Itself
itself = refl

-- the prefixes of nodes 5 and 2 were given, and that of node 3 was not
given : has_prefix (5 ∷ 2 ∷ []) 2 ≡ true
given = refl

not_given : has_prefix (5 ∷ 2 ∷ []) 3 ≡ false
not_given = refl
