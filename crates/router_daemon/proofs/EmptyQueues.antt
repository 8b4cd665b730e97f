-- A queue that was empty stays so where nothing that is noted came after it.
use Rattle.std.proofs.Common.{◌≡◌, ◌∙◌, ◌⊎◌, sym, ap, subst, refl, ℕ, zero, suc, ◌+◌, ◌<◌, ◌≤◌, ◌==◌, true, false, Bool, ◌||◌, inl, inr, if◌then◌else◌}
use Rattle.std.proofs.Common.{Option, Some, None, List, [], ◌∷◌, ◌++◌, length, replicate, drop, append_assoc, arith}
use Rattle.std.specs.Prelude.{nat_le, nat_lt}
use Rattle.std.proofs.Math.ListN.{drop_of_length-le}
use Rattle.std.proofs.Math.Seq.{drop-nil}
use Rattle.std.proofs.lemmas.List.{length-append, length-take}
use Rattle.std.proofs.lemmas.Bool.{cases_Bool, both_ways, eq-eqb, ltb-false}
use Rattle.netchange_core.specs.declared.event.Event.{Event}
use Rattle.netchange_core.specs.declared.event.Event.TheVariants as event
use Rattle.netchange_core.specs.declared.message.Message.{Message}
use Rattle.netchange_core.specs.declared.reply.EventRefusal.TheVariants as refusal
use Rattle.netchange_core.specs.declared.reply.Reply.{Reply}
use Rattle.netchange_core.specs.declared.reply.Reply.TheVariants as reply
use Rattle.netchange_core.specs.Best.{best, distance}
use Rattle.netchange_core.specs.Calls.{carried, newcomer, opened}
use Rattle.netchange_core.specs.Next.{Answered, advertising, answered, count_changes, dequeued, down, exporting, gone, importing}
use Rattle.netchange_core.specs.Next.{is_no_neighbour, joined, last_session, next, receive, recomputed, refused, take_from, tell_changes}
use Rattle.netchange_core.specs.OpeningView.{OpeningView}
use Rattle.netchange_core.specs.World.{NeighbourView, World, change, changed, holder, is_up, neighbour_at}
use Rattle.netchange_core.proofs.Change.{changed_at}
use Rattle.netchange_core.proofs.Holders.{found_holds}
use Rattle.route_history.specs.declared.entry.Entry.{Entry}
use Rattle.route_history.specs.History.{IsLegal, IsLegalFrom, world_after, world_of}
use Rattle.router_daemon.specs.declared.waiting.Waiting.{Waiting}
use Rattle.router_daemon.specs.Noting.{AreNoted, Empties, IsEmptiedBy, IsNoted, WasEmptied, queue_of, tells_all, tells_node}
use Rattle.router_daemon.specs.Steps.{waits}

-- two parts of a history, one after the other
after_append : (w : World) (es more : List Entry) → world_after w (es ++ more) ≡ world_after (world_after w es) more
after_append w [] more = refl
after_append w (e ∷ es) more = after_append (next w e.event).world es more

legal_rest : (w : World) (es more : List Entry) → IsLegalFrom w (es ++ more) → IsLegalFrom (world_after w es) more
legal_rest w [] more legal = legal
legal_rest w (e ∷ es) more legal = legal_rest (next w e.event).world es more legal.1

-- a neighbour after another one changed
at_another : (f : NeighbourView → NeighbourView) (ns : List NeighbourView) (j k : ℕ) → (k ≡ j → ⊥) →
    neighbour_at (change j f ns) k ≡ neighbour_at ns k
at_another f [] j k other = refl
at_another f (n ∷ ns) zero zero other = absurd (other refl)
at_another f (n ∷ ns) zero (suc k) other = refl
at_another f (n ∷ ns) (suc j) zero other = refl
at_another f (n ∷ ns) (suc j) (suc k) other = at_another f ns j k (λ e. other (ap suc e))

-- a function of one neighbour that keeps an empty queue keeps that of each neighbour
keeps_at : (f : NeighbourView → NeighbourView) → ((n : NeighbourView) → n.queue ≡ [] → (f n).queue ≡ []) →
    (ns : List NeighbourView) (j k : ℕ) → (neighbour_at ns k).queue ≡ [] → (neighbour_at (change j f ns) k).queue ≡ []
keeps_at f keeps [] j k is = is
keeps_at f keeps (n ∷ ns) zero zero is = keeps n is
keeps_at f keeps (n ∷ ns) zero (suc k) is = is
keeps_at f keeps (n ∷ ns) (suc j) zero is = is
keeps_at f keeps (n ∷ ns) (suc j) (suc k) is = keeps_at f keeps ns j k is

same_count : (old new : ℕ → ℕ) (v : ℕ) → (old v == new v) ≡ true → count_changes old new (suc v) ≡ count_changes old new v
same_count old new v e = rw e refl

more_count : (old new : ℕ → ℕ) (v : ℕ) → (old v == new v) ≡ false → count_changes old new (suc v) ≡ count_changes old new v + 1
more_count old new v e = rw e refl

same_told : (o : OpeningView) (old new : ℕ → ℕ) (v : ℕ) (ns : List NeighbourView) → (old v == new v) ≡ true →
    tell_changes o old new (suc v) ns ≡ tell_changes o old new v ns
same_told o old new v ns e = rw e refl

-- where no distance changed, nobody is told anything
none_told : (o : OpeningView) (old new : ℕ → ℕ) (n : ℕ) (ns : List NeighbourView) → count_changes old new n ≡ 0 →
    tell_changes o old new n ns ≡ ns
none_told o old new zero ns none = refl
none_told o old new (suc v) ns none = elim (cases_Bool (old v == new v)) [
  | inl e ↦ same_told o old new v ns e ∙ none_told o old new v ns (sym (same_count old new v e) ∙ none)
  | inr e ↦ absurd (omega (arith, none, more_count old new v e))
]

-- an answer after which the queue of a node is still empty, unless it says that something was queued
abbrev Keeps : ℕ → Event → Answered → Type 0
Keeps k e a = tells_all a.reply ≡ false → tells_node k e a.reply ≡ false → queue_of a.world k ≡ []

pick : (P : Answered → Type 0) (c : Bool) (a b : Answered) → P a → P b → P (if c then a else b)
pick P true a b one two = one
pick P false a b one two = two

recomputed_keeps : (k : ℕ) (e : Event) (old new : World) → queue_of new k ≡ [] → Keeps k e (recomputed old new)
recomputed_keeps k e old new is all node =
    ap (λ ns. (neighbour_at ns k).queue)
    (none_told new.opening (distance old) (distance new) new.opening.size new.neighbours (omega (arith, ltb-false 0 _ all)))
    ∙ is

down_keeps : (w : World) (k s : ℕ) (o : Option ℕ) → queue_of w k ≡ [] → Keeps k (event.Down s) (down w o)
down_keeps w k s None is = λ all node. is
down_keeps w k s (Some j) is =
    recomputed_keeps k (event.Down s) w (changed w j (gone w.opening)) (keeps_at (gone w.opening) (λ n _. refl) w.neighbours j k is)

receive_keeps : (w : World) (k s v d : ℕ) (o : Option ℕ) → queue_of w k ≡ [] → Keeps k (event.Receive s v d) (receive w o v d)
receive_keeps w k s v d None is = λ all node. is
receive_keeps w k s v d (Some j) is =
    let e : Event = event.Receive s v d in
    let new = recomputed w (changed w j (advertising v d)) in
    pick (Keeps k e) (nat_le w.opening.size v) (refused w refusal.BadDest)
    (if nat_lt w.opening.size d then refused w refusal.BadDist else new) (λ all node. is)
    (pick (Keeps k e) (nat_lt w.opening.size d) (refused w refusal.BadDist) new (λ all node. is)
    (recomputed_keeps k e w (changed w j (advertising v d)) (keeps_at (advertising v d) (λ n q. q) w.neighbours j k is)))

take_keeps : (w : World) (k s most : ℕ) (o : Option ℕ) → queue_of w k ≡ [] → Keeps k (event.Take s most) (take_from w o most)
take_keeps w k s most None is = λ all node. is
take_keeps w k s most (Some j) is =
    λ all node. keeps_at (dequeued most) (λ n q. ap (drop most) q ∙ drop-nil most) w.neighbours j k is

-- what changes another node leaves this one as it is
another_keeps : (f : NeighbourView → NeighbourView) (ns : List NeighbourView) (j k : ℕ) → (j == k) ≡ false → (neighbour_at ns k).queue ≡ [] →
    (neighbour_at (change j f ns) k).queue ≡ []
another_keeps f ns j k other is =
    ap (λ (n : NeighbourView). n.queue) (at_another f ns j k (λ same. both_ways (j == k) other (eq-eqb j k (sym same)))) ∙ is

next_keeps : (w : World) (k : ℕ) (e : Event) → queue_of w k ≡ [] → Keeps k e (next w e)
next_keeps w k (event.Up j) is =
    let e : Event = event.Up j in
    let f = joined w.opening (distance w) (w.sessions + 1) in
    let new = answered (record (changed w j f) { sessions = w.sessions + 1 }) (reply.Opened (w.sessions + 1)) in
    let or_last = if w.sessions == last_session then refused w refusal.NoSession else new in
    pick (Keeps k e) (is_no_neighbour w.opening j) (refused w refusal.NoNode)
    (if is_up (neighbour_at w.neighbours j) then refused w refusal.AlreadyUp else or_last) (λ all node. is)
    (pick (Keeps k e) (is_up (neighbour_at w.neighbours j)) (refused w refusal.AlreadyUp) or_last (λ all node. is)
    (pick (Keeps k e) (w.sessions == last_session) (refused w refusal.NoSession) new (λ all node. is)
    (λ all node. another_keeps f w.neighbours j k node is)))
next_keeps w k (event.Down s) is = down_keeps w k s (holder w s) is
next_keeps w k (event.Receive s v d) is = receive_keeps w k s v d (holder w s) is
next_keeps w k (event.Take s most) is = take_keeps w k s most (holder w s) is
next_keeps w k (event.SetImport j f) is =
    let e : Event = event.SetImport j f in
    let new = recomputed w (changed w j (importing f.value)) in
    pick (Keeps k e) (is_no_neighbour w.opening j) (refused w refusal.NoNode)
    (if f.value.size == w.opening.size then new else refused w refusal.OtherSize) (λ all node. is)
    (pick (Keeps k e) (f.value.size == w.opening.size) new (refused w refusal.OtherSize)
    (recomputed_keeps k e w (changed w j (importing f.value)) (keeps_at (importing f.value) (λ n q. q) w.neighbours j k is))
    (λ all node. is))
next_keeps w k (event.SetExport j f) is =
    let e : Event = event.SetExport j f in
    let new = answered (changed w j (exporting w.opening (distance w) f.value)) (reply.Done 0) in
    pick (Keeps k e) (is_no_neighbour w.opening j) (refused w refusal.NoNode)
    (if f.value.size == w.opening.size then new else refused w refusal.OtherSize) (λ all node. is)
    (pick (Keeps k e) (f.value.size == w.opening.size) new (refused w refusal.OtherSize)
    (λ all node. another_keeps (exporting w.opening (distance w) f.value) w.neighbours j k node is)
    (λ all node. is))
next_keeps w k (event.Show v) is =
    pick (Keeps k (event.Show v)) (nat_le w.opening.size v) (refused w refusal.BadDest)
    (answered w (reply.Route (best w v).dist (best w v).via)) (λ all node. is) (λ all node. is)

-- nothing that a list of entries has was queued for a node
abbrev AreQuiet : ℕ → List Entry → Type 0
AreQuiet k es = (before rest : List Entry) (e : Entry) → es ≡ before ++ e ∷ rest →
    (tells_all e.reply ≡ false) × (tells_node k e.event e.reply ≡ false)

stays_empty : (w : World) (k : ℕ) (es : List Entry) → IsLegalFrom w es → AreQuiet k es → queue_of w k ≡ [] → queue_of (world_after w es) k ≡ []
stays_empty w k [] legal quiet is = is
stays_empty w k (e ∷ es) legal quiet is =
    let first = quiet [] es e refl in
    stays_empty (next w e.event).world k es legal.1
    (λ before rest f same. quiet (e ∷ before) rest f (ap (λ xs. e ∷ xs) same))
    (next_keeps w k e.event is (ap tells_all legal.0 ∙ first.0) (ap (tells_node k e.event) legal.0 ∙ first.1))

-- at first no queue has anything
empty_first : (n k : ℕ) (o : OpeningView) → (neighbour_at (replicate n (newcomer o)) k).queue ≡ []
empty_first zero k o = refl
empty_first (suc n) zero o = refl
empty_first (suc n) (suc k) o = empty_first n k o

-- a Take that brought fewer messages than it asked for leaves nothing
takes_all : (w : World) (k most : ℕ) (o : Option ℕ) → o ≡ Some k → k < length w.neighbours → length (carried (take_from w o most).reply) < most →
    queue_of (take_from w o most).world k ≡ []
takes_all w k most None is there fewer = absurd (cc)
takes_all w k most (Some j) is there fewer =
    let same : j ≡ k = cc in
    let q = (neighbour_at w.neighbours j).queue in
    let here : k < length w.neighbours = there in
    subst (λ i. (neighbour_at (change j (dequeued most) w.neighbours) i).queue ≡ []) same
    (ap (λ (n : NeighbourView). n.queue) (changed_at j (dequeued most) w.neighbours (subst (λ i. i < length w.neighbours) (sym same) there))
    ∙ drop_of_length-le q (omega (arith, fewer, length-take most q)))

emptied : (w : World) (k : ℕ) (e : Entry) → (next w e.event).reply ≡ e.reply → Empties w k e → queue_of (next w e.event).world k ≡ []
emptied w k e legal by =
    let fewer : length (carried (next w (event.Take by.session by.most)).reply) < by.most =
    subst (λ ev. length (carried (next w ev).reply) < by.most) by.takes (subst (λ r. length (carried r) < by.most) (sym legal) by.fewer) in
    subst (λ ev. queue_of (next w ev).world k ≡ []) (sym by.takes)
    (takes_all w k by.most (holder w by.session) by.of (found_holds w.neighbours by.session k by.of).0 fewer)

not_true : (b : Bool) → (b ≡ true → ⊥) → b ≡ false
not_true true never = absurd (never refl)
not_true false never = refl

-- entries from a position on that are all noted, and none of them after that position
quiet_from : (k changed : ℕ) (w : Waiting) (at : ℕ) (e : Entry) → changed ≤ at → w.queued ≤ at → IsNoted k changed w at e →
    (tells_all e.reply ≡ false) × (tells_node k e.event e.reply ≡ false)
quiet_from k changed w at e few less noted = (
  not_true (tells_all e.reply) (λ is. absurd (omega (arith, few, noted.for_all is))),
  not_true (tells_node k e.event e.reply) (λ is. absurd (omega (arith, less, noted.for_node is))),
)

or_false : (a b : Bool) → (a || b) ≡ false → (a ≡ false) × (b ≡ false)
or_false true b is = absurd (cc)
or_false false b is = (refl, is)

split_at : (before : List Entry) (last : Entry) (b : List Entry) (e : Entry) (r : List Entry) →
    before ++ last ∷ (b ++ e ∷ r) ≡ (before ++ last ∷ b) ++ e ∷ r
split_at before last b e r = sym (append_assoc before (last ∷ b) (e ∷ r))

pub never_overlooked : (opening : OpeningView) (es : List Entry) (k told : ℕ) (w : Waiting) → IsLegal opening es → AreNoted k told w es →
    WasEmptied opening k es w.emptied → waits told w ≡ false → queue_of (world_of opening es) k ≡ []
never_overlooked opening es k told w legal noted (inl none) none_waits =
    let both = or_false (nat_lt w.emptied w.queued) (nat_lt w.emptied told) none_waits in
    let less : w.queued ≤ w.emptied = ltb-false w.emptied w.queued both.0 in
    let few : told ≤ w.emptied = ltb-false w.emptied told both.1 in
    stays_empty (opened opening) k es legal
    (λ before rest e is. quiet_from k told w (length before) e (omega (arith, few, none)) (omega (arith, less, none)) (noted before rest e is))
    (empty_first opening.size k opening)
never_overlooked opening es k told w legal noted (inr by) none_waits =
    let both = or_false (nat_lt w.emptied w.queued) (nat_lt w.emptied told) none_waits in
    let less : w.queued ≤ w.emptied = ltb-false w.emptied w.queued both.0 in
    let few : told ≤ w.emptied = ltb-false w.emptied told both.1 in
    let later = legal_rest (opened opening) by.before (by.last ∷ by.rest) (subst (λ xs. IsLegal opening xs) by.is legal) in
    let long : (b : List Entry) → length by.before + 1 ≤ length (by.before ++ by.last ∷ b) =
    λ b. omega (arith, length-append by.before (by.last ∷ b)) in
    let quiet : AreQuiet k by.rest = λ b r e is.
    let at = by.before ++ by.last ∷ b in
    quiet_from k told w (length at) e (omega (arith, few, long b, by.count_is)) (omega (arith, less, long b, by.count_is))
    (noted at r e (by.is ∙ ap (λ xs. by.before ++ by.last ∷ xs) is ∙ split_at by.before by.last b e r)) in
    ap (λ xs. queue_of (world_of opening xs) k) by.is
    ∙ ap (λ v. queue_of v k) (after_append (opened opening) by.before (by.last ∷ by.rest))
    ∙ stays_empty (next (world_of opening by.before) by.last.event).world k by.rest later.1 quiet
    (emptied (world_of opening by.before) k by.last later.0 by.empties)
