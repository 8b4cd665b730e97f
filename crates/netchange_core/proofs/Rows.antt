-- Worked rows: the definitions compute the worlds and replies that are wanted of them.
use Rattle.std.proofs.Common.{◌≡◌, ℕ, List, [], ◌∷◌, replicate, refl}
use Rattle.filter_code.specs.declared.instruction.Instr.TheVariants as instr
use Rattle.filter_code.specs.Machine.{after}
use Rattle.filter_verifier.specs.VerifiedView.{VerifiedView}
use Rattle.netchange_core.specs.declared.event.Event.{Event}
use Rattle.netchange_core.specs.declared.event.Event.TheVariants as event
use Rattle.netchange_core.specs.declared.message.Message.{Message}
use Rattle.netchange_core.specs.declared.reply.EventRefusal.TheVariants as refusal
use Rattle.netchange_core.specs.declared.reply.Reply.{Reply}
use Rattle.netchange_core.specs.declared.reply.Reply.TheVariants as reply
use Rattle.netchange_core.specs.declared.reply.Via.TheVariants.{Local, Node, Nowhere}
use Rattle.netchange_core.specs.Best.{best_by}
use Rattle.netchange_core.specs.Calls.{opened}
use Rattle.netchange_core.specs.Next.{next, set_import}
use Rattle.netchange_core.specs.OpeningView.{OpeningView}
use Rattle.netchange_core.specs.FilteredDistance.{filtered_distance}
use Rattle.netchange_core.specs.World.{World}

-- node 0 of four
abbrev node_0 : OpeningView
node_0 = record { size = 4; me = 0; prefixes = replicate 4 [] }

-- the replies to events, one after another
abbrev replies_from : World → List Event → List Reply
replies_from w [] = []
replies_from w (e ∷ es) = (next w e).reply ∷ replies_from (next w e).world es

abbrev replies : List Event → List Reply
replies es = replies_from (opened node_0) es

abbrev told : ℕ → ℕ → Message
told v d = record { dest = v; dist = d }

-- what a neighbour is told when it joins the router that reaches no other node yet
abbrev nothing_reached : List Message
nothing_reached = told 0 0 ∷ (told 1 4 ∷ (told 2 4 ∷ (told 3 4 ∷ [])))

-- a neighbour joins, is told all distances, and nothing twice
pub joins : replies (event.Up 1 ∷ (event.Take 1 9 ∷ (event.Take 1 9 ∷ [])))
    ≡ reply.Opened 1 ∷ (reply.Messages nothing_reached ∷ (reply.Messages [] ∷ []))
unfolding best_by filtered_distance
joins = refl

-- a neighbour that is near is the next hop; what it reaches at distance 3 is out of reach here
pub receives : replies (event.Up 1 ∷ (event.Take 1 9 ∷ (event.Receive 1 1 0 ∷ (event.Show 1 ∷ (event.Take 1 9
    ∷ (event.Receive 1 2 3 ∷ (event.Show 2 ∷ [])))))))
    ≡ reply.Opened 1 ∷ (reply.Messages nothing_reached ∷ (reply.Done 1 ∷ (reply.Route 1 (Node 1)
    ∷ (reply.Messages (told 1 1 ∷ []) ∷ (reply.Done 0 ∷ (reply.Route 4 Nowhere ∷ []))))))
unfolding best_by filtered_distance
receives = refl

-- of two neighbours that are as near the least is the next hop, and a changed next hop alone is not told
pub ties : replies (event.Up 1 ∷ (event.Up 2 ∷ (event.Receive 2 3 1 ∷ (event.Show 3 ∷ (event.Receive 1 3 1
    ∷ (event.Show 3 ∷ (event.Take 1 9 ∷ [])))))))
    ≡ reply.Opened 1 ∷ (reply.Opened 2 ∷ (reply.Done 1 ∷ (reply.Route 2 (Node 2) ∷ (reply.Done 0
    ∷ (reply.Route 2 (Node 1)
    ∷ (reply.Messages (told 0 0 ∷ (told 1 4 ∷ (told 2 4 ∷ (told 3 4 ∷ (told 3 2 ∷ []))))) ∷ []))))))
unfolding best_by filtered_distance
ties = refl

-- refusals, and a session that is over
pub refuses : replies (event.Up 1 ∷ (event.Receive 1 9 0 ∷ (event.Receive 1 2 5 ∷ (event.Up 1 ∷ (event.Down 1
    ∷ (event.Receive 1 1 0 ∷ (event.Up 1 ∷ (event.Up 0 ∷ (event.Receive 1 1 0 ∷ [])))))))))
    ≡ reply.Opened 1 ∷ (reply.Refused refusal.BadDest ∷ (reply.Refused refusal.BadDist
    ∷ (reply.Refused refusal.AlreadyUp ∷ (reply.Done 0 ∷ (reply.Refused refusal.Stale ∷ (reply.Opened 2
    ∷ (reply.Refused refusal.NoNode ∷ (reply.Refused refusal.Stale ∷ []))))))))
unfolding best_by filtered_distance
refuses = refl

-- the router itself, and a node out of reach
pub shows : replies (event.Up 1 ∷ (event.Show 0 ∷ (event.Show 1 ∷ (event.Show 4 ∷ []))))
    ≡ reply.Opened 1 ∷ (reply.Route 0 Local ∷ (reply.Route 4 Nowhere ∷ (reply.Refused refusal.BadDest ∷ [])))
unfolding best_by filtered_distance
shows = refl

-- The last session that there can be is opened, and none behind it. A neighbour that is up, and a number of no neighbour, are refused as such even then.
pub last_session_opens : replies_from (record (opened node_0) { sessions = 4294967294 })
    (event.Up 1 ∷ (event.Up 2 ∷ (event.Up 1 ∷ (event.Up 0 ∷ (event.Take 4294967295 1 ∷ [])))))
    ≡ reply.Opened 4294967295 ∷ (reply.Refused refusal.NoSession ∷ (reply.Refused refusal.AlreadyUp
    ∷ (reply.Refused refusal.NoNode ∷ (reply.Messages (told 0 0 ∷ []) ∷ []))))
unfolding best_by filtered_distance
last_session_opens = refl

-- a filter that rejects each route
abbrev none_passes : VerifiedView
none_passes = record { program = record { locals = 0; sets = []; int_sets = []; instrs = instr.Reject ∷ [] }; size = 4 }

-- A neighbour told a distance. A filter of what it tells is set: it rejects what was told before, which is told on, and what is told later.
abbrev filtered : World
filtered = (set_import (next (next (opened node_0) (event.Up 1)).world (event.Receive 1 2 1)).world 1 none_passes).world

pub filter_rejects : replies_from filtered (event.Show 2 ∷ (event.Receive 1 3 1 ∷ (event.Show 3 ∷ (event.Take 1 9 ∷ []))))
    ≡ reply.Route 4 Nowhere ∷ (reply.Done 0 ∷ (reply.Route 4 Nowhere
    ∷ (reply.Messages (told 0 0 ∷ (told 1 4 ∷ (told 2 4 ∷ (told 3 4 ∷ (told 2 2 ∷ (told 2 4 ∷ [])))))) ∷ [])))
unfolding best_by filtered_distance after
filter_rejects = refl
