-- Each world that is reached is consistent.
use Rattle.std.proofs.Common.{◌≡◌, ap, refl, ℕ, zero, suc, ◌+◌, ◌<◌, ◌≤◌, ◌∙◌, ◌⊎◌, sym, subst, inl, inr, Option, Some, None, false}
use Rattle.std.proofs.Common.{◌==◌, if◌then◌else◌, nat_eq, nat_le, nat_lt, List, [], ◌∷◌, ◌++◌, length, map, set, drop, All, arith}
use Rattle.std.proofs.Common.{get_or-set_same, get_or-set_other, le_refl}
use Rattle.std.proofs.lemmas.Bool.{cases_eq, cases_lt, cond_both, eqb-false, eqb-true, leb-false, ltb-false, or_parts}
use Rattle.std.proofs.lemmas.List.{drop_all, get_or-replicate, length-map, length-replicate}
use Rattle.std.proofs.lemmas.List.Elements.{All-append, All-drop, All-map, All-nil, All-push, All-replicate, All-set, All-weaker}
use Rattle.std.proofs.lemmas.Option.{none-some, same_Some}
use Rattle.filter_code.specs.declared.outcome.Outcome.{Outcome}
use Rattle.filter_code.specs.declared.outcome.Outcome.TheVariants as outcome
use Rattle.filter_code.specs.CodeView.{CodeView}
use Rattle.filter_code.specs.Machine.{outcome_of}
use Rattle.filter_code.specs.RouteView.{RouteView}
use Rattle.filter_code.proofs.Metrics.{accepted_in_range}
use Rattle.filter_code.proofs.Runs.{outcome_exists}
use Rattle.filter_machine.specs.Verdicts.{announced}
use Rattle.filter_verifier.specs.VerifiedView.{VerifiedView}
use Rattle.netchange_core.specs.declared.event.Event.{Event}
use Rattle.netchange_core.specs.declared.event.Event.TheVariants as event
use Rattle.netchange_core.specs.declared.reply.EventRefusal.TheVariants as refusal
use Rattle.netchange_core.specs.declared.reply.Reply.TheVariants as reply
use Rattle.netchange_core.specs.Best.{best, distance, neighbour_distances}
use Rattle.netchange_core.specs.Calls.{newcomer, opened}
use Rattle.netchange_core.specs.Consistent.{AreConsistentNeighbours, AreSessions, IsConsistent, IsConsistentNeighbour, IsMessage, IsOwn}
use Rattle.netchange_core.specs.FilteredDistance.{distance_given, filtered_distance, prefix_of}
use Rattle.netchange_core.specs.Next.{advertising, all_messages, answered, dequeued, down, exporting, gone, importing, is_no_neighbour}
use Rattle.netchange_core.specs.Next.{joined, last_session, message_of, next, receive, recomputed, refused, set_export, set_import}
use Rattle.netchange_core.specs.Next.{show, take_from, tell, tell_changes, up}
use Rattle.netchange_core.specs.OpeningView.{IsOpening, OpeningView}
use Rattle.netchange_core.specs.Present.{session_in, sessions_of}
use Rattle.netchange_core.specs.World.{NeighbourView, World, change, changed, holder, is_up, neighbour_at, nobody}
use Rattle.netchange_core.proofs.Change.{change_set}
use Rattle.netchange_core.proofs.Good.{advertising_good, dequeued_good, exporting_good, gone_good, importing_good, joined_good}
use Rattle.netchange_core.proofs.Goes.{neighbour_below}
use Rattle.netchange_core.proofs.Holders.{found_holds, some_none}
use Rattle.netchange_core.proofs.Inserted.{present_sessions}
use Rattle.netchange_core.proofs.Opened.{best_within, new_neighbour}
use Rattle.netchange_core.proofs.Presence.{none_present, sessions_changed, sessions_kept, sessions_told}

-- no filter makes a distance more than the size
given_within : (program : CodeView) (route : RouteView) → route.metric ≤ route.size → (end : Outcome) →
    outcome_of program route ≡ end → distance_given route.size end ≤ route.size
given_within program route limit (outcome.Accept d) h =
    let o = outcome_exists program route in
    (accepted_in_range program route (o.steps) (outcome_of program route) limit (o.ends) d h).1
given_within program route limit outcome.Reject h = le_refl route.size
given_within program route limit (outcome.Fault kind at) h = le_refl route.size

filtered_within : (o : OpeningView) (f : Option VerifiedView) (v d : ℕ) → d ≤ o.size → filtered_distance o f v d ≤ o.size
unfolding filtered_distance
filtered_within o None v d limit = limit
filtered_within o (Some f) v d limit =
    let route = announced (prefix_of o v) d o.size in
    cond_both (nat_eq d o.size) o.size (distance_given o.size (outcome_of f.program route)) (λ x. x ≤ o.size)
    (λ _. le_refl o.size) (λ _. given_within f.program route limit (outcome_of f.program route) refl)

-- messages that are queued
queued_message : (o : OpeningView) (f : Option VerifiedView) (v d : ℕ) → v < o.size → d ≤ o.size →
    IsMessage o.size (message_of o f v d)
queued_message o f v d h limit = record { dest = h; dist = filtered_within o f v d limit }

queued_messages : (o : OpeningView) (f : Option VerifiedView) (dist : ℕ → ℕ) → ((v : ℕ) → dist v ≤ o.size) → (n : ℕ) → n ≤ o.size →
    All (IsMessage o.size) (all_messages o f dist n)
queued_messages o f dist limit zero h = All-nil (IsMessage o.size)
queued_messages o f dist limit (suc n) h =
    All-push (IsMessage o.size) (all_messages o f dist n) (message_of o f n (dist n))
    (queued_messages o f dist limit n (omega arith)) (queued_message o f n (dist n) (omega arith) (limit n))

-- what becomes of one neighbour
module _ (o : OpeningView) (n : NeighbourView) where
  told_consistent : (v d : ℕ) → v < o.size → d ≤ o.size → IsConsistentNeighbour o n → IsConsistentNeighbour o (tell o v d n)
  told_consistent v d h limit p =
      cond_both (is_up n) (record n { queue = n.queue ++ message_of o n.exports v d ∷ [] }) n (IsConsistentNeighbour o)
      (λ is. record {
        neighbour = record {
          one_a_node = p.neighbour.one_a_node;
          reachable = p.neighbour.reachable;
          imports = p.neighbour.imports;
          exports = p.neighbour.exports;
        };
        messages = All-push (IsMessage o.size) n.queue (message_of o n.exports v d) p.messages (queued_message o n.exports v d h limit);
        down = λ none. absurd (some_none n.session is none);
      }) (λ _. p)

  told_own : (v d : ℕ) → IsOwn n → IsOwn (tell o v d n)
  told_own v d p =
      cond_both (is_up n) (record n { queue = n.queue ++ message_of o n.exports v d ∷ [] }) n IsOwn
      (λ _. record { session = p.session; imports = p.imports; exports = p.exports }) (λ _. p)

  gone_consistent : IsConsistentNeighbour o n → IsConsistentNeighbour o (gone o n)
  gone_consistent p = record {
    neighbour = gone_good o n p.neighbour;
    messages = All-nil (IsMessage o.size);
    down = λ _. record { advertised = refl; queue = refl };
  }

  joined_consistent : (dist : ℕ → ℕ) (s : ℕ) → ((v : ℕ) → dist v ≤ o.size) → IsConsistentNeighbour o n →
      IsConsistentNeighbour o (joined o dist s n)
  joined_consistent dist s limit p = record {
    neighbour = joined_good o dist s n p.neighbour;
    messages = queued_messages o n.exports dist limit o.size (le_refl o.size);
    down = λ none. absurd (none-some s (sym none));
  }

  advertising_consistent : (v d s : ℕ) → v < o.size → d ≤ o.size → n.session ≡ Some s → IsConsistentNeighbour o n →
      IsConsistentNeighbour o (advertising v d n)
  advertising_consistent v d s h limit holds p = record {
    neighbour = advertising_good o.size v d n h limit p.neighbour;
    messages = p.messages;
    down = λ none. absurd (none-some s (sym none ∙ holds));
  }

  dequeued_consistent : (max : ℕ) → IsConsistentNeighbour o n → IsConsistentNeighbour o (dequeued max n)
  dequeued_consistent max p = record {
    neighbour = dequeued_good o.size max n p.neighbour;
    messages = All-drop (IsMessage o.size) max n.queue p.messages;
    down = λ none. record {
      advertised = (p.down none).advertised;
      queue = ap (λ q. drop max q) (p.down none).queue ∙ drop_all max [] (omega arith);
    };
  }

  importing_consistent : (f : VerifiedView) → f.size ≡ o.size → IsConsistentNeighbour o n → IsConsistentNeighbour o (importing f n)
  importing_consistent f fits p = record {
    neighbour = importing_good o.size f n fits p.neighbour;
    messages = p.messages;
    down = λ none. record { advertised = (p.down none).advertised; queue = (p.down none).queue };
  }

  exporting_consistent : (dist : ℕ → ℕ) (f : VerifiedView) → ((v : ℕ) → dist v ≤ o.size) → f.size ≡ o.size →
      IsConsistentNeighbour o n → IsConsistentNeighbour o (exporting o dist f n)
  exporting_consistent dist f limit fits p =
      let good = exporting_good o dist f n fits p.neighbour in
      let told = all_messages o (Some f) dist o.size in
      cond_both (is_up n) (n.queue ++ told) n.queue (λ q. IsConsistentNeighbour o (record n { exports = Some f; queue = q }))
      (λ is. record {
        neighbour = record { one_a_node = good.one_a_node; reachable = good.reachable; imports = good.imports; exports = good.exports };
        messages = All-append (IsMessage o.size) n.queue told p.messages
            (queued_messages o (Some f) dist limit o.size (le_refl o.size));
        down = λ none. absurd (some_none n.session is none);
      })
      (λ _. record {
        neighbour = record { one_a_node = good.one_a_node; reachable = good.reachable; imports = good.imports; exports = good.exports };
        messages = p.messages;
        down = λ none. record { advertised = (p.down none).advertised; queue = (p.down none).queue };
      })

-- one neighbour changes
change_past : (k : ℕ) (f : NeighbourView → NeighbourView) (ns : List NeighbourView) → length ns ≤ k → change k f ns ≡ ns
change_past k f [] h = refl
change_past zero f (n ∷ ns) h = absurd (omega arith)
change_past (suc k) f (n ∷ ns) h = ap (λ ms. n ∷ ms) (change_past k f ns (omega arith))

change_length : (k : ℕ) (f : NeighbourView → NeighbourView) (ns : List NeighbourView) → length (change k f ns) ≡ length ns
change_length k f [] = refl
change_length zero f (n ∷ ns) = refl
change_length (suc k) f (n ∷ ns) = ap suc (change_length k f ns)

change_own : (k j : ℕ) (f : NeighbourView → NeighbourView) (ns : List NeighbourView) →
    ((n : NeighbourView) → j ≡ k → IsOwn n → IsOwn (f n)) → IsOwn (neighbour_at ns j) → IsOwn (neighbour_at (change k f ns) j)
change_own k j f [] keep p = p
change_own zero zero f (n ∷ ns) keep p = keep n refl p
change_own zero (suc j) f (n ∷ ns) keep p = p
change_own (suc k) zero f (n ∷ ns) keep p = p
change_own (suc k) (suc j) f (n ∷ ns) keep p = change_own k j f ns (λ m e q. keep m (ap suc e) q) p

map_own : (f : NeighbourView → NeighbourView) → ((n : NeighbourView) → IsOwn n → IsOwn (f n)) → (ns : List NeighbourView) (k : ℕ) →
    IsOwn (neighbour_at ns k) → IsOwn (neighbour_at (map f ns) k)
map_own f keep [] k p = p
map_own f keep (n ∷ ns) zero p = keep n p
map_own f keep (n ∷ ns) (suc k) p = map_own f keep ns k p

change_consistent : (o : OpeningView) (k : ℕ) (f : NeighbourView → NeighbourView) (ns : List NeighbourView) →
    ((n : NeighbourView) → o.me ≡ k → IsOwn n → IsOwn (f n)) →
    (IsConsistentNeighbour o (neighbour_at ns k) → IsConsistentNeighbour o (f (neighbour_at ns k))) →
    AreConsistentNeighbours o ns → AreConsistentNeighbours o (change k f ns)
change_consistent o k f ns keep good p = record {
  one_a_node = change_length k f ns ∙ p.one_a_node;
  own = change_own k o.me f ns keep p.own;
  each = elim (cases_lt k (length ns)) [
    | inl h ↦
        subst (All (IsConsistentNeighbour o)) (sym (change_set k f ns h))
        (All-set (IsConsistentNeighbour o) ns k (f (neighbour_at ns k)) (good (p.each k nobody h)) p.each)
    | inr past ↦ subst (All (IsConsistentNeighbour o)) (sym (change_past k f ns past)) p.each
  ];
}

-- distances are told
tell_consistent : (o : OpeningView) (v d : ℕ) (ns : List NeighbourView) → v < o.size → d ≤ o.size →
    AreConsistentNeighbours o ns → AreConsistentNeighbours o (map (tell o v d) ns)
tell_consistent o v d ns h limit p = record {
  one_a_node = length-map ns (tell o v d) ∙ p.one_a_node;
  own = map_own (tell o v d) (λ n q. told_own o n v d q) ns o.me p.own;
  each = All-map (IsConsistentNeighbour o) (tell o v d) ns
      (All-weaker (IsConsistentNeighbour o) (λ n. IsConsistentNeighbour o (tell o v d n))
      (λ n q. told_consistent o n v d h limit q) ns p.each);
}

changes_consistent : (o : OpeningView) (old new : ℕ → ℕ) → ((v : ℕ) → new v ≤ o.size) → (n : ℕ) (ns : List NeighbourView) →
    n ≤ o.size → AreConsistentNeighbours o ns → AreConsistentNeighbours o (tell_changes o old new n ns)
changes_consistent o old new limit zero ns h p = p
changes_consistent o old new limit (suc n) ns h p =
    let told = tell_changes o old new n ns in
    let rest : AreConsistentNeighbours o told = changes_consistent o old new limit n ns (omega arith) p in
    cond_both (nat_eq (old n) (new n)) told (map (tell o n (new n)) told) (AreConsistentNeighbours o)
    (λ _. rest) (λ _. tell_consistent o n (new n) told (omega arith) (limit n) rest)

-- sessions
held_in : (sessions : List (Option ℕ)) (k j s : ℕ) (o : Option ℕ) → k < length sessions → session_in (set sessions k o) j ≡ Some s →
    ((j ≡ k) × (o ≡ Some s)) ⊎ (session_in sessions j ≡ Some s)
held_in sessions k j s o h held = elim (cases_eq j k) [
  | inl is ↦
      inl (is, sym (ap (λ i. session_in (set sessions k o) i) is ∙ get_or-set_same sessions k o None h) ∙ held)
  | inr other ↦ inr (sym (get_or-set_other sessions k j o None other) ∙ held)
]

one_fewer : (count k : ℕ) (sessions : List (Option ℕ)) → k < length sessions → AreSessions count sessions →
    AreSessions count (set sessions k None)
one_fewer count k sessions h p = record {
  numbered = λ j s held. p.numbered j s (was j s held);
  apart = λ i j s at_i at_j. p.apart i j s (was i s at_i) (was j s at_j);
}
  where
    was : (j s : ℕ) → session_in (set sessions k None) j ≡ Some s → session_in sessions j ≡ Some s
    was j s held = elim (held_in sessions k j s None h held) [
      | inl here ↦ absurd (none-some s here.1)
      | inr there ↦ there
    ]

one_opened : (count k : ℕ) (sessions : List (Option ℕ)) → k < length sessions → AreSessions count sessions →
    AreSessions (count + 1) (set sessions k (Some (count + 1)))
one_opened count k sessions h p = record {
  numbered = λ j s held. elim (held_in sessions k j s (Some (count + 1)) h held) [
    | inl here ↦ let is = same_Some (count + 1) s here.1 in (omega (arith, is), omega (arith, is))
    | inr there ↦ let was = p.numbered j s there in (was.0, omega (arith, was.1))
  ];
  apart = λ i j s at_i at_j. elim (held_in sessions k i s (Some (count + 1)) h at_i) [
    | inl a ↦ elim (held_in sessions k j s (Some (count + 1)) h at_j) [
      | inl b ↦ a.0 ∙ sym b.0
      | inr b ↦ absurd (omega (arith, same_Some (count + 1) s a.1, (p.numbered j s b).1))
    ]
    | inr a ↦ elim (held_in sessions k j s (Some (count + 1)) h at_j) [
      | inl b ↦ absurd (omega (arith, same_Some (count + 1) s b.1, (p.numbered i s a).1))
      | inr b ↦ p.apart i j s a b
    ]
  ];
}

-- the distances of a world
distances_within : (w : World) (v : ℕ) → distance w v ≤ w.opening.size
distances_within w v = best_within w.opening v (neighbour_distances w v)

-- a world where one neighbour changed
changed_consistent : (w : World) (k : ℕ) (f : NeighbourView → NeighbourView) → ((n : NeighbourView) → (f n).session ≡ n.session) →
    ((n : NeighbourView) → w.opening.me ≡ k → IsOwn n → IsOwn (f n)) →
    (IsConsistentNeighbour w.opening (neighbour_at w.neighbours k) → IsConsistentNeighbour w.opening (f (neighbour_at w.neighbours k))) →
    IsConsistent w → IsConsistent (changed w k f)
changed_consistent w k f same keep good p = record {
  neighbours = change_consistent w.opening k f w.neighbours keep good p.neighbours;
  sessions = subst (AreSessions w.sessions) (sym (sessions_kept w.neighbours (change k f w.neighbours) k f refl same)) p.sessions;
  counted = p.counted;
}

recomputed_consistent : (old new : World) → IsConsistent new → IsConsistent (recomputed old new).world
recomputed_consistent old new p = record {
  neighbours = changes_consistent new.opening (distance old) (distance new) (distances_within new) new.opening.size new.neighbours
      (le_refl new.opening.size) p.neighbours;
  sessions = subst (AreSessions new.sessions)
      (sym (sessions_told new.opening (distance old) (distance new) new.opening.size new.neighbours)) p.sessions;
  counted = p.counted;
}

-- a node that is a neighbour is not the router itself
not_own : (o : OpeningView) (k : ℕ) → is_no_neighbour o k ≡ false → o.me ≡ k → ⊥
not_own o k e is = eqb-false k o.me (or_parts (nat_le o.size k) (nat_eq k o.me) e).1 (sym is)

-- the events
up_consistent : (w : World) (k : ℕ) → IsConsistent w → IsConsistent (up w k).world
up_consistent w k p =
    let o = w.opening in
    let ns = w.neighbours in
    let s = w.sessions + 1 in
    let f = joined o (distance w) s in
    let last = answered (record (changed w k f) { sessions = s }) (reply.Opened s) in
    let left = if w.sessions == last_session then refused w refusal.NoSession else last in
    let fresh = if is_up (neighbour_at ns k) then refused w refusal.AlreadyUp else left in
    cond_both (is_no_neighbour o k) (refused w refusal.NoNode) fresh (λ a. IsConsistent a.world) (λ _. p) (λ neighbour.
    cond_both (is_up (neighbour_at ns k)) (refused w refusal.AlreadyUp) left (λ a. IsConsistent a.world) (λ _. p) (λ _.
    cond_both (nat_eq w.sessions last_session) (refused w refusal.NoSession) last (λ a. IsConsistent a.world) (λ _. p) (λ few.
    let below : k < length ns = omega (arith, neighbour_below o k neighbour, p.neighbours.one_a_node) in
    record {
      neighbours = change_consistent o k f ns (λ n own. absurd (not_own o k neighbour own))
          (joined_consistent o (neighbour_at ns k) (distance w) s (distances_within w)) p.neighbours;
      sessions = subst (AreSessions s) (sym (sessions_changed ns k f below))
          (one_opened w.sessions k (sessions_of ns) (omega (arith, below, length-map ns (λ n. n.session))) p.sessions);
      counted = omega (arith, p.counted, eqb-false w.sessions last_session few);
    })))

down_consistent : (w : World) (s : ℕ) (o : Option ℕ) → holder w s ≡ o → IsConsistent w → IsConsistent (down w o).world
down_consistent w s None is p = p
down_consistent w s (Some k) is p =
    let ns = w.neighbours in
    let there = found_holds ns s k is in
    recomputed_consistent w (changed w k (gone w.opening)) (record {
      neighbours = change_consistent w.opening k (gone w.opening) ns
          (λ n _ own. record { session = refl; imports = own.imports; exports = own.exports })
          (gone_consistent w.opening (neighbour_at ns k)) p.neighbours;
      sessions = subst (AreSessions w.sessions) (sym (sessions_changed ns k (gone w.opening) there.0))
          (one_fewer w.sessions k (sessions_of ns) (omega (arith, there.0, length-map ns (λ n. n.session))) p.sessions);
      counted = p.counted;
    })

receive_consistent : (w : World) (s : ℕ) (o : Option ℕ) (v d : ℕ) → holder w s ≡ o → IsConsistent w →
    IsConsistent (receive w o v d).world
receive_consistent w s None v d is p = p
receive_consistent w s (Some k) v d is p =
    let o = w.opening in
    let f = advertising v d in
    let last = recomputed w (changed w k f) in
    let there = found_holds w.neighbours s k is in
    cond_both (nat_le o.size v) (refused w refusal.BadDest) (if nat_lt o.size d then refused w refusal.BadDist else last)
    (λ a. IsConsistent a.world) (λ _. p) (λ dest.
    cond_both (nat_lt o.size d) (refused w refusal.BadDist) last (λ a. IsConsistent a.world) (λ _. p) (λ dist.
    recomputed_consistent w (changed w k f) (changed_consistent w k f (λ _. refl)
    (λ n _ own. record { session = own.session; imports = own.imports; exports = own.exports })
    (advertising_consistent o (neighbour_at w.neighbours k) v d s (leb-false o.size v dest) (ltb-false o.size d dist) there.1) p)))

take_consistent : (w : World) (s : ℕ) (o : Option ℕ) (max : ℕ) → IsConsistent w → IsConsistent (take_from w o max).world
take_consistent w s None max p = p
take_consistent w s (Some k) max p =
    changed_consistent w k (dequeued max) (λ _. refl)
    (λ n _ own. record { session = own.session; imports = own.imports; exports = own.exports })
    (dequeued_consistent w.opening (neighbour_at w.neighbours k) max) p

import_consistent : (w : World) (k : ℕ) (f : VerifiedView) → IsConsistent w → IsConsistent (set_import w k f).world
import_consistent w k f p =
    let o = w.opening in
    let last = recomputed w (changed w k (importing f)) in
    cond_both (is_no_neighbour o k) (refused w refusal.NoNode) (if f.size == o.size then last else refused w refusal.OtherSize)
    (λ a. IsConsistent a.world) (λ _. p) (λ neighbour.
    cond_both (nat_eq f.size o.size) last (refused w refusal.OtherSize) (λ a. IsConsistent a.world) (λ fits.
    recomputed_consistent w (changed w k (importing f)) (changed_consistent w k (importing f) (λ _. refl)
    (λ n own. absurd (not_own o k neighbour own))
    (importing_consistent o (neighbour_at w.neighbours k) f (eqb-true f.size o.size fits)) p)) (λ _. p))

export_consistent : (w : World) (k : ℕ) (f : VerifiedView) → IsConsistent w → IsConsistent (set_export w k f).world
export_consistent w k f p =
    let o = w.opening in
    let g = exporting o (distance w) f in
    let last = answered (changed w k g) (reply.Done 0) in
    cond_both (is_no_neighbour o k) (refused w refusal.NoNode) (if f.size == o.size then last else refused w refusal.OtherSize)
    (λ a. IsConsistent a.world) (λ _. p) (λ neighbour.
    cond_both (nat_eq f.size o.size) last (refused w refusal.OtherSize) (λ a. IsConsistent a.world) (λ fits.
    changed_consistent w k g (λ _. refl) (λ n own. absurd (not_own o k neighbour own))
    (exporting_consistent o (neighbour_at w.neighbours k) (distance w) f (distances_within w) (eqb-true f.size o.size fits)) p) (λ _. p))

show_consistent : (w : World) (v : ℕ) → IsConsistent w → IsConsistent (show w v).world
show_consistent w v p =
    cond_both (nat_le w.opening.size v) (refused w refusal.BadDest) (answered w (reply.Route (best w v).dist (best w v).via))
    (λ a. IsConsistent a.world) (λ _. p) (λ _. p)

pub next_consistent : (w : World) (e : Event) → IsConsistent w → IsConsistent (next w e).world
next_consistent w (event.Up k) p = up_consistent w k p
next_consistent w (event.Down s) p = down_consistent w s (holder w s) refl p
next_consistent w (event.Receive s v d) p = receive_consistent w s (holder w s) v d refl p
next_consistent w (event.Take s max) p = take_consistent w s (holder w s) max p
next_consistent w (event.SetImport k f) p = import_consistent w k f.value p
next_consistent w (event.SetExport k f) p = export_consistent w k f.value p
next_consistent w (event.Show v) p = show_consistent w v p

-- the world of an opening
pub opened_consistent : (o : OpeningView) → IsOpening o → IsConsistent (opened o)
opened_consistent o is = record {
  neighbours = record {
    one_a_node = length-replicate o.size (newcomer o);
    own = subst IsOwn (sym (get_or-replicate o.size o.me (newcomer o) nobody is.member))
        (record { session = refl; imports = refl; exports = refl });
    each = All-replicate (IsConsistentNeighbour o) o.size (newcomer o) (record {
      neighbour = new_neighbour o;
      messages = All-nil (IsMessage o.size);
      down = λ _. record { advertised = refl; queue = refl };
    });
  };
  sessions = present_sessions 0 (sessions_of (opened o).neighbours) [] (none_present o o.size (opened o).neighbours refl);
  counted = omega arith;
}
