-- What a note adds, and that it undoes no other.
use Rattle.std.proofs.Common.{◌≡◌, ◌⊎◌, refl, sym, ℕ, ◌+◌, ◌<◌, ◌≤◌, true, false, Bool, max, inl, inr, if◌then◌else◌, subst}
use Rattle.std.proofs.Common.{Some, List, ◌∷◌, ◌++◌, length, arith}
use Rattle.std.specs.Prelude.{nat_lt}
use Rattle.std.proofs.Math.Nat.{le-max_left, le-max_right, max-eq_left, max-eq_right}
use Rattle.std.proofs.lemmas.Bool.{cases_Bool, ltb-false, ltb-true}
use Rattle.netchange_core.specs.declared.event.Event.TheVariants as event
use Rattle.netchange_core.specs.declared.reply.Reply.{Reply}
use Rattle.netchange_core.specs.Calls.{carried}
use Rattle.netchange_core.specs.OpeningView.{OpeningView}
use Rattle.netchange_core.specs.World.{holder}
use Rattle.route_history.specs.declared.entry.Entry.{Entry}
use Rattle.route_history.specs.History.{world_of}
use Rattle.router_daemon.specs.declared.waiting.Waiting.{Waiting}
use Rattle.router_daemon.specs.StatesView.{LinkStatesView, noted, with_change, with_entry}
use Rattle.router_daemon.specs.Noting.{IsNoted, WasEmptied, tells_all}
use Rattle.router_daemon.specs.Steps.{queued_at, taken_at}

at_board : (P : LinkStatesView → Type 0) (c : Bool) (one two : LinkStatesView) → (c ≡ true → P one) → (c ≡ false → P two) → P (if c then one else two)
at_board P true one two p q = p refl
at_board P false one two p q = q refl

at_waiting : (P : Waiting → Type 0) (c : Bool) (one two : Waiting) → (c ≡ true → P one) → (c ≡ false → P two) → P (if c then one else two)
at_waiting P true one two p q = p refl
at_waiting P false one two p q = q refl

never_both : (b : Bool) → b ≡ true → b ≡ false → ⊥
never_both true is not = cc
never_both false is not = cc

pub all_noted : (b : LinkStatesView) (at : ℕ) (r : Reply) → tells_all r ≡ true → at < (noted at r b).changed
all_noted b at r is =
    at_board (λ c. at < c.changed) (tells_all r) (with_change at b) (with_entry at b)
    (λ _. omega (arith, le-max_right b.changed (at + 1))) (λ none. absurd (never_both (tells_all r) is none))

pub node_noted : (at : ℕ) (w : Waiting) → at < (queued_at at w).queued
node_noted at w = omega (arith, le-max_right w.queued (at + 1))

pub kept_by_all : (b : LinkStatesView) (at k other : ℕ) (r : Reply) (w : Waiting) (e : Entry) → IsNoted k b.changed w other e →
    IsNoted k (noted at r b).changed w other e
kept_by_all b at k other r w e h = record {
  for_all = λ is. at_board (λ c. other < c.changed) (tells_all r) (with_change at b) (with_entry at b)
      (λ _. omega (arith, h.for_all is, le-max_left b.changed (at + 1))) (λ _. h.for_all is);
  for_node = h.for_node;
}

pub kept_by_node : (at k changed other : ℕ) (w : Waiting) (e : Entry) → IsNoted k changed w other e → IsNoted k changed (queued_at at w) other e
kept_by_node at k changed other w e h = record {
  for_all = h.for_all;
  for_node = λ is. omega (arith, h.for_node is, le-max_left w.queued (at + 1));
}

pub kept_by_take : (at taken most k changed other : ℕ) (w : Waiting) (e : Entry) → IsNoted k changed w other e →
    IsNoted k changed (taken_at at taken most w) other e
kept_by_take at taken most k changed other w e h = record {
  for_all = h.for_all;
  for_node = λ is. at_waiting (λ v. other < v.queued) (nat_lt taken most) (record w { emptied = max w.emptied (at + 1) }) w
      (λ _. h.for_node is) (λ _. h.for_node is);
}

either_max : (a b : ℕ) → (max a b ≡ a) ⊎ (max a b ≡ b)
either_max a b = elim (cases_Bool (nat_lt a b)) [
  | inl e ↦ inr (max-eq_right (omega (arith, ltb-true a b e)))
  | inr e ↦ inl (max-eq_left (omega (arith, ltb-false a b e)))
]

pub take_noted : (opening : OpeningView) (k session most : ℕ) (es before rest : List Entry) (last : Entry) (w : Waiting) →
    es ≡ before ++ last ∷ rest → last.event ≡ event.Take session most → holder (world_of opening before) session ≡ Some k →
    WasEmptied opening k es w.emptied → WasEmptied opening k es (taken_at (length before) (length (carried last.reply)) most w).emptied
take_noted opening k session most es before rest last w is takes of h =
    at_waiting (λ v. WasEmptied opening k es v.emptied) (nat_lt (length (carried last.reply)) most)
    (record w { emptied = max w.emptied (length before + 1) }) w
    (λ fewer. elim (either_max w.emptied (length before + 1)) [
      | inl same ↦ subst (WasEmptied opening k es) (sym same) h
      | inr same ↦ subst (WasEmptied opening k es) (sym same) (inr (record {
        before = before;
        last = last;
        rest = rest;
        is = is;
        count_is = refl;
        empties = record { session = session; most = most; takes = takes; of = of; fewer = ltb-true (length (carried last.reply)) most fewer };
      }))
    ])
    (λ _. h)
