-- Loops over the up neighbours, by the list of the present sessions.
use Rattle.std.proofs.Common.{◌≡◌, ◌≢◌, inl, inr, ℕ, zero, suc, ◌+◌, ◌<◌, ◌≤◌, true, false, cond, Option}
use Rattle.std.proofs.Common.{None, is_some, List, [], ◌∷◌, length, map, get_or, set, ap, sym, subst, ◌∙◌}
use Rattle.std.proofs.Common.{arith, get_or-set_same, get_or-set_other, deque_capacity, deque_len}
use Rattle.std.proofs.lemmas.Bool.{cases_Bool, cases_eq, cases_lt}
use Rattle.std.proofs.lemmas.List.{get_or-map, get_or_default, get_or_past, length-map, same_lists}
use Rattle.std.proofs.lemmas.Option.{same_Some}
use Rattle.netchange_core.specs.declared.neighbour.Neighbour.{Neighbour}
use Rattle.netchange_core.specs.declared.sessions.Present.{Present}
use Rattle.netchange_core.specs.Kept.{view_of}
use Rattle.netchange_core.specs.Next.{message_of, tell}
use Rattle.netchange_core.specs.OpeningView.{OpeningView}
use Rattle.netchange_core.specs.Present.{AreListed, ArePresent, present, session_in, sessions_of}
use Rattle.netchange_core.specs.Room.{HasRoom, HaveRoom, queueing}
use Rattle.netchange_core.specs.World.{NeighbourView, is_up, neighbour_at, nobody}
use Rattle.netchange_core.proofs.Holders.{none_by, some_by, some_none}
use Rattle.netchange_core.proofs.Presence.{session_at}
use Rattle.netchange_core.proofs.Views.{view_at}

-- the present sessions name the up neighbours
pub present_listed : (count : ℕ) (sessions : List (Option ℕ)) (ps : List Present) → ArePresent count sessions ps → AreListed sessions ps
present_listed count sessions ps are = record {
  up = λ i d h. ap is_some (are.each i d h).held;
  apart = λ i j d before h same.
      let p = are.each i d (omega arith) in
      let q = are.each j d h in
      let one : (get_or ps i d).session ≡ (get_or ps j d).session =
      same_Some (get_or ps i d).session (get_or ps j d).session (sym p.held ∙ ap (λ k. session_in sessions k) same ∙ q.held) in
      omega (arith, are.rising i j d before h, one);
  listed = λ k up.
      let held = some_by (session_in sessions k) up in
      let here = are.listed k held.0 held.1 in
      let p = present held.0 k in
      (here.0, here.1, λ d. ap (λ q. q.node) (get_or_default ps here.0 d p here.1 ∙ here.2));
}

-- a node that is named is a node, and up
pub named_below : (ns : List Neighbour) (ps : List Present) (i : ℕ) (d : Present) →
    AreListed (sessions_of (map view_of ns)) ps → i < length ps → (get_or ps i d).node < length ns
named_below ns ps i d are h =
    let k = (get_or ps i d).node in
    elim (cases_lt k (length ns)) [
      | inl below ↦ below
      | inr past ↦
          let ss = sessions_of (map view_of ns) in
          let long : length ss ≤ k = omega (arith, past, length-map (map view_of ns) (λ n. n.session), length-map ns view_of) in
          absurd (some_none (session_in ss k) (are.up i d h) (get_or_past ss k None long))
    ]

pub named_up : (ns : List Neighbour) (ps : List Present) (i : ℕ) (d : Present) →
    AreListed (sessions_of (map view_of ns)) ps → i < length ps → is_up (neighbour_at (map view_of ns) (get_or ps i d).node) ≡ true
named_up ns ps i d are h =
    let k = (get_or ps i d).node in
    ap is_some (sym (session_at (map view_of ns) k)) ∙ are.up i d h

-- what holds of the neighbours named so far, after one more was replaced
pub named_set : (P : Neighbour → Type 0) (ps : List Present) (i : ℕ) (d : Present) (ns : List Neighbour) (k : ℕ) (n : Neighbour) →
    k < length ns → i < length ps → (get_or ps i d).node ≡ k → P n →
    ((j : ℕ) (c : Present) (e : Neighbour) → j < i → P (get_or ns (get_or ps j c).node e)) →
    (j : ℕ) (c : Present) (e : Neighbour) → j < i + 1 → P (get_or (set ns k n) (get_or ps j c).node e)
named_set P ps i d ns k n h short named here before j c e more = elim (cases_eq (get_or ps j c).node k) [
  | inl is ↦ subst (λ m. P (get_or (set ns k n) m e)) (sym is) (subst P (sym (get_or-set_same ns k n e h)) here)
  | inr other ↦
      let less : j < i = elim (cases_eq j i) [
        | inl same ↦ absurd (other (ap (λ m. (get_or ps m c).node) same ∙ ap (λ p. p.node) (get_or_default ps i c d short) ∙ named))
        | inr differs ↦ omega arith
      ] in
      subst P (sym (get_or-set_other ns k (get_or ps j c).node n e other)) (before j c e less)
]

-- each up neighbour that was named is told a distance, and no other changed
pub record Told (o : OpeningView) (v dist : ℕ) (ps : List Present) (i : ℕ) (old ns : List Neighbour) : Type 0 where
  pub told : (j : ℕ) (c : Present) (e : Neighbour) → j < i →
      view_of (get_or ns (get_or ps j c).node e) ≡ tell o v dist (view_of (get_or old (get_or ps j c).node e))
  pub room : (more j : ℕ) (c : Present) (e : Neighbour) → j < i → HasRoom (more + 1) (get_or old (get_or ps j c).node e) →
      HasRoom more (get_or ns (get_or ps j c).node e)
  pub rest : (k : ℕ) (e : Neighbour) → ((j : ℕ) (c : Present) → j < i → (get_or ps j c).node ≢ k) → get_or ns k e ≡ get_or old k e

told_here : (o : OpeningView) (v d : ℕ) (n : NeighbourView) → is_up n ≡ true → queueing (message_of o n.exports v d ∷ []) n ≡ tell o v d n
told_here o v d n up = ap (λ b. cond b (queueing (message_of o n.exports v d ∷ []) n) n) (sym up)

told_nowhere : (o : OpeningView) (v d : ℕ) (n : NeighbourView) → is_up n ≡ false → tell o v d n ≡ n
told_nowhere o v d n down = ap (λ b. cond b (queueing (message_of o n.exports v d ∷ []) n) n) down

module _ (o : OpeningView) (v dist : ℕ) (ps : List Present) (old ns : List Neighbour) (same_length : length ns ≡ length old)
    (are : AreListed (sessions_of (map view_of old)) ps) where
  -- the neighbour that is named next has not changed yet
  pub next_same : (i : ℕ) (d : Present) (e : Neighbour) → i < length ps → Told o v dist ps i old ns →
      get_or ns (get_or ps i d).node e ≡ get_or old (get_or ps i d).node e
  next_same i d e h so_far = so_far.rest (get_or ps i d).node e (λ j c before same.
      are.apart j i c before h (same ∙ ap (λ p. p.node) (get_or_default ps i d c h)))

  pub told_one : (i : ℕ) (d : Present) (e n : Neighbour) → i < length ps → Told o v dist ps i old ns →
      view_of n ≡ queueing (message_of o (view_of (get_or ns (get_or ps i d).node e)).exports v dist ∷ [])
      (view_of (get_or ns (get_or ps i d).node e)) →
      deque_len n.queue ≡ deque_len (get_or ns (get_or ps i d).node e).queue + 1 →
      deque_capacity n.queue ≡ deque_capacity (get_or ns (get_or ps i d).node e).queue →
      Told o v dist ps (i + 1) old (set ns (get_or ps i d).node n)
  told_one i d e n h so_far view long wide =
      let k = (get_or ps i d).node in
      let below : k < length old = named_below old ps i d are h in
      let short : k < length ns = omega arith in
      let head = get_or old k e in
      let same : get_or ns k e ≡ head = next_same i d e h so_far in
      let up : is_up (view_of head) ≡ true = ap is_up (view_at old k e below) ∙ named_up old ps i d are h in
      let here : view_of n ≡ tell o v dist (view_of head) =
      view ∙ ap (λ (m : Neighbour). queueing (message_of o (view_of m).exports v dist ∷ []) (view_of m)) same
      ∙ told_here o v dist (view_of head) up in
      let is_next : (j : ℕ) (c : Present) → j < i + 1 → (j < i → ⊥) → (get_or ps j c).node ≡ k =
      λ j c more late. let at : j ≡ i = omega arith in ap (λ m. (get_or ps m c).node) at ∙ ap (λ p. p.node) (get_or_default ps i c d h) in
      let apart : (j : ℕ) (c : Present) → j < i → (get_or ps j c).node ≢ k =
      λ j c before is. are.apart j i c before h (is ∙ ap (λ p. p.node) (get_or_default ps i d c h)) in
      record {
        told = λ j c f more. elim (cases_lt j i) [
          | inl before ↦ ap view_of (get_or-set_other ns k (get_or ps j c).node n f (apart j c before)) ∙ so_far.told j c f before
          | inr late ↦
              let at = is_next j c more (λ less. omega arith) in
              ap (λ m. view_of (get_or (set ns k n) m f)) at ∙ ap view_of (get_or-set_same ns k n f short) ∙ here
              ∙ ap (λ m. tell o v dist (view_of m)) (get_or_default old k e f below)
              ∙ ap (λ m. tell o v dist (view_of (get_or old m f))) (sym at)
        ];
        room = λ more j c f within room. elim (cases_lt j i) [
          | inl before ↦
              subst (HasRoom more) (sym (get_or-set_other ns k (get_or ps j c).node n f (apart j c before)))
              (so_far.room more j c f before room)
          | inr late ↦
              let at = is_next j c within (λ less. omega arith) in
              let was : HasRoom (more + 1) head =
              subst (HasRoom (more + 1)) (ap (λ m. get_or old m f) at ∙ get_or_default old k f e below) room in
              let len : deque_len n.queue ≡ deque_len head.queue + 1 = long ∙ ap (λ m. deque_len m.queue + 1) same in
              let cap : deque_capacity n.queue ≡ deque_capacity head.queue = wide ∙ ap (λ m. deque_capacity m.queue) same in
              let now : HasRoom more n = λ _. omega (arith, was up, len, cap) in
              subst (HasRoom more) (sym (ap (λ m. get_or (set ns k n) m f) at ∙ get_or-set_same ns k n f short)) now
        ];
        rest = λ m f others.
            get_or-set_other ns k m n f (λ is. others i d (omega arith) (sym is))
            ∙ so_far.rest m f (λ j c before. others j c (omega arith));
      }

-- there is room for its message
pub next_room : (o : OpeningView) (v dist : ℕ) (ps : List Present) (old ns : List Neighbour) → length ns ≡ length old →
    AreListed (sessions_of (map view_of old)) ps → HaveRoom 1 old → (i : ℕ) (d : Present) (e : Neighbour) → i < length ps →
    Told o v dist ps i old ns →
    deque_len (get_or ns (get_or ps i d).node e).queue < deque_capacity (get_or ns (get_or ps i d).node e).queue
next_room o v dist ps old ns same_length are room i d e h so_far =
    let k = (get_or ps i d).node in
    let below : k < length old = named_below old ps i d are h in
    let up : is_up (view_of (get_or old k e)) ≡ true = ap is_up (view_at old k e below) ∙ named_up old ps i d are h in
    let was = room k e below up in
    subst (λ n. deque_len n.queue < deque_capacity n.queue) (sym (next_same o v dist ps old ns same_length are i d e h so_far))
    (omega (arith, was))

element : {X : Type 0} (xs : List X) (i : ℕ) → i < length xs → X
element [] i h = absurd (omega arith)
element (x ∷ xs) zero h = x
element (x ∷ xs) (suc i) h = element xs i (omega arith)

-- after the last one
module _ (o : OpeningView) (v dist : ℕ) (ps : List Present) (old ns : List Neighbour) (same_length : length ns ≡ length old)
    (are : AreListed (sessions_of (map view_of old)) ps) (all : Told o v dist ps (length ps) old ns) where
  session_is : (k : ℕ) (e : Neighbour) → k < length old →
      session_in (sessions_of (map view_of old)) k ≡ (get_or old k e).session
  session_is k e h = session_at (map view_of old) k ∙ ap (λ n. n.session) (sym (view_at old k e h))

  unnamed : (k : ℕ) (e : Neighbour) → k < length old → (get_or old k e).session ≡ None → get_or ns k e ≡ get_or old k e
  unnamed k e h down = all.rest k e (λ j c short is.
      some_none (session_in (sessions_of (map view_of old)) (get_or ps j c).node) (are.up j c short)
      (ap (λ m. session_in (sessions_of (map view_of old)) m) is ∙ session_is k e h ∙ down))

  told_at : (k : ℕ) (e : Neighbour) → k < length old → view_of (get_or ns k e) ≡ tell o v dist (view_of (get_or old k e))
  told_at k e h = elim (cases_Bool (is_up (view_of (get_or old k e)))) [
    | inl up ↦
        let here = are.listed k (ap is_some (session_is k e h) ∙ up) in
        let c = element ps here.0 here.1 in
        subst (λ m. view_of (get_or ns m e) ≡ tell o v dist (view_of (get_or old m e))) (here.2 c) (all.told here.0 c e here.1)
    | inr down ↦
        ap view_of (unnamed k e h (none_by (get_or old k e).session down)) ∙ sym (told_nowhere o v dist (view_of (get_or old k e)) down)
  ]

  pub all_told : map view_of ns ≡ map (tell o v dist) (map view_of old)
  all_told =
      let lengths : length (map view_of ns) ≡ length (map (tell o v dist) (map view_of old)) =
      length-map ns view_of ∙ same_length ∙ sym (length-map old view_of) ∙ sym (length-map (map view_of old) (tell o v dist)) in
      same_lists (map view_of ns) (map (tell o v dist) (map view_of old)) lengths (λ k d h.
      let there : k < length ns = omega (arith, length-map ns view_of) in
      let below : k < length old = omega arith in
      let e = element old k below in
      get_or-map view_of ns k e d there ∙ told_at k e below
      ∙ ap (tell o v dist) (view_at old k e below)
      ∙ sym (get_or-map (tell o v dist) (map view_of old) k nobody d (omega (arith, length-map old view_of))))

  pub room_told : (more : ℕ) → HaveRoom (more + 1) old → HaveRoom more ns
  room_told more room k e h = elim (cases_Bool (is_up (view_of (get_or old k e)))) [
    | inl up ↦
        let below : k < length old = omega arith in
        let here = are.listed k (ap is_some (session_is k e below) ∙ up) in
        let c = element ps here.0 here.1 in
        subst (λ m. HasRoom more (get_or ns m e)) (here.2 c)
        (all.room more here.0 c e here.1 (subst (λ m. HasRoom (more + 1) (get_or old m e)) (sym (here.2 c)) (room k e below)))
    | inr down ↦
        let below : k < length old = omega arith in
        let none : (get_or old k e).session ≡ None = none_by (get_or old k e).session down in
        let same : (get_or ns k e).session ≡ (get_or old k e).session = ap (λ n. n.session) (unnamed k e below none) in
        λ up. absurd (some_none (get_or ns k e).session up (same ∙ none))
  ]

-- room for each up neighbour that is named is room for each up neighbour
pub room_named : (more : ℕ) (ps : List Present) (ns ms : List Neighbour) → AreListed (sessions_of (map view_of ns)) ps →
    map view_of ms ≡ map view_of ns →
    ((j : ℕ) (c : Present) (e : Neighbour) → j < length ps →
    deque_len (get_or ms (get_or ps j c).node e).queue + more ≤ deque_capacity (get_or ms (get_or ps j c).node e).queue) →
    HaveRoom more ms
room_named more ps ns ms are same room k e h up =
    let session : session_in (sessions_of (map view_of ns)) k ≡ (get_or ms k e).session =
    ap (λ vs. session_in (sessions_of vs) k) (sym same) ∙ session_at (map view_of ms) k ∙ ap (λ n. n.session) (sym (view_at ms k e h)) in
    let here = are.listed k (ap is_some session ∙ up) in
    let c = element ps here.0 here.1 in
    subst (λ m. deque_len (get_or ms m e).queue + more ≤ deque_capacity (get_or ms m e).queue) (here.2 c) (room here.0 c e here.1)
