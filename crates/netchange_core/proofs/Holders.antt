-- Who holds a session: one neighbour at most, and a search finds it.
use Rattle.std.proofs.Common.{◌≡◌, ◌⊎◌, ap, refl, ℕ, ◌<◌, ◌≤◌, ◌∙◌, sym, true, false, inl, inr, IfSome}
use Rattle.std.proofs.Common.{Option, Some, None, is_some, List, length, position, arith}
use Rattle.std.proofs.lemmas.Bool.{cases_Bool, cases_eq, both_ways, ltb-true, ltb-false, eqb-true, eq-eqb}
use Rattle.std.proofs.lemmas.List.{get_or_past}
use Rattle.std.proofs.lemmas.List.Quantifiers.{position-Some}
use Rattle.std.proofs.lemmas.List.Sums.{fails_before_first}
use Rattle.std.proofs.lemmas.Option.{none-some, same_Some}
use Rattle.std.specs.Prelude.{nat_lt}
use Rattle.std.specs.List.{position_or_len}
use Rattle.netchange_core.specs.World.{NeighbourView, has_session, is_session, is_up, neighbour_at, nobody}

-- a session that is there, and one that is not
pub some_by : (o : Option ℕ) → is_some o ≡ true → (s : ℕ) × (o ≡ Some s)
some_by None is = absurd (cc)
some_by (Some s) is = (s, refl)

pub none_by : (o : Option ℕ) → is_some o ≡ false → o ≡ None
none_by None is = refl
none_by (Some s) is = absurd (cc)

pub some_none : (o : Option ℕ) → is_some o ≡ true → o ≡ None → ⊥
some_none None some none = cc
some_none (Some s) some none = cc

-- whether a session is this one
pub cases_session : (o : Option ℕ) (s : ℕ) → (o ≡ Some s) ⊎ (o ≡ Some s → ⊥)
cases_session None s = inr (none-some s)
cases_session (Some t) s = elim (cases_eq t s) [
  | inl is ↦ inl (ap Some is)
  | inr other ↦ inr (λ is. other (same_Some t s is))
]

-- who has a session is up, and the other way round
pub up_by : (n : NeighbourView) (s : ℕ) → n.session ≡ Some s → is_up n ≡ true
up_by n s is = ap is_some is

pub up_in : (n : NeighbourView) → is_up n ≡ true → (s : ℕ) × (n.session ≡ Some s)
up_in n up = some_by n.session up

pub down_none : (n : NeighbourView) → is_up n ≡ false → n.session ≡ None
down_none n down = none_by n.session down

-- no two up neighbours have the same session
abbrev pub AreApart : List NeighbourView → Type 0
AreApart ns = (j k s : ℕ) → (neighbour_at ns k).session ≡ Some s → (neighbour_at ns j).session ≡ Some s → j ≡ k

is_it : (s : ℕ) (o : Option ℕ) → is_session s o ≡ true → o ≡ Some s
is_it s None is = absurd (cc)
is_it s (Some t) is = ap Some (eqb-true t s is)

it_is : (s : ℕ) (o : Option ℕ) → o ≡ Some s → is_session s o ≡ true
it_is s o is = ap (is_session s) is ∙ eq-eqb s s refl

within : (ns : List NeighbourView) (k s : ℕ) → (neighbour_at ns k).session ≡ Some s → k < length ns
within ns k s is = elim (cases_Bool (nat_lt k (length ns))) [
  | inl e ↦ ltb-true k (length ns) e
  | inr e ↦
      let past : neighbour_at ns k ≡ nobody = get_or_past ns k nobody (ltb-false k (length ns) e) in
      absurd (some_none (neighbour_at ns k).session (ap is_some is) (ap (λ n. n.session) past))
]

-- who is up is a neighbour
pub up_within : (ns : List NeighbourView) (k : ℕ) → is_up (neighbour_at ns k) ≡ true → k < length ns
up_within ns k up = let there = up_in (neighbour_at ns k) up in within ns k there.0 there.1

-- whoever is found holds the session
pub found_holds : (ns : List NeighbourView) (s k : ℕ) → position (has_session s) ns ≡ Some k →
    (k < length ns) × ((neighbour_at ns k).session ≡ Some s)
found_holds ns s k h =
    let found = position-Some (has_session s) ns k nobody h in
    (found.0, is_it s (neighbour_at ns k).session found.1)

-- and is up
pub found_up : (ns : List NeighbourView) (s k : ℕ) → position (has_session s) ns ≡ Some k → is_up (neighbour_at ns k) ≡ true
found_up ns s k h = up_by (neighbour_at ns k) s (found_holds ns s k h).1

-- so does whoever is found, if anyone is
pub holder_holds : (ns : List NeighbourView) (s : ℕ) (o : Option ℕ) → o ≡ position (has_session s) ns →
    IfSome o (λ k. (neighbour_at ns k).session ≡ Some s)
holder_holds ns s None e = tt
holder_holds ns s (Some k) e = (found_holds ns s k (sym e)).1

pub holder_up : (ns : List NeighbourView) (s : ℕ) (o : Option ℕ) → o ≡ position (has_session s) ns →
    IfSome o (λ k. is_up (neighbour_at ns k) ≡ true)
holder_up ns s None e = tt
holder_up ns s (Some k) e = found_up ns s k (sym e)

found : (ns : List NeighbourView) (s k : ℕ) → AreApart ns → (neighbour_at ns k).session ≡ Some s → (o : Option ℕ) →
    position (has_session s) ns ≡ o → (o ≡ None → ⊥) → o ≡ Some k
found ns s k apart is None h some = absurd (some refl)
found ns s k apart is (Some j) h some = ap Some (apart j k s is (found_holds ns s j h).1)

not_none : (ns : List NeighbourView) (s k : ℕ) → (neighbour_at ns k).session ≡ Some s → position (has_session s) ns ≡ None → ⊥
not_none ns s k is none = elim (cases_Bool (nat_lt (position_or_len (has_session s) ns) (length ns))) [
  | inl e ↦ cc
  | inr e ↦
      let past : length ns ≤ position_or_len (has_session s) ns = ltb-false _ _ e in
      let below : k < length ns = within ns k s is in
      both_ways (has_session s (neighbour_at ns k))
      (fails_before_first (has_session s) ns k nobody (omega arith))
      (it_is s (neighbour_at ns k).session is)
]

-- who holds a session is found
pub holder_found : (ns : List NeighbourView) (s k : ℕ) → AreApart ns → (neighbour_at ns k).session ≡ Some s →
    position (has_session s) ns ≡ Some k
holder_found ns s k apart is = found ns s k apart is (position (has_session s) ns) refl (not_none ns s k is)

none_found : (ns : List NeighbourView) (s : ℕ) → ((k : ℕ) → (neighbour_at ns k).session ≡ Some s → ⊥) → (o : Option ℕ) →
    position (has_session s) ns ≡ o → o ≡ None
none_found ns s nobody_has None h = refl
none_found ns s nobody_has (Some k) h = absurd (nobody_has k (found_holds ns s k h).1)

-- nobody is found where nobody holds it
pub holder_none : (ns : List NeighbourView) (s : ℕ) → ((k : ℕ) → (neighbour_at ns k).session ≡ Some s → ⊥) →
    position (has_session s) ns ≡ None
holder_none ns s nobody_has = none_found ns s nobody_has (position (has_session s) ns) refl
