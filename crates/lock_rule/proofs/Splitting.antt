-- The split of a seat keeps the rule.
use Rattle.std.proofs.Common.{◌≡◌, ◌∙◌, sym, ap, refl, subst, ℕ, ◌+◌, ◌<◌, inl, inr, ⊎_elim, None, List, [], ◌∷◌, ◌++◌, set, arith}
use mathlib.Core.Option.{some}
use lib.ListN.{get_elem?}
use Rattle.atomic_table.specs.Table.{Splits}
use Rattle.atomic_table.proofs.Lists.{at_longer, at_set, at_snoc, set_else}
use Rattle.netchange_core.specs.OpeningView.{OpeningView}
use Rattle.route_history.specs.declared.bounds.Bounds.{Bounds}
use Rattle.route_history.specs.declared.entry.Entry.{Entry}
use Rattle.lock_rule.specs.declared.rule.View.{View}
use Rattle.lock_rule.specs.Views.{empty_fragment, incoming_alone, right_of, shares_of, split_left, split_right, times_in_view, without_incoming}
use Rattle.lock_rule.specs.Rule.{AreKnown, Fits, IsKept, Knows, Sees}
use Rattle.lock_rule.proofs.Totals.{total_append, total_set}
use Rattle.lock_rule.proofs.Prefixes.{nothing}
use Rattle.lock_rule.proofs.Acquiring.{not_holder}
use Rattle.lock_rule.proofs.Keeping.{knows_set}

-- what two views have to show that one is split into
pub record MaySplit (v a b : View) : Type 0 where
  pub held : v.held ≡ None
  pub first_held : a.held ≡ None
  pub second_held : b.held ≡ None
  pub first : (o : OpeningView) (l : Bounds) (log : List Entry) → Fits o l log v → Fits o l log a
  pub second : (o : OpeningView) (l : Bounds) (log : List Entry) → Fits o l log v → Fits o l log b
  pub shares : shares_of a + shares_of b ≡ shares_of v
  pub once : (x : ℕ) → times_in_view x a + times_in_view x b ≡ times_in_view x v
  pub right : right_of a + right_of b ≡ right_of v
  pub first_knows : (first : ℕ) → Knows first v → Knows first a
  pub second_knows : (first : ℕ) → Knows first v → Knows first b

known_split : (o : OpeningView) (l : Bounds) (log : List Entry) (views : List View) (k : ℕ) (v a b : View) → MaySplit v a b →
    get_elem? views k ≡ some v → AreKnown o l log views → AreKnown o l log (set views k a ++ b ∷ [])
known_split o l log views k v a b may at known = let fits = known.fits k v at in record {
  fits = λ j u there. ⊎_elim
      (λ t. ⊎_elim (λ q. subst (λ (z : View). Fits o l log z) q.1 (may.first o l log fits)) (λ q. known.fits j u q.1) (at_set views k j a u t))
      (λ t. subst (λ (z : View). Fits o l log z) t (may.second o l log fits))
      (at_snoc (set views k a) b u j there);
  shares =
      let first = total_set shares_of views k v a at in let more = total_append shares_of (set views k a) b in
      let sum = may.shares in let all = known.shares in omega arith;
  once = λ x.
      let first = total_set (times_in_view x) views k v a at in let more = total_append (times_in_view x) (set views k a) b in
      let sum = may.once x in let one = known.once x in omega arith;
}

none_holds_after : (views : List View) (k : ℕ) (a b : View) → a.held ≡ None → b.held ≡ None → (j : ℕ) (u : View) →
    get_elem? (set views k a ++ b ∷ []) j ≡ some u → (get_elem? views j ≡ some u → u.held ≡ None) → u.held ≡ None
none_holds_after views k a b first second j u there before = ⊎_elim
    (λ t. ⊎_elim (λ q. ap (λ (z : View). z.held) (sym q.1) ∙ first) (λ q. before q.1) (at_set views k j a u t))
    (λ t. ap (λ (z : View). z.held) (sym t) ∙ second)
    (at_snoc (set views k a) b u j there)

pub splitting : (o : OpeningView) (l : Bounds) (id : ℕ) (v a b : View) → MaySplit v a b → Splits (IsKept o l) id v a b
splitting o l id v a b may s kept at = record {
  log = kept.log;
  first = kept.first;
  lock = ⊎_elim
      (λ is_free. inl (record {
        words = is_free.words;
        journal = is_free.journal;
        first_is = is_free.first_is;
        homes = is_free.homes;
        window = is_free.window;
        none_holds = λ k u there. none_holds_after s.views id a b may.first_held may.second_held k u there (λ t. is_free.none_holds k u t);
      }))
      (λ is_held. inr (record {
        words = is_held.words;
        homes = is_held.homes;
        holder = is_held.holder;
        who = is_held.who;
        there = at_longer (set s.views id a) (b ∷ []) is_held.holder is_held.who
            (set_else s.views id is_held.holder a (not_holder s kept.log is_held id v at may.held) ∙ is_held.there);
        held = is_held.held;
        first_is = is_held.first_is;
        others = λ k u there other. none_holds_after s.views id a b may.first_held may.second_held k u there (λ t. is_held.others k u t other);
      }))
      kept.lock;
  legal = kept.legal;
  known = known_split o l kept.log s.views id v a b may at kept.known;
  forgot = λ k u there. ⊎_elim
      (λ t. knows_set kept.first s.views id a (may.first_knows kept.first (kept.forgot id v at)) kept.forgot k u t)
      (λ t. subst (λ (z : View). Knows kept.first z) t (may.second_knows kept.first (kept.forgot id v at)))
      (at_snoc (set s.views id a) b u k there);
  right =
      let first = total_set right_of s.views id v a at in let more = total_append right_of (set s.views id a) b in
      let sum = may.right in let most = kept.right in omega arith;
}

pub sees_nothing : (log : List Entry) → Sees log empty_fragment
sees_nothing log = record { begins = nothing log; within = λ x there. absurd (omega arith) }

pub splitting_shares : (o : OpeningView) (l : Bounds) (id n : ℕ) (v : View) → v.held ≡ None → v.incoming ≡ empty_fragment → 0 < n → n < v.fragment.shares →
    Splits (IsKept o l) id v (split_left n v) (split_right n v)
splitting_shares o l id n v held alone some_shares fewer = splitting o l id v (split_left n v) (split_right n v) (record {
  held = held;
  first_held = held;
  second_held = refl;
  first = λ o l log h. record {
    fragment = record { begins = h.fragment.begins; within = h.fragment.within };
    incoming = h.incoming;
    about = λ _. h.about (omega arith);
    empty = λ none_left. absurd (omega arith);
  };
  second = λ o l log h. record {
    fragment = record { begins = h.fragment.begins; within = λ x there. absurd (omega arith) };
    incoming = sees_nothing log;
    about = λ _. h.about (omega arith);
    empty = λ none_left. absurd (omega arith);
  };
  shares = omega arith;
  once = λ x. omega arith;
  right = omega arith;
  first_knows = λ first h. h;
  second_knows = λ first h. let a = h.0 in (omega arith, omega arith, λ has. absurd (omega arith));
})

pub splitting_incoming : (o : OpeningView) (l : Bounds) (id : ℕ) (v : View) → v.held ≡ None → 0 < v.fragment.shares → 0 < v.incoming.shares →
    Splits (IsKept o l) id v (without_incoming v) (incoming_alone v)
splitting_incoming o l id v held first_shares second_shares = splitting o l id v (without_incoming v) (incoming_alone v) (record {
  held = held;
  first_held = held;
  second_held = refl;
  first = λ o l log h. record {
    fragment = h.fragment;
    incoming = sees_nothing log;
    about = λ _. h.about (omega arith);
    empty = λ none_left. absurd (omega arith);
  };
  second = λ o l log h. record {
    fragment = h.incoming;
    incoming = sees_nothing log;
    about = λ _. h.about (omega arith);
    empty = λ none_left. absurd (omega arith);
  };
  shares = omega arith;
  once = λ x. omega arith;
  right = omega arith;
  first_knows = λ first h. let a = h.0 in (omega arith, omega arith, h.2);
  second_knows = λ first h. let b = h.1 in (omega arith, omega arith, λ has. absurd (omega arith));
})
