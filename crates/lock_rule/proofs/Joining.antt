-- The join of two seats keeps the rule.
use Rattle.std.proofs.Common.{◌≡◌, ◌∙◌, sym, ap, refl, subst, ℕ, ◌+◌, ◌<◌, inl, inr, ⊎_elim, None, List, set, arith}
use mathlib.Core.Option.{some}
use lib.ListN.{get_elem?}
use Rattle.atomic_table.specs.Table.{Joins}
use Rattle.atomic_table.proofs.Lists.{at_set, set_else}
use Rattle.netchange_core.specs.OpeningView.{OpeningView}
use Rattle.route_history.specs.declared.bounds.Bounds.{Bounds}
use Rattle.route_history.specs.declared.entry.Entry.{Entry}
use Rattle.route_history.specs.Positions.{times}
use Rattle.lock_rule.specs.declared.rule.Fragment.{Fragment}
use Rattle.lock_rule.specs.declared.rule.View.{View}
use Rattle.lock_rule.specs.Views.{empty_fragment, empty_view, right_of, shares_of, times_in_view, with_incoming}
use Rattle.lock_rule.specs.Rule.{AreKnown, Fits, IsKept, Knows, total}
use Rattle.lock_rule.proofs.Keeping.{right_set}
use Rattle.lock_rule.proofs.Splitting.{sees_nothing}
use Rattle.lock_rule.proofs.Acquiring.{not_holder}
use Rattle.lock_rule.proofs.Totals.{total_set}

empty_fits : (o : OpeningView) (l : Bounds) (log : List Entry) → Fits o l log empty_view
empty_fits o l log = record { fragment = sees_nothing log; incoming = sees_nothing log; about = λ h. absurd (omega arith); empty = λ _. refl }

-- each view after the join is the joined one, the empty one, or one from before
after_join : (P : View → Type 0) (views : List View) (j k : ℕ) (a : View) → P a → P empty_view →
    (i : ℕ) (u : View) → (get_elem? views i ≡ some u → P u) → get_elem? (set (set views j a) k empty_view) i ≡ some u → P u
after_join P views j k a first second i u before there = ⊎_elim
    (λ t. subst P t.1 second)
    (λ t. ⊎_elim (λ q. subst P q.1 first) (λ q. before q.1) (at_set views j i a u t.1))
    (at_set (set views j a) k i empty_view u there)

total_join : (f : View → ℕ) (views : List View) (j k : ℕ) (v w a : View) → get_elem? views j ≡ some v → get_elem? (set views j a) k ≡ some w →
    f empty_view ≡ 0 → f a ≡ f v + f w → total f (set (set views j a) k empty_view) ≡ total f views
total_join f views j k v w a at there nothing_left sum =
    let first = total_set f views j v a at in let second = total_set f (set views j a) k w empty_view there in omega arith

with_incoming_fits : (o : OpeningView) (l : Bounds) (log : List Entry) (v w : View) → 0 < v.fragment.shares → Fits o l log v → Fits o l log w →
    Fits o l log (with_incoming v w)
with_incoming_fits o l log v w some_shares a b = record {
  fragment = a.fragment;
  incoming = b.fragment;
  about = λ _. a.about (omega arith);
  empty = λ none_left. absurd (omega arith);
}

no_incoming_shares : (v : View) → v.incoming ≡ empty_fragment → v.incoming.shares ≡ 0
no_incoming_shares v alone = ap (λ (p : Fragment). p.shares) alone

no_incoming_times : (x : ℕ) (v : View) → v.incoming ≡ empty_fragment → times x v.incoming.mine ≡ 0
no_incoming_times x v alone = ap (λ (p : Fragment). times x p.mine) alone

known_join : (o : OpeningView) (l : Bounds) (log : List Entry) (views : List View) (j k : ℕ) (v w : View) → get_elem? views j ≡ some v →
    get_elem? views k ≡ some w → get_elem? (set views j (with_incoming v w)) k ≡ some w → v.incoming ≡ empty_fragment → w.incoming ≡ empty_fragment →
    0 < v.fragment.shares →
    AreKnown o l log views → AreKnown o l log (set (set views j (with_incoming v w)) k empty_view)
known_join o l log views j k v w at other there alone other_alone some_shares known = record {
  fits = λ i u here. after_join (Fits o l log) views j k (with_incoming v w)
      (with_incoming_fits o l log v w some_shares (known.fits j v at) (known.fits k w other)) (empty_fits o l log) i u (known.fits i u) here;
  shares =
      let a = no_incoming_shares v alone in let b = no_incoming_shares w other_alone in
      total_join shares_of views j k v w (with_incoming v w) at there refl (omega arith) ∙ known.shares;
  once = λ x.
      let a = no_incoming_times x v alone in let b = no_incoming_times x w other_alone in
      total_join (times_in_view x) views j k v w (with_incoming v w) at there refl (omega arith) ∙ known.once x;
}

pub joining : (o : OpeningView) (l : Bounds) (id other : ℕ) (v w : View) → v.held ≡ None → w.held ≡ None → v.incoming ≡ empty_fragment →
    w.incoming ≡ empty_fragment →
    0 < v.fragment.shares → Joins (IsKept o l) id v other w (with_incoming v w) empty_view
joining o l id other v w held other_held alone other_alone some_shares s kept at apart there =
    let a = with_incoming v w in
    let here : get_elem? s.views other ≡ some w = sym (set_else s.views id other a apart) ∙ there in record {
      log = kept.log;
      first = kept.first;
      lock = ⊎_elim
          (λ is_free. inl (record {
            words = is_free.words;
            journal = is_free.journal;
            first_is = is_free.first_is;
            homes = is_free.homes;
            window = is_free.window;
            none_holds = λ k u at_k. after_join (λ (z : View). z.held ≡ None) s.views id other a held refl k u (is_free.none_holds k u) at_k;
          }))
          (λ is_held. inr (record {
            words = is_held.words;
            homes = is_held.homes;
            holder = is_held.holder;
            who = is_held.who;
            there = set_else (set s.views id a) other is_held.holder empty_view (not_holder s kept.log is_held other w here other_held)
                ∙ set_else s.views id is_held.holder a (not_holder s kept.log is_held id v at held) ∙ is_held.there;
            held = is_held.held;
            first_is = is_held.first_is;
            others = λ k u at_k not_k.
                after_join (λ (z : View). z.held ≡ None) s.views id other a held refl k u (λ t. is_held.others k u t not_k) at_k;
          }))
          kept.lock;
      legal = kept.legal;
      known = known_join o l kept.log s.views id other v w at here there alone other_alone some_shares kept.known;
      forgot = λ k u at_k. after_join (Knows kept.first) s.views id other a
          ((kept.forgot id v at).0, (kept.forgot other w here).0, (kept.forgot id v at).2)
          (omega arith, omega arith, λ has. absurd (omega arith)) k u (kept.forgot k u) at_k;
      -- the right of the other seat is given up
      right =
          let first = right_set s.views id v a at refl kept.right in
          let second : total right_of (set (set s.views id a) other empty_view) + w.right ≡ total right_of (set s.views id a) + 0 =
          total_set right_of (set s.views id a) other w empty_view there in omega arith;
    }
