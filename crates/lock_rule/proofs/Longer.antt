-- The longer of two histories, and what a load tells of two fragments.
use Rattle.std.proofs.Common.{◌≡◌, ◌∙◌, sym, ap, refl, subst, ℕ, ◌+◌, ◌<◌, ◌≤◌, inl, inr, ⊎_elim, Bool, true}
use Rattle.std.proofs.Common.{false, nat_lt, if◌then◌else◌, None, List, ◌++◌, length, set, get_or, arith}
use Rattle.std.proofs.lemmas.Bool.Decides.{nat_tests}
use mathlib.Core.Option.{none, some}
use mathlib.Core.Option as core_option
use lib.ListN.{get_elem?}
use Rattle.atomic_table.specs.Table.{State, Act, Me, keeps, Valid, homes_after, carried_after, Allows}
use Rattle.atomic_table.proofs.Lists.{at_set, set_else}
use Rattle.netchange_core.specs.OpeningView.{OpeningView}
use Rattle.route_history.specs.declared.bounds.Bounds.{Bounds}
use Rattle.route_history.specs.declared.entry.Entry.{Entry}
use Rattle.route_history.specs.Beginning.{Begins}
use Rattle.route_history.specs.Long.{LongView}
use Rattle.route_history.specs.Positions.{once_below, times}
use Rattle.lock_rule.specs.declared.rule.Fragment.{Fragment}
use Rattle.lock_rule.specs.declared.rule.View.{View}
use Rattle.lock_rule.specs.Views.{empty_fragment, longer, shares_of, times_in_view}
use Rattle.lock_rule.specs.Rule.{AreIn, AreKnown, Fits, IsKept, Knows, Sees}
use Rattle.lock_rule.specs.Steps.{Agree, Meets, Merges, Seated, merged, with_seen}
use Rattle.lock_rule.proofs.Splitting.{sees_nothing}
use Rattle.lock_rule.proofs.Releasing.{zero_or_more}
use Rattle.lock_rule.proofs.Keeping.{known_set, knows_set, once_at_most, right_set, times_append}
use Rattle.lock_rule.proofs.Prefixes.{nested, shorter, whole}
use Rattle.lock_rule.proofs.Acquiring.{not_holder}
use Rattle.lock_rule.proofs.Totals.{total_one}

-- both begin the longer, which begins the history
pub record Nests (log a b : List Entry) : Type 0 where
  pub first : Begins a (longer a b)
  pub second : Begins b (longer a b)
  pub both : Begins (longer a b) log

pick : (log a b : List Entry) (t : Bool) → nat_lt (length a) (length b) ≡ t → Begins a log → Begins b log →
    Begins a (if t then b else a) × Begins b (if t then b else a) × Begins (if t then b else a) log
pick log a b true is p q = (nested a b log p q (grind (arith, nat_tests)), whole b, q)
pick log a b false is p q = (whole a, nested b a log q p (grind (arith, nat_tests)), p)

pub nests : (log a b : List Entry) → Begins a log → Begins b log → Nests log a b
nests log a b p q = let h = pick log a b (nat_lt (length a) (length b)) refl p q in record { first = h.0; second = h.1; both = h.2 }

pub within_longer : (mine : List ℕ) (seen long : List Entry) → AreIn mine seen → Begins seen long → AreIn mine long
within_longer mine seen long within on x there = let below = within x there in let le = shorter seen long on in omega arith

pub within_merged : (mine more : List ℕ) (long : List Entry) → AreIn mine long → AreIn more long → AreIn (mine ++ more) long
within_merged mine more long first second x there = ⊎_elim
    (λ none_here. let sum = times_append x mine more in second x (omega arith))
    (λ some_here. first x some_here)
    (zero_or_more (times x mine))

agree : (log : List Entry) (p q : Fragment) → Sees log p → Sees log q → ((x : ℕ) → times x p.mine + times x q.mine ≤ 1) →
    p.shares + q.shares ≤ 65536 → Agree p q
agree log p q a b apart shares = let h = nests log p.seen q.seen a.begins b.begins in record { first = h.first; second = h.second; apart = apart; shares = shares }

pub merge_fits : (o : OpeningView) (l : Bounds) (log : List Entry) (v : View) → 0 < shares_of v → Fits o l log v →
    Fits o l log (record v { fragment = merged v.fragment v.incoming; incoming = empty_fragment })
merge_fits o l log v some_shares h = let n = nests log v.fragment.seen v.incoming.seen h.fragment.begins h.incoming.begins in record {
  fragment = record {
    begins = n.both;
    within = within_merged v.fragment.mine v.incoming.mine (longer v.fragment.seen v.incoming.seen)
        (within_longer v.fragment.mine v.fragment.seen (longer v.fragment.seen v.incoming.seen) h.fragment.within n.first)
        (within_longer v.incoming.mine v.incoming.seen (longer v.fragment.seen v.incoming.seen) h.incoming.within n.second);
  };
  incoming = sees_nothing log;
  about = λ _. h.about some_shares;
  empty = λ none_left. absurd (omega arith);
}

pub meet_fits : (o : OpeningView) (l : Bounds) (log : List Entry) (v : View) → 0 < shares_of v → Fits o l log v →
    Fits o l log (record v {
      fragment = with_seen v.fragment (longer v.fragment.seen v.incoming.seen);
      incoming = with_seen v.incoming (longer v.fragment.seen v.incoming.seen);
    })
meet_fits o l log v some_shares h = let n = nests log v.fragment.seen v.incoming.seen h.fragment.begins h.incoming.begins in record {
  fragment = record {
    begins = n.both;
    within = within_longer v.fragment.mine v.fragment.seen (longer v.fragment.seen v.incoming.seen) h.fragment.within n.first;
  };
  incoming = record {
    begins = n.both;
    within = within_longer v.incoming.mine v.incoming.seen (longer v.fragment.seen v.incoming.seen) h.incoming.within n.second;
  };
  about = λ _. h.about some_shares;
  empty = λ none_left. absurd (omega arith);
}

-- two fragments of one view agree
pub fragments_agree : (o : OpeningView) (l : Bounds) (log : List Entry) (views : List View) (k : ℕ) (v : View) → get_elem? views k ≡ some v →
    AreKnown o l log views → Agree v.fragment v.incoming
fragments_agree o l log views k v at known = let h = known.fits k v at in
    agree log v.fragment v.incoming h.fragment h.incoming (λ x.
    let one = total_one (times_in_view x) views k v at in let sum = known.once x in let most = once_at_most x (length log) in omega arith)
    (let one = total_one shares_of views k v at in let sum = known.shares in omega arith)

-- what a load asks for, where the word and the slot are these
abbrev LoadsAt : OpeningView → Bounds → ℕ → Seated → List View → (Me LongView View → Type 0) → List ℕ → List (core_option.Option LongView) → Type 0
LoadsAt o l id m views then_is words homes = (w : View) × (a : Act LongView) × Valid homes m.1 a
    × IsKept o l (record {
      words = set words 0 (get_or words 0 0);
      homes = homes_after homes m.1 a;
      views = set views id w;
    })
    × then_is (w, carried_after m.1 a)

-- what a view that changes at a load has to show
pub record MayLoad (v w : View) : Type 0 where
  pub held : v.held ≡ None
  pub after : w.held ≡ None
  pub fits : (o : OpeningView) (l : Bounds) (log : List Entry) → Fits o l log v → Fits o l log w
  pub shares : shares_of w ≡ shares_of v
  pub times_same : (x : ℕ) → times_in_view x w ≡ times_in_view x v
  pub knows : (first : ℕ) → Knows first v → Knows first w
  pub right : w.right ≡ v.right

known_after_load : (o : OpeningView) (l : Bounds) (id : ℕ) (m : Seated) (w : View) (s : State LongView View) (kept : IsKept o l s) → MayLoad m.0 w →
    get_elem? s.views id ≡ some m.0 → AreKnown o l kept.log (set s.views id w)
known_after_load o l id m w s kept may at = known_set o l kept.log kept.log s.views id m.0 w at kept.known (whole kept.log)
    (may.fits o l kept.log (kept.known.fits id m.0 at)) may.shares
    (λ x. ap (λ (n : ℕ). n + once_below x (length kept.log)) (may.times_same x))

none_holds_after : (views : List View) (id : ℕ) (w : View) → w.held ≡ None → (k : ℕ) (u : View) → get_elem? (set views id w) k ≡ some u →
    (get_elem? views k ≡ some u → u.held ≡ None) → u.held ≡ None
none_holds_after views id w after k u there before =
    ⊎_elim (λ t. ap (λ (z : View). z.held) (sym t.1) ∙ after) (λ t. before t.1) (at_set views id k w u there)

pub loading : (o : OpeningView) (l : Bounds) (slots id : ℕ) (m : Seated) (w : View) (then_is : Me LongView View → Type 0) → MayLoad m.0 w →
    (Agree m.0.fragment m.0.incoming → then_is (w, m.1)) → Allows (IsKept o l) slots id m 0 (λ n. n) (λ _. then_is)
loading o l slots id m w then_is may tells s kept _ at _ =
    let told = tells (fragments_agree o l kept.log s.views id m.0 at kept.known) in ⊎_elim
    (λ is_free. subst (λ (p : List ℕ × List (core_option.Option LongView)). LoadsAt o l id m s.views then_is p.0 p.1)
    (λ i. (sym is_free.words i, sym is_free.homes i)) (
      w,
      keeps,
      tt,
      record {
        log = kept.log;
        first = kept.first;
        lock = inl (record {
          words = refl;
          journal = is_free.journal;
          first_is = is_free.first_is;
          homes = refl;
          window = is_free.window;
          none_holds = λ k u there. none_holds_after s.views id w may.after k u there (λ t. is_free.none_holds k u t);
        });
        legal = kept.legal;
        known = known_after_load o l id m w s kept may at;
        forgot = knows_set kept.first s.views id w (may.knows kept.first (kept.forgot id m.0 at)) kept.forgot;
        right = right_set s.views id m.0 w at may.right kept.right;
      },
      told,
    ))
    (λ is_held. subst (λ (p : List ℕ × List (core_option.Option LongView)). LoadsAt o l id m s.views then_is p.0 p.1)
    (λ i. (sym is_held.words i, sym is_held.homes i)) (
      w,
      keeps,
      tt,
      record {
        log = kept.log;
        first = kept.first;
        lock = inr (record {
          words = refl;
          homes = refl;
          holder = is_held.holder;
          who = is_held.who;
          there = set_else s.views id is_held.holder w (not_holder s kept.log is_held id m.0 at may.held) ∙ is_held.there;
          held = is_held.held;
          first_is = is_held.first_is;
          others = λ k u there other. none_holds_after s.views id w may.after k u there (λ t. is_held.others k u t other);
        });
        legal = kept.legal;
        known = known_after_load o l id m w s kept may at;
        forgot = knows_set kept.first s.views id w (may.knows kept.first (kept.forgot id m.0 at)) kept.forgot;
        right = right_set s.views id m.0 w at may.right kept.right;
      },
      told,
    ))
    kept.lock

pub merging : (o : OpeningView) (l : Bounds) (slots id : ℕ) (m : Seated) → m.0.held ≡ None → 0 < shares_of m.0 →
    Allows (IsKept o l) slots id m 0 (λ n. n) (λ _ w. Merges m w)
merging o l slots id m held some_shares =
    let w = record m.0 { fragment = merged m.0.fragment m.0.incoming; incoming = empty_fragment } in
    loading o l slots id m w (λ u. Merges m u) (record {
      held = held;
      after = held;
      fits = λ o l log h. merge_fits o l log m.0 some_shares h;
      shares = omega arith;
      times_same = λ x. let sum = times_append x m.0.fragment.mine m.0.incoming.mine in omega arith;
      knows = λ first h. let a = h.0 in let b = h.1 in (omega arith, omega arith, λ has. let c = h.2 has in omega arith);
      right = refl;
    }) (λ told. record { after = refl; agree = told })

pub meeting : (o : OpeningView) (l : Bounds) (slots id : ℕ) (m : Seated) → m.0.held ≡ None → 0 < shares_of m.0 →
    Allows (IsKept o l) slots id m 0 (λ n. n) (λ _ w. Meets m w)
meeting o l slots id m held some_shares =
    let long = longer m.0.fragment.seen m.0.incoming.seen in
    let w = record m.0 { fragment = with_seen m.0.fragment long; incoming = with_seen m.0.incoming long } in
    loading o l slots id m w (λ u. Meets m u) (record {
      held = held;
      after = held;
      fits = λ o l log h. meet_fits o l log m.0 some_shares h;
      shares = refl;
      times_same = λ x. refl;
      knows = λ first h. h;
      right = refl;
    }) (λ told. record { after = refl; agree = told })
