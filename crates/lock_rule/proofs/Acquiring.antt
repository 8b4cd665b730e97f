-- The try to acquire the lock keeps the rule.
use Rattle.std.proofs.Common.{◌≡◌, ◌∙◌, sym, ap, refl, subst, ℕ, ◌<◌, ◌≢◌, inr, ⊎_elim, Some, None, Option, List, [], ◌∷◌, get_or, set, eqb, arith}
use mathlib.Core.Option.{none, some, some-injective, some-ne-none}
use mathlib.Core.Option as core_option
use lib.ListN.{get_elem?}
use prog.Atomic.{either}
use Rattle.atomic_table.specs.Table.{State, Act, keeps, takes, Valid, homes_after, carried_after, Allows}
use Rattle.atomic_table.proofs.Lists.{at_set, set_here, set_else}
use Rattle.netchange_core.specs.OpeningView.{OpeningView}
use Rattle.route_history.specs.declared.bounds.Bounds.{Bounds}
use Rattle.route_history.specs.declared.entry.Entry.{Entry}
use Rattle.route_history.specs.Long.{LongView}
use Rattle.lock_rule.specs.declared.rule.View.{View}
use Rattle.lock_rule.specs.Views.{shares_of, with_failed_tries, with_held}
use Rattle.lock_rule.specs.Rule.{Fits, IsFree, IsHeld, IsKept}
use Rattle.lock_rule.specs.Steps.{TriesAcquire}
use Rattle.lock_rule.proofs.Alone.{all_seen}
use Rattle.lock_rule.proofs.Totals.{total_two}
use Rattle.lock_rule.proofs.Keeping.{knows_set, right_set}
use Rattle.lock_rule.proofs.Prefixes.{whole}
use Rattle.lock_rule.proofs.Keeping.{holder_has_shares, known_set, there_below}

-- what a try asks for, where the word and the slot are these
abbrev TriesAt : OpeningView → Bounds → ℕ → View → List View → List ℕ → List (core_option.Option LongView) → Type 0
TriesAt o l id v views words homes = (w : View) × (a : Act LongView) × Valid homes [] a
    × IsKept o l (record {
      words = set words 0 (either (eqb (get_or words 0 0) 0) 1 (get_or words 0 0));
      homes = homes_after homes [] a;
      views = set views id w;
    })
    × TriesAcquire (v, []) (get_or words 0 0) (w, carried_after [] a)

with_held_fits : (o : OpeningView) (l : Bounds) (log es : List Entry) (first : ℕ) (v : View) → 0 < shares_of v → Fits o l log v → Fits o l log (with_held v es first)
with_held_fits o l log es first v some_shares h = record { fragment = h.fragment; incoming = h.incoming; about = h.about; empty = λ e. absurd (omega arith) }

tried_fits : (o : OpeningView) (l : Bounds) (log : List Entry) (v : View) (n : ℕ) → 0 < shares_of v → Fits o l log v → Fits o l log (with_failed_tries n v)
tried_fits o l log v n some_shares h = record {
  fragment = record { begins = h.fragment.begins; within = h.fragment.within };
  incoming = h.incoming;
  about = h.about;
  empty = λ e. absurd (omega arith);
}

acquires_free : (o : OpeningView) (l : Bounds) (id : ℕ) (v : View) (s : State LongView View) (kept : IsKept o l s) (is_free : IsFree o l kept.log kept.first s) →
    get_elem? s.views id ≡ some v → 0 < shares_of v → TriesAt o l id v s.views (0 ∷ []) (some is_free.journal ∷ [])
acquires_free o l id v s kept is_free at some_shares = let log = kept.log in let w = with_held v log is_free.journal.first in let fits = kept.known.fits id v at in (
  w,
  takes 0 is_free.journal,
  refl,
  record {
    log = log;
    first = kept.first;
    lock = inr (record {
      words = refl;
      homes = refl;
      holder = id;
      who = w;
      there = set_here s.views id w (there_below s.views id v at);
      held = refl;
      first_is = is_free.first_is;
      others = λ k u there apart. ⊎_elim (λ t. absurd (apart t.0)) (λ t. is_free.none_holds k u t.1) (at_set s.views id k w u there);
    });
    legal = kept.legal;
    known = known_set o l log log s.views id v w at kept.known (whole log) (with_held_fits o l log log is_free.journal.first v some_shares fits) refl (λ x. refl);
    forgot = knows_set kept.first s.views id w (kept.forgot id v at) kept.forgot;
    right = right_set s.views id v w at refl kept.right;
  },
  record {
    acquired = λ _. record {
      holding = record {
        opening = o;
        bounds = l;
        log = log;
        journal = is_free.journal;
        slots = refl;
        window = is_free.window;
        some_shares = some_shares;
        held = refl;
        held_first = refl;
        forgot = let same = is_free.first_is in let most = (kept.forgot id v at).0 in omega arith;
        right = λ has. let same = is_free.first_is in let all = (kept.forgot id v at).2 has in omega arith;
        about = fits.about some_shares;
        legal = kept.legal;
      };
      view = refl;
      begins = fits.fragment.begins;
      alone = λ incoming all. all_seen o l id v s kept at incoming all;
    };
    found_held = λ not_free. absurd (not_free refl);
  },
)

finds_held : (o : OpeningView) (l : Bounds) (id : ℕ) (v : View) (s : State LongView View) (kept : IsKept o l s) → (is_held : IsHeld kept.log kept.first s) →
    get_elem? s.views id ≡ some v → 0 < shares_of v → v.held ≡ None → is_held.holder ≢ id → TriesAt o l id v s.views (1 ∷ []) (none ∷ [])
finds_held o l id v s kept is_held at some_shares held apart = let log = kept.log in let w = with_failed_tries 1 v in let fits = kept.known.fits id v at in (
  w,
  keeps,
  tt,
  record {
    log = log;
    first = kept.first;
    lock = inr (record {
      words = refl;
      homes = refl;
      holder = is_held.holder;
      who = is_held.who;
      there = set_else s.views id is_held.holder w apart ∙ is_held.there;
      held = is_held.held;
      first_is = is_held.first_is;
      others = λ k u there other. ⊎_elim (λ t. ap (λ (z : View). z.held) (sym t.1) ∙ held) (λ t. is_held.others k u t.1 other) (at_set s.views id k w u there);
    });
    legal = kept.legal;
    known = known_set o l log log s.views id v w at kept.known (whole log) (tried_fits o l log v 1 some_shares fits) refl (λ x. refl);
    forgot = knows_set kept.first s.views id w (kept.forgot id v at) kept.forgot;
    right = right_set s.views id v w at refl kept.right;
  },
  record {
    acquired = λ none_has. absurd (omega arith);
    found_held = λ _. record {
      slots = refl;
      view = refl;
      others = λ all.
          let two = total_two shares_of s.views is_held.holder id is_held.who v is_held.there at apart in
          let sum = kept.known.shares in
          let holds = holder_has_shares o l log log is_held.who (kept.known.fits is_held.holder is_held.who is_held.there) is_held.held in
          absurd (omega arith);
    };
  },
)

none_is_no_history : (x : Option (List Entry)) (es : List Entry) → x ≡ None → x ≡ Some es → ⊥
none_is_no_history x es p q = cc

pub not_holder : {first : ℕ} (s : State LongView View) (log : List Entry) (is_held : IsHeld log first s) (id : ℕ) (v : View) → get_elem? s.views id ≡ some v →
    v.held ≡ None → is_held.holder ≢ id
not_holder s log is_held id v at held e =
    let same : is_held.who ≡ v = some-injective is_held.who v (sym is_held.there ∙ ap (λ (k : ℕ). get_elem? s.views k) e ∙ at) in
    none_is_no_history v.held log held (ap (λ (z : View). z.held) (sym same) ∙ is_held.held)

pub acquiring : (o : OpeningView) (l : Bounds) (slots id : ℕ) (v : View) → v.held ≡ None → 0 < shares_of v →
    Allows (IsKept o l) slots id (v, []) 0 (λ n. either (eqb n 0) 1 n) (TriesAcquire (v, []))
acquiring o l slots id v held some_shares s kept _ at _ = ⊎_elim
    (λ is_free. subst (λ (p : List ℕ × List (core_option.Option LongView)). TriesAt o l id v s.views p.0 p.1)
    (λ i. (sym is_free.words i, sym is_free.homes i)) (acquires_free o l id v s kept is_free at some_shares))
    (λ is_held. subst (λ (p : List ℕ × List (core_option.Option LongView)). TriesAt o l id v s.views p.0 p.1)
    (λ i. (sym is_held.words i, sym is_held.homes i))
    (finds_held o l id v s kept is_held at some_shares held (not_holder s kept.log is_held id v at held)))
    kept.lock
