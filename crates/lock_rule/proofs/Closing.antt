-- The table of a router at its end.
use Rattle.std.proofs.Common.{◌≡◌, ◌≢◌, ◌∙◌, sym, ap, subst, ℕ, ⊎_elim, None, List, [], ◌∷◌, arith}
use mathlib.Core.Option.{none, some, some-injective}
use mathlib.Core.Option as core_option
use lib.ListN.{get_elem?}
use Rattle.atomic_table.specs.Seated.{TableId}
use Rattle.atomic_table.specs.Table.{Final, Seen, State}
use Rattle.netchange_core.specs.OpeningView.{OpeningView}
use Rattle.route_history.specs.declared.bounds.Bounds.{Bounds}
use Rattle.route_history.specs.Long.{LongView}
use Rattle.lock_rule.specs.declared.rule.View.{View}
use Rattle.lock_rule.specs.Closing.{ClosedLong}
use Rattle.lock_rule.specs.RouterView.{router_view}
use Rattle.lock_rule.specs.Rule.{IsKept}
use Rattle.lock_rule.specs.Views.{all_shares, empty_fragment, shares_of}
use Rattle.lock_rule.proofs.Keeping.{holder_has_shares}
use Rattle.lock_rule.proofs.Acquiring.{not_holder}
use Rattle.lock_rule.proofs.Alone.{all_mine, all_own}
use Rattle.lock_rule.proofs.Totals.{total_two}

word_of : (s : State LongView View) (words : List ℕ) (n k : ℕ) → s.words ≡ k ∷ [] → s.words ≡ words → get_elem? words 0 ≡ some n → n ≡ k
word_of s words n k here same at =
    sym (some-injective k n (ap (λ (ws : List ℕ). get_elem? ws 0) (sym here ∙ same) ∙ at))

-- the journal that comes from the slot
pub closing : (o : OpeningView) (l : Bounds) (id : ℕ) (v : View) (table : TableId) (words : List ℕ) (slots : List LongView) (j : LongView) →
    v.incoming ≡ empty_fragment →
    Final (Seen (IsKept o l) id v) words slots → get_elem? words 0 ≡ some 0 → get_elem? slots 0 ≡ some j → ClosedLong (router_view table o l) v.fragment j
closing o l id v table words slots j incoming (s, (kept, at), same, _, come) word slot = ⊎_elim
    (λ is_free. subst (λ (z : LongView). ClosedLong (router_view table o l) v.fragment z)
    (some-injective is_free.journal j
    (sym (come 0 is_free.journal (ap (λ (hs : List (core_option.Option LongView)). get_elem? hs 0) is_free.homes)) ∙ slot))
    (record {
      log = kept.log;
      window = is_free.window;
      legal = kept.legal;
      begins = (kept.known.fits id v at).fragment.begins;
      once = λ all. all_mine o l id v s kept at incoming all;
    }))
    (λ is_held. let one = word_of s words 0 1 is_held.words same word in absurd (omega arith))
    kept.lock

-- while another seat holds the lock, no pass has all shares
pub held_by : (o : OpeningView) (l : Bounds) (id n : ℕ) (v : View) (words : List ℕ) (slots : List LongView) → v.held ≡ None → v.incoming ≡ empty_fragment →
    Final (Seen (IsKept o l) id v) words slots → get_elem? words 0 ≡ some n → n ≢ 0 → v.fragment.shares ≢ all_shares
held_by o l id n v words slots held incoming (s, (kept, at), same, _, come) word not_free all = ⊎_elim
    (λ is_free. not_free (word_of s words n 0 is_free.words same word))
    (λ is_held.
    let two = total_two shares_of s.views is_held.holder id is_held.who v is_held.there at (not_holder s kept.log is_held id v at held) in
    let whole = all_own v incoming all in
    let sum = kept.known.shares in
    let some_shares = holder_has_shares o l kept.log kept.log is_held.who (kept.known.fits is_held.holder is_held.who is_held.there) is_held.held in
    omega arith)
    kept.lock
