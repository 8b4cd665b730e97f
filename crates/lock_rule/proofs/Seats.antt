-- The steps of the lock, for a seat as a function has it.
use Rattle.std.proofs.Common.{◌≡◌, ◌∙◌, sym, ap, subst, ℕ, ◌+◌, ◌<◌, ◌≤◌, false, Some, None, Option, List, [], ◌∷◌, ◌++◌, eqb, length, arith}
use prog.Atomic.{either}
use Rattle.atomic_table.specs.Table.{Allows, rest}
use Rattle.netchange_core.specs.declared.event.Event.{Event}
use Rattle.netchange_core.specs.declared.reply.Reply.{Reply}
use Rattle.netchange_core.specs.OpeningView.{OpeningView}
use Rattle.route_history.specs.declared.bounds.Bounds.{Bounds}
use Rattle.route_history.specs.declared.entry.Entry.{Entry}
use Rattle.route_history.specs.History.{IsLegal}
use Rattle.route_history.specs.Calls.{entry}
use Rattle.route_history.specs.JournalView.{JournalView}
use Rattle.route_history.specs.Long.{IsForgotten, IsLongEntered, IsWindow, IsWithin, LongView, OfHistory}
use Rattle.route_history.proofs.Windows.{entered_at, entered_legal, entered_window, kept_are, last_is, limits_are}
use Rattle.route_history.specs.declared.fault.CallFault.TheVariants as fault
use Rattle.lock_rule.specs.Entering.{Enters, EntersNot, Forgets, Observes}
use Rattle.lock_rule.specs.Rule.{IsKept}
use Rattle.lock_rule.specs.Steps.{IsHolding, Seated, TriesAcquire, after_release, after_release_entered, after_release_seen, last_entry}
use Rattle.lock_rule.specs.Views.{entries_in, held_history, released_at, released_with, shares_of}
use Rattle.lock_rule.proofs.Acquiring.{acquiring}
use Rattle.lock_rule.proofs.Releasing.{releasing, releasing_entered, releasing_seen, same_pair}

pub acquiring_seated : (o : OpeningView) (l : Bounds) (slots id : ℕ) (m : Seated) → m.1 ≡ [] → m.0.held ≡ None → 0 < shares_of m.0 →
    Allows (IsKept o l) slots id m 0 (λ n. either (eqb n 0) 1 n) (TriesAcquire m)
acquiring_seated o l slots id m empty held some_shares =
    subst (λ (c : List (ℕ × LongView)). Allows (IsKept o l) slots id (m.0, c) 0 (λ n. either (eqb n 0) 1 n) (TriesAcquire (m.0, c)))
    (sym empty) (acquiring o l slots id m.0 held some_shares)

same_slot : (xs more : List (ℕ × LongView)) (a b : LongView) → xs ≡ (0, a) ∷ more → xs ≡ (0, b) ∷ [] → a ≡ b
same_slot xs more a b p q =
    ap (λ (l : List (ℕ × LongView)). first l) (sym p ∙ q)
  where
    first : List (ℕ × LongView) → LongView
    first [] = a
    first (x ∷ l) = x.1

module _ (m : Seated) (h : IsHolding m) (old new : LongView) (before : m.1 ≡ (0, old) ∷ rest m.1) where
  no_rest : rest m.1 ≡ []
  no_rest = ap (λ (l : List (ℕ × LongView)). rest l) h.slots

  log_is : h.log ≡ held_history m.0
  log_is = sym (ap (λ (n : Option (List Entry)). entries_in n) h.held)

  holds_history : m.0.held ≡ Some (held_history m.0)
  holds_history = h.held ∙ ap (λ (es : List Entry). Some es) log_is

  -- the journal that was lent has the end of the history acquired
  old_is : old ≡ h.journal
  old_is = same_slot m.1 (rest m.1) old h.journal before h.slots

  pub first_before : m.0.held_first ≡ old.first
  first_before = h.held_first ∙ ap (λ (j : LongView). j.first) (sym old_is)

  forgot_before : m.0.fragment.forgot ≤ old.first
  forgot_before = let same = ap (λ (j : LongView). j.first) old_is in let most = h.forgot in omega arith

  forgot_is : 0 < m.0.right → m.0.fragment.forgot ≡ old.first
  forgot_is has = let same = ap (λ (j : LongView). j.first) old_is in let most = h.forgot in let all = h.right has in omega arith

  pub window_before : IsWindow h.opening h.bounds (held_history m.0) old
  window_before = subst (λ (es : List Entry). IsWindow h.opening h.bounds es old) log_is
      (subst (λ (j : LongView). IsWindow h.opening h.bounds h.log j) (sym (same_slot m.1 (rest m.1) old h.journal before h.slots)) h.window)

  pub legal_before : IsLegal h.opening (held_history m.0)
  legal_before = subst (λ (es : List Entry). IsLegal h.opening es) log_is h.legal

  pub releasing_entered_seated : (o : OpeningView) (l : Bounds) (slots id : ℕ) (event : Event) (at : ℕ) (reply : Reply) →
      IsLongEntered old new event at reply →
      Allows (IsKept o l) slots id (m.0, (0, new) ∷ rest m.1) 0 (λ _. 0) (λ _ w. w ≡ after_release_entered (m.0, (0, new) ∷ rest m.1))
  releasing_entered_seated o l slots id event at reply is =
      subst (λ (c : List (ℕ × LongView)). Allows (IsKept o l) slots id (m.0, (0, new) ∷ c) 0 (λ _. 0)
      (λ _ w. w ≡ after_release_entered (m.0, (0, new) ∷ c)))
      (sym no_rest)
      (releasing_entered o l slots id m.0 (h.opening, h.bounds) new (entry event reply) h.some_shares holds_history h.about
      (entered_window h.opening h.bounds (held_history m.0) old new window_before event at reply is)
      (entered_legal h.opening h.bounds (held_history m.0) old new window_before event at reply is legal_before)
      (ap last_entry is.entries ∙ last_is old.entries (entry event reply))
      (is.first ∙ sym first_before))

  same_about : (o : OpeningView) (b : Bounds) → m.0.about ≡ Some (o, b) → ◌≡◌ {A = OpeningView × Bounds} (h.opening, h.bounds) (o, b)
  same_about o b about = same_pair (h.opening, h.bounds) (o, b) m.0.about h.about about

  pub has_entered : (event : Event) (at : ℕ) (reply : Reply) (w : Seated) → IsLongEntered old new event at reply →
      w ≡ after_release_entered (m.0, (0, new) ∷ rest m.1) → Enters m event at reply w
  has_entered event at reply w is after =
      let position = entered_at h.opening h.bounds (held_history m.0) old new window_before event at reply is in
      let last : last_entry new.entries ≡ entry event reply ∷ [] = ap last_entry is.entries ∙ last_is old.entries (entry event reply) in record {
        position = position;
        below = is.below;
        after = after ∙ (λ i. (released_with m.0 (held_history m.0 ++ last i) (m.0.fragment.mine ++ sym position i ∷ []), []));
        legal = λ o b about. subst (λ (z : OpeningView × Bounds). IsLegal z.0 (held_history m.0 ++ entry event reply ∷ [])) (same_about o b about)
            (entered_legal h.opening h.bounds (held_history m.0) old new window_before event at reply is legal_before);
      }

  pub is_full : (w : Seated) → new ≡ old → length old.entries ≡ old.bounds.limit → w ≡ after_release_seen (m.0, (0, new) ∷ rest m.1) → EntersNot fault.Full m w
  is_full w stays full after = record {
    first = old.first;
    now = after ∙ (λ i. (released_at m.0 (held_history m.0) m.0.fragment.mine (stays i).first, []));
    on = forgot_before;
    full = λ o b about. subst (λ (z : OpeningView × Bounds). (length (held_history m.0) ≡ old.first + z.1.limit) × (z.1.endless ≡ false → old.first ≡ 0))
        (same_about o b about) (
          let sum = kept_are h.opening h.bounds (held_history m.0) old new window_before in
              let limit = limits_are h.opening h.bounds (held_history m.0) old new window_before in omega arith,
          window_before.within.whole,
        );
  }

  pub has_observed : {Seer : Type 0} (sees : Seer → ℕ → JournalView → Seer → Type 0) (before_it later : Seer) (w : Seated) →
      OfHistory old (λ history. sees before_it old.first history later) → new ≡ old → w ≡ after_release_seen (m.0, (0, new) ∷ rest m.1) →
      Observes sees m before_it later w
  has_observed sees before_it later w saw stays after = record {
    first = old.first;
    saw = λ o b about.
        subst (λ (z : OpeningView × Bounds). sees before_it old.first (record { opening = z.0; limit = z.1.limit; entries = held_history m.0 }) later)
        (same_about o b about) (saw h.opening h.bounds (held_history m.0) window_before legal_before);
    within = λ o b about. subst (λ (z : OpeningView × Bounds). IsWithin z.1 old.first (length (held_history m.0))) (same_about o b about)
        window_before.within;
    now = after ∙ (λ i. (released_at m.0 (held_history m.0) m.0.fragment.mine (stays i).first, []));
    on = forgot_before;
    exact = λ has. sym (forgot_is has);
  }

  pub has_forgotten : (upto count : ℕ) (w : Seated) → 0 < m.0.right → IsForgotten old new upto → count ≡ new.first →
      w ≡ after_release_seen (m.0, (0, new) ∷ rest m.1) →
      Forgets m upto count w
  has_forgotten upto count w has is counted after = record {
    journal = old;
    slots = before ∙ ap (λ (l : List (ℕ × LongView)). (0, old) ∷ l) no_rest;
    after = new;
    forgotten = is;
    counted = counted;
    exact = sym (forgot_is has);
    now = after ∙ (λ i. (released_at m.0 (held_history m.0) m.0.fragment.mine (sym counted i), []));
  }

  -- a journal that has the end of the same history
  pub releasing_seen_seated : (o : OpeningView) (l : Bounds) (slots id : ℕ) → IsWindow h.opening h.bounds (held_history m.0) new → old.first ≤ new.first →
      (old.first < new.first → 0 < m.0.right) →
      Allows (IsKept o l) slots id (m.0, (0, new) ∷ rest m.1) 0 (λ _. 0) (λ _ w. w ≡ after_release_seen (m.0, (0, new) ∷ rest m.1))
  releasing_seen_seated o l slots id window on forgets =
      subst (λ (c : List (ℕ × LongView)). Allows (IsKept o l) slots id (m.0, (0, new) ∷ c) 0 (λ _. 0)
      (λ _ w. w ≡ after_release_seen (m.0, (0, new) ∷ c)))
      (sym no_rest)
      (releasing_seen o l slots id m.0 (h.opening, h.bounds) new h.some_shares holds_history h.about window legal_before
      (let was = first_before in omega arith) (λ more. forgets (let was = first_before in omega arith)))

  pub releasing_seated : (o : OpeningView) (l : Bounds) (slots id : ℕ) → IsWindow h.opening h.bounds (held_history m.0) new → new.first ≡ old.first →
      Allows (IsKept o l) slots id (m.0, (0, new) ∷ rest m.1) 0 (λ _. 0) (λ _ w. w ≡ after_release (m.0, (0, new) ∷ rest m.1))
  releasing_seated o l slots id window stays =
      subst (λ (c : List (ℕ × LongView)). Allows (IsKept o l) slots id (m.0, (0, new) ∷ c) 0 (λ _. 0)
      (λ _ w. w ≡ after_release (m.0, (0, new) ∷ c)))
      (sym no_rest)
      (releasing o l slots id m.0 (h.opening, h.bounds) new h.some_shares holds_history h.about window legal_before (stays ∙ sym first_before))
