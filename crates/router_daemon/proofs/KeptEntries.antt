-- What is kept where entries are forgotten.
use Rattle.std.proofs.Common.{◌≡◌, ◌∙◌, ap, ℕ, ◌+◌, ◌-◌, ◌<◌, ◌≤◌, true, List, length, length-append, inl, inr, arith}
use Rattle.std.specs.Prelude.{◌⊎◌, max, min}
use Rattle.std.proofs.lemmas.Bool.{cases_lt}
use Rattle.route_history.specs.Beginning.{Begins}
use Rattle.route_history.specs.declared.bounds.Bounds.{Bounds}
use Rattle.route_history.specs.declared.entry.Entry.{Entry}
use Rattle.route_history.specs.Long.{LongView, OfHistory}
use Rattle.route_history.proofs.Windows.{kept_are}
use Rattle.slot_lock.specs.Calls.{Forgot}
use Rattle.slot_lock.specs.Passes.{PassView, RouterView, bounds_of}
use Rattle.router_daemon.specs.Forgetting.{Counts, Forgets}
use Rattle.router_daemon.specs.declared.forgetting.Counting.{Counting}

-- how many entries there are is counted for each history that the journal may have the end of
pub counts : (j : LongView) (after : Counting) → after.end ≡ min (j.first + length j.entries) 18446744073709551615 →
    OfHistory j (λ history. Counts history after)
counts j after is = λ o b log w legal. is ∙ ap (λ (n : ℕ). min n 18446744073709551615) (kept_are o b log j j w)

-- what begins a list is no longer than the list
no_longer : (xs ys : List Entry) → Begins xs ys → length xs ≤ length ys
no_longer xs ys b = let long = ap (λ (l : List Entry). length l) b.is ∙ length-append xs b.rest in omega arith

-- `first` entries were forgotten, and now `later` are
at_most : (first later forgot upto : ℕ) → first ≡ forgot → ((later ≡ first → ⊥) → later ≤ upto) → (first < later) ⊎ (later ≤ first) →
    later ≤ max forgot upto
at_most first later forgot upto same asked (inl some) = let most : later ≤ upto = asked (λ is. absurd (omega arith)) in omega arith
at_most first later forgot upto same asked (inr none) = omega arith

-- Who may forget had seen `old`, looked, and then forgot below a position.
module _ (r : RouterView) (old mid new : PassView) (kept end upto count : ℕ) (before : Begins old.fragment.seen mid.fragment.seen)
    (exact : mid.fragment.forgot ≡ old.fragment.forgot) (counted : end ≡ min (length mid.fragment.seen) 18446744073709551615)
    (is_upto : upto ≡ end - kept) (endless : r.endless ≡ true) (h : Forgot r mid upto count new) where
  grown : (length old.fragment.seen ≤ length mid.fragment.seen) × (length mid.fragment.seen ≤ length new.fragment.seen)
  grown = (no_longer old.fragment.seen mid.fragment.seen before, no_longer mid.fragment.seen new.fragment.seen h.begins)

  all_are : h.journal.first + length h.journal.entries ≡ length new.fragment.seen
  all_are = kept_are r.opening (bounds_of r) new.fragment.seen h.journal h.journal h.window

  forgot_is : new.fragment.forgot ≡ h.after.first
  forgot_is = h.forgot ∙ h.counted

  keeping : new.fragment.forgot ≤ max old.fragment.forgot (end - kept)
  keeping =
      let most = at_most h.journal.first h.after.first old.fragment.forgot upto (h.exact ∙ exact) h.forgotten.asked
      (cases_lt h.journal.first h.after.first) in
      let is = forgot_is in omega (arith, most, is, is_upto)

  freeing : length new.fragment.seen ≤ 9223372036854775808 → end < new.fragment.forgot + kept + 1024
  freeing most =
      let its : h.journal.bounds.endless ≡ true = ap (λ (v : LongView). v.bounds.endless) h.window.is ∙ endless in
      let all = all_are in
      let longer = grown.1 in
      let below = h.forgotten.frees its (omega arith) (omega arith) in
      let is = forgot_is in omega arith

  pub forgets : Forgets kept end old new
  forgets = record {
    from = λ most. let seen = grown.0 in let longer = grown.1 in omega arith;
    to = let longer = grown.1 in omega arith;
    keeps = keeping;
    frees = freeing;
  }
