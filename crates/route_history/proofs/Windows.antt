-- The end of a history, as more is entered and more is forgotten.
use Rattle.std.proofs.Common.{◌≡◌, ◌∙◌, sym, ap, refl, subst, ℕ, ◌+◌, ◌-◌, ◌≤◌, false, List, [], ◌∷◌, ◌++◌, drop, length, length-append, length-drop, arith}
use Rattle.std.proofs.lemmas.List.{drop-append-le, drop-drop, drop_at}
use Rattle.netchange_core.specs.declared.event.Event.{Event}
use Rattle.netchange_core.specs.declared.reply.Reply.{Reply}
use Rattle.netchange_core.specs.OpeningView.{OpeningView}
use Rattle.netchange_core.specs.World.{World}
use Rattle.route_history.specs.declared.bounds.Bounds.{Bounds}
use Rattle.route_history.specs.declared.entry.Entry.{Entry}
use Rattle.route_history.specs.Calls.{entry}
use Rattle.route_history.specs.History.{IsLegal, world_of}
use Rattle.route_history.specs.Long.{IsForgotten, IsLongEntered, IsWindow, LongView}
use Rattle.route_history.specs.Recorded.{IsRecorded}
use Rattle.route_history.proofs.Recording.{legal_more, world_more}

module _ (o : OpeningView) (l : Bounds) (log : List Entry) (old new : LongView) (w : IsWindow o l log old) where
  bounds_are : old.bounds ≡ l
  bounds_are = ap (λ (j : LongView). j.bounds) w.is

  pub entries_are : old.entries ≡ drop old.first log
  entries_are = ap (λ (j : LongView). j.entries) w.is

  pub kept_are : old.first + length old.entries ≡ length log
  kept_are =
      let long = ap (λ (es : List Entry). length es) entries_are ∙ length-drop old.first log in
      let below = w.within.below in omega arith

  pub tables_are : old.tables ≡ world_of o log
  tables_are = ap (λ (j : LongView). j.tables) w.is

  pub limits_are : old.bounds.limit ≡ l.limit
  limits_are = ap (λ (b : Bounds). b.limit) bounds_are

  -- one more entry
  module _ (event : Event) (at : ℕ) (reply : Reply) (h : IsLongEntered old new event at reply) where
    pub entered_at : at ≡ length log
    entered_at = h.position ∙ kept_are

    pub entered_legal : IsLegal o log → IsLegal o (log ++ entry event reply ∷ [])
    entered_legal legal = legal_more o log old.tables new.tables event reply reply tables_are h.done refl legal

    entries_now : new.entries ≡ drop new.first (log ++ entry event reply ∷ [])
    entries_now = h.entries ∙ ap (λ (es : List Entry). es ++ entry event reply ∷ []) entries_are
        ∙ sym (drop-append-le old.first log (entry event reply ∷ []) w.within.below)
        ∙ ap (λ (n : ℕ). drop n (log ++ entry event reply ∷ [])) (sym h.first)

    tables_now : new.tables ≡ world_of o (log ++ entry event reply ∷ [])
    tables_now = world_more o log old.tables new.tables event reply reply tables_are h.done refl

    pub entered_window : IsWindow o l (log ++ entry event reply ∷ []) new
    entered_window = record {
      is = λ i. record { bounds = (h.bounds ∙ bounds_are) i; first = new.first; entries = entries_now i; tables = tables_now i };
      opened = h.opening ∙ w.opened;
      within =
          let more = length-append log (entry event reply ∷ []) in
          let same = h.first in
          let below = w.within.below in
          let room = h.room in
          let sum = kept_are in
          let limit = limits_are in record {
            below = omega arith;
            room = omega arith;
            whole = λ whole. same ∙ w.within.whole whole;
          };
    }

  -- fewer entries
  module _ (upto : ℕ) (h : IsForgotten old new upto) where
    entries_left : new.entries ≡ drop new.first log
    entries_left = h.entries ∙ ap (λ (es : List Entry). drop (new.first - old.first) es) entries_are
        ∙ drop-drop (new.first - old.first) old.first log
        ∙ ap (λ (n : ℕ). drop n log) (let on = h.on in let sum : old.first + (new.first - old.first) ≡ new.first = omega arith in sum)

    pub forgotten_window : IsWindow o l log new
    forgotten_window = record {
      is = λ i. record {
        bounds = (h.bounds ∙ bounds_are) i;
        first = new.first;
        entries = entries_left i;
        tables = (h.tables ∙ tables_are) i;
      };
      opened = ap (λ (v : World). v.opening) h.tables ∙ w.opened;
      within =
          let on = h.on in
          let below = h.below in
          let room = w.within.room in
          let sum = kept_are in record {
            below = omega arith;
            room = omega arith;
            whole = λ whole. h.whole (ap (λ (b : Bounds). b.endless) bounds_are ∙ whole) ∙ w.within.whole whole;
          };
    }

pub last_is : (xs : List Entry) (e : Entry) → drop (length (xs ++ e ∷ []) - 1) (xs ++ e ∷ []) ≡ e ∷ []
last_is xs e = drop_at xs (e ∷ []) (length (xs ++ e ∷ []) - 1) (let more = length-append xs (e ∷ []) in omega arith)

-- a journal that may not forget has the whole history
module _ (o : OpeningView) (l : Bounds) (log : List Entry) (j : LongView) (w : IsWindow o l log j) (whole : l.endless ≡ false) where
  pub all_entries : j.entries ≡ log
  all_entries = entries_are o l log j j w ∙ ap (λ (n : ℕ). drop n log) (w.within.whole whole)

  pub all_room : length j.entries ≤ j.bounds.limit
  all_room =
      let sum = kept_are o l log j j w in
      let room = w.within.room in
      let limit = limits_are o l log j j w in omega arith

  pub all_legal : IsLegal o log → IsLegal j.tables.opening j.entries
  all_legal legal = subst (λ (z : OpeningView). IsLegal z j.entries) (sym w.opened) (subst (λ (es : List Entry). IsLegal o es) (sym all_entries) legal)

  pub all_recorded : IsLegal o log → IsRecorded j.tables j.bounds.limit j.entries
  all_recorded legal = record {
    legal = all_legal legal;
    recorded = tables_are o l log j j w ∙ ap (world_of o) (sym all_entries) ∙ ap (λ (z : OpeningView). world_of z j.entries) (sym w.opened);
    room = all_room;
  }
