-- The rule of the lock, over its word, its slot and all views. (This project's own choice.)
use Rattle.std.specs.Prelude.{◌≡◌, ◌≢◌, ℕ, ◌+◌, ◌<◌, ◌≤◌, ◌⊎◌, Some, None, List, [], ◌∷◌, length}
use mathlib.Core.Option.{none, some}
use lib.ListN.{get_elem?}
use Rattle.atomic_table.specs.Table.{State}
use Rattle.netchange_core.specs.OpeningView.{OpeningView}
use Rattle.route_history.specs.declared.entry.Entry.{Entry}
use Rattle.route_history.specs.Beginning.{Begins}
use Rattle.route_history.specs.History.{IsLegal}
use Rattle.route_history.specs.declared.bounds.Bounds.{Bounds}
use Rattle.route_history.specs.Long.{IsWindow, LongView}
use Rattle.route_history.specs.Positions.{once_below, times}
use Rattle.lock_rule.specs.declared.rule.Fragment.{Fragment}
use Rattle.lock_rule.specs.declared.rule.View.{View}
use Rattle.lock_rule.specs.Views.{all_shares, empty_view, right_of, shares_of, times_in_view}

-- f of each, added up
abbrev pub total : (View → ℕ) → List View → ℕ
total f [] = 0
total f (v ∷ vs) = f v + total f vs

-- each of these positions is one of the history
abbrev pub AreIn : List ℕ → List Entry → Type 0
AreIn mine seen = (x : ℕ) → 0 < times x mine → x < length seen

-- what a fragment has seen begins the history, and its positions are among what it has seen
pub record Sees (log : List Entry) (p : Fragment) : Type 0 where
  pub begins : Begins p.seen log
  pub within : AreIn p.mine p.seen

-- a view fits the history; one without shares is the empty one
pub record Fits (opening : OpeningView) (bounds : Bounds) (log : List Entry) (v : View) : Type 0 where
  pub fragment : Sees log v.fragment
  pub incoming : Sees log v.incoming
  pub about : 0 < shares_of v → v.about ≡ Some (opening, bounds)
  pub empty : shares_of v ≡ 0 → v ≡ empty_view

-- all views fit; the shares add up, and each position of the history stands in one view, once
pub record AreKnown (opening : OpeningView) (bounds : Bounds) (log : List Entry) (views : List View) : Type 0 where
  pub fits : (k : ℕ) (v : View) → get_elem? views k ≡ some v → Fits opening bounds log v
  pub shares : total shares_of views ≡ all_shares
  pub once : (x : ℕ) → total (times_in_view x) views ≡ once_below x (length log)

-- a view knows of no more entries that are forgotten than are, and of all of them if it has the right to forget
abbrev pub Knows : ℕ → View → Type 0
Knows first v = (v.fragment.forgot ≤ first) × (v.incoming.forgot ≤ first) × (0 < v.right → first ≤ v.fragment.forgot)

-- the lock is free: the journal is in the slot, and has the end of the history; no view holds a history
pub record IsFree (opening : OpeningView) (bounds : Bounds) (log : List Entry) (first : ℕ) (s : State LongView View) : Type 0 where
  pub words : s.words ≡ 0 ∷ []
  pub journal : LongView
  pub first_is : journal.first ≡ first
  pub homes : s.homes ≡ some journal ∷ []
  pub window : IsWindow opening bounds log journal
  pub none_holds : (k : ℕ) (v : View) → get_elem? s.views k ≡ some v → v.held ≡ None

-- the lock is held: a seat has the journal, and its view alone holds the history
pub record IsHeld (log : List Entry) (first : ℕ) (s : State LongView View) : Type 0 where
  pub words : s.words ≡ 1 ∷ []
  pub homes : s.homes ≡ none ∷ []
  pub holder : ℕ
  pub who : View
  pub there : get_elem? s.views holder ≡ some who
  pub held : who.held ≡ Some log
  pub first_is : who.held_first ≡ first
  pub others : (k : ℕ) (v : View) → get_elem? s.views k ≡ some v → k ≢ holder → v.held ≡ None

-- there is one history, and it is legal; one view at most has the right to forget
pub record IsKept (opening : OpeningView) (bounds : Bounds) (s : State LongView View) : Type 0 where
  pub log : List Entry
  pub first : ℕ
  pub lock : IsFree opening bounds log first s ⊎ IsHeld log first s
  pub legal : IsLegal opening log
  pub known : AreKnown opening bounds log s.views
  pub forgot : (k : ℕ) (v : View) → get_elem? s.views k ≡ some v → Knows first v
  pub right : total right_of s.views ≤ 1
