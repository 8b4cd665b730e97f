-- What is found when a search ends.
use Rattle.std.proofs.Common.{◌≡◌, ◌⊎◌, inl, inr, ℕ, zero, suc, Bool, true, false, Some, List, [], ◌∷◌, ◌++◌, length, map, refl, sym, ◌∙◌, ap, subst}
use Rattle.std.specs.Prelude.{slice_get}
use Rattle.std.specs.Option.{option_map}
use Rattle.std.proofs.lemmas.Option.{slice_get-map}
use Rattle.std.proofs.lemmas.List.{length-map}
use Rattle.filter_code.specs.CodeView.{CodeView}
use Rattle.filter_code.specs.RouteView.{RouteView}
use Rattle.filter_code.specs.Machine.{Config}
use Rattle.filter_diff.specs.Classes.{IsOf}
use Rattle.filter_diff.specs.Marking.{AreAllMarked, AreSound, Extend, IsMarked, unmarked}
use Rattle.filter_diff.specs.Parts.{IsIn}
use Rattle.filter_diff.specs.Reaching.{Comes, IsComplete, IsCondition, IsMax, IsReach, IsSound, has_truth}
use Rattle.filter_diff.specs.Searches.{IsLeft}
use Rattle.filter_diff.specs.declared.class.Class.{Class}
use Rattle.filter_diff.specs.declared.mark.Mark.{Mark}
use Rattle.filter_diff.specs.declared.mark.Reach.{Reach}
use Rattle.filter_diff.proofs.Dealt.{left_taken, of_resized, resized}
use Rattle.filter_diff.proofs.Marking.{all_marked_more}

-- where nothing is marked, nothing marked is untrue
nothing_is : {A : Type 0} (e : false ≡ true) → A
nothing_is e = let no : ⊥ = cc in absurd no

truth_of_none : {A : Type 0} (truth w : Bool) → has_truth truth (unmarked w) ≡ true → A
truth_of_none true w e = nothing_is e
truth_of_none false w e = nothing_is e

sound_nothing : (program : CodeView) (size place : ℕ) (w : Bool) → IsSound program size place (unmarked w)
sound_nothing program size place w =
    record { reached = nothing_is; condition = λ truth e. truth_of_none truth w e; raised = nothing_is }

each_unmarked : (watched : List Bool) (place : ℕ) (mark : Mark) → slice_get (map unmarked watched) place ≡ Some mark
    → (w : Bool) × (unmarked w ≡ mark)
each_unmarked [] place mark e = let no : ⊥ = cc in absurd no
each_unmarked (w ∷ watched) zero mark e = let same : unmarked w ≡ mark = cc in (w, same)
each_unmarked (w ∷ watched) (suc place) mark e = each_unmarked watched place mark e

pub sound_none : (program : CodeView) (size : ℕ) (watched : List Bool) → AreSound program size (map unmarked watched)
sound_none program size watched place mark there =
    let one = each_unmarked watched place mark there in
    subst (IsSound program size place) one.1 (sound_nothing program size place one.0)

-- what is asked stays so
same_mark : (marks : List Mark) (a b : ℕ) (x y : Mark) → a ≡ b → slice_get marks a ≡ Some x → slice_get marks b ≡ Some y → x ≡ y
same_mark marks a b x y e f g = cc

watched_at : (watched : List Bool) (place : ℕ) (w : Bool) → slice_get watched place ≡ Some w
    → slice_get (map unmarked watched) place ≡ Some (unmarked w)
watched_at watched place w e = slice_get-map unmarked watched place ∙ ap (option_map unmarked) e

pub asked_still : (watched : List Bool) (marks : List Mark) → Extend (map unmarked watched) marks → (place : ℕ) (w : Bool) (mark : Mark)
    → slice_get watched place ≡ Some w → slice_get marks place ≡ Some mark → mark.is_watched ≡ w
asked_still watched marks more place w mark here there =
    let now = more.each place (unmarked w) (watched_at watched place w here) in
    ap (λ (m : Mark). m.is_watched) (same_mark marks place place mark now.0 refl there now.1) ∙ now.2.watched

-- the class that is taken is dealt with, and the others stay so
module _ (program : CodeView) (size : ℕ) (route : RouteView) (is_in : IsIn size route) where
  by_left : (ds es : List Class) (next : Class) (marks : List Mark) → (IsLeft route ds → IsLeft route es)
      → (IsOf (resized next size) route → AreAllMarked program marks route ⊎ IsLeft route es)
      → IsLeft route ds ⊎ IsOf next route → AreAllMarked program marks route ⊎ IsLeft route es
  by_left ds es next marks kept here (inl left) = inr (kept left)
  by_left ds es next marks kept here (inr of) = here (of_resized next size route is_in of)

  pub marked_taken : (cs ds es : List Class) (next : Class) (before marks : List Mark) → cs ≡ ds ++ (next ∷ []) → Extend before marks
      → (IsLeft route ds → IsLeft route es)
      → (IsOf (resized next size) route → AreAllMarked program marks route ⊎ IsLeft route es)
      → AreAllMarked program before route ⊎ IsLeft route cs → AreAllMarked program marks route ⊎ IsLeft route es
  marked_taken cs ds es next before marks items more kept here (inl marked) = inl (all_marked_more program before marks route more marked)
  marked_taken cs ds es next before marks items more kept here (inr left) =
      by_left ds es next marks kept here (left_taken route cs ds next items left)

none_left : (program : CodeView) (marks : List Mark) (route : RouteView) (cs : List Class) → cs ≡ [] →
    AreAllMarked program marks route ⊎ IsLeft route cs → AreAllMarked program marks route
none_left program marks route cs e (inl marked) = marked
none_left program marks route cs e (inr left) = absurd (subst (IsLeft route) e left)

-- what is not marked is so on no route
unlike : {A : Type 0} (b c : Bool) → b ≡ c → b ≡ true → c ≡ false → A
unlike b c e f g = let no : ⊥ = cc in absurd no

module _ (program : CodeView) (size : ℕ) (marks : List Mark) (all : (route : RouteView) → IsIn size route → AreAllMarked program marks route) where
  found_at : (place : ℕ) (c : Config) → Comes program size place c → IsMarked program marks c
  found_at place c comes = all comes.route comes.is_in comes.steps c comes.going

  pub complete_at : (place : ℕ) (mark : Mark) → slice_get marks place ≡ Some mark → IsComplete program size place mark
  complete_at place mark there = record {
    reached = λ e c comes.
        let found = found_at place c comes in
        let same = same_mark marks c.pc place found.mark mark comes.here found.there there in
        unlike found.mark.is_reached mark.is_reached (ap (λ (m : Mark). m.is_reached) same) found.reached e;
    condition = λ truth e is c comes.
        let found = found_at place c comes in
        let same = same_mark marks c.pc place found.mark mark comes.here found.there there in
        found.condition (subst (IsCondition program) (sym comes.here) is) truth
        (subst (λ (m : Mark). has_truth truth m ≡ false) (sym same) e);
    raised = λ watched e is c comes.
        let found = found_at place c comes in
        let same = same_mark marks c.pc place found.mark mark comes.here found.there there in
        found.raised (subst (IsMax program) (sym comes.here) is) (ap (λ (m : Mark). m.is_watched) same ∙ watched)
        (ap (λ (m : Mark). m.is_raised) same ∙ e);
  }

pub complete_all : (program : CodeView) (size : ℕ) (marks : List Mark) (cs : List Class) → cs ≡ [] →
    ((route : RouteView) → IsIn size route → AreAllMarked program marks route ⊎ IsLeft route cs) →
    (place : ℕ) (mark : Mark) → slice_get marks place ≡ Some mark → IsComplete program size place mark
complete_all program size marks cs e all =
    complete_at program size marks (λ route is_in. none_left program marks route cs e (all route is_in))

-- what is found when the search ends before that
pub reach_partly : (program : CodeView) (size : ℕ) (watched : List Bool) (found : Reach) (marks : List Mark) →
    found.is_complete ≡ false → found.marks.items ≡ marks → length watched ≡ length program.instrs → Extend (map unmarked watched) marks →
    AreSound program size marks → IsReach program size watched found
reach_partly program size watched found marks partly are long more sound = record {
  long = ap length are ∙ (more.long ∙ (length-map watched unmarked ∙ long));
  asked = asked_still watched found.marks.items (subst (Extend (map unmarked watched)) (sym are) more);
  sound = subst (AreSound program size) (sym are) sound;
  complete = λ e. unlike found.is_complete found.is_complete refl e partly;
}

-- and when there is no more to find
pub reach_whole : (program : CodeView) (size : ℕ) (watched : List Bool) (found : Reach) (marks : List Mark) → found.marks.items ≡ marks →
    length watched ≡ length program.instrs → Extend (map unmarked watched) marks → AreSound program size marks →
    ((place : ℕ) (mark : Mark) → slice_get marks place ≡ Some mark → IsComplete program size place mark) →
    IsReach program size watched found
reach_whole program size watched found marks are long more sound complete = record {
  long = ap length are ∙ (more.long ∙ (length-map watched unmarked ∙ long));
  asked = asked_still watched found.marks.items (subst (Extend (map unmarked watched)) (sym are) more);
  sound = subst (AreSound program size) (sym are) sound;
  complete = λ e. subst
      (λ (xs : List Mark). (place : ℕ) (mark : Mark) → slice_get xs place ≡ Some mark → IsComplete program size place mark) (sym are)
      complete;
}
