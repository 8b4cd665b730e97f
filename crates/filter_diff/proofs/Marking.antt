-- Marks, and what is added to them.
use Rattle.std.proofs.Common.{◌≡◌, ◌⊎◌, inl, inr, ℕ, zero, suc, Bool, true, false, not, Option}
use Rattle.std.proofs.Common.{Some, List, [], ◌∷◌, length, map, refl, sym, ◌∙◌, ap, subst}
use Rattle.std.specs.Prelude.{◌||◌, slice_get, slice_set}
use Rattle.std.specs.Option.{option_map}
use Rattle.std.proofs.lemmas.Option.{slice_get-map}
use Rattle.filter_code.specs.declared.instruction.Instr.{Instr}
use Rattle.filter_code.specs.declared.instruction.Instr.TheVariants as instr
use Rattle.filter_code.specs.declared.value.Value.TheVariants as value
use Rattle.filter_code.specs.CodeView.{CodeView}
use Rattle.filter_code.specs.RouteView.{RouteView}
use Rattle.filter_code.specs.Machine.{Config}
use Rattle.filter_diff.specs.Marking.{AreAllMarked, AreTop, Extend, Extends, IsAdded, IsMarked, IsTop, Shows, ShowsAt, joined}
use Rattle.filter_diff.specs.Reaching.{AreOnTop, IsOnTop, has_truth}
use Rattle.filter_diff.specs.Symbols.{config_at, value_at}
use Rattle.filter_diff.specs.declared.mark.Mark.{Mark}
use Rattle.filter_diff.specs.declared.symbol.SymbolicValue.{SymbolicValue}

-- one of two
or_first : (a b : Bool) → a ≡ true → (a || b) ≡ true
or_first a b e = rw e refl

or_second : (a b : Bool) → b ≡ true → (a || b) ≡ true
or_second true b e = refl
or_second false b e = e

pub or_either : (a b : Bool) → (a || b) ≡ true → (a ≡ true) ⊎ (b ≡ true)
or_either true b e = inl refl
or_either false b e = inr e

truth_first : (truth : Bool) (a b : Mark) → has_truth truth a ≡ true → has_truth truth (joined a b) ≡ true
truth_first true a b e = or_first a.is_true b.is_true e
truth_first false a b e = or_first a.is_false b.is_false e

truth_second : (truth : Bool) (a b : Mark) → has_truth truth b ≡ true → has_truth truth (joined a b) ≡ true
truth_second true a b e = or_second a.is_true b.is_true e
truth_second false a b e = or_second a.is_false b.is_false e

pub truth_either : (truth : Bool) (a b : Mark) → has_truth truth (joined a b) ≡ true → (has_truth truth a ≡ true) ⊎ (has_truth truth b ≡ true)
truth_either true a b e = or_either a.is_true b.is_true e
truth_either false a b e = or_either a.is_false b.is_false e

-- a mark has what it has
extends_self : (a : Mark) → Extends a a
extends_self a = record { reached = λ e. e; condition = λ truth e. e; raised = λ e. e; watched = refl }

extends_first : (a b : Mark) → Extends a (joined a b)
extends_first a b = record {
  reached = or_first a.is_reached b.is_reached;
  condition = λ truth e. truth_first truth a b e;
  raised = or_first a.is_raised b.is_raised;
  watched = refl;
}

pub extend_self : (marks : List Mark) → Extend marks marks
extend_self marks = record { long = refl; each = λ place mark there. (mark, there, extends_self mark) }

pub extend_further : (xs ys zs : List Mark) → Extend xs ys → Extend ys zs → Extend xs zs
extend_further xs ys zs f g = record {
  long = g.long ∙ f.long;
  each = λ place mark there.
      let first = f.each place mark there in
      let second = g.each place first.0 first.1 in (
        second.0,
        second.1,
        record {
          reached = λ e. second.2.reached (first.2.reached e);
          condition = λ truth e. second.2.condition truth (first.2.condition truth e);
          raised = λ e. second.2.raised (first.2.raised e);
          watched = second.2.watched ∙ first.2.watched;
        },
      );
}

-- the mark of a place is set
set_long : (xs : List Mark) (i : ℕ) (y : Mark) → length (slice_set xs i y) ≡ length xs
set_long [] i y = refl
set_long (x ∷ xs) zero y = refl
set_long (x ∷ xs) (suc i) y = ap suc (set_long xs i y)

set_there : (xs : List Mark) (i : ℕ) (x y : Mark) → slice_get xs i ≡ Some x → slice_get (slice_set xs i y) i ≡ Some y
set_there [] i x y e = cc
set_there (z ∷ xs) zero x y e = refl
set_there (z ∷ xs) (suc i) x y e = set_there xs i x y e

set_each : (xs : List Mark) (i : ℕ) (x y : Mark) → slice_get xs i ≡ Some x → Extends x y → (place : ℕ) (mark : Mark) →
    slice_get xs place ≡ Some mark → (more : Mark) × (slice_get (slice_set xs i y) place ≡ Some more) × Extends mark more
set_each [] i x y e extends place mark there = cc
set_each (z ∷ xs) zero x y e extends zero mark there =
    let same : x ≡ mark = cc in
    (y, refl, subst (λ (m : Mark). Extends m y) same extends)
set_each (z ∷ xs) zero x y e extends (suc place) mark there = (mark, there, extends_self mark)
set_each (z ∷ xs) (suc i) x y e extends zero mark there = (mark, there, extends_self mark)
set_each (z ∷ xs) (suc i) x y e extends (suc place) mark there = set_each xs i x y e extends place mark there

next_from : {A B : Type 0} (i place : ℕ) → ((place ≡ i) × A) ⊎ B → ((suc place ≡ suc i) × A) ⊎ B
next_from i place (inl h) = inl (ap suc h.0, h.1)
next_from i place (inr h) = inr h

pub set_from : {A : Type 0} (xs : List A) (i : ℕ) (y : A) (place : ℕ) (now : A) →
    slice_get (slice_set xs i y) place ≡ Some now → ((place ≡ i) × (now ≡ y)) ⊎ (slice_get xs place ≡ Some now)
set_from [] i y place now there = inr there
set_from (z ∷ xs) zero y zero now there = let same : now ≡ y = cc in inl (refl, same)
set_from (z ∷ xs) zero y (suc place) now there = inr there
set_from (z ∷ xs) (suc i) y zero now there = inr there
set_from (z ∷ xs) (suc i) y (suc place) now there = next_from i place (set_from xs i y place now there)

-- what is added to the mark of a place
pub added_more : (mark : Mark) (place : ℕ) (before after : List Mark) → IsAdded mark place before after → Extend before after
added_more mark place before after added =
    subst (Extend before) (sym added.set)
    (record {
      long = set_long before place (joined added.had mark);
      each = set_each before place added.had (joined added.had mark) added.there (extends_first added.had mark);
    })

-- what a mark that has more has not, it had not
not_before : (a b had : Bool) → (a ≡ true → b ≡ true) → b ≡ false → a ≡ had → a ≡ false
not_before a b true more e is = let now = more is in let no : ⊥ = cc in absurd no
not_before a b false more e is = is

not_had : (truth : Bool) (a b : Mark) → Extends a b → has_truth truth b ≡ false → has_truth truth a ≡ false
not_had truth a b extends e = not_before (has_truth truth a) (has_truth truth b) (has_truth truth a) (extends.condition truth) e refl

-- what is marked stays so
pub marked_more : (program : CodeView) (before after : List Mark) (c : Config) → Extend before after → IsMarked program before c →
    IsMarked program after c
marked_more program before after c more marked =
    let now = more.each c.pc marked.mark marked.there in
    record {
      mark = now.0;
      there = now.1;
      reached = now.2.reached marked.reached;
      condition = λ is truth e. marked.condition is truth (not_had truth marked.mark now.0 now.2 e);
      raised = λ is watched e. marked.raised is (sym now.2.watched ∙ watched)
          (not_before marked.mark.is_raised now.0.is_raised marked.mark.is_raised now.2.raised e refl);
    }

pub all_marked_more : (program : CodeView) (before after : List Mark) (route : RouteView) → Extend before after →
    AreAllMarked program before route → AreAllMarked program after route
all_marked_more program before after route more marked steps c going = marked_more program before after c more (marked steps c going)

-- the symbol on top and the value for which it stands
pub top_value : (route : RouteView) (stack : List SymbolicValue) (truth : Bool) → IsTop truth stack →
    slice_get (map (value_at route) stack) 0 ≡ Some (value.Bool truth)
top_value route stack truth top = slice_get-map (value_at route) stack 0 ∙ ap (option_map (value_at route)) top

-- the two ints on top
pub top_ints : (route : RouteView) (pc : ℕ) (stack : List SymbolicValue) (locals : List (Option SymbolicValue)) (metric : Option ℕ)
    (raised : Bool) → AreTop raised stack → AreOnTop raised (config_at route pc stack locals metric)
top_ints route pc stack locals metric raised top = (
  top.0,
  top.1,
  slice_get-map (value_at route) stack 0 ∙ ap (option_map (value_at route)) top.2,
  slice_get-map (value_at route) stack 1 ∙ ap (option_map (value_at route)) top.3,
  top.4,
)

-- where one truth is not marked, the condition has the other
pub unlike : {A : Type 0} (b c : Bool) → b ≡ c → b ≡ true → c ≡ false → A
unlike b c e f g = let no : ⊥ = cc in absurd no

other_truth : (has truth : Bool) (mark : Mark) (c : Config) → has_truth has mark ≡ true → has_truth truth mark ≡ false → IsOnTop has c →
    IsOnTop (not truth) c
other_truth true true mark c e f top = unlike mark.is_true mark.is_true refl e f
other_truth true false mark c e f top = top
other_truth false true mark c e f top = top
other_truth false false mark c e f top = unlike mark.is_false mark.is_false refl e f

neither : (a b : Bool) → (a || b) ≡ false → b ≡ false
neither true b e = let no : ⊥ = cc in absurd no
neither false b e = e

-- the configuration that runs come to is marked
pub marked_here : (program : CodeView) (route : RouteView) (i : Instr) (mark : Mark) (pc : ℕ) (stack : List SymbolicValue)
    (locals : List (Option SymbolicValue)) (metric : Option ℕ) (before after : List Mark) → slice_get program.instrs pc ≡ Some i →
    Shows i stack mark → IsAdded mark pc before after → IsMarked program after (config_at route pc stack locals metric)
marked_here program route i mark pc stack locals metric before after here shows added = record {
  mark = joined added.had mark;
  there = subst (λ (marks : List Mark). slice_get marks pc ≡ Some (joined added.had mark)) (sym added.set)
      (set_there before pc added.had (joined added.had mark) added.there);
  reached = or_second added.had.is_reached mark.is_reached shows.reached;
  condition = λ is truth e.
      let jump : i ≡ instr.JumpIfNot is.skipped = cc in
      let shown = shows.condition is.skipped jump in
      other_truth shown.0 truth (joined added.had mark) (config_at route pc stack locals metric)
      (truth_second shown.0 added.had mark shown.2) e (top_value route stack shown.0 shown.1);
  raised = λ is watched e.
      let max : i ≡ instr.Max = cc in
      top_ints route pc stack locals metric false
      (subst (λ (b : Bool). AreTop b stack) (neither added.had.is_raised mark.is_raised e) (shows.raised max));
}

pub marked_at : (program : CodeView) (i : Instr) (mark : Mark) (c : Config) (before after : List Mark) → slice_get program.instrs c.pc ≡ Some i →
    ShowsAt i c mark → IsAdded mark c.pc before after → IsMarked program after c
marked_at program i mark c before after here shows added = record {
  mark = joined added.had mark;
  there = subst (λ (marks : List Mark). slice_get marks c.pc ≡ Some (joined added.had mark)) (sym added.set)
      (set_there before c.pc added.had (joined added.had mark) added.there);
  reached = or_second added.had.is_reached mark.is_reached shows.reached;
  condition = λ is truth e.
      let jump : i ≡ instr.JumpIfNot is.skipped = cc in
      let shown = shows.condition is.skipped jump in
      other_truth shown.0 truth (joined added.had mark) c (truth_second shown.0 added.had mark shown.2) e shown.1;
  raised = λ is watched e.
      let max : i ≡ instr.Max = cc in
      subst (λ (b : Bool). AreOnTop b c) (neither added.had.is_raised mark.is_raised e) (shows.raised max);
}
