-- Laws of commands one after another, and of the parts of a `case`.
use Rattle.std.proofs.Common.{◌≡◌, ℕ, zero, suc, ◌+◌, ◌<◌, ◌≤◌, List, [], ◌∷◌, ◌++◌}
use Rattle.std.proofs.Common.{length, map, take, get_or, refl, sym, ap, subst, arith, Vec, Global, Some, Result, Ok, Err}
use Rattle.std.proofs.lemmas.List.{get_or-take, length-take-le, length-map, take_all}
use Rattle.int_sets.specs.Holding.{NumberRange}
use Rattle.filter_syntax.specs.Syntax.{ExprView}
use Rattle.filter_syntax.specs.SyntaxCommands.{CommandView, CommandsView, PartsView, DeclView, LabelView}
use Rattle.filter_syntax.specs.SyntaxCommands.{commands_of, parts_of, view_command, view_part}
use Rattle.filter_syntax.specs.declared.tree.command.Command.{Command}
use Rattle.filter_syntax.specs.declared.tree.command.Label.{Label}
use Rattle.filter_types.specs.Answers.{DoPartsFit, Judges}
use Rattle.filter_types.specs.Kinds.{KindsFit, KindsFitAll, KindsFitParts, kind_in}
use Rattle.filter_types.specs.Labels.{AreAllApart, labels_of}
use Rattle.filter_types.specs.Sweep.{part_ranges}
use Rattle.filter_types.specs.Table.{argument_kind}
use Rattle.filter_types.specs.declared.fault.TypeFault.{TypeFault}
use Rattle.filter_types.proofs.Lists.{map_next}

-- one more command
fits_push : (vs : List DeclView) (xs : List CommandView) (x : CommandView)
    → KindsFitAll vs (commands_of xs) → KindsFit vs x → KindsFitAll vs (commands_of (xs ++ x ∷ []))
fits_push vs [] x before this = (this, tt)
fits_push vs (y ∷ xs) x before this = (before.0, fits_push vs xs x before.1 this)

-- commands of which all before one fit, and that one
pub fits_next : (vs : List DeclView) (cs : List Command) (i : ℕ) (c : Command) → i < length cs → c ≡ get_or cs i c
    → KindsFitAll vs (commands_of (map view_command (take i cs))) → KindsFit vs (view_command c)
    → KindsFitAll vs (commands_of (map view_command (take (i + 1) cs)))
fits_next vs cs i c low is before this =
    let P : List CommandView → Type 0 = λ xs. KindsFitAll vs (commands_of xs) in
    subst P (sym (map_next view_command cs i c low is)) (fits_push vs (map view_command (take i cs)) (view_command c) before this)

-- each of the commands fits where all do
pub fits_at : (vs : List DeclView) (cs : List Command) (i : ℕ) (c : Command) → i < length cs → c ≡ get_or cs i c
    → KindsFitAll vs (commands_of (map view_command cs)) → KindsFit vs (view_command c)
fits_at vs (d ∷ cs) zero c low is all =
    let P : Command → Type 0 = λ x. KindsFit vs (view_command x) in subst P (sym is) all.0
fits_at vs (d ∷ cs) (suc i) c low is all = fits_at vs cs i c (omega arith) is all.1
fits_at vs [] i c low is all = absurd (omega arith)

-- ---- `case` and its parts

-- what is judged of a `case` after its argument
pub case_judged : {A : Type 0} (vs : List DeclView) (x : CommandView) (argument : ExprView) (parts : PartsView) (answer : Result A TypeFault)
    → x ≡ CommandView.case argument parts → kind_in vs argument ≡ Some argument_kind → Judges answer (DoPartsFit vs parts)
    → Judges answer (KindsFit vs x)
case_judged vs x argument parts (Ok done) is fits good = subst (KindsFit vs) (sym is) (fits, good.0, good.1)
case_judged vs x argument parts (Err why) is fits refused = λ not_memory all. let whole = subst (KindsFit vs) is all in refused not_memory (whole.1, whole.2)

-- one more part
parts_push : (vs : List DeclView) (xs : List (LabelView × CommandsView)) (x : LabelView × CommandsView)
    → KindsFitParts vs (parts_of xs) → KindsFitAll vs x.1 → KindsFitParts vs (parts_of (xs ++ x ∷ []))
parts_push vs [] x before this = (this, tt)
parts_push vs (y ∷ xs) x before this = (before.0, parts_push vs xs x before.1 this)

-- parts of which all before one fit, and that one
pub parts_next : (vs : List DeclView) (ps : List (Label × Vec Command Global)) (i : ℕ) (p : Label × Vec Command Global)
    → i < length ps → p ≡ get_or ps i p → KindsFitParts vs (parts_of (map view_part (take i ps)))
    → KindsFitAll vs (commands_of (map view_command p.1.items)) → KindsFitParts vs (parts_of (map view_part (take (i + 1) ps)))
parts_next vs ps i p low is before this =
    let P : List (LabelView × CommandsView) → Type 0 = λ xs. KindsFitParts vs (parts_of xs) in
    subst P (sym (map_next view_part ps i p low is)) (parts_push vs (map view_part (take i ps)) (view_part p) before this)

-- the commands of each part fit where all do
pub parts_at : (vs : List DeclView) (ps : List (Label × Vec Command Global)) (i : ℕ) (p : Label × Vec Command Global)
    → i < length ps → p ≡ get_or ps i p → KindsFitParts vs (parts_of (map view_part ps))
    → KindsFitAll vs (commands_of (map view_command p.1.items))
parts_at vs (q ∷ ps) zero p low is all =
    let P : Label × Vec Command Global → Type 0 = λ x. KindsFitAll vs (commands_of (map view_command x.1.items)) in subst P (sym is) all.0
parts_at vs (q ∷ ps) (suc i) p low is all = parts_at vs ps i p (omega arith) is all.1
parts_at vs [] i p low is all = absurd (omega arith)

-- the labels of parts
pub labels_are : (ps : List (Label × Vec Command Global)) → labels_of (parts_of (map view_part ps)) ≡ map part_ranges ps
labels_are [] = refl
labels_are (p ∷ ps) = ap (λ (rest : List (List NumberRange)). part_ranges p ∷ rest) (labels_are ps)

-- labels share no number where those up to the count of all share none
pub all_apart : (ps : List (Label × Vec Command Global)) (n : ℕ) → length ps ≤ n → AreAllApart (take n (map part_ranges ps))
    → AreAllApart (labels_of (parts_of (map view_part ps)))
all_apart ps n long apart =
    subst AreAllApart (sym (labels_are ps))
    (subst AreAllApart (take_all n (map part_ranges ps) (omega (arith, long, length-map ps part_ranges))) apart)

-- and where all share none, those up to a count share none
pub some_apart : (ps : List (Label × Vec Command Global)) (n : ℕ) → n ≤ length ps → AreAllApart (labels_of (parts_of (map view_part ps)))
    → AreAllApart (take n (map part_ranges ps))
some_apart ps n within apart i j d before inside =
    let ls = map part_ranges ps in
    let all : AreAllApart ls = subst AreAllApart (labels_are ps) apart in
    let fits : n ≤ length ls = omega (arith, within, length-map ps part_ranges) in
    let count : length (take n ls) ≡ n = length-take-le n ls fits in
    rw (get_or-take n ls i d (omega (arith, before, inside, count)), get_or-take n ls j d (omega (arith, inside, count)))
    (all i j d before (omega (arith, inside, count, fits)))
