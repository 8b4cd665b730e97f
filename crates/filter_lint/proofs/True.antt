-- What is said of an instruction follows from its mark, where all routes were tried.
use Rattle.std.proofs.Common.{◌≡◌, ℕ, ◌-◌, Bool, true, false, not, ◌&&◌, ◌||◌, nat_le, if◌then◌else◌, List, length, Option, Some, None, IfSome, refl}
use Rattle.std.specs.Prelude.{All, option_and_then, slice_get}
use Rattle.std.proofs.lemmas.List.Elements.{All-append}
use Rattle.filter_code.specs.CodeView.{CodeView}
use Rattle.filter_code.specs.declared.instruction.Instr.{Instr}
use Rattle.filter_code.specs.declared.instruction.Instr.TheVariants as instr
use Rattle.filter_diff.specs.Reaching.{IsComplete, IsCondition, IsReach, IsSound, has_truth}
use Rattle.filter_diff.specs.declared.mark.Mark.{Mark}
use Rattle.filter_diff.specs.declared.mark.Reach.{Reach}
use Rattle.filter_lint.specs.Commands.{is_of_command, is_reached, mark_reached, unreached_commands, unreached_in, was_reached}
use Rattle.filter_lint.specs.Conditions.{constant_at, constant_by, constant_conditions, constant_of, is_asked}
use Rattle.filter_lint.specs.Lowering.{metrics_not_lowered, not_lowered, not_lowered_at}
use Rattle.filter_lint.specs.Rules.{on_routes}
use Rattle.filter_lint.specs.Sites.{site_at}
use Rattle.filter_lint.specs.SurveyedFilters.{SurveyedFilterView}
use Rattle.filter_lint.specs.Truths.{IsConstant, IsTrueOf}
use Rattle.filter_lint.specs.declared.site.Site.{Site}
use Rattle.filter_lint.specs.declared.warning.WarningCause.TheVariants as cause
use Rattle.filter_lint.specs.declared.warning.Warning.{Warning}
use Rattle.filter_lint.proofs.Found.{all_below}

-- a condition that comes out one way was seen to come out so, and not the other way
only : (t f b : Bool) → (if t && not f then Some true else if f && not t then Some false else None) ≡ Some b
    → ((if b then t else f) ≡ true) × ((if b then f else t) ≡ false)
only true true true e = let no : ⊥ = cc in absurd no
only true true false e = let no : ⊥ = cc in absurd no
only true false true e = (refl, refl)
only true false false e = let no : ⊥ = cc in absurd no
only false true true e = let no : ⊥ = cc in absurd no
only false true false e = (refl, refl)
only false false true e = let no : ⊥ = cc in absurd no
only false false false e = let no : ⊥ = cc in absurd no

seen : (mark : Mark) (b : Bool) → constant_of mark ≡ Some b → has_truth b mark ≡ true
seen mark true e = (only mark.is_true mark.is_false true e).0
seen mark false e = (only mark.is_true mark.is_false false e).0

not_seen : (mark : Mark) (b : Bool) → constant_of mark ≡ Some b → has_truth (not b) mark ≡ false
not_seen mark true e = (only mark.is_true mark.is_false true e).1
not_seen mark false e = (only mark.is_true mark.is_false false e).1

module _ (program : CodeView) (size : ℕ) (text places : List ℕ) where
  -- a condition
  module _ (k : ℕ) (mark : Mark) (sound : IsSound program size k mark) (complete : IsComplete program size k mark) where
    is_constant : (b : Bool) → constant_of mark ≡ Some b → IsCondition program k → IsConstant program size k b
    is_constant true e is = record {
      condition = is;
      always = complete.condition false (not_seen mark true e) is;
      come = (sound.condition true (seen mark true e)).1;
      some = (sound.condition true (seen mark true e)).2;
    }
    is_constant false e is = record {
      condition = is;
      always = complete.condition true (not_seen mark false e) is;
      come = (sound.condition false (seen mark false e)).1;
      some = (sound.condition false (seen mark false e)).2;
    }

    if_asked : (byte : ℕ) (s : Site) (b : Bool) → slice_get places k ≡ Some byte → IsConstant program size k b → (t : Bool)
        → IfSome (if t then Some (record { instruction = k; byte = byte; cause = cause.Constant s b }) else None) (IsTrueOf program size places)
    if_asked byte s b there is true = record { place = there; is_so = is }
    if_asked byte s b there is false = tt

    of_value : (byte : ℕ) (s : Site) (v : Option Bool) → constant_of mark ≡ v → slice_get places k ≡ Some byte → IsCondition program k
        → IfSome (option_and_then (λ value. if is_asked s
        then Some (record { instruction = k; byte = byte; cause = cause.Constant s value }) else None) v) (IsTrueOf program size places)
    of_value byte s None e there is = tt
    of_value byte s (Some b) e there is = if_asked byte s b there (is_constant b e is) (is_asked s)

    of_site : (byte : ℕ) (s : Option Site) → slice_get places k ≡ Some byte → IsCondition program k
        → IfSome (option_and_then (λ where_it_is. option_and_then (λ value. if is_asked where_it_is
        then Some (record { instruction = k; byte = byte; cause = cause.Constant where_it_is value }) else None) (constant_of mark)) s)
        (IsTrueOf program size places)
    of_site byte None there is = tt
    of_site byte (Some s) there is = of_value byte s (constant_of mark) refl there is

    of_instr : (i : Instr) (byte : ℕ) → slice_get program.instrs k ≡ Some i → slice_get places k ≡ Some byte
        → IfSome (constant_by text k i byte mark) (IsTrueOf program size places)
    of_instr (instr.JumpIfNot skipped) byte is there = of_site byte (site_at text byte) there (record { skipped = skipped; instruction = is })
    of_instr _ byte is there = tt

  module _ (watched : List Bool) (found : Reach) (is_reach : IsReach program size watched found) (all : found.is_complete ≡ true) where
    of_parts : (k : ℕ) (i : Option Instr) → slice_get program.instrs k ≡ i → (byte : Option ℕ) → slice_get places k ≡ byte
        → (mark : Option Mark) → slice_get found.marks.items k ≡ mark
        → IfSome (option_and_then (λ i. option_and_then (λ byte. option_and_then (constant_by text k i byte) mark) byte) i)
        (IsTrueOf program size places)
    of_parts k None is byte there mark marked = tt
    of_parts k (Some i) is None there mark marked = tt
    of_parts k (Some i) is (Some byte) there None marked = tt
    of_parts k (Some i) is (Some byte) there (Some mark) marked =
        of_instr k mark (is_reach.sound k mark marked) (is_reach.complete all k mark marked) i byte is there

    condition_is_so : (k : ℕ) → IfSome (constant_at (record { text = text; program = program; places = places; size = size }) found.marks.items k)
        (IsTrueOf program size places)
    condition_is_so k =
        of_parts k (slice_get program.instrs k) refl (slice_get places k) refl (slice_get found.marks.items k) refl

    -- a command
    not_reached : (k : ℕ) (byte : ℕ) (mark : Option Mark) → slice_get found.marks.items k ≡ mark → slice_get places k ≡ Some byte → (was r : Bool)
        → mark_reached mark ≡ r
        → IfSome (if not was || r then None else Some (record { instruction = k; byte = byte; cause = cause.Unreached }))
        (IsTrueOf program size places)
    not_reached k byte mark marked there false r e = tt
    not_reached k byte mark marked there true true e = tt
    not_reached k byte None marked there true false e = let no : ⊥ = cc in absurd no
    not_reached k byte (Some mark) marked there true false e =
        record { place = there; is_so = (is_reach.complete all k mark marked).reached e }

    placed : (k byte : ℕ) → slice_get places k ≡ Some byte → (b was : Bool)
        → IfSome (option_and_then
        (λ byte. if not was || is_reached found.marks.items k then None
        else Some (record { instruction = k; byte = byte; cause = cause.Unreached }))
        (if b then Some byte else None)) (IsTrueOf program size places)
    placed k byte there false was = tt
    placed k byte there true was = not_reached k byte (slice_get found.marks.items k) refl there was (is_reached found.marks.items k) refl

    of_command : (k : ℕ) (i : Option Instr) (byte : Option ℕ) → slice_get places k ≡ byte → (last was : Bool)
        → IfSome (option_and_then
        (λ byte. if not was || is_reached found.marks.items k then None
        else Some (record { instruction = k; byte = byte; cause = cause.Unreached }))
        (if last then None else option_and_then
        (λ i. option_and_then (λ byte. if is_of_command text i byte then Some byte else None) byte) i)) (IsTrueOf program size places)
    of_command k i byte there true was = tt
    of_command k None byte there false was = tt
    of_command k (Some i) None there false was = tt
    of_command k (Some i) (Some byte) there false was = placed k byte there (is_of_command text i byte) was

    command_is_so : (k : ℕ) → IfSome (unreached_in (record { text = text; program = program; places = places; size = size }) found.marks.items k)
        (IsTrueOf program size places)
    command_is_so k =
        of_command k (slice_get program.instrs k) (slice_get places k) refl (nat_le (length program.instrs - k) 1)
        (was_reached (record { text = text; program = program; places = places; size = size }) found.marks.items k)

    -- an assignment of the metric
    if_raised : (k byte : ℕ) (mark : Mark) → slice_get found.marks.items k ≡ Some mark → slice_get places k ≡ Some byte → (t : Bool)
        → mark.is_raised ≡ t
        → IfSome (if t then Some (record { instruction = k; byte = byte; cause = cause.NotLowered }) else None) (IsTrueOf program size places)
    if_raised k byte mark marked there false e = tt
    if_raised k byte mark marked there true e =
        let raised = (is_reach.sound k mark marked).raised e in
        record { place = there; is_so = record { greater = raised.0; come = raised.1; some = raised.2; above = raised.3 } }

    of_mark : (k byte : ℕ) → slice_get places k ≡ Some byte → (mark : Option Mark) → slice_get found.marks.items k ≡ mark
        → IfSome (option_and_then (not_lowered k byte) mark) (IsTrueOf program size places)
    of_mark k byte there None marked = tt
    of_mark k byte there (Some mark) marked = if_raised k byte mark marked there mark.is_raised refl

    of_place : (k : ℕ) (byte : Option ℕ) → slice_get places k ≡ byte
        → IfSome (option_and_then (λ byte. option_and_then (not_lowered k byte) (slice_get found.marks.items k)) byte)
        (IsTrueOf program size places)
    of_place k None there = tt
    of_place k (Some byte) there = of_mark k byte there (slice_get found.marks.items k) refl

    -- all of them
    pub on_routes_are_so : All (IsTrueOf program size places)
        (on_routes (record { text = text; program = program; places = places; size = size }) found.marks.items)
    on_routes_are_so =
        let here : SurveyedFilterView = record { text = text; program = program; places = places; size = size } in
        let P : Warning → Type 0 = IsTrueOf program size places in
        All-append P (constant_conditions here found.marks.items) _
        (all_below P (constant_at here found.marks.items) condition_is_so (length program.instrs))
        (All-append P (unreached_commands here found.marks.items) (metrics_not_lowered here found.marks.items)
        (all_below P (unreached_in here found.marks.items) command_is_so (length program.instrs))
        (all_below P (not_lowered_at here found.marks.items) (λ k. of_place k (slice_get places k) refl) (length program.instrs)))
