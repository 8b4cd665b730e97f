-- A text that is not parsed is refused for spelling no filter, one whose translation is over a limit for that, and so is a code that the
-- older form of a file has not.
use Rattle.std.proofs.Common.{◌≡◌, ◌⊎◌, ℕ, Bool, true, List, Result, Ok, Err, IfErr, inl, inr, refl, sym, subst}
use Rattle.std.specs.Prelude.{◌≢◌, ◌<◌, IsErrAnd, length}
use Rattle.code_file.specs.Spelling.{needs_int_sets}
use Rattle.code_file.specs.declared.fault.FileFault.{FileFault}
use Rattle.code_file.specs.declared.fault.FileFault.TheVariants as file
use Rattle.filter_code.specs.CodeView.{CodeView}
use Rattle.filter_compiler.specs.Limits.{HasTooMany, IsTooLong}
use Rattle.filter_compiler.specs.Translation.{code_of}
use Rattle.filter_compiler.specs.declared.fault.CompileFault.{CompileFault}
use Rattle.filter_compiler.specs.declared.fault.CompileFault.TheVariants as compile
use Rattle.expression_parser.specs.Codes.{LiesWithin}
use Rattle.filter_parser.specs.Heads.{HasHead}
use Rattle.filter_syntax.specs.Surroundings.{around_of}
use Rattle.filter_syntax.specs.declared.around.Around.{Around}
use Rattle.filter_syntax.specs.Placed.{IsPlaced}
use Rattle.filter_syntax.specs.Syntax.{text_limit}
use Rattle.filter_syntax.specs.SyntaxText.{FilterView, IsText, view_filter}
use Rattle.expression_parser.specs.declared.fault.ParseFault.{ParseFault}
use Rattle.expression_parser.specs.declared.fault.ParseFault.TheVariants as parse
use Rattle.filter_syntax.specs.declared.tree.filter.Filter.{Filter}
use Rattle.filter_tokens.specs.Tokenization.{AreInOrder}
use Rattle.filter_types.specs.Codes.{fault_place}
use Rattle.filter_types.specs.Faults.{IsFaultOf, KeepsPlace}
use Rattle.filter_types.specs.Kinds.{IsTyped}
use Rattle.filter_types.specs.declared.fault.TypeFault.{TypeFault}
use Rattle.filter_types.specs.declared.fault.TypeFault.TheVariants as types
use Rattle.filter_source.specs.Diagnoses.{TellsOfText}
use Rattle.filter_source.specs.Failures.{OnDiagnosis, OnRefusal, of_compile, of_file, of_parse, of_type}
use Rattle.filter_source.specs.Sources.{IsRefusedText, IsUnwritten}
use Rattle.filter_source.proofs.Bytes.{byte_of}

pub no_filter : (text : List ℕ) (why : ParseFault) (around : Around) → (why ≢ parse.Memory → (filter : FilterView) → IsText text filter → ⊥)
    → LiesWithin (length text) why → HasHead text why → (text_limit < length text → why ≡ parse.TooLong)
    → OnRefusal (IsRefusedText text) (of_parse why around)
no_filter text parse.Memory around none within head long = tt
no_filter text why around none within head long = let other : why ≢ parse.Memory = λ e. cc in
    record { spells_none = none other; no_memory = other; within = within; head = head; long = long }

-- a filter whose names and kinds do not fit has a fault at a byte of its text; of refused memory nothing is said
pub untyped : (text : List ℕ) (tree : Filter) (why : TypeFault) (around : Around) → IsText text (view_filter tree) → IsPlaced text tree
    → AreInOrder 0 (view_filter tree).tokens (length text) → (why ≢ types.Memory → IsTyped (view_filter tree) → ⊥)
    → (why ≢ types.Memory → IsFaultOf tree why) → (why ≢ types.Memory → KeepsPlace tree (fault_place why))
    → OnRefusal (IsRefusedText text) (of_type why around)
untyped text tree types.Memory around spelled placed order unfit has keeps = tt
untyped text tree why around spelled placed order unfit has keeps =
    let other : why ≢ types.Memory = λ e. cc in
    record {
      tree = tree;
      spelled = spelled;
      placed = placed;
      no_memory = other;
      unfit = unfit other;
      is_fault = has other;
      within = byte_of text tree (fault_place why) order placed (keeps other);
    }

-- what is told of such a filter stands round the place of its fault
pub untyped_told : (text : List ℕ) (filter : FilterView) (why : TypeFault) (around : Around) → IsText text filter
    → AreInOrder 0 filter.tokens (length text) → around ≡ around_of filter.tokens (fault_place why)
    → OnDiagnosis (TellsOfText text) (of_type why around)
untyped_told text filter types.Memory around spelled order is = tt
untyped_told text filter why around spelled order is = (refl, (filter.tokens, (order, inl spelled.cut), is))

-- a filter whose names and kinds fit has no code where its translation is over a limit; of refused memory nothing is said
pub over_limit : (text : List ℕ) (filter : FilterView) (why : CompileFault) → IsText text filter → IsTyped filter
    → (why ≡ compile.TooManyInstructions → IsTooLong (code_of filter))
    → (why ≡ compile.TooManySets → ¬ IsTooLong (code_of filter) × HasTooMany (code_of filter))
    → OnRefusal (IsRefusedText text) (of_compile why)
over_limit text filter compile.TooManyInstructions spelled typed long many = (filter, spelled, typed, long refl)
over_limit text filter compile.TooManySets spelled typed long many = (filter, spelled, typed, many refl)
over_limit text filter compile.Memory spelled typed long many = tt

-- what holds of the error that a result is holds of its error
pub of_error : {A E : Type 0} (r : Result A E) (P : E → Type 0) (e : E) → IsErrAnd r (λ x. x ≡ e) → P e → IfErr r P
of_error (Ok a) P e is h = tt
of_error (Err x) P e is h = subst P (sym is) h

-- the newer form is refused memory alone
pub only_memory : (is_old : Bool) (program : CodeView) (why : FileFault) → why ≡ file.Memory
    → OnRefusal (IsUnwritten is_old program) (of_file why)
only_memory is_old program why memory =
    subst (λ (w : FileFault). OnRefusal (IsUnwritten is_old program) (of_file w)) (sym memory) tt

-- what refuses the older form of a file is that its code needs sets of ints; of refused memory nothing is said
pub unwritten : (is_old : Bool) (program : CodeView) (why : FileFault) → is_old ≡ true
    → (why ≡ file.OldForm → needs_int_sets program ≡ true) → (why ≡ file.OldForm) ⊎ (why ≡ file.Memory)
    → OnRefusal (IsUnwritten is_old program) (of_file why)
unwritten is_old program why chosen needs (inl old) =
    subst (λ (w : FileFault). OnRefusal (IsUnwritten is_old program) (of_file w)) (sym old) (chosen, refl, needs old)
unwritten is_old program why chosen needs (inr memory) = only_memory is_old program why memory
