-- Which codes have a file of the first version.
use Rattle.std.proofs.Common.{◌≡◌, Bool, true, false, ◌||◌, not, List, [], ◌∷◌, length, ltb, refl, sym, ◌∙◌, ◌↔◌, lit≤}
use Rattle.std.specs.List.{AllByRecursion, list_any}
use Rattle.filter_code.specs.declared.instruction.Instr.{Instr}
use Rattle.filter_code.specs.CodeView.{CodeView}
use Rattle.int_sets.specs.Holding.{NumberRange}
use Rattle.code_file.specs.declared.version.Version.TheVariants.{One, Two}
use Rattle.code_file.specs.Fields.{is_in_set}
use Rattle.code_file.specs.Spelling.{spelling, spelling_in, needs_int_sets, IsInstruction, AreIntSets, IsCode, IsCodeIn}
use Rattle.code_file.specs.Reading.{file_of}
use Rattle.code_file.proofs.Grammar.{file_of_spelling, file_of_spelling_in}
use Rattle.code_file.proofs.Written.{each_in, needs_none, no_int_sets}

-- ---- a file of the first version says what one of the second says

not_in_old : (b : Bool) → (not b || false) ≡ true → b ≡ false
not_in_old true e = absurd cc
not_in_old false e = refl

known_in_new : (b : Bool) → (not b || true) ≡ true
known_in_new true = refl
known_in_new false = refl

each_in_new : (instrs : List Instr) → AllByRecursion (IsInstruction One) instrs → AllByRecursion (IsInstruction Two) instrs
each_in_new [] each = tt
each_in_new (i ∷ instrs) each = ((each.0.0, known_in_new (is_in_set i)), each_in_new instrs each.1)

none_in_old : (instrs : List Instr) → AllByRecursion (IsInstruction One) instrs → list_any is_in_set instrs ≡ false
none_in_old [] each = refl
none_in_old (i ∷ instrs) each = rw (not_in_old (is_in_set i) each.0.1, none_in_old instrs each.1) refl

new_int_sets : (sets : List (List NumberRange)) → sets ≡ [] → AreIntSets Two sets
new_int_sets [] e = (lit≤ tt, tt)
new_int_sets (s ∷ sets) e = absurd cc

no_sets_needed : (sets : List (List NumberRange)) (b : Bool) → sets ≡ [] → b ≡ false → (ltb 0 (length sets) || b) ≡ false
no_sets_needed [] b e none = none
no_sets_needed (s ∷ sets) b e none = absurd cc

new_of_old : (code : CodeView) → IsCodeIn One code → IsCode code × (needs_int_sets code ≡ false)
new_of_old code h = (
  record {
    locals = h.locals;
    sets = h.sets;
    each_set = h.each_set;
    int_sets = new_int_sets code.int_sets h.int_sets;
    instrs = h.instrs;
    each_instr = each_in_new code.instrs h.each_instr;
  },
  no_sets_needed code.int_sets (list_any is_in_set code.instrs) h.int_sets (none_in_old code.instrs h.each_instr),
)

old_of_new : (code : CodeView) → IsCode code → needs_int_sets code ≡ false → IsCodeIn One code
old_of_new code h e =
    let none = needs_none code e in
    record {
      locals = h.locals;
      sets = h.sets;
      each_set = h.each_set;
      int_sets = no_int_sets code.int_sets none.0;
      instrs = h.instrs;
      each_instr = each_in One code.instrs h.each_instr (λ e. none.1);
    }

pub old_is : (code : CodeView) → IsCodeIn One code ↔ (IsCode code × (needs_int_sets code ≡ false))
old_is code = (new_of_old code, λ both. old_of_new code both.0 both.1)

pub old_alike : (code : CodeView) → IsCodeIn One code → file_of (spelling_in One code) ≡ file_of (spelling code)
old_alike code h = file_of_spelling_in One code h ∙ sym (file_of_spelling code (new_of_old code h).0)
