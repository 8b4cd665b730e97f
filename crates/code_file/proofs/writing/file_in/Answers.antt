use Rattle.std.proofs.Common.{◌≤◌, ℕ, List, ◌∷◌, [], ◌++◌, length, All, ap, subst, ◌∙◌}
use Rattle.byteorder.specs.Endian.{big_bytes}
use Rattle.prefix_patterns.specs.Matching.{PrefixPattern}
use Rattle.int_sets.specs.Holding.{NumberRange}
use Rattle.filter_code.specs.declared.instruction.Instr.{Instr}
use Rattle.filter_code.specs.Limits.{local_limit, set_limit, instruction_limit}
use Rattle.code_file.specs.declared.version.Version.TheVariants.{Two}
use Rattle.code_file.specs.Spelling.{bytes_of, int_sets, IsSet, AreIntSets, IsInstruction}
use Rattle.code_file.proofs.Written.{head, set_bytes, instruction_bytes, file_joined, is_code, needs_none}
use Rattle.code_file.proofs.writing.file_in.Goals as goal

pub returns-clause-written : goal.returns-clause-written
returns-clause-written c =
    let v = c.args.version in
    let code = c.args.code.now in
    let one = c.extend_from_slice.new.self.items in
    let mark = c.push.new.self.items in
    let two = c.push-2.new.self.items in
    let three = c.push-3.new.self.items in
    let four = c.put_sets.new.out.items in
    let ints = c.put_version_int_sets.new.out.items in
    let five = c.extend_from_slice-2.new.self.items in
    let six = c.put_instructions.new.out.items in
    let few_locals : code.locals ≤ local_limit = subst (λ (n : ℕ). n ≤ local_limit) c.locals.ensures.value c.locals.ensures.limit in
    let few_sets : length code.sets ≤ set_limit =
    subst (λ (s : List (List PrefixPattern)). length s ≤ set_limit) c.sets-sets.ensures.value c.sets-sets.ensures.limit in
    file_joined v code one mark two three four ints five six few_locals few_sets
    (c.in_ok-extend_from_slice.ensures.items ∙ ap (λ (bytes : List ℕ). bytes ++ head) c.new-out.ensures.items)
    (c.in_ok-push.ensures.items ∙ ap (λ (n : ℕ). one ++ n ∷ []) c.byte.ensures)
    (c.in_ok-push-2.ensures.items ∙ ap (λ (n : ℕ). mark ++ n ∷ []) c.locals.ensures.value)
    (c.in_ok-push-3.ensures.items ∙ ap (λ (s : List (List PrefixPattern)). two ++ length s ∷ []) c.sets-sets.ensures.value)
    (c.in_ok-put_sets.ensures.written ∙ ap (λ (s : List (List PrefixPattern)). three ++ set_bytes (record { locals = 0; sets = s; int_sets = []; instrs = [] }))
    c.sets-sets.ensures.value)
    (c.in_ok-put_version_int_sets.ensures.written ∙ ap (λ (s : List (List NumberRange)). four ++ bytes_of (int_sets v s))
    c.int_sets.ensures.value)
    (c.in_ok-extend_from_slice-2.ensures.items ∙ ap (λ (bytes : List ℕ). ints ++ bytes) c.to_be_bytes.ensures
    ∙ ap (λ (i : List Instr). ints ++ big_bytes 2 (length i)) c.instrs-instrs.ensures.value)
    (c.in_ok-put_instructions.ensures.written ∙ ap (λ (i : List Instr). five ++ instruction_bytes Two (record { locals = 0; sets = []; int_sets = []; instrs = i }))
    c.instrs-instrs.ensures.value)

pub returns-clause-fits : goal.returns-clause-fits
returns-clause-fits c =
    let v = c.args.version in
    let code = c.args.code.now in
    let few_locals : code.locals ≤ local_limit = subst (λ (n : ℕ). n ≤ local_limit) c.locals.ensures.value c.locals.ensures.limit in
    let few_sets : length code.sets ≤ set_limit =
    subst (λ (s : List (List PrefixPattern)). length s ≤ set_limit) c.sets-sets.ensures.value c.sets-sets.ensures.limit in
    let few_instrs : length code.instrs ≤ instruction_limit =
    subst (λ (i : List Instr). length i ≤ instruction_limit) c.instrs-instrs.ensures.value c.instrs-instrs.ensures.limit in
    let each_set : All IsSet code.sets =
    subst (λ (s : List (List PrefixPattern)). All IsSet s) c.sets-sets.ensures.value c.in_ok-put_sets.ensures.fits in
    let ints : AreIntSets v code.int_sets =
    subst (λ (s : List (List NumberRange)). AreIntSets v s) c.int_sets.ensures.value c.in_ok-put_version_int_sets.ensures.fits in
    let each_instr : All (IsInstruction Two) code.instrs =
    subst (λ (i : List Instr). All (IsInstruction Two) i) c.instrs-instrs.ensures.value c.in_ok-put_instructions.ensures.fits in
    is_code v code few_locals few_sets few_instrs each_set ints each_instr (λ e. (needs_none code (c.requires e)).1)
