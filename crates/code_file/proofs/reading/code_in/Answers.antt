use Rattle.std.proofs.Common.{Ok, ◌∙◌, sym, ap}
use Rattle.std.proofs.lemmas.Result.{err_from_is_err_and}
use Rattle.filter_code.specs.CodeView.{CodeView}
use Rattle.code_file.proofs.Parts.{sets_refused, HasSets, int_sets_refused, AreRead, instructions_refused, code_read}
use Rattle.code_file.proofs.reading.code_in.Goals as goal

pub returns-in_err-sets : goal.returns-in_err-sets
returns-in_err-sets c =
    let p = err_from_is_err_and c.from_residual-in_err-sets.result c.from_residual-in_err-sets.ensures.1 in
    rw (p.1, p.2) (sets_refused c.args.version c.args.reader.now c.locals.new.self c.in_ok-locals.locals c.in_err-sets.field-0.0
    c.in_ok-locals.ensures.value c.in_err-sets.ensures.value)

pub returns-in_err-int_sets : goal.returns-in_err-int_sets
returns-in_err-int_sets c =
    let sets = c.in_ok-sets.sets.items in
    let end = c.counted_sets.new.reader in
    let front : HasSets c.args.reader.now c.in_ok-locals.locals sets end =
    record { left = c.locals.new.self; locals_read = c.in_ok-locals.ensures.value; sets_read = c.in_ok-sets.ensures.value } in
    let p = err_from_is_err_and c.from_residual-in_err-int_sets.result c.from_residual-in_err-int_sets.ensures.1 in
    rw (p.1, p.2) (int_sets_refused c.args.version c.args.reader.now c.in_ok-locals.locals sets end c.in_err-int_sets.field-0.0
    front c.in_err-int_sets.ensures.value)

pub returns-in_err-instrs : goal.returns-in_err-instrs
returns-in_err-instrs c =
    let locals = c.in_ok-locals.locals in
    let sets = c.in_ok-sets.sets.items in
    let int_sets = c.in_ok-int_sets.int_sets.items in
    let end = c.counted_sets.new.reader in
    let last = c.version_int_sets.new.reader in
    let front : HasSets c.args.reader.now locals sets end =
    record { left = c.locals.new.self; locals_read = c.in_ok-locals.ensures.value; sets_read = c.in_ok-sets.ensures.value } in
    let all : AreRead c.args.version c.args.reader.now locals sets int_sets last =
    record { end = end; front = front; int_sets_read = c.in_ok-int_sets.ensures.value } in
    let p = err_from_is_err_and c.from_residual-in_err-instrs.result c.from_residual-in_err-instrs.ensures.1 in
    rw (p.1, p.2) (instructions_refused c.args.version c.args.reader.now locals sets int_sets last c.in_err-instrs.field-0.0 all
    c.in_err-instrs.ensures.value)

pub returns : goal.returns
returns c =
    let locals = c.in_ok-locals.locals in
    let sets = c.in_ok-sets.sets.items in
    let int_sets = c.in_ok-int_sets.int_sets.items in
    let instrs = c.in_ok-instrs.instrs.items in
    let end = c.counted_sets.new.reader in
    let last = c.version_int_sets.new.reader in
    let new = c.counted_instructions.new.reader in
    let front : HasSets c.args.reader.now locals sets end =
    record { left = c.locals.new.self; locals_read = c.in_ok-locals.ensures.value; sets_read = c.in_ok-sets.ensures.value } in
    let all : AreRead c.args.version c.args.reader.now locals sets int_sets last =
    record { end = end; front = front; int_sets_read = c.in_ok-int_sets.ensures.value } in
    let made = rw c.unwrap.ensures at c.new.ensures in
    code_read c.args.version c.args.reader.now locals sets int_sets last instrs new all c.in_ok-instrs.ensures.value
    ∙ ap (λ (code : CodeView). Ok (code, new)) (sym made.1)
