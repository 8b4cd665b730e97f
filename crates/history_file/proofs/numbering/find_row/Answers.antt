use Rattle.std.proofs.Common.{◌≡◌, true, true≢false, bytes_eq, sym, ◌∙◌, ap, arith}
use Rattle.std.proofs.lemmas.Slice.Eq.{bytes_eq-Decides}
use Rattle.history_file.proofs.Rows.{found_there, not_yet}
use Rattle.history_file.proofs.numbering.find_row.Goals as goal

pub returns-then-eq : goal.returns-then-eq
returns-then-eq c =
    let v = c.index-rows-number.result in
    let same = (bytes_eq-Decides c.as_slice.result.now c.args.row.now).0 (sym c.eq.ensures ∙ c.if-eq.true) in
    found_there c.args.rows.now c.loop-number.number c.args.row.now v (omega arith) c.index-rows-number.is
    (sym c.as_slice.ensures.value ∙ same)

pub loop-number-preserved : goal.loop-number-preserved
loop-number-preserved c =
    not_yet c.args.rows.now c.loop-number.number c.args.row.now c.index-rows-number.result (omega arith) c.index-rows-number.is
    (λ e.
    let same : bytes_eq c.as_slice.result.now c.args.row.now ≡ true =
    (bytes_eq-Decides c.as_slice.result.now c.args.row.now).1 (c.as_slice.ensures.value ∙ e) in
    true≢false (sym same ∙ sym c.eq.ensures ∙ c.if-eq.false))
    c.loop-number.invariant
