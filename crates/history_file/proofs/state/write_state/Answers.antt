use Rattle.std.proofs.Common.{◌++◌, ◌<◌, ◌^◌, length, subst, ◌∙◌, ap, arith}
use Rattle.std.proofs.lemmas.List.{length-map}
use Rattle.std.specs.Io.{StartsWith}
use Rattle.history_lines.proofs.Fronts.{err_always, longer_front}
use Rattle.history_file.proofs.States.{state_added}
use Rattle.history_lines.specs.Fits.{FitsOpening}
use Rattle.history_file.specs.Numbering.{rows_text, texts_of}
use Rattle.history_file.specs.Segments.{mark_line, nodes_text, place_line}
use Rattle.history_file.proofs.state.write_state.Goals as goal

pub returns-clause-ok : goal.returns-clause-ok
returns-clause-ok c =
    let numbered = c.in_ok-numbered.numbered in
    let few : length (texts_of numbered.rows.items) < 2 ^ 64 = omega (arith, c.push_rows.ensures.few, ap length c.deref.ensures.value, length-map numbered.rows.items (λ v. v.items)) in
    state_added c.args.room c.args.at c.args.tables.now (texts_of numbered.rows.items) numbered.uses.items c.args.out.now.items
    c.push_mark.new.out.items c.push.new.self.items c.push_place.new.out.items c.push-2.new.self.items c.push_rows.new.out.items
    c.push_nodes.new.out.items c.extend_from_slice.new.self.items
    (subst (λ o. FitsOpening o c.args.room) c.opening.ensures c.in_ok-push_mark.ensures.fits) c.in_ok-numbered.ensures few
    (c.in_ok-push_mark.ensures.ok ∙ ap (λ o. c.args.out.now.items ++ mark_line o c.args.room) c.opening.ensures) c.in_ok-push.ensures.items
    (c.in_ok-push_place.ensures.ok ∙ ap (λ n. c.push.new.self.items ++ place_line c.args.at n) c.sessions.ensures) c.in_ok-push-2.ensures.items
    (c.in_ok-push_rows.ensures.ok ∙ ap (λ vs. c.push-2.new.self.items ++ rows_text 0 (texts_of vs)) c.deref.ensures.value)
    (c.in_ok-push_nodes.ensures.ok ∙ ap (λ us. c.push_rows.new.out.items ++ nodes_text 0 us c.args.tables.now.neighbours) c.deref-2.ensures.value)
    c.in_ok-extend_from_slice.ensures.items

pub returns-in_err-push_place-clause-err : goal.returns-in_err-push_place-clause-err
returns-in_err-push_place-clause-err c =
    let end = c.push_place.new.out.items in
    let start = c.args.out.now.items in
    err_always c.from_residual-in_err-push_place.result (StartsWith end start)
    (longer_front end start _ c.push_mark.new.out.items c.in_ok-push_mark.ensures.ok
    (longer_front end c.push_mark.new.out.items _ c.push.new.self.items c.in_ok-push.ensures.items c.in_err-push_place.ensures.err))

pub returns-in_err-push_rows-clause-err : goal.returns-in_err-push_rows-clause-err
returns-in_err-push_rows-clause-err c =
    let end = c.push_rows.new.out.items in
    let start = c.args.out.now.items in
    err_always c.from_residual-in_err-push_rows.result (StartsWith end start)
    (longer_front end start _ c.push_mark.new.out.items c.in_ok-push_mark.ensures.ok
    (longer_front end c.push_mark.new.out.items _ c.push.new.self.items c.in_ok-push.ensures.items
    (longer_front end c.push.new.self.items _ c.push_place.new.out.items c.in_ok-push_place.ensures.ok
    (longer_front end c.push_place.new.out.items _ c.push-2.new.self.items c.in_ok-push-2.ensures.items c.in_err-push_rows.ensures.err))))

pub returns-in_err-push_nodes-clause-err : goal.returns-in_err-push_nodes-clause-err
returns-in_err-push_nodes-clause-err c =
    let end = c.push_nodes.new.out.items in
    let start = c.args.out.now.items in
    err_always c.from_residual-in_err-push_nodes.result (StartsWith end start)
    (longer_front end start _ c.push_mark.new.out.items c.in_ok-push_mark.ensures.ok
    (longer_front end c.push_mark.new.out.items _ c.push.new.self.items c.in_ok-push.ensures.items
    (longer_front end c.push.new.self.items _ c.push_place.new.out.items c.in_ok-push_place.ensures.ok
    (longer_front end c.push_place.new.out.items _ c.push-2.new.self.items c.in_ok-push-2.ensures.items
    (longer_front end c.push-2.new.self.items _ c.push_rows.new.out.items c.in_ok-push_rows.ensures.ok c.in_err-push_nodes.ensures.err)))))
