use Rattle.std.proofs.Common.{◌≡◌, ◌++◌, sym, ap, ◌∙◌, arith}
use Rattle.history_file.proofs.Lines.{different, no_opening_other, opening_from, opening_unread}
use Rattle.history_file.specs.Reading.{OpeningParts}
use Rattle.history_lines.specs.Text.{opening_line}
use Rattle.history_file.specs.declared.reading.OpeningParts.{OpeningParts as Parts}
use Rattle.history_file.proofs.history.read_opening.Goals as goal

-- what the parts that were read are in the words of the definitions
abbrev view : Parts → OpeningParts
view p = record { size = p.size; me = p.me; limit = p.limit; prefixes = p.prefixes.items }

pub returns-in-Err : goal.returns-in-Err
returns-in-Err c = opening_unread view c.args.line.now c.in-Err.fault c.in-Err.ensures.value

pub returns-in_default : goal.returns-in_default
returns-in_default c _ =
    no_opening_other c.args.line.now (view c.in-Ok.parts) c.in-Ok.ensures.value (λ fits same. c.in_default.ensures fits.opening)

pub returns-then-limit-eq0 : goal.returns-then-limit-eq0
returns-then-limit-eq0 c _ =
    no_opening_other c.args.line.now (view c.in-Ok.parts) c.in-Ok.ensures.value
    (λ fits same. absurd (omega (arith, fits.some, c.if-limit-eq0.true)))

pub returns-then-ne : goal.returns-then-ne
returns-then-ne c _ =
    let limit = c.in-Ok.parts.limit in
    let is : c.in-Some.opening ≡ opening_from (view c.in-Ok.parts) = c.in-Some.ensures.1 in
    let spelled = c.as_slice.ensures.value ∙ c.in_ok-push_opening.ensures.ok
    ∙ ap (λ old. old ++ opening_line c.in-Some.opening limit) c.in_ok-again.ensures.items
    ∙ ap (λ o. opening_line o limit) is in
    no_opening_other c.args.line.now (view c.in-Ok.parts) c.in-Ok.ensures.value
    (λ fits same. different c.ne.result c.as_slice.result.now c.args.line.now c.ne.ensures c.if-ne.true (spelled ∙ sym same))
