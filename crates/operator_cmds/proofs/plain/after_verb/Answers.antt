-- A word of four bytes is read as one number.
use Rattle.std.proofs.Common.{◌∷◌, ◌++◌, ◌-◌, length, drop, ap, sym, ◌∙◌, arith}
use Rattle.std.proofs.lemmas.List.{length-drop, take_all}
use Rattle.operator_cmds.proofs.Verbs.{word_is}
use Rattle.operator_cmds.proofs.plain.after_verb.Goals as goal

pub returns-clause-found : goal.returns-clause-found
returns-clause-found c =
    let line = c.args.line.now in
    let verb = c.args.verb.now in
    let same = sym c.from_le_bytes.ensures ∙ c.if-from_le_bytes.false ∙ c.from_le_bytes-2.ensures in
    word_is line verb (omega arith) c.told-verb (λ i. omega (arith, c.type_inv.line i)) c.fits-verb same (omega arith)
    ∙ ap (λ rest. verb ++ 32 ∷ rest) (sym (take_all (length line - 5) (drop 5 line) (omega (arith, length-drop 5 line))))
