use Rattle.std.proofs.Common.{List, ◌++◌, ℕ, Some}
use Rattle.refusal_texts.specs.Codes.{all_codes, code_codes, lint_codes, run_codes, text_codes}
use Rattle.refusal_texts.proofs.Pages.{said_first, said_then}
use Rattle.refusal_texts.proofs.explanation_of.Goals as goal

abbrev behind_code : List (List ℕ)
behind_code = run_codes ++ lint_codes

abbrev behind_texts : List (List ℕ)
behind_texts = code_codes ++ behind_code

pub returns-in-Some : goal.returns-in-Some
unfolding all_codes
returns-in-Some c = said_first text_codes behind_texts c.args.code.now c.in-Some.text c.in-Some.ensures

pub returns-in-Some-of_code : goal.returns-in-Some-of_code
unfolding all_codes
returns-in-Some-of_code c =
    let word = c.args.code.now in
    said_then text_codes behind_texts word (Some c.in-Some-of_code.text) c.in_default.ensures
    (said_first code_codes behind_code word c.in-Some-of_code.text c.in-Some-of_code.ensures)

pub returns-in-Some-of_runs : goal.returns-in-Some-of_runs
unfolding all_codes
returns-in-Some-of_runs c =
    let word = c.args.code.now in
    let said = Some c.in-Some-of_runs.text in
    said_then text_codes behind_texts word said c.in_default.ensures
    (said_then code_codes behind_code word said c.in_default-of_code.ensures
    (said_first run_codes lint_codes word c.in-Some-of_runs.text c.in-Some-of_runs.ensures))

pub returns : goal.returns
unfolding all_codes
returns c =
    let word = c.args.code.now in
    let said = c.of_warnings.result in
    said_then text_codes behind_texts word said c.in_default.ensures
    (said_then code_codes behind_code word said c.in_default-of_code.ensures
    (said_then run_codes lint_codes word said c.in_default-of_runs.ensures c.of_warnings.ensures))
