use Rattle.std.proofs.Common.{◌≡◌, Ok, Err, inr, subst, arith}
use Rattle.std.proofs.lemmas.Result.{err_from_is_err_and}
use Rattle.code_file.specs.Reading.{Rest, read, a_mark}
use Rattle.code_file.proofs.Formats.{from_start}
use Rattle.code_file.proofs.Parts.{mark_refused, code_refused, bytes_follow, no_bytes_follow}
use Rattle.code_file.proofs.reading.code_of.Goals as goal

pub returns-in_err-version : goal.returns-in_err-version
returns-in_err-version c =
    let found = c.in_err-version.field-0.0 in
    let met : read a_mark (from_start c.args.bytes.now) ≡ Err found =
    subst (λ (r : Rest). read a_mark r ≡ Err found) c.new-reader.ensures c.in_err-version.ensures in
    let p = err_from_is_err_and c.from_residual.result c.from_residual.ensures.1 in
    rw (p.1, p.2) (inr (mark_refused c.args.bytes.now found met))

pub returns-in_err-code : goal.returns-in_err-code
returns-in_err-code c =
    let version = c.in_ok-version.version in
    let left = c.mark.new.self in
    let start : read a_mark (from_start c.args.bytes.now) ≡ Ok (version, left) =
    subst (λ (r : Rest). read a_mark r ≡ Ok (version, left)) c.new-reader.ensures c.in_ok-version.ensures in
    let p = err_from_is_err_and c.from_residual-in_err-code.result c.from_residual-in_err-code.ensures.1 in
    rw (p.1, p.2) (code_refused c.args.bytes.now version left c.in_err-code.field-0.0 start c.in_err-code.ensures)

pub returns-then-left-gt0 : goal.returns-then-left-gt0
returns-then-left-gt0 c =
    let version = c.in_ok-version.version in
    let left = c.mark.new.self in
    let start : read a_mark (from_start c.args.bytes.now) ≡ Ok (version, left) =
    subst (λ (r : Rest). read a_mark r ≡ Ok (version, left)) c.new-reader.ensures c.in_ok-version.ensures in
    rw c.at.ensures (inr (bytes_follow c.args.bytes.now version left c.code_in.new.reader c.in_ok-code.code start
    c.in_ok-code.ensures (omega (arith, c.left.ensures, c.if-left-gt0.true))))

pub returns : goal.returns
returns c =
    let version = c.in_ok-version.version in
    let left = c.mark.new.self in
    let start : read a_mark (from_start c.args.bytes.now) ≡ Ok (version, left) =
    subst (λ (r : Rest). read a_mark r ≡ Ok (version, left)) c.new-reader.ensures c.in_ok-version.ensures in
    no_bytes_follow c.args.bytes.now version left c.code_in.new.reader c.in_ok-code.code start c.in_ok-code.ensures
    (omega (arith, c.left.ensures, c.if-left-gt0.false))
