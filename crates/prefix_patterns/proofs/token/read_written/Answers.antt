use Rattle.std.proofs.Common.{rules, ℕ, ◌≡◌, ◌∙◌, sym, Option, Some, None, List, IfSome}
use Rattle.prefix_patterns.specs.Reading.{written_in}
use Rattle.prefix_patterns.specs.Written.{IsWrittenPrefix}
use Rattle.prefix_patterns.specs.declared.written.WrittenPrefix.{WrittenPrefix}
use Rattle.prefix_patterns.proofs.Tokens.{written_in-found, written_in-only}
use Rattle.prefix_patterns.proofs.token.read_written.Goals as goal

-- what is read, where reading gave it
found : (text : List ℕ) (result : Option WrittenPrefix) → result ≡ written_in text → IfSome result (IsWrittenPrefix text)
found text None e = tt
found text (Some written) e = written_in-found text written (sym e)

pub returns-in_err-address-clause-only : goal.returns-in_err-address-clause-only
unfolding written_in
returns-in_err-address-clause-only c =
    let exact : c.from_residual.result ≡ written_in c.args.text.now = search rules in
    λ written is. exact ∙ written_in-only c.args.text.now written is

pub returns-in_err-address-2-clause-only : goal.returns-in_err-address-2-clause-only
unfolding written_in
returns-in_err-address-2-clause-only c =
    let exact : c.from_residual-in_err-address-2.result ≡ written_in c.args.text.now = search rules in
    λ written is. exact ∙ written_in-only c.args.text.now written is

pub returns-in_err-len-clause-only : goal.returns-in_err-len-clause-only
unfolding written_in
returns-in_err-len-clause-only c =
    let exact : c.from_residual-in_err-len.result ≡ written_in c.args.text.now = search rules in
    λ written is. exact ∙ written_in-only c.args.text.now written is

pub returns-clause-found : goal.returns-clause-found
unfolding written_in
returns-clause-found c =
    let exact : Some c.new.result ≡ written_in c.args.text.now = search rules in
    found c.args.text.now (Some c.new.result) exact

pub returns-clause-only : goal.returns-clause-only
unfolding written_in
returns-clause-only c =
    let exact : Some c.new.result ≡ written_in c.args.text.now = search rules in
    λ written is. exact ∙ written_in-only c.args.text.now written is
