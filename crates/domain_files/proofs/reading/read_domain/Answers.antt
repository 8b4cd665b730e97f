-- One line more.
use Rattle.std.proofs.Common.{ℕ, subst, sym}
use Rattle.domain_files.specs.Files.{TakesLine}
use Rattle.domain_files.proofs.Taking.{HasTaken, one_taken}
use Rattle.domain_files.proofs.reading.read_domain.Goals as goal

pub loop-line-preserved : goal.loop-line-preserved
loop-line-preserved c =
    let next = c.in_ok-number.ensures.next in
    let taken = rw c.in-Done.is at c.in_ok-take.ensures in
    subst (λ (n : ℕ). HasTaken c.args.text.now n c.in-Some.rest.now c.take.new.self.file) (sym next)
    (one_taken c.args.text.now c.loop-line.number c.loop-line.left.now c.in-Some.line.now c.in-Some.rest.now c.loop-line.reading.file c.loop-line.invariant
    c.in-Some.ensures.found c.take.new.self.file
    (subst (λ (n : ℕ). TakesLine c.loop-line.reading.file n c.in-Some.line.now c.take.new.self.file) next taken))
