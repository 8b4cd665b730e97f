use Rattle.std.proofs.Common.{◌≡◌, false, ◌∙◌, sym, ap}
use Rattle.prefix_patterns.specs.Matching.{has_same_bits}
use Rattle.filter_diff.proofs.Knowing.{differ_known}
use Rattle.filter_diff.proofs.class.Class.matches.Goals as goal

pub returns-then-not-has_same_bits : goal.returns-then-not-has_same_bits
returns-then-not-has_same_bits c route of =
    let here : has_same_bits c.args.self.now.known c.prefix-prefix.result ≡ false = sym c.has_same_bits.ensures ∙ c.if-not-has_same_bits.true in
    let none : has_same_bits route.net c.args.pattern.now.bits ≡ false =
    differ_known _ _ _ of.begins (ap (has_same_bits c.args.self.now.known) (sym c.prefix-prefix.ensures) ∙ here) in
    rw none
