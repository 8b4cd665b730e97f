use Rattle.std.proofs.Common.{◌≡◌, ◌++◌, ◌≤◌, OnOk, ℕ, zero, suc, List, refl, sym, subst, arith}
use Rattle.filter_diff.specs.declared.route_part.RoutePart.{RoutePart}
use Rattle.filter_differences.specs.PartLines.{last_words, several_words}
use Rattle.filter_differences.proofs.part_lines.push_last_words.Goals as goal

several : (size count : ℕ) (parts : List RoutePart) → 2 ≤ count → last_words size count parts ≡ several_words count
several size zero parts h = absurd (omega (arith, h))
several size (suc zero) parts h = absurd (omega (arith, h))
several size (suc (suc more)) parts h = refl

pub returns : goal.returns
returns c =
    let more : 2 ≤ c.args.undecided = omega (arith, c.if-undecided-eq0.false, c.if-undecided-eq1.false) in
    subst (λ (words : List ℕ). OnOk c.push_several_words.result (c.push_several_words.new.out.items ≡ c.args.out.now.items ++ words))
    (sym (several c.args.size c.args.undecided c.args.parts.now more)) c.push_several_words.ensures
