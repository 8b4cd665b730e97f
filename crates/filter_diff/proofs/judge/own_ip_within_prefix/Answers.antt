use Rattle.std.proofs.Common.{inl, inr}
use Rattle.filter_diff.proofs.Tests.{own_ip_inside, own_ip_outside}
use Rattle.filter_diff.proofs.judge.own_ip_within_prefix.Goals as goal

pub returns-then-most-first : goal.returns-then-most-first
returns-then-most-first c =
    own_ip_outside c.args.class.now c.args.a c.args.outer c.args.kept c.in-Some.least c.in-Some.most c.ends_of-first.result.0 c.ends_of-first.result.1
    c.requires c.ends_of-first.ensures.fits c.ends_of-first.ensures.first c.ends_of-first.ensures.last c.in-Some.ensures (inl c.if-most-first.true)

pub returns-then-last-least : goal.returns-then-last-least
returns-then-last-least c =
    own_ip_outside c.args.class.now c.args.a c.args.outer c.args.kept c.in-Some.least c.in-Some.most c.ends_of-first.result.0 c.ends_of-first.result.1
    c.requires c.ends_of-first.ensures.fits c.ends_of-first.ensures.first c.ends_of-first.ensures.last c.in-Some.ensures (inr c.if-last-least.true)

pub returns-then-most-last : goal.returns-then-most-last
returns-then-most-last c =
    own_ip_inside c.args.class.now c.args.a c.args.outer c.args.kept c.in-Some.least c.in-Some.most c.ends_of-first.result.0 c.ends_of-first.result.1
    c.requires c.ends_of-first.ensures.fits c.ends_of-first.ensures.first c.ends_of-first.ensures.last c.in-Some.ensures c.if-first-least.true c.if-most-last.true
