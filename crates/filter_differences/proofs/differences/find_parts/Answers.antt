use Rattle.std.proofs.Common.{◌≡◌}
use Rattle.filter_differences.proofs.Joined.{all_joined, never_both, none_of_equal}
use Rattle.filter_differences.proofs.differences.find_parts.Goals as goal

pub returns-then-same : goal.returns-then-same
returns-then-same c =
    rw c.new.ensures.items (none_of_equal c.args.old.now c.args.new.now c.args.size c.args.limit (c.in_ok-same.ensures.0 c.if-same.true))

pub returns : goal.returns
returns c =
    let apart : c.args.old.now ≡ c.args.new.now → ⊥ = λ same. never_both _ (c.in_ok-same.ensures.1 same) c.if-same.false in
    all_joined c.args.old.now c.args.new.now c.args.size c.args.limit _ c.join_all.result apart c.join_all.ensures
    (record {
      complete = c.in_ok-parts.ensures.complete;
      sound = c.in_ok-parts.ensures.sound;
      real = c.in_ok-parts.ensures.real;
      decided = c.in_ok-parts.ensures.decided;
      none = λ same. absurd (apart same);
    })
