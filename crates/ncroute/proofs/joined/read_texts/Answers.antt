-- The sources so far were read, and the next one is read too, or it is not.
use Rattle.std.proofs.Common.{ℕ, List, ap, subst, sym}
use Rattle.ncroute.specs.Joining.{lines_of}
use Rattle.ncroute.specs.Joining.{JoinsFirst}
use Rattle.ncroute.proofs.JoinedRead.{none_joined, not_joined, one_more_joined}
use Rattle.ncroute.proofs.joined.read_texts.Goals as goal

pub loop-source-init : goal.loop-source-init
loop-source-init g c =
    let opens = g.F.Folder.opens c.args.files.now in
    let known = g.R.Read.remaining c.args.reader.now in
    record {
      first = subst (λ (l : List ℕ). JoinsFirst opens c.args.sources.now 0 l known known) (sym c.new-text.ensures.items)
          (none_joined opens c.args.sources.now known);
      counted = ap lines_of (sym c.new-text.ensures.items);
    }

pub loop-source-preserved : goal.loop-source-preserved
loop-source-preserved g c =
    record {
      first = one_more_joined (g.F.Folder.opens c.args.files.now) c.args.sources.now c.loop-source.source-index c.source-item.result
          c.loop-source.joined.text.items c.read_next.new.joined.text.items _ _ _ c.loop-source-test.true c.source-item.is
          c.loop-source.invariant.first c.in-Ok.ensures.read;
      counted = c.in-Ok.ensures.counted;
    }

pub returns-in-Err-clause-unread : goal.returns-in-Err-clause-unread
returns-in-Err-clause-unread g c =
    not_joined (g.F.Folder.opens c.args.files.now) c.args.sources.now c.loop-source.source-index c.source-item.result
    c.in-Err.why c.loop-source.joined.text.items _ _ _ c.loop-source-test.true c.source-item.is c.loop-source.invariant.first c.in-Err.ensures.unread
