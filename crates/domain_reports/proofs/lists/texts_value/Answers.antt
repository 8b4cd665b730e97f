use Rattle.std.proofs.Common.{ℕ, Global, Vec}
use Rattle.domain_reports.specs.Reports.{text_data}
use Rattle.domain_reports.proofs.Listing.{all_shown, one_more_shown}
use Rattle.domain_reports.proofs.lists.texts_value.Goals as goal

pub loop-text-preserved : goal.loop-text-preserved
loop-text-preserved c =
    one_more_shown text_data (λ (text : Vec ℕ Global). text.items) c.args.texts.now c.loop-text.text-index c.text-item.result c.loop-text.list.items
    c.push.new.self.items c.in_ok-text_value.field-0 c.loop-text-test.true c.text-item.is c.in_ok-push.ensures.items c.loop-text.invariant
    (rw c.as_slice.ensures.value at c.in_ok-text_value.ensures)

pub returns : goal.returns
returns c =
    all_shown text_data (λ (text : Vec ℕ Global). text.items) c.args.texts.now c.loop-text.text-index c.loop-text.list c.loop-text-test.false c.loop-text.invariant
