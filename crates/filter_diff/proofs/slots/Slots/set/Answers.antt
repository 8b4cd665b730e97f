use Rattle.std.proofs.Common.{◌≡◌, ◌<◌, Some, length, take, slice_set, ◌∙◌, ap, arith}
use Rattle.std.proofs.lemmas.List.{length-take}
use Rattle.std.proofs.Math.Seq.{take-set-lt}
use Rattle.filter_diff.proofs.slots.Slots.set.Goals as goal

pub returns : goal.returns
returns c =
    let inside = c.self.inside in
    let as_many : length (take inside.count inside.values) ≡ length c.args.self.now = ap length c.self.view_is in
    let here : c.args.local < inside.count = omega (arith, c.requires, length-take inside.count inside.values) in
    let set_in = take-set-lt inside.count inside.values c.args.local (Some c.args.value) here in
    rw c.from.ensures (set_in ∙ ap (λ locals. slice_set locals c.args.local (Some c.args.value)) c.self.view_is)
