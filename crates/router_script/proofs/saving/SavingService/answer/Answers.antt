-- A line is answered as the script answers it, then its news is written, and then it may end the script.
use Rattle.std.proofs.Common.{Bool, ap, ◌∙◌}
use Rattle.line_protocol.specs.declared.answers.LineReply.{LineReply}
use Rattle.router_script.specs.State.{prepared_of}
use Rattle.router_script.specs.Stopping.{reply_where}
use Rattle.router_script.proofs.Added.{answered}
use Rattle.router_script.proofs.saving.SavingService.answer.Goals as goal

pub returns-clause-ok : goal.returns-clause-ok
returns-clause-ok g c =
    let (text, grown, told) = c.in_ok-reply.ensures.ok in
    let before = c.args.self.now in
    let saved = c.save.new.self in
    let after = c.end.new.self in (
      text,
      grown,
      answered (prepared_of before.prepared) (prepared_of c.answer.new.self) (prepared_of saved.prepared) (prepared_of after.prepared)
          (g.V.Write.contents before.saver) (g.V.Write.contents after.saver) before.saves after.saves before.stops after.stops
          c.count_entries-saved.result
          c.args.number c.args.line.now (record { text = text; reply = c.in_ok-reply.reply }) (record { text = text; reply = c.end.result })
          c.count_entries-saved.ensures told c.save.ensures.script c.end.ensures.script
          (rw c.end.ensures.saver c.in_ok-save.ensures.ok)
          (ap (λ (r : LineReply). record { text = text; reply = r })
          (c.end.ensures.reply ∙ ap (λ (b : Bool). reply_where b c.in_ok-reply.reply) c.save.ensures.stops))
          (c.end.ensures.saves ∙ c.save.ensures.saves) (c.end.ensures.stops ∙ c.save.ensures.stops),
    )
