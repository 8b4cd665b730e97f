-- What the script of a domain answers decides.
use Rattle.std.proofs.Common.{◌≡◌, arith, map}
use Rattle.std.specs.Option.{option_map}
use Rattle.std.proofs.lemmas.Grind.{common_steps}
use Rattle.line_protocol.specs.declared.answers.LineReply.TheVariants as line_reply
use Rattle.domain_files.specs.FileView.{use_of}
use Rattle.domain_files.specs.Files.{view_of}
use Rattle.domain_files.proofs.Setting.{refused, set}
use Rattle.domain_files.proofs.file.DomainFile.set_up.Goals as goal

pub returns-then-ne : goal.returns-then-ne
returns-then-ne c =
    refused c.args.self.now c.self.inside.planning c.carry_out.new.self (map use_of c.self.inside.uses.items) c.args.number (view_of c.args.command)
    c.in_ok-reply.reply c.args.answer.now.items c.carry_out.new.out.items c.self.view_is c.in_ok-reply.ensures.ok c.requires.empty
    (λ same. grind (arith, common_steps))

pub returns : goal.returns
returns c =
    let is : c.in_ok-reply.reply ≡ line_reply.Answered = grind (arith, common_steps) in
    set c.args.self.now c.self.inside.planning c.carry_out.new.self (map use_of c.self.inside.uses.items) c.args.number (view_of c.args.command)
    c.in_ok-reply.reply c.args.answer.now.items c.carry_out.new.out.items c.self.view_is c.in_ok-reply.ensures.ok
    (option_map use_of c.in_ok-used.used) c.note_use.new.self is c.in_ok-used.ensures c.in_ok-note_use.ensures
