-- Whoever looks alone enters nothing, names nothing, and sees the history grow.
use Rattle.std.proofs.Common.{◌≡◌, ℕ, List, [], ◌∷◌, Option, Some, None, Result, Ok, Err, IfOk, refl, ap, ◌∙◌, inl, inr}
use Rattle.std.specs.Prelude.{codes}
use Rattle.line_protocol.specs.Answers.{Answer, is_end}
use Rattle.line_protocol.specs.Lines.{numbered}
use Rattle.line_protocol.specs.Runs.{Finishes, IsLeft, Reaches, Runs, RunsFront, Stops}
use Rattle.line_protocol.specs.declared.answers.LineReply.{LineReply}
use Rattle.line_protocol.specs.declared.faults.StreamFault.{StreamFault}
use Rattle.line_protocol.specs.declared.faults.StreamFault.TheVariants.{Read, Write, Memory, TooLong}
use Rattle.operator_cmds.specs.CommandView.{CommandView, Network, Prefix, Load, Code, Import, Export, Up, Down, Receive, Take, Show, Look, History}
use Rattle.operator_cmds.specs.CommandView.{view_of}
use Rattle.operator_cmds.specs.Commands.{Read as ReadCommand, command_in}
use Rattle.operator_cmds.specs.Replies.{Adds, Answers, refused}
use Rattle.operator_cmds.specs.declared.command.Command.{Command}
use Rattle.operator_cmds.specs.declared.command.Command.TheVariants as command
use Rattle.operator_cmds.specs.declared.command.Look.{Look as TablesLook}
use Rattle.operator_cmds.proofs.Answering.{added}
use Rattle.operator_cmds.proofs.Unended.{either}
use Rattle.router_operator.specs.Lookers.{AnswersAsked, AnswersCommand, AnswersLine, AnswersRead, BreaksOff, IsBrokenOff, IsServed, OnlyLooks}
use Rattle.router_operator.specs.OperatorView.{OperatorView}
use Rattle.router_operator.specs.Operators.{Looks, Refuses, SeesMore}
use Rattle.router_operator.specs.Questions.{question_in}
use Rattle.router_operator.specs.Running.{input_limit}
use Rattle.router_operator.specs.declared.questions.Question.{Question}
use Rattle.router_operator.specs.declared.questions.Question.TheVariants as question
use Rattle.router_operator.proofs.Staying.{by_look, by_same, stays_then}

-- a command that looks at nothing is refused
refuses : (before : OperatorView) (number : ℕ) (c : Command) (answer : Answer) (after : OperatorView)
    → ((look : TablesLook) → c ≡ command.Look look → ⊥) → ((from : ℕ) → c ≡ command.History from → ⊥)
    → Refuses (codes "O11") number before answer after → AnswersCommand before number (view_of c) answer after
refuses before number (command.Network n) answer after no_look no_entries h = h
refuses before number (command.Prefix node prefix) answer after no_look no_entries h = h
refuses before number (command.Load name text) answer after no_look no_entries h = h
refuses before number (command.Code name bytes) answer after no_look no_entries h = h
refuses before number (command.Import node name) answer after no_look no_entries h = h
refuses before number (command.Export node name) answer after no_look no_entries h = h
refuses before number (command.Up node) answer after no_look no_entries h = h
refuses before number (command.Down node) answer after no_look no_entries h = h
refuses before number (command.Receive node dest dist) answer after no_look no_entries h = h
refuses before number (command.Take node) answer after no_look no_entries h = h
refuses before number (command.Show node) answer after no_look no_entries h = h
refuses before number (command.Look look) answer after no_look no_entries h = absurd (no_look look refl)
refuses before number (command.History from) answer after no_look no_entries h = absurd (no_entries from refl)

-- and so it is answered
pub refused_alone : {E : Type 0} (before after : OperatorView) (number at : ℕ) (c : Command) (r : Result LineReply E) (old new : List ℕ)
    → ((look : TablesLook) → c ≡ command.Look look → ⊥) → ((from : ℕ) → c ≡ command.History from → ⊥) → after ≡ before → at ≡ number
    → IfOk r (Adds (refused (codes "O11") at) old new)
    → IfOk r (Answers (λ answer. AnswersCommand before number (view_of c) answer after) old new)
refused_alone before after number at c r old new no_look no_entries same place h =
    added r (refused (codes "O11") at) (λ answer. AnswersCommand before number (view_of c) answer after) old new
    (λ answer is. refuses before number c answer after no_look no_entries (is ∙ ap (λ (n : ℕ). refused (codes "O11") n) place, same)) h

-- and so is `quit`
pub no_quit : {E : Type 0} (before after : OperatorView) (number at : ℕ) (line : List ℕ) (r : Result LineReply E) (old new : List ℕ)
    → after ≡ before → at ≡ number → IfOk r (Adds (refused (codes "O11") at) old new)
    → IfOk r (Answers (λ answer. AnswersAsked before number line (Some question.Quit) answer after) old new)
no_quit before after number at line r old new same place h =
    added r (refused (codes "O11") at) (λ answer. AnswersAsked before number line (Some question.Quit) answer after) old new
    (λ answer is. (is ∙ ap (λ (n : ℕ). refused (codes "O11") n) place, same)) h

alone_same : (before after : OperatorView) → after ≡ before → OnlyLooks before after
alone_same before after e = record {
  mine = ap (λ (o : OperatorView). o.pass.fragment.mine) e;
  names = ap (λ (o : OperatorView). o.names) e;
  stays = by_same before after e;
}

alone_look : (before after : OperatorView) → Looks before after → OnlyLooks before after
alone_look before after h = record {
  mine = h.mine;
  names = ap (λ (o : OperatorView). o.names) h.only.rest;
  stays = by_look before after h;
}

alone_then : (a b c : OperatorView) → OnlyLooks a b → OnlyLooks b c → OnlyLooks a c
alone_then a b c p q = record { mine = q.mine ∙ p.mine; names = q.names ∙ p.names; stays = stays_then a b c p.stays q.stays }

by_command : (before : OperatorView) (number : ℕ) (c : CommandView) (answer : Answer) (after : OperatorView)
    → AnswersCommand before number c answer after → OnlyLooks before after
by_command before number (Look look) answer after h = alone_look before after h.0
by_command before number (History from) answer after h = alone_look before after h.0
by_command before number (Network size me limit) answer after h = alone_same before after h.1
by_command before number (Prefix node bits) answer after h = alone_same before after h.1
by_command before number (Load name text) answer after h = alone_same before after h.1
by_command before number (Code name bytes) answer after h = alone_same before after h.1
by_command before number (Import node name) answer after h = alone_same before after h.1
by_command before number (Export node name) answer after h = alone_same before after h.1
by_command before number (Up node) answer after h = alone_same before after h.1
by_command before number (Down node) answer after h = alone_same before after h.1
by_command before number (Receive node dest dist) answer after h = alone_same before after h.1
by_command before number (Take node) answer after h = alone_same before after h.1
by_command before number (Show node) answer after h = alone_same before after h.1

by_read : (before : OperatorView) (number : ℕ) (read : ReadCommand) (answer : Answer) (after : OperatorView)
    → AnswersRead before number read answer after → OnlyLooks before after
by_read before number (Ok c) answer after h = by_command before number c answer after h
by_read before number (Err why) answer after h = alone_same before after h.1

by_line : (before : OperatorView) (number : ℕ) (line : List ℕ) (answer : Answer) (after : OperatorView)
    → AnswersLine before number line answer after → OnlyLooks before after
by_line before number line answer after h = asked (question_in line) h
  where
    asked : (q : Option Question) → AnswersAsked before number line q answer after → OnlyLooks before after
    asked None h = by_read before number (command_in line) answer after h
    asked (Some question.Quit) h = alone_same before after h.1
    asked (Some (question.Status form)) h = alone_look before after h.1.0
    asked (Some question.Routes) h = alone_look before after h.0

by_run : (before : OperatorView) (lines : List (ℕ × List ℕ)) (given : List Answer) (after : OperatorView)
    → Runs AnswersLine before lines given after → OnlyLooks before after
by_run before [] [] after h = alone_same before after h
by_run before [] (a ∷ more) after h = absurd h
by_run before (l ∷ ls) [] after h = absurd h
by_run before (l ∷ ls) (a ∷ more) after (mid, first, rest) =
    alone_then before mid after (by_line before l.0 l.1 a mid first)
    (either (is_end a.reply) _ _ (λ p. alone_same mid after p.1) (λ q. by_run mid ls more after q) rest)

by_front : (before : OperatorView) (lines : List (ℕ × List ℕ)) (given : List Answer) (after : OperatorView)
    → RunsFront AnswersLine before lines given after → OnlyLooks before after
by_front before lines [] after h = alone_same before after h
by_front before [] (a ∷ more) after h = absurd h
by_front before (l ∷ ls) (a ∷ more) after (mid, first, rest) =
    alone_then before mid after (by_line before l.0 l.1 a mid first)
    (either (is_end a.reply) _ _ (λ p. alone_same mid after p.1) (λ q. by_front mid ls more after q) rest)

sees : (after now : OperatorView) → SeesMore after now → OnlyLooks after now
sees after now (inl same) = alone_same after now same
sees after now (inr looks) = alone_look after now looks

left_so : (after now : OperatorView) → IsLeft BreaksOff after now → OnlyLooks after now
left_so after now (inl same) = alone_same after now same
left_so after now (inr breaks) = sees after now breaks

by_reach : (limit : ℕ) (fault : StreamFault) (before now : OperatorView) (read : List ℕ) (given : List Answer) (after : OperatorView)
    → Reaches AnswersLine BreaksOff limit fault before now read given after → OnlyLooks after now
by_reach limit Read before now read given after h = alone_same after now h.0
by_reach limit Write before now read given after h = left_so after now h
by_reach limit Memory before now read given after h = left_so after now h
by_reach limit TooLong before now read given after h = alone_same after now h.1

pub served : (before after : OperatorView) (input : List ℕ) (left held holds : Option (List ℕ)) (n : ℕ)
    → Finishes AnswersLine input_limit before after input left held holds n → IsServed before after input left held holds n
served before after input left held holds n f = record { finishes = f; looks = by_run before (numbered input) f.given after f.run }

pub broken_off : (fault : StreamFault) (before now : OperatorView) (input : List ℕ) (left held holds : Option (List ℕ))
    → Stops AnswersLine BreaksOff input_limit fault before now input left held holds → IsBrokenOff fault before now input left held holds
broken_off fault before now input left held holds f = record {
  stops = f;
  looks = alone_then before f.after now (by_front before (numbered input) f.given f.after f.run)
      (by_reach input_limit fault before now f.read f.given f.after f.reach);
}
