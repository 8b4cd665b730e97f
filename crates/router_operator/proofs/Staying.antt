-- An operator stays at the router, and sees its history grow.
use Rattle.std.proofs.Common.{◌≡◌, ℕ, List, [], ◌∷◌, Option, Some, None, Ok, Err, ap, ◌∙◌, inl, inr}
use Rattle.std.specs.Prelude.{◌⊎◌}
use Rattle.std.specs.declared.sync.Arc.{Arc}
use Rattle.std.proofs.Common.{Global}
use Rattle.filter_verifier.specs.VerifiedView.{VerifiedView}
use Rattle.line_protocol.specs.Answers.{Answer, is_end}
use Rattle.line_protocol.specs.Runs.{IsLeft, Reaches, Runs, RunsFront}
use Rattle.line_protocol.specs.declared.faults.StreamFault.{StreamFault}
use Rattle.line_protocol.specs.declared.faults.StreamFault.TheVariants.{Read, Write, Memory, TooLong}
use Rattle.netchange_core.specs.declared.event.Event.{Event}
use Rattle.netchange_core.specs.declared.event.Event.TheVariants as event
use Rattle.operator_cmds.specs.CommandView.{CommandView, Network, Prefix, Load, Code, Import, Export, Up, Down, Receive, Take, Show, Look, History}
use Rattle.operator_cmds.specs.Commands.{Read as ReadCommand, command_in}
use Rattle.operator_cmds.specs.Stages.{Open, session_in, session_number}
use Rattle.route_history.specs.Beginning.{Begins}
use Rattle.route_history.specs.JournalView.{JournalView}
use Rattle.router_operator.specs.OperatorView.{OperatorView, filter_of, journal_seen}
use Rattle.router_operator.specs.Operators.{AnswersAsked, AnswersCommand, AnswersDown, AnswersEvent, AnswersLine, AnswersRead, AnswersUse}
use Rattle.router_operator.specs.Operators.{AsScript, BreaksOff, Enters, IsFull, Looks, OnlyPass, Quits, has_link}
use Rattle.router_operator.specs.Questions.{question_in}
use Rattle.router_operator.specs.declared.questions.Question.{Question}
use Rattle.router_operator.specs.declared.questions.Question.TheVariants as question
use Rattle.router_operator.specs.Running.{Stays}
use Rattle.router_operator.proofs.Entering.{begins_more, begins_same, begins_then}
use Rattle.operator_cmds.proofs.Unended.{either}

pub by_same : (before after : OperatorView) → after ≡ before → Stays before after
by_same before after e = record {
  router = ap (λ (o : OperatorView). o.router) e;
  links = ap (λ (o : OperatorView). o.links) e;
  shares = ap (λ (o : OperatorView). o.pass.fragment.shares) e;
  begins = begins_same before.pass.fragment.seen after.pass.fragment.seen (ap (λ (o : OperatorView). o.pass.fragment.seen) e);
}

by_pass : (before after : OperatorView) → OnlyPass before after → Begins before.pass.fragment.seen after.pass.fragment.seen → Stays before after
by_pass before after only begins = record {
  router = ap (λ (o : OperatorView). o.router) only.rest;
  links = ap (λ (o : OperatorView). o.links) only.rest;
  shares = only.shares;
  begins = begins;
}

pub stays_then : (a b c : OperatorView) → Stays a b → Stays b c → Stays a c
stays_then a b c p q = record {
  router = q.router ∙ p.router;
  links = q.links ∙ p.links;
  shares = q.shares ∙ p.shares;
  begins = begins_then a.pass.fragment.seen b.pass.fragment.seen c.pass.fragment.seen p.begins q.begins;
}

by_event : (before : OperatorView) (happened : Event) (answer : Answer) (after : OperatorView)
    → AnswersEvent before happened answer after → Stays before after
by_event before happened answer after h = by_pass before after h.only (grown h.does)
  where
    grown : Enters before h.log happened answer after ⊎ IsFull before h.log answer after → Begins before.pass.fragment.seen after.pass.fragment.seen
    grown (inl e) = begins_more before.pass.fragment.seen h.log _ after.pass.fragment.seen h.found.begins (ap (λ (j : JournalView). j.entries) e.seen)
    grown (inr e) =
        begins_then before.pass.fragment.seen h.log after.pass.fragment.seen h.found.begins
        (begins_same h.log after.pass.fragment.seen (ap (λ (j : JournalView). j.entries) e.seen))

pub by_look : (before after : OperatorView) → Looks before after → Stays before after
by_look before after h = by_pass before after h.only h.found.begins

by_script : (before : OperatorView) (number : ℕ) (command : CommandView) (answer : Answer) (after : OperatorView)
    → AsScript before number command answer after → Stays before after
by_script before number command answer after h = record {
  router = ap (λ (o : OperatorView). o.router) h.names;
  links = ap (λ (o : OperatorView). o.links) h.names;
  shares = ap (λ (o : OperatorView). o.pass.fragment.shares) h.names;
  begins = begins_same before.pass.fragment.seen after.pass.fragment.seen (ap (λ (o : OperatorView). o.pass.fragment.seen) h.names);
}

by_use : (found : Option VerifiedView) (happens : Arc VerifiedView Global → Event) (number : ℕ) (before : OperatorView) (answer : Answer)
    (after : OperatorView) → AnswersUse found happens number before answer after → Stays before after
by_use None happens number before answer after h = by_same before after h.1
by_use (Some f) happens number before answer after h = by_event before (happens h.0) answer after h.2

by_down : (node : ℕ) (before : OperatorView) (answer : Answer) (after : OperatorView) → AnswersDown node before answer after → Stays before after
by_down node before answer after (mid, looks, h) =
    stays_then before mid after (by_look before mid looks) (by_event mid (event.Down (session_number (session_in (Open (journal_seen mid)) node))) answer after h)

by_command : (before : OperatorView) (number : ℕ) (command : CommandView) (answer : Answer) (after : OperatorView)
    → AnswersCommand before number command answer after → Stays before after
by_command before number (Network size me limit) answer after h = by_script before number (Network size me limit) answer after h
by_command before number (Prefix node bits) answer after h = by_script before number (Prefix node bits) answer after h
by_command before number (Load name text) answer after h = by_script before number (Load name text) answer after h
by_command before number (Code name bytes) answer after h = by_script before number (Code name bytes) answer after h
by_command before number (Import node name) answer after h =
    by_use (filter_of before.names name) (λ filter. event.SetImport node filter) number before answer after h
by_command before number (Export node name) answer after h =
    by_use (filter_of before.names name) (λ filter. event.SetExport node filter) number before answer after h
by_command before number (Up node) answer after h = by_same before after h.1
by_command before number (Down node) answer after h =
    either (has_link before.links node) _ _ (λ p. by_same before after p.1) (λ q. by_down node before answer after q) h
by_command before number (Receive node dest dist) answer after h = by_same before after h.1
by_command before number (Take node) answer after h = by_same before after h.1
by_command before number (Show node) answer after h = by_event before (event.Show node) answer after h
by_command before number (Look look) answer after h = by_look before after h.0
by_command before number (History from) answer after h = by_look before after h.0

by_read : (before : OperatorView) (number : ℕ) (read : ReadCommand) (answer : Answer) (after : OperatorView)
    → AnswersRead before number read answer after → Stays before after
by_read before number (Ok command) answer after h = by_command before number command answer after h
by_read before number (Err why) answer after h = by_same before after h.1

by_quit : (before : OperatorView) (answer : Answer) (after : OperatorView) → Quits before answer after → Stays before after
by_quit before answer after h = record {
  router = ap (λ (o : OperatorView). o.router) h.1;
  links = ap (λ (o : OperatorView). o.links) h.1;
  shares = ap (λ (o : OperatorView). o.pass.fragment.shares) h.1;
  begins = begins_same before.pass.fragment.seen after.pass.fragment.seen (ap (λ (o : OperatorView). o.pass.fragment.seen) h.1);
}

by_line : (before : OperatorView) (number : ℕ) (line : List ℕ) (answer : Answer) (after : OperatorView)
    → AnswersLine before number line answer after → Stays before after
by_line before number line answer after h = asked (question_in line) h
  where
    asked : (q : Option Question) → AnswersAsked before number line q answer after → Stays before after
    asked None h = by_read before number (command_in line) answer after h
    asked (Some question.Quit) h = by_quit before answer after h
    asked (Some (question.Status form)) h = by_look before after h.1.0
    asked (Some question.Routes) h = by_look before after h.0

pub by_run : (before : OperatorView) (lines : List (ℕ × List ℕ)) (given : List Answer) (after : OperatorView)
    → Runs AnswersLine before lines given after → Stays before after
by_run before [] [] after h = by_same before after h
by_run before [] (a ∷ more) after h = absurd h
by_run before (l ∷ ls) [] after h = absurd h
by_run before (l ∷ ls) (a ∷ more) after (mid, first, rest) =
    stays_then before mid after (by_line before l.0 l.1 a mid first)
    (either (is_end a.reply) _ _ (λ p. by_same mid after p.1) (λ q. by_run mid ls more after q) rest)

pub by_front : (before : OperatorView) (lines : List (ℕ × List ℕ)) (given : List Answer) (after : OperatorView)
    → RunsFront AnswersLine before lines given after → Stays before after
by_front before lines [] after h = by_same before after h
by_front before [] (a ∷ more) after h = absurd h
by_front before (l ∷ ls) (a ∷ more) after (mid, first, rest) =
    stays_then before mid after (by_line before l.0 l.1 a mid first)
    (either (is_end a.reply) _ _ (λ p. by_same mid after p.1) (λ q. by_front mid ls more after q) rest)

left_so : (after now : OperatorView) → IsLeft BreaksOff after now → Stays after now
left_so after now (inl same) = by_same after now same
left_so after now (inr breaks) = by_pass after now breaks.only breaks.begins

pub by_reach : (limit : ℕ) (fault : StreamFault) (before now : OperatorView) (read : List ℕ) (given : List Answer) (after : OperatorView)
    → Reaches AnswersLine BreaksOff limit fault before now read given after → Stays after now
by_reach limit Read before now read given after h = by_same after now h.0
by_reach limit Write before now read given after h = left_so after now h
by_reach limit Memory before now read given after h = left_so after now h
by_reach limit TooLong before now read given after h = by_same after now h.1
