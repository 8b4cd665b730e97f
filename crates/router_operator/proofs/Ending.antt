-- An operator's lines end where their input does, or at `quit`.
use Rattle.std.proofs.Common.{◌≡◌, ℕ, nat_le, Bool, true, false, ◌||◌, List, [], ◌∷◌, Option, Some, None, Ok, Err, Global, refl, ap, ◌∙◌, inl, inr}
use Rattle.std.specs.Prelude.{MatchBool, ◌⊎◌, codes}
use Rattle.std.specs.declared.sync.Arc.{Arc}
use Rattle.filter_source.specs.Sources.{IsRefusedText}
use Rattle.filter_verifier.specs.VerifiedView.{VerifiedView}
use Rattle.line_protocol.specs.Answers.{Answer, is_end, is_over}
use Rattle.line_protocol.specs.Lines.{numbered}
use Rattle.line_protocol.specs.Runs.{Finishes, Runs, Stops}
use Rattle.line_protocol.specs.declared.faults.StreamFault.{StreamFault}
use Rattle.netchange_core.specs.declared.event.Event.{Event}
use Rattle.netchange_core.specs.declared.event.Event.TheVariants as event
use Rattle.operator_cmds.specs.CommandView.{CommandView, Network, Prefix, Load, Code, Import, Export, Up, Down, Receive, Take, Show, Look, History}
use Rattle.operator_cmds.specs.Commands.{Read, command_in}
use Rattle.operator_cmds.specs.Looks.{can_look, history_text, look_text}
use Rattle.operator_cmds.specs.Script as script
use Rattle.operator_cmds.specs.Stages.{Open, session_in, session_number}
use Rattle.router_operator.specs.OperatorView.{OperatorView, filter_of, journal_seen, journal_with, script_of}
use Rattle.router_operator.specs.Operators.{AnswersAsked, AnswersCommand, AnswersEvent, AnswersLine, AnswersRead, AnswersUse}
use Rattle.router_operator.specs.Operators.{BreaksOff, Enters, IsFull, has_link}
use Rattle.router_operator.specs.Questions.{question_in}
use Rattle.router_operator.specs.declared.questions.Question.{Question}
use Rattle.router_operator.specs.declared.questions.Question.TheVariants as question
use Rattle.router_operator.specs.Running.{IsBrokenOff, IsServed, input_limit}
use Rattle.router_operator.proofs.Staying.{by_front, by_reach, by_run, stays_then}
use Rattle.operator_cmds.proofs.Unended.{GoesOn, either, given, like, replied, source}

module _ (before : OperatorView) (answer : Answer) (after : OperatorView) where
  happening : (happened : Event) → AnswersEvent before happened answer after → GoesOn answer
  happening happened h = does h.does
    where
      does : Enters before h.log happened answer after ⊎ IsFull before h.log answer after → GoesOn answer
      does (inl e) = like answer _ e.answers (replied _ (script.told_of (journal_with before.router h.log) happened))
      does (inr e) = like answer _ e.answers refl

  by_name : (found : Option VerifiedView) (happens : Arc VerifiedView Global → Event) (number : ℕ)
      → AnswersUse found happens number before answer after → GoesOn answer
  by_name None happens number h = like answer _ h.0 refl
  by_name (Some f) happens number h = happening (happens h.0) h.2

command : (before : OperatorView) (answer : Answer) (after : OperatorView) (number : ℕ) (c : CommandView)
    → AnswersCommand before number c answer after → GoesOn answer
command before answer after number (Network size me limit) h = like answer _ h.answers.0 refl
command before answer after number (Prefix node bits) h = like answer _ h.answers.0 refl
command before answer after number (Load name text) h =
    source (script.GivesText text) (IsRefusedText text) before.router.opening.size number name (script_of before).filters answer (script_of after).filters h.answers.filters
command before answer after number (Code name bytes) h =
    source (script.GivesFile bytes) (script.IsRefusedFile bytes) before.router.opening.size number name (script_of before).filters answer (script_of after).filters h.answers.filters
command before answer after number (Import node name) h =
    by_name before answer after (filter_of before.names name) (λ f. event.SetImport node f) number h
command before answer after number (Export node name) h =
    by_name before answer after (filter_of before.names name) (λ f. event.SetExport node f) number h
command before answer after number (Up node) h = like answer _ h.0 refl
command before answer after number (Down node) h =
    either (has_link before.links node) _ _ (λ p. like answer _ p.0 refl)
    (λ q. happening q.0 answer after (event.Down (session_number (session_in (Open (journal_seen q.0)) node))) q.2) h
command before answer after number (Receive node dest dist) h = like answer _ h.0 refl
command before answer after number (Take node) h = like answer _ h.0 refl
command before answer after number (Show node) h = happening before answer after (event.Show node) h
command before answer after number (Look look) h =
    let w = script.tables_of (journal_seen after) in like answer _ h.1 (given (can_look w look) (look_text w look) (codes "O2") number)
command before answer after number (History from) h =
    let first = after.pass.fragment.forgot in
    like answer _ h.1 (given (nat_le first from) (history_text after.pass.fragment.seen from) (codes "O10") first)

read : (before : OperatorView) (answer : Answer) (after : OperatorView) (number : ℕ) (r : Read) → AnswersRead before number r answer after
    → GoesOn answer
read before answer after number (Ok c) h = command before answer after number c h
read before answer after number (Err why) h = like answer _ h.0 refl

-- a line whose answer is the last is `quit`
quits : (before : OperatorView) (number : ℕ) (line : List ℕ) (answer : Answer) (after : OperatorView)
    → AnswersLine before number line answer after → is_end answer.reply ≡ true → after.has_quit ≡ true
quits before number line answer after h ends = asked (question_in line) h
  where
    goes_on : is_end answer.reply ≡ false → after.has_quit ≡ true
    goes_on on = cc

    asked : (q : Option Question) → AnswersAsked before number line q answer after → after.has_quit ≡ true
    asked None h = goes_on (read before answer after number (command_in line) h)
    asked (Some question.Quit) h = ap (λ (o : OperatorView). o.has_quit) h.1
    asked (Some (question.Status form)) h = goes_on (like answer _ h.1.1 refl)
    asked (Some question.Routes) h = goes_on (like answer _ h.1 refl)

over_next : (b : Bool) (before mid after : OperatorView) (line : ℕ × List ℕ) (lines : List (ℕ × List ℕ)) (a : Answer) (more : List Answer)
    → is_end a.reply ≡ b → AnswersLine before line.0 line.1 a mid
    → MatchBool b ((more ≡ []) × (after ≡ mid)) (Runs AnswersLine mid lines more after) → (b || is_over more) ≡ true
    → (Runs AnswersLine mid lines more after → is_over more ≡ true → after.has_quit ≡ true) → after.has_quit ≡ true
over_next true before mid after line lines a more ends first last o rest =
    ap (λ (x : OperatorView). x.has_quit) last.1 ∙ quits before line.0 line.1 a mid first ends
over_next false before mid after line lines a more ends first runs o rest = rest runs o

over : (before : OperatorView) (lines : List (ℕ × List ℕ)) (given : List Answer) (after : OperatorView)
    → Runs AnswersLine before lines given after → is_over given ≡ true → after.has_quit ≡ true
over before [] [] after h e = cc
over before [] (a ∷ more) after h e = absurd h
over before (l ∷ ls) [] after h e = absurd h
over before (l ∷ ls) (a ∷ more) after (mid, first, rest) e =
    over_next (is_end a.reply) before mid after l ls a more refl first rest e (λ r o. over mid ls more after r o)

not_over : (given : List Answer) (quit : Bool) → (is_over given ≡ true → quit ≡ true) → quit ≡ false → is_over given ≡ false
not_over given quit h going = split (is_over given) refl
  where
    split : (b : Bool) → is_over given ≡ b → b ≡ false
    split true e = let yes : quit ≡ true = h e in cc
    split false e = refl

pub served : (before after : OperatorView) (input : List ℕ) (left held holds : Option (List ℕ)) (n : ℕ)
    → Finishes AnswersLine input_limit before after input left held holds n → IsServed before after input left held holds n
served before after input left held holds n f = record {
  finishes = f;
  to_end = λ going. f.to_end (not_over f.given after.has_quit (over before (numbered input) f.given after f.run) going);
  stays = by_run before (numbered input) f.given after f.run;
}

pub broken_off : (fault : StreamFault) (before now : OperatorView) (input : List ℕ) (left held holds : Option (List ℕ))
    → Stops AnswersLine BreaksOff input_limit fault before now input left held holds → IsBrokenOff fault before now input left held holds
broken_off fault before now input left held holds f = record {
  stops = f;
  stays = stays_then before f.after now (by_front before (numbered input) f.given f.after f.run)
      (by_reach input_limit fault before now f.read f.given f.after f.reach);
}
