-- What is told of a journal is told of each history that it may have the end of.
use Rattle.std.proofs.Common.{◌≡◌, ◌∙◌, ap, subst, ℕ, List, Result, Ok, Err, IfOk}
use Rattle.line_protocol.specs.declared.answers.LineReply.{LineReply}
use Rattle.netchange_core.specs.World.{World}
use Rattle.operator_cmds.specs.Looks.{history_looked, looked}
use Rattle.operator_cmds.specs.Replies.{Adds, answered}
use Rattle.operator_cmds.specs.Script.{tables_of}
use Rattle.netchange_core.specs.Calls.{session_of}
use Rattle.operator_cmds.specs.declared.command.Look.{Look}
use Rattle.route_history.specs.Long.{LongView, OfHistory}
use Rattle.route_history.proofs.Windows.{tables_are}
use Rattle.router_operator.specs.Looking.{Finds, query_answer}
use Rattle.router_operator.specs.Questions.{status_words}
use Rattle.router_operator.specs.declared.looking.Query.TheVariants.{Tables, Entries}
use Rattle.router_operator.specs.declared.looking.FindingSession.{FindingSession}
use Rattle.router_status.specs.Objects.{routes_json}
use Rattle.router_status.specs.Status.{StatusView, completed}
use Rattle.router_status.specs.declared.form.Form.{Form}

-- the tables are those after the whole history
pub told_tables : {E : Type 0} (j : LongView) (look : Look) (number : ℕ) (old new : List ℕ) (r : Result LineReply E) →
    IfOk r (Adds (looked j.tables number look) old new) → OfHistory j (λ history. IfOk r (Adds (query_answer (Tables look) number j.first history) old new))
told_tables j look number old new r h = λ o b log w legal.
    subst (λ (v : World). IfOk r (Adds (looked v number look) old new)) (tables_are o b log j j w) h

-- and the entries that are kept are its last ones
pub told_entries : {E : Type 0} (j : LongView) (from number : ℕ) (old new : List ℕ) (r : Result LineReply E) →
    IfOk r (λ reply. OfHistory j (λ history. Adds (history_looked j.first history.entries from) old new reply)) →
    OfHistory j (λ history. IfOk r (Adds (query_answer (Entries from) number j.first history) old new))
told_entries j from number old new (Ok reply) h = h
told_entries j from number old new (Err e) h = λ o b log w legal. tt

-- what the router is about is told of each history that completed it
pub told_status : {E : Type 0} (j : LongView) (known complete : StatusView) (form : Form) (old new : List ℕ) (r : Result LineReply E) →
    OfHistory j (λ history. complete ≡ completed j.first history known) → IfOk r (Adds (answered (status_words form complete)) old new) →
    OfHistory j (λ history. IfOk r (Adds (answered (status_words form (completed j.first history known))) old new))
told_status j known complete form old new r is h = λ o b log w legal.
    subst (λ (s : StatusView). IfOk r (Adds (answered (status_words form s)) old new)) (is o b log w legal) h

-- and so are the routes
pub told_routes : {E : Type 0} (j : LongView) (old new : List ℕ) (r : Result LineReply E) → IfOk r (Adds (answered (routes_json j.tables)) old new) →
    OfHistory j (λ history. IfOk r (Adds (answered (routes_json (tables_of history))) old new))
told_routes j old new r h = λ o b log w legal.
    subst (λ (v : World). IfOk r (Adds (answered (routes_json v)) old new)) (tables_are o b log j j w) h

pub finds : (j : LongView) (before after : FindingSession) → after.session ≡ session_of j.tables before.node →
    OfHistory j (λ history. Finds before history after)
finds j before after is = λ o b log w legal. is ∙ ap (λ (v : World). session_of v before.node) (tables_are o b log j j w)
