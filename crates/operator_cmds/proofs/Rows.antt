-- Worked rows of the definitions, computed.
use Rattle.std.proofs.Common.{◌≡◌, ℕ, List, [], ◌∷◌, ◌++◌, None, Ok, Err, take, refl}
use Rattle.std.specs.Fmt.{digits}
use Rattle.std.specs.Prelude.{codes}
use Rattle.hex.specs.Hex.{decode_pairs}
use Rattle.line_protocol.specs.Lines.{numbered}
use Rattle.line_protocol.specs.Runs.{Runs}
use Rattle.netchange_core.specs.Best.{best_by}
use Rattle.netchange_core.specs.FilteredDistance.{filtered_distance}
use Rattle.netchange_core.specs.declared.event.Event.TheVariants as event
use Rattle.netchange_core.specs.declared.message.Message.{Message}
use Rattle.netchange_core.specs.declared.reply.Reply.TheVariants as reply
use Rattle.netchange_core.specs.declared.reply.Via.TheVariants as via
use Rattle.prefix_patterns.specs.Number.{decimal_value}
use Rattle.prefix_patterns.specs.Reading.{address_in, groups_in, number_in, parts_at, prefix_in, written_in}
use Rattle.route_history.specs.Calls.{entry}
use Rattle.route_history.specs.JournalView.{JournalView}
use Rattle.route_history.specs.declared.entry.Entry.{Entry}
use Rattle.operator_cmds.specs.CommandView.{Load, Receive}
use Rattle.operator_cmds.specs.Commands.{command_in}
use Rattle.netchange_core.specs.Openings.{default_opening}
use Rattle.operator_cmds.specs.Looks.{looked, texts_below, told_text}
use Rattle.operator_cmds.specs.Replies.{answered, refused}
use Rattle.operator_cmds.specs.Script.{AnswersLine, Keeps, MovesTo, ScriptView, fresh, tables_of}
use Rattle.operator_cmds.specs.Stages.{StageView, Setting, Open, new_journal}
use Rattle.operator_cmds.specs.Verbs.{verb_in}
use Rattle.operator_cmds.specs.declared.command.Look.TheVariants.{Routes}
use Rattle.operator_cmds.specs.declared.fault.CommandFault.TheVariants as fault

-- ---- what a line gives: the first fault in the order of the O codes

unknown_word : command_in (codes "jump") ≡ Err fault.Words
unfolding verb_in
unknown_word = refl

-- a bad name counts before a bad number to the left of it
bad_name_first : command_in (codes "import x 1A") ≡ Err fault.Words
unfolding verb_in
bad_name_first = refl

-- a bad number counts before a bad prefix to the right of it
bad_number_first : command_in (codes "prefix x 1.0.0.0/40") ≡ Err fault.Numbers
unfolding verb_in number_in
bad_number_first = refl

bad_prefix : command_in (codes "prefix 0 1.0.0/8") ≡ Err fault.Prefix
unfolding verb_in number_in decimal_value prefix_in written_in parts_at address_in groups_in
bad_prefix = refl

bad_digits : command_in (codes "code A zz") ≡ Err fault.Hexadecimal
unfolding verb_in decode_pairs
bad_digits = refl

out_of_range : command_in (codes "network 251 0") ≡ Err fault.Numbers
unfolding verb_in number_in decimal_value
out_of_range = refl

-- blanks part the words, and zeros may stand before a number
spaced_out : command_in (codes "\trecv 1  02 003 ") ≡ Ok (Receive 1 2 3)
unfolding verb_in number_in decimal_value
spaced_out = refl

-- a text begins at its first byte that is no blank, and keeps the blanks at its end
text_of_filter : command_in (codes "load A \t filter a { } ") ≡ Ok (Load (codes "A") (codes "filter a { } "))
unfolding verb_in
text_of_filter = refl

-- ---- whole scripts without filters

abbrev script_at : StageView → ScriptView
script_at stage = record { stage = stage; filters = λ name. None }

abbrev stays : (stage : StageView) → Keeps (script_at stage) (script_at stage)
stays stage = record { stage = refl; filters = λ name. refl }

abbrev moves : (before stage : StageView) → MovesTo stage (script_at before) (script_at stage)
moves before stage = record { moved = refl; filters = λ name. refl }

-- of two neighbours that lead to a node at the same distance the smaller is the next hop, and that change is not told
abbrev message : ℕ → ℕ → Message
message dest dist = record { dest = dest; dist = dist }

abbrev tie_entries : List Entry
tie_entries =
    entry (event.Up 1) (reply.Opened 1) ∷ entry (event.Up 2) (reply.Opened 2) ∷ entry (event.Receive 2 3 1) (reply.Done 1)
    ∷ entry (event.Show 3) (reply.Route 2 (via.Node 2)) ∷ entry (event.Receive 1 3 1) (reply.Done 0)
    ∷ entry (event.Show 3) (reply.Route 2 (via.Node 1))
    ∷ entry (event.Take 1 65535)
    (reply.Messages (message 0 0 ∷ message 1 4 ∷ message 2 4 ∷ message 3 4 ∷ message 3 2 ∷ [])) ∷ []

abbrev tie_after : ℕ → JournalView
tie_after count = record { opening = default_opening 4 0; limit = 1000000; entries = take count tie_entries }

tie : Runs AnswersLine fresh (numbered (codes "network 4 0\nup 1\nup 2\nrecv 2 3 1\nshow 3\nrecv 1 3 1\nshow 3\ntake 1\n"))
    (answered (codes "ok") ∷ answered (codes "opened 1") ∷ answered (codes "opened 2") ∷ answered (codes "done 1")
    ∷ answered (codes "route 2 via 2") ∷ answered (codes "done 0") ∷ answered (codes "route 2 via 1")
    ∷ answered (codes "messages 0:0 1:4 2:4 3:4 3:2") ∷ []) (script_at (Open (tie_after 7)))
unfolding verb_in number_in decimal_value digits best_by filtered_distance
tie = (
  script_at (Setting (default_opening 4 0) 1000000),
  (refl, moves _ _),
  (
    script_at (Open (tie_after 1)),
    (tie_after 1, (refl, refl), moves _ _),
    (
      script_at (Open (tie_after 2)),
      (tie_after 2, (refl, refl), moves _ _),
      (
        script_at (Open (tie_after 3)),
        (tie_after 3, (refl, refl), moves _ _),
        (
          script_at (Open (tie_after 4)),
          (tie_after 4, (refl, refl), moves _ _),
          (
            script_at (Open (tie_after 5)),
            (tie_after 5, (refl, refl), moves _ _),
            (
              script_at (Open (tie_after 6)),
              (tie_after 6, (refl, refl), moves _ _),
              (script_at (Open (tie_after 7)), (tie_after 7, (refl, refl), moves _ _), refl),
            ),
          ),
        ),
      ),
    ),
  ),
)

-- a journal of three entries refuses the fourth event, and stays
abbrev limited_entries : List Entry
limited_entries =
    entry (event.Up 1) (reply.Opened 1) ∷ entry (event.Show 0) (reply.Route 0 via.Local)
    ∷ entry (event.Show 1) (reply.Route 4 via.Nowhere) ∷ []

abbrev limited_after : ℕ → JournalView
limited_after count = record { opening = default_opening 4 0; limit = 3; entries = take count limited_entries }

limit_of_three : Runs AnswersLine fresh (numbered (codes "network 4 0 3\nup 1\nshow 0\nshow 1\nshow 2\n"))
    (answered (codes "ok") ∷ answered (codes "opened 1") ∷ answered (codes "route 0 local") ∷ answered (codes "route 4 none")
    ∷ refused (codes "J1") 3 ∷ []) (script_at (Open (limited_after 3)))
unfolding verb_in number_in decimal_value digits best_by filtered_distance
limit_of_three = (
  script_at (Setting (default_opening 4 0) 3),
  (refl, moves _ _),
  (
    script_at (Open (limited_after 1)),
    (limited_after 1, (refl, refl), moves _ _),
    (
      script_at (Open (limited_after 2)),
      (limited_after 2, (refl, refl), moves _ _),
      (
        script_at (Open (limited_after 3)),
        (limited_after 3, (refl, refl), moves _ _),
        (script_at (Open (limited_after 3)), (limited_after 3, (refl, refl), moves _ _), refl),
      ),
    ),
  ),
)

-- refused lines change nothing: no domain, a second domain twice, an unknown name, no command
refused_lines : Runs AnswersLine fresh (numbered (codes "up 1\nnetwork 65 0\nnetwork 4 0\nnetwork 4 0\nimport 1 Z\njump\n"))
    (refused (codes "O4") 1 ∷ answered (codes "ok") ∷ refused (codes "O5") 3 ∷ refused (codes "O5") 4 ∷ refused (codes "O6") 5
    ∷ refused (codes "O1") 6 ∷ []) (script_at (Setting (default_opening 65 0) 1000000))
unfolding verb_in number_in decimal_value
refused_lines =
    let setting : StageView = Setting (default_opening 65 0) 1000000 in (
      fresh,
      (refl, stays _),
      (
        script_at setting,
        (refl, moves _ _),
        (
          script_at setting,
          (refl, stays _),
          (
            script_at setting,
            (refl, stays _),
            (
              script_at setting,
              (refl, stays _),
              (script_at setting, (refl, stays _), refl),
            ),
          ),
        ),
      ),
    )

-- ---- looks

-- before the first event a router knows itself alone
first_look : looked (tables_of (new_journal (default_opening 4 1) 9)) 3 Routes ≡ answered (codes "routes 0:4 1:0 2:4 3:4")
unfolding digits best_by filtered_distance texts_below
first_look = refl

-- what a filter made of a distance stands behind it, where that is another
filtered : told_text 1 0 2 ++ told_text 2 3 3 ≡ codes " 1:0>2 2:3"
unfolding digits
filtered = refl

-- looks after the tie: two neighbours are up, nodes 0 and 3 are known, and a look is no entry
looks_at_the_tie : Runs AnswersLine (script_at (Open (tie_after 6)))
    (numbered (codes "routes\nneighbours\ntold 1\ntold 3\nhistory 4\nhistory 6\n"))
    (answered (codes "routes 0:0 1:4 2:4 3:2:1") ∷ answered (codes "neighbours 1:1 2:2") ∷ answered (codes "told 0:4 1:4 2:4 3:1")
    ∷ refused (codes "O2") 4 ∷ answered (codes "history 4 recv 1 3 1 done 0 | 5 show 3 route 2 via 1") ∷ answered (codes "history")
    ∷ []) (script_at (Open (tie_after 6)))
unfolding verb_in number_in decimal_value digits best_by filtered_distance texts_below
looks_at_the_tie =
    let tied : StageView = Open (tie_after 6) in (
      script_at tied,
      (refl, stays _),
      (
        script_at tied,
        (refl, stays _),
        (
          script_at tied,
          (refl, stays _),
          (
            script_at tied,
            (refl, stays _),
            (
              script_at tied,
              (refl, stays _),
              (script_at tied, (refl, stays _), refl),
            ),
          ),
        ),
      ),
    )
