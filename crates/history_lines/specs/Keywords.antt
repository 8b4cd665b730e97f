-- The fixed words of a history's text. (This project's own choice.)
use Rattle.std.specs.Prelude.{ℕ, Bool, List, [], ◌∷◌, Option, find, codes}
use Rattle.std.specs.Str.{bytes_eq}
use Rattle.line_protocol.specs.Words.{is_spelled}
use Rattle.netchange_core.specs.Codes.{refusal_code}
use Rattle.netchange_core.specs.declared.reply.EventRefusal.{EventRefusal}
use Rattle.netchange_core.specs.declared.reply.EventRefusal.TheVariants as refusal
use Rattle.history_lines.specs.declared.keyword.HistoryKeyword.{HistoryKeyword}
use Rattle.history_lines.specs.declared.keyword.HistoryKeyword.TheVariants as word

-- how each is written
abbrev pub keyword_text : HistoryKeyword → List ℕ
keyword_text word.Up = codes "up"
keyword_text word.Down = codes "down"
keyword_text word.Receive = codes "recv"
keyword_text word.Take = codes "take"
keyword_text word.Import = codes "import"
keyword_text word.Export = codes "export"
keyword_text word.Show = codes "show"
keyword_text word.Opened = codes "opened"
keyword_text word.Done = codes "done"
keyword_text word.Messages = codes "messages"
keyword_text word.Route = codes "route"
keyword_text word.Refused = codes "refused"
keyword_text word.Local = codes "local"
keyword_text word.Via = codes "via"
keyword_text word.Nowhere = codes "none"

-- all of them
abbrev pub keywords : List HistoryKeyword
keywords = word.Up ∷ word.Down ∷ word.Receive ∷ word.Take ∷ word.Import ∷ word.Export ∷ word.Show ∷ word.Opened ∷ word.Done
    ∷ word.Messages ∷ word.Route ∷ word.Refused ∷ word.Local ∷ word.Via ∷ word.Nowhere ∷ []

-- the keyword that is written so
unfoldable pub keyword_in : List ℕ → Option HistoryKeyword
keyword_in text = find (is_spelled keyword_text text) keywords

-- all reasons of a refusal
abbrev pub refusals : List EventRefusal
refusals = refusal.NoNode ∷ refusal.AlreadyUp ∷ refusal.Stale ∷ refusal.BadDest ∷ refusal.BadDist ∷ refusal.OtherSize
    ∷ refusal.NoSession ∷ []

-- whether a refusal has this code
abbrev pub has_code : List ℕ → EventRefusal → Bool
has_code text why = bytes_eq (refusal_code why) text

-- the refusal that has this code
unfoldable pub refusal_in : List ℕ → Option EventRefusal
refusal_in text = find (has_code text) refusals
