-- The words of the lines of a history are plain.
use Rattle.std.proofs.Common.{◌≡◌, ℕ, ◌<◌, ◌≤◌, Bool, true, List, [], ◌∷◌, ◌++◌, length, map, refl, arith, decimal, nat_lt, lit<, codes}
use Rattle.std.specs.List.{AllByRecursion, list_all}
use Rattle.std.proofs.lemmas.Bool.{ltb-true}
use Rattle.std.proofs.lemmas.List.Elements.{All-weaker, recursion_from_All}
use Rattle.std.proofs.lemmas.List.Sums.{AllPass-from_list_all}
use Rattle.code_file.proofs.FileBytes.{a_file}
use Rattle.code_file.specs.Spelling.{IsCode, spelling}
use Rattle.filter_code.specs.CodeView.{CodeView}
use Rattle.filter_verifier.specs.VerifiedView.{VerifiedView}
use Rattle.hex.proofs.HexLemmas.{decode_of-encode_lower, decode_of-ok, length-encode_with}
use Rattle.hex.specs.Hex.{encode_lower, is_hex_digit, lower_digits}
use Rattle.netchange_core.specs.Codes.{refusal_code}
use Rattle.netchange_core.specs.OpeningView.{OpeningView}
use Rattle.netchange_core.specs.declared.message.Message.{Message}
use Rattle.netchange_core.specs.declared.reply.EventRefusal.{EventRefusal}
use Rattle.netchange_core.specs.declared.reply.EventRefusal.TheVariants as refusal
use Rattle.netchange_core.specs.declared.reply.Reply.{Reply}
use Rattle.netchange_core.specs.declared.reply.Reply.TheVariants as reply
use Rattle.netchange_core.specs.declared.reply.Via.{Via}
use Rattle.netchange_core.specs.declared.reply.Via.TheVariants as via
use Rattle.prefix_patterns.specs.Spelling.{prefix_text}
use Rattle.history_file.proofs.Plain.{IsPlain, IsPlainByte, ArePlain, are_plain-append, plain-decimal, plain-prefix, plain-joined}
use Rattle.history_lines.specs.Fits.{FitsEntry, FitsEvent, FitsFilter, FitsMessage, FitsOpening, FitsReply, FitsVia}
use Rattle.history_lines.specs.Keywords.{keyword_text}
use Rattle.history_lines.specs.Text.{event_words, filter_words, message_word, opening_words, reply_words, via_words}
use Rattle.history_lines.specs.Views.{EntryView, EventView, Up, Down, Receive, Take, SetImport, SetExport, Show}
use Rattle.history_lines.specs.declared.keyword.HistoryKeyword.{HistoryKeyword}
use Rattle.history_lines.specs.declared.keyword.HistoryKeyword.TheVariants as word

-- a word that computes to plain bytes
pub computed : (w : List ℕ) → 0 < length w → list_all (nat_lt 32) w ≡ true → IsPlain w
computed w some each = record {
  some = some;
  each = All-weaker (λ byte. nat_lt 32 byte ≡ true) IsPlainByte (λ byte h. ltb-true 32 byte h) w (AllPass-from_list_all (nat_lt 32) w each);
}

pub plain-mark : IsPlain (codes "NCH1")
plain-mark = computed (codes "NCH1") (lit< tt) refl

pub plain-keyword : (k : HistoryKeyword) → IsPlain (keyword_text k)
plain-keyword word.Up = computed (keyword_text word.Up) (lit< tt) refl
plain-keyword word.Down = computed (keyword_text word.Down) (lit< tt) refl
plain-keyword word.Receive = computed (keyword_text word.Receive) (lit< tt) refl
plain-keyword word.Take = computed (keyword_text word.Take) (lit< tt) refl
plain-keyword word.Import = computed (keyword_text word.Import) (lit< tt) refl
plain-keyword word.Export = computed (keyword_text word.Export) (lit< tt) refl
plain-keyword word.Show = computed (keyword_text word.Show) (lit< tt) refl
plain-keyword word.Opened = computed (keyword_text word.Opened) (lit< tt) refl
plain-keyword word.Done = computed (keyword_text word.Done) (lit< tt) refl
plain-keyword word.Messages = computed (keyword_text word.Messages) (lit< tt) refl
plain-keyword word.Route = computed (keyword_text word.Route) (lit< tt) refl
plain-keyword word.Refused = computed (keyword_text word.Refused) (lit< tt) refl
plain-keyword word.Local = computed (keyword_text word.Local) (lit< tt) refl
plain-keyword word.Via = computed (keyword_text word.Via) (lit< tt) refl
plain-keyword word.Nowhere = computed (keyword_text word.Nowhere) (lit< tt) refl

plain-code : (why : EventRefusal) → IsPlain (refusal_code why)
plain-code refusal.NoNode = computed (refusal_code refusal.NoNode) (lit< tt) refl
plain-code refusal.AlreadyUp = computed (refusal_code refusal.AlreadyUp) (lit< tt) refl
plain-code refusal.Stale = computed (refusal_code refusal.Stale) (lit< tt) refl
plain-code refusal.BadDest = computed (refusal_code refusal.BadDest) (lit< tt) refl
plain-code refusal.BadDist = computed (refusal_code refusal.BadDist) (lit< tt) refl
plain-code refusal.OtherSize = computed (refusal_code refusal.OtherSize) (lit< tt) refl
plain-code refusal.NoSession = computed (refusal_code refusal.NoSession) (lit< tt) refl

-- a digit of a file in hexadecimal
hex_byte : (byte : ℕ) → is_hex_digit byte ≡ true → 32 < byte
hex_byte byte h = grind arith

plain-hex : (program : CodeView) → IsCode program → IsPlain (encode_lower (spelling program))
plain-hex program is =
    let bytes = spelling program in
    let digits = encode_lower bytes in
    let all = decode_of-ok digits bytes (decode_of-encode_lower bytes (a_file program is).each) in
    record {
      some = omega (arith, length-encode_with lower_digits bytes);
      each = All-weaker (λ c. is_hex_digit c ≡ true) IsPlainByte hex_byte digits all.1;
    }

pub plain-filter : (f : VerifiedView) → FitsFilter f → ArePlain (filter_words f)
plain-filter f h = (plain-decimal f.size (omega (arith, h.size)), (plain-hex f.program h.code, tt))

pub plain-event : (e : EventView) → FitsEvent e → ArePlain (event_words e)
plain-event (Up node) h = (plain-keyword word.Up, (plain-decimal node (omega arith), tt))
plain-event (Down session) h = (plain-keyword word.Down, (plain-decimal session (omega arith), tt))
plain-event (Receive session dest dist) h = (
  plain-keyword word.Receive,
  (
    plain-decimal session (omega (arith, h.0)),
    (plain-decimal dest (omega (arith, h.1)), (plain-decimal dist (omega (arith, h.2)), tt)),
  ),
)
plain-event (Take session max) h =
    (plain-keyword word.Take, (plain-decimal session (omega (arith, h.0)), (plain-decimal max (omega (arith, h.1)), tt)))
plain-event (SetImport node f) h = (plain-keyword word.Import, (plain-decimal node (omega (arith, h.0)), plain-filter f h.1))
plain-event (SetExport node f) h = (plain-keyword word.Export, (plain-decimal node (omega (arith, h.0)), plain-filter f h.1))
plain-event (Show node) h = (plain-keyword word.Show, (plain-decimal node (omega arith), tt))

plain-via : (v : Via) → FitsVia v → ArePlain (via_words v)
plain-via via.Local h = (plain-keyword word.Local, tt)
plain-via (via.Node w) h = (plain-keyword word.Via, (plain-decimal w (omega arith), tt))
plain-via via.Nowhere h = (plain-keyword word.Nowhere, tt)

pub plain-messages : (ms : List Message) → AllByRecursion FitsMessage ms → ArePlain (map message_word ms)
plain-messages [] h = tt
plain-messages (m ∷ ms) h = (
  plain-joined (decimal m.dest) (decimal m.dist) 58 (plain-decimal m.dest (omega (arith, h.0.dest)))
      (plain-decimal m.dist (omega (arith, h.0.dist))) (lit< tt),
  plain-messages ms h.1,
)

pub plain-reply : (r : Reply) → FitsReply r → ArePlain (reply_words r)
plain-reply (reply.Opened session) h = (plain-keyword word.Opened, (plain-decimal session (omega arith), tt))
plain-reply (reply.Done changed) h = (plain-keyword word.Done, (plain-decimal changed (omega arith), tt))
plain-reply (reply.Messages ms) h = (plain-keyword word.Messages, plain-messages ms (recursion_from_All FitsMessage ms h))
plain-reply (reply.Route dist through) h =
    (plain-keyword word.Route, (plain-decimal dist (omega (arith, h.0)), plain-via through h.1))
plain-reply (reply.Refused why) h = (plain-keyword word.Refused, (plain-code why, tt))

pub plain-entry : (e : EntryView) → FitsEntry e → ArePlain (event_words e.event ++ reply_words e.reply)
plain-entry e h = are_plain-append (event_words e.event) (reply_words e.reply) (plain-event e.event h.event) (plain-reply e.reply h.reply)

abbrev IsPrefixLength : List Bool → Type 0
IsPrefixLength bits = length bits ≤ 32

plain-prefixes : (ps : List (List Bool)) → AllByRecursion IsPrefixLength ps → ArePlain (map prefix_text ps)
plain-prefixes [] h = tt
plain-prefixes (p ∷ ps) h = (plain-prefix p h.0, plain-prefixes ps h.1)

pub plain-opening : (o : OpeningView) (limit : ℕ) → FitsOpening o limit → ArePlain (opening_words o limit)
plain-opening o limit h = (
  plain-decimal o.size (omega (arith, h.opening.to_largest)),
  (
    plain-decimal o.me (omega (arith, h.opening.to_largest, h.opening.member)),
    (plain-decimal limit (omega (arith, h.few)), plain-prefixes o.prefixes (recursion_from_All IsPrefixLength o.prefixes h.prefixes)),
  ),
)
