-- What is spelled is read again.
use Rattle.std.proofs.Common.{◌≡◌, ◌≢◌, ℕ, ◌^◌, ◌<◌, ◌≤◌, Bool, List, [], ◌∷◌, ◌++◌, length, map, Some, Ok, All, refl, ◌∙◌, ap, arith, decimal}
use Rattle.std.specs.Char.{IsAsciiDigit}
use Rattle.std.specs.List.{AllByRecursion}
use Rattle.std.proofs.lemmas.List.Elements.{All-weaker, recursion_from_All}
use Rattle.code_file.proofs.FileBytes.{a_file}
use Rattle.code_file.proofs.Grammar.{file_of_spelling}
use Rattle.code_file.specs.Spelling.{IsCode, spelling}
use Rattle.filter_code.specs.CodeView.{CodeView}
use Rattle.filter_verifier.specs.VerifiedView.{VerifiedView}
use Rattle.hex.proofs.HexLemmas.{decode_of-encode_lower}
use Rattle.hex.specs.Hex.{encode_lower}
use Rattle.netchange_core.specs.Codes.{refusal_code}
use Rattle.netchange_core.specs.OpeningView.{OpeningView}
use Rattle.netchange_core.specs.declared.message.Message.{Message}
use Rattle.netchange_core.specs.declared.reply.EventRefusal.{EventRefusal}
use Rattle.netchange_core.specs.declared.reply.EventRefusal.TheVariants as refusal
use Rattle.netchange_core.specs.declared.reply.Reply.{Reply}
use Rattle.netchange_core.specs.declared.reply.Reply.TheVariants as reply
use Rattle.netchange_core.specs.declared.reply.Via.{Via}
use Rattle.netchange_core.specs.declared.reply.Via.TheVariants as via
use Rattle.prefix_patterns.proofs.Displayed.{prefix_text-writes}
use Rattle.prefix_patterns.proofs.Tokens.{parts_at-joined, prefix_in-only}
use Rattle.prefix_patterns.specs.Spelling.{prefix_text}
use Rattle.history_file.proofs.Numbers.{decimal_digits, number_in-decimal}
use Rattle.history_lines.specs.Fits.{FitsEntry, FitsEvent, FitsFilter, FitsMessage, FitsOpening, FitsReply}
use Rattle.history_lines.specs.Fits.{FitsVia, largest_number, largest_session}
use Rattle.route_history.specs.Limits.{largest_limit}
use Rattle.history_lines.specs.Keywords.{keyword_in, keyword_text, refusal_in}
use Rattle.history_file.specs.Reading.{code_if_file, code_in_bytes, code_in_hexadecimal}
use Rattle.history_file.specs.Reading.{all_messages, all_prefixes, all_reply, all_via, entry_in, event_of}
use Rattle.history_file.specs.Reading.{first_event, first_filter, first_keyword, first_number, message_in}
use Rattle.history_file.specs.Reading.{opening_parts, reply_of, unless_fault, verified_code, via_of}
use Rattle.history_lines.specs.Text.{event_words, filter_words, message_word, opening_words, reply_words, via_words}
use Rattle.history_lines.specs.Views.{EntryView, EventView, Up, Down, Receive, Take, SetImport, SetExport, Show}
use Rattle.history_lines.specs.declared.keyword.HistoryKeyword.{HistoryKeyword}
use Rattle.history_lines.specs.declared.keyword.HistoryKeyword.TheVariants as word

number_again : (most n : ℕ) (ws : List (List ℕ)) → n ≤ most → n < 2 ^ 64 → first_number most (decimal n ∷ ws) ≡ Some (n, ws)
unfolding first_number
number_again most n ws within fits = rw (number_in-decimal most n within fits) refl

pub small_again : (n : ℕ) (ws : List (List ℕ)) → n ≤ largest_number → first_number largest_number (decimal n ∷ ws) ≡ Some (n, ws)
small_again n ws h = number_again largest_number n ws h (omega arith)

session_again : (n : ℕ) (ws : List (List ℕ)) → n ≤ largest_session → first_number largest_session (decimal n ∷ ws) ≡ Some (n, ws)
session_again n ws h = number_again largest_session n ws h (omega arith)

keyword_text_again : (k : HistoryKeyword) → keyword_in (keyword_text k) ≡ Some k
unfolding keyword_in
keyword_text_again word.Up = refl
keyword_text_again word.Down = refl
keyword_text_again word.Receive = refl
keyword_text_again word.Take = refl
keyword_text_again word.Import = refl
keyword_text_again word.Export = refl
keyword_text_again word.Show = refl
keyword_text_again word.Opened = refl
keyword_text_again word.Done = refl
keyword_text_again word.Messages = refl
keyword_text_again word.Route = refl
keyword_text_again word.Refused = refl
keyword_text_again word.Local = refl
keyword_text_again word.Via = refl
keyword_text_again word.Nowhere = refl

keyword_again : (k : HistoryKeyword) (ws : List (List ℕ)) → first_keyword (keyword_text k ∷ ws) ≡ Some (k, ws)
unfolding first_keyword
keyword_again k ws = rw (keyword_text_again k) refl

code_again : (why : EventRefusal) → refusal_in (refusal_code why) ≡ Some why
unfolding refusal_in
code_again refusal.NoNode = refl
code_again refusal.AlreadyUp = refl
code_again refusal.Stale = refl
code_again refusal.BadDest = refl
code_again refusal.BadDist = refl
code_again refusal.OtherSize = refl
code_again refusal.NoSession = refl

digits_again : (program : CodeView) → IsCode program → code_in_hexadecimal (encode_lower (spelling program)) ≡ Some program
digits_again program h = ap code_in_bytes (decode_of-encode_lower (spelling program) (a_file program h).each)
    ∙ ap code_if_file (file_of_spelling program h)

pub filter_again : (f : VerifiedView) (ws : List (List ℕ)) → FitsFilter f → first_filter (filter_words f ++ ws) ≡ Some (f, ws)
unfolding first_filter
filter_again f ws h =
    let code : verified_code f.size (code_in_hexadecimal (encode_lower (spelling f.program))) ≡ Some f =
    ap (verified_code f.size) (digits_again f.program h.code) ∙ ap (λ fault. unless_fault fault f) h.faultless in
    rw (small_again f.size (encode_lower (spelling f.program) ∷ ws) (omega (arith, h.size)), code) refl

event_words_again : (e : EventView) (ws : List (List ℕ)) → FitsEvent e → first_event (event_words e ++ ws) ≡ Some (e, ws)
unfolding first_event event_of
event_words_again (Up node) ws h = rw (keyword_again word.Up (decimal node ∷ ws), small_again node ws h) refl
event_words_again (Down session) ws h = rw (keyword_again word.Down (decimal session ∷ ws), session_again session ws h) refl
event_words_again (Receive session dest dist) ws h = rw (
  keyword_again word.Receive (decimal session ∷ decimal dest ∷ decimal dist ∷ ws),
  session_again session (decimal dest ∷ decimal dist ∷ ws) h.0,
  small_again dest (decimal dist ∷ ws) h.1,
  small_again dist ws h.2,
) refl
event_words_again (Take session max) ws h = rw (
  keyword_again word.Take (decimal session ∷ decimal max ∷ ws),
  session_again session (decimal max ∷ ws) h.0,
  small_again max ws h.1,
) refl
event_words_again (SetImport node f) ws h = rw (
  keyword_again word.Import (decimal node ∷ filter_words f ++ ws),
  small_again node (filter_words f ++ ws) h.0,
  filter_again f ws h.1,
) refl
event_words_again (SetExport node f) ws h = rw (
  keyword_again word.Export (decimal node ∷ filter_words f ++ ws),
  small_again node (filter_words f ++ ws) h.0,
  filter_again f ws h.1,
) refl
event_words_again (Show node) ws h = rw (keyword_again word.Show (decimal node ∷ ws), small_again node ws h) refl

via_again : (v : Via) → FitsVia v → all_via (via_words v) ≡ Some v
unfolding all_via via_of
via_again via.Local h = rw (keyword_again word.Local []) refl
via_again (via.Node w) h = rw (keyword_again word.Via (decimal w ∷ []), small_again w [] h) refl
via_again via.Nowhere h = rw (keyword_again word.Nowhere []) refl

apart_from_colon : (n : ℕ) → n ≤ largest_number → All (λ byte. byte ≢ 58) (decimal n)
apart_from_colon n h =
    All-weaker IsAsciiDigit (λ byte. byte ≢ 58) (λ byte digit e. omega (arith, digit.1, e)) (decimal n) (decimal_digits n (omega arith)).each

message_again : (m : Message) → FitsMessage m → message_in (message_word m) ≡ Some m
unfolding message_in
message_again m h = rw (
  parts_at-joined 58 (decimal m.dest) (decimal m.dist) (apart_from_colon m.dest h.dest),
  number_in-decimal largest_number m.dest h.dest (omega (arith, h.dest)),
  number_in-decimal largest_number m.dist h.dist (omega (arith, h.dist)),
) refl

pub messages_again : (ms : List Message) → AllByRecursion FitsMessage ms → all_messages (map message_word ms) ≡ Some ms
unfolding all_messages
messages_again [] h = refl
messages_again (m ∷ ms) h = rw (message_again m h.0, messages_again ms h.1) refl

reply_words_again : (r : Reply) → FitsReply r → all_reply (reply_words r) ≡ Some r
unfolding all_reply reply_of
reply_words_again (reply.Opened session) h =
    rw (keyword_again word.Opened (decimal session ∷ []), session_again session [] h) refl
reply_words_again (reply.Done changed) h = rw (keyword_again word.Done (decimal changed ∷ []), small_again changed [] h) refl
reply_words_again (reply.Messages ms) h =
    rw (keyword_again word.Messages (map message_word ms), messages_again ms (recursion_from_All FitsMessage ms h)) refl
reply_words_again (reply.Route dist through) h = rw (
  keyword_again word.Route (decimal dist ∷ via_words through),
  small_again dist (via_words through) h.0,
  via_again through h.1,
) refl
reply_words_again (reply.Refused why) h = rw (keyword_again word.Refused (refusal_code why ∷ []), code_again why) refl

-- an entry, after any word for its position
pub entry_again : (at : List ℕ) (e : EntryView) → FitsEntry e → entry_in (at ∷ event_words e.event ++ reply_words e.reply) ≡ Some e
unfolding entry_in
entry_again at e h = rw (event_words_again e.event (reply_words e.reply) h.event, reply_words_again e.reply h.reply) refl

abbrev IsPrefixLength : List Bool → Type 0
IsPrefixLength bits = length bits ≤ 32

prefixes_again : (ps : List (List Bool)) → AllByRecursion IsPrefixLength ps → all_prefixes (map prefix_text ps) ≡ Some ps
unfolding all_prefixes
prefixes_again [] h = refl
prefixes_again (p ∷ ps) h = rw (prefix_in-only (prefix_text p) p (prefix_text-writes p h.0), prefixes_again ps h.1) refl

-- the parts of an opening, after any word for its mark
pub opening_again : (mark : List ℕ) (o : OpeningView) (limit : ℕ) → FitsOpening o limit →
    opening_parts (mark ∷ opening_words o limit)
    ≡ Some (record { size = o.size; me = o.me; limit = limit; prefixes = o.prefixes })
unfolding opening_parts
opening_again mark o limit h =
    let prefixes = map prefix_text o.prefixes in
    rw (
      small_again o.size (decimal o.me ∷ decimal limit ∷ prefixes) (omega (arith, h.opening.to_largest)),
      small_again o.me (decimal limit ∷ prefixes) (omega (arith, h.opening.to_largest, h.opening.member)),
      number_again largest_limit limit prefixes h.few (omega (arith, h.few)),
      prefixes_again o.prefixes (recursion_from_All IsPrefixLength o.prefixes h.prefixes),
    ) refl
