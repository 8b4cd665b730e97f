-- Links over the streams of one session after a call.
use Rattle.std.proofs.Common.{◌≡◌, ◌∙◌, ◌-◌, ◌^◌, ◌<◌, ℕ, Bool, false, true}
use Rattle.std.specs.Prelude.{if◌then◌else◌, nat_lt, Result, OnErr, OnOk, IfErr, IfOk, is_ok, is_some}
use Rattle.std.proofs.Common.{arith, List, [], ◌∷◌, ◌++◌, Option, Some, None, Ok, Err, refl, sym, ap, subst, append-nil}
use Rattle.std.proofs.KnownBytes.{Appends-nil, Appends-trans}
use Rattle.std.specs.Io.KnownBytes.{Appends, Consumes}
use Rattle.std.specs.Option.{option_or}
use Rattle.line_protocol.specs.Runs.{AppendsFront}
use Rattle.line_protocol.specs.declared.faults.StreamFault.{StreamFault}
use Rattle.line_protocol.specs.declared.faults.StreamFault.TheVariants as fault
use Rattle.link_handshake.proofs.Greetings.{alive_said_exactly, message_said_exactly}
use Rattle.link_handshake.specs.Reading.{said_by as line_says}
use Rattle.link_handshake.specs.declared.said.Said.{Said}
use Rattle.link_handshake.specs.declared.said.Said.TheVariants as said
use Rattle.message_streams.specs.Ends.{ReadsLine}
use Rattle.message_streams.specs.Lines.{FitsMessage, lines_text, message_line}
use Rattle.message_streams.specs.Views.{IsUnwritten, ReaderView, WriterView}
use Rattle.netchange_core.specs.declared.message.Message.{Message}
use Rattle.route_session.specs.Links.{Received, Sent}
use Rattle.route_session.specs.Telling.{known}
use Rattle.route_session.specs.LinkTrace.{Rose, LinkTrace}
use Rattle.route_session.specs.declared.link.Got.{Got}
use Rattle.route_session.specs.declared.link.Got.TheVariants as got
use Rattle.route_session.specs.declared.link.LinkFault.{LinkFault}
use Rattle.neighbour_session.specs.Links.{IsInput, IsOutput, GotLinesOf, ReadsLines, ReadsTold, TakesAfter, TearsLine, got_of, in_session}
use Rattle.neighbour_session.specs.Links.{input_view, output_view}
use Rattle.neighbour_session.specs.Said.{GaveLines, GotLines, said_by, said_to}
use Rattle.neighbour_session.specs.declared.ends.SessionEnd.{SessionEnd}
use Rattle.neighbour_session.proofs.Saying.{gave_empty, gave_more, got_empty, got_more, got_none, lines_read, lines_written, said_empty, said_more, written_empty, written_more}

-- ---- reading

pub input_lines : (first last now : ReaderView) (over : Option SessionEnd) → IsInput first last now over →
    ReadsLines first (said_by first.left last.left) over now
input_lines first last now over h = record { left = last.left; lines = lines_read first.left last.left h.gave; after = h.after }

-- what was read of a stream, by what the line says
message_read : (line : List ℕ) (m : Message) (known left : Option (List ℕ)) → ReadsLine line known left → line_says line ≡ said.Message m →
    ReadsTold (Some m) known left
message_read line m known left read says =
    let is = (message_said_exactly line m).0 says in
    (is.0, subst (λ text. Consumes known left (text ++ 10 ∷ [])) is.1 read.consumed)

empty_read : (line : List ℕ) (known left : Option (List ℕ)) → ReadsLine line known left → line_says line ≡ said.Alive →
    ReadsTold None known left
empty_read line known left read says =
    subst (λ text. Consumes known left (text ++ 10 ∷ [])) ((alive_said_exactly line).0 says) read.consumed

told_read : (line : List ℕ) (s : Said) (number : ℕ) (known : Option (List ℕ)) (now : ReaderView) → now.end ≡ None → ReadsLine line known now.left →
    line_says line ≡ s → IfOk (in_session s number) (λ told. (now.end ≡ None) × ReadsTold told known now.left)
told_read line (said.Message m) number known now readable read says = (readable, message_read line m known now.left read says)
told_read line said.Alive number known now readable read says = (readable, empty_read line known now.left read says)
told_read line (said.Greeting g) number known now readable read says = tt
told_read line said.Nothing number known now readable read says = tt

over_read : (line : List ℕ) (s : Said) (number : ℕ) (known : Option (List ℕ)) (now : ReaderView) → number ≡ now.line → ReadsLine line known now.left →
    line_says line ≡ s → IfErr (in_session s number) (λ why. TakesAfter (Some why) known now)
over_read line (said.Message m) number known now at read says = tt
over_read line said.Alive number known now at read says = tt
over_read line (said.Greeting g) number known now at read says = (line, read, says)
over_read line said.Nothing number known now at read says = (at, (line, read, says))

-- and what a call says of it that answered so
pub line_told : (r : Result (Option Message) SessionEnd) (line : List ℕ) (s : Said) (number : ℕ) (known : Option (List ℕ)) (now : ReaderView) →
    r ≡ in_session s number → now.end ≡ None → ReadsLine line known now.left → line_says line ≡ s →
    IfOk r (λ told. (now.end ≡ None) × ReadsTold told known now.left)
line_told r line s number known now is readable read says =
    subst (λ (a : Result (Option Message) SessionEnd). IfOk a (λ told. (now.end ≡ None) × ReadsTold told known now.left)) (sym is)
    (told_read line s number known now readable read says)

if_ever : (r : Result (Option Message) SessionEnd) (A : Type 0) (P : SessionEnd → Type 0) → IfErr r P → IfErr r (λ why. A → P why)
if_ever (Ok told) A P h = tt
if_ever (Err why) A P h = λ a. h

pub line_over : (r : Result (Option Message) SessionEnd) (line : List ℕ) (s : Said) (number : ℕ) (known : Option (List ℕ)) (now : ReaderView)
    (A : Type 0) → r ≡ in_session s number → number ≡ now.line → ReadsLine line known now.left → line_says line ≡ s →
    IfErr r (λ why. A → TakesAfter (Some why) known now)
line_over r line s number known now A is at read says =
    if_ever r A (λ why. TakesAfter (Some why) known now)
    (subst (λ (a : Result (Option Message) SessionEnd). IfErr a (λ why. TakesAfter (Some why) known now)) (sym is)
    (over_read line s number known now at read says))

-- a link that is not over
pub none_where_not : (over : Option SessionEnd) → is_some over ≡ false → over ≡ None
none_where_not None e = refl
none_where_not (Some why) e = absurd cc

-- a message was read, or an empty line, which changes nothing
gave_told : (first a b : Option (List ℕ)) (told : Option Message) → GaveLines first a → ReadsTold told a b → GaveLines first b
gave_told first a b None gave read = gave_empty first a b gave read
gave_told first a b (Some m) gave read = gave_more first a b m gave read.0 read.1

pub input_read : (first last now new : ReaderView) (over : Option SessionEnd) (told : Option Message) → IsInput first last now over →
    over ≡ None → new.end ≡ None → ReadsTold told now.left new.left → IsInput first new new over
input_read first last now new over told h none readable read = record {
  gave = gave_told first.left last.left new.left told h.gave
      (subst (λ (r : ReaderView). ReadsTold told r.left new.left) (h.unended none) read);
  unended = λ e. refl;
  readable = λ e f. readable;
  after = λ e. subst (λ (o : Option SessionEnd). TakesAfter o new.left new) (sym none) refl;
}

-- what a link tells that has handed out these messages
abbrev telling : Bool → ℕ → Option (List Message) → LinkTrace
telling ended failures handed = record {
  handed = handed;
  given = Some [];
  first_refused = None;
  nothings = None;
  ended = Some ended;
  failures = known failures;
  closed = false;
}

got_told : (first a b : Option (List ℕ)) (told : Option Message) (ended : Bool) (failures : ℕ) → GaveLines first a → ReadsTold told a b →
    Received (telling ended failures (said_by first a)) (Ok (got_of told)) (telling ended failures (said_by first b))
got_told first a b None ended failures gave read = (refl, ap (telling ended failures) (said_empty first a b gave read))
got_told first a b (Some m) ended failures gave read = (refl, ap (telling ended failures) (said_more first a b m gave read.0 read.1))

pub input_told : (first last now new : ReaderView) (over : Option SessionEnd) (told : Option Message) (ended : Bool) (failures : ℕ) →
    IsInput first last now over → over ≡ None → ReadsTold told now.left new.left →
    Received (input_view first last now over ended failures false).told (Ok (got_of told)) (input_view first new new over ended failures false).told
input_told first last now new over told ended failures h none read =
    got_told first.left last.left new.left told ended failures h.gave
    (subst (λ (r : ReaderView). ReadsTold told r.left new.left) (h.unended none) read)

abbrev input_told_as : ReaderView → ReaderView → ReaderView → Option SessionEnd → Bool → ℕ → LinkTrace
input_told_as first last now over ended failures = (input_view first last now over ended failures false).told

-- what a link answers whose session is over
pub answer_told : (r : Result Got LinkFault) (first last now new : ReaderView) (over later : Option SessionEnd) (ended ends : Bool)
    (failures fails : ℕ) → IfOk r (λ a. (a ≡ got.Ended) × (ends ≡ true) × (fails ≡ failures)) →
    OnErr r ((ends ≡ ended) × Rose (known failures) (known fails)) →
    Received (input_view first last now over ended failures false).told r (input_view first last new later ends fails false).told
answer_told (Ok a) first last now new over later ended ends failures fails ok err =
    subst (λ (g : Got). Received (input_view first last now over ended failures false).told (Ok g) (input_view first last new later ends fails false).told)
    (sym ok.0)
    (subst (λ (b : Bool). input_told_as first last now over b fails ≡ input_told_as first last now over true failures) (sym ok.1)
    (ap (λ n. input_told_as first last now over true n) ok.2))
answer_told (Err f) first last now new over later ended ends failures fails ok err = (
  refl,
  record {
    only = ap (λ b. input_told_as first last now over b fails) err.0;
    rose = err.1;
  },
)

-- what ended the session was read
pub input_over : (first last now new : ReaderView) (over : Option SessionEnd) (why : SessionEnd) → IsInput first last now over → over ≡ None →
    (now.end ≡ None → TakesAfter (Some why) now.left new) → IsInput first last new (Some why)
input_over first last now new over why h none takes = record {
  gave = h.gave;
  unended = λ e. absurd cc;
  readable = λ e f. absurd cc;
  after = λ e. subst (λ (r : ReaderView). TakesAfter (Some why) r.left new) (h.unended none) (takes (h.readable none e));
}

-- ---- writing

-- a front of the line of a message that is nothing of it
nothing_of : (held : Option (List ℕ)) (m : Message) → AppendsFront held held (message_line m)
nothing_of held m = ([], message_line m, refl, Appends-nil held)

pub output_new : (output : WriterView) → IsOutput output output output None 0
output_new output = record { got = got_none output.held; whole = λ e. (refl, refl); torn = refl }

told_once : (a b : Option Message) → Some a ≡ Some b → a ≡ b
told_once a b e = cc

-- what its link was given is what its stream got
pub output_lines : (first last now : WriterView) (refused : Option Message) (failures : ℕ) (ended closed : Bool) →
    IsOutput first last now refused failures → GotLinesOf first (output_view first last now refused ended failures closed).told now
output_lines first last now refused failures ended closed h = record {
  held = last.held;
  lines = lines_written first.held last.held h.got;
  torn = λ told e. subst (λ (o : Option Message). TearsLine o last.held now.held) (told_once refused told e) h.torn;
}

-- a message was written
pub output_sent : (first last now new : WriterView) (refused : Option Message) (m : Message) → IsOutput first last now refused 0 →
    FitsMessage m → Appends now.held new.held (message_line m) → IsOutput first new new refused 0
output_sent first last now new refused m h fits moved = record {
  got = got_more first.held last.held new.held m h.got fits
      (subst (λ (w : WriterView). Appends w.held new.held (message_line m)) (h.whole refl).0 moved);
  whole = λ e. (refl, (h.whole refl).1);
  torn = subst (λ (o : Option Message). TearsLine o new.held new.held) (sym (h.whole refl).1) refl;
}

-- an empty line was written, or nothing of it: either way the stream has whole lines
pub whole_or_none : (first before after : Option (List ℕ)) → GotLines first before → AppendsFront before after (10 ∷ []) → GotLines first after
whole_or_none first before after got ([], back, is, moved) = record {
  lines = got.lines;
  fits = got.fits;
  moved = subst (λ text. Appends first after text) (append-nil (lines_text got.lines))
      (Appends-trans first before after (lines_text got.lines) [] got.moved moved);
}
whole_or_none first before after got (b ∷ [], back, is, moved) =
    let same : 10 ≡ b = cc in
    got_empty first before after got (subst (λ byte. Appends before after (byte ∷ [])) (sym same) moved)
whole_or_none first before after got (b ∷ c ∷ front, back, is, moved) = absurd cc

-- a text was written, or not
pub written_or_not : (r : Result (Unit {0}) StreamFault) (old new : WriterView) (text : List ℕ) →
    OnOk r ((old.over ≡ false) × (new.over ≡ false) × Appends old.held new.held text) →
    IfErr r (λ why. (why ≡ fault.Write) × IsUnwritten why old new text) → AppendsFront old.held new.held text
written_or_not (Ok done) old new text ok err = (text, [], sym (append-nil text), ok.2)
written_or_not (Err why) old new text ok err = (subst (λ (f : StreamFault). IsUnwritten f old new text) err.0 err.1).1

pub over_where_not : (r : Result (Unit {0}) StreamFault) (old new : WriterView) (text : List ℕ) →
    IfErr r (λ why. (why ≡ fault.Write) × IsUnwritten why old new text) → is_ok r ≡ false → new.over ≡ true
over_where_not (Ok done) old new text err not_ok = absurd cc
over_where_not (Err why) old new text err not_ok = (subst (λ (f : StreamFault). IsUnwritten f old new text) err.0 err.1).0

nothing_more : (first : Option (List ℕ)) (ys : List ℕ) (after : Option (List ℕ)) → Appends (Some ys) after [] → said_to first after ≡ said_to first (Some ys)
nothing_more first ys None moved = absurd moved
nothing_more first ys (Some zs) moved = ap (λ l. said_to first (Some l)) (moved ∙ append-nil ys)

-- either way it says the same
same_or_empty : (first before after : Option (List ℕ)) → GotLines first before → AppendsFront before after (10 ∷ []) →
    said_to first after ≡ said_to first before
same_or_empty None before after got moved = refl
same_or_empty (Some xs) None after got moved = absurd got.moved
same_or_empty (Some xs) (Some ys) after got ([], back, is, moved) = nothing_more (Some xs) ys after moved
same_or_empty (Some xs) (Some ys) after got (b ∷ [], back, is, moved) =
    let same : 10 ≡ b = cc in
    written_empty (Some xs) (Some ys) after got (subst (λ byte. Appends (Some ys) after (byte ∷ [])) (sym same) moved)
same_or_empty (Some xs) (Some ys) after got (b ∷ c ∷ front, back, is, moved) = absurd cc

known_small : (n : ℕ) (small : Bool) → (if small then Some n else None) ≡ Some 0 → n ≡ 0
known_small n true e = cc
known_small n false e = absurd cc

-- a count that is told to be 0 is 0
known_zero : (n : ℕ) → known n ≡ known 0 → n ≡ 0
known_zero n e = known_small n (nat_lt n (2 ^ 64 - 1)) e

pub output_unfailed : (first last now : WriterView) (refused : Option Message) (ended closed : Bool) (failures : ℕ) →
    (output_view first last now refused ended failures closed).told.failures ≡ known 0 → failures ≡ 0
output_unfailed first last now refused ended closed failures e = known_zero failures e

pub empty_written : (first last now new : WriterView) (refused : Option Message) (ended closed : Bool) → IsOutput first last now refused 0 →
    AppendsFront now.held new.held (10 ∷ []) →
    (output_view first new new refused ended 0 closed).told ≡ (output_view first last now refused ended 0 closed).told
empty_written first last now new refused ended closed h moved =
    ap (λ g. record {
      handed = Some [];
      given = g;
      first_refused = Some refused;
      nothings = Some 0;
      ended = Some ended;
      failures = known 0;
      closed = closed;
    }) (same_or_empty first.held last.held new.held h.got
    (subst (λ (w : WriterView). AppendsFront w.held new.held (10 ∷ [])) (h.whole refl).0 moved))

-- an empty line was written, or not, by a writer that did not fail before
pub output_empty : (first last now new : WriterView) (refused : Option Message) → IsOutput first last now refused 0 →
    AppendsFront now.held new.held (10 ∷ []) → IsOutput first new new refused 0
output_empty first last now new refused h moved = record {
  got = whole_or_none first.held last.held new.held h.got
      (subst (λ (w : WriterView). AppendsFront w.held new.held (10 ∷ [])) (h.whole refl).0 moved);
  whole = λ e. (refl, (h.whole refl).1);
  torn = subst (λ (o : Option Message). TearsLine o new.held new.held) (sym (h.whole refl).1) refl;
}

pub output_told : (first last now new : WriterView) (refused : Option Message) (m : Message) (ended : Bool) →
    IsOutput first last now refused 0 → FitsMessage m → Appends now.held new.held (message_line m) →
    Sent (output_view first last now refused ended 0 false).told m (Ok tt) (output_view first new new refused ended 0 false).told
output_told first last now new refused m ended h fits moved = (
  refl,
  ap (λ g. record {
    handed = Some [];
    given = g;
    first_refused = Some refused;
    nothings = Some 0;
    ended = Some ended;
    failures = known 0;
    closed = false;
  }) (written_more first.held last.held new.held m h.got fits
      (subst (λ (w : WriterView). Appends w.held new.held (message_line m)) (h.whole refl).0 moved)),
)

-- a line was not written
tears : (why : StreamFault) (now new : WriterView) (m : Message) → FitsMessage m → IsUnwritten why now new (message_line m) →
    TearsLine (Some m) now.held new.held
tears fault.Write now new m fits h = (fits, h.1)
tears fault.Memory now new m fits h =
    (fits, subst (λ (w : WriterView). AppendsFront now.held w.held (message_line m)) (sym h) (nothing_of now.held m))
tears fault.Read now new m fits h = absurd h
tears fault.TooLong now new m fits h = absurd h

pub output_failed : (first last now new : WriterView) (refused : Option Message) (m : Message) (why : StreamFault) (failures : ℕ) →
    IsOutput first last now refused 0 → FitsMessage m → IsUnwritten why now new (message_line m) → 0 < failures →
    IsOutput first last new (option_or refused (Some m)) failures
output_failed first last now new refused m why failures h fits unwritten counted = record {
  got = h.got;
  whole = λ e. absurd (omega (arith, e, counted));
  torn = subst (λ (o : Option Message). TearsLine (option_or o (Some m)) last.held new.held) (sym (h.whole refl).1)
      (subst (λ (w : WriterView). TearsLine (Some m) w.held new.held) (h.whole refl).0 (tears why now new m fits unwritten));
}

-- a message was not taken, and nothing of it was written
tears_before : (refused : Option Message) (m : Message) (held holds : Option (List ℕ)) → FitsMessage m → TearsLine refused held holds →
    TearsLine (option_or refused (Some m)) held holds
tears_before None m held holds fits same =
    (fits, subst (λ (o : Option (List ℕ)). AppendsFront held o (message_line m)) (sym same) (nothing_of held m))
tears_before (Some first) m held holds fits torn = torn

pub output_refused : (first last now : WriterView) (refused : Option Message) (m : Message) (before failures : ℕ) →
    IsOutput first last now refused before → FitsMessage m → 0 < failures → IsOutput first last now (option_or refused (Some m)) failures
output_refused first last now refused m before failures h fits counted = record {
  got = h.got;
  whole = λ e. absurd (omega (arith, e, counted));
  torn = tears_before refused m last.held now.held fits h.torn;
}
