-- What was read while two neighbours greet one another.
use Rattle.std.proofs.Common.{◌≡◌, ℕ, List, [], ◌∷◌, ◌++◌, Ok, Err, Option, Some, None, false, true, inl, inr, refl, sym, ◌∙◌, ap, subst}
use Rattle.std.specs.Prelude.{◌⊎◌, Result, IfErr, IfOk}
use Rattle.std.proofs.KnownBytes.{Consumes-nil, Consumes-trans}
use Rattle.std.specs.Io.KnownBytes.{Consumes}
use Rattle.link_handshake.specs.Reading.{said_by}
use Rattle.link_handshake.specs.declared.greeting.Greeting.{Greeting}
use Rattle.link_handshake.specs.declared.said.Said.{Said}
use Rattle.link_handshake.specs.declared.said.Said.TheVariants as said
use Rattle.message_streams.specs.Ends.{ReadsLine, StopsAtLine, is_lasting, lasting}
use Rattle.message_streams.specs.Views.{ReaderView}
use Rattle.message_streams.specs.declared.ends.StreamEnd.{StreamEnd}
use Rattle.message_streams.specs.declared.ends.StreamEnd.TheVariants as stream
use Rattle.neighbour_session.specs.Greeting.{Comes, HearsLine, IsUnheard, IsUnmet, TakesSaid, read_end}
use Rattle.neighbour_session.specs.declared.ends.SessionEnd.{SessionEnd}
use Rattle.neighbour_session.specs.declared.ends.SessionEnd.TheVariants as end
use Rattle.neighbour_session.specs.declared.greeting.Domain.{Domain}

-- a line was not read whole
not_lasting : (why : StreamEnd) → is_lasting why ≡ false → why ≡ stream.TooLong
not_lasting stream.TooLong e = refl
not_lasting stream.Ended e = absurd cc
not_lasting stream.Unfinished e = absurd cc
not_lasting stream.Read e = absurd cc

too_long : (why : StreamEnd) (input i : ReaderView) → is_lasting why ≡ false → input.end ≡ None →
    (i.end ≡ lasting why) × StopsAtLine why input.left i.left → HearsLine said.Nothing input i
too_long stream.TooLong input i e unended stops = record { readable = unended; readable_on = stops.0; line = inr (stops.1, refl) }
too_long stream.Ended input i e unended stops = absurd cc
too_long stream.Unfinished input i e unended stops = absurd cc
too_long stream.Read input i e unended stops = absurd cc

lasts : (why : StreamEnd) → is_lasting why ≡ true → lasting why ≡ Some why
lasts stream.TooLong e = absurd cc
lasts stream.Ended e = refl
lasts stream.Unfinished e = refl
lasts stream.Read e = refl

pub nothing_heard : (r : Result (Said × ℕ) SessionEnd) (why : StreamEnd) (input i : ReaderView) →
    IfOk r (λ p. (p.0 ≡ said.Nothing) × (is_lasting why ≡ false)) → input.end ≡ None →
    (i.end ≡ lasting why) × StopsAtLine why input.left i.left → IfOk r (λ p. HearsLine p.0 input i)
nothing_heard (Ok p) why input i ok unended stops =
    subst (λ (s : Said). HearsLine s input i) (sym ok.0) (too_long why input i ok.1 unended stops)
nothing_heard (Err e) why input i ok unended stops = tt

pub no_more_heard : (r : Result (Said × ℕ) SessionEnd) (why : StreamEnd) (line : ℕ) (input i : ReaderView) →
    IfErr r (λ e. (e ≡ read_end why line) × (is_lasting why ≡ true)) → line ≡ i.line → i.end ≡ lasting why → IfErr r (λ e. IsUnheard e input i)
no_more_heard (Ok p) why line input i err at ends = tt
no_more_heard (Err e) why line input i err at ends =
    subst (λ (s : SessionEnd). IsUnheard s input i) (sym err.0) (ends ∙ lasts why err.1, at)

-- the line that was heard before, or the next one
pub taken_next : (before : Option Said) (r : Result (Said × ℕ) SessionEnd) (input i : ReaderView) → IfOk r (λ p. HearsLine p.0 input i) →
    IfOk r (λ p. TakesSaid before p.0 input i)
taken_next before (Ok p) input i h = inr h
taken_next before (Err why) input i h = tt

-- so many bytes were read of a stream
abbrev pub IsRead : Option (List ℕ) → Option (List ℕ) → Type 0
IsRead known left = (bytes : List ℕ) × Consumes known left bytes

line_read : (heard : Said) (known left : Option (List ℕ)) → ((text : List ℕ) × ReadsLine text known left × (said_by text ≡ heard))
    ⊎ (StopsAtLine stream.TooLong known left × (heard ≡ said.Nothing)) → IsRead known left
line_read heard known left (inl (text, read, says)) = (text ++ 10 ∷ [], read.consumed)
line_read heard known left (inr (stops, nothing)) = (stops.read, stops.consumed)

bytes_read : (before : Option Said) (heard : Said) (input i : ReaderView) → TakesSaid before heard input i → IsRead input.left i.left
bytes_read before heard input i (inl (is, same)) =
    ([], subst (λ (r : ReaderView). Consumes input.left r.left []) (sym same) (Consumes-nil input.left))
bytes_read before heard input i (inr h) = line_read heard input.left i.left h.line

-- and then some more
pub read_on : (known : Option (List ℕ)) (before : Option Said) (heard : Said) (input i : ReaderView) → IsRead known input.left →
    TakesSaid before heard input i → IsRead known i.left
read_on known before heard input i so_far h =
    let more = bytes_read before heard input i h in
    (so_far.0 ++ more.0, Consumes-trans known input.left i.left so_far.0 more.0 so_far.1 more.1)

-- a greeting that came last
greeting_line_read : (first : Option Said) (input : ReaderView) (mid : Option (List ℕ)) (g : Greeting) (i : ReaderView) → IsRead input.left mid →
    ((text : List ℕ) × ReadsLine text mid i.left × (said_by text ≡ said.Greeting g))
    ⊎ (StopsAtLine stream.TooLong mid i.left × (said.Greeting g ≡ said.Nothing)) → Comes first input g i
greeting_line_read first input mid g i so_far (inl (text, read, says)) = inr (so_far.0, mid, text, so_far.1, read, says)
greeting_line_read first input mid g i so_far (inr (stops, nothing)) = absurd cc

heard_before : (first before : Option Said) (heard : Said) → (before ≡ None) ⊎ (before ≡ first) → before ≡ Some heard → first ≡ Some heard
heard_before first before heard (inl none) is = absurd cc
heard_before first before heard (inr same) is = sym same ∙ is

pub greeting_came : (first before : Option Said) (input mid : ReaderView) (g : Greeting) (i : ReaderView) → (before ≡ None) ⊎ (before ≡ first) →
    IsRead input.left mid.left → TakesSaid before (said.Greeting g) mid i → Comes first input g i
greeting_came first before input mid g i was so_far (inl (is, same)) = inl (heard_before first before (said.Greeting g) was is)
greeting_came first before input mid g i was so_far (inr h) = greeting_line_read first input mid.left g i so_far h.line

-- where no line was heard any more they did not meet
pub unheard : (why : SessionEnd) (d : Domain) (neighbour : ℕ) (input i : ReaderView) → IsUnheard why input i → IsUnmet why d neighbour i
unheard (end.Read why line) d neighbour input i h = h
unheard (end.Greeted g) d neighbour input i h = absurd h
unheard (end.NoMessage line) d neighbour input i h = absurd h
unheard (end.Mistaken fault line) d neighbour input i h = absurd h
unheard end.Ungreeted d neighbour input i h = absurd h
unheard (end.Silent hold) d neighbour input i h = absurd h
unheard end.Unwritten d neighbour input i h = absurd h
unheard end.NotStarted d neighbour input i h = absurd h
unheard end.Closed d neighbour input i h = absurd h
unheard end.Refused d neighbour input i h = absurd h
unheard end.Full d neighbour input i h = absurd h
unheard end.Memory d neighbour input i h = absurd h
