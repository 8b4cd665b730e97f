-- What a stream gave or got grows by the line of a message, or by an empty one.
use Rattle.std.proofs.Common.{◌≡◌, ℕ, ◌-◌, All, List, [], ◌∷◌, ◌++◌, length, take, drop, Option, Some, None, refl, sym, ◌∙◌, ap, subst, arith}
use Rattle.std.proofs.Common.{append-nil, length-append}
use Rattle.std.proofs.KnownBytes.{Appends-nil, Appends-trans, Consumes-nil, Consumes-trans}
use Rattle.std.proofs.lemmas.List.{drop_at, take_at}
use Rattle.std.proofs.lemmas.List.Concat.{flat_map-append}
use Rattle.std.proofs.lemmas.List.Elements.{All-append, All-cons}
use Rattle.std.specs.Io.KnownBytes.{Appends, Consumes}
use Rattle.message_streams.proofs.Exact.{messages_in-lines}
use Rattle.message_streams.specs.Lines.{FitsMessage, line_of, lines_text, message_line, messages_among}
use Rattle.message_streams.specs.Reading.{messages_in}
use Rattle.netchange_core.specs.declared.message.Message.{Message}
use Rattle.route_session.specs.LinkTrace.{grown}
use Rattle.neighbour_session.specs.Said.{AreLines, AreThese, GaveLines, GotLines, said_by, said_to}

no_messages : All FitsMessage []
no_messages k d h = absurd (omega (arith, h))

told_more : (xs ys : List (Option Message)) → messages_among (xs ++ ys) ≡ messages_among xs ++ messages_among ys
told_more [] ys = refl
told_more (None ∷ xs) ys = told_more xs ys
told_more (Some m ∷ xs) ys = ap (λ l. m ∷ l) (told_more xs ys)

-- the messages of one line are within their limits
abbrev Fits : Option Message → Type 0
Fits None = Unit {0}
Fits (Some m) = FitsMessage m

-- what a line says, in a list
abbrev told_one : Option Message → List Message
told_one None = []
told_one (Some m) = m ∷ []

one_told : (line : Option Message) → messages_among (line ∷ []) ≡ told_one line
one_told None = refl
one_told (Some m) = refl

one_fits : (line : Option Message) → Fits line → All FitsMessage (told_one line)
one_fits None fits = no_messages
one_fits (Some m) fits = All-cons FitsMessage m [] fits no_messages

told_with : (lines : List (Option Message)) (line : Option Message) → messages_among (lines ++ line ∷ []) ≡ messages_among lines ++ told_one line
told_with lines line = told_more lines (line ∷ []) ∙ ap (λ l. messages_among lines ++ l) (one_told line)

fits_more : (lines : List (Option Message)) (line : Option Message) → All FitsMessage (messages_among lines) → Fits line →
    All FitsMessage (messages_among (lines ++ line ∷ []))
fits_more lines line all one =
    subst (λ ms. All FitsMessage ms) (sym (told_with lines line))
    (All-append FitsMessage (messages_among lines) (told_one line) all (one_fits line one))

text_more : (lines : List (Option Message)) (line : Option Message) → lines_text (lines ++ line ∷ []) ≡ lines_text lines ++ line_of line
text_more lines line = flat_map-append line_of lines (line ∷ []) ∙ ap (λ l. lines_text lines ++ l) (append-nil (line_of line))

-- ---- reading

pub gave_none : (first : Option (List ℕ)) → GaveLines first first
gave_none first = record { lines = []; fits = no_messages; moved = Consumes-nil first }

abbrev gave_line : (first a b : Option (List ℕ)) (line : Option Message) → GaveLines first a → Fits line → Consumes a b (line_of line) →
    GaveLines first b
gave_line first a b line gave fits moved = record {
  lines = gave.lines ++ line ∷ [];
  fits = fits_more gave.lines line gave.fits fits;
  moved = subst (λ text. Consumes first b text) (sym (text_more gave.lines line))
      (Consumes-trans first a b (lines_text gave.lines) (line_of line) gave.moved moved);
}

pub gave_more : (first a b : Option (List ℕ)) (m : Message) → GaveLines first a → FitsMessage m → Consumes a b (message_line m) → GaveLines first b
gave_more first a b m gave fits moved = gave_line first a b (Some m) gave fits moved

pub gave_empty : (first a b : Option (List ℕ)) → GaveLines first a → Consumes a b (10 ∷ []) → GaveLines first b
gave_empty first a b gave moved = gave_line first a b None gave tt moved

front_taken : (all front back : List ℕ) → all ≡ front ++ back → take (length all - length back) all ≡ front
front_taken all front back e =
    ap (λ l. take (length l - length back) l) e ∙ take_at front back (length (front ++ back) - length back) (omega (arith, length-append front back))

said_is : (xs ys : List ℕ) (gave : GaveLines (Some xs) (Some ys)) → messages_in (take (length xs - length ys) xs) ≡ messages_among gave.lines
said_is xs ys gave = ap messages_in (front_taken xs (lines_text gave.lines) ys gave.moved) ∙ messages_in-lines gave.lines gave.fits

said_line : (first a b : Option (List ℕ)) (line : Option Message) → GaveLines first a → Fits line → Consumes a b (line_of line) →
    said_by first b ≡ grown (said_by first a) (told_one line)
said_line None a b line gave fits moved = refl
said_line (Some xs) None b line gave fits moved = absurd gave.moved
said_line (Some xs) (Some ys) None line gave fits moved = absurd moved
said_line (Some xs) (Some ys) (Some zs) line gave fits moved =
    ap Some (said_is xs zs (gave_line (Some xs) (Some ys) (Some zs) line gave fits moved) ∙ told_with gave.lines line
    ∙ ap (λ ms. ms ++ told_one line) (sym (said_is xs ys gave)))

pub said_more : (first a b : Option (List ℕ)) (m : Message) → GaveLines first a → FitsMessage m → Consumes a b (message_line m) →
    said_by first b ≡ grown (said_by first a) (m ∷ [])
said_more first a b m gave fits moved = said_line first a b (Some m) gave fits moved

grown_none : (said : Option (List Message)) → grown said [] ≡ said
grown_none None = refl
grown_none (Some ms) = ap Some (append-nil ms)

-- an empty line says nothing
pub said_empty : (first a b : Option (List ℕ)) → GaveLines first a → Consumes a b (10 ∷ []) → said_by first b ≡ said_by first a
said_empty first a b gave moved = said_line first a b None gave tt moved ∙ grown_none (said_by first a)

pub lines_read : (first last : Option (List ℕ)) → GaveLines first last → AreLines (Consumes first last) (said_by first last)
lines_read None last gave = tt
lines_read (Some xs) None gave = absurd gave.moved
lines_read (Some xs) (Some ys) gave = record {
  lines = gave.lines;
  told = sym (said_is xs ys gave);
  fits = subst (λ ms. All FitsMessage ms) (sym (said_is xs ys gave)) gave.fits;
  moved = gave.moved;
}

-- ---- writing

pub got_none : (first : Option (List ℕ)) → GotLines first first
got_none first = record { lines = []; fits = no_messages; moved = Appends-nil first }

abbrev got_line : (first a b : Option (List ℕ)) (line : Option Message) → GotLines first a → Fits line → Appends a b (line_of line) →
    GotLines first b
got_line first a b line got fits moved = record {
  lines = got.lines ++ line ∷ [];
  fits = fits_more got.lines line got.fits fits;
  moved = subst (λ text. Appends first b text) (sym (text_more got.lines line))
      (Appends-trans first a b (lines_text got.lines) (line_of line) got.moved moved);
}

pub got_more : (first a b : Option (List ℕ)) (m : Message) → GotLines first a → FitsMessage m → Appends a b (message_line m) → GotLines first b
got_more first a b m got fits moved = got_line first a b (Some m) got fits moved

pub got_empty : (first a b : Option (List ℕ)) → GotLines first a → Appends a b (10 ∷ []) → GotLines first b
got_empty first a b got moved = got_line first a b None got tt moved

written_is : (xs ys : List ℕ) (got : GotLines (Some xs) (Some ys)) → messages_in (drop (length xs) ys) ≡ messages_among got.lines
written_is xs ys got =
    ap (λ l. messages_in (drop (length xs) l)) got.moved ∙ ap messages_in (drop_at xs (lines_text got.lines) (length xs) refl)
    ∙ messages_in-lines got.lines got.fits

written_line : (first a b : Option (List ℕ)) (line : Option Message) → GotLines first a → Fits line → Appends a b (line_of line) →
    said_to first b ≡ grown (said_to first a) (told_one line)
written_line None a b line got fits moved = refl
written_line (Some xs) None b line got fits moved = absurd got.moved
written_line (Some xs) (Some ys) None line got fits moved = absurd moved
written_line (Some xs) (Some ys) (Some zs) line got fits moved =
    ap Some (written_is xs zs (got_line (Some xs) (Some ys) (Some zs) line got fits moved) ∙ told_with got.lines line
    ∙ ap (λ ms. ms ++ told_one line) (sym (written_is xs ys got)))

pub written_more : (first a b : Option (List ℕ)) (m : Message) → GotLines first a → FitsMessage m → Appends a b (message_line m) →
    said_to first b ≡ grown (said_to first a) (m ∷ [])
written_more first a b m got fits moved = written_line first a b (Some m) got fits moved

pub written_empty : (first a b : Option (List ℕ)) → GotLines first a → Appends a b (10 ∷ []) → said_to first b ≡ said_to first a
written_empty first a b got moved = written_line first a b None got tt moved ∙ grown_none (said_to first a)

pub lines_written : (first last : Option (List ℕ)) → GotLines first last → AreLines (Appends first last) (said_to first last)
lines_written None last got = tt
lines_written (Some xs) None got = absurd got.moved
lines_written (Some xs) (Some ys) got = record {
  lines = got.lines;
  told = sym (written_is xs ys got);
  fits = subst (λ ms. All FitsMessage ms) (sym (written_is xs ys got)) got.fits;
  moved = got.moved;
}
