-- The laws of lines of version 2.
use Rattle.std.proofs.Common.{◌≡◌, ◌≢◌, ℕ, ◌^◌, ◌+◌, ◌<◌, ◌≤◌, ◌==◌, ◌&&◌, nat_le, Bool, true, false, cond, List, [], ◌∷◌, ◌++◌, length, take, drop}
use Rattle.std.proofs.Common.{Option, Some, None, All, refl, sym, ◌∙◌, ap, subst, arith, decimal, length-append, append_assoc, append-nil}
use Rattle.std.proofs.Common.{take-append-drop, ◌↔◌, ◌/◌, ◌%◌, suc, IfSome, Result, Ok, Err, slice_index, ◌*◌}
use Rattle.hex.specs.Hex.{IsBytes, decode_of, decode_sized, encode_lower, encode_with, lower_digits}
use Rattle.hex.specs.declared.error.FromHexError.{FromHexError}
use Rattle.hex.proofs.HexLemmas.{decode_of-ok, decode_sized-encode_lower, decode_sized-ok, decode_sized-twice, length-encode_with}
use Rattle.std.specs.Char.{IsAsciiDigit}
use Rattle.std.specs.Str.{bytes_eq}
use Rattle.std.proofs.lemmas.Bool.{and_parts, cond-false, cond-true, leb-true, ne_eqb, eqb-false}
use Rattle.std.proofs.lemmas.List.{take_at, drop_at}
use Rattle.std.proofs.lemmas.List.Elements.{All-append, All-cons, All-drop, All-head}
use Rattle.std.proofs.lemmas.Option.{cond_some}
use Rattle.std.proofs.lemmas.Slice.Eq.{bytes_eq-Decides}
use Rattle.netchange_core.specs.declared.message.Message.{Message}
use Rattle.prefix_patterns.proofs.Tokens.{parts_at-found, parts_at-joined}
use Rattle.prefix_patterns.specs.Reading.{◌>>=◌, parts_at}
use Rattle.message_streams.proofs.Exact.{message_exact}
use Rattle.message_streams.proofs.Pairs.{bind_some, same_pair}
use Rattle.message_streams.specs.Lines.{FitsMessage, line_limit, message_text}
use Rattle.message_streams.specs.Reading.{message_in, pair_in}
use Rattle.link_handshake.specs.Lines.{FitsGreeting, IsDigest, digest_part, greeting_line, greeting_text, mark, spaced}
use Rattle.link_handshake.specs.Reading.{after_mark, digest_in, exact_number, first_number, greeting_in, greeting_or_nothing, if_written, last_of}
use Rattle.link_handshake.specs.Reading.{last_words, message_or, said_by}
use Rattle.link_handshake.specs.declared.greeting.Greeting.{Greeting}
use Rattle.link_handshake.specs.declared.said.Said.TheVariants as said
use Rattle.link_handshake.proofs.Numbers.{begins_with_digit, decimal_apart, decimal_short, exact_number-decimal, exact_number-found}
use Rattle.link_handshake.proofs.Numbers.{first_number-found, first_number-spaced}

-- ---- the mark

after_mark-found : (line rest : List ℕ) → after_mark line ≡ Some rest → line ≡ mark ++ rest
after_mark-found line rest e =
    let found = cond_some (bytes_eq (take (length mark) line) mark) (drop (length mark) line) rest e in
    sym (take-append-drop (length mark) line) ∙ ap (λ l. l ++ drop (length mark) line) ((bytes_eq-Decides (take (length mark) line) mark).0 found.0)
    ∙ ap (λ l. mark ++ l) found.1

after_mark-joined : (rest : List ℕ) → after_mark (mark ++ rest) ≡ Some rest
after_mark-joined rest =
    let front : take (length mark) (mark ++ rest) ≡ mark = take_at mark rest (length mark) refl in
    let same : bytes_eq (take (length mark) (mark ++ rest)) mark ≡ true = (bytes_eq-Decides (take (length mark) (mark ++ rest)) mark).1 front in
    cond-true (bytes_eq (take (length mark) (mark ++ rest)) mark) (Some (drop (length mark) (mark ++ rest))) None same
    ∙ ap (λ l. Some l) (drop_at mark rest (length mark) refl)

-- ---- the digest

-- the digits of a digest, and a word that writes one
digest_in-written : (digest : List ℕ) → IsDigest digest → digest_in (encode_lower digest) ≡ Some digest
unfolding digest_in
digest_in-written digest is =
    let same : bytes_eq (encode_lower digest) (encode_lower digest) ≡ true = (bytes_eq-Decides (encode_lower digest) (encode_lower digest)).1 refl in
    ap (if_written (encode_lower digest)) (decode_sized-encode_lower digest 8 is.long is.bytes)
    ∙ cond-true (bytes_eq (encode_lower digest) (encode_lower digest)) (Some digest) None same

written_by : (word : List ℕ) (r : Result (List ℕ) FromHexError) (digest : List ℕ) → if_written word r ≡ Some digest →
    (r ≡ Ok digest) × (word ≡ encode_lower digest)
written_by word (Ok bytes) digest e =
    let found = cond_some (bytes_eq (encode_lower bytes) word) bytes digest e in
    (ap (λ d. Ok d) found.1, sym ((bytes_eq-Decides (encode_lower bytes) word).0 found.0) ∙ ap encode_lower found.1)
written_by word (Err why) digest e = absurd cc

digest_in-found : (word digest : List ℕ) → digest_in word ≡ Some digest → IsDigest digest × (word ≡ encode_lower digest)
unfolding digest_in
digest_in-found word digest e =
    let found = written_by word (decode_sized word 8) digest e in
    let long : length word ≡ 2 * 8 = decode_sized-ok word 8 digest found.0 in
    let decoded : decode_of word ≡ Ok digest = sym (decode_sized-twice word 8 long) ∙ found.0 in
    let is = decode_of-ok word digest decoded in
    (record { long = omega (arith, long, is.2); bytes = is.3 }, found.1)

-- ---- the last words: the number that was heard, and the digest, if there is one

no_parts : (text : List ℕ) (r : Option (List ℕ × List ℕ)) → All (λ byte. byte ≢ 32) text → parts_at 32 text ≡ r → r ≡ None
no_parts text None apart e = refl
no_parts text (Some parts) apart e =
    let joined = parts_at-found 32 text parts.0 parts.1 e in
    let whole : All (λ byte. byte ≢ 32) (parts.0 ++ 32 ∷ parts.1) = subst (All (λ byte. byte ≢ 32)) joined apart in
    let behind : All (λ byte. byte ≢ 32) (32 ∷ parts.1) =
    subst (All (λ byte. byte ≢ 32)) (drop_at parts.0 (32 ∷ parts.1) (length parts.0) refl)
    (All-drop (λ byte. byte ≢ 32) (length parts.0) (parts.0 ++ 32 ∷ parts.1) whole) in
    absurd (All-head (λ byte. byte ≢ 32) 32 parts.1 behind refl)

last_words-text : (heard : ℕ) (digest : Option (List ℕ)) → heard < 2 ^ 32 → IfSome digest IsDigest →
    last_words (decimal heard ++ digest_part digest) ≡ Some (heard, digest)
unfolding last_words
last_words-text heard None fits is =
    let number : exact_number 4294967295 (decimal heard) ≡ Some heard = exact_number-decimal 4294967295 heard (omega (arith, fits)) (omega (arith, fits)) in
    let apart = decimal_apart 32 heard (omega arith) (omega (arith, fits)) in
    ap (λ t. last_of t (parts_at 32 t)) (append-nil (decimal heard))
    ∙ ap (last_of (decimal heard)) (no_parts (decimal heard) (parts_at 32 (decimal heard)) apart refl)
    ∙ ap (λ r. r >>= (λ n. Some (n, None))) number
last_words-text heard (Some digest) fits is =
    let text = decimal heard ++ 32 ∷ encode_lower digest in
    let apart = decimal_apart 32 heard (omega arith) (omega (arith, fits)) in
    ap (last_of text) (parts_at-joined 32 (decimal heard) (encode_lower digest) apart)
    ∙ ap (λ r. r >>= (λ n. digest_in (encode_lower digest) >>= (λ d. Some (n, Some d))))
    (exact_number-decimal 4294967295 heard (omega (arith, fits)) (omega (arith, fits)))
    ∙ ap (λ r. r >>= (λ d. Some (heard, Some d))) (digest_in-written digest is)

-- what they say, and that they are its text
pub record IsLast (text : List ℕ) (last : ℕ × Option (List ℕ)) : Type 0 where
  pub heard : last.0 < 2 ^ 32
  pub digest : IfSome last.1 IsDigest
  pub written : text ≡ decimal last.0 ++ digest_part last.1

some_same : (a b : ℕ × Option (List ℕ)) → Some a ≡ Some b → a ≡ b
some_same a b e = cc

last_of-found : (text : List ℕ) (r : Option (List ℕ × List ℕ)) (last : ℕ × Option (List ℕ)) → parts_at 32 text ≡ r → last_of text r ≡ Some last →
    IsLast text last
last_of-found text None last at e =
    bind_some (exact_number 4294967295 text) _ last e (λ n number e.
    let found = exact_number-found 4294967295 text n number in
    subst (IsLast text) (some_same (n, None) last e)
    (record { heard = omega (arith, found.0); digest = tt; written = found.1 ∙ sym (append-nil (decimal n)) }))
last_of-found text (Some parts) last at e =
    bind_some (exact_number 4294967295 parts.0) _ last e (λ n number e.
    bind_some (digest_in parts.1) _ last e (λ digest written e.
    let found = exact_number-found 4294967295 parts.0 n number in
    let word = digest_in-found parts.1 digest written in
    let joined = parts_at-found 32 text parts.0 parts.1 at in
    subst (IsLast text) (some_same (n, Some digest) last e) (record {
      heard = omega (arith, found.0);
      digest = word.0;
      written = joined ∙ ap (λ l. l ++ 32 ∷ parts.1) found.1 ∙ ap (λ l. decimal n ++ 32 ∷ l) word.1;
    })))

last_words-found : (text : List ℕ) (last : ℕ × Option (List ℕ)) → last_words text ≡ Some last → IsLast text last
unfolding last_words
last_words-found text last e = last_of-found text (parts_at 32 text) last refl e

-- ---- the numbers, one after another

abbrev after_last : ℕ → ℕ → ℕ → ℕ → ℕ × Option (List ℕ) → Option Greeting
after_last size node hold number last =
    cond (number == 0) None (Some (record { size = size; node = node; hold = hold; number = number; heard = last.0; digest = last.1 }))

abbrev after_number : ℕ → ℕ → ℕ → ℕ × List ℕ → Option Greeting
after_number size node hold found = last_words found.1 >>= after_last size node hold found.0

abbrev after_hold : ℕ → ℕ → ℕ × List ℕ → Option Greeting
after_hold size node found = first_number 4294967295 found.1 >>= after_number size node found.0

abbrev after_node : ℕ → ℕ × List ℕ → Option Greeting
after_node size found = first_number 3600 found.1 >>= after_hold size found.0

abbrev after_size : ℕ × List ℕ → Option Greeting
after_size found = first_number 250 found.1 >>= after_node found.0

abbrev after_all : List ℕ → Option Greeting
after_all rest = first_number 250 rest >>= after_size

pub greeting_in-text : (g : Greeting) → FitsGreeting g → greeting_in (greeting_text g) ≡ Some g
unfolding greeting_in
greeting_in-text g fits =
    let t4 : List ℕ = decimal g.heard ++ digest_part g.digest in
    let t3 : List ℕ = spaced g.number t4 in
    let t2 : List ℕ = spaced g.hold t3 in
    let t1 : List ℕ = spaced g.node t2 in
    let other : (g.number == 0) ≡ false = ne_eqb g.number 0 (λ same. omega (arith, same, fits.some)) in
    ap (λ r. r >>= after_all) (after_mark-joined (spaced g.size t1))
    ∙ ap (λ r. r >>= after_size) (first_number-spaced 250 g.size t1 (omega (arith, fits.size)) (omega (arith, fits.size)))
    ∙ ap (λ r. r >>= after_node g.size) (first_number-spaced 250 g.node t2 (omega (arith, fits.node)) (omega (arith, fits.node)))
    ∙ ap (λ r. r >>= after_hold g.size g.node) (first_number-spaced 3600 g.hold t3 fits.hold (omega (arith, fits.hold)))
    ∙ ap (λ r. r >>= after_number g.size g.node g.hold)
    (first_number-spaced 4294967295 g.number t4 (omega (arith, fits.number)) (omega (arith, fits.number)))
    ∙ ap (λ r. r >>= after_last g.size g.node g.hold g.number) (last_words-text g.heard g.digest fits.heard fits.digest)
    ∙ cond-false (g.number == 0) None (Some g) other

cond_none : {A : Type 0} (b : Bool) (x y : A) → cond b None (Some x) ≡ Some y → (b ≡ false) × (x ≡ y)
cond_none true x y e = absurd cc
cond_none false x y e = (refl, cc)

pub greeting_in-found : (line : List ℕ) (g : Greeting) → greeting_in line ≡ Some g → FitsGreeting g × (line ≡ greeting_text g)
unfolding greeting_in
greeting_in-found line g e =
    bind_some (after_mark line) _ g e (λ rest at_rest e.
    bind_some (first_number 250 rest) _ g e (λ size at_size e.
    bind_some (first_number 250 size.1) _ g e (λ node at_node e.
    bind_some (first_number 3600 node.1) _ g e (λ hold at_hold e.
    bind_some (first_number 4294967295 hold.1) _ g e (λ number at_number e.
    bind_some (last_words number.1) _ g e (λ last at_last e.
    let is : Greeting =
    record { size = size.0; node = node.0; hold = hold.0; number = number.0; heard = last.0; digest = last.1 } in
    let end = cond_none (number.0 == 0) is g e in
    let a = first_number-found 250 rest size.0 size.1 at_size in
    let b = first_number-found 250 size.1 node.0 node.1 at_node in
    let d = first_number-found 3600 node.1 hold.0 hold.1 at_hold in
    let f = first_number-found 4294967295 hold.1 number.0 number.1 at_number in
    let h = last_words-found number.1 last at_last in
    let t4 = ap (spaced number.0) h.written in
    let t3 = f.1 ∙ t4 in
    let t2 = d.1 ∙ ap (spaced hold.0) t3 in
    let t1 = b.1 ∙ ap (spaced node.0) t2 in
    let text : line ≡ greeting_text is = after_mark-found line rest at_rest ∙ ap (λ l. mark ++ l) (a.1 ∙ ap (spaced size.0) t1) in
    let fits : FitsGreeting is = record {
      size = omega (arith, a.0);
      node = omega (arith, b.0);
      hold = d.0;
      some = some_number number.0 end.0;
      number = omega (arith, f.0);
      heard = h.heard;
      digest = h.digest;
    } in
    subst (λ (n : Greeting). FitsGreeting n × (line ≡ greeting_text n)) end.1 (fits, text)))))))
  where
    some_number : (n : ℕ) → (n == 0) ≡ false → 0 < n
    some_number n e = omega (arith, eqb-false n 0 e)

-- ---- what a line says

first_message : (r : Option Message) (q : Option Greeting) (m : Message) → message_or r (greeting_or_nothing q) ≡ said.Message m → r ≡ Some m
first_message (Some n) q m e = cc
first_message None (Some g) m e = absurd cc
first_message None None m e = absurd cc

then_greeting : (r : Option Message) (q : Option Greeting) (g : Greeting) → message_or r (greeting_or_nothing q) ≡ said.Greeting g → q ≡ Some g
then_greeting (Some n) q g e = absurd cc
then_greeting None (Some h) g e = cc
then_greeting None None g e = absurd cc

never_alive : (r : Option Message) (q : Option Greeting) → message_or r (greeting_or_nothing q) ≡ said.Alive → ⊥
never_alive (Some n) q e = cc
never_alive None (Some h) e = cc
never_alive None None e = cc

said_message : (line : List ℕ) (m : Message) → said_by line ≡ said.Message m → message_in line ≡ Some m
unfolding said_by
said_message [] m e = absurd cc
said_message (byte ∷ bytes) m e = first_message (message_in (byte ∷ bytes)) (greeting_in (byte ∷ bytes)) m e

message_said : (line : List ℕ) (m : Message) → message_in line ≡ Some m → said_by line ≡ said.Message m
unfolding said_by pair_in parts_at
message_said [] m e = absurd cc
message_said (byte ∷ bytes) m e = ap (λ r. message_or r (greeting_or_nothing (greeting_in (byte ∷ bytes)))) e

pub message_said_exactly : (line : List ℕ) (m : Message) → (said_by line ≡ said.Message m) ↔ (FitsMessage m × (line ≡ message_text m))
message_said_exactly line m = (
  λ e. (message_exact line m).0 (said_message line m e),
  λ is. message_said line m ((message_exact line m).1 is),
)

-- a greeting's text is no message's
no_message : (g : Greeting) (r : Option Message) → message_in (greeting_text g) ≡ r → r ≡ None
no_message g None e = refl
no_message g (Some m) e =
    let is = (message_exact (greeting_text g) m).0 e in
    let digit : IsAsciiDigit 110 = begins_with_digit 110 (drop 1 (greeting_text g)) m.dest (32 ∷ decimal m.dist) (omega (arith, is.0.dest)) is.1 in
    absurd (omega (arith, digit.1))

greeting_said : (g : Greeting) → FitsGreeting g → said_by (greeting_text g) ≡ said.Greeting g
unfolding said_by
greeting_said g fits =
    ap (λ r. message_or r (greeting_or_nothing (greeting_in (greeting_text g)))) (no_message g (message_in (greeting_text g)) refl)
    ∙ ap (λ q. greeting_or_nothing q) (greeting_in-text g fits)

said_greeting : (line : List ℕ) (g : Greeting) → said_by line ≡ said.Greeting g → greeting_in line ≡ Some g
unfolding said_by
said_greeting [] g e = absurd cc
said_greeting (byte ∷ bytes) g e = then_greeting (message_in (byte ∷ bytes)) (greeting_in (byte ∷ bytes)) g e

pub greeting_said_exactly : (line : List ℕ) (g : Greeting) → (said_by line ≡ said.Greeting g) ↔ (FitsGreeting g × (line ≡ greeting_text g))
greeting_said_exactly line g = (λ e. greeting_in-found line g (said_greeting line g e), λ is. ap said_by is.1 ∙ greeting_said g is.0)

said_alive : (line : List ℕ) → said_by line ≡ said.Alive → line ≡ []
unfolding said_by
said_alive [] e = refl
said_alive (byte ∷ bytes) e = absurd (never_alive (message_in (byte ∷ bytes)) (greeting_in (byte ∷ bytes)) e)

alive_said : said_by [] ≡ said.Alive
unfolding said_by
alive_said = refl

pub alive_said_exactly : (line : List ℕ) → (said_by line ≡ said.Alive) ↔ (line ≡ [])
alive_said_exactly line = (said_alive line, λ empty. ap said_by empty ∙ alive_said)

-- ---- lines one after another

cut_once : (a b x y : List ℕ) → All (λ byte. byte ≢ 10) a → All (λ byte. byte ≢ 10) b → (a ++ 10 ∷ []) ++ x ≡ (b ++ 10 ∷ []) ++ y →
    (a ≡ b) × (x ≡ y)
cut_once a b x y p q e =
    let whole : a ++ 10 ∷ x ≡ b ++ 10 ∷ y = sym (append_assoc a (10 ∷ []) x) ∙ e ∙ append_assoc b (10 ∷ []) y in
    same_pair a b x y (parts_at 10 (a ++ 10 ∷ x)) (parts_at-joined 10 a x p) (ap (parts_at 10) whole ∙ parts_at-joined 10 b y q)

abbrev are_above : List ℕ → Bool
are_above [] = true
are_above (b ∷ bs) = nat_le 11 b && are_above bs

all_above : (bs : List ℕ) → are_above bs ≡ true → All (λ byte. byte ≢ 10) bs
all_above [] e = λ k d h. absurd (omega (arith, h))
all_above (b ∷ bs) e =
    let parts = and_parts (nat_le 11 b) (are_above bs) e in
    let above = leb-true 11 b parts.0 in
    All-cons (λ byte. byte ≢ 10) b bs (λ same. omega (arith, above, same)) (all_above bs parts.1)

open_mark : All (λ byte. byte ≢ 10) mark
open_mark = all_above mark refl

open_spaced : (n : ℕ) (rest : List ℕ) → n < 2 ^ 64 → All (λ byte. byte ≢ 10) rest → All (λ byte. byte ≢ 10) (spaced n rest)
open_spaced n rest fits open_rest =
    All-append (λ byte. byte ≢ 10) (decimal n) (32 ∷ rest) (decimal_apart 10 n (omega arith) fits)
    (All-cons (λ byte. byte ≢ 10) 32 rest (λ same. omega (arith, same)) open_rest)

no_feed : (n : ℕ) → n < 16 → slice_index lower_digits n ≢ 10
no_feed n small = all_above lower_digits refl n 0 small

open_digits : (digest : List ℕ) → IsBytes digest → All (λ byte. byte ≢ 10) (encode_lower digest)
unfolding encode_with
open_digits [] is = λ k d h. absurd (omega (arith, h))
open_digits (byte ∷ bytes) is =
    let below : byte < 256 = is 0 in
    All-cons (λ it. it ≢ 10) (slice_index lower_digits (byte / 16)) (slice_index lower_digits (byte % 16) ∷ encode_lower bytes)
    (no_feed (byte / 16) (omega (arith, below)))
    (All-cons (λ it. it ≢ 10) (slice_index lower_digits (byte % 16)) (encode_lower bytes) (no_feed (byte % 16) (omega arith))
    (open_digits bytes (λ i. is (suc i))))

open_part : (digest : Option (List ℕ)) → IfSome digest IsDigest → All (λ byte. byte ≢ 10) (digest_part digest)
open_part None is = λ k d h. absurd (omega (arith, h))
open_part (Some digest) is = All-cons (λ byte. byte ≢ 10) 32 (encode_lower digest) (λ same. omega (arith, same)) (open_digits digest is.bytes)

open_greeting : (g : Greeting) → FitsGreeting g → All (λ byte. byte ≢ 10) (greeting_text g)
open_greeting g fits =
    let t4 : List ℕ = decimal g.heard ++ digest_part g.digest in
    let open_heard = All-append (λ byte. byte ≢ 10) (decimal g.heard) (digest_part g.digest)
    (decimal_apart 10 g.heard (omega arith) (omega (arith, fits.heard))) (open_part g.digest fits.digest) in
    All-append (λ byte. byte ≢ 10) mark (spaced g.size (spaced g.node (spaced g.hold (spaced g.number t4)))) open_mark
    (open_spaced g.size (spaced g.node (spaced g.hold (spaced g.number t4))) (omega (arith, fits.size))
    (open_spaced g.node (spaced g.hold (spaced g.number t4)) (omega (arith, fits.node))
    (open_spaced g.hold (spaced g.number t4) (omega (arith, fits.hold))
    (open_spaced g.number t4 (omega (arith, fits.number)) open_heard))))

pub greeting_apart : (a b : Greeting) (x y : List ℕ) → FitsGreeting a → FitsGreeting b → greeting_line a ++ x ≡ greeting_line b ++ y →
    (a ≡ b) × (x ≡ y)
greeting_apart a b x y p q e =
    let cut = cut_once (greeting_text a) (greeting_text b) x y (open_greeting a p) (open_greeting b q) e in
    let same : Some a ≡ Some b = sym (greeting_in-text a p) ∙ ap greeting_in cut.0 ∙ greeting_in-text b q in
    (cc, cut.1)

-- ---- lengths

spaced_short : (count n : ℕ) (rest : List ℕ) → 0 < count → n < 10 ^ count → n < 2 ^ 64 → length (spaced n rest) ≤ count + (1 + length rest)
spaced_short count n rest some below fits = omega (arith, length-append (decimal n) (32 ∷ rest), decimal_short count n some below fits)

-- a digest takes a space and 16 digits
part_short : (digest : Option (List ℕ)) → IfSome digest IsDigest → length (digest_part digest) ≤ 17
part_short None is = omega arith
part_short (Some digest) is = omega (arith, length-encode_with lower_digits digest, is.long)

pub greeting_short : (g : Greeting) → FitsGreeting g → length (greeting_line g) ≤ line_limit
greeting_short g fits =
    let t4 : List ℕ = decimal g.heard ++ digest_part g.digest in
    let t3 : List ℕ = spaced g.number t4 in
    let t2 : List ℕ = spaced g.hold t3 in
    let t1 : List ℕ = spaced g.node t2 in
    omega (
      arith,
      length-append (greeting_text g) (10 ∷ []),
      length-append mark (spaced g.size t1),
      spaced_short 3 g.size t1 (omega arith) (omega (arith, fits.size)) (omega (arith, fits.size)),
      spaced_short 3 g.node t2 (omega arith) (omega (arith, fits.node)) (omega (arith, fits.node)),
      spaced_short 4 g.hold t3 (omega arith) (omega (arith, fits.hold)) (omega (arith, fits.hold)),
      spaced_short 10 g.number t4 (omega arith) (omega (arith, fits.number)) (omega (arith, fits.number)),
      length-append (decimal g.heard) (digest_part g.digest),
      decimal_short 10 g.heard (omega arith) (omega (arith, fits.heard)) (omega (arith, fits.heard)),
      part_short g.digest fits.digest,
    )
