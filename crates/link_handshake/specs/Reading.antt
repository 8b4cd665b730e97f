-- What a line of version 2 says. (This project's own choice.)
use Rattle.std.specs.Prelude.{ℕ, ◌==◌, if◌then◌else◌, List, [], ◌∷◌, length, take, drop, Option, Some, None, Result, Ok, Err, bytes_eq, decimal}
use Rattle.hex.specs.Hex.{decode_sized, encode_lower}
use Rattle.hex.specs.declared.error.FromHexError.{FromHexError}
use Rattle.message_streams.specs.Reading.{message_in}
use Rattle.netchange_core.specs.declared.message.Message.{Message}
use Rattle.prefix_patterns.specs.Reading.{◌>>=◌, number_in, parts_at}
use Rattle.link_handshake.specs.Lines.{mark}
use Rattle.link_handshake.specs.declared.greeting.Greeting.{Greeting}
use Rattle.link_handshake.specs.declared.said.Said.{Said}
use Rattle.link_handshake.specs.declared.said.Said.TheVariants as said

-- a number of at most so much that is written as numbers are: with no zero before it
unfoldable pub exact_number : ℕ → List ℕ → Option ℕ
exact_number most word = do
  n ← number_in most word
  if bytes_eq (decimal n) word then Some n else None

-- such a number that a text begins with, and what follows the space behind it
unfoldable pub first_number : ℕ → List ℕ → Option (ℕ × List ℕ)
first_number most text = do
  parts ← parts_at 32 text
  n ← exact_number most parts.0
  Some (n, parts.1)

-- the bytes after the mark of a greeting
abbrev pub after_mark : List ℕ → Option (List ℕ)
after_mark line = if bytes_eq (take (length mark) line) mark then Some (drop (length mark) line) else None

-- the digest that a word writes, with small letters
abbrev pub if_written : List ℕ → Result (List ℕ) FromHexError → Option (List ℕ)
if_written word (Ok digest) = if bytes_eq (encode_lower digest) word then Some digest else None
if_written word (Err why) = None

unfoldable pub digest_in : List ℕ → Option (List ℕ)
digest_in word = if_written word (decode_sized word 8)

-- the last words of a greeting: the last number that it heard, and the digest of its domain, if it says one
abbrev pub with_digest : List ℕ × List ℕ → Option (ℕ × Option (List ℕ))
with_digest parts = do
  heard ← exact_number 4294967295 parts.0
  digest ← digest_in parts.1
  Some (heard, Some digest)

abbrev pub without_digest : List ℕ → Option (ℕ × Option (List ℕ))
without_digest text = do
  heard ← exact_number 4294967295 text
  Some (heard, None)

abbrev pub last_of : List ℕ → Option (List ℕ × List ℕ) → Option (ℕ × Option (List ℕ))
last_of text None = without_digest text
last_of text (Some parts) = with_digest parts

unfoldable pub last_words : List ℕ → Option (ℕ × Option (List ℕ))
last_words text = last_of text (parts_at 32 text)

-- the greeting that a line says
unfoldable pub greeting_in : List ℕ → Option Greeting
greeting_in line = do
  rest ← after_mark line
  size ← first_number 250 rest
  node ← first_number 250 size.1
  hold ← first_number 3600 node.1
  number ← first_number 4294967295 hold.1
  last ← last_words number.1
  if number.0 == 0 then None else Some (record {
    size = size.0;
    node = node.0;
    hold = hold.0;
    number = number.0;
    heard = last.0;
    digest = last.1;
  })

-- a greeting that was found, or else nothing
abbrev pub greeting_or_nothing : Option Greeting → Said
greeting_or_nothing None = said.Nothing
greeting_or_nothing (Some g) = said.Greeting g

-- a message that was found, or else what there is
abbrev pub message_or : Option Message → Said → Said
message_or None other = other
message_or (Some m) other = said.Message m

-- what a line says: nothing is in it; a message; a greeting; or none of these
unfoldable pub said_by : List ℕ → Said
said_by [] = said.Alive
said_by (byte ∷ bytes) = message_or (message_in (byte ∷ bytes)) (greeting_or_nothing (greeting_in (byte ∷ bytes)))
