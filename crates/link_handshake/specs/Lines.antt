-- What is written on a link of version 2. (This project's own choice.)
use Rattle.std.specs.Prelude.{◌≡◌, ℕ, ◌^◌, ◌<◌, ◌≤◌, List, [], ◌∷◌, ◌++◌, Option, Some, None, IfSome, length, codes, decimal}
use Rattle.hex.specs.Hex.{IsBytes, encode_lower}
use Rattle.link_handshake.specs.declared.greeting.Greeting.{Greeting}

-- how many seconds a HOLD has at most
abbrev pub hold_limit : ℕ
hold_limit = 3600

-- the size of a domain and the number of a node are at most so much
abbrev pub most_nodes : ℕ
most_nodes = 250

-- what a greeting begins with: the name of the form, and its version
abbrev pub mark : List ℕ
mark = codes "netchange 2 "

-- a number, a space, and what follows
abbrev pub spaced : ℕ → List ℕ → List ℕ
spaced n rest = decimal n ++ 32 ∷ rest

-- the digest of the domain behind all that, if there is one: 16 digits, with small letters
abbrev pub digest_part : Option (List ℕ) → List ℕ
digest_part None = []
digest_part (Some digest) = 32 ∷ encode_lower digest

-- a greeting: the size of the domain, the node that speaks, its HOLD, the number of its attempt, the last number that it heard, and the digest
abbrev pub greeting_text : Greeting → List ℕ
greeting_text g = mark ++ spaced g.size (spaced g.node (spaced g.hold (spaced g.number (decimal g.heard ++ digest_part g.digest))))

-- the line of a greeting
abbrev pub greeting_line : Greeting → List ℕ
greeting_line g = greeting_text g ++ 10 ∷ []

-- a digest has 8 bytes
pub record IsDigest (digest : List ℕ) : Type 0 where
  pub long : length digest ≡ 8
  pub bytes : IsBytes digest

-- the numbers of a greeting are within their limits, and that of its attempt is not 0; and its digest is one, if it has one
pub record FitsGreeting (g : Greeting) : Type 0 where
  pub size : g.size ≤ most_nodes
  pub node : g.node ≤ most_nodes
  pub hold : g.hold ≤ hold_limit
  pub some : 0 < g.number
  pub number : g.number < 2 ^ 32
  pub heard : g.heard < 2 ^ 32
  pub digest : IfSome g.digest IsDigest
