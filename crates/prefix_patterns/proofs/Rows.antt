-- Worked rows, computed by the definitions.
use Rattle.std.proofs.Common.{◌≡◌, ℕ, ◌*◌, ◌^◌, Bool, true, false, List, [], ◌∷◌, Option, Some, None, refl}
use Rattle.std.specs.Prelude.{codes}
use Rattle.prefix_patterns.specs.Bits.{bits, number, address_of, prefix_bits}
use Rattle.prefix_patterns.specs.Matching.{PrefixPattern, MatchesAny, matches_any}
use Rattle.prefix_patterns.specs.Number.{decimal_value}
use Rattle.prefix_patterns.specs.Reading.{◌>>=◌, number_in, parts_at, groups_in, address_in, prefix_in, written_in}
use Rattle.prefix_patterns.specs.Token.{IsPrefix}
use Rattle.prefix_patterns.proofs.Matches.{matches_any-Decides}
use Rattle.prefix_patterns.proofs.Tokens.{prefix_in-only}

ten : bits 6 10 ≡ false ∷ false ∷ true ∷ false ∷ true ∷ false ∷ []
unfolding bits
ten = refl

ten_again : number (false ∷ false ∷ true ∷ false ∷ true ∷ false ∷ []) ≡ 10
unfolding number
ten_again = refl

-- 10.0.0.0/8
ten_net : prefix_in (codes "10.0.0.0/8") ≡ Some (false ∷ false ∷ false ∷ false ∷ true ∷ false ∷ true ∷ false ∷ [])
unfolding prefix_in written_in address_in groups_in parts_at number_in decimal_value bits
ten_net = refl

-- its first address is 10.0.0.0
ten_net_address : address_of (false ∷ false ∷ false ∷ false ∷ true ∷ false ∷ true ∷ false ∷ []) ≡ 10 * 2 ^ 24
unfolding number
ten_net_address = refl

-- the bits past the length are left out
cleared : prefix_in (codes "1.2.3.4/8") ≡ prefix_in (codes "1.0.0.0/8")
unfolding prefix_in written_in address_in groups_in parts_at number_in decimal_value bits
cleared = refl

-- zeros in front of a number count for nothing
zeros : number_in 255 (codes "007") ≡ Some 7
unfolding number_in decimal_value
zeros = refl

-- the prefix of no bits
everything : prefix_in (codes "255.255.255.255/00") ≡ Some []
unfolding prefix_in written_in address_in groups_in parts_at number_in decimal_value bits
everything = refl

-- a length of 33 writes no prefix
too_long : (bits : List Bool) → IsPrefix (codes "10.0.0.0/33") bits → ⊥
unfolding prefix_in written_in address_in groups_in parts_at number_in decimal_value bits
too_long bits is = let none : prefix_in (codes "10.0.0.0/33") ≡ None = refl in let some = prefix_in-only (codes "10.0.0.0/33") bits is in cc

-- nor does a group of 256
too_large : (bits : List Bool) → IsPrefix (codes "10.256.0.0/8") bits → ⊥
unfolding prefix_in written_in address_in groups_in parts_at number_in decimal_value bits
too_large bits is = let none : prefix_in (codes "10.256.0.0/8") ≡ None = refl in let some =
    prefix_in-only (codes "10.256.0.0/8") bits is in cc

-- nor do three groups, or five
three_groups : prefix_in (codes "1.2.3/8") ≡ None
unfolding prefix_in written_in address_in groups_in parts_at number_in decimal_value bits
three_groups = refl

five_groups : prefix_in (codes "1.2.3.4.5/8") ≡ None
unfolding prefix_in written_in address_in groups_in parts_at number_in decimal_value bits
five_groups = refl

-- whether the prefix that a text writes matches the set of one pattern, of another text's bits and of lengths
unfoldable matches_one : List ℕ → List ℕ → ℕ → ℕ → Option Bool
matches_one text pattern low high = do
  prefix ← prefix_in text
  bits ← prefix_in pattern
  Some (matches_any prefix (record { bits = bits; low = low; high = high } ∷ []))

-- 1.0.0.0/16 is longer than 1.0.0.0/8- takes
longer : matches_one (codes "1.0.0.0/16") (codes "1.0.0.0/8") 0 8 ≡ Some false
unfolding matches_one prefix_in written_in address_in groups_in parts_at number_in decimal_value bits
longer = refl

-- 1.2.0.0/15 has the first fifteen bits of 1.2.3.4/32-
shorter : matches_one (codes "1.2.0.0/15") (codes "1.2.3.4/32") 0 32 ≡ Some true
unfolding matches_one prefix_in written_in address_in groups_in parts_at number_in decimal_value bits
shorter = refl

-- 0.0.0.0/0 is shorter than 0.0.0.0/0{20,24} takes
too_short : matches_one (codes "0.0.0.0/0") (codes "0.0.0.0/0") 20 24 ≡ Some false
unfolding matches_one prefix_in written_in address_in groups_in parts_at number_in decimal_value bits
too_short = refl

-- 9.0.0.0/22 is not
between : matches_one (codes "9.0.0.0/22") (codes "0.0.0.0/0") 20 24 ≡ Some true
unfolding matches_one prefix_in written_in address_in groups_in parts_at number_in decimal_value bits
between = refl

-- the first and the second of these as facts: the prefix 1.0.0.0/16, and the prefix 1.2.0.0/15
longer_fact : MatchesAny (prefix_bits (2 ^ 24) 16) (record { bits = prefix_bits (2 ^ 24) 8; low = 0; high = 8 } ∷ []) → ⊥
unfolding bits
longer_fact any =
    let prefix = prefix_bits (2 ^ 24) 16 in
    let set : List PrefixPattern = record { bits = prefix_bits (2 ^ 24) 8; low = 0; high = 8 } ∷ [] in
    let no : matches_any prefix set ≡ false = refl in
    let yes = (matches_any-Decides prefix set).1 any in
    cc

shorter_fact : MatchesAny (prefix_bits (258 * 2 ^ 16) 15) (record { bits = prefix_bits 16909060 32; low = 0; high = 32 } ∷ [])
unfolding bits
shorter_fact =
    let prefix = prefix_bits (258 * 2 ^ 16) 15 in
    let set : List PrefixPattern = record { bits = prefix_bits 16909060 32; low = 0; high = 32 } ∷ [] in
    let yes : matches_any prefix set ≡ true = refl in
    (matches_any-Decides prefix set).0 yes

-- of a set of two patterns the second is looked at too
second : matches_any [] (record { bits = []; low = 1; high = 32 } ∷ record { bits = true ∷ []; low = 0; high = 0 } ∷ []) ≡ true
second = refl
