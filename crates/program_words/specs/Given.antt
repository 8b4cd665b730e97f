-- What the words behind a command gave, as the parser of words answers it: each option and argument by its name, with its values in order.
-- (`ArgMatches` of the crate clap; which word of the command line becomes which value, its contract says for the commands of `Parameters`.)
use Rattle.std.specs.Prelude.{◌&&◌, ◌^◌, ℕ, Bool, false, List, [], Option, Some, None, codes, if◌then◌else◌}
use Rattle.std.specs.Prelude.{length, nat_lt, option_and_then, slice_get, unwrap_or}
use Rattle.std.specs.Char.{is_digit}
use Rattle.std.specs.List.{list_all}
use Rattle.std.specs.Option.{option_map_or}
use Rattle.std.specs.Str.{bytes_eq}
use Rattle.std.specs.Str.Parse.{digits_value, without_leading_plus}
use Rattle.clap.specs.Words.{Row, all_of, found_of, one_of, rows_of}
use Rattle.clap.specs.declared.parser.matches.ArgMatches.{ArgMatches}

unfoldable pub given_in : ArgMatches → List Row
given_in matches = rows_of (found_of matches)

-- the values of an option or an argument; none where it was not given
unfoldable pub words_of : List ℕ → List Row → List (List ℕ)
words_of name given = unwrap_or (all_of name given) []

-- its first value
abbrev pub word_of : List ℕ → List Row → Option (List ℕ)
word_of name given = slice_get (words_of name given) 0

-- a flag was given
unfoldable pub is_set : List ℕ → List Row → Bool
is_set name given = option_map_or (λ text. bytes_eq text (codes "true")) (one_of name given) false

-- one decimal digit or more
abbrev pub is_numeral : List ℕ → Bool
is_numeral digits = nat_lt 0 (length digits) && list_all (λ digit. is_digit digit 10) digits

-- the number that a text writes, if it is below 2 ^ bits; a plus may stand first
abbrev pub number_in : ℕ → List ℕ → Option ℕ
number_in bits text =
    let digits = without_leading_plus text in
    if is_numeral digits && nat_lt (digits_value 10 digits) (2 ^ bits) then Some (digits_value 10 digits) else None

-- the number that an option says
unfoldable pub number_of : ℕ → List ℕ → List Row → Option ℕ
number_of bits name given = option_and_then (number_in bits) (one_of name given)
