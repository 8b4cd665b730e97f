-- Worked rows of the definitions, computed.
use Rattle.std.proofs.Common.{◌≡◌, [], ◌∷◌, Some, None, refl, codes}
use Rattle.std.specs.Fmt.{digits}
use Rattle.prefix_patterns.specs.Number.{decimal_value}
use Rattle.prefix_patterns.specs.Reading.{number_in, parts_at}
use Rattle.message_streams.specs.Ends.{end_within}
use Rattle.message_streams.specs.Lines.{message_line}
use Rattle.message_streams.specs.Reading.{exact_number, message_in, messages_in, pair_in}
use Rattle.message_streams.specs.declared.ends.StreamEnd.TheVariants as why

message_written : message_line (record { dest = 7; dist = 65535 }) ≡ codes "7 65535\n"
unfolding digits
message_written = refl

message_read : message_in (codes "7 12") ≡ Some (record { dest = 7; dist = 12 })
unfolding digits pair_in exact_number number_in parts_at decimal_value
message_read = refl

-- a zero in front, a second space, a carriage return, a number of 17 bits, a sign, half a line
zero_in_front : message_in (codes "07 1") ≡ None
unfolding digits pair_in exact_number number_in parts_at decimal_value
zero_in_front = refl

second_space : message_in (codes "7  1") ≡ None
unfolding digits pair_in exact_number number_in parts_at decimal_value
second_space = refl

carriage_return : message_in (codes "7 1\r") ≡ None
unfolding digits pair_in exact_number number_in parts_at decimal_value
carriage_return = refl

too_large : message_in (codes "7 65536") ≡ None
unfolding digits pair_in exact_number number_in parts_at decimal_value
too_large = refl

half_a_line : message_in (codes "7 ") ≡ None
unfolding digits pair_in exact_number number_in parts_at decimal_value
half_a_line = refl

-- what follows the last line feed says nothing
said_by_lines : messages_in (codes "1 2\n3 4\n5 6") ≡ record { dest = 1; dist = 2 } ∷ record { dest = 3; dist = 4 } ∷ []
unfolding digits pair_in exact_number number_in parts_at decimal_value
said_by_lines = refl

-- the stream ends after whole lines, or within one
after_a_line : end_within 0 ≡ why.Ended
after_a_line = refl

within_a_line : end_within 1 ≡ why.Unfinished
within_a_line = refl
