-- Worked rows of the definitions, computed.
use Rattle.std.proofs.Common.{◌≡◌, ℕ, true, [], ◌∷◌, Some, None, refl, codes}
use Rattle.std.specs.Fmt.{digits}
use Rattle.hex.specs.Hex.{decode_pairs, encode_with}
use Rattle.prefix_patterns.specs.Number.{decimal_value}
use Rattle.prefix_patterns.specs.Reading.{number_in, parts_at}
use Rattle.link_handshake.specs.Ends.{begun}
use Rattle.link_handshake.specs.Events.{greeting_round, run}
use Rattle.link_handshake.specs.Events.Action.{Hears, Loses, Restarts}
use Rattle.link_handshake.specs.Events.Event.{Here, There}
use Rattle.link_handshake.specs.Lines.{greeting_line}
use Rattle.link_handshake.specs.Links.{Link, Opening, opened}
use Rattle.link_handshake.specs.Reading.{digest_in, exact_number, first_number, greeting_in, last_words}
use Rattle.link_handshake.specs.declared.ends.End.{End}
use Rattle.link_handshake.specs.declared.greeting.Greeting.{Greeting}

abbrev sample : Greeting
sample = record { size = 10; node = 3; hold = 9; number = 7001; heard = 0; digest = None }

greeting_written : greeting_line sample ≡ codes "netchange 2 10 3 9 7001 0\n"
unfolding digits
greeting_written = refl

greeting_read : greeting_in (codes "netchange 2 10 3 9 7001 0") ≡ Some sample
unfolding digits greeting_in first_number exact_number last_words digest_in number_in parts_at decimal_value
greeting_read = refl

-- a HOLD of more than an hour, the number 0, another version, a number that is missing, a zero in front
hold_too_long : greeting_in (codes "netchange 2 10 3 3601 7001 0") ≡ None
unfolding digits greeting_in first_number exact_number last_words digest_in number_in parts_at decimal_value
hold_too_long = refl

no_number : greeting_in (codes "netchange 2 10 3 9 0 0") ≡ None
unfolding digits greeting_in first_number exact_number last_words digest_in number_in parts_at decimal_value
no_number = refl

other_version : greeting_in (codes "netchange 1 10 3") ≡ None
unfolding digits greeting_in first_number exact_number last_words digest_in number_in parts_at decimal_value
other_version = refl

one_missing : greeting_in (codes "netchange 2 10 3 9 7001") ≡ None
unfolding digits greeting_in first_number exact_number last_words digest_in number_in parts_at decimal_value
one_missing = refl

zero_in_front : greeting_in (codes "netchange 2 10 3 09 7001 0") ≡ None
unfolding digits greeting_in first_number exact_number last_words digest_in number_in parts_at decimal_value
zero_in_front = refl

-- one with a digest; a capital letter in it, a digit that is missing, a domain of more nodes than there are
abbrev told : Greeting
told = record sample { digest = Some (1 ∷ 186 ∷ 71 ∷ 25 ∷ 200 ∷ 11 ∷ 111 ∷ 233 ∷ []) }

digest_written : greeting_line told ≡ codes "netchange 2 10 3 9 7001 0 01ba4719c80b6fe9\n"
unfolding digits encode_with
digest_written = refl

digest_read : greeting_in (codes "netchange 2 10 3 9 7001 0 01ba4719c80b6fe9") ≡ Some told
unfolding digits greeting_in first_number exact_number last_words digest_in number_in parts_at decimal_value decode_pairs encode_with
digest_read = refl

capital : greeting_in (codes "netchange 2 10 3 9 7001 0 01BA4719c80b6fe9") ≡ None
unfolding digits greeting_in first_number exact_number last_words digest_in number_in parts_at decimal_value decode_pairs encode_with
capital = refl

digit_missing : greeting_in (codes "netchange 2 10 3 9 7001 0 01ba4719c80b6fe") ≡ None
unfolding digits greeting_in first_number exact_number last_words digest_in number_in parts_at decimal_value decode_pairs encode_with
digit_missing = refl

too_many_nodes : greeting_in (codes "netchange 2 251 3 9 7001 0") ≡ None
unfolding digits greeting_in first_number exact_number last_words digest_in number_in parts_at decimal_value
too_many_nodes = refl

-- two ends with the numbers 5 and 8
abbrev opening : Opening
opening = record {
  speaker = record { size = 2; node = 0; hold = 9; digest = None };
  other = record { size = 2; node = 1; hold = 9; digest = None };
  number = 5;
  number_there = 8;
}

abbrev end : ℕ → ℕ → End
end number heard = record { number = number; heard = heard; is_up = true }

-- each hears the other's greeting, answers, hears the answer, and is up; then nothing is on its way
abbrev met : Link
met = run (Here (Hears 6) ∷ (There (Hears 9) ∷ (Here (Hears 6) ∷ (There (Hears 9) ∷ [])))) (opened opening)

met_here : met.here ≡ end 5 8
met_here = refl

met_there : met.there ≡ end 8 5
met_there = refl

met_forth : met.forth.coming ≡ []
met_forth = refl

met_back : met.back.coming ≡ []
met_back = refl

-- there ends, and is started again with the number 9: what it greets ends the session here, which begins anew with 6, and both come up
abbrev again : Link
again = run (There (Restarts 9) ∷ (Here (Hears 6) ∷ (There (Hears 10) ∷ (Here (Hears 7) ∷ (There (Hears 10) ∷ []))))) met

again_here : again.here ≡ end 6 9
again_here = refl

again_there : again.there ≡ end 9 6
again_there = refl

-- the first greetings of both are lost: one greets again, and both come up
abbrev lost : Link
lost = run (Here (Loses 1) ∷ (There (Loses 1) ∷ greeting_round 11)) (opened opening)

lost_here : lost.here ≡ end 5 8
lost_here = refl

lost_there : lost.there ≡ end 8 5
lost_there = refl

-- all that this end greeted is lost: it waits, and has heard the other
abbrev alone : Link
alone = run (Here (Hears 6) ∷ (Here (Loses 2) ∷ [])) (opened opening)

alone_here : alone.here ≡ begun 5 8
alone_here = refl
