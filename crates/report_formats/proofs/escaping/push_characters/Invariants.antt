use Rattle.std.proofs.Common.{◌≡◌, ◌++◌, flat_map, string_bytes, take}
use Rattle.report_formats.specs.Escaping.{escaped}
use Rattle.report_formats.proofs.escaping.push_characters.Given as goal

-- the characters so far
abbrev pub invariant-loop-character : goal.invariant-loop-character
invariant-loop-character l =
    string_bytes l.out ≡ string_bytes l.initial.out ++ flat_map escaped (take l.character-index l.characters)
