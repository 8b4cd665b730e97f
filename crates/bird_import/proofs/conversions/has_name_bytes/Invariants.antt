use Rattle.std.proofs.Common.{◌≡◌, drop}
use Rattle.std.specs.List.{list_all}
use Rattle.filter_tokens.specs.Shapes.{continues_word}
use Rattle.bird_import.proofs.conversions.has_name_bytes.Given as goal

-- each byte so far may stand in a name
abbrev pub invariant-loop-byte : goal.invariant-loop-byte
invariant-loop-byte l = list_all continues_word l.name ≡ list_all continues_word (drop l.byte-index l.name)
