use Rattle.std.proofs.Common.{◌≡◌, drop}
use Rattle.std.specs.List.{list_all}
use Rattle.line_protocol.specs.Names.{is_name_byte}
use Rattle.line_protocol.proofs.name.has_name_bytes.Given as goal

-- each byte so far may stand in a name
abbrev pub invariant-loop-byte : goal.invariant-loop-byte
invariant-loop-byte l = list_all is_name_byte l.word ≡ list_all is_name_byte (drop l.byte-index l.word)
