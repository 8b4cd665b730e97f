use Rattle.std.proofs.Common.{◌≡◌, map, take}
use Rattle.std.specs.List.{flat_map}
use Rattle.std.specs.Prelude.{string_bytes}
use Rattle.router_files.specs.Files.{statement_of}
use Rattle.router_words.specs.Gathering.{texts_in}
use Rattle.router_words.proofs.gathering.stated_texts.Given as goal

-- what the lines so far say of the option
abbrev pub invariant-loop-statement : goal.invariant-loop-statement
invariant-loop-statement l = map (λ text. string_bytes text) l.texts.items
    ≡ flat_map (texts_in l.option) (map statement_of (take l.statement-index l.statements))
