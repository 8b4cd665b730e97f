use Rattle.std.proofs.Common.{◌≡◌, map, take}
use Rattle.std.specs.Prelude.{string_bytes}
use Rattle.router_files.specs.Files.{statement_of}
use Rattle.router_words.specs.Gathering.{texts_of}
use Rattle.router_words.proofs.gathering.texts_of.Given as goal

-- what the file says, and the texts so far
abbrev pub invariant-loop-text : goal.invariant-loop-text
invariant-loop-text l = map (λ text. string_bytes text) l.texts.items
    ≡ texts_of l.fn.option (map statement_of l.statements) (map (λ text. string_bytes text) (take l.text-index l.given))
