use Rattle.std.proofs.Common.{map}
use Rattle.router_files.specs.Files.{statement_of}
use Rattle.router_words.specs.Gathering.{NoneWrongBefore}
use Rattle.router_words.proofs.gathering.first_wrong.Given as goal

-- none so far is refused
abbrev pub invariant-loop-statement : goal.invariant-loop-statement
invariant-loop-statement l = NoneWrongBefore l.words (map statement_of l.statements) l.statement-index
