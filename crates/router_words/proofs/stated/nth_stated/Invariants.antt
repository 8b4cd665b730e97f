use Rattle.std.proofs.Common.{◌≡◌, drop, map}
use Rattle.router_files.specs.Files.{statement_of}
use Rattle.router_words.specs.Stated.{nth_stated}
use Rattle.router_words.proofs.stated.nth_stated.Given as goal

-- so many are left before it
abbrev pub invariant-loop-statement : goal.invariant-loop-statement
invariant-loop-statement l = nth_stated l.option l.at (map statement_of l.statements)
    ≡ nth_stated l.option l.left (map statement_of (drop l.statement-index l.statements))
