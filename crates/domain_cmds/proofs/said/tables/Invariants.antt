use Rattle.std.proofs.Common.{◌≡◌, [], ◌∷◌, map}
use Rattle.domain_cmds.specs.Failures.{lists_below}
use Rattle.domain_cmds.specs.Said.{table_of}
use Rattle.domain_cmds.proofs.said.tables.Given as goal

-- the routes of lesser nodes than this
abbrev pub invariant-loop-u : goal.invariant-loop-u
invariant-loop-u l = map (λ table. table.items) l.tables.items ≡ lists_below l.u (λ u. table_of l.size l.all u ∷ [])
