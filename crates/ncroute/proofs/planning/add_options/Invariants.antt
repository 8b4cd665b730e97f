use Rattle.std.proofs.Common.{◌≡◌}
use Rattle.ncroute.specs.Planning.{AddsFirst, text_of}
use Rattle.ncroute.proofs.planning.add_options.Given as goal

-- the options so far were added, and are counted
abbrev pub invariant-loop-text : goal.invariant-loop-text
invariant-loop-text l = record {
  first : AddsFirst l.kind text_of l.texts l.text-index l.fn.plan l.plan;
  at : l.at ≡ l.text-index;
}
