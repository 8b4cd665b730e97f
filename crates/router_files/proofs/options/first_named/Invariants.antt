use Rattle.std.proofs.Common.{◌≡◌, drop}
use Rattle.std.specs.List.{find}
use Rattle.router_files.specs.Options.{is_named}
use Rattle.router_files.proofs.options.first_named.Given as goal

-- none so far has the name
abbrev pub invariant-loop-option : goal.invariant-loop-option
invariant-loop-option l = find (is_named l.name) l.options ≡ find (is_named l.name) (drop l.option-index l.options)
