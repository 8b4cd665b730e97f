use Rattle.std.proofs.Common.{◌≡◌, drop}
use Rattle.std.specs.List.{find}
use Rattle.script_words.specs.Causes.{is_coded}
use Rattle.script_words.proofs.cause.first_coded.Given as goal

-- none so far is written so
abbrev pub invariant-loop-cause : goal.invariant-loop-cause
invariant-loop-cause l = find (is_coded l.code) l.causes ≡ find (is_coded l.code) (drop l.cause-index l.causes)
