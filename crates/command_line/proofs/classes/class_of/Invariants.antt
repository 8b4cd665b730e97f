use Rattle.std.proofs.Common.{◌≡◌, drop, map}
use Rattle.refusal_texts.specs.Codes.{is_among}
use Rattle.command_line.proofs.classes.class_of.Given as goal

-- none of the classes so far has the letter
abbrev pub invariant-loop-class : goal.invariant-loop-class
invariant-loop-class l = is_among (map (λ class. class.letter.now) l.class-items) l.letter ≡ is_among (map (λ class. class.letter.now) (drop l.class-index l.class-items)) l.letter
