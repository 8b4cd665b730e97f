use Rattle.filter_code.proofs.TaggedValues.{number_of_value, one_kind, two_lengths}
use Rattle.filter_code.proofs.tagged.Tagged.equals.Goals as goal

pub returns-then-self-other : goal.returns-then-self-other
returns-then-self-other c =
    let s = one_kind _ _ _ _ (number_of_value _ _ c.self.view_is c.self.invariant) (number_of_value _ _ c.other.view_is c.other.invariant)
    c.if-self-other.true in
    (s.alike, s.same_is)

pub returns-then-other-ge-PREFIX : goal.returns-then-other-ge-PREFIX
returns-then-other-ge-PREFIX c =
    let s = two_lengths _ _ _ _ (number_of_value _ _ c.self.view_is c.self.invariant)
    (number_of_value _ _ c.other.view_is c.other.invariant) c.if-self-ge-PREFIX.true c.if-other-ge-PREFIX.true c.if-self-other.false in
    (s.alike, s.same_is)
