use Rattle.std.proofs.Common.{◌≡◌, ◌∙◌, ◌++◌, ap, sym, ℕ, List, Ok, Err}
use Rattle.std.specs.Prelude.{if◌then◌else◌, OnOk, Result, is_ok}
use Rattle.neighbour_session.specs.Words as spec
use Rattle.neighbour_session.proofs.ends.SessionEnd.push_words.Goals as goal

-- a text was added, where there was room for it
pub added : {E : Type 0} (r : Result (Unit {0}) E) (new old text words : List ℕ) → new ≡ (if is_ok r then old ++ text else old) → text ≡ words →
    OnOk r (new ≡ old ++ words)
added (Ok done) new old text words e same = e ∙ ap (λ l. old ++ l) same
added (Err why) new old text words e same = tt

pub returns-in-Silent-clause-ok : goal.returns-in-Silent-clause-ok
returns-in-Silent-clause-ok c = rw c.in-Silent.is (rw c.from.ensures at c.push_numbered-in-Silent.ensures.ok)

pub returns-in-Unwritten-clause-ok : goal.returns-in-Unwritten-clause-ok
returns-in-Unwritten-clause-ok c =
    added c.push_str-in-Unwritten.result _ _ _ _ c.push_str-in-Unwritten.ensures.bytes (ap spec.end_words (sym c.in-Unwritten.is))

pub returns-in-Closed-clause-ok : goal.returns-in-Closed-clause-ok
returns-in-Closed-clause-ok c =
    added c.push_str-in-Closed.result _ _ _ _ c.push_str-in-Closed.ensures.bytes (ap spec.end_words (sym c.in-Closed.is))

pub returns-in-Full-clause-ok : goal.returns-in-Full-clause-ok
returns-in-Full-clause-ok c =
    added c.push_str-in-Full.result _ _ _ _ c.push_str-in-Full.ensures.bytes (ap spec.end_words (sym c.in-Full.is))
