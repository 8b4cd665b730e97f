-- One text more.
use Rattle.std.proofs.Common.{◌≡◌, ℕ, ◌+◌, List, ◌++◌, sym, subst, ap, ◌∙◌, append_assoc}
use Rattle.std.proofs.Math.Numerals.{add-one}
use Rattle.operator_cmds.specs.Looks.{texts_below}

pub one_text_more : (text : ℕ → List ℕ) (n : ℕ) (old mid new : List ℕ) → mid ≡ old ++ texts_below n text → new ≡ mid ++ text n
    → new ≡ old ++ texts_below (n + 1) text
unfolding texts_below
one_text_more text n old mid new first next =
    subst (λ k. new ≡ old ++ texts_below k text) (sym (add-one n))
    (next ∙ ap (λ (l : List ℕ). l ++ text n) first ∙ append_assoc old (texts_below n text) (text n))
