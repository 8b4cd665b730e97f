-- The parts of a line, one behind the other.
use Rattle.std.proofs.Common.{◌≡◌, ◌∙◌, ℕ, List, ◌++◌, ap, append_assoc, sym}

pub told_line : (old router told links with_router with_links line feed : List ℕ) → with_router ≡ old ++ router → with_links ≡ with_router ++ told
    → line ≡ with_links ++ feed → links ≡ told → line ≡ old ++ ((router ++ links) ++ feed)
told_line old router told links with_router with_links line feed first second last same =
    last
    ∙ ap (λ (l : List ℕ). l ++ feed)
    (second ∙ ap (λ (l : List ℕ). l ++ told) first ∙ ap (λ (l : List ℕ). (old ++ router) ++ l) (sym same) ∙ append_assoc old router links)
    ∙ append_assoc old (router ++ links) feed
