-- How what stands under a line grows, character by character.
use Rattle.std.proofs.Common.{◌≡◌, ℕ, ◌+◌, ◌<◌, List, ◌++◌, length, take, get_or, sym, ap, ◌∙◌}
use Rattle.std.proofs.lemmas.List.{flat_map_more, take_more}
use Rattle.std.specs.Prelude.{flat_map}
use Rattle.refusal_words.specs.Shown.{indent_of}

pub indent_grows : (cs : List ℕ) (i d : ℕ) (start now text : List ℕ) → i < length cs → now ≡ start ++ flat_map indent_of (take i cs)
    → text ≡ now ++ indent_of (get_or cs i d) → text ≡ start ++ flat_map indent_of (take (i + 1) cs)
indent_grows cs i d start now text inside so_far more =
    more ∙ (ap (λ (t : List ℕ). t ++ indent_of (get_or cs i d)) so_far
    ∙ (flat_map_more indent_of start (take i cs) (get_or cs i d)
    ∙ ap (λ (ks : List ℕ). start ++ flat_map indent_of ks) (sym (take_more cs i d inside))))
