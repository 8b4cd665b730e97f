-- The definitions of a configuration, up to an index.
use Rattle.std.proofs.Common.{◌≡◌, ℕ, ◌+◌, ◌++◌, List, Option, add-one, refl, sym, ◌∙◌, ap}
use Rattle.std.specs.Option.{option_to_list}
use Rattle.bird_import.specs.Indices.{kind_at}
use Rattle.bird_import.specs.Items.{blocks_before, blocks_behind, definition_at, definitions_before}
use Rattle.bird_import.specs.declared.items.Definition.{Definition}
use Rattle.bird_import.specs.declared.word.Word.{Word}

-- one word further
pub blocks_further : (words : List Word) (k : ℕ) → blocks_before words (k + 1) ≡ blocks_behind (blocks_before words k) (kind_at words k)
unfolding blocks_before
blocks_further words k = rw add-one refl

pub definitions_further : (words : List Word) (k : ℕ) → definitions_before words (k + 1)
    ≡ definitions_before words k ++ option_to_list (definition_at words (blocks_before words k) k)
unfolding definitions_before
definitions_further words k = rw add-one refl

-- with the one that begins there, if one does
pub one_defined : (words : List Word) (k depth : ℕ) (found : List Definition) (here : Option Definition) → here ≡ definition_at words depth k
    → depth ≡ blocks_before words k → found ≡ definitions_before words k → found ++ option_to_list here ≡ definitions_before words (k + 1)
one_defined words k depth found here is depth_is so_far =
    ap (λ definitions. definitions ++ option_to_list here) so_far
    ∙ ap (λ o. definitions_before words k ++ option_to_list o) (is ∙ ap (λ d. definition_at words d k) depth_is)
    ∙ sym (definitions_further words k)
