-- The name of the last use between two nodes, after one more use.
use Rattle.std.proofs.Common.{◌≡◌, ℕ, ◌+◌, ◌<◌, List, [], ◌∷◌, ◌++◌, Option, Some, None, length, get_or, take, map, refl, sym, ap, ◌∙◌}
use Rattle.std.proofs.lemmas.List.{map-append, take_more}
use Rattle.operator_cmds.specs.declared.event.Direction.{Direction}
use Rattle.domain_files.specs.FileView.{UseView, use_of}
use Rattle.domain_files.specs.Files.{is_between, name_between, name_if, or_later}
use Rattle.domain_files.specs.Nodes.{name_after}
use Rattle.domain_files.specs.declared.file.NamedUse.{NamedUse}

or_none : (a : Option (List ℕ)) → or_later a None ≡ a
or_none None = refl
or_none (Some name) = refl

or_or : (a b c : Option (List ℕ)) → or_later (or_later a b) c ≡ or_later a (or_later b c)
or_or None b c = refl
or_or (Some name) b c = refl

-- a use more
pub one_name_more : (way : Direction) (x y : ℕ) (uses : List UseView) (used : UseView)
    → name_between way x y (uses ++ used ∷ []) ≡ or_later (name_if (is_between way x y used) used.name) (name_between way x y uses)
one_name_more way x y [] used = sym (or_none (name_if (is_between way x y used) used.name))
one_name_more way x y (first ∷ others) used =
    ap (λ (n : Option (List ℕ)). or_later n (name_if (is_between way x y first) first.name)) (one_name_more way x y others used)
    ∙ or_or (name_if (is_between way x y used) used.name) (name_between way x y others) (name_if (is_between way x y first) first.name)

-- of the uses up to a place, and of the one there
pub one_use_more : (way : Direction) (u w : ℕ) (uses : List NamedUse) (i : ℕ) (used : NamedUse) (before after : Option (List ℕ)) → i < length uses
    → used ≡ get_or uses i used → before ≡ name_between way u w (map use_of (take i uses)) → after ≡ name_after way u w before (use_of used)
    → after ≡ name_between way u w (map use_of (take (i + 1) uses))
one_use_more way u w uses i used before after short is first next =
    let more : take (i + 1) uses ≡ take i uses ++ used ∷ [] = take_more uses i used short ∙ ap (λ (z : NamedUse). take i uses ++ z ∷ []) (sym is) in
    next
    ∙ ap (λ (n : Option (List ℕ)). name_after way u w n (use_of used)) first
    ∙ sym (one_name_more way u w (map use_of (take i uses)) (use_of used))
    ∙ sym (ap (name_between way u w) (ap (map use_of) more ∙ map-append use_of (take i uses) (used ∷ [])))
