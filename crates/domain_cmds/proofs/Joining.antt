-- A node joins those of which distances come to the same, or is the first.
use Rattle.std.proofs.Common.{◌≡◌, ◌≢◌, inl, inr, ℕ, suc, ◌+◌, ◌<◌, ◌≤◌, true≢false, false, List, [], ◌∷◌, ◌++◌, All, length, get_or, take, drop, map, slice_set}
use Rattle.std.proofs.Common.{sym, ap, subst, ◌∙◌, drop-cons, take-append-drop, take_all}
use Rattle.std.proofs.lemmas.List.{map-append, set_split}
use Rattle.std.proofs.lemmas.List.Elements.{All-map, All-more}
use Rattle.std.specs.Cmp.Lexicographic.{bytes_decides}
use Rattle.std.specs.Str.{bytes_eq}
use Rattle.domain_reports.specs.Views.{EffectView, effect_view}
use Rattle.domain_reports.specs.declared.filter.Effect.{Effect}
use Rattle.domain_cmds.specs.Said.{AddsNode}

abbrev grouped : List ℕ → List ℕ → EffectView
grouped distances nodes = record { distances = distances; nodes = nodes }

split : (effects : List Effect) (k : ℕ) (one : Effect) → k < length effects → one ≡ get_or effects k one
    → map effect_view effects ≡ map effect_view (take k effects) ++ effect_view one ∷ map effect_view (drop (suc k) effects)
split effects k one short is =
    ap (map effect_view) (sym (take-append-drop k effects)
    ∙ ap (λ (l : List Effect). take k effects ++ l) (drop-cons effects k one short)
    ∙ ap (λ (e : Effect). take k effects ++ e ∷ drop (suc k) effects) (sym is))
    ∙ map-append effect_view (take k effects) (one ∷ drop (suc k) effects)

-- those of one come to these
pub joins : (effects : List Effect) (k : ℕ) (one more : Effect) (distances : List ℕ) (v : ℕ) (new : List Effect) → k < length effects
    → one ≡ get_or effects k one → one.distances.items ≡ distances → All (λ e. e.distances.items ≢ distances) (take k effects)
    → effect_view more ≡ record { distances = one.distances.items; nodes = one.nodes.items ++ v ∷ [] } → new ≡ slice_set effects k more
    → AddsNode distances v (map effect_view effects) (map effect_view new)
joins effects k one more distances v new short is here none now so = inl (
  map effect_view (take k effects),
  map effect_view (drop (suc k) effects),
  one.nodes.items,
  All-map (λ (e : EffectView). e.distances ≢ distances) effect_view (take k effects) none,
  split effects k one short is
      ∙ ap (λ (ds : List ℕ). map effect_view (take k effects) ++ grouped ds one.nodes.items ∷ map effect_view (drop (suc k) effects)) here,
  ap (map effect_view) (so ∙ set_split effects k more short) ∙ map-append effect_view (take k effects) (more ∷ drop (suc k) effects)
      ∙ ap (λ (e : EffectView). map effect_view (take k effects) ++ e ∷ map effect_view (drop (suc k) effects)) now
      ∙ ap (λ (ds : List ℕ). map effect_view (take k effects) ++ grouped ds (one.nodes.items ++ v ∷ []) ∷ map effect_view (drop (suc k) effects)) here,
)

-- those of none so far, and of this one, come to these
pub none_further : (effects : List Effect) (k : ℕ) (one : Effect) (distances : List ℕ) → k < length effects → one ≡ get_or effects k one
    → bytes_eq one.distances.items distances ≡ false → All (λ e. e.distances.items ≢ distances) (take k effects)
    → All (λ e. e.distances.items ≢ distances) (take (k + 1) effects)
none_further effects k one distances short is test none =
    All-more (λ (e : Effect). e.distances.items ≢ distances) effects k one short none
    (λ same. true≢false (sym ((bytes_decides one.distances.items distances).1 (ap (λ (e : Effect). e.distances.items) is ∙ same)) ∙ test))

-- those of none come to these
pub begins : (effects : List Effect) (k : ℕ) (first : Effect) (distances : List ℕ) (v : ℕ) (new : List Effect) → length effects ≤ k
    → All (λ e. e.distances.items ≢ distances) (take k effects) → effect_view first ≡ record { distances = distances; nodes = v ∷ [] }
    → new ≡ effects ++ first ∷ [] → AddsNode distances v (map effect_view effects) (map effect_view new)
begins effects k first distances v new all none is so = inr (
  All-map (λ (e : EffectView). e.distances ≢ distances) effect_view effects
      (subst (All (λ (e : Effect). e.distances.items ≢ distances)) (take_all k effects all) none),
  ap (map effect_view) so ∙ map-append effect_view effects (first ∷ [])
      ∙ ap (λ (e : EffectView). map effect_view effects ++ e ∷ []) is,
)
