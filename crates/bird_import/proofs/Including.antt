-- The files that words include, from an index on.
use Rattle.std.proofs.Common.{◌≡◌, ℕ, zero, suc, ◌+◌, ◌<◌, ◌≤◌, List, [], ◌∷◌, ◌++◌, length}
use Rattle.std.proofs.Common.{drop, map, Some, None, refl, sym, ◌∙◌, ap, arith, append-nil}
use Rattle.std.proofs.lemmas.List.{append_assoc, map-append, drop_all}
use Rattle.bird_import.specs.Including.{view_of, include_ahead, includes_in, with_view}
use Rattle.bird_import.specs.declared.includes.Include.{Include}
use Rattle.bird_import.specs.declared.word.Word.{Word}

-- fewer than two words include nothing
pub too_few : (words : List Word) → length words < 2 → include_ahead words ≡ None
too_few [] few = refl
too_few (word ∷ []) few = refl
too_few (word ∷ text ∷ words) few = absurd (omega arith)

-- what words include from an index on
pub one_further : (words : List Word) (at : ℕ) → at < length words
    → includes_in (drop at words) ≡ with_view (include_ahead (drop at words)) (includes_in (drop (at + 1) words))
one_further [] at below = absurd (omega arith)
one_further (word ∷ words) zero below = refl
one_further (word ∷ words) (suc at) below =
    let next : suc at + 1 ≡ suc (at + 1) = omega arith in
    one_further words at (omega arith)
    ∙ ap (λ n. with_view (include_ahead (drop at words)) (includes_in (drop n (word ∷ words)))) (sym next)

-- no file is included at the index
pub none_more : (words : List Word) (at : ℕ) (found new : List Include) → at < length words → new ≡ found
    → None ≡ include_ahead (drop at words)
    → map view_of found ++ includes_in (drop at words) ≡ includes_in words
    → map view_of new ++ includes_in (drop (at + 1) words) ≡ includes_in words
none_more words at found new below same none so_far =
    let later = includes_in (drop (at + 1) words) in
    let step : includes_in (drop at words) ≡ later = one_further words at below ∙ ap (λ o. with_view o later) (sym none) in
    ap (λ includes. map view_of includes ++ later) same ∙ ap (λ views. map view_of found ++ views) (sym step) ∙ so_far

-- one file is
pub some_more : (words : List Word) (at : ℕ) (found new : List Include) (include : Include) → at < length words
    → new ≡ found ++ include ∷ [] → Some (view_of include) ≡ include_ahead (drop at words)
    → map view_of found ++ includes_in (drop at words) ≡ includes_in words
    → map view_of new ++ includes_in (drop (at + 1) words) ≡ includes_in words
some_more words at found new include below pushed some so_far =
    let later = includes_in (drop (at + 1) words) in
    let step : includes_in (drop at words) ≡ view_of include ∷ later =
    one_further words at below ∙ ap (λ o. with_view o later) (sym some) in
    ap (λ includes. map view_of includes ++ later) pushed ∙ ap (λ views. views ++ later) (map-append view_of found (include ∷ []))
    ∙ append_assoc (map view_of found) (view_of include ∷ []) later
    ∙ ap (λ views. map view_of found ++ views) (sym step) ∙ so_far

-- no word is left
pub all_found : (words : List Word) (at : ℕ) (found : List Include) → length words ≤ at
    → map view_of found ++ includes_in (drop at words) ≡ includes_in words → map view_of found ≡ includes_in words
all_found words at found past so_far =
    sym (append-nil (map view_of found)) ∙ ap (λ ws. map view_of found ++ includes_in ws) (sym (drop_all at words past)) ∙ so_far
