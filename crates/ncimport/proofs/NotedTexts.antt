-- What else is said of a filter that was made, where that of the text which was written for it is known.
use Rattle.std.proofs.Common.{◌≡◌, ℕ, ◌+◌, ◌<◌, List, [], ◌∷◌, ◌++◌, length, take, get_or, flat_map, Option, None, IfOk, Result, Ok, Err, subst, sym, ap, ◌∙◌, add-one}
use Rattle.std.proofs.Math.Seq.{take-suc}
use Rattle.std.proofs.lemmas.List.{flat_map_more}
use Rattle.bird_import.specs.declared.text.Origin.{Origin}
use Rattle.ncimport.specs.Importing.{IsNotedText, KeepsNotes, text_in}
use Rattle.ncimport.specs.Places.{ConfigView}
use Rattle.ncimport.specs.declared.importing.FilterResult.{FilterResult}

-- the lines of those so far, and that of the next
pub one_line_more : {A : Type 0} (f : A → List ℕ) (old now new : List ℕ) (xs : List A) (i : ℕ) (x : A) → i < length xs → x ≡ get_or xs i x
    → now ≡ old ++ flat_map f (take i xs) → new ≡ now ++ f x → new ≡ old ++ flat_map f (take (i + 1) xs)
one_line_more {A} f old now new xs i x low is so_far more =
    let taken : take (i + 1) xs ≡ take i xs ++ x ∷ [] =
    ap (λ n. take n xs) (add-one i) ∙ (take-suc xs i x low ∙ ap (λ y. take i xs ++ y ∷ []) (sym is)) in
    more ∙ ap (λ (bytes : List ℕ). bytes ++ f x) so_far ∙ flat_map_more f old (take i xs) x
    ∙ ap (λ (ys : List A). old ++ flat_map f ys) (sym taken)

module _ (config : ConfigView) (name : List ℕ) (size at : ℕ) where
  -- nothing else is said of a filter that is left out
  pub unnoted : {E : Type 0} (text : List ℕ) (origins : List Origin) (r : Result FilterResult E) → IfOk r (λ made. text_in made ≡ None)
      → IfOk r (λ made. made.notes.items ≡ []) → IfOk r (IsNotedText config name size at text origins)
  unnoted text origins (Ok made) none notes =
      subst (λ (o : Option (List ℕ)). KeepsNotes config name size at text origins made o) (sym none) notes
  unnoted text origins (Err e) none notes = tt

  -- it is so of the text, and of the places of its words, that are the same
  pub noted_same : {E : Type 0} {text other : List ℕ} {origins others : List Origin} (r : Result FilterResult E) → text ≡ other → origins ≡ others
      → IfOk r (IsNotedText config name size at text origins) → IfOk r (IsNotedText config name size at other others)
  noted_same {E} {text} {other} {origins} {others} r same alike is =
      subst (λ (o : List Origin). IfOk r (IsNotedText config name size at other o)) alike
      (subst (λ (t : List ℕ). IfOk r (IsNotedText config name size at t origins)) same is)
