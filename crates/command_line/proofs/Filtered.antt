-- How the filters of words follow one another.
use Rattle.std.proofs.Common.{◌≡◌, ◌<◌, ℕ, zero, suc, ◌+◌, ◌++◌, Bool, true, false, List, [], ◌∷◌, length}
use Rattle.std.proofs.Common.{get_or, map, Option, Some, None, Bor, refl, sym, ap, subst, add-one, ◌∙◌}
use Rattle.std.specs.Prelude.{MatchOption, slice_get, string_bytes}
use Rattle.std.proofs.lemmas.Option.{slice_get-get_or}
use Rattle.command_line.specs.Filters.{HasWrong, IsFilterWord, NameFirst, has_name, name_in, names_filter}
use Rattle.command_line.specs.declared.filter_words.NamedFile.{NamedFile}
use Rattle.command_line.specs.declared.filter_words.WrongFilter.TheVariants.{Word, Twice}

-- an element of a list of images
get_image : {X : Type 0} {Y : Type 0} (f : X → Y) (xs : List X) (i : ℕ) (x : X) → slice_get xs i ≡ Some x
    → slice_get (map f xs) i ≡ Some (f x)
get_image f [] i x h = cc
get_image f (y ∷ ys) zero x h = let same : y ≡ x = cc in ap (λ z. Some (f z)) same
get_image f (y ∷ ys) (suc i) x h = get_image f ys i x h

pub none_named : (words : List (List ℕ)) → NameFirst words 0 []
unfolding NameFirst
none_named words = refl

next_filter : (words : List (List ℕ)) (n : ℕ) (word : List ℕ) (earlier later : List NamedFile) (named : NamedFile)
    → slice_get words n ≡ Some word → NameFirst words n earlier → IsFilterWord word named → has_name earlier (name_in word) ≡ false
    → later ≡ earlier ++ named ∷ [] → NameFirst words (n + 1) later
unfolding NameFirst
next_filter words n word earlier later named is first names apart grown =
    rw add-one (word, earlier, named, is, first, names, apart, grown)

abbrev BorrowedWords : Type 0
BorrowedWords = List (Bor (List ℕ))

abbrev texts : BorrowedWords → List (List ℕ)
texts words = map (λ word. word.now) words

-- what is known of a word that names a filter
abbrev Reads : List ℕ → Option NamedFile → Type 0
Reads word found = MatchOption found (names_filter word ≡ false) (IsFilterWord word)

module _ (words : BorrowedWords) (n : ℕ) (d : Bor (List ℕ)) (earlier : List NamedFile) (within : n < length words)
    (first : NameFirst (texts words) n earlier) where
  abbrev word : Bor (List ℕ)
  word = get_or words n d

  is_word : slice_get (texts words) n ≡ Some word.now
  is_word = get_image (λ w. w.now) words n word (slice_get-get_or words n d within)

  pub names_none : (found : Option NamedFile) → Reads (get_or words n d).now found → found ≡ None
      → HasWrong (texts words) (Word (get_or words n d))
  names_none found reads none = record {
    n = n;
    word = word.now;
    is_word = is_word;
    earlier = earlier;
    first = first;
    is_wrong = (refl, subst (Reads word.now) none reads);
  }

  module _ (found : Option NamedFile) (named : NamedFile) (reads : Reads (get_or words n d).now found) (some : found ≡ Some named)
      (before : List NamedFile) (name : List ℕ) (is_before : before ≡ earlier) (is_name : name ≡ string_bytes named.name) where
    names : IsFilterWord word.now named
    names = subst (Reads word.now) some reads

    same : has_name before name ≡ has_name earlier (name_in word.now)
    same = ap (λ (l : List NamedFile). has_name l name) is_before ∙ ap (has_name earlier) (is_name ∙ names.name)

    pub names_twice : (r : Bool) → r ≡ has_name before name → r ≡ true → HasWrong (texts words) (Twice (get_or words n d))
    names_twice r is holds = record {
      n = n;
      word = word.now;
      is_word = is_word;
      earlier = earlier;
      first = first;
      is_wrong = (refl, names.names, sym same ∙ sym is ∙ holds);
    }

    pub names_more : (r : Bool) (later : List NamedFile) → r ≡ has_name before name → r ≡ false → later ≡ earlier ++ named ∷ []
        → NameFirst (texts words) (n + 1) later
    names_more r later is fails grown =
        next_filter (texts words) n word.now earlier later named is_word first names (sym same ∙ sym is ∙ fails) grown
