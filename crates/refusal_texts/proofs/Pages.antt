-- What the pages of some codes say.
use Rattle.std.proofs.Common.{◌≡◌, ◌∙◌, ◌&&◌, ◌||◌, ◌++◌, Bool, true, false, cond, List, [], ◌∷◌, ℕ, Option, Some, None, Bor}
use Rattle.std.proofs.Common.{◌<◌, ◌≤◌, ap, drop, drop-cons, drop_of_length-le, get_or, length, map, refl, subst, sym}
use Rattle.std.specs.Prelude.{find}
use Rattle.std.specs.List.{list_all}
use Rattle.std.specs.Str.{bytes_eq}
use Rattle.std.proofs.lemmas.Slice.Eq.{bytes_eq-Decides}
use Rattle.refusal_texts.specs.Codes.{ArePages, IsSaidOf, begins_with, head_of, is_among}
use Rattle.refusal_texts.specs.declared.page.Page.{Page}

abbrev code_in : Page → List ℕ
code_in page = page.code.now

abbrev is_headed : Page → Bool
is_headed page = begins_with (head_of page.code.now) page.text.now

both : (a b : Bool) → (a && b) ≡ true → (a ≡ true) × (b ≡ true)
both true b h = (refl, h)
both false b h = absurd (cc)

pub found_page : (pages : List Page) (word : List ℕ) (page : Page) → list_all is_headed pages ≡ true
    → find (λ page. bytes_eq page.code.now word) pages ≡ Some page
    → (is_among (map code_in pages) word ≡ true) × (begins_with (head_of word) page.text.now ≡ true)
found_page [] word page headed is = absurd (cc)
found_page (first ∷ rest) word page headed is =
    let parts = both (is_headed first) (list_all is_headed rest) headed in
    go (bytes_eq first.code.now word) refl parts.0 (λ later. found_page rest word page parts.1 later) is
  where
    go : (here : Bool) → bytes_eq first.code.now word ≡ here → is_headed first ≡ true
        → (find (λ page. bytes_eq page.code.now word) rest ≡ Some page
        → (is_among (map code_in rest) word ≡ true) × (begins_with (head_of word) page.text.now ≡ true))
        → cond here (Some first) (find (λ page. bytes_eq page.code.now word) rest) ≡ Some page
        → (is_among (map code_in (first ∷ rest)) word ≡ true) × (begins_with (head_of word) page.text.now ≡ true)
    go true here heads more same =
        let is_first : first ≡ page = cc in
        let is_word : first.code.now ≡ word = (bytes_eq-Decides first.code.now word).0 here in (
          rw here refl,
          subst (λ (p : Page). begins_with (head_of word) p.text.now ≡ true) is_first
              (subst (λ (w : List ℕ). begins_with (head_of w) first.text.now ≡ true) is_word heads),
        )
    go false here heads more later =
        let said = more later in
        (rw here said.0, said.1)

pub no_page : (pages : List Page) (word : List ℕ) → find (λ page. bytes_eq page.code.now word) pages ≡ None → is_among (map code_in pages) word ≡ false
no_page [] word none = refl
no_page (first ∷ rest) word none = go (bytes_eq first.code.now word) refl (λ later. no_page rest word later) none
  where
    go : (here : Bool) → bytes_eq first.code.now word ≡ here
        → (find (λ page. bytes_eq page.code.now word) rest ≡ None → is_among (map code_in rest) word ≡ false) → cond here (Some first) (find (λ page. bytes_eq page.code.now word) rest) ≡ None → is_among (map code_in (first ∷ rest)) word ≡ false
    go true here more same = absurd (cc)
    go false here more later = rw here (more later)

any_first : (some others : List (List ℕ)) (word : List ℕ) → is_among some word ≡ true → is_among (some ++ others) word ≡ true
any_first [] others word h = absurd (cc)
any_first (x ∷ xs) others word h = go (bytes_eq x word) refl (any_first xs others word) h
  where
    go : (b : Bool) → bytes_eq x word ≡ b → (is_among xs word ≡ true → is_among (xs ++ others) word ≡ true) → (b || is_among xs word) ≡ true
        → is_among ((x ∷ xs) ++ others) word ≡ true
    go true e more h = rw e refl
    go false e more h = rw e (more h)

skip : (some others : List (List ℕ)) (word : List ℕ) → is_among some word ≡ false → is_among (some ++ others) word ≡ is_among others word
skip [] others word h = refl
skip (x ∷ xs) others word h = go (bytes_eq x word) refl (skip xs others word) h
  where
    go : (b : Bool) → bytes_eq x word ≡ b → (is_among xs word ≡ false → is_among (xs ++ others) word ≡ is_among others word)
        → (b || is_among xs word) ≡ false → is_among ((x ∷ xs) ++ others) word ≡ is_among others word
    go true e more h = absurd (cc)
    go false e more h = rw e (more h)

-- codes and then others
pub said_first : (some others : List (List ℕ)) (word : List ℕ) (text : Bor (List ℕ)) → IsSaidOf some word (Some text) → IsSaidOf (some ++ others) word (Some text)
said_first some others word text said = (any_first some others word said.0, said.1)

pub said_then : (some others : List (List ℕ)) (word : List ℕ) (said : Option (Bor (List ℕ))) → is_among some word ≡ false → IsSaidOf others word said
    → IsSaidOf (some ++ others) word said
said_then some others word None none is = skip some others word none ∙ is
said_then some others word (Some text) none is = (skip some others word none ∙ is.0, is.1)

abbrev of_code : List Page → List ℕ → Option Page
of_code pages word = find (λ page. bytes_eq page.code.now word) pages

-- the first page of a code, where a loop comes to it or to the end
module _ (known : List (List ℕ)) (pages : List Page) (word : List ℕ) (i : ℕ) (are : ArePages known pages) (so_far : of_code (drop i pages) word ≡ of_code pages word) where
  pub said_here : (d : Page) → i < length pages → bytes_eq (get_or pages i d).code.now word ≡ true → IsSaidOf known word (Some (get_or pages i d).text)
  said_here d within is =
      let here : of_code pages word ≡ Some (get_or pages i d) =
      sym so_far ∙ ap (λ rest. of_code rest word) (drop-cons pages i d within) ∙ rw is refl in
      subst (λ (k : List (List ℕ)). IsSaidOf k word (Some (get_or pages i d).text)) are.coded (found_page pages word (get_or pages i d) are.headed here)

  pub nothing_said : length pages ≤ i → IsSaidOf known word None
  nothing_said past =
      let nowhere : of_code pages word ≡ None = sym so_far ∙ ap (λ rest. of_code rest word) (drop_of_length-le pages past) in
      subst (λ (k : List (List ℕ)). is_among k word ≡ false) are.coded (no_page pages word nowhere)
