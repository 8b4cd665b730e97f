-- The variables that a filter declares are names among the words that it was written for.
use Rattle.std.proofs.Common.{◌≡◌, ◌∙◌, ◌<◌, ◌⊎◌, ◌++◌, ℕ, zero, suc, List, [], ◌∷◌, Some, length, map}
use Rattle.std.proofs.Common.{get_or, option_map, slice_get, ap, refl, subst, sym, inl, inr, arith}
use Rattle.std.proofs.lemmas.Option.{slice_get-map, slice_get_read, slice_get_within}
use Rattle.filter_syntax.specs.SyntaxCommands.{CommandsView, DeclView, spelling_decls, view_decl}
use Rattle.filter_syntax.specs.SyntaxText.{FilterView, IsText, spelling_filter}
use Rattle.filter_syntax.specs.declared.tree.decl.Decl.{Decl}
use Rattle.filter_tokens.specs.Lexemes.{Lexeme, lexeme, lexeme_of, lexemes}
use Rattle.filter_tokens.specs.declared.token.Token.{Token}
use Rattle.filter_tokens.specs.declared.token_kind.TokenKind.{TokenKind}
use Rattle.filter_tokens.specs.declared.token_kind.TokenKind.TheVariants as token
use Rattle.bird_import.specs.Alike.{AreAlike}
use Rattle.bird_import.specs.Indices.{IsNamedAt, bytes_of_word, kind_of_word}
use Rattle.bird_import.specs.Spelling.{IsSpelled, kind_of}
use Rattle.bird_import.specs.declared.word.Word.{Word}

-- a list has an element
abbrev pub Has : {A : Type 0} → List A → A → Type 0
Has xs x = (k : ℕ) × (slice_get xs k ≡ Some x)

-- it is that of the front, or that behind it
in_front : {A : Type 0} (xs ys : List A) (x : A) (k : ℕ) → slice_get xs k ≡ Some x → slice_get (xs ++ ys) k ≡ Some x
in_front [] ys x k is = cc
in_front (y ∷ xs) ys x zero is = is
in_front (y ∷ xs) ys x (suc k) is = in_front xs ys x k is

behind : {A : Type 0} (xs ys : List A) (x : A) → Has ys x → Has (xs ++ ys) x
behind [] ys x has = has
behind (y ∷ xs) ys x has =
    let further = behind xs ys x has in
    (suc further.0, further.1)

either : {A : Type 0} (xs ys : List A) (x : A) (k : ℕ) → slice_get (xs ++ ys) k ≡ Some x → Has xs x ⊎ Has ys x
either [] ys x k is = inr (k, is)
either (y ∷ xs) ys x zero is = inl (zero, is)
either (y ∷ xs) ys x (suc k) is =
    elim (either xs ys x k is) [
      | inl has ↦ inl (suc has.0, has.1)
      | inr has ↦ inr has
    ]

-- there is an element below the length
pub there : {A : Type 0} (xs : List A) (k : ℕ) → k < length xs → (x : A) × (slice_get xs k ≡ Some x)
there [] k below = absurd (omega (arith, below))
there (x ∷ xs) zero below = (x, refl)
there (x ∷ xs) (suc k) below = there xs k (omega (arith, below))

-- declarations spell the name of each
spelled_name : (decls : List DeclView) (d : DeclView) (n : ℕ) → slice_get decls n ≡ Some d → Has (spelling_decls decls) (Lexeme.name d.name)
spelled_name [] d n is = cc
spelled_name (e ∷ decls) d zero is =
    let same : e ≡ d = cc in
    (suc zero, ap (λ (x : DeclView). Some (Lexeme.name x.name)) same)
spelled_name (e ∷ decls) d (suc n) is =
    let further = spelled_name decls d n is in
    (suc (suc (suc further.0)), further.1)

-- so does a filter
in_filter : (name : List ℕ) (head inner : List DeclView) (body : CommandsView) (d : DeclView) (n : ℕ) → slice_get (head ++ inner) n ≡ Some d
    → Has (spelling_filter name head inner body) (Lexeme.name d.name)
in_filter name head inner body d n is =
    elim (either head inner d n is) [
      | inl has ↦
          let at = spelled_name head d has.0 has.1 in
          (suc (suc at.0), in_front (spelling_decls head) _ (Lexeme.name d.name) at.0 at.1)
      | inr has ↦
          let at = spelled_name inner d has.0 has.1 in
          let further = behind (spelling_decls head) _ (Lexeme.name d.name)
          (suc at.0, in_front (spelling_decls inner) _ (Lexeme.name d.name) at.0 at.1) in
          (suc (suc further.0), further.1)
    ]

-- a lexeme is that of a token
token_of : (text : List ℕ) (tokens : List Token) (l : Lexeme) (k : ℕ) → slice_get (lexemes text tokens) k ≡ Some l
    → (t : Token) × (slice_get tokens k ≡ Some t) × (lexeme text t ≡ l)
token_of text [] l k is = cc
token_of text (t ∷ tokens) l zero is = (t, refl, cc)
token_of text (t ∷ tokens) l (suc k) is = token_of text tokens l k is

-- only a name is the lexeme of a name
name_of : (bytes name : List ℕ) (kind : TokenKind) → lexeme_of bytes kind ≡ Lexeme.name name → (kind ≡ token.Name) × (bytes ≡ name)
name_of bytes name token.Name is = (refl, cc)
name_of bytes name (token.Number n) is = cc
name_of bytes name (token.Address a) is = cc
name_of bytes name (token.Prefix has_host_bits bits) is = cc
name_of bytes name token.Text is = cc
name_of bytes name (token.Symbol m) is = cc

-- a token that is a name is a word that is this name
word_of : (text : List ℕ) (tokens : List Token) (words : List Word) (name : List ℕ) (k : ℕ) (t : Token) → AreAlike (IsSpelled text) tokens words
    → slice_get tokens k ≡ Some t → lexeme text t ≡ Lexeme.name name → IsNamedAt name words k
word_of text tokens words name k t alike is spelled =
    let below = slice_get_within tokens k t is in
    let same = alike.0 in
    let at = there words k (omega (arith, below, same)) in
    let word = alike.1 k t at.0 is at.1 in
    let named = name_of _ name t.word spelled in
    (ap kind_of_word at.1 ∙ word.alike ∙ ap kind_of named.0, ap bytes_of_word at.1 ∙ word.bytes ∙ named.1)

-- a filter that was written for words has its variables among them
pub has_variable : (text : List ℕ) (words : List Word) (filter : FilterView) → IsText text filter → AreAlike (IsSpelled text) filter.tokens words
    → (d : DeclView) (n : ℕ) → slice_get filter.decls n ≡ Some d → (k : ℕ) × IsNamedAt d.name words k
has_variable text words filter spells alike d n is =
    let declared = subst (λ (decls : List DeclView). slice_get decls n ≡ Some d) spells.declared is in
    let has = in_filter filter.name spells.head spells.inner filter.body d n declared in
    let spelled = subst (λ (all : List Lexeme). slice_get all has.0 ≡ Some (Lexeme.name d.name)) (sym spells.spelled) has.1 in
    let at = token_of text filter.tokens (Lexeme.name d.name) has.0 spelled in
    (has.0, word_of text filter.tokens words d.name has.0 at.0 alike at.1 at.2)

-- the declaration at an index, without its place
pub decl_at : (decls : List Decl) (views : List DeclView) (n : ℕ) (d : Decl) → map view_decl decls ≡ views → n < length decls
    → d ≡ get_or decls n d → slice_get views n ≡ Some (view_decl d)
decl_at decls views n d same below is =
    let here = slice_get_read decls (length decls) n d refl below is in
    subst (λ (all : List DeclView). slice_get all n ≡ Some (view_decl d)) same (slice_get-map view_decl decls n ∙ ap (λ x. option_map view_decl x) here)
