-- The definitions of a configuration are what `define` begins outside of each block, each once and in order.
use Rattle.std.proofs.Common.{◌≡◌, ◌↔◌, ℕ, zero, suc, ◌+◌, ◌<◌, ◌≤◌, ◌&&◌, ◌==◌, Bool, true, false, if◌then◌else◌}
use Rattle.std.proofs.Common.{List, [], ◌∷◌, ◌++◌, length, get_or, All, AllPairs, Contains, Decides, Option, Some}
use Rattle.std.proofs.Common.{None, codes, inl, inr, refl, sym, ◌∙◌, ap, subst, append-nil, arith}
use Rattle.std.specs.Option.{option_map, option_to_list}
use Rattle.std.specs.Str.{bytes_eq}
use Rattle.std.proofs.lemmas.Bool.{and_from, and_parts, cases_lt, cond-true, eq-eqb, eqb-true}
use Rattle.std.proofs.lemmas.List.Elements.{All-get_or, All-nil, All-push, All-weaker, Contains-append_cases}
use Rattle.std.proofs.lemmas.List.Elements.{Contains-append_left, Contains-append_right}
use Rattle.std.proofs.lemmas.List.Quantifiers.{all_pairs_push}
use Rattle.std.proofs.lemmas.Slice.Eq.{bytes_eq-Decides}
use Rattle.filter_tokens.specs.declared.symbol.Symbol.TheVariants as symbol
use Rattle.bird_import.specs.Including.{is_foreign}
use Rattle.bird_import.specs.Indices.{bytes_at, kind_at}
use Rattle.bird_import.specs.Items.{IsDefinitionAt, IsDefinitionIn, blocks_before, definition_at}
use Rattle.bird_import.specs.Items.{definition_behind, definition_to, definitions_before, definitions_in}
use Rattle.bird_import.specs.Items.{is_foreign_at, is_name, is_symbol, outside_from}
use Rattle.bird_import.specs.declared.items.Definition.{Definition}
use Rattle.bird_import.specs.declared.word.Word.{Word}
use Rattle.bird_import.specs.declared.word.WordKind.{WordKind}
use Rattle.bird_import.specs.declared.word.WordKind.TheVariants as kind
use Rattle.bird_import.proofs.Balanced.{found_from}
use Rattle.bird_import.proofs.Below.{below_or_at}
use Rattle.bird_import.proofs.Outside.{kind_past, symbol_decides}

-- what the tests mean
pub name_decides : (word : WordKind) → Decides (is_name word) (word ≡ kind.Name)
unfolding is_name
name_decides kind.Name = (λ _. refl, λ _. refl)
name_decides other = (λ yes. absurd (cc), λ same. absurd (cc))

pub foreign_decides : (word : WordKind) → Decides (is_foreign word) (word ≡ kind.Foreign)
foreign_decides kind.Foreign = (λ _. refl, λ _. refl)
foreign_decides other = (λ yes. absurd (cc), λ same. absurd (cc))

-- what is there on a test
pub some_if : {A : Type 0} (b : Bool) (o : Option A) (x : A) → (if b then o else None) ≡ Some x → (b ≡ true) × (o ≡ Some x)
some_if true o x is = (refl, is)
some_if false o x is = absurd (cc)

pub some_map : {A B : Type 0} (f : A → B) (o : Option A) (y : B) → option_map f o ≡ Some y → (x : A) × (o ≡ Some x) × (f x ≡ y)
some_map f None y is = absurd (cc)
some_map f (Some x) y is = (x, refl, cc)

-- what is found at an index is a definition there
is_definition : (words : List Word) (at : ℕ) (definition : Definition) → definition_at words (blocks_before words at) at ≡ Some definition
    → IsDefinitionAt words at definition
unfolding definition_at definition_behind is_foreign_at
is_definition words at definition is =
    let begins = some_if (blocks_before words at == 0 && is_foreign_at words at (codes "define")) (definition_behind words at) definition is in
    let tests = and_parts (blocks_before words at == 0) (is_foreign_at words at (codes "define")) begins.0 in
    let word = and_parts (is_foreign (kind_at words at)) (bytes_eq (bytes_at words at) (codes "define")) tests.1 in
    let behind = some_if (is_name (kind_at words (at + 1)) && is_symbol symbol.Equal (kind_at words (at + 2)))
    (option_map (definition_to words at) (outside_from words (is_symbol symbol.Semicolon) (at + 3))) definition begins.1 in
    let signs = and_parts (is_name (kind_at words (at + 1))) (is_symbol symbol.Equal (kind_at words (at + 2))) behind.0 in
    let value = some_map (definition_to words at) (outside_from words (is_symbol symbol.Semicolon) (at + 3)) definition behind.1 in
    let ends : outside_from words (is_symbol symbol.Semicolon) (at + 3) ≡ Some definition.to =
    value.1 ∙ ap (λ (d : Definition). Some d.to) value.2 in
    let found = found_from words (is_symbol symbol.Semicolon) (at + 3) definition.to ends in
    record {
      begins = ((foreign_decides (kind_at words at)).0 word.0, (bytes_eq-Decides (bytes_at words at) (codes "define")).0 word.1);
      outermost = eqb-true (blocks_before words at) 0 tests.0;
      named = (name_decides (kind_at words (at + 1))).0 signs.0;
      equals = (symbol_decides symbol.Equal (kind_at words (at + 2))).0 signs.1;
      ends = ends;
      stops = (symbol_decides symbol.Semicolon (kind_at words definition.to)).0 found.there;
      balanced = found.balanced;
      name = sym (ap (λ (d : Definition). d.name) value.2);
      value = sym (ap (λ (d : Definition). d.from) value.2);
    }

-- a definition is found where it begins
same_definition : (name from to : ℕ) (definition : Definition) → definition.name ≡ name → definition.from ≡ from → definition.to ≡ to
    → ◌≡◌ {A = Definition} (record { name = name; from = from; to = to }) definition
same_definition name from to definition same_name same_from same_to =
    sym (ap (λ (n : ℕ). let d : Definition = record { name = n; from = definition.from; to = definition.to } in d) same_name
    ∙ ap (λ (n : ℕ). let d : Definition = record { name = name; from = n; to = definition.to } in d) same_from
    ∙ ap (λ (n : ℕ). let d : Definition = record { name = name; from = from; to = n } in d) same_to)

definition_is : (words : List Word) (at : ℕ) (definition : Definition) → IsDefinitionAt words at definition
    → definition_at words (blocks_before words at) at ≡ Some definition
unfolding definition_at definition_behind is_foreign_at
definition_is words at definition is =
    let define : is_foreign_at words at (codes "define") ≡ true = and_from (is_foreign (kind_at words at)) (bytes_eq (bytes_at words at) (codes "define"))
    ((foreign_decides (kind_at words at)).1 is.begins.0) ((bytes_eq-Decides (bytes_at words at) (codes "define")).1 is.begins.1) in
    let begins = and_from (blocks_before words at == 0) (is_foreign_at words at (codes "define")) (eq-eqb (blocks_before words at) 0 is.outermost) define in
    let signs = and_from (is_name (kind_at words (at + 1))) (is_symbol symbol.Equal (kind_at words (at + 2)))
    ((name_decides (kind_at words (at + 1))).1 is.named) ((symbol_decides symbol.Equal (kind_at words (at + 2))).1 is.equals) in
    let value = option_map (definition_to words at) (outside_from words (is_symbol symbol.Semicolon) (at + 3)) in
    cond-true (blocks_before words at == 0 && is_foreign_at words at (codes "define")) (definition_behind words at) None begins
    ∙ cond-true (is_name (kind_at words (at + 1)) && is_symbol symbol.Equal (kind_at words (at + 2))) value None signs
    ∙ ap (option_map (definition_to words at)) is.ends
    ∙ ap Some (same_definition (at + 1) (at + 3) definition.to definition is.name is.value refl)

-- what a list has of one option
has_some : {A : Type 0} (o : Option A) (x : A) → Contains (option_to_list o) x → o ≡ Some x
has_some None x has = absurd (omega (arith, has.1))
has_some (Some y) x has = ap Some (only x y has.0 has.1 has.2)
  where
    only : {A : Type 0} (x y : A) (k : ℕ) → k < 1 → get_or (y ∷ []) k x ≡ x → y ≡ x
    only x y zero below is = is
    only x y (suc k) below is = absurd (omega arith)

some_has : {A : Type 0} (o : Option A) (x : A) → o ≡ Some x → Contains (option_to_list o) x
some_has None x is = absurd (cc)
some_has (Some y) x is = (0, omega arith, cc)

-- those that begin before an index
has_definition : (words : List Word) (n : ℕ) (definition : Definition) → Contains (definitions_before words n) definition → IsDefinitionIn words definition
unfolding definitions_before
has_definition words zero definition has = absurd (omega (arith, has.1))
has_definition words (suc n) definition has =
    elim (Contains-append_cases (definitions_before words n) (option_to_list (definition_at words (blocks_before words n) n)) definition has) [
      | inl before ↦ has_definition words n definition before
      | inr here ↦ (n, is_definition words n definition (has_some (definition_at words (blocks_before words n) n) definition here))
    ]

definition_has : (words : List Word) (n at : ℕ) (definition : Definition) → at < n → IsDefinitionAt words at definition
    → Contains (definitions_before words n) definition
unfolding definitions_before
definition_has words zero at definition below is = absurd (omega arith)
definition_has words (suc n) at definition below is =
    elim (below_or_at at n (omega arith)) [
      | inl before ↦ Contains-append_left (definitions_before words n) (option_to_list (definition_at words (blocks_before words n) n)) definition
          (definition_has words n at definition before is)
      | inr here ↦ Contains-append_right (definitions_before words n) (option_to_list (definition_at words (blocks_before words n) n)) definition
          (some_has (definition_at words (blocks_before words n) n) definition
          (subst (λ k. definition_at words (blocks_before words k) k ≡ Some definition) here (definition_is words at definition is)))
    ]

-- exactly the definitions are listed
within_words : (words : List Word) (at : ℕ) → kind_at words at ≡ kind.Foreign → at < length words
within_words words at is = elim (cases_lt at (length words)) [
  | inl below ↦ below
  | inr past ↦ let none : kind_at words at ≡ kind.Strange = kind_past words at past in absurd (cc)
]

pub are_listed : (words : List Word) (definition : Definition) → Contains (definitions_in words) definition ↔ IsDefinitionIn words definition
are_listed words definition = (
  has_definition words (length words) definition,
  λ found. definition_has words (length words) found.0 definition (within_words words found.0 found.1.begins.0) found.1,
)

-- in order
abbrev IsBelow : ℕ → Definition → Type 0
IsBelow n definition = definition.name ≤ n

abbrev Rises : Definition → Definition → Type 0
Rises one other = one.name < other.name

all_below : (n : ℕ) (list : List Definition) (here : Option Definition) → All (IsBelow n) list
    → ((definition : Definition) → here ≡ Some definition → definition.name ≡ n + 1) → All (IsBelow (suc n)) (list ++ option_to_list here)
all_below n list None below named =
    subst (All (IsBelow (suc n))) (sym (append-nil list)) (All-weaker (IsBelow n) (IsBelow (suc n)) (λ definition under. omega arith) list below)
all_below n list (Some definition) below named =
    let name : definition.name ≡ n + 1 = named definition refl in
    All-push (IsBelow (suc n)) list definition (All-weaker (IsBelow n) (IsBelow (suc n)) (λ definition under. omega arith) list below) (omega arith)

all_rise : (n : ℕ) (list : List Definition) (here : Option Definition) → All (IsBelow n) list → AllPairs Rises list
    → ((definition : Definition) → here ≡ Some definition → definition.name ≡ n + 1) → AllPairs Rises (list ++ option_to_list here)
all_rise n list None below rise named = subst (AllPairs Rises) (sym (append-nil list)) rise
all_rise n list (Some definition) below rise named =
    let name : definition.name ≡ n + 1 = named definition refl in
    all_pairs_push Rises list definition rise (λ k d under. let lower : (get_or list k d).name ≤ n = All-get_or (IsBelow n) list k d under below in omega arith)

named_behind : (words : List Word) (n : ℕ) (definition : Definition) → definition_at words (blocks_before words n) n ≡ Some definition
    → definition.name ≡ n + 1
named_behind words n definition is = (is_definition words n definition is).name

names_below : (words : List Word) (n : ℕ) → All (IsBelow n) (definitions_before words n)
unfolding definitions_before
names_below words zero = All-nil (IsBelow 0)
names_below words (suc n) =
    all_below n (definitions_before words n) (definition_at words (blocks_before words n) n) (names_below words n) (named_behind words n)

names_rise : (words : List Word) (n : ℕ) → AllPairs Rises (definitions_before words n)
unfolding definitions_before
names_rise words zero = λ i j d earlier below. absurd (omega arith)
names_rise words (suc n) =
    all_rise n (definitions_before words n) (definition_at words (blocks_before words n) n) (names_below words n) (names_rise words n)
    (named_behind words n)

pub are_in_order : (words : List Word) → AllPairs (λ one other. one.name < other.name) (definitions_in words)
are_in_order words = names_rise words (length words)
