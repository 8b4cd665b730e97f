-- Names that are noted, definition by definition.
use Rattle.std.proofs.Common.{◌≡◌, ℕ, ◌+◌, ◌<◌, Bool, true, false, List, [], Option, Ordering, Some, if◌then◌else◌, Vec, Global, refl, sym, subst, ap, ◌∙◌, length, arith}
use Rattle.std.specs.Prelude.{◌≢◌, slice_get, unwrap_or}
use Rattle.std.specs.BTreeMap.{BTreeMap, Updates, is_at}
use Rattle.std.specs.Cmp.Lexicographic.{nat_list_eq_equiv, bytes_decides, slice_cmp}
use Rattle.std.specs.Map.{AreApart, IsKeyTest, KeepsOthers, lookup}
use Rattle.std.specs.Ordering.{eq_by_cmp, nat_cmp}
use Rattle.std.specs.Str.{bytes_eq}
use Rattle.std.proofs.lemmas.Map.Text.{is_eq-slice_cmp}
use Rattle.std.proofs.lemmas.Option.{slice_get_within}
use Rattle.bird_import.specs.Indices.{IsNameAt, IsNamedAt}
use Rattle.bird_import.specs.Names.{Knows, found_of}
use Rattle.bird_import.specs.Stuck.{IsDefinedName, IsDefinition, IsFound}
use Rattle.bird_import.specs.declared.config.Config.{Config}
use Rattle.bird_import.specs.declared.defines.NameDefinition.{NameDefinition}
use Rattle.bird_import.specs.declared.defines.NameDefinition.TheVariants as found
use Rattle.bird_import.specs.declared.items.Definition.{Definition}
use Rattle.bird_import.proofs.Below.{one_more, same_some}

abbrev pub Key : Type 0
Key = Vec ℕ Global

abbrev pub Table : Type 0
Table = BTreeMap Key NameDefinition

abbrev pub key_cmp : Key → Key → Ordering
key_cmp x y = slice_cmp nat_cmp x.items y.items

-- whether a key is this name
abbrev is_name : List ℕ → Key → Bool
is_name name = is_at (λ key. slice_cmp nat_cmp name key.items)

-- a query that is not the key's finds what it found
other_entries : {X : Type 0} (test : Key → Bool) (old new : List (Key × X)) → KeepsOthers (eq_by_cmp key_cmp) test old new
    → (other : Key → Bool) → IsKeyTest (eq_by_cmp key_cmp) other → AreApart test other → lookup other new ≡ lookup other old
unfolding KeepsOthers
other_entries test old new h = h

-- a name passes at equal keys
tests_keys : (name : List ℕ) → IsKeyTest (eq_by_cmp key_cmp) (is_name name)
tests_keys name x y h =
    is_eq-slice_cmp name y.items ∙ nat_list_eq_equiv.congr name x.items y.items (sym (is_eq-slice_cmp name x.items) ∙ h)
    ∙ sym (is_eq-slice_cmp x.items y.items)

-- different names pass at different keys
apart : (name other : List ℕ) → bytes_eq name other ≡ false → AreApart (is_name name) (is_name other)
apart name other n key h =
    let y = sym (is_eq-slice_cmp name key.items) ∙ h in
    is_eq-slice_cmp other key.items ∙ nat_list_eq_equiv.symm other key.items
    ∙ sym (nat_list_eq_equiv.congr name key.items other y) ∙ n

-- what is found of each name after one was noted
at_one : (m n : Table) (key : Key) (one : NameDefinition) (other : List ℕ) (b : Bool) → bytes_eq key.items other ≡ b → Updates key_cmp m n key (Some one)
    → found_of n other ≡ (if b then one else found_of m other)
at_one m n key one other true same h =
    subst (λ (name : List ℕ). found_of n name ≡ one) ((bytes_decides key.items other).0 same) (ap (λ (o : Option NameDefinition). unwrap_or o found.Never) h.1)
at_one m n key one other false differ h =
    ap (λ (o : Option NameDefinition). unwrap_or o found.Never)
    (other_entries (is_name key.items) m.entries n.entries h.3 (is_name other) (tests_keys other) (apart key.items other differ))

pub noted : (m n : Table) (key : Key) (one : NameDefinition) (name : List ℕ) → key.items ≡ name → Updates key_cmp m n key (Some one) → (other : List ℕ)
    → found_of n other ≡ (if bytes_eq name other then one else found_of m other)
noted m n key one name same h other =
    subst (λ (text : List ℕ). found_of n other ≡ (if bytes_eq text other then one else found_of m other)) same
    (at_one m n key one other (bytes_eq key.items other) refl h)

-- nothing is found in an empty table, and nothing is defined by no definition
pub knows_none : (config : Config) (m : Table) → m.entries ≡ [] → Knows config 0 m
knows_none config m none name =
    subst (λ (entries : List (Key × NameDefinition)). IsFound config name 0 (unwrap_or (lookup (is_name name) entries) found.Never)) (sym none)
    (λ j other below of. absurd (omega (arith, below)))

module _ (config : Config) (n : ℕ) (definition : Definition) (is : slice_get config.definitions.now n ≡ Some definition) where
  -- the definition that follows is of another name
  not_here : (name : List ℕ) → (IsNamedAt name config.words.now definition.name → ⊥) → (other : Definition) → IsDefinition config name n other → ⊥
  not_here name not other of =
      not (subst (λ (one : Definition). IsNamedAt name config.words.now one.name) (same_some (slice_get config.definitions.now n) other definition of.is is)
      of.names)

  of_another : (name : List ℕ) (what : NameDefinition) → (IsNamedAt name config.words.now definition.name → ⊥) → IsFound config name n what
      → IsFound config name (n + 1) what
  of_another name (found.Once one) not so_far = (
    so_far.0,
    omega (arith, so_far.1),
    so_far.2,
    λ j other below of.
        one_more (λ k. (d : Definition) → IsDefinition config name k d → k ≡ so_far.0) n (λ k within d there. so_far.3 k d within there)
        (λ d there. absurd (not_here name not d there)) j below other of,
  )
  of_another name found.Twice not so_far = so_far
  of_another name found.Never not so_far = λ j other below of.
      one_more (λ k. (d : Definition) → IsDefinition config name k d → ⊥) n (λ k within d there. so_far k d within there)
      (λ d there. not_here name not d there) j below other of

  -- it is of this name
  of_the_name : (name : List ℕ) (before again : NameDefinition) → IsNamedAt name config.words.now definition.name → (before ≡ found.Never → again ≡ found.Once definition)
      → (before ≢ found.Never → again ≡ found.Twice) → IsFound config name n before → IsFound config name (n + 1) again
  of_the_name name found.Never again named first second so_far =
      rw (first refl) (
        n,
        omega arith,
        record { is = is; names = named },
        λ j other below of.
            one_more (λ k. (d : Definition) → IsDefinition config name k d → k ≡ n) n (λ k within d there. absurd (so_far k d within there))
            (λ d there. refl) j below other of,
      )
  of_the_name name (found.Once one) again named first second so_far =
      rw (second (λ e. let no : ⊥ = cc in no)) (so_far.0, n, one, definition, so_far.1, so_far.2, record { is = is; names = named })
  of_the_name name found.Twice again named first second so_far = rw (second (λ e. let no : ⊥ = cc in no)) so_far

  -- what is known with a definition more
  pub knows_more : (m m' : Table) (name : List ℕ) (again : NameDefinition) → IsNamedAt name config.words.now definition.name
      → (found_of m name ≡ found.Never → again ≡ found.Once definition) → (found_of m name ≢ found.Never → again ≡ found.Twice)
      → ((other : List ℕ) → found_of m' other ≡ (if bytes_eq name other then again else found_of m other)) → Knows config n m → Knows config (n + 1) m'
  knows_more m m' name again named first second now so_far other = rw (now other) (split (bytes_eq name other) refl)
    where
      split : (b : Bool) → bytes_eq name other ≡ b → IsFound config other (n + 1) (if b then again else found_of m other)
      split true same =
          subst (λ (list : List ℕ). IsFound config list (n + 1) again) ((bytes_decides name other).0 same)
          (of_the_name name (found_of m name) again named first second (so_far name))
      split false differ =
          of_another other (found_of m other)
          (λ at. let same : name ≡ other = sym named.1 ∙ at.1 in let e = (bytes_decides name other).1 same in let no : ⊥ = cc in no) (so_far other)

  pub knows_on : (m : Table) → (IsNameAt config.words.now definition.name → ⊥) → Knows config n m → Knows config (n + 1) m
  knows_on m not so_far name = of_another name (found_of m name) (λ at. not at.0) (so_far name)

-- a name is defined where a definition of it is found, and only there
pub never_defined : (config : Config) (name : List ℕ) → IsFound config name (length config.definitions.now) found.Never → IsDefinedName config name → ⊥
never_defined config name none defined =
    none defined.0 defined.1 (slice_get_within config.definitions.now defined.0 defined.1 defined.2.is) defined.2

pub once_defined : (config : Config) (name : List ℕ) (one : Definition) → IsFound config name (length config.definitions.now) (found.Once one)
    → IsDefinedName config name
once_defined config name one is = (is.0, one, is.2)

pub twice_defined : (config : Config) (name : List ℕ) → IsFound config name (length config.definitions.now) found.Twice → IsDefinedName config name
twice_defined config name is = (is.0, is.2, is.5)
