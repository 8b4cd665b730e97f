-- The variables of a filter: their values by name, and the local variables of its code.
use Rattle.std.proofs.Common.{◌≡◌, ℕ, suc, Bool, true, false, List, [], ◌∷◌, map, Option, Some, refl, sym, ap, subst, arith}
use Rattle.std.specs.Prelude.{slice_get, slice_set}
use Rattle.std.specs.Str.{bytes_eq}
use Rattle.filter_code.specs.declared.value.Value.{Value}
use Rattle.filter_code.specs.declared.value.Value.TheVariants as value
use Rattle.filter_syntax.specs.declared.tree.decl.Kind.{Kind}
use Rattle.filter_syntax.specs.declared.tree.decl.Kind.TheVariants as kind
use Rattle.filter_syntax.specs.SyntaxCommands.{DeclView}
use Rattle.filter_types.specs.Kinds.{kind_named, number_of}
use Rattle.filter_compiler.specs.Meaning.{Bound, value_named}
use Rattle.filter_compiler.specs.Verdicts.{assigned, declared_as, unassigned}

-- the kind of a value, as declarations name it
abbrev pub kind_of_value : Value → Kind
kind_of_value (value.Int n) = kind.Int
kind_of_value (value.Bool b) = kind.Bool
kind_of_value (value.Addr a) = kind.Ip
kind_of_value (value.Net p) = kind.Prefix

-- each variable has its name and a value of its kind
abbrev pub HaveKinds : List DeclView → List Bound → Type 0
HaveKinds [] [] = Unit {0}
HaveKinds (d ∷ decls) (b ∷ bound) = (b.name ≡ d.name) × (kind_of_value b.value ≡ d.kind) × HaveKinds decls bound
HaveKinds [] (b ∷ bound) = ⊥
HaveKinds (d ∷ decls) [] = ⊥

-- the local variables that hold the values
abbrev pub local : Bound → Option Value
local b = Some b.value

abbrev pub locals_of : List Bound → List (Option Value)
locals_of bound = map local bound

-- what is known of a variable with a name
pub record IsHeld (decls : List DeclView) (bound : List Bound) (text : List ℕ) (k : Kind) : Type 0 where
  pub value : Value
  pub named : value_named bound text ≡ Some value
  pub kind : kind_of_value value ≡ k
  pub in_local : slice_get (locals_of bound) (number_of decls text) ≡ Some (Some value)

-- the number of a variable that is not the first one
number_later : (d : DeclView) (decls : List DeclView) (text : List ℕ) → bytes_eq d.name text ≡ false
    → number_of (d ∷ decls) text ≡ suc (number_of decls text)
number_later d decls text found = rw found (omega arith)

held_from : (d : DeclView) (decls : List DeclView) (b : Bound) (bound : List Bound) (text : List ℕ) (k : Kind) (found : Bool)
    → bytes_eq d.name text ≡ found → b.name ≡ d.name → kind_of_value b.value ≡ d.kind → kind_named (d ∷ decls) text ≡ Some k
    → (kind_named decls text ≡ Some k → IsHeld decls bound text k) → IsHeld (d ∷ decls) (b ∷ bound) text k
held_from d decls b bound text k true found name kind wanted later =
    let same : bytes_eq b.name text ≡ true = rw name found in
    let wanted' : Some d.kind ≡ Some k = rw found at wanted in
    record {
      value = b.value;
      named = rw same refl;
      kind = cc;
      in_local = rw found refl;
    }
held_from d decls b bound text k false found name kind wanted later =
    let same : bytes_eq b.name text ≡ false = rw name found in
    let rest = later (rw found at wanted) in
    record {
      value = rest.value;
      named = rw same rest.named;
      kind = rest.kind;
      in_local = subst (λ i. slice_get (locals_of (b ∷ bound)) i ≡ Some (Some rest.value)) (sym
          (number_later d decls text found)) rest.in_local;
    }

-- a variable that has a kind has a value of that kind, which is in the local variable with its number
pub held : (decls : List DeclView) (bound : List Bound) (text : List ℕ) (k : Kind) → HaveKinds decls bound
    → kind_named decls text ≡ Some k → IsHeld decls bound text k
held [] [] text k have wanted = cc
held [] (b ∷ bound) text k have wanted = absurd have
held (d ∷ decls) [] text k have wanted = absurd have
held (d ∷ decls) (b ∷ bound) text k have wanted =
    held_from d decls b bound text k (bytes_eq d.name text) refl have.0 have.1 wanted (held decls bound text k have.2)

-- what an assignment leaves
pub record IsAssigned (decls : List DeclView) (bound : List Bound) (text : List ℕ) (v : Value) : Type 0 where
  pub kinds : HaveKinds decls (assigned bound text v)
  pub locals : slice_set (locals_of bound) (number_of decls text) (Some v) ≡ locals_of (assigned bound text v)

assigned_from : (d : DeclView) (decls : List DeclView) (b : Bound) (bound : List Bound) (text : List ℕ) (k : Kind) (v : Value)
    (found : Bool) → bytes_eq d.name text ≡ found → HaveKinds (d ∷ decls) (b ∷ bound) → kind_named (d ∷ decls) text ≡ Some k
    → kind_of_value v ≡ k → (kind_named decls text ≡ Some k → IsAssigned decls bound text v) → IsAssigned (d ∷ decls) (b ∷ bound) text v
assigned_from d decls b bound text k v true found have wanted given later =
    let same : bytes_eq b.name text ≡ true = rw have.0 found in
    let wanted' : Some d.kind ≡ Some k = rw found at wanted in
    let kinds : kind_of_value v ≡ d.kind = cc in
    record {
      kinds = rw same (have.0, kinds, have.2);
      locals = rw (found, same) refl;
    }
assigned_from d decls b bound text k v false found have wanted given later =
    let same : bytes_eq b.name text ≡ false = rw have.0 found in
    let rest = later (rw found at wanted) in
    let set : slice_set (locals_of (b ∷ bound)) (suc (number_of decls text)) (Some v) ≡ local b ∷ locals_of (assigned bound text v) =
    ap (λ l. local b ∷ l) rest.locals in
    record {
      kinds = rw same (have.0, have.1, rest.kinds);
      locals = rw same (subst (λ i. slice_set (locals_of (b ∷ bound)) i (Some v) ≡ local b ∷ locals_of (assigned bound text v)) (sym
          (number_later d decls text found)) set);
    }

-- an assignment keeps the kinds, and sets the local variable with the variable's number
pub is_assigned : (decls : List DeclView) (bound : List Bound) (text : List ℕ) (k : Kind) (v : Value) → HaveKinds decls bound
    → kind_named decls text ≡ Some k → kind_of_value v ≡ k → IsAssigned decls bound text v
is_assigned [] [] text k v have wanted given = cc
is_assigned [] (b ∷ bound) text k v have wanted given = absurd have
is_assigned (d ∷ decls) [] text k v have wanted given = absurd have
is_assigned (d ∷ decls) (b ∷ bound) text k v have wanted given =
    assigned_from d decls b bound text k v (bytes_eq d.name text) refl have wanted given
    (λ w. is_assigned decls bound text k v have.2 w given)

-- what is not assigned has its kind
unassigned_kind : (k : Kind) → kind_of_value (unassigned k) ≡ k
unassigned_kind kind.Int = refl
unassigned_kind kind.Bool = refl
unassigned_kind kind.Ip = refl
unassigned_kind kind.Prefix = refl

pub declared_kinds : (decls : List DeclView) → HaveKinds decls (map declared_as decls)
declared_kinds [] = tt
declared_kinds (d ∷ decls) = (refl, unassigned_kind d.kind, declared_kinds decls)
