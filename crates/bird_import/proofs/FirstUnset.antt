-- The variables of a filter, one by one: which of them may be read before it is assigned.
use Rattle.std.proofs.Common.{◌≡◌, ◌∙◌, ℕ, ◌+◌, ◌<◌, ◌≤◌, ◌⊎◌, List, Option, Some, None, true, false, ap, inl, inr, is_some, length, map, option_map}
use Rattle.std.proofs.Common.{refl, slice_get, subst, sym, arith}
use Rattle.std.specs.Prelude.{IfSome}
use Rattle.std.proofs.lemmas.Option.{slice_get-map, slice_get_within}
use Rattle.filter_syntax.specs.SyntaxCommands.{CommandsView, DeclView, commands_of, view_command, view_decl}
use Rattle.filter_syntax.specs.SyntaxText.{FilterView}
use Rattle.filter_syntax.specs.declared.tree.command.Command.{Command}
use Rattle.filter_syntax.specs.declared.tree.decl.Decl.{Decl}
use Rattle.bird_import.specs.Unassigned.{AreAssigned, MayReadUnset, reads_first_in}
use Rattle.bird_import.specs.declared.unset.Unset.{Unset}
use Rattle.bird_import.proofs.Below.{below_or_at, same_some}

-- a variable of this number may be read before it is assigned
abbrev pub HasUnset : List Decl → CommandsView → ℕ → Type 0
HasUnset decls body n = (decl : Decl) × (slice_get decls n ≡ Some decl) × (reads_first_in decl.name.items body ≡ true)

-- none of so many may
abbrev pub HaveNone : List Decl → CommandsView → ℕ → Type 0
HaveNone decls body n = (k : ℕ) (decl : Decl) → k < n → slice_get decls k ≡ Some decl → reads_first_in decl.name.items body ≡ false

module _ (decls : List Decl) (body : CommandsView) (i : ℕ) (x : Decl) (found after : Option Unset) (at : Option ℕ) (is : slice_get decls i ≡ Some x)
    (read : is_some at ≡ reads_first_in x.name.items body) where
  pub none_further : (after ≡ None → (found ≡ None) × (at ≡ None)) → (found ≡ None → HaveNone decls body i) → after ≡ None
      → HaveNone decls body (i + 1)
  none_further none before is_none k decl below there =
      let nothing = none is_none in
      elim (below_or_at k i below) [
        | inl earlier ↦ before nothing.0 k decl earlier there
        | inr same ↦
            let here : slice_get decls i ≡ Some decl = subst (λ n. slice_get decls n ≡ Some decl) same there in
            let one : x ≡ decl = same_some (slice_get decls i) x decl is here in
            subst (λ (d : Decl). reads_first_in d.name.items body ≡ false) one (sym read ∙ ap is_some nothing.1)
      ]

  -- what was found, or this one
  of_either : (u : Unset) → (found ≡ Some u) ⊎ ((u.variable ≡ i) × (is_some at ≡ true)) → IfSome found (λ v. HasUnset decls body v.variable)
      → HasUnset decls body u.variable
  of_either u (inl was) before = subst (λ o. IfSome o (λ v. HasUnset decls body v.variable)) was before
  of_either u (inr new) before = (x, subst (λ n. slice_get decls n ≡ Some x) (sym new.0) is, sym read ∙ new.1)

some_after : {A : Type 0} (P Q : A → Type 0) (o : Option A) → ((x : A) → P x → Q x) → IfSome o P → IfSome o Q
some_after P Q None each is = tt
some_after P Q (Some x) each is = each x is

pub some_further : (decls : List Decl) (body : CommandsView) (i : ℕ) (x : Decl) (found after : Option Unset) (at : Option ℕ)
    → slice_get decls i ≡ Some x → is_some at ≡ reads_first_in x.name.items body
    → IfSome after (λ u. (found ≡ Some u) ⊎ ((u.variable ≡ i) × (is_some at ≡ true))) → IfSome found (λ u. HasUnset decls body u.variable)
    → IfSome after (λ u. HasUnset decls body u.variable)
some_further decls body i x found after at is read now before =
    some_after (λ u. (found ≡ Some u) ⊎ ((u.variable ≡ i) × (is_some at ≡ true))) (λ u. HasUnset decls body u.variable) after
    (λ u either. of_either decls body i x found after at is read u either before) now

of_map : (o : Option Decl) (v : DeclView) → option_map view_decl o ≡ Some v → (d : Decl) × (o ≡ Some d) × (view_decl d ≡ v)
of_map None v is = absurd (cc)
of_map (Some d) v is = (d, refl, cc)

module _ (decls : List Decl) (commands : List Command) (filter : FilterView) (same : map view_decl decls ≡ filter.decls)
    (body : commands_of (map view_command commands) ≡ filter.body) where
  pub all_assigned : (i : ℕ) → length decls ≤ i → HaveNone decls (commands_of (map view_command commands)) i → AreAssigned filter
  all_assigned i ends before variable decl is =
      let listed : slice_get (map view_decl decls) variable ≡ Some decl = subst (λ (ds : List DeclView). slice_get ds variable ≡ Some decl) (sym same) is in
      let found = of_map (slice_get decls variable) decl (sym (slice_get-map view_decl decls variable) ∙ listed) in
      let low = slice_get_within decls variable found.0 found.1 in
      subst (λ (d : DeclView). reads_first_in d.name filter.body ≡ false) found.2
      (subst (λ (b : CommandsView). reads_first_in found.0.name.items b ≡ false) body (before variable found.0 (omega (arith, low, ends)) found.1))

  pub one_unset : (n : ℕ) → HasUnset decls (commands_of (map view_command commands)) n → (decl : DeclView) × MayReadUnset filter n decl
  one_unset n (decl, at, read) = (
    view_decl decl,
    (
      subst (λ (ds : List DeclView). slice_get ds n ≡ Some (view_decl decl)) same (slice_get-map view_decl decls n ∙ ap (option_map view_decl) at),
      subst (λ (b : CommandsView). reads_first_in decl.name.items b ≡ true) body read,
    ),
  )

pub some_unset : (decls : List Decl) (commands : List Command) (filter : FilterView) (same : map view_decl decls ≡ filter.decls)
    (body : commands_of (map view_command commands) ≡ filter.body) (found : Option Unset)
    → IfSome found (λ u. HasUnset decls (commands_of (map view_command commands)) u.variable)
    → IfSome found (λ u. (decl : DeclView) × MayReadUnset filter u.variable decl)
some_unset decls commands filter same body found is =
    some_after (λ u. HasUnset decls (commands_of (map view_command commands)) u.variable)
    (λ u. (decl : DeclView) × MayReadUnset filter u.variable decl) found (λ u has. one_unset decls commands filter same body u.variable has) is
