-- A name that has no filter any more.
use Rattle.std.proofs.Common.{◌≡◌, ◌≢◌, ℕ, Bool, true, false, List, Option, None, IfSome, refl, sym, subst, ap, ◌∙◌}
use Rattle.std.specs.BTreeMap.{is_at}
use Rattle.std.specs.Cmp.Lexicographic.{bytes_decides, nat_list_eq_equiv, slice_cmp}
use Rattle.std.specs.Map.{AreApart, IsKeyTest, KeepsOthers, lookup}
use Rattle.std.specs.Option.{option_map}
use Rattle.std.specs.Ordering.{eq_by_cmp, nat_cmp}
use Rattle.std.specs.Str.{bytes_eq}
use Rattle.std.specs.declared.sync.Arc.{Arc}
use Rattle.std.specs.declared.alloc.Global.{Global}
use Rattle.std.proofs.lemmas.Map.Text.{is_eq-slice_cmp}
use Rattle.filter_verifier.specs.VerifiedView.{VerifiedView}
use Rattle.operator_cmds.proofs.Naming.{Key, key_cmp}
use Rattle.domain_cmds.specs.State.{Named, filter_named}
use Rattle.domain_cmds.proofs.Filling.{AllFit}

-- whether a key is this name
abbrev is_name : List ℕ → Key → Bool
is_name name = is_at (λ key. slice_cmp nat_cmp name key.items)

-- a query that is not the key's finds what it found
other_entries : (test : Key → Bool) (old new : Named) → KeepsOthers (eq_by_cmp key_cmp) test old new → (other : Key → Bool)
    → IsKeyTest (eq_by_cmp key_cmp) other → AreApart test other → lookup other new ≡ lookup other old
unfolding KeepsOthers
other_entries test old new h = h

-- a name passes at equal keys
tests_keys : (name : List ℕ) → IsKeyTest (eq_by_cmp key_cmp) (is_name name)
tests_keys name x y h =
    is_eq-slice_cmp name y.items ∙ nat_list_eq_equiv.congr name x.items y.items (sym (is_eq-slice_cmp name x.items) ∙ h)
    ∙ sym (is_eq-slice_cmp x.items y.items)

-- different names pass at different keys
apart : (name other : List ℕ) → bytes_eq name other ≡ false → AreApart (is_name name) (is_name other)
apart name other n key h =
    let y = sym (is_eq-slice_cmp name key.items) ∙ h in
    is_eq-slice_cmp other key.items ∙ nat_list_eq_equiv.symm other key.items
    ∙ sym (nat_list_eq_equiv.congr name key.items other y) ∙ n

-- a name is another one, or not
differ : (name other : List ℕ) → other ≢ name → (b : Bool) → bytes_eq name other ≡ b → bytes_eq name other ≡ false
differ name other not true e = absurd (not (sym ((bytes_decides name other).0 e)))
differ name other not false e = e

-- the other names have what they had
pub others_stay : (m n : Named) (name : List ℕ) → KeepsOthers (eq_by_cmp key_cmp) (is_name name) m n → (other : List ℕ) → other ≢ name
    → filter_named n other ≡ filter_named m other
others_stay m n name h other not =
    ap (λ (o : Option (Arc VerifiedView Global)). option_map (λ f. f.value) o)
    (other_entries (is_name name) m n h (is_name other) (tests_keys other) (apart name other (differ name other not (bytes_eq name other) refl)))

module _ (size : ℕ) (m n : Named) (name : List ℕ) (before : AllFit size (filter_named m)) (gone : filter_named n name ≡ None)
    (stay : (other : List ℕ) → other ≢ name → filter_named n other ≡ filter_named m other) where
  one_fits : (other : List ℕ) (b : Bool) → bytes_eq name other ≡ b → IfSome (filter_named n other) (λ f. f.size ≡ size)
  one_fits other true e =
      subst (λ (o : Option VerifiedView). IfSome o (λ f. f.size ≡ size))
      (sym (ap (filter_named n) (sym ((bytes_decides name other).0 e)) ∙ gone)) tt
  one_fits other false e =
      subst (λ (o : Option VerifiedView). IfSome o (λ f. f.size ≡ size))
      (sym (stay other (λ same. let no : true ≡ false = sym ((bytes_decides name other).1 (sym same)) ∙ e in cc))) (before other)

  -- they fit as they did
  pub rest_fits : AllFit size (filter_named n)
  rest_fits other = one_fits other (bytes_eq name other) refl
