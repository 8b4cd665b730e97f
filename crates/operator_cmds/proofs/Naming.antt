-- A filter that gets a name.
use Rattle.std.proofs.Common.{◌≡◌, ℕ, Bool, true, false, List, Option, Ordering, Some, if◌then◌else◌, Vec, Global, refl, sym, subst, ap, ◌∙◌}
use Rattle.std.specs.BTreeMap.{BTreeMap, Updates, is_at}
use Rattle.std.specs.Cmp.Lexicographic.{nat_list_eq_equiv, bytes_decides, slice_cmp}
use Rattle.std.specs.Map.{AreApart, IsKeyTest, KeepsOthers, lookup}
use Rattle.std.specs.Option.{option_map}
use Rattle.std.specs.Ordering.{eq_by_cmp, nat_cmp}
use Rattle.std.specs.Str.{bytes_eq}
use Rattle.std.specs.declared.sync.Arc.{Arc}
use Rattle.std.proofs.lemmas.Map.Text.{is_eq-slice_cmp}
use Rattle.filter_verifier.specs.VerifiedView.{VerifiedView}
use Rattle.operator_cmds.specs.Script.{GetsName, Names}
use Rattle.operator_cmds.specs.Stages.{StageView}
use Rattle.operator_cmds.specs.State.{filter_at}

abbrev pub Key : Type 0
Key = Vec ℕ Global

abbrev Filters : Type 0
Filters = BTreeMap Key (Arc VerifiedView Global)

abbrev pub key_cmp : Key → Key → Ordering
key_cmp x y = slice_cmp nat_cmp x.items y.items

-- whether a key is this name
abbrev is_name : List ℕ → Key → Bool
is_name name = is_at (λ key. slice_cmp nat_cmp name key.items)

-- a query that is not the key's finds what it found
other_entries : {X : Type 0} (test : Key → Bool) (old new : List (Key × X)) → KeepsOthers (eq_by_cmp key_cmp) test old new
    → (other : Key → Bool) → IsKeyTest (eq_by_cmp key_cmp) other → AreApart test other → lookup other new ≡ lookup other old
unfolding KeepsOthers
other_entries test old new h = h

-- a name passes at equal keys
tests_keys : (name : List ℕ) → IsKeyTest (eq_by_cmp key_cmp) (is_name name)
tests_keys name x y h =
    is_eq-slice_cmp name y.items ∙ nat_list_eq_equiv.congr name x.items y.items (sym (is_eq-slice_cmp name x.items) ∙ h)
    ∙ sym (is_eq-slice_cmp x.items y.items)

-- different names pass at different keys
apart : (name other : List ℕ) → bytes_eq name other ≡ false → AreApart (is_name name) (is_name other)
apart name other n key h =
    let y = sym (is_eq-slice_cmp name key.items) ∙ h in
    is_eq-slice_cmp other key.items ∙ nat_list_eq_equiv.symm other key.items
    ∙ sym (nat_list_eq_equiv.congr name key.items other y) ∙ n

-- a function of texts that is w at one text, and the earlier function elsewhere
by_bytes : {W : Type 0} (f g : List ℕ → W) (name : List ℕ) (w : W) → g name ≡ w
    → ((other : List ℕ) → bytes_eq name other ≡ false → g other ≡ f other)
    → (other : List ℕ) → g other ≡ (if bytes_eq name other then w else f other)
by_bytes f g name w here others other = split (bytes_eq name other) refl
  where
    split : (b : Bool) → bytes_eq name other ≡ b → g other ≡ (if b then w else f other)
    split true y = subst (λ l. g l ≡ w) ((bytes_decides name other).0 y) here
    split false n = others other n

mapped : (b : Bool) (f : Arc VerifiedView Global) (o : Option (Arc VerifiedView Global))
    → option_map (λ f. f.value) (if b then Some f else o) ≡ (if b then Some f.value else option_map (λ f. f.value) o)
mapped true f o = refl
mapped false f o = refl

-- what each name has after a filter was put under a key
under : (m n : Filters) (key : Key) (filter : Arc VerifiedView Global) → Updates key_cmp m n key (Some filter) → (other : List ℕ)
    → filter_at n other ≡ (if bytes_eq key.items other then Some filter.value else filter_at m other)
under m n key filter h other =
    let found : Filters → List ℕ → Option (Arc VerifiedView Global) = λ map name. lookup (is_name name) map.entries in
    ap (λ (o : Option (Arc VerifiedView Global)). option_map (λ f. f.value) o)
    (by_bytes (found m) (found n) key.items (Some filter) h.1
    (λ name e. other_entries (is_name key.items) m.entries n.entries h.3 (is_name name) (tests_keys name) (apart key.items name e)) other)
    ∙ mapped (bytes_eq key.items other) filter (found m other)

-- the name has the filter, and the other names have what they had
pub gets : (m n : Filters) (key : Key) (filter : Arc VerifiedView Global) (name : List ℕ) → key.items ≡ name
    → Updates key_cmp m n key (Some filter) → GetsName name filter.value (filter_at m) (filter_at n)
gets m n key filter name same h other =
    under m n key filter h other ∙ ap (λ (text : List ℕ). if bytes_eq text other then Some filter.value else filter_at m other) same

pub names : (stage : StageView) (m n : Filters) (key : Key) (filter : Arc VerifiedView Global) (name : List ℕ) (view : VerifiedView)
    → key.items ≡ name → filter.value ≡ view → Updates key_cmp m n key (Some filter)
    → Names name view (record { stage = stage; filters = filter_at m }) (record { stage = stage; filters = filter_at n })
names stage m n key filter name view same is_view h = record {
  stage = refl;
  filters = subst (λ (v : VerifiedView). GetsName name v (filter_at m) (filter_at n)) is_view (gets m n key filter name same h);
}
