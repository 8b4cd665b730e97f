-- The filters and functions of a configuration follow one another.
use Rattle.std.proofs.Common.{◌≡◌, ℕ, ◌≤◌, List, [], ◌∷◌, ◌++◌, get_or, map, sym, ◌∙◌, ap, subst, arith}
use Rattle.std.proofs.lemmas.List.{map-append}
use Rattle.std.proofs.lemmas.List.Elements.{All-get_or, All-nil, All-push, All-weaker}
use Rattle.std.proofs.lemmas.List.Quantifiers.{all_pairs_push}
use Rattle.bird_import.specs.Items.{AreUpTo, IsItemAt, IsItemIn, ItemView, view_of_item}
use Rattle.bird_import.specs.declared.items.Item.{Item}
use Rattle.bird_import.specs.declared.word.Word.{Word}

abbrev IsUpTo : ℕ → ItemView → Type 0
IsUpTo next one = one.to ≤ next

abbrev IsApart : ItemView → ItemView → Type 0
IsApart one other = one.to ≤ other.from

-- there is none yet
pub none_yet : (words : List Word) (next : ℕ) (items : List Item) → items ≡ [] → AreUpTo words next (map view_of_item items)
none_yet words next items none = subst (λ (l : List Item). AreUpTo words next (map view_of_item l)) (sym none) (record {
  are = record { each = All-nil (IsItemIn words); apart = λ i j d earlier below. absurd (omega arith) };
  behind = All-nil (IsUpTo next);
})

-- with one more, which begins at an index
module _ (words : List Word) (next at : ℕ) (items later : List Item) (one : Item) where
  abbrev before : List ItemView
  before = map view_of_item items

  abbrev view : ItemView
  view = view_of_item one

  pub one_more : next ≤ at → IsItemAt words at (view_of_item one) → AreUpTo words next (map view_of_item items) → later ≡ items ++ one ∷ []
      → AreUpTo words one.to (map view_of_item later)
  one_more behind is so_far grown =
      let all : map view_of_item later ≡ before ++ view ∷ [] = ap (map view_of_item) grown ∙ map-append view_of_item items (one ∷ []) in
      let from : view.from ≡ at = is.from in
      let there : IsItemIn words view = subst (λ (n : ℕ). IsItemAt words n view) (sym from) is in
      subst (AreUpTo words one.to) (sym all) (record {
        are = record {
          each = All-push (IsItemIn words) before view so_far.are.each there;
          apart = all_pairs_push IsApart before view so_far.are.apart
              (λ n d below. let end : (get_or before n d).to ≤ next = All-get_or (IsUpTo next) before n d below so_far.behind in omega (arith, end, from, behind));
        };
        behind = All-push (IsUpTo one.to) before view
            (All-weaker (IsUpTo next) (IsUpTo one.to) (λ other end. omega (arith, is.ordered, behind)) before so_far.behind) (omega arith);
      })
