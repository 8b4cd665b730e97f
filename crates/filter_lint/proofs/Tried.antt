-- The warnings that follow from what is found of the instructions that runs come to.
use Rattle.std.proofs.Common.{◌≡◌, ℕ, Bool, true, false, if◌then◌else◌, List, [], Option, Some, None, refl, subst}
use Rattle.std.specs.Prelude.{All, IfSome, option_to_list, slice_get}
use Rattle.std.proofs.lemmas.List.Elements.{All-append, All-cons, All-nil, All-same}
use Rattle.filter_code.specs.CodeView.{CodeView}
use Rattle.filter_diff.specs.Reaching.{IsReach}
use Rattle.filter_diff.specs.Ordering.{IsOrderOf}
use Rattle.filter_diff.specs.declared.mark.Reach.{Reach}
use Rattle.filter_diff.specs.declared.ordering.Order.{Order}
use Rattle.filter_diff.specs.declared.ordering.Order.TheVariants as order
use Rattle.filter_lint.specs.Disorders.{disorder_at, disorder_of}
use Rattle.filter_lint.specs.Hints.{hints}
use Rattle.filter_lint.specs.Rules.{on_routes, said_of, said_on_routes}
use Rattle.filter_lint.specs.SurveyedFilters.{SurveyedFilterView}
use Rattle.filter_lint.specs.Truths.{IsTrueOf}
use Rattle.filter_lint.specs.declared.warning.Warning.{Warning}
use Rattle.filter_lint.proofs.Hinted.{hints_are_so}
use Rattle.filter_lint.proofs.True.{on_routes_are_so}

-- what is found of the same code is the same
pub same_reach : (p program : CodeView) (n size : ℕ) (asked watched : List Bool) (reach : Reach) → p ≡ program → n ≡ size → asked ≡ watched
    → IsReach p n asked reach → IsReach program size watched reach
same_reach p program n size asked watched reach code_is size_is watched_is is =
    subst (λ (q : CodeView). IsReach q size watched reach) code_is
    (subst (λ (m : ℕ). IsReach p m watched reach) size_is (subst (λ (w : List Bool). IsReach p n w reach) watched_is is))

pub same_order : (p program : CodeView) (n size : ℕ) (found : Order) → p ≡ program → n ≡ size → IsOrderOf p n found → IsOrderOf program size found
same_order p program n size found code_is size_is is =
    subst (λ (q : CodeView). IsOrderOf q size found) code_is (subst (λ (m : ℕ). IsOrderOf p m found) size_is is)

-- what is said of the order of metrics is so
module _ (program : CodeView) (size : ℕ) (places : List ℕ) where
  disorder_is_so : (byte : Option ℕ) (found : Order) → slice_get places 0 ≡ byte → IsOrderOf program size found
      → All (IsTrueOf program size places) (option_to_list (disorder_at byte found))
  disorder_is_so None found there is = All-nil (IsTrueOf program size places)
  disorder_is_so (Some byte) order.Kept there is = All-nil (IsTrueOf program size places)
  disorder_is_so (Some byte) (order.Lost shown) there is =
      All-cons (IsTrueOf program size places) _ [] (record { place = there; is_so = is }) (All-nil (IsTrueOf program size places))
  disorder_is_so (Some byte) order.Undecided there is = All-nil (IsTrueOf program size places)

module _ (source : SurveyedFilterView) (watched : List Bool) (reach : Reach) (found : Option Order)
    (is_reach : IsReach source.program source.size watched reach) (is_order : IfSome found (IsOrderOf source.program source.size)) where
  routes_are_so : (b : Bool) → reach.is_complete ≡ b
      → All (IsTrueOf source.program source.size source.places) (if b then on_routes source reach.marks.items else [])
  routes_are_so false e = All-nil (IsTrueOf source.program source.size source.places)
  routes_are_so true e = on_routes_are_so source.program source.size source.text source.places watched reach is_reach e

  asked_is_so : (asked : Option Order) → IfSome asked (IsOrderOf source.program source.size)
      → All (IsTrueOf source.program source.size source.places) (option_to_list (disorder_of source asked))
  asked_is_so None is = All-nil (IsTrueOf source.program source.size source.places)
  asked_is_so (Some order) is = disorder_is_so source.program source.size source.places (slice_get source.places 0) order refl is

  -- all that is said is so
  pub said_is_so : (said : List Warning) → said ≡ said_of source reach found → All (IsTrueOf source.program source.size source.places) said
  said_is_so said is =
      let P : Warning → Type 0 = IsTrueOf source.program source.size source.places in
      All-same P said (said_of source reach found) is
      (All-append P (said_on_routes source reach) _ (routes_are_so reach.is_complete refl)
      (All-append P (option_to_list (disorder_of source found)) (hints source)
      (asked_is_so found is_order)
      (hints_are_so source.program source.size source.text source.places)))
