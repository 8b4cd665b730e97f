-- How options are added to a plan, one after another.
use Rattle.std.proofs.Common.{◌≡◌, ℕ, ◌+◌, ◌<◌, List, length, get_or, refl, subst, add-one}
use Rattle.std.proofs.lemmas.Option.{slice_get_read}
use Rattle.router_options.specs.PlanView.{PlanView}
use Rattle.ncroute.specs.Planning.{Adds, AddsFirst, Refuses, StopsAdding, TellsOption}
use Rattle.ncroute.specs.declared.planning.OptionKind.{OptionKind}
use Rattle.ncroute.specs.declared.planning.PlanFault.{PlanFault}

module _ {A : Type 0} (k : OptionKind) (text_of : A → List ℕ) (options : List A) where
  pub none_added : (plan : PlanView) → AddsFirst k text_of options 0 plan plan
  unfolding AddsFirst
  none_added plan = refl

  pub one_more_added : (n : ℕ) (option : A) (text : List ℕ) (plan mid after : PlanView) → n < length options
      → option ≡ get_or options n option → text ≡ text_of option → AddsFirst k text_of options n plan mid → Adds k mid text after
      → AddsFirst k text_of options (n + 1) plan after
  unfolding AddsFirst
  one_more_added n option text plan mid after inside is said first adds =
      rw add-one (option, mid, slice_get_read options _ n option refl inside is, first, subst (λ (t : List ℕ). Adds k mid t after) said adds)

  -- an option is refused behind others, and told
  pub not_added : (n : ℕ) (option : A) (text : List ℕ) (why : PlanFault) (plan mid : PlanView) → n < length options
      → option ≡ get_or options n option → text ≡ text_of option → AddsFirst k text_of options n plan mid
      → TellsOption k n text (Refuses k mid text) why → StopsAdding k text_of options plan why
  not_added n option text why plan mid inside is said first refused = record {
    n = n;
    option = option;
    is_option = slice_get_read options _ n option refl inside is;
    mid = mid;
    first = first;
    refused = subst (λ (t : List ℕ). TellsOption k n t (Refuses k mid t) why) said refused;
  }
