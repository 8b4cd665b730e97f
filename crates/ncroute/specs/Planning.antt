-- What the words of `router` come to: the plan of a router. (This project's own choice.)
use Rattle.std.specs.Prelude.{◌≡◌, ◌⊎◌, ℕ, zero, suc, Bool, true, false, List, Option, Some, None, is_some, String, length, slice_get, string_bytes}
use Rattle.std.specs.Option.{option_map}
use Rattle.std.specs.declared.alloc.Global.{Global}
use Rattle.command_line.specs.declared.filter_words.NamedFile.{NamedFile}
use Rattle.command_line.specs.declared.router_words.RouterWords.{RouterWords}
use Rattle.router_files.specs.declared.options.RouterOption.{RouterOption}
use Rattle.router_files.specs.declared.options.RouterOption.TheVariants as option
use Rattle.router_options.specs.PlanView.{PlanView}
use Rattle.router_options.specs.Plans.{AddsControl, AddsExport, AddsFilter, AddsImport, AddsLink, AddsPrefix, RefusesExport, RefusesImport, RefusesLink}
use Rattle.router_options.specs.Plans.{RefusesControl, RefusesNumbers, RefusesPrefix, are_numbers, new_plan}
use Rattle.router_options.specs.declared.fault.NumberFault.TheVariants as number
use Rattle.router_options.specs.declared.fault.OptionFault.{OptionFault}
use Rattle.router_options.specs.declared.fault.OptionFault.TheVariants as fault
use Rattle.router_options.specs.declared.plan.Numbers.{Numbers}
use Rattle.ncroute.specs.declared.planning.OptionKind.{OptionKind}
use Rattle.ncroute.specs.declared.planning.OptionKind.TheVariants as kind
use Rattle.ncroute.specs.declared.planning.PlanFault.{PlanFault}
use Rattle.ncroute.specs.declared.planning.PlanFault.TheVariants.{Missing, WrongNumber, WrongOption}

-- memory was refused
abbrev pub is_memory : PlanFault → Bool
is_memory (Missing option) = false
is_memory (WrongNumber number.Memory) = true
is_memory (WrongNumber why) = false
is_memory (WrongOption k at text fault.Memory) = true
is_memory (WrongOption k at text why) = false

-- an option of this kind is added to a plan
abbrev pub Adds : OptionKind → PlanView → List ℕ → PlanView → Type 0
Adds kind.Prefix plan text after = AddsPrefix plan text after
Adds kind.Filter plan text after = AddsFilter plan text after
Adds kind.Import plan text after = AddsImport plan text after
Adds kind.Export plan text after = AddsExport plan text after
Adds kind.Link plan text after = AddsLink plan text after
Adds kind.Control plan text after = AddsControl plan text after

-- it is refused; a filter's name never is, but that memory may be
abbrev pub Refuses : OptionKind → PlanView → List ℕ → OptionFault → Type 0
Refuses kind.Prefix plan text why = RefusesPrefix plan text why
Refuses kind.Filter plan text why = why ≡ fault.Memory
Refuses kind.Import plan text why = RefusesImport plan text why
Refuses kind.Export plan text why = RefusesExport plan text why
Refuses kind.Link plan text why = RefusesLink plan text why
Refuses kind.Control plan text why = RefusesControl plan text why

-- The first n of some options of a kind were added to a plan, in order. `text_of option` is what an option says.
unfoldable pub AddsFirst : {A : Type 0} → OptionKind → (A → List ℕ) → List A → ℕ → PlanView → PlanView → Type 0
AddsFirst k text_of options zero plan after = after ≡ plan
AddsFirst {A} k text_of options (suc n) plan after = (option : A) × (mid : PlanView) × (slice_get options n ≡ Some option)
    × AddsFirst k text_of options n plan mid × Adds k mid (text_of option) after

-- all of them were
abbrev pub AddsAll : {A : Type 0} → OptionKind → (A → List ℕ) → List A → PlanView → PlanView → Type 0
AddsAll k text_of options plan after = AddsFirst k text_of options (length options) plan after

-- a fault tells an option of this kind, how many of the kind stand before it, its text, and why it is refused
abbrev pub TellsOption : OptionKind → ℕ → List ℕ → (OptionFault → Type 0) → PlanFault → Type 0
TellsOption k n said Why (Missing option) = ⊥
TellsOption k n said Why (WrongNumber why) = ⊥
TellsOption k n said Why (WrongOption of at text why) = (of ≡ k) × (at ≡ n) × (text.now ≡ said) × Why why

-- The first that is refused is told, and why it is refused.
pub record StopsAdding {A : Type 0} (k : OptionKind) (text_of : A → List ℕ) (options : List A) (plan : PlanView) (why : PlanFault) : Type 0 where
  pub n : ℕ
  pub option : A
  pub is_option : slice_get options n ≡ Some option
  pub mid : PlanView
  pub first : AddsFirst k text_of options n plan mid
  pub refused : TellsOption k n (text_of option) (Refuses k mid (text_of option)) why

-- the numbers that words say, for a node of a domain of this size
abbrev pub numbers_of : RouterWords → ℕ → ℕ → Numbers
numbers_of words size me = record {
  size = size;
  me = me;
  limit = words.limit;
  queue = words.queue;
  segments = words.segments;
  retry = words.retry;
  hold = words.hold;
}

-- what an option of these kinds says
abbrev pub text_of : String Global → List ℕ
text_of text = string_bytes text

abbrev pub name_of : NamedFile → List ℕ
name_of file = string_bytes file.name

-- the bytes of a text, if there is one
abbrev pub text_in : Option (String Global) → Option (List ℕ)
text_in text = option_map text_of text

-- words do not say this number, without which there is no router: first the size of the domain is looked for, and then the router's node
abbrev pub IsMissing : RouterWords → RouterOption → Type 0
IsMissing words option.Size = words.size ≡ None
IsMissing words option.Node = (is_some words.size ≡ true) × (words.node ≡ None)
IsMissing words _ = ⊥

-- the plan of the numbers alone, for a node of a domain of this size
pub record IsOfNumbers (words : RouterWords) (size me : ℕ) (plan : PlanView) : Type 0 where
  pub fit : are_numbers (numbers_of words size me) (is_some words.save) ≡ true
  pub save : Option (String Global)
  pub saves : text_in save ≡ text_in words.save
  pub is : plan ≡ new_plan (numbers_of words size me) save words.stays

-- words say the two numbers without which there is no router, and the numbers come to this
abbrev pub SayDomain : RouterWords → (ℕ → ℕ → Type 0) → Type 0
SayDomain words Comes = (size : ℕ) × (me : ℕ) × (words.size ≡ Some size) × (words.node ≡ Some me) × Comes size me

-- the plan of the numbers that words say
abbrev pub IsBegun : RouterWords → PlanView → Type 0
IsBegun words plan = SayDomain words (λ size me. IsOfNumbers words size me plan)

-- the first of the numbers that is missing or does not fit is told; memory may be refused before they are judged
abbrev pub LacksBegun : RouterWords → PlanFault → Type 0
LacksBegun words (Missing option) = IsMissing words option
LacksBegun words (WrongNumber why) = SayDomain words (λ size me. RefusesNumbers (numbers_of words size me) (is_some words.save) why)
LacksBegun words (WrongOption k at text why) = ⊥

-- to a plan that has come as far, all of some options were added; or it did not come as far, or one of them is refused
abbrev pub ThenAdds : {A : Type 0} → (PlanView → Type 0) → OptionKind → (A → List ℕ) → List A → PlanView → Type 0
ThenAdds Before k said options plan = (mid : PlanView) × Before mid × AddsAll k said options mid plan

abbrev pub OrStops : {A : Type 0} → (PlanView → Type 0) → (PlanFault → Type 0) → OptionKind → (A → List ℕ) → List A → PlanFault → Type 0
OrStops Before Lacks k said options why = Lacks why ⊎ ((mid : PlanView) × Before mid × StopsAdding k said options mid why)

-- ---- how far a plan has come: its prefixes are added first, then the names of filters, then their uses, and the links at last

abbrev pub IsPlaced : RouterWords → PlanView → Type 0
IsPlaced words = ThenAdds (IsBegun words) kind.Prefix text_of words.prefixes.items

abbrev pub LacksPlaced : RouterWords → PlanFault → Type 0
LacksPlaced words = OrStops (IsBegun words) (LacksBegun words) kind.Prefix text_of words.prefixes.items

abbrev pub IsNaming : RouterWords → PlanView → Type 0
IsNaming words = ThenAdds (IsPlaced words) kind.Filter name_of words.filters.items

abbrev pub LacksNaming : RouterWords → PlanFault → Type 0
LacksNaming words = OrStops (IsPlaced words) (LacksPlaced words) kind.Filter name_of words.filters.items

abbrev pub IsImporting : RouterWords → PlanView → Type 0
IsImporting words = ThenAdds (IsNaming words) kind.Import text_of words.imports.items

abbrev pub LacksImporting : RouterWords → PlanFault → Type 0
LacksImporting words = OrStops (IsNaming words) (LacksNaming words) kind.Import text_of words.imports.items

abbrev pub IsExporting : RouterWords → PlanView → Type 0
IsExporting words = ThenAdds (IsImporting words) kind.Export text_of words.exports.items

abbrev pub LacksExporting : RouterWords → PlanFault → Type 0
LacksExporting words = OrStops (IsImporting words) (LacksImporting words) kind.Export text_of words.exports.items

-- the plan that words tell, and the first fault of words that tell none
abbrev pub IsLinking : RouterWords → PlanView → Type 0
IsLinking words = ThenAdds (IsExporting words) kind.Link text_of words.links.items

abbrev pub LacksLinking : RouterWords → PlanFault → Type 0
LacksLinking words = OrStops (IsExporting words) (LacksExporting words) kind.Link text_of words.links.items

abbrev pub IsPlanOf : RouterWords → PlanView → Type 0
IsPlanOf words = ThenAdds (IsLinking words) kind.Control text_of words.controls.items

abbrev pub LacksPlan : RouterWords → PlanFault → Type 0
LacksPlan words = OrStops (IsLinking words) (LacksLinking words) kind.Control text_of words.controls.items
