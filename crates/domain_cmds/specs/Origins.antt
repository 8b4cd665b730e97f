-- Where the filters of a script come from, and where they are used. (This project's own choice.)
use Rattle.std.specs.Prelude.{◌≡◌, ℕ, suc, ◌<◌, ◌==◌, ◌&&◌, Bool, true, false, IfSome, List, [], ◌∷◌, ◌++◌, length, slice_get, Option, Some, None, if◌then◌else◌}
use Rattle.std.specs.List.{All}
use Rattle.std.specs.Option.{option_map}
use Rattle.std.specs.Str.{bytes_eq}
use Rattle.hex.specs.Hex.{encode_lower}
use Rattle.filter_reports.specs.Listing.{IsListed}
use Rattle.filter_source.specs.declared.refusal.Refusal.{Refusal}
use Rattle.filter_verifier.specs.VerifiedView.{VerifiedView}
use Rattle.operator_cmds.specs.Script.{GivesFile, GivesText}
use Rattle.operator_cmds.specs.declared.filter.FilterSource.{FilterSource}
use Rattle.operator_cmds.specs.declared.filter.FilterSource.TheVariants as source
use Rattle.operator_cmds.specs.declared.event.Direction.{Direction}
use Rattle.operator_cmds.specs.declared.event.Direction.TheVariants.{Export, Import}
use Rattle.domain_routes.specs.PlanView.{PeerView, PlanView, peer}
use Rattle.domain_cmds.specs.State.{Named, filter_named}
use Rattle.domain_cmds.specs.declared.origins.Use.{Use}

-- a filter that got a name at a line: its text, where it was not given as code, the listing of its code, and the filter itself
pub record OriginView : Type 0 where
  pub name : List ℕ
  pub line : ℕ
  pub text : Option (List ℕ)
  pub listing : List ℕ
  pub filter : VerifiedView

-- all filters that got names, and where they are used
pub record OriginsView : Type 0 where
  pub all : List OriginView
  pub uses : List Use

abbrev pub is_same_way : Direction → Direction → Bool
is_same_way Import Import = true
is_same_way Export Export = true
is_same_way Import Export = false
is_same_way Export Import = false

abbrev pub is_use_of : Direction → ℕ → ℕ → Use → Bool
is_use_of way u w known = is_same_way known.direction way && known.u == u && known.w == w

-- the place of the filter through which a node has go what passes between it and another
abbrev pub used_in : List Use → Direction → ℕ → ℕ → Option ℕ
used_in [] way u w = None
used_in (known ∷ more) way u w = if is_use_of way u w known then Some known.place else used_in more way u w

-- The text is one that gives the code, and the listing is that of the code: that of the text, or of a code file in hexadecimal.
abbrev pub IsSourceOf : Option (List ℕ) → List ℕ → VerifiedView → Type 0
IsSourceOf (Some text) listing filter = GivesText text filter.program × IsListed None false text listing None
IsSourceOf None listing filter = (bytes : List ℕ) × GivesFile bytes filter.program × IsListed None true (encode_lower bytes) listing None

pub record IsOrigin (size : ℕ) (origin : OriginView) : Type 0 where
  pub source : IsSourceOf origin.text origin.listing origin.filter
  pub fits : origin.filter.size ≡ size

-- the filter of a direction between two nodes, as a plan has it
abbrev pub filter_at : Direction → PeerView → Option VerifiedView
filter_at Import peer = peer.imports
filter_at Export peer = peer.exports

-- the filter at a place
abbrev pub filter_of_place : List OriginView → Option ℕ → Option VerifiedView
filter_of_place all None = None
filter_of_place all (Some place) = option_map (λ origin. origin.filter) (slice_get all place)

-- each filter of a plan is the one that is said to be used there, and where none is said there is none
abbrev pub AreUsesOf : PlanView → OriginsView → Type 0
AreUsesOf plan origins = (way : Direction) (u w : ℕ) → filter_at way (peer plan u w) ≡ filter_of_place origins.all (used_in origins.uses way u w)

-- ---- how they are noted

-- the listing of a text, or of a code file in hexadecimal, whether or not it is refused
abbrev pub HasListing : Bool → List ℕ → List ℕ → Type 0
HasListing is_code source listing = (why : Option Refusal) × IsListed None is_code source listing why

-- the listing of a source
abbrev pub IsListingOf : FilterSource → List ℕ → Type 0
IsListingOf (source.Text text) listing = HasListing false text.now listing
IsListingOf (source.File bytes) listing = HasListing true (encode_lower bytes.now) listing

abbrev pub text_of : FilterSource → Option (List ℕ)
text_of (source.Text text) = Some text.now
text_of (source.File bytes) = None

-- A filter got a name, and is the last of all.
abbrev pub Notes : ℕ → List ℕ → FilterSource → VerifiedView → OriginsView → OriginsView → Type 0
Notes line name given filter old new = (listing : List ℕ) × IsListingOf given listing
    × (new ≡ record old { all = old.all ++ record { name = name; line = line; text = text_of given; listing = listing; filter = filter } ∷ [] })

abbrev pub later_or : Option ℕ → Option ℕ → Option ℕ
later_or None place = place
later_or (Some later) place = Some later

-- the place of the last filter that got a name, counted from a number
abbrev pub last_named_from : ℕ → List OriginView → List ℕ → Option ℕ
last_named_from place [] name = None
last_named_from place (origin ∷ more) name =
    later_or (last_named_from (suc place) more name) (if bytes_eq origin.name name then Some place else None)

abbrev pub last_named : List OriginView → List ℕ → Option ℕ
last_named all name = last_named_from 0 all name

-- A filter is used there from now on, in place of the one that was, and all others where they were.
abbrev pub PutsUse : Use → List Use → List Use → Type 0
PutsUse added old new = (way : Direction) (u w : ℕ)
    → used_in new way u w ≡ (if is_use_of way u w added then Some added.place else used_in old way u w)

-- The filter of this place is used there from now on. Of no filter no use is noted.
abbrev pub NotesUse : Direction → ℕ → ℕ → Option ℕ → OriginsView → OriginsView → Type 0
NotesUse way u w None old new = new ≡ old
NotesUse way u w (Some place) old new =
    (new.all ≡ old.all) × PutsUse (record { direction = way; u = u; w = w; place = place }) old.uses new.uses

-- ---- what they are to a plan

-- what is said to be used is among all
abbrev pub AreAmongAll : OriginsView → Type 0
AreAmongAll origins = (way : Direction) (u w : ℕ) → IfSome (used_in origins.uses way u w) (λ place. place < length origins.all)

-- the origins of the filters of a plan
pub record AreOriginsOf (plan : PlanView) (origins : OriginsView) : Type 0 where
  pub known : All (IsOrigin plan.size) origins.all
  pub used : AreUsesOf plan origins
  pub among : AreAmongAll origins

-- where a name has a filter, it is the last that got it
abbrev pub AreLastOf : OriginsView → Named → Type 0
AreLastOf origins named =
    (name : List ℕ) → IfSome (filter_named named name) (λ filter. filter_of_place origins.all (last_named origins.all name) ≡ Some filter)
