-- The options that a router's file may say. (This project's own choice.)
use Rattle.std.specs.Prelude.{ℕ, Bool, true, false, List, [], ◌∷◌, Option, find, codes}
use Rattle.std.specs.Str.{bytes_eq}
use Rattle.router_files.specs.declared.options.RouterOption.{RouterOption}
use Rattle.router_files.specs.declared.options.RouterOption.TheVariants as option
use Rattle.router_files.specs.declared.options.Shape.{Shape}
use Rattle.router_files.specs.declared.options.Shape.TheVariants.{Alone, Number, Path, Pair, Named, Files, Ends}

-- their names: those of the command line, without the dashes
abbrev pub name_of : RouterOption → List ℕ
name_of option.Size = codes "size"
name_of option.Node = codes "node"
name_of option.Limit = codes "limit"
name_of option.Queue = codes "queue"
name_of option.Retry = codes "retry"
name_of option.Hold = codes "hold"
name_of option.Segments = codes "segments"
name_of option.Settle = codes "settle"
name_of option.Save = codes "save"
name_of option.Routes = codes "routes"
name_of option.Stay = codes "stay"
name_of option.Domain = codes "domain"
name_of option.AllowOtherDomain = codes "allow-other-domain"
name_of option.Prefix = codes "prefix"
name_of option.Filter = codes "filter"
name_of option.Import = codes "import"
name_of option.Export = codes "export"
name_of option.Link = codes "link"
name_of option.Control = codes "control"
name_of option.Log = codes "log"

-- the forms of their lines
abbrev pub form_of : RouterOption → List ℕ
form_of option.Size = codes "size N"
form_of option.Node = codes "node ME"
form_of option.Limit = codes "limit ENTRIES"
form_of option.Queue = codes "queue MESSAGES"
form_of option.Retry = codes "retry SECONDS"
form_of option.Hold = codes "hold SECONDS"
form_of option.Segments = codes "segments COUNT"
form_of option.Settle = codes "settle SECONDS"
form_of option.Save = codes "save FOLDER"
form_of option.Routes = codes "routes FILE"
form_of option.Stay = codes "stay"
form_of option.Domain = codes "domain FILE"
form_of option.AllowOtherDomain = codes "allow-other-domain"
form_of option.Prefix = codes "prefix V PREFIX"
form_of option.Filter = codes "filter NAME FILE"
form_of option.Import = codes "import W NAME"
form_of option.Export = codes "export W NAME"
form_of option.Link = codes "link W IN OUT"
form_of option.Control = codes "control IN OUT [look]"
form_of option.Log = codes "log FILE"

-- what stands behind their names
abbrev pub shape_of : RouterOption → Shape
shape_of option.Size = Number
shape_of option.Node = Number
shape_of option.Limit = Number
shape_of option.Queue = Number
shape_of option.Retry = Number
shape_of option.Hold = Number
shape_of option.Segments = Number
shape_of option.Settle = Number
shape_of option.Save = Path
shape_of option.Routes = Path
shape_of option.Stay = Alone
shape_of option.Domain = Path
shape_of option.AllowOtherDomain = Alone
shape_of option.Prefix = Pair
shape_of option.Filter = Named
shape_of option.Import = Pair
shape_of option.Export = Pair
shape_of option.Link = Files
shape_of option.Control = Ends
shape_of option.Log = Path

-- one line alone may say it: what is said of no node and of no filter
abbrev pub is_single : Shape → Bool
is_single Alone = true
is_single Number = true
is_single Path = true
is_single Pair = false
is_single Named = false
is_single Files = false
is_single Ends = false

abbrev pub stands_once : RouterOption → Bool
stands_once option = is_single (shape_of option)

-- all of them
abbrev pub options : List RouterOption
options =
    option.Size ∷ option.Node ∷ option.Limit ∷ option.Queue ∷ option.Retry ∷ option.Hold ∷ option.Segments ∷ option.Settle ∷ option.Save
    ∷ option.Routes ∷ option.Stay ∷ option.Domain ∷ option.AllowOtherDomain
    ∷ option.Prefix ∷ option.Filter ∷ option.Import ∷ option.Export ∷ option.Link ∷ option.Control
    ∷ option.Log ∷ []

-- an option has a name
abbrev pub is_named : List ℕ → RouterOption → Bool
is_named name option = bytes_eq (name_of option) name

-- the option of a name
unfoldable pub option_in : List ℕ → Option RouterOption
option_in name = find (is_named name) options
