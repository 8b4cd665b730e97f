-- What a line of a router's file says of its option, and why it is refused. (This project's own choice.)
use Rattle.std.specs.Prelude.{◌≡◌, ◌≢◌, ℕ, Bool, false, ◌==◌, ◌||◌, ◌++◌, List, [], ◌∷◌, Option, Some, None, Result, Ok, Err}
use Rattle.std.specs.Prelude.{String, codes, if◌then◌else◌, is_some, string_bytes}
use Rattle.std.specs.List.{list_any}
use Rattle.std.specs.Str.{bytes_eq}
use Rattle.std.specs.declared.alloc.Global.{Global}
use Rattle.line_protocol.specs.Limits.{number_limit}
use Rattle.prefix_patterns.specs.Reading.{number_in}
use Rattle.router_files.specs.Options.{shape_of}
use Rattle.router_files.specs.declared.options.RouterOption.{RouterOption}
use Rattle.router_files.specs.declared.options.Shape.{Shape}
use Rattle.router_files.specs.declared.options.Shape.TheVariants as shape
use Rattle.router_files.specs.declared.said.LineFault.{LineFault}
use Rattle.router_files.specs.declared.said.LineFault.TheVariants as fault
use Rattle.router_files.specs.declared.said.Said.{Said}
use Rattle.router_files.specs.declared.said.Said.TheVariants as said

-- that the option is given; a number; a text, as the command line has it behind the option; a filter's name, and the file of its text
pub data SaidView : Type 0 where
  Given : SaidView
  Number : ℕ → SaidView
  Text : List ℕ → SaidView
  Named : List ℕ → List ℕ → SaidView

abbrev pub view_of : Said → SaidView
view_of said.Given = Given
view_of (said.Number n) = Number n
view_of (said.Text text) = Text (string_bytes text)
view_of (said.Named name file) = Named (string_bytes name) (string_bytes file)

abbrev pub Reading : Type 0
Reading = Result SaidView LineFault

-- only refused memory may stand in place of what a line says
abbrev pub IsFault : {A : Type 0} → Result A LineFault → LineFault → Type 0
IsFault found why = why ≢ fault.Memory → found ≡ Err why

abbrev pub IsSaid : Result Said LineFault → Reading → Type 0
IsSaid (Ok is) found = found ≡ Ok (view_of is)
IsSaid (Err why) found = IsFault found why

-- ---- the names of files: from the root on, or else in the folder of the file that names them

abbrev pub is_absolute : List ℕ → Bool
is_absolute [] = false
is_absolute (byte ∷ bytes) = byte == 47

abbrev pub path_of : List ℕ → List ℕ → List ℕ
path_of folder name = if is_absolute name then name else folder ++ name

-- ---- what the words behind the name of an option say

-- a word is the number of a node
abbrev pub is_node : List ℕ → Bool
is_node word = is_some (number_in number_limit word)

abbrev pub given_said : RouterOption → List (List ℕ) → Reading
given_said option [] = Ok Given
given_said option (value ∷ values) = Err (fault.Form option)

-- a number is at most 4,294,967,295
abbrev pub as_number : Option ℕ → Reading
as_number (Some n) = Ok (Number n)
as_number None = Err fault.Number

abbrev pub number_of : List ℕ → Reading
number_of value = as_number (number_in 4294967295 value)

abbrev pub number_said : RouterOption → List (List ℕ) → Reading
number_said option (value ∷ []) = number_of value
number_said option _ = Err (fault.Form option)

abbrev pub path_said : List ℕ → RouterOption → List (List ℕ) → Reading
path_said folder option (name ∷ []) = Ok (Text (path_of folder name))
path_said folder option _ = Err (fault.Form option)

-- `V=PREFIX` and `W=NAME`
abbrev pub joined : List ℕ → List ℕ → List ℕ
joined node said = node ++ 61 ∷ said

abbrev pub pair_of : List ℕ → List ℕ → Reading
pair_of node said = if is_node node then Ok (Text (joined node said)) else Err fault.Node

abbrev pub pair_said : RouterOption → List (List ℕ) → Reading
pair_said option (node ∷ said ∷ []) = pair_of node said
pair_said option _ = Err (fault.Form option)

abbrev pub named_said : List ℕ → RouterOption → List (List ℕ) → Reading
named_said folder option (name ∷ file ∷ []) = Ok (Named name (path_of folder file))
named_said folder option _ = Err (fault.Form option)

-- `IN,OUT`: what stands before the first comma is IN
abbrev pub is_comma : ℕ → Bool
is_comma byte = byte == 44

abbrev pub both : List ℕ → List ℕ → List ℕ
both input output = input ++ 44 ∷ output

abbrev pub link_over : List ℕ → List ℕ → List ℕ → Reading
link_over node input output = if list_any is_comma input then Err fault.Comma else Ok (Text (joined node (both input output)))

-- `W=IN,OUT`
abbrev pub link_of : List ℕ → List ℕ → List ℕ → List ℕ → Reading
link_of folder node input output =
    if is_node node then link_over node (path_of folder input) (path_of folder output) else Err fault.Node

abbrev pub files_said : List ℕ → RouterOption → List (List ℕ) → Reading
files_said folder option (node ∷ input ∷ output ∷ []) = link_of folder node input output
files_said folder option _ = Err (fault.Form option)

-- `IN,OUT` and `IN,OUT,look`, neither file with a comma in its name
abbrev pub Ends : Type 0
Ends = Result (List ℕ) LineFault

abbrev pub ends_over : List ℕ → List ℕ → Ends
ends_over input output =
    if list_any is_comma input || list_any is_comma output then Err fault.CommaOfControl else Ok (both input output)

abbrev pub ends_of : List ℕ → List ℕ → List ℕ → Ends
ends_of folder input output = ends_over (path_of folder input) (path_of folder output)

abbrev pub IsText : Result (String Global) LineFault → Ends → Type 0
IsText (Ok text) found = found ≡ Ok (string_bytes text)
IsText (Err why) found = IsFault found why

abbrev pub as_text : List ℕ → Ends → Reading
as_text right (Ok ends) = Ok (Text (ends ++ right))
as_text right (Err why) = Err why

abbrev pub looking_of : List ℕ → List ℕ → List ℕ → Reading
looking_of folder input output = as_text (codes ",look") (ends_of folder input output)

abbrev pub ends_said : List ℕ → RouterOption → List (List ℕ) → Reading
ends_said folder option (input ∷ output ∷ []) = as_text [] (ends_of folder input output)
ends_said folder option (input ∷ output ∷ right ∷ []) =
    if bytes_eq right (codes "look") then looking_of folder input output else Err (fault.Form option)
ends_said folder option _ = Err (fault.Form option)

abbrev pub said_as : Shape → List ℕ → RouterOption → List (List ℕ) → Reading
said_as shape.Alone folder option values = given_said option values
said_as shape.Number folder option values = number_said option values
said_as shape.Path folder option values = path_said folder option values
said_as shape.Pair folder option values = pair_said option values
said_as shape.Named folder option values = named_said folder option values
said_as shape.Files folder option values = files_said folder option values
said_as shape.Ends folder option values = ends_said folder option values

abbrev pub said_of : List ℕ → RouterOption → List (List ℕ) → Reading
said_of folder option values = said_as (shape_of option) folder option values
