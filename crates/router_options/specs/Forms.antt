-- The forms of a router's options. (This project's own choice.)
use Rattle.std.specs.Prelude.{◌≡◌, ◌==◌, ◌&&◌, ◌||◌, ℕ, Bool, true, false, not, nat_lt, List, length}
use Rattle.std.specs.Prelude.{Option, Some, None, codes, if◌then◌else◌, is_some, string_bytes}
use Rattle.std.specs.List.{after_first, before_first, position_or_len}
use Rattle.std.specs.Str.{bytes_eq}
use Rattle.line_protocol.specs.Limits.{number_limit}
use Rattle.line_protocol.specs.Names.{is_name}
use Rattle.prefix_patterns.specs.Reading.{number_in, prefix_in}
use Rattle.router_options.specs.declared.fault.OptionFault.{OptionFault}
use Rattle.router_options.specs.declared.fault.OptionFault.TheVariants as fault
use Rattle.router_options.specs.declared.parts.ControlFiles.{ControlFiles}
use Rattle.router_options.specs.declared.parts.FilterUse.{FilterUse}
use Rattle.router_options.specs.declared.parts.LinkFiles.{LinkFiles}
use Rattle.router_options.specs.declared.parts.NodePrefix.{NodePrefix}

-- ---- a node, and what is said of it

abbrev pub is_equals : ℕ → Bool
is_equals byte = byte == 61

-- the number of a node before the first `=`
abbrev pub node_in : List ℕ → Option ℕ
node_in text =
    if nat_lt (position_or_len is_equals text) (length text) then number_in number_limit (before_first is_equals text) else None

-- what is said of the node behind it
abbrev pub said_in : List ℕ → List ℕ
said_in text = after_first is_equals text

-- ---- two files

abbrev pub is_comma : ℕ → Bool
is_comma byte = byte == 44

abbrev pub is_empty : List ℕ → Bool
is_empty text = length text == 0

-- what stands before the first comma, and behind it
abbrev pub input_in : List ℕ → List ℕ
input_in text = before_first is_comma text

abbrev pub output_in : List ℕ → List ℕ
output_in text = after_first is_comma text

-- there is a comma, and neither file has an empty name
abbrev pub are_files : List ℕ → Bool
are_files text =
    nat_lt (position_or_len is_comma text) (length text) && not (is_empty (input_in text)) && not (is_empty (output_in text))

-- ---- the output of a control, and the right of its operator: `OUT` or `OUT,look`

abbrev pub has_comma : List ℕ → Bool
has_comma text = nat_lt (position_or_len is_comma text) (length text)

abbrev pub looks_in : List ℕ → Bool
looks_in text = has_comma text

abbrev pub end_in : List ℕ → List ℕ
end_in text = if has_comma text then before_first is_comma text else text

abbrev pub is_end : List ℕ → Bool
is_end text = not (is_empty (end_in text)) && (not (has_comma text) || bytes_eq (after_first is_comma text) (codes "look"))

-- ---- the four forms: `W=IN,OUT`, `W=NAME`, `V=PREFIX` and `IN,OUT` or `IN,OUT,look`

abbrev pub is_control : List ℕ → Bool
is_control text = are_files text && is_end (output_in text)

abbrev pub is_link : List ℕ → Bool
is_link text = is_some (node_in text) && are_files (said_in text)

abbrev pub is_use : List ℕ → Bool
is_use text = is_some (node_in text) && is_name (said_in text)

abbrev pub is_prefix : List ℕ → Bool
is_prefix text = is_some (node_in text) && is_some (prefix_in (said_in text))

-- a text of the form says this
pub record IsLink (text : List ℕ) (link : LinkFiles) : Type 0 where
  pub form : is_link text ≡ true
  pub node : node_in text ≡ Some link.node
  pub input : string_bytes link.input ≡ input_in (said_in text)
  pub output : string_bytes link.output ≡ output_in (said_in text)

pub record IsControl (text : List ℕ) (files : ControlFiles) : Type 0 where
  pub form : is_control text ≡ true
  pub input : string_bytes files.input ≡ input_in text
  pub output : string_bytes files.output ≡ end_in (output_in text)
  pub looks : files.looks ≡ looks_in (output_in text)

pub record IsUse (text : List ℕ) (used : FilterUse) : Type 0 where
  pub form : is_use text ≡ true
  pub node : node_in text ≡ Some used.node
  pub name : string_bytes used.name ≡ said_in text

pub record IsPrefix (text : List ℕ) (given : NodePrefix) : Type 0 where
  pub form : is_prefix text ≡ true
  pub node : node_in text ≡ Some given.node
  pub prefix : prefix_in (said_in text) ≡ Some given.prefix

-- a text is refused where it is not of the form, unless memory was refused
abbrev pub IsNoForm : Bool → OptionFault → Type 0
IsNoForm form fault.Form = form ≡ false
IsNoForm form fault.Memory = Unit {0}
IsNoForm form _ = ⊥
