-- What a contract sees of the operator of a running router.
use Rattle.std.specs.Prelude.{◌≡◌, ℕ, Bool, List, Option, Vec}
use Rattle.std.specs.BTreeMap.{is_at}
use Rattle.std.specs.Cmp.Lexicographic.{slice_cmp}
use Rattle.std.specs.Map.{lookup}
use Rattle.std.specs.Option.{option_map}
use Rattle.std.specs.Ordering.{nat_cmp}
use Rattle.std.specs.declared.sync.Arc.{Arc}
use Rattle.std.specs.declared.alloc.Global.{Global}
use Rattle.filter_verifier.specs.VerifiedView.{VerifiedView}
use Rattle.operator_cmds.specs.Script.{ScriptView}
use Rattle.operator_cmds.specs.Stages.{Open}
use Rattle.route_history.specs.JournalView.{JournalView}
use Rattle.route_history.specs.declared.entry.Entry.{Entry}
use Rattle.slot_lock.specs.Passes.{IsPassOf, PassView, RouterView}

-- names, in their order, each with its filter
abbrev pub Names : Type 0
Names = List (Vec ℕ Global × Arc VerifiedView Global)

-- The router; what the operator's pass has seen of its history, and which entries are the operator's; the names of filters; the nodes that
-- have links; and whether the operator said `quit`.
pub record OperatorView : Type 0 where
  pub router : RouterView
  pub pass : PassView
  pub names : Names
  pub links : List ℕ
  pub has_quit : Bool

-- the router's journal, when these are its entries
abbrev pub journal_with : RouterView → List Entry → JournalView
journal_with r log = record { opening = r.opening; limit = r.limit; entries = log }

-- the journal as the operator has seen it
abbrev pub journal_seen : OperatorView → JournalView
journal_seen o = journal_with o.router o.pass.fragment.seen

-- the filter of a name
abbrev pub filter_of : Names → List ℕ → Option VerifiedView
filter_of names name = option_map (λ filter. filter.value) (lookup (is_at (λ key. slice_cmp nat_cmp name key.items)) names)

-- a script that has come as far: its journal is the one that the operator has seen
abbrev pub script_of : OperatorView → ScriptView
script_of o = record { stage = Open (journal_seen o); filters = filter_of o.names }

-- the pass is one of the router, and these numbers are the size of its domain and its limit
pub record IsAt (r : RouterView) (p : PassView) (size limit : ℕ) : Type 0 where
  pub of : IsPassOf r p
  pub nodes : size ≡ r.opening.size
  pub room : limit ≡ r.limit
