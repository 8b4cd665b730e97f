-- A plan stays one when an option is added.
use Rattle.std.proofs.Common.{Global, ◌≡◌, ◌&&◌, ℕ, ◌≤◌, ◌==◌, Bool, true, false, List, [], ◌∷◌, ◌++◌, refl, sym, ap, subst, ◌∙◌, arith}
use Rattle.std.specs.Prelude.{String, string_bytes}
use Rattle.std.specs.List.{count_by, list_any}
use Rattle.std.specs.Str.{bytes_eq}
use Rattle.std.proofs.lemmas.Bool.Decides.{nat_tests}
use Rattle.std.proofs.lemmas.List.Elements.{All-push, All-weaker}
use Rattle.netchange_core.specs.OpeningView.{OpeningView}
use Rattle.router_options.specs.Forms.{IsControl, IsUse, said_in}
use Rattle.router_options.specs.PlanView.{IsPlan, IsUsed, PlanView, has_filter, is_member, is_neighbour}
use Rattle.router_options.specs.Plans.{AddsControl, AddsExport, AddsFilter, AddsImport, AddsLink, MayLink, MayPlace, MayUse, RefusesUse}
use Rattle.router_options.specs.declared.fault.OptionFault.TheVariants as fault
use Rattle.router_options.specs.declared.parts.ControlFiles.{ControlFiles}
use Rattle.router_options.specs.declared.parts.FilterUse.{FilterUse}
use Rattle.router_options.specs.declared.parts.LinkFiles.{LinkFiles}
use Rattle.router_options.specs.declared.parts.NodePrefix.{NodePrefix}
use Rattle.router_options.proofs.Counting.{still_any, still_one}

-- a test of equal numbers
same_node : (a b : ℕ) → (a == b) ≡ true → a ≡ b
same_node a b h = grind (arith, nat_tests)

-- No two are of one node, where none is of the node of the new one.
one_of_a_node : {X : Type 0} (node_of : X → ℕ) (xs : List X) (x : X) → ((node : ℕ) → count_by (λ y. node_of y == node) xs ≤ 1)
    → list_any (λ y. node_of y == node_of x) xs ≡ false → (node : ℕ) → count_by (λ y. node_of y == node) (xs ++ x ∷ []) ≤ 1
one_of_a_node node_of xs x few first node =
    still_one (λ y. node_of y == node) xs x (few node)
    (λ same. subst (λ (n : ℕ). list_any (λ y. node_of y == n) xs ≡ false) (same_node (node_of x) node same) first)

pub with_link : (plan : PlanView) (text : List ℕ) (link : LinkFiles) → IsPlan plan → MayLink plan text link
    → IsPlan (record plan { links = plan.links ++ link ∷ [] })
with_link plan text link h may = record {
  limit = h.limit;
  queue = h.queue;
  hold = h.hold;
  members = h.members;
  neighbours = All-push (λ (l : LinkFiles). is_neighbour plan.opening l.node ≡ true) plan.links link h.neighbours may.neighbour;
  imports = h.imports;
  exports = h.exports;
  one_prefix = h.one_prefix;
  one_import = h.one_import;
  one_export = h.one_export;
  one_link = one_of_a_node (λ (l : LinkFiles). l.node) plan.links link h.one_link may.first;
}

used : (plan : PlanView) (uses : List FilterUse) (text : List ℕ) (u : FilterUse) → MayUse plan uses text u
    → IsUsed plan.opening plan.filters u
used plan uses text u may = record {
  neighbour = may.neighbour;
  given = ap (has_filter plan.filters) may.says.name ∙ may.given;
}

pub with_import : (plan : PlanView) (text : List ℕ) (u : FilterUse) → IsPlan plan → MayUse plan plan.imports text u
    → IsPlan (record plan { imports = plan.imports ++ u ∷ [] })
with_import plan text u h may = record {
  limit = h.limit;
  queue = h.queue;
  hold = h.hold;
  members = h.members;
  neighbours = h.neighbours;
  imports = All-push (IsUsed plan.opening plan.filters) plan.imports u h.imports (used plan plan.imports text u may);
  exports = h.exports;
  one_prefix = h.one_prefix;
  one_import = one_of_a_node (λ (used : FilterUse). used.node) plan.imports u h.one_import may.first;
  one_export = h.one_export;
  one_link = h.one_link;
}

pub with_export : (plan : PlanView) (text : List ℕ) (u : FilterUse) → IsPlan plan → MayUse plan plan.exports text u
    → IsPlan (record plan { exports = plan.exports ++ u ∷ [] })
with_export plan text u h may = record {
  limit = h.limit;
  queue = h.queue;
  hold = h.hold;
  members = h.members;
  neighbours = h.neighbours;
  imports = h.imports;
  exports = All-push (IsUsed plan.opening plan.filters) plan.exports u h.exports (used plan plan.exports text u may);
  one_prefix = h.one_prefix;
  one_import = h.one_import;
  one_export = one_of_a_node (λ (used : FilterUse). used.node) plan.exports u h.one_export may.first;
  one_link = h.one_link;
}

-- what is used stays given
still_used : (opening : OpeningView) (filters : List (String Global)) (filter : String Global) (u : FilterUse) → IsUsed opening filters u
    → IsUsed opening (filters ++ filter ∷ []) u
still_used opening filters filter u h = record {
  neighbour = h.neighbour;
  given = still_any (λ (f : String Global). bytes_eq (string_bytes f) (string_bytes u.name)) filters filter h.given;
}

pub with_filter : (plan : PlanView) (filter : String Global) → IsPlan plan → IsPlan (record plan { filters = plan.filters ++ filter ∷ [] })
with_filter plan filter h =
    let more = λ (u : FilterUse) (k : IsUsed plan.opening plan.filters u). still_used plan.opening plan.filters filter u k in record {
      limit = h.limit;
      queue = h.queue;
      hold = h.hold;
      members = h.members;
      neighbours = h.neighbours;
      imports = All-weaker (IsUsed plan.opening plan.filters) (IsUsed plan.opening (plan.filters ++ filter ∷ [])) more plan.imports h.imports;
      exports = All-weaker (IsUsed plan.opening plan.filters) (IsUsed plan.opening (plan.filters ++ filter ∷ [])) more plan.exports h.exports;
      one_prefix = h.one_prefix;
      one_import = h.one_import;
      one_export = h.one_export;
      one_link = h.one_link;
    }

-- other prefixes change no neighbour
pub with_prefix : (plan : PlanView) (text : List ℕ) (given : NodePrefix) (prefixes : List (List Bool)) → IsPlan plan → MayPlace plan text given
    → IsPlan (record plan { opening = record plan.opening { prefixes = prefixes }; placed = plan.placed ++ given.node ∷ [] })
with_prefix plan text given prefixes h may = record {
  limit = h.limit;
  queue = h.queue;
  hold = h.hold;
  members = All-push (λ (node : ℕ). is_member plan.opening node ≡ true) plan.placed given.node h.members may.member;
  neighbours = h.neighbours;
  imports = All-weaker (IsUsed plan.opening plan.filters) (IsUsed (record plan.opening { prefixes = prefixes }) plan.filters)
      (λ u k. record { neighbour = k.neighbour; given = k.given }) plan.imports h.imports;
  exports = All-weaker (IsUsed plan.opening plan.filters) (IsUsed (record plan.opening { prefixes = prefixes }) plan.filters)
      (λ u k. record { neighbour = k.neighbour; given = k.given }) plan.exports h.exports;
  one_prefix = one_of_a_node (λ (node : ℕ). node) plan.placed given.node h.one_prefix may.first;
  one_import = h.one_import;
  one_export = h.one_export;
  one_link = h.one_link;
}

-- ---- what a call that adds an option leaves: `v` is the plan as it was

module _ (old v : PlanView) (text : List ℕ) (is : v ≡ old) where
  pub adds_link : (link : LinkFiles) (links : List LinkFiles) → MayLink old text link → links ≡ v.links ++ link ∷ []
      → AddsLink old text (record v { links = links })
  adds_link link links may e =
      subst (λ (p : PlanView). AddsLink p text (record v { links = links })) is
      (link, subst (λ (p : PlanView). MayLink p text link) (sym is) may, ap (λ (l : List LinkFiles). record v { links = l }) e)

  pub plan_link : (link : LinkFiles) (links : List LinkFiles) → IsPlan v → MayLink old text link → links ≡ v.links ++ link ∷ []
      → IsPlan (record v { links = links })
  plan_link link links h may e =
      subst (λ (l : List LinkFiles). IsPlan (record v { links = l })) (sym e)
      (with_link v text link h (subst (λ (p : PlanView). MayLink p text link) (sym is) may))

  may_use : (u : FilterUse) (uses others : List FilterUse) → uses ≡ others → MayUse old uses text u → MayUse v others text u
  may_use u uses others are may =
      subst (λ (l : List FilterUse). MayUse v l text u) are (subst (λ (p : PlanView). MayUse p uses text u) (sym is) may)

  pub adds_import : (u : FilterUse) (uses imports : List FilterUse) → uses ≡ v.imports → MayUse old uses text u → imports ≡ v.imports ++ u ∷ []
      → AddsImport old text (record v { imports = imports })
  adds_import u uses imports are may e =
      subst (λ (p : PlanView). AddsImport p text (record v { imports = imports })) is
      (u, may_use u uses v.imports are may, ap (λ (l : List FilterUse). record v { imports = l }) e)

  pub plan_import : (u : FilterUse) (uses imports : List FilterUse) → IsPlan v → uses ≡ v.imports → MayUse old uses text u
      → imports ≡ v.imports ++ u ∷ [] → IsPlan (record v { imports = imports })
  plan_import u uses imports h are may e =
      subst (λ (l : List FilterUse). IsPlan (record v { imports = l })) (sym e) (with_import v text u h (may_use u uses v.imports are may))

  pub adds_export : (u : FilterUse) (uses exports : List FilterUse) → uses ≡ v.exports → MayUse old uses text u → exports ≡ v.exports ++ u ∷ []
      → AddsExport old text (record v { exports = exports })
  adds_export u uses exports are may e =
      subst (λ (p : PlanView). AddsExport p text (record v { exports = exports })) is
      (u, may_use u uses v.exports are may, ap (λ (l : List FilterUse). record v { exports = l }) e)

  pub plan_export : (u : FilterUse) (uses exports : List FilterUse) → IsPlan v → uses ≡ v.exports → MayUse old uses text u
      → exports ≡ v.exports ++ u ∷ [] → IsPlan (record v { exports = exports })
  plan_export u uses exports h are may e =
      subst (λ (l : List FilterUse). IsPlan (record v { exports = l })) (sym e) (with_export v text u h (may_use u uses v.exports are may))

  pub adds_filter : (filter : String Global) (filters : List (String Global)) → string_bytes filter ≡ text → filters ≡ v.filters ++ filter ∷ []
      → AddsFilter old text (record v { filters = filters })
  adds_filter filter filters named e =
      subst (λ (p : PlanView). AddsFilter p text (record v { filters = filters })) is
      (filter, named, ap (λ (l : List (String Global)). record v { filters = l }) e)

  pub adds_control : (files : ControlFiles) (controls : List ControlFiles) → IsControl text files → controls ≡ v.controls ++ files ∷ []
      → AddsControl old text (record v { controls = controls })
  adds_control files controls says e =
      subst (λ (p : PlanView). AddsControl p text (record v { controls = controls })) is
      (files, says, ap (λ (l : List ControlFiles). record v { controls = l }) e)

  pub plan_prefix : (given : NodePrefix) (opening : OpeningView) (placed : List ℕ) (prefixes : List (List Bool)) → IsPlan v
      → MayPlace old text given → opening ≡ record v.opening { prefixes = prefixes } → placed ≡ v.placed ++ given.node ∷ []
      → IsPlan (record v { opening = opening; placed = placed })
  plan_prefix given opening placed prefixes h may set pushed =
      subst (λ (o : OpeningView). IsPlan (record v { opening = o; placed = placed })) (sym set)
      (subst (λ (l : List ℕ). IsPlan (record v { opening = record v.opening { prefixes = prefixes }; placed = l })) (sym pushed)
      (with_prefix v text given prefixes h (subst (λ (p : PlanView). MayPlace p text given) (sym is) may)))

pub plan_filter : (v : PlanView) (filter : String Global) (filters : List (String Global)) → IsPlan v → filters ≡ v.filters ++ filter ∷ []
    → IsPlan (record v { filters = filters })
plan_filter v filter filters h e =
    subst (λ (l : List (String Global)). IsPlan (record v { filters = l })) (sym e) (with_filter v filter h)

-- a name that no filter has
pub unknown_filter : (old v : PlanView) (uses : List FilterUse) (text : List ℕ) (u : FilterUse) (given : Bool) (filters : List (String Global))
    (name : List ℕ) → v ≡ old → IsUse text u → is_neighbour v.opening u.node ≡ true → filters ≡ v.filters → name ≡ string_bytes u.name
    → given ≡ has_filter filters name → given ≡ false → RefusesUse old uses text fault.UnknownFilter
unknown_filter old v uses text u given filters name is says near same named has lacks =
    subst (λ (p : PlanView). RefusesUse p uses text fault.UnknownFilter) is (
      u,
      says,
      near,
      ap (λ (l : List (String Global)). has_filter l (said_in text)) (sym same) ∙ ap (has_filter filters) (sym (named ∙ says.name))
          ∙ sym has ∙ lacks,
    )

-- numbers that fit are those of a domain
pub fit_network : (a b c d e f : Bool) → (((((a && b) && c) && d) && e) && f) ≡ true → a ≡ true
fit_network true b c d e f h = refl
fit_network false b c d e f h = cc
