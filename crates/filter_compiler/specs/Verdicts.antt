-- The meaning of filters: what a filter says of a route, by its commands. As in the BIRD 2.0 User's Guide on filters;
-- that the metric is never lowered, that a zero divisor ends a filter, that a body without a verdict rejects, and what
-- variables are before they are assigned are this project's own choice.
use Rattle.std.specs.Prelude.{ℕ, min, max, true, false, if◌then◌else◌, Option, Some, List, [], ◌∷◌, map}
use Rattle.std.specs.Str.{bytes_eq}
use Rattle.int_sets.specs.Holding.{holds_any}
use Rattle.filter_code.specs.declared.value.Value.{Value}
use Rattle.filter_code.specs.declared.value.Value.TheVariants as value
use Rattle.filter_code.specs.RouteView.{RouteView}
use Rattle.filter_syntax.specs.declared.tree.decl.Kind.{Kind}
use Rattle.filter_syntax.specs.declared.tree.decl.Kind.TheVariants as kind
use Rattle.filter_syntax.specs.SyntaxCommands.{CommandView, empty, block, if_then, if_else, case, assign}
use Rattle.filter_syntax.specs.SyntaxCommands.{accept, reject, CommandsView, no_commands, command_then}
use Rattle.filter_syntax.specs.SyntaxCommands.{TargetView, to_name, to_metric, DeclView, ranges_label, else_label, PartsView, no_parts, part_then}
use Rattle.filter_syntax.specs.Syntax.{range_of}
use Rattle.filter_syntax.specs.SyntaxText as syntax
use Rattle.filter_compiler.specs.Meaning.{Bound, Scene, value_of}

-- what a filter says of a route: it accepts it with a metric, rejects it, or is divided, which counts as rejected
pub data Verdict : Type 0 where
  accepted : (metric : ℕ) → Verdict
  rejected : Verdict
  divided : Verdict

-- what commands come to: what they leave to the next ones, or the filter's verdict
pub data Course : Type 0 where
  goes_on : (scene : Scene) → Course
  ends : (verdict : Verdict) → Course

-- the value that a variable has before it is assigned
abbrev pub unassigned : Kind → Value
unassigned kind.Int = value.Int 0
unassigned kind.Bool = value.Bool false
unassigned kind.Ip = value.Addr (record { 0 = 0 })
unassigned kind.Prefix = value.Net []

abbrev pub declared_as : DeclView → Bound
declared_as d = record { name = d.name; value = unassigned d.kind }

-- the variables after one of them is assigned
abbrev pub assigned : List Bound → List ℕ → Value → List Bound
assigned [] text v = []
assigned (b ∷ rest) text v =
    if bytes_eq b.name text then record { name = b.name; value = v } ∷ rest else b ∷ assigned rest text v

-- the metric that an int sets: at least the metric received, and at most the size
abbrev pub kept_in_range : RouteView → ℕ → ℕ
kept_in_range route n = min (max n route.metric) route.size

-- what a value sets; `net` is never assigned
abbrev pub set_to : RouteView → Scene → TargetView → Option Value → Course
set_to route scene (to_name text) (Some v) = goes_on (record { variables = assigned scene.variables text v; metric = scene.metric })
set_to route scene to_metric (Some (value.Int n)) = goes_on (record { variables = scene.variables; metric = kept_in_range route n })
set_to route scene _ _ = ends divided

-- one of two courses, by the value of a test
abbrev pub chosen_by : Option Value → Course → Course → Course
chosen_by (Some (value.Bool true)) first second = first
chosen_by (Some (value.Bool false)) first second = second
chosen_by _ first second = ends divided

-- what follows, where nothing has ended the filter
abbrev pub then_do : Course → (Scene → Course) → Course
then_do (goes_on scene) more = more scene
then_do (ends verdict) more = ends verdict

-- what an int chooses
abbrev pub for_int : Option Value → (ℕ → Course) → Course
for_int (Some (value.Int n)) course = course n
for_int _ course = ends divided

-- what a command comes to, commands one after another, and the parts of a `case` for the value of its argument: the part whose label
-- holds it, otherwise the `else` part, otherwise nothing
abbrev mutual
  pub course_of : RouteView → CommandView → Scene → Course
  course_of route empty scene = goes_on scene
  course_of route (block body) scene = course_of_all route body scene
  course_of route (if_then test chosen) scene =
      chosen_by (value_of route scene test) (course_of route chosen scene) (goes_on scene)
  course_of route (if_else test chosen other) scene =
      chosen_by (value_of route scene test) (course_of route chosen scene) (course_of route other scene)
  course_of route (case argument parts) scene =
      for_int (value_of route scene argument) (λ n. course_of_parts route parts n scene (goes_on scene))
  course_of route (assign target value) scene = set_to route scene target (value_of route scene value)
  course_of route (accept has_text) scene = ends (accepted scene.metric)
  course_of route (reject has_text) scene = ends rejected

  pub course_of_all : RouteView → CommandsView → Scene → Course
  course_of_all route no_commands scene = goes_on scene
  course_of_all route (command_then first more) scene = then_do (course_of route first scene) (course_of_all route more)

  pub course_of_parts : RouteView → PartsView → ℕ → Scene → Course → Course
  course_of_parts route no_parts n scene other = other
  course_of_parts route (part_then (ranges_label ranges) commands more) n scene other =
      if holds_any n (map range_of ranges) then course_of_all route commands scene else course_of_parts route more n scene other
  course_of_parts route (part_then else_label commands more) n scene other =
      course_of_parts route more n scene (course_of_all route commands scene)

-- a body that ends without a verdict rejects
abbrev pub verdict_of : Course → Verdict
verdict_of (goes_on scene) = rejected
verdict_of (ends verdict) = verdict

-- what a filter begins with
abbrev pub begun : syntax.FilterView → RouteView → Scene
begun filter route = record { variables = map declared_as filter.decls; metric = route.metric }

-- what a filter says of a route
abbrev pub meaning : syntax.FilterView → RouteView → Verdict
meaning filter route = verdict_of (course_of_all route filter.body (begun filter route))
