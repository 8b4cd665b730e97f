-- Worked rows: the definitions compute the code and the verdicts that they should.
use Rattle.std.proofs.Common.{◌≡◌, ℕ, List, [], ◌∷◌, ◌++◌, Bool, true, false, codes, refl}
use Rattle.int_sets.specs.Holding.{NumberRange}
use Rattle.filter_code.specs.declared.instruction.Instr.{Instr}
use Rattle.filter_code.specs.declared.instruction.Instr.TheVariants as instr
use Rattle.filter_code.specs.RouteView.{RouteView}
use Rattle.filter_code.specs.CodeView as code
use Rattle.filter_syntax.specs.declared.tree.decl.Kind.TheVariants as kind
use Rattle.filter_syntax.specs.declared.tree.expr.Attribute.TheVariants as attributes
use Rattle.filter_syntax.specs.declared.tree.op.Membership.TheVariants as membership
use Rattle.filter_syntax.specs.declared.tree.op.Op.TheVariants as o
use Rattle.filter_syntax.specs.Syntax.{ExprView, number, truth, name, attribute, defined, binary, member}
use Rattle.filter_syntax.specs.Syntax.{group, between, of_patterns, of_ranges, one, from_to}
use Rattle.filter_syntax.specs.SyntaxCommands.{CommandView, block, if_then, if_else, assign, accept, reject, to_name, to_metric, DeclView}
use Rattle.filter_syntax.specs.SyntaxCommands.{case, commands_of, else_label, parts_of, ranges_label}
use Rattle.filter_syntax.specs.SyntaxText as syntax
use Rattle.filter_compiler.specs.Need.{need}
use Rattle.filter_compiler.specs.Translation.{code_of}
use Rattle.filter_compiler.specs.Verdicts.{accepted, rejected, divided, meaning}

-- a filter of these declarations and commands
abbrev filter_of : List DeclView → List CommandView → syntax.FilterView
filter_of decls body = record { name = codes "f"; decls = decls; body = commands_of body; tokens = [] }

-- code without sets
abbrev without_sets : ℕ → List Instr → code.CodeView
without_sets locals instrs = record { locals = locals; sets = []; int_sets = []; instrs = instrs }

-- a route with a metric, in a domain of this size, to a prefix of these bits
abbrev route_of : List Bool → ℕ → ℕ → RouteView
route_of net metric size = record { net = net; metric = metric; size = size }

abbrev metric_of_route : ExprView
metric_of_route = attribute attributes.RipMetric

-- `int var; if defined(rip_metric) then var = rip_metric; else { var = 1; rip_metric = 1; }
-- if rip_metric > 10 then reject "RIP metric is too big"; else accept "ok";`
abbrev not_too_far : syntax.FilterView
not_too_far =
    filter_of (record { kind = kind.Int; name = codes "var" } ∷ [])
    (if_else (defined attributes.RipMetric) (assign (to_name (codes "var")) metric_of_route)
    (block (commands_of (assign (to_name (codes "var")) (number 1) ∷ assign to_metric (number 1) ∷ [])))
    ∷ if_else (binary o.Greater metric_of_route (number 10)) (reject true) (accept true)
    ∷ [])

pub far_code : code_of not_too_far ≡ without_sets 1
    (instr.Int 0 ∷ instr.Store 0 ∷ instr.Bool true ∷ instr.JumpIfNot 3 ∷ instr.Metric ∷ instr.Store 0 ∷ instr.Jump 6 ∷ instr.Int 1
    ∷ instr.Store 0 ∷ instr.Int 1 ∷ instr.Received ∷ instr.Max ∷ instr.SetMetric ∷ instr.Metric ∷ instr.Int 10 ∷ instr.Le ∷ instr.Not
    ∷ instr.JumpIfNot 2 ∷ instr.Reject ∷ instr.Jump 1 ∷ instr.Accept ∷ instr.Reject ∷ [])
far_code = refl

pub far_eleven : meaning not_too_far (route_of [] 11 16) ≡ rejected
far_eleven = refl

pub far_ten : meaning not_too_far (route_of [] 10 16) ≡ accepted 10
far_ten = refl

pub far_need : need not_too_far ≡ 2
far_need = refl

-- `rip_metric = rip_metric + 2; accept;`: a metric is clipped at the size
abbrev up2 : syntax.FilterView
up2 = filter_of [] (assign to_metric (binary o.Add metric_of_route (number 2)) ∷ accept false ∷ [])

pub up2_code : code_of up2 ≡ without_sets 0
    (instr.Metric ∷ instr.Int 2 ∷ instr.Add ∷ instr.Received ∷ instr.Max ∷ instr.SetMetric ∷ instr.Accept ∷ instr.Reject ∷ [])
up2_code = refl

pub up2_seven : meaning up2 (route_of [] 7 8) ≡ accepted 8
up2_seven = refl

-- `rip_metric = 1; accept;`: the metric received is the least
abbrev low : syntax.FilterView
low = filter_of [] (assign to_metric (number 1) ∷ accept false ∷ [])

pub low_code : code_of low ≡ without_sets 0 (instr.Int 1 ∷ instr.Received ∷ instr.Max ∷ instr.SetMetric ∷ instr.Accept ∷ instr.Reject ∷ [])
low_code = refl

pub low_five : meaning low (route_of [] 5 8) ≡ accepted 5
low_five = refl

-- `rip_metric = rip_metric + 4294967295; accept;`: a sum that wraps
abbrev wrap : syntax.FilterView
wrap = filter_of [] (assign to_metric (binary o.Add metric_of_route (number 4294967295)) ∷ accept false ∷ [])

pub wrap_three : meaning wrap (route_of [] 3 8) ≡ accepted 3
wrap_three = refl

-- the bits of 1.0.0.0/8, and those of 1.2.0.0/16
abbrev eight : List Bool
eight = false ∷ false ∷ false ∷ false ∷ false ∷ false ∷ false ∷ true ∷ []

abbrev sixteen : List Bool
sixteen = eight ++ false ∷ false ∷ false ∷ false ∷ false ∷ false ∷ true ∷ false ∷ []

-- `if net ~ [1.0.0.0/8{15,17}] then accept;`
abbrev s : syntax.FilterView
s = filter_of [] (if_then (member membership.In (attribute attributes.Net) (of_patterns (between eight 15 17 ∷ []))) (accept false) ∷ [])

abbrev s_code_wanted : code.CodeView
s_code_wanted = record {
  locals = 0;
  sets = (record { bits = eight; low = 15; high = 17 } ∷ []) ∷ [];
  int_sets = [];
  instrs = instr.Net ∷ instr.Member 0 ∷ instr.JumpIfNot 1 ∷ instr.Accept ∷ instr.Reject ∷ [];
}

pub s_code : code_of s ≡ s_code_wanted
s_code = refl

pub s_taken : meaning s (route_of sixteen 3 8) ≡ accepted 3
s_taken = refl

pub s_too_short : meaning s (route_of eight 3 8) ≡ rejected
s_too_short = refl

-- `int k; k = 4; if 8 / k = 2 then accept;`
abbrev half : syntax.FilterView
half =
    filter_of (record { kind = kind.Int; name = codes "k" } ∷ [])
    (assign (to_name (codes "k")) (number 4)
    ∷ if_then (binary o.Equal (binary o.Div (number 8) (name (codes "k"))) (number 2)) (accept false) ∷ [])

pub half_three : meaning half (route_of [] 3 8) ≡ accepted 3
half_three = refl

-- `if 8 / rip_metric = 2 then accept;`
abbrev d : syntax.FilterView
d = filter_of [] (if_then (binary o.Equal (binary o.Div (number 8) metric_of_route) (number 2)) (accept false) ∷ [])

pub d_code : code_of d ≡ without_sets 0
    (instr.Int 8 ∷ instr.Metric ∷ instr.Div ∷ instr.Int 2 ∷ instr.Eq ∷ instr.JumpIfNot 1 ∷ instr.Accept ∷ instr.Reject ∷ [])
d_code = refl

pub d_four : meaning d (route_of [] 4 8) ≡ accepted 4
d_four = refl

pub d_three : meaning d (route_of [] 3 8) ≡ accepted 3
d_three = refl

pub d_zero : meaning d (route_of [] 0 8) ≡ divided
d_zero = refl

-- `if (true && false) || true then accept;`
abbrev m : syntax.FilterView
m = filter_of [] (if_then (binary o.Or (group (binary o.And (truth true) (truth false))) (truth true)) (accept false) ∷ [])

pub m_three : meaning m (route_of [] 3 8) ≡ accepted 3
m_three = refl

-- `if false then if true then accept; else accept;`: the `else` is that of the inner `if`
abbrev e : syntax.FilterView
e = filter_of [] (if_then (truth false) (if_else (truth true) (accept false) (accept false)) ∷ [])

pub e_code : code_of e ≡ without_sets 0
    (instr.Bool false ∷ instr.JumpIfNot 5 ∷ instr.Bool true ∷ instr.JumpIfNot 2 ∷ instr.Accept ∷ instr.Jump 1 ∷ instr.Accept ∷
    instr.Reject ∷ [])
e_code = refl

pub e_three : meaning e (route_of [] 3 8) ≡ rejected
e_three = refl

-- `if false && 1 / 0 = 1 then accept; else accept;`: the right side is skipped
abbrev z : syntax.FilterView
z =
    filter_of []
    (if_else (binary o.And (truth false) (binary o.Equal (binary o.Div (number 1) (number 0)) (number 1))) (accept false)
    (accept false) ∷ [])

pub z_code : code_of z ≡ without_sets 0
    (instr.Bool false ∷ instr.JumpIfNot 6 ∷ instr.Int 1 ∷ instr.Int 0 ∷ instr.Div ∷ instr.Int 1 ∷ instr.Eq ∷ instr.Jump 1 ∷ instr.Bool false
    ∷ instr.JumpIfNot 2 ∷ instr.Accept ∷ instr.Jump 1 ∷ instr.Accept ∷ instr.Reject ∷ [])
z_code = refl

pub z_three : meaning z (route_of [] 3 8) ≡ accepted 3
z_three = refl

-- the ints from a first one to a last one
abbrev range : ℕ → ℕ → NumberRange
range low high = record { low = low; high = high }

-- code without sets of patterns
abbrev with_int_sets : List (List NumberRange) → List Instr → code.CodeView
with_int_sets int_sets instrs = record { locals = 0; sets = []; int_sets = int_sets; instrs = instrs }

-- `if rip_metric ~ [2, 4..6] then accept;`
abbrev i : syntax.FilterView
i = filter_of [] (if_then (member membership.In metric_of_route (of_ranges (one 2 ∷ from_to 4 6 ∷ []))) (accept false) ∷ [])

pub i_code : code_of i ≡ with_int_sets ((range 2 2 ∷ range 4 6 ∷ []) ∷ [])
    (instr.Metric ∷ instr.InSet 0 ∷ instr.JumpIfNot 1 ∷ instr.Accept ∷ instr.Reject ∷ [])
i_code = refl

pub i_five : meaning i (route_of [] 5 8) ≡ accepted 5
i_five = refl

pub i_three : meaning i (route_of [] 3 8) ≡ rejected
i_three = refl

-- `case rip_metric { 0: reject; 1, 3..5: accept; else: rip_metric = 7; accept; }`
abbrev c : syntax.FilterView
c =
    filter_of []
    (case metric_of_route
    (parts_of ((ranges_label (one 0 ∷ []), commands_of (reject false ∷ []))
    ∷ (ranges_label (one 1 ∷ from_to 3 5 ∷ []), commands_of (accept false ∷ []))
    ∷ (else_label, commands_of (assign to_metric (number 7) ∷ accept false ∷ [])) ∷ [])) ∷ [])

pub c_code : code_of c ≡ with_int_sets ((range 0 0 ∷ []) ∷ (range 1 1 ∷ range 3 5 ∷ []) ∷ [])
    (instr.Metric ∷ instr.InSet 0 ∷ instr.JumpIfNot 2 ∷ instr.Reject ∷ instr.Jump 10 ∷ instr.Metric ∷ instr.InSet 1 ∷ instr.JumpIfNot 2
    ∷ instr.Accept ∷ instr.Jump 5 ∷ instr.Int 7 ∷ instr.Received ∷ instr.Max ∷ instr.SetMetric ∷ instr.Accept ∷ instr.Reject ∷ [])
c_code = refl

pub c_zero : meaning c (route_of [] 0 8) ≡ rejected
c_zero = refl

pub c_one : meaning c (route_of [] 1 8) ≡ accepted 1
c_one = refl

pub c_two : meaning c (route_of [] 2 8) ≡ accepted 7
c_two = refl

pub c_four : meaning c (route_of [] 4 8) ≡ accepted 4
c_four = refl

pub c_eight : meaning c (route_of [] 8 8) ≡ accepted 8
c_eight = refl

-- `case rip_metric { }`: as if a part with no ranges and no commands stood first
abbrev nothing_asked : syntax.FilterView
nothing_asked = filter_of [] (case metric_of_route (parts_of []) ∷ [])

pub nothing_code : code_of nothing_asked ≡ with_int_sets ([] ∷ [])
    (instr.Metric ∷ instr.InSet 0 ∷ instr.JumpIfNot 1 ∷ instr.Jump 0 ∷ instr.Reject ∷ [])
nothing_code = refl

-- `case rip_metric { else: if 1 ~ [8] then accept; 2: if 1 ~ [9] then accept; }`: the `else` part comes last, with the first set
abbrev last : syntax.FilterView
last =
    filter_of []
    (case metric_of_route
    (parts_of ((else_label, commands_of (if_then (member membership.In (number 1) (of_ranges (one 8 ∷ []))) (accept false) ∷ []))
    ∷ (ranges_label (one 2 ∷ []), commands_of (if_then (member membership.In (number 1) (of_ranges (one 9 ∷ []))) (accept false) ∷ []))
    ∷ [])) ∷ [])

pub last_code : code_of last ≡ with_int_sets ((range 8 8 ∷ []) ∷ (range 2 2 ∷ []) ∷ (range 9 9 ∷ []) ∷ [])
    (instr.Metric ∷ instr.InSet 1 ∷ instr.JumpIfNot 5 ∷ instr.Int 1 ∷ instr.InSet 2 ∷ instr.JumpIfNot 1 ∷ instr.Accept ∷ instr.Jump 4
    ∷ instr.Int 1 ∷ instr.InSet 0 ∷ instr.JumpIfNot 1 ∷ instr.Accept ∷ instr.Reject ∷ [])
last_code = refl
