-- Worked rows: the definitions say of these filters what they should.
use Rattle.std.proofs.Common.{◌≡◌, ℕ, true, false, Some, None, List, [], ◌∷◌, refl, arith}
use Rattle.std.specs.Prelude.{codes}
use Rattle.filter_syntax.specs.Syntax.{ExprView, RangeView, SetView}
use Rattle.filter_syntax.specs.SyntaxCommands.{CommandView, CommandsView, LabelView, PartsView, TargetView, DeclView}
use Rattle.filter_syntax.specs.SyntaxText.{FilterView}
use Rattle.filter_syntax.specs.declared.tree.decl.Kind.TheVariants as kind
use Rattle.filter_syntax.specs.declared.tree.expr.Attribute.TheVariants as attributes
use Rattle.filter_syntax.specs.declared.tree.op.Membership.TheVariants as membership
use Rattle.filter_syntax.specs.declared.tree.op.Op.TheVariants as o
use Rattle.filter_syntax.specs.declared.tree.op.Suffix.TheVariants as suffix
use Rattle.filter_types.specs.Kinds.{KindsFit, IsTyped, kind_in, number_of}

-- `int a; ip b; int c;`
abbrev variables : List DeclView
variables =
    record { kind = kind.Int; name = codes "a" } ∷ record { kind = kind.Ip; name = codes "b" } ∷ record { kind = kind.Int; name = codes "c" } ∷ []

abbrev named : List ℕ → ExprView
named text = ExprView.name text

-- `a + 1` is an int, `a + true` nothing
pub sum : kind_in variables (ExprView.binary o.Add (named (codes "a")) (ExprView.number 1)) ≡ Some kind.Int
sum = refl

pub sum_of_a_bool : kind_in variables (ExprView.binary o.Add (named (codes "a")) (ExprView.truth true)) ≡ None
sum_of_a_bool = refl

-- `1 = true` is nothing, `b = 10.0.0.1` a bool
pub unlike : kind_in variables (ExprView.binary o.Equal (ExprView.number 1) (ExprView.truth true)) ≡ None
unlike = refl

pub alike : kind_in variables (ExprView.binary o.Equal (named (codes "b")) (ExprView.address 167772161)) ≡ Some kind.Bool
alike = refl

-- `net < net` is nothing, `a < c` a bool
pub no_order : kind_in variables (ExprView.binary o.Less (ExprView.attribute attributes.Net) (ExprView.attribute attributes.Net)) ≡ None
no_order = refl

pub order : kind_in variables (ExprView.binary o.Less (named (codes "a")) (named (codes "c"))) ≡ Some kind.Bool
order = refl

-- `net ~ b` is nothing, `b ~ net` a bool; `b ~ [..]` is nothing, `net ~ [..]` a bool
pub in_an_ip : kind_in variables (ExprView.binary o.Match (ExprView.attribute attributes.Net) (named (codes "b"))) ≡ None
in_an_ip = refl

pub in_a_prefix : kind_in variables (ExprView.binary o.Match (named (codes "b")) (ExprView.attribute attributes.Net)) ≡ Some kind.Bool
in_a_prefix = refl

pub ip_in_a_set : kind_in variables (ExprView.member membership.In (named (codes "b")) (SetView.of_patterns [])) ≡ None
ip_in_a_set = refl

pub prefix_in_a_set : kind_in variables (ExprView.member membership.In (ExprView.attribute attributes.Net) (SetView.of_patterns [])) ≡ Some kind.Bool
prefix_in_a_set = refl

-- `a ~ [2, 4..6]` is a bool, `net ~ [2, 4..6]` and `a ~ [..]` of prefixes nothing
abbrev of_ints : SetView
of_ints = SetView.of_ranges (RangeView.one 2 ∷ RangeView.from_to 4 6 ∷ [])

pub int_in_a_set : kind_in variables (ExprView.member membership.In (named (codes "a")) of_ints) ≡ Some kind.Bool
int_in_a_set = refl

pub prefix_in_ints : kind_in variables (ExprView.member membership.In (ExprView.attribute attributes.Net) of_ints) ≡ None
prefix_in_ints = refl

pub int_in_prefixes : kind_in variables (ExprView.member membership.NotIn (named (codes "a")) (SetView.of_patterns [])) ≡ None
int_in_prefixes = refl

-- `!a` is nothing, `!defined(net)` a bool
pub no_negation : kind_in variables (ExprView.negation (named (codes "a"))) ≡ None
no_negation = refl

pub negation : kind_in variables (ExprView.negation (ExprView.defined attributes.Net)) ≡ Some kind.Bool
negation = refl

-- `net.ip.mask(8)` is an ip, `net.mask(8)` and `b.len` nothing
pub masked : kind_in variables (ExprView.suffixed (ExprView.suffixed (ExprView.attribute attributes.Net) suffix.Ip) (suffix.Mask 8)) ≡ Some kind.Ip
masked = refl

pub mask_of_a_prefix : kind_in variables (ExprView.suffixed (ExprView.attribute attributes.Net) (suffix.Mask 8)) ≡ None
mask_of_a_prefix = refl

pub length_of_an_ip : kind_in variables (ExprView.suffixed (named (codes "b")) suffix.Len) ≡ None
length_of_an_ip = refl

-- a name that is not declared has no kind, also where the left side decides
pub unknown : kind_in variables (ExprView.binary o.And (ExprView.truth false) (named (codes "z"))) ≡ None
unknown = refl

-- variables are numbered from 0
pub first : number_of variables (codes "a") ≡ 0
first = refl

pub third : number_of variables (codes "c") ≡ 2
third = refl

-- `c = a;` fits, `a = true;`, `net = 1;` and `rip_metric = true;` do not
pub assigned : KindsFit variables (CommandView.assign (TargetView.to_name (codes "c")) (named (codes "a")))
assigned = (kind.Int, refl, refl)

pub of_another_kind : KindsFit variables (CommandView.assign (TargetView.to_name (codes "a")) (ExprView.truth true)) → ⊥
of_another_kind h = let p : Some kind.Int ≡ Some h.0 = h.1 in let q : Some kind.Bool ≡ Some h.0 = h.2 in cc

pub net_assigned : KindsFit variables (CommandView.assign TargetView.to_net (ExprView.number 1)) → ⊥
net_assigned h = let p : None ≡ Some h.0 = h.1 in cc

pub metric_of_a_bool : KindsFit variables (CommandView.assign TargetView.to_metric (ExprView.truth true)) → ⊥
metric_of_a_bool h = let p : Some kind.Int ≡ Some h.0 = h.1 in let q : Some kind.Bool ≡ Some h.0 = h.2 in cc

-- `if a then accept;` does not fit
pub if_of_an_int : KindsFit variables (CommandView.if_then (named (codes "a")) (CommandView.accept false)) → ⊥
if_of_an_int h = let p : Some kind.Int ≡ Some kind.Bool = h.0 in cc

-- `case a { 1..3: 2: }` does not fit, nor does `case b { }`; `case a { 1, 1: }` does
abbrev a_part : List RangeView → PartsView → PartsView
a_part ranges more = PartsView.part_then (LabelView.ranges_label ranges) CommandsView.no_commands more

pub label_shared : KindsFit variables (CommandView.case (named (codes "a"))
    (a_part (RangeView.from_to 1 3 ∷ []) (a_part (RangeView.one 2 ∷ []) PartsView.no_parts))) → ⊥
label_shared h =
    h.1 0 1 [] (omega arith) (omega arith) 2
    (0, record { low = 1; high = 3 }, omega arith, refl, record { low = omega arith; high = omega arith })
    (0, record { low = 2; high = 2 }, omega arith, refl, record { low = omega arith; high = omega arith })

pub case_of_an_ip : KindsFit variables (CommandView.case (named (codes "b")) PartsView.no_parts) → ⊥
case_of_an_ip h = let p : Some kind.Ip ≡ Some kind.Int = h.0 in cc

pub in_one_label : KindsFit variables (CommandView.case (named (codes "a")) (a_part (RangeView.one 1 ∷ RangeView.one 1 ∷ []) PartsView.no_parts))
in_one_label = (refl, (λ i j d before inside. absurd (omega (arith, before, inside))), (tt, tt))

-- `filter q { int a; int a; }` does not fit
abbrev twice : FilterView
twice =
    record {
      name = codes "q";
      decls = record { kind = kind.Int; name = codes "a" } ∷ (record { kind = kind.Int; name = codes "a" } ∷ []);
      body = CommandsView.no_commands;
      tokens = [];
    }

pub declared_twice : IsTyped twice → ⊥
declared_twice h = h.declared.once 0 1 (record { kind = kind.Int; name = codes "a" }) (omega arith) (omega arith) refl
