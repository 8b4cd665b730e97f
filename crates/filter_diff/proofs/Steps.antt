-- Instructions on symbols.
use Rattle.std.proofs.Common.{◌≡◌, ℕ, zero, suc, ◌+◌, ◌<◌, true, false, Option, Some, None, List, [], ◌∷◌, length, map, replicate}
use Rattle.std.proofs.Common.{refl, sym, ap, arith}
use Rattle.std.specs.Prelude.{nat_lt, slice_get, slice_set}
use Rattle.std.specs.Option.{option_map}
use Rattle.std.proofs.lemmas.Bool.Decides.{nat_tests}
use Rattle.std.proofs.lemmas.List.{length-map}
use Rattle.filter_code.specs.declared.instruction.Instr.{Instr}
use Rattle.filter_code.specs.declared.instruction.Instr.TheVariants as instr
use Rattle.filter_code.specs.CodeView.{CodeView}
use Rattle.filter_code.specs.RouteView.{RouteView}
use Rattle.filter_code.specs.Machine.{State, Going, carry_out, unless_full}
use Rattle.filter_code.proofs.Runs.{ReachesIn, begun_in, carried_on, carried_over, outcome_after}
use Rattle.filter_diff.specs.Classes.{Always, IsKnown}
use Rattle.filter_diff.specs.Endings.{outcome_at}
use Rattle.filter_diff.specs.Symbols.{config_at, metric_at, value_at}
use Rattle.filter_diff.specs.Turns.{EndSo, Parts, Takes}
use Rattle.filter_diff.specs.declared.class.Class.{Class}
use Rattle.filter_diff.specs.declared.symbol.SymbolicValue.{SymbolicValue}
use Rattle.filter_diff.specs.declared.turn.Turn.{Turn}
use Rattle.filter_diff.specs.declared.turn.Turn.TheVariants as turn

-- there is room for one more
pub has_room : (n pc : ℕ) (state : State) → n < 32 → unless_full (nat_lt 32 (1 + n)) pc state ≡ state
has_room n pc state h = let e : nat_lt 32 (1 + n) ≡ false = grind (arith, nat_tests) in rw e refl

map-slice_set : {A B : Type 0} (f : A → B) (xs : List A) (i : ℕ) (x : A) → map f (slice_set xs i x) ≡ slice_set (map f xs) i (f x)
map-slice_set f [] i x = refl
map-slice_set f (y ∷ xs) zero x = refl
map-slice_set f (y ∷ xs) (suc i) x = ap (λ ys. f y ∷ ys) (map-slice_set f xs i x)

map-nothing : {A B : Type 0} (f : A → B) (n : ℕ) → map (option_map f) (replicate n None) ≡ replicate n None
map-nothing f zero = refl
map-nothing f (suc n) = ap (λ ys. None ∷ ys) (map-nothing f n)

-- STORE keeps a symbol
pub stores : (program : CodeView) (route : RouteView) (pc : ℕ) (value : SymbolicValue) (stack : List SymbolicValue) (locals : List (Option SymbolicValue))
    (metric : Option ℕ) (i : ℕ) → i < length locals →
    carry_out program route (config_at route pc (value ∷ stack) locals metric) (Some (instr.Store i))
    ≡ Going (config_at route (pc + 1) stack (slice_set locals i (Some value)) metric)
stores program route pc value stack locals metric i h =
    let named : nat_lt i (length (map (option_map (value_at route)) locals)) ≡ true = rw length-map (grind (arith, nat_tests)) in
    rw (named, map-slice_set (option_map (value_at route)) locals i (Some value)) refl

pub stores_at : (program : CodeView) (route : RouteView) (pc i : ℕ) (instruction : Instr) (value : SymbolicValue) (before stack : List SymbolicValue)
    (locals after : List (Option SymbolicValue)) (metric : Option ℕ) → instruction ≡ instr.Store i → before ≡ value ∷ stack →
    after ≡ slice_set locals i (Some value) → i < length locals →
    carry_out program route (config_at route pc before locals metric) (Some instruction)
    ≡ Going (config_at route (pc + 1) stack after metric)
stores_at program route pc i instruction value before stack locals after metric is taken set h =
    rw (is, taken, set) (stores program route pc value stack locals metric i h)

-- the runs of a class come to a configuration
abbrev pub Come : CodeView → Class → ℕ → List SymbolicValue → List (Option SymbolicValue) → Option ℕ → Type 0
Come program class pc stack locals metric =
    Always class (λ (route : RouteView). (n : ℕ) × ReachesIn program route n (config_at route pc stack locals metric))

known_metric : (route : RouteView) (known : Option ℕ) → IsKnown known route.metric → metric_at route known ≡ route.metric
known_metric route None h = refl
known_metric route (Some m) h = sym h

-- they begin with nothing
pub begun : (program : CodeView) (class : Class) (stack : List SymbolicValue) (locals : List (Option SymbolicValue)) → stack ≡ [] →
    locals ≡ replicate program.locals None →
    Always class (λ (route : RouteView). ReachesIn program route 0 (config_at route 0 stack locals class.metric))
begun program class stack locals none e route of =
    rw (none, e, map-nothing (value_at route) program.locals, known_metric route class.metric of.received) (begun_in program route)

pub begin : (program : CodeView) (class : Class) (stack : List SymbolicValue) (locals : List (Option SymbolicValue)) → stack ≡ [] →
    locals ≡ replicate program.locals None → Come program class 0 stack locals class.metric
begin program class stack locals none e route of = (0, begun program class stack locals none e route of)

-- an instruction takes them on
pub go_on : (program : CodeView) (class : Class) (i : Instr) (before after : Parts) →
    Come program class before.pc before.stack before.locals before.metric → slice_get program.instrs before.pc ≡ Some i →
    Takes program class i before after turn.On → Come program class (after.pc + 1) after.stack after.locals after.metric
go_on program class i before after come here takes route of =
    let r = come route of in
    (r.0 + 1, carried_on program route r.0 _ i _ r.1 here (takes route of))

-- or ends them
pub end : (program : CodeView) (class : Class) (i : Instr) (before after : Parts) (how : Turn) →
    Come program class before.pc before.stack before.locals before.metric → slice_get program.instrs before.pc ≡ Some i →
    Takes program class i before after how → EndSo program class how
end program class i before after (turn.Ended e) come here takes =
    λ route of. let r = come route of in
    sym (outcome_after program route (r.0 + 1) (outcome_at route e) (carried_over program route r.0 _ i _ r.1 here (takes route of)))
end program class i before after turn.On come here takes = tt
end program class i before after turn.AsksBits come here takes = tt
end program class i before after turn.AsksMetric come here takes = tt
