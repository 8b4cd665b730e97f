-- What is known of a value, and the facts that an instruction gives. (This project's own choice.)
use Rattle.std.specs.Prelude.{ℕ, ◌==◌, not, Option, Some, None, option_and_then, List, [], ◌∷◌}
use Rattle.filter_code.specs.declared.instruction.Instr.{Instr}
use Rattle.filter_code.specs.declared.instruction.Instr.TheVariants as instr
use Rattle.filter_code.specs.declared.outcome.FaultKind.{FaultKind}
use Rattle.filter_code.specs.declared.outcome.FaultKind.TheVariants as fault
use Rattle.filter_code.specs.declared.value.Kind.{Kind}
use Rattle.filter_code.specs.declared.value.Kind.TheVariants as kind
use Rattle.filter_code.specs.Machine.{fault_where, on_one, on_two, whole}
use Rattle.filter_code.specs.Table.{Operands}
use Rattle.filter_verifier.specs.declared.fact.Fact.{Fact}
use Rattle.filter_verifier.specs.declared.fact.Fact.TheVariants as fact
use Rattle.filter_verifier.specs.Ranges.{RangeView, range_of_number, range_of_metric, range_of_length, range_of_sum}
use Rattle.filter_verifier.specs.Ranges.{range_of_difference, range_of_product, range_of_quotient, range_of_greater}

-- the kind of the value
abbrev pub kind_of_fact : Fact → Kind
kind_of_fact (fact.Int span) = kind.Int
kind_of_fact fact.Bool = kind.Bool
kind_of_fact fact.Ip = kind.Ip
kind_of_fact fact.Prefix = kind.Prefix

-- the range of an int
abbrev pub range_of : Fact → Option RangeView
range_of (fact.Int span) = Some span
range_of _ = None

-- that it is a bool, an ip, a prefix; that it is an int or an ip, which have an order; that it is an ip or a prefix,
-- which have bits
abbrev pub known_bool : Fact → Option (Unit {0})
known_bool fact.Bool = Some tt
known_bool _ = None

abbrev pub known_ip : Fact → Option (Unit {0})
known_ip fact.Ip = Some tt
known_ip _ = None

abbrev pub known_prefix : Fact → Option (Unit {0})
known_prefix fact.Prefix = Some tt
known_prefix _ = None

abbrev pub known_number : Fact → Option (Unit {0})
known_number (fact.Int span) = Some tt
known_number fact.Ip = Some tt
known_number _ = None

abbrev pub known_bits : Fact → Option (Unit {0})
known_bits fact.Ip = Some tt
known_bits fact.Prefix = Some tt
known_bits _ = None

-- the fact of the value that an instruction pushes, in a domain of a size
abbrev pub fact_given : ℕ → Instr → Operands Fact → Option Fact
fact_given size (instr.Int k) = λ _. Some (fact.Int (range_of_number size k))
fact_given size (instr.Bool b) = λ _. Some fact.Bool
fact_given size (instr.Ip a) = λ _. Some fact.Ip
fact_given size (instr.Prefix bits) = λ _. Some fact.Prefix
fact_given size (instr.Load i) = on_one whole (λ f. f)
fact_given size instr.Net = λ _. Some fact.Prefix
fact_given size instr.Metric = λ _. Some (fact.Int (range_of_metric size))
fact_given size instr.Received = λ _. Some (fact.Int (range_of_metric size))
fact_given size instr.Add = on_two range_of range_of (λ a b. fact.Int (range_of_sum size a b))
fact_given size instr.Sub = on_two range_of range_of (λ a b. fact.Int (range_of_difference size a b))
fact_given size instr.Mul = on_two range_of range_of (λ a b. fact.Int (range_of_product size a b))
fact_given size instr.Div = on_two range_of range_of (λ a b. fact.Int (range_of_quotient size a b))
fact_given size instr.Max = on_two range_of range_of (λ a b. fact.Int (range_of_greater size a b))
fact_given size instr.Eq = on_two whole whole (λ a b. fact.Bool)
fact_given size instr.Lt = on_two known_number known_number (λ a b. fact.Bool)
fact_given size instr.Le = on_two known_number known_number (λ a b. fact.Bool)
fact_given size instr.Not = on_one known_bool (λ b. fact.Bool)
fact_given size instr.Addr = on_one known_prefix (λ p. fact.Ip)
fact_given size instr.Len = on_one known_prefix (λ p. fact.Int (range_of_length size))
fact_given size (instr.Mask n) = on_one known_ip (λ a. fact.Ip)
fact_given size instr.Within = on_two known_bits known_prefix (λ a p. fact.Bool)
fact_given size (instr.Member s) = on_one known_prefix (λ p. fact.Bool)
fact_given size (instr.InSet s) = on_one range_of (λ v. fact.Bool)
fact_given size _ = λ _. None

-- the fault that operands of the right kinds may cause
abbrev pub fact_fault : Instr → Operands Fact → Option FaultKind
fact_fault instr.SetMetric operands = fault_where fault.LowerMetric (on_one range_of (λ v. not v.at_least_received) operands)
fact_fault instr.Div operands = fault_where fault.ZeroDivisor (on_two range_of range_of (λ a b. b.low == 0) operands)
fact_fault _ operands = None

-- the facts of places, if each place is known
abbrev pub all_known : List (Option Fact) → Option (List Fact)
all_known [] = Some []
all_known (None ∷ places) = None
all_known (Some a ∷ places) = option_and_then (λ facts. Some (a ∷ facts)) (all_known places)
