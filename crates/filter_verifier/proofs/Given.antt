-- What an instruction gives is as is known of it, and it has no fault of which its operands are not known to be free.
use Rattle.std.proofs.Common.{◌≡◌, ℕ, zero, suc, ◌+◌, ◌-◌, ◌*◌, ◌/◌, ◌%◌, ◌^◌, ◌<◌, ◌≤◌, ◌==◌, max, not, Bool, true, false}
use Rattle.std.proofs.Common.{Option, Some, None, List, [], length, refl, arith}
use Rattle.std.specs.Prelude.{nat_lt, nat_le, option_and_then, slice_get, unwrap_or}
use Rattle.std.specs.Option.{option_map}
use Rattle.std.proofs.lemmas.Bool.Decides.{nat_tests}
use Rattle.prefix_patterns.specs.Bits.{address_of, address_length}
use Rattle.prefix_patterns.specs.Matching.{lies_within, matches_any}
use Rattle.filter_code.specs.declared.instruction.Instr.{Instr}
use Rattle.filter_code.specs.declared.instruction.Instr.TheVariants as instr
use Rattle.filter_code.specs.declared.outcome.FaultKind.{FaultKind}
use Rattle.filter_code.specs.declared.outcome.FaultKind.TheVariants as fault
use Rattle.filter_code.specs.declared.value.Value.{Value}
use Rattle.filter_code.specs.declared.value.Value.TheVariants as value
use Rattle.filter_code.specs.RouteView.{RouteView}
use Rattle.filter_code.specs.Machine.{on_one, on_two, whole, fault_where, value_given, value_fault}
use Rattle.filter_code.specs.CodeView.{CodeView}
use Rattle.filter_code.specs.Table.{Operands, Zero, One, Two}
use Rattle.filter_code.specs.Values.{int_of, bool_of, ip_of, net_of, number_of, bits_of, is_same}
use Rattle.filter_code.proofs.Metrics.{IsInRange}
use Rattle.filter_verifier.specs.declared.fact.Fact.{Fact}
use Rattle.filter_verifier.specs.declared.fact.Fact.TheVariants as fact
use Rattle.filter_verifier.specs.Facts.{fact_fault, fact_given, known_bits, known_bool, known_ip, known_number, known_prefix}
use Rattle.filter_verifier.specs.Facts.{range_of}
use Rattle.filter_verifier.specs.Ranges.{RangeView, range_of_difference, range_of_greater, range_of_length, range_of_product}
use Rattle.filter_verifier.specs.Ranges.{range_of_quotient, range_of_sum}
use Rattle.filter_verifier.specs.Safe.{HasLiteral, IsRouteOf}
use Rattle.filter_verifier.proofs.Arithmetic.{InRange, number_fits, metric_fits, length_fits, sum_fits, difference_fits}
use Rattle.filter_verifier.proofs.Arithmetic.{product_fits, quotient_fits, greater_fits}
use Rattle.filter_verifier.proofs.Fits.{IsAs, OperandsAre}
use Rattle.filter_verifier.proofs.Parts.{Alike, Any, LiesIn, IsShort, PartsAre, one_alike, two_alike, ints_are, bools_are}
use Rattle.filter_verifier.proofs.Parts.{ips_are, nets_are, numbers_are, bits_are, wholes_are}
use Rattle.filter_code.specs.Limits.{largest_size}

-- where a test of what is known shows no fault
no_fault_where : (kind : FaultKind) (b : Bool) → fault_where kind (Some b) ≡ None → b ≡ false
no_fault_where kind true e = cc
no_fault_where kind false e = refl

-- a test of operands holds only where the test of what is known of them does
abbrev Implies : Bool → Bool → Type 0
Implies a b = b ≡ false → a ≡ false

none_where : (kind : FaultKind) (a : Bool) → a ≡ false → fault_where kind (Some a) ≡ None
none_where kind true e = cc
none_where kind false e = refl

no_fault_alike : (kind : FaultKind) (o k : Option Bool) → Alike Implies o k → fault_where kind k ≡ None → fault_where kind o ≡ None
no_fault_alike kind None None p e = refl
no_fault_alike kind (Some a) (Some b) p e = none_where kind a (p (no_fault_where kind b e))
no_fault_alike kind _ _ p e = absurd p

-- a quotient, where the divisor is known not to be 0
divisor_positive : (low : ℕ) → (low == 0) ≡ false → 0 < low
divisor_positive zero e = cc
divisor_positive (suc low) e = omega arith

module _ (received size : ℕ) (limit : received ≤ size) where
  divided : (o p : Option ℕ) (k l : Option RangeView) → Alike (LiesIn received) o k → Alike (LiesIn received) p l →
      fault_where fault.ZeroDivisor (option_and_then (λ x. option_map (λ t. t.low == 0) l) k) ≡ None →
      Alike (IsAs received) (option_and_then (λ a. option_map (λ b. value.Int (a / b)) p) o)
      (option_and_then (λ s. option_map (λ t. fact.Int (range_of_quotient size s t)) l) k)
  divided None p None l one two e = tt
  divided None p (Some s) l one two e = absurd one
  divided (Some a) p None l one two e = absurd one
  divided (Some a) None (Some s) None one two e = tt
  divided (Some a) None (Some s) (Some t) one two e = absurd two
  divided (Some a) (Some b) (Some s) None one two e = absurd two
  divided (Some a) (Some b) (Some s) (Some t) one two e =
      quotient_fits received size limit a b s t (divisor_positive t.low (no_fault_where fault.ZeroDivisor (t.low == 0) e)) one two

  quotient_given : (operands : Operands Value) (facts : Operands Fact) → fact_fault instr.Div facts ≡ None →
      OperandsAre received operands facts →
      Alike (IsAs received) (on_two int_of int_of (λ a b. value.Int (a / b)) operands)
      (on_two range_of range_of (λ s t. fact.Int (range_of_quotient size s t)) facts)
  quotient_given Zero Zero e p = tt
  quotient_given (One a) (One k) e p = tt
  quotient_given (Two a b) (Two k l) e p =
      divided (int_of a) (int_of b) (range_of k) (range_of l) (ints_are received a k p.0) (ints_are received b l p.1) e
  quotient_given _ _ e p = absurd p

-- the value given is as is known of it: one line for each instruction
module _ (program : CodeView) (route : RouteView) (size metric : ℕ) (of_size : IsRouteOf size route) (small : size ≤ largest_size)
    (here : IsInRange route metric) where
  -- ints that are calculated, and what tests and other parts give
  calculated : (f : ℕ → ℕ → ℕ) (g : RangeView → RangeView → RangeView) →
      ((a b : ℕ) (s t : RangeView) → InRange route.metric s a → InRange route.metric t b → InRange route.metric (g s t) (f a b)) →
      (operands : Operands Value) (facts : Operands Fact) → OperandsAre route.metric operands facts →
      Alike (IsAs route.metric) (on_two int_of int_of (λ a b. value.Int (f a b)) operands)
      (on_two range_of range_of (λ s t. fact.Int (g s t)) facts)
  calculated f g fits =
      two_alike route.metric (LiesIn route.metric) (LiesIn route.metric) (IsAs route.metric) int_of range_of int_of range_of _ _
      (ints_are route.metric) (ints_are route.metric) (λ a s b t p q. fits a b s t p q)

  compared : {A B C D : Type 0} (first : A → B → Type 0) (second : C → D → Type 0) (part : Value → Option A) (known : Fact → Option B)
      (other : Value → Option C) (told : Fact → Option D) →
      PartsAre route.metric first part known → PartsAre route.metric second other told →
      (test : A → C → Bool) (operands : Operands Value) (facts : Operands Fact) → OperandsAre route.metric operands facts →
      Alike (IsAs route.metric) (on_two part other (λ a b. value.Bool (test a b)) operands) (on_two known told (λ a b. fact.Bool) facts)
  compared first second part known other told one two test =
      two_alike route.metric first second (IsAs route.metric) part known other told _ _ one two (λ a b c d p q. tt)

  of_net : (f : List Bool → Value) (g : Fact) → ((bits : List Bool) → length bits ≤ address_length → IsAs route.metric (f bits) g) →
      (operands : Operands Value) (facts : Operands Fact) → OperandsAre route.metric operands facts →
      Alike (IsAs route.metric) (on_one net_of f operands) (on_one known_prefix (λ p. g) facts)
  of_net f g fits =
      one_alike route.metric IsShort (IsAs route.metric) net_of known_prefix f (λ p. g) (nets_are route.metric)
      (λ bits p short. fits bits short)

  pub given_is : (i : Instr) (operands : Operands Value) (facts : Operands Fact) → HasLiteral i → fact_fault i facts ≡ None →
      OperandsAre route.metric operands facts →
      Alike (IsAs route.metric) (value_given program route metric i operands) (fact_given size i facts)
  given_is (instr.Int k) operands facts literal none p = number_fits route.metric size k of_size.reachable literal
  given_is (instr.Bool b) operands facts literal none p = tt
  given_is (instr.Ip a) operands facts literal none p = tt
  given_is (instr.Prefix bits) operands facts literal none p = literal
  given_is (instr.Load i) operands facts literal none p =
      one_alike route.metric (IsAs route.metric) (IsAs route.metric) whole whole _ _ (wholes_are route.metric) (λ a b h. h) operands facts p
  given_is instr.Net operands facts literal none p = of_size.net_fits
  given_is instr.Metric operands facts literal none p =
      metric_fits route.metric size metric small here.least (omega (arith, here.most, of_size.size_is))
  given_is instr.Received operands facts literal none p = metric_fits route.metric size route.metric small (omega arith) of_size.reachable
  given_is instr.Add operands facts literal none p =
      calculated (λ a b. (a + b) % 2 ^ 32) (range_of_sum size) (sum_fits route.metric size of_size.reachable) operands facts p
  given_is instr.Sub operands facts literal none p =
      calculated (λ a b. (a + (2 ^ 32 - b)) % 2 ^ 32) (range_of_difference size)
      (difference_fits route.metric size of_size.reachable) operands facts p
  given_is instr.Mul operands facts literal none p =
      calculated (λ a b. (a * b) % 2 ^ 32) (range_of_product size) (product_fits route.metric size of_size.reachable) operands facts p
  given_is instr.Div operands facts literal none p = quotient_given route.metric size of_size.reachable operands facts none p
  given_is instr.Max operands facts literal none p =
      calculated max (range_of_greater size) (greater_fits route.metric size of_size.reachable) operands facts p
  given_is instr.Eq operands facts literal none p =
      compared (IsAs route.metric) (IsAs route.metric) whole whole whole whole
      (wholes_are route.metric) (wholes_are route.metric) is_same operands facts p
  given_is instr.Lt operands facts literal none p =
      compared Any Any number_of known_number number_of known_number
      (numbers_are route.metric) (numbers_are route.metric) nat_lt operands facts p
  given_is instr.Le operands facts literal none p =
      compared Any Any number_of known_number number_of known_number
      (numbers_are route.metric) (numbers_are route.metric) nat_le operands facts p
  given_is instr.Not operands facts literal none p =
      one_alike route.metric Any (IsAs route.metric) bool_of known_bool _ _ (bools_are route.metric) (λ b u q. tt) operands facts p
  given_is instr.Addr operands facts literal none p =
      of_net (λ bits. value.Addr (record { 0 = address_of bits })) fact.Ip (λ bits short. tt) operands facts p
  given_is instr.Len operands facts literal none p =
      of_net (λ bits. value.Int (length bits)) (fact.Int (range_of_length size))
      (λ bits short. length_fits route.metric size (length bits) of_size.reachable short) operands facts p
  given_is (instr.Mask n) operands facts literal none p =
      one_alike route.metric Any (IsAs route.metric) ip_of known_ip _ _ (ips_are route.metric) (λ a u q. tt) operands facts p
  given_is instr.Within operands facts literal none p =
      compared Any IsShort bits_of known_bits net_of known_prefix
      (bits_are route.metric) (nets_are route.metric) lies_within operands facts p
  given_is (instr.Member s) operands facts literal none p =
      of_net (λ bits. value.Bool (matches_any bits (unwrap_or (slice_get program.sets s) []))) fact.Bool (λ bits short. tt) operands facts p
  given_is (instr.InSet s) operands facts literal none p =
      one_alike route.metric (LiesIn route.metric) (IsAs route.metric) int_of range_of _ _ (ints_are route.metric) (λ n t q. tt) operands facts p
  given_is _ operands facts literal none p = tt

-- a divisor that is known not to be 0 is not
divisor_is : (received b : ℕ) (t : RangeView) → InRange received t b → (t.low == 0) ≡ false → (b == 0) ≡ false
divisor_is received b t p e = grind (arith, nat_tests, p.above)

marked_where : (at_least_received : Bool) → not at_least_received ≡ false → at_least_received ≡ true
marked_where true e = refl
marked_where false e = cc

-- a number with the mark does not lower the metric
not_lower : (received v : ℕ) (s : RangeView) → InRange received s v → not s.at_least_received ≡ false → nat_lt v received ≡ false
not_lower received v s p e = let least : received ≤ v = p.marked (marked_where s.at_least_received e) in grind (arith, nat_tests)

-- operands of which no fault is known have none
pub no_value_fault : (route : RouteView) (i : Instr) (operands : Operands Value) (facts : Operands Fact) →
    fact_fault i facts ≡ None → OperandsAre route.metric operands facts → value_fault route i operands ≡ None
no_value_fault route instr.SetMetric operands facts e p =
    no_fault_alike fault.LowerMetric _ _
    (one_alike route.metric (LiesIn route.metric) Implies int_of range_of (λ v. nat_lt v route.metric) (λ s. not s.at_least_received)
    (ints_are route.metric) (λ v s q m. not_lower route.metric v s q m) operands facts p) e
no_value_fault route instr.Div operands facts e p =
    no_fault_alike fault.ZeroDivisor _ _
    (two_alike route.metric (LiesIn route.metric) (LiesIn route.metric) Implies int_of range_of int_of range_of
    (λ a b. b == 0) (λ s t. t.low == 0) (ints_are route.metric) (ints_are route.metric)
    (λ a s b t q r m. divisor_is route.metric b t r m) operands facts p) e
no_value_fault route _ operands facts e p = refl
