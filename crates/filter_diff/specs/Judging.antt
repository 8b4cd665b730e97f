-- What tests of symbols say of the values at a route.
use Rattle.std.specs.Prelude.{◌≡◌, ℕ, ◌+◌, ◌-◌, ◌^◌, ◌≤◌, nat_lt, Bool, true, Some, List, length}
use Rattle.prefix_patterns.specs.Bits.{address_length, address_of}
use Rattle.prefix_patterns.specs.Matching.{lies_within}
use Rattle.filter_code.specs.declared.value.Value.TheVariants as value
use Rattle.filter_code.specs.RouteView.{RouteView}
use Rattle.filter_code.specs.Table.{are_alike, are_nested, are_ordered}
use Rattle.filter_code.specs.Values.{bits_of, is_same, kind_of, net_of, number_of}
use Rattle.filter_diff.specs.Symbols.{value_at}
use Rattle.filter_diff.specs.declared.symbol.SymbolicValue.{SymbolicValue}

-- the last address that begins with the bits: ones follow them
abbrev pub last_address : List Bool → ℕ
last_address bits = address_of bits + (2 ^ (address_length - length bits) - 1)

-- a symbol stands for an address between two numbers
pub record IsBetween (low high : ℕ) (route : RouteView) (symbol : SymbolicValue) : Type 0 where
  pub address : ℕ
  pub is : value_at route symbol ≡ value.Addr (record { 0 = address })
  pub least : low ≤ address
  pub most : address ≤ high

-- whether two values of one kind are equal
pub record IsEqual (route : RouteView) (a b : SymbolicValue) (r : Bool) : Type 0 where
  pub alike : are_alike (kind_of (value_at route a)) (kind_of (value_at route b)) ≡ true
  pub same : is_same (value_at route a) (value_at route b) ≡ r

-- whether the first of two ints or ips is less
pub record IsLess (route : RouteView) (a b : SymbolicValue) (r : Bool) : Type 0 where
  pub first : ℕ
  pub second : ℕ
  pub ordered : are_ordered (kind_of (value_at route a)) (kind_of (value_at route b)) ≡ true
  pub first_is : number_of (value_at route a) ≡ Some first
  pub second_is : number_of (value_at route b) ≡ Some second
  pub less : nat_lt first second ≡ r

-- whether the first lies within the second
pub record IsWithin (route : RouteView) (a b : SymbolicValue) (r : Bool) : Type 0 where
  pub inner : List Bool
  pub outer : List Bool
  pub nested : are_nested (kind_of (value_at route a)) (kind_of (value_at route b)) ≡ true
  pub inner_is : bits_of (value_at route a) ≡ Some inner
  pub outer_is : net_of (value_at route b) ≡ Some outer
  pub within : lies_within inner outer ≡ r
