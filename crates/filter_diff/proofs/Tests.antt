-- Tests of symbols by patterns and by bounds.
use Rattle.std.proofs.Common.{◌≡◌, ◌⊎◌, inl, inr, ℕ, ◌^◌, ◌<◌, ◌≤◌, Bool, true, false, Option, Some, None, List, length, take}
use Rattle.std.proofs.Common.{refl, sym, ◌∙◌, ap, subst, arith}
use Rattle.std.specs.Prelude.{IfSome}
use Rattle.prefix_patterns.specs.Bits.{address_bits, address_of, prefix_bits}
use Rattle.prefix_patterns.specs.BitLists.{address_below, length-bits}
use Rattle.std.proofs.lemmas.Bool.{false_from_ne_true}
use Rattle.std.proofs.lemmas.List.{length-take, take_all}
use Rattle.std.proofs.lemmas.Option.{same_Some}
use Rattle.prefix_patterns.proofs.Matches.{lies_within-Decides}
use Rattle.prefix_patterns.specs.declared.address.Ip.{Ip}
use Rattle.prefix_patterns.specs.Matching.{LiesWithin, lies_within, matches}
use Rattle.filter_code.specs.RouteView.{RouteView}
use Rattle.filter_code.specs.declared.value.Value.TheVariants as value
use Rattle.filter_code.specs.Values.{number_of}
use Rattle.filter_diff.specs.Classes.{Always}
use Rattle.filter_diff.specs.Judging.{IsBetween, IsEqual, IsWithin, last_address}
use Rattle.filter_diff.specs.Symbols.{value_at}
use Rattle.filter_diff.specs.declared.class.Class.{Class}
use Rattle.filter_diff.specs.declared.symbol.SymbolicValue.{SymbolicValue}
use Rattle.filter_diff.specs.declared.symbol.SymbolicValue.TheVariants as symbol
use Rattle.filter_diff.proofs.Addresses.{AreBetween, between, ends_back, ends_there}
use Rattle.filter_diff.proofs.Patterns.{equals_matches, matches_equals, matches_within, own_lies, same_self, within_matches, within_self}

-- a fact of what was told that follows from another
pub told : {P Q : Bool → Type 0} (o : Option Bool) → IfSome o P → ((r : Bool) → P r → Q r) → IfSome o Q
told None h f = tt
told (Some r) h f = f r h

-- all prefixes of a class match a pattern or none does, as r says
abbrev pub Match : Class → List Bool → ℕ → ℕ → Bool → Type 0
Match class bits low high r = Always class (λ (route : RouteView). matches route.net (record { bits = bits; low = low; high = high }) ≡ r)

pub prefix_equals_own : (class : Class) (a : List Bool) (low high : ℕ) (b : SymbolicValue) → b ≡ symbol.OwnNet → low ≡ length a → high ≡ length a →
    (r : Bool) → Match class a low high r → Always class (λ (route : RouteView). IsEqual route (symbol.Net a) b r)
prefix_equals_own class a low high b is low_is high_is r h route of =
    let m : matches route.net (record { bits = a; low = length a; high = length a }) ≡ r =
    subst (λ (n : ℕ). matches route.net (record { bits = a; low = n; high = length a }) ≡ r) low_is
    (subst (λ (n : ℕ). matches route.net (record { bits = a; low = low; high = n }) ≡ r) high_is (h route of)) in
    subst (λ (s : SymbolicValue). IsEqual route (symbol.Net a) s r) (sym is) (record { alike = refl; same = sym (matches_equals route.net a) ∙ m })

pub own_equals_prefix : (class : Class) (a : List Bool) (low high : ℕ) (b : SymbolicValue) → b ≡ symbol.Net a → low ≡ length a → high ≡ length a →
    (r : Bool) → Match class a low high r → Always class (λ (route : RouteView). IsEqual route symbol.OwnNet b r)
own_equals_prefix class a low high b is low_is high_is r h route of =
    let m : matches route.net (record { bits = a; low = length a; high = length a }) ≡ r =
    subst (λ (n : ℕ). matches route.net (record { bits = a; low = n; high = length a }) ≡ r) low_is
    (subst (λ (n : ℕ). matches route.net (record { bits = a; low = low; high = n }) ≡ r) high_is (h route of)) in
    subst (λ (s : SymbolicValue). IsEqual route symbol.OwnNet s r) (sym is) (record { alike = refl; same = sym (equals_matches route.net a) ∙ m })

pub own_equals_own : (route : RouteView) (b : SymbolicValue) → b ≡ symbol.OwnNet → IsEqual route symbol.OwnNet b true
own_equals_own route b is =
    subst (λ (s : SymbolicValue). IsEqual route symbol.OwnNet s true) (sym is) (record { alike = refl; same = same_self route.net })

pub own_within_prefix : (class : Class) (a : SymbolicValue) (outer : List Bool) (low : ℕ) → a ≡ symbol.OwnNet → low ≡ length outer →
    (r : Bool) → Match class outer low 32 r → Always class (λ (route : RouteView). IsWithin route a (symbol.Net outer) r)
own_within_prefix class a outer low is low_is r h route of =
    let m : matches route.net (record { bits = outer; low = length outer; high = 32 }) ≡ r =
    subst (λ (n : ℕ). matches route.net (record { bits = outer; low = n; high = 32 }) ≡ r) low_is (h route of) in
    subst (λ (s : SymbolicValue). IsWithin route s (symbol.Net outer) r) (sym is)
    (record {
      inner = route.net;
      outer = outer;
      nested = refl;
      inner_is = refl;
      outer_is = refl;
      within = sym (within_matches route.net outer of.fits) ∙ m;
    })

-- the address of a route that a symbol stands for lies between the numbers between which the symbol's does
own_is_between : (route : RouteView) (a : SymbolicValue) (kept least most : ℕ) → a ≡ symbol.OwnIp kept → IsBetween least most route a →
    AreBetween least most (address_of (take kept route.net))
own_is_between route a kept least most is b =
    let same : value_at route (symbol.OwnIp kept) ≡ value.Addr (record { 0 = b.address }) =
    subst (λ (s : SymbolicValue). value_at route s ≡ value.Addr (record { 0 = b.address })) is b.is in
    let both : Some (address_of (take kept route.net)) ≡ Some b.address = ap number_of same in
    let number : b.address ≡ address_of (take kept route.net) = sym (same_Some _ _ both) in
    subst (AreBetween least most) number (record { least = b.least; most = b.most })

-- what is known of an address of the route and of a prefix, as a test of the two
own_ip_tested : (route : RouteView) (a : SymbolicValue) (outer : List Bool) (kept : ℕ) (r : Bool) → a ≡ symbol.OwnIp kept →
    lies_within (address_bits (address_of (take kept route.net))) outer ≡ r → IsWithin route a (symbol.Net outer) r
own_ip_tested route a outer kept r is h =
    subst (λ (s : SymbolicValue). IsWithin route s (symbol.Net outer) r) (sym is)
    (record { inner = _; outer = outer; nested = refl; inner_is = refl; outer_is = refl; within = h })

within_ends : (least most first last x : ℕ) → AreBetween least most x → first ≤ least → most ≤ last → AreBetween first last x
within_ends least most first last x b from to =
    let low : least ≤ x = b.least in
    let high : x ≤ most = b.most in
    record { least = omega arith; most = omega arith }

-- Addresses of which the first and the last lie between those of a prefix are addresses of the prefix.
pub own_ip_inside : (class : Class) (a : SymbolicValue) (outer : List Bool) (kept least most first last : ℕ) → a ≡ symbol.OwnIp kept →
    length outer ≤ 32 → first ≡ address_of outer → last ≡ last_address outer →
    Always class (λ (route : RouteView). IsBetween least most route a) → first ≤ least → most ≤ last →
    Always class (λ (route : RouteView). IsWithin route a (symbol.Net outer) true)
own_ip_inside class a outer kept least most first last is short first_is last_is h from to route of =
    let b : AreBetween first last (address_of (take kept route.net)) =
    within_ends least most first last _ (own_is_between route a kept least most is (h route of)) from to in
    let ends : AreBetween (address_of outer) (last_address outer) (address_of (take kept route.net)) =
    subst (λ (n : ℕ). AreBetween n (last_address outer) (address_of (take kept route.net))) first_is
    (subst (λ (n : ℕ). AreBetween first n (address_of (take kept route.net))) last_is b) in
    own_ip_tested route a outer kept true is
    ((lies_within-Decides (address_bits (address_of (take kept route.net))) outer).1 (ends_back _ outer short ends))

apart : (least most first last x : ℕ) → AreBetween least most x → (most < first) ⊎ (last < least) → AreBetween first last x → ⊥
apart least most first last x b (inl before) ends =
    let low : first ≤ x = ends.least in
    let high : x ≤ most = b.most in
    absurd (omega arith)
apart least most first last x b (inr behind) ends =
    let low : least ≤ x = b.least in
    let high : x ≤ last = ends.most in
    absurd (omega arith)

-- Addresses that end before those of a prefix or begin behind them are none of it.
pub own_ip_outside : (class : Class) (a : SymbolicValue) (outer : List Bool) (kept least most first last : ℕ) → a ≡ symbol.OwnIp kept →
    length outer ≤ 32 → first ≡ address_of outer → last ≡ last_address outer →
    Always class (λ (route : RouteView). IsBetween least most route a) → (most < first) ⊎ (last < least) →
    Always class (λ (route : RouteView). IsWithin route a (symbol.Net outer) false)
own_ip_outside class a outer kept least most first last is short first_is last_is h away route of =
    let limit : length route.net ≤ 32 = of.fits in
    let cut : length (take kept route.net) ≤ 32 = omega (arith, length-take kept route.net) in
    let fits : address_of (take kept route.net) < 2 ^ 32 = address_below (take kept route.net) cut in
    let b : AreBetween least most (address_of (take kept route.net)) = own_is_between route a kept least most is (h route of) in
    let no : LiesWithin (address_bits (address_of (take kept route.net))) outer → ⊥ =
    λ within. apart least most first last _ b away
    (subst (λ (n : ℕ). AreBetween n last (address_of (take kept route.net))) (sym first_is)
    (subst (λ (n : ℕ). AreBetween (address_of outer) n (address_of (take kept route.net))) (sym last_is) (ends_there _ outer fits short within))) in
    own_ip_tested route a outer kept false is
    (false_from_ne_true _ (λ yes. no ((lies_within-Decides (address_bits (address_of (take kept route.net))) outer).0 yes)))

pub prefix_within_own : (class : Class) (a : SymbolicValue) (inner : List Bool) (high : ℕ) → a ≡ symbol.Net inner → high ≡ length inner →
    (r : Bool) → Match class inner 0 high r → Always class (λ (route : RouteView). IsWithin route a symbol.OwnNet r)
prefix_within_own class a inner high is high_is r h route of =
    let m : matches route.net (record { bits = inner; low = 0; high = length inner }) ≡ r =
    subst (λ (n : ℕ). matches route.net (record { bits = inner; low = 0; high = n }) ≡ r) high_is (h route of) in
    subst (λ (s : SymbolicValue). IsWithin route s symbol.OwnNet r) (sym is)
    (record {
      inner = inner;
      outer = route.net;
      nested = refl;
      inner_is = refl;
      outer_is = refl;
      within = sym (matches_within route.net inner) ∙ m;
    })

pub ip_within_own : (class : Class) (ip : Ip) (bits : List Bool) → bits ≡ prefix_bits ip.0 32 → (r : Bool) → Match class bits 0 32 r →
    Always class (λ (route : RouteView). IsWithin route (symbol.Ip ip) symbol.OwnNet r)
ip_within_own class ip bits bits_are r h route of =
    let long : length (address_bits ip.0) ≡ 32 = length-bits 32 ip.0 in
    let all : bits ≡ address_bits ip.0 = bits_are ∙ take_all 32 (address_bits ip.0) (omega arith) in
    let m : matches route.net (record { bits = address_bits ip.0; low = 0; high = length (address_bits ip.0) }) ≡ r =
    subst (λ (n : ℕ). matches route.net (record { bits = address_bits ip.0; low = 0; high = n }) ≡ r) (sym long)
    (subst (λ (b : List Bool). matches route.net (record { bits = b; low = 0; high = 32 }) ≡ r) all (h route of)) in
    record {
      inner = address_bits ip.0;
      outer = route.net;
      nested = refl;
      inner_is = refl;
      outer_is = refl;
      within = sym (matches_within route.net (address_bits ip.0)) ∙ m;
    }

pub own_ip_within_own : (class : Class) (a : SymbolicValue) (kept : ℕ) → a ≡ symbol.OwnIp kept → kept ≡ class.len →
    Always class (λ (route : RouteView). IsWithin route a symbol.OwnNet true)
own_ip_within_own class a kept is all route of =
    subst (λ (s : SymbolicValue). IsWithin route s symbol.OwnNet true) (sym is)
    (record {
      inner = _;
      outer = route.net;
      nested = refl;
      inner_is = refl;
      outer_is = refl;
      within = own_lies route.net kept (all ∙ sym of.long) of.fits;
    })

pub own_within_own : (route : RouteView) (a : SymbolicValue) → a ≡ symbol.OwnNet → IsWithin route a symbol.OwnNet true
own_within_own route a is =
    subst (λ (s : SymbolicValue). IsWithin route s symbol.OwnNet true) (sym is)
    (record {
      inner = route.net;
      outer = route.net;
      nested = refl;
      inner_is = refl;
      outer_is = refl;
      within = within_self route.net;
    })

-- the addresses of a class, between the first and the last with the known bits
pub own_between : (class : Class) (s : SymbolicValue) (kept bits first last : ℕ) → s ≡ symbol.OwnIp kept → bits ≡ length class.known →
    first ≡ address_of class.known → last ≡ last_address class.known → bits ≤ kept → kept ≤ class.len →
    Always class (λ (route : RouteView). IsBetween first last route s)
own_between class s kept bits first last is bits_are first_is last_is few h route of =
    let long : length route.net ≡ class.len = of.long in
    let b = between class.known route.net kept of.begins (omega arith) (omega arith) of.fits in
    subst (λ (x : SymbolicValue). IsBetween first last route x) (sym is)
    (rw (first_is, last_is) (record { address = address_of (take kept route.net); is = refl; least = b.least; most = b.most }))
