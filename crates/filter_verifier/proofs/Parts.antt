-- Parts of values and what is known of them: functions of parts that are related give what is related.
use Rattle.std.proofs.Common.{ℕ, ◌≤◌, Bool, Option, Some, None, List, length}
use Rattle.std.specs.Prelude.{option_and_then}
use Rattle.std.specs.Option.{option_map}
use Rattle.prefix_patterns.specs.declared.address.Ip.{Ip}
use Rattle.filter_code.specs.declared.value.Value.{Value}
use Rattle.filter_code.specs.declared.value.Value.TheVariants as value
use Rattle.filter_code.specs.Machine.{on_one, on_two, whole}
use Rattle.filter_code.specs.Table.{Operands, Zero, One, Two}
use Rattle.filter_code.specs.Values.{int_of, bool_of, ip_of, net_of, number_of, bits_of}
use Rattle.filter_verifier.specs.declared.fact.Fact.{Fact}
use Rattle.filter_verifier.specs.declared.fact.Fact.TheVariants as fact
use Rattle.filter_verifier.specs.Facts.{known_bits, known_bool, known_ip, known_number, known_prefix, range_of}
use Rattle.filter_verifier.specs.Ranges.{RangeView}
use Rattle.filter_verifier.proofs.Arithmetic.{InRange}
use Rattle.filter_verifier.proofs.Fits.{IsAs, OperandsAre}
use Rattle.prefix_patterns.specs.Bits.{address_length}

-- both are there and related, or neither is there
abbrev pub Alike : {A B : Type 0} → (A → B → Type 0) → Option A → Option B → Type 0
Alike related None None = Unit {0}
Alike related (Some a) (Some b) = related a b
Alike related _ _ = ⊥

-- functions that keep a relation of what they are applied to
pub mapped_alike : {A B X Y : Type 0} (related : A → B → Type 0) (wanted : X → Y → Type 0) (f : A → X) (g : B → Y) (o : Option A)
    (k : Option B) →
    ((a : A) (b : B) → related a b → wanted (f a) (g b)) → Alike related o k → Alike wanted (option_map f o) (option_map g k)
mapped_alike related wanted f g None None keep p = tt
mapped_alike related wanted f g (Some a) (Some b) keep p = keep a b p
mapped_alike related wanted f g _ _ keep p = absurd p

pub both_alike : {A B C D X Y : Type 0} (first : A → B → Type 0) (second : C → D → Type 0) (wanted : X → Y → Type 0) (f : A → C → X)
    (g : B → D → Y) (o : Option A) (k : Option B) (p : Option C) (l : Option D) →
    ((a : A) (b : B) (c : C) (d : D) → first a b → second c d → wanted (f a c) (g b d)) → Alike first o k → Alike second p l →
    Alike wanted (option_and_then (λ x. option_map (f x) p) o) (option_and_then (λ x. option_map (g x) l) k)
both_alike first second wanted f g None None p l keep one two = tt
both_alike first second wanted f g (Some a) (Some b) p l keep one two =
    mapped_alike second wanted (f a) (g b) p l (λ c d. keep a b c d one) two
both_alike first second wanted f g _ _ p l keep one two = absurd one

-- a part of a value and what is known of that part
abbrev pub PartsAre : {A B : Type 0} → ℕ → (A → B → Type 0) → (Value → Option A) → (Fact → Option B) → Type 0
PartsAre received related part known = (v : Value) (k : Fact) → IsAs received v k → Alike related (part v) (known k)

pub one_alike : {A B X Y : Type 0} (received : ℕ) (related : A → B → Type 0) (wanted : X → Y → Type 0) (part : Value → Option A)
    (known : Fact → Option B) (f : A → X) (g : B → Y) →
    PartsAre received related part known → ((a : A) (b : B) → related a b → wanted (f a) (g b)) →
    (operands : Operands Value) (facts : Operands Fact) → OperandsAre received operands facts →
    Alike wanted (on_one part f operands) (on_one known g facts)
one_alike received related wanted part known f g parts keep Zero Zero p = tt
one_alike received related wanted part known f g parts keep (One a) (One k) p =
    mapped_alike related wanted f g (part a) (known k) keep (parts a k p)
one_alike received related wanted part known f g parts keep (Two a b) (Two k l) p = tt
one_alike received related wanted part known f g parts keep _ _ p = absurd p

pub two_alike : {A B C D X Y : Type 0} (received : ℕ) (first : A → B → Type 0) (second : C → D → Type 0) (wanted : X → Y → Type 0)
    (part : Value → Option A) (known : Fact → Option B) (other : Value → Option C) (told : Fact → Option D) (f : A → C → X)
    (g : B → D → Y) →
    PartsAre received first part known → PartsAre received second other told →
    ((a : A) (b : B) (c : C) (d : D) → first a b → second c d → wanted (f a c) (g b d)) →
    (operands : Operands Value) (facts : Operands Fact) → OperandsAre received operands facts →
    Alike wanted (on_two part other f operands) (on_two known told g facts)
two_alike received first second wanted part known other told f g one two keep Zero Zero p = tt
two_alike received first second wanted part known other told f g one two keep (One a) (One k) p = tt
two_alike received first second wanted part known other told f g one two keep (Two a b) (Two k l) p =
    both_alike first second wanted f g (part a) (known k) (other b) (told l) keep (one a k p.0) (two b l p.1)
two_alike received first second wanted part known other told f g one two keep _ _ p = absurd p

-- any two
abbrev pub Any : {A B : Type 0} → A → B → Type 0
Any a b = Unit {0}

-- an int in a range
abbrev pub LiesIn : ℕ → ℕ → RangeView → Type 0
LiesIn received x span = InRange received span x

-- the bits of a prefix, of which there are at most 32
abbrev pub IsShort : List Bool → Unit {0} → Type 0
IsShort bits known = length bits ≤ address_length

-- the parts of values are as is known of them where they are so for each kind
by_kind : {A B : Type 0} (received : ℕ) (related : A → B → Type 0) (part : Value → Option A) (known : Fact → Option B) →
    ((x : ℕ) (span : RangeView) → InRange received span x → Alike related (part (value.Int x)) (known (fact.Int span))) →
    ((b : Bool) → Alike related (part (value.Bool b)) (known fact.Bool)) →
    ((a : Ip) → Alike related (part (value.Addr a)) (known fact.Ip)) →
    ((bits : List Bool) → length bits ≤ address_length → Alike related (part (value.Net bits)) (known fact.Prefix)) →
    PartsAre received related part known
by_kind received related part known ints bools ips nets (value.Int x) (fact.Int span) p = ints x span p
by_kind received related part known ints bools ips nets (value.Bool b) fact.Bool p = bools b
by_kind received related part known ints bools ips nets (value.Addr a) fact.Ip p = ips a
by_kind received related part known ints bools ips nets (value.Net bits) fact.Prefix p = nets bits p
by_kind received related part known ints bools ips nets _ _ p = absurd p

pub ints_are : (received : ℕ) → PartsAre received (LiesIn received) int_of range_of
ints_are received = by_kind received (LiesIn received) int_of range_of (λ x span p. p) (λ b. tt) (λ a. tt) (λ bits p. tt)

pub bools_are : (received : ℕ) → PartsAre received Any bool_of known_bool
bools_are received = by_kind received Any bool_of known_bool (λ x span p. tt) (λ b. tt) (λ a. tt) (λ bits p. tt)

pub ips_are : (received : ℕ) → PartsAre received Any ip_of known_ip
ips_are received = by_kind received Any ip_of known_ip (λ x span p. tt) (λ b. tt) (λ a. tt) (λ bits p. tt)

pub nets_are : (received : ℕ) → PartsAre received IsShort net_of known_prefix
nets_are received = by_kind received IsShort net_of known_prefix (λ x span p. tt) (λ b. tt) (λ a. tt) (λ bits p. p)

pub numbers_are : (received : ℕ) → PartsAre received Any number_of known_number
numbers_are received = by_kind received Any number_of known_number (λ x span p. tt) (λ b. tt) (λ a. tt) (λ bits p. tt)

pub bits_are : (received : ℕ) → PartsAre received Any bits_of known_bits
bits_are received = by_kind received Any bits_of known_bits (λ x span p. tt) (λ b. tt) (λ a. tt) (λ bits p. tt)

pub wholes_are : (received : ℕ) → PartsAre received (IsAs received) whole whole
wholes_are received v k p = p
