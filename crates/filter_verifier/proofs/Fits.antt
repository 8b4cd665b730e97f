-- Values that are as is known of them, and the operands that an instruction takes of them.
use Rattle.std.proofs.Common.{◌≡◌, ℕ, ◌≤◌, Bool, true, false, Option, Some, None, List, [], ◌∷◌, length, zero, suc, refl, ap}
use Rattle.std.specs.Prelude.{if◌then◌else◌, slice_get}
use Rattle.filter_code.specs.declared.instruction.Instr.{Instr}
use Rattle.filter_code.specs.declared.outcome.FaultKind.{FaultKind}
use Rattle.filter_code.specs.declared.value.Kind.{Kind}
use Rattle.filter_code.specs.declared.value.Value.{Value}
use Rattle.filter_code.specs.declared.value.Value.TheVariants as value
use Rattle.filter_code.specs.CodeView.{CodeView}
use Rattle.filter_code.specs.Table.{Frame, OperandSource, Nowhere, Top, TopTwo, Local, Operands, Zero, One, Two, Drawn, Bad, Good}
use Rattle.filter_code.specs.Table.{Taking, Any, Each, Both, each_is, both_are, has_kinds, signature}
use Rattle.filter_code.specs.Table.{fits_kinds, name_exists, names_in, one_of, two_of, value_in, taken, passing, source_of, draw}
use Rattle.filter_code.specs.Values.{kind_of}
use Rattle.filter_verifier.specs.declared.fact.Fact.{Fact}
use Rattle.filter_verifier.specs.declared.fact.Fact.TheVariants as fact
use Rattle.filter_verifier.specs.Facts.{kind_of_fact}
use Rattle.filter_verifier.proofs.Arithmetic.{InRange}
use Rattle.prefix_patterns.specs.Bits.{address_length}

-- a value is as is known of it, where so much was received
abbrev pub IsAs : ℕ → Value → Fact → Type 0
IsAs received (value.Int x) (fact.Int span) = InRange received span x
IsAs received (value.Bool b) fact.Bool = Unit {0}
IsAs received (value.Addr a) fact.Ip = Unit {0}
IsAs received (value.Net bits) fact.Prefix = length bits ≤ address_length
IsAs received _ _ = ⊥

-- the value at a place is as is known of it: if nothing is known, any value or none
abbrev pub PlaceIsAs : ℕ → Option Value → Option Fact → Type 0
PlaceIsAs received place None = Unit {0}
PlaceIsAs received None (Some f) = ⊥
PlaceIsAs received (Some v) (Some f) = IsAs received v f

-- two lists of one length, whose items are related place by place
abbrev pub Pairwise : {X Y : Type 0} → (X → Y → Type 0) → List X → List Y → Type 0
Pairwise related [] [] = Unit {0}
Pairwise related [] (y ∷ ys) = ⊥
Pairwise related (x ∷ xs) [] = ⊥
Pairwise related (x ∷ xs) (y ∷ ys) = related x y × Pairwise related xs ys

-- operands, and drawn operands with the rest of the stack. Where the facts draw none, nothing is said.
abbrev pub OperandsAre : ℕ → Operands Value → Operands Fact → Type 0
OperandsAre received Zero Zero = Unit {0}
OperandsAre received (One a) (One f) = IsAs received a f
OperandsAre received (Two a b) (Two f g) = IsAs received a f × IsAs received b g
OperandsAre received _ _ = ⊥

abbrev pub DrawnAre : ℕ → Drawn Value → Drawn Fact → Type 0
DrawnAre received drawn (Bad why) = Unit {0}
DrawnAre received (Bad why) (Good facts rest) = ⊥
DrawnAre received (Good operands left) (Good facts rest) = OperandsAre received operands facts × Pairwise (IsAs received) left rest

pub pairwise_length : {X Y : Type 0} (related : X → Y → Type 0) (xs : List X) (ys : List Y) → Pairwise related xs ys →
    length xs ≡ length ys
pairwise_length related [] [] p = refl
pairwise_length related [] (y ∷ ys) p = absurd p
pairwise_length related (x ∷ xs) [] p = absurd p
pairwise_length related (x ∷ xs) (y ∷ ys) p = ap suc (pairwise_length related xs ys p.1)

-- the kinds are those that are known
kind_is : (received : ℕ) (v : Value) (f : Fact) → IsAs received v f → kind_of v ≡ kind_of_fact f
kind_is received (value.Int x) (fact.Int span) p = refl
kind_is received (value.Bool b) fact.Bool p = refl
kind_is received (value.Addr a) fact.Ip p = refl
kind_is received (value.Net bits) fact.Prefix p = refl
kind_is received _ _ p = absurd p

each_same : (received : ℕ) (test : Kind → Bool) (operands : Operands Value) (facts : Operands Fact) →
    OperandsAre received operands facts → each_is (λ x. test (kind_of x)) operands ≡ each_is (λ x. test (kind_of_fact x)) facts
each_same received test Zero Zero p = refl
each_same received test (One a) (One f) p = ap test (kind_is received a f p)
each_same received test (Two a b) (Two f g) p = cc (kind_is received a f p.0, kind_is received b g p.1)
each_same received test _ _ p = absurd p

both_same : (received : ℕ) (test : Kind → Kind → Bool) (operands : Operands Value) (facts : Operands Fact) →
    OperandsAre received operands facts →
    both_are (λ x y. test (kind_of x) (kind_of y)) operands ≡ both_are (λ x y. test (kind_of_fact x) (kind_of_fact y)) facts
both_same received test Zero Zero p = refl
both_same received test (One a) (One f) p = refl
both_same received test (Two a b) (Two f g) p = cc (kind_is received a f p.0, kind_is received b g p.1)
both_same received test _ _ p = absurd p

-- an instruction takes operands where it takes what is known of them
taking_same : (received : ℕ) (kinds : Taking) (operands : Operands Value) (facts : Operands Fact) →
    OperandsAre received operands facts → has_kinds kind_of kinds operands ≡ has_kinds kind_of_fact kinds facts
taking_same received Any operands facts p = refl
taking_same received (Each test) operands facts p = each_same received test operands facts p
taking_same received (Both test) operands facts p = both_same received test operands facts p

kinds_same : (received : ℕ) (i : Instr) (operands : Operands Value) (facts : Operands Fact) → OperandsAre received operands facts →
    fits_kinds kind_of i operands ≡ fits_kinds kind_of_fact i facts
kinds_same received i = taking_same received (signature i).kinds

-- a local variable
local_is : (received : ℕ) (locals : List (Option Value)) (known : List (Option Fact)) (index : ℕ) (stack : List Value)
    (facts : List Fact) →
    Pairwise (PlaceIsAs received) locals known → Pairwise (IsAs received) stack facts →
    DrawnAre received (value_in (slice_get locals index) stack) (value_in (slice_get known index) facts)
local_is received locals [] index stack facts p q = tt
local_is received [] (f ∷ known) index stack facts p q = absurd p
local_is received (Some v ∷ locals) (Some f ∷ known) zero stack facts p q = (p.0, q)
local_is received (None ∷ locals) (Some f ∷ known) zero stack facts p q = absurd p.0
local_is received (v ∷ locals) (None ∷ known) zero stack facts p q = tt
local_is received (v ∷ locals) (f ∷ known) (suc index) stack facts p q = local_is received locals known index stack facts p.1 q

-- the operands at a source
one_is : (received : ℕ) (stack : List Value) (facts : List Fact) → Pairwise (IsAs received) stack facts →
    DrawnAre received (one_of stack) (one_of facts)
one_is received stack [] p = tt
one_is received [] (f ∷ facts) p = absurd p
one_is received (v ∷ stack) (f ∷ facts) p = (p.0, p.1)

two_are : (received : ℕ) (stack : List Value) (facts : List Fact) → Pairwise (IsAs received) stack facts →
    DrawnAre received (two_of stack) (two_of facts)
two_are received stack [] p = tt
two_are received stack (g ∷ []) p = tt
two_are received [] (g ∷ (f ∷ facts)) p = absurd p
two_are received (b ∷ []) (g ∷ (f ∷ facts)) p = absurd p.1
two_are received (b ∷ (a ∷ stack)) (g ∷ (f ∷ facts)) p = ((p.1.0, p.0), p.1.1)

-- a stack and local variables are as is known of them
pub record FrameIsAs (received : ℕ) (frame : Frame Value) (facts : Frame Fact) : Type 0 where
  pub on_stack : Pairwise (IsAs received) frame.stack facts.stack
  pub in_locals : Pairwise (PlaceIsAs received) frame.locals facts.locals

taken_are : (received : ℕ) (source : OperandSource) (frame : Frame Value) (facts : Frame Fact) → FrameIsAs received frame facts →
    DrawnAre received (taken source frame) (taken source facts)
taken_are received Nowhere frame facts p = (tt, p.on_stack)
taken_are received Top frame facts p = one_is received frame.stack facts.stack p.on_stack
taken_are received TopTwo frame facts p = two_are received frame.stack facts.stack p.on_stack
taken_are received (Local index) frame facts p =
    local_is received frame.locals facts.locals index frame.stack facts.stack p.in_locals p.on_stack

-- one test lets both through
both_pass : (received : ℕ) (test : Bool) (why whi : FaultKind) (drawn : Drawn Value) (known : Drawn Fact) →
    DrawnAre received drawn known → DrawnAre received (if test then drawn else Bad why) (if test then known else Bad whi)
both_pass received true why whi drawn known p = p
both_pass received false why whi drawn known p = tt

passed_are : (received : ℕ) (i : Instr) (drawn : Drawn Value) (known : Drawn Fact) → DrawnAre received drawn known →
    DrawnAre received (passing (fits_kinds kind_of i) drawn) (passing (fits_kinds kind_of_fact i) known)
passed_are received i drawn (Bad why) p = tt
passed_are received i (Bad why) (Good facts rest) p = absurd p
passed_are received i (Good operands left) (Good facts rest) p =
    rw (kinds_same received i operands facts p.0)
    (both_pass received (fits_kinds kind_of_fact i facts) _ _ (Good operands left) (Good facts rest) p)

-- the operands of an instruction are as is known of them
pub drawn_are : (received : ℕ) (program : CodeView) (i : Instr) (frame : Frame Value) (facts : Frame Fact) → FrameIsAs received frame facts →
    DrawnAre received (draw kind_of program i frame) (draw kind_of_fact program i facts)
drawn_are received program i frame facts p =
    rw (pairwise_length (PlaceIsAs received) frame.locals facts.locals p.in_locals)
    (both_pass received (name_exists i (names_in program facts.locals)) _ _ (passing (fits_kinds kind_of i) (taken (source_of i) frame))
    (passing (fits_kinds kind_of_fact i) (taken (source_of i) facts))
    (passed_are received i (taken (source_of i) frame) (taken (source_of i) facts) (taken_are received (source_of i) frame facts p)))
