-- How many operands are known of after an instruction.
use Rattle.std.proofs.Common.{◌≡◌, ℕ, ◌+◌, ◌-◌, ◌≤◌, true, false, Option, Some, None, List, [], ◌∷◌, length, suc, refl, ap, ◌∙◌}
use Rattle.std.proofs.Common.{subst, arith}
use Rattle.std.specs.Prelude.{slice_get, option_and_then}
use Rattle.std.proofs.lemmas.Bool.{cond_both}
use Rattle.std.proofs.lemmas.Bool.Decides.{nat_tests}
use Rattle.std.proofs.lemmas.List.{length-map}
use Rattle.filter_code.specs.declared.instruction.Instr.{Instr}
use Rattle.filter_code.specs.declared.instruction.Instr.TheVariants as instr
use Rattle.filter_code.specs.declared.outcome.FaultKind.TheVariants as fault
use Rattle.filter_code.specs.Machine.{on_one, on_two, whole, overfills, with_given}
use Rattle.filter_code.specs.CodeView.{CodeView}
use Rattle.filter_code.specs.Table.{Frame, OperandSource, Nowhere, Top, TopTwo, Local, Operands, Zero, One, Two, Drawn, Bad, Good}
use Rattle.filter_code.specs.Table.{each_is, both_are, is_int, is_bool, is_ip, is_prefix, are_ordered, are_nested, fits_kinds}
use Rattle.filter_code.specs.Table.{name_exists, names_in, one_of, two_of, value_in, taken, passing, source_of, draw, taken_off, gives}
use Rattle.filter_code.specs.Table.{height_after}
use Rattle.filter_verifier.specs.declared.fact.Fact.{Fact}
use Rattle.filter_verifier.specs.declared.fact.Fact.TheVariants as fact
use Rattle.filter_verifier.specs.Facts.{all_known, fact_given, kind_of_fact, known_bits, known_bool, known_ip, known_number}
use Rattle.filter_verifier.specs.Facts.{known_prefix, range_of}
use Rattle.filter_verifier.specs.InStateView.{Known}
use Rattle.filter_verifier.specs.InStates.{leads_of}
use Rattle.filter_verifier.specs.OutStateView.{OutStateView, Passed, Refused, Skipped}
use Rattle.filter_verifier.specs.Ranges.{RangeView}
use Rattle.filter_verifier.specs.Transfer.{judge, leads_below, out_state, out_state_of_frame, out_state_of_known}
use Rattle.filter_verifier.proofs.Propagation.{judged}
use Rattle.filter_verifier.proofs.Costs.{height_behind}
use Rattle.filter_verifier.specs.AbstractFrameView.{AbstractFrameView}
use Rattle.filter_code.specs.Limits.{stack_limit}

-- as many operands as a source has
abbrev pub IsTakenFrom : OperandSource → Operands Fact → Type 0
IsTakenFrom Nowhere Zero = Unit {0}
IsTakenFrom Top (One f) = Unit {0}
IsTakenFrom TopTwo (Two f g) = Unit {0}
IsTakenFrom (Local index) (One f) = Unit {0}
IsTakenFrom source operands = ⊥

-- something is there
abbrev IsThere : {X : Type 0} → Option X → Type 0
IsThere None = ⊥
IsThere (Some x) = Unit {0}

-- operands of the right kinds give something
ints_give : (f : RangeView → RangeView → Fact) (operands : Operands Fact) → IsTakenFrom TopTwo operands →
    each_is (λ x. is_int (kind_of_fact x)) operands ≡ true → IsThere (on_two range_of range_of f operands)
ints_give f Zero t e = absurd t
ints_give f (One a) t e = absurd t
ints_give f (Two (fact.Int a) (fact.Int b)) t e = tt
ints_give f (Two a b) t e = cc

ordered_give : (operands : Operands Fact) → IsTakenFrom TopTwo operands →
    both_are (λ x y. are_ordered (kind_of_fact x) (kind_of_fact y)) operands ≡ true →
    IsThere (on_two known_number known_number (λ a b. fact.Bool) operands)
ordered_give Zero t e = absurd t
ordered_give (One a) t e = absurd t
ordered_give (Two (fact.Int a) (fact.Int b)) t e = tt
ordered_give (Two fact.Ip fact.Ip) t e = tt
ordered_give (Two a b) t e = cc

nested_give : (operands : Operands Fact) → IsTakenFrom TopTwo operands →
    both_are (λ x y. are_nested (kind_of_fact x) (kind_of_fact y)) operands ≡ true →
    IsThere (on_two known_bits known_prefix (λ a p. fact.Bool) operands)
nested_give Zero t e = absurd t
nested_give (One a) t e = absurd t
nested_give (Two fact.Ip fact.Prefix) t e = tt
nested_give (Two fact.Prefix fact.Prefix) t e = tt
nested_give (Two a b) t e = cc

any_give : (operands : Operands Fact) → IsTakenFrom TopTwo operands → IsThere (on_two whole whole (λ a b. fact.Bool) operands)
any_give Zero t = absurd t
any_give (One a) t = absurd t
any_give (Two a b) t = tt

loaded_gives : (index : ℕ) (operands : Operands Fact) → IsTakenFrom (Local index) operands → IsThere (on_one whole (λ f. f) operands)
loaded_gives index Zero t = absurd t
loaded_gives index (One a) t = tt
loaded_gives index (Two a b) t = absurd t

bool_gives : (operands : Operands Fact) → IsTakenFrom Top operands → each_is (λ x. is_bool (kind_of_fact x)) operands ≡ true →
    IsThere (on_one known_bool (λ b. fact.Bool) operands)
bool_gives Zero t e = absurd t
bool_gives (One fact.Bool) t e = tt
bool_gives (One a) t e = cc
bool_gives (Two a b) t e = absurd t

ip_gives : (operands : Operands Fact) → IsTakenFrom Top operands → each_is (λ x. is_ip (kind_of_fact x)) operands ≡ true →
    IsThere (on_one known_ip (λ a. fact.Ip) operands)
ip_gives Zero t e = absurd t
ip_gives (One fact.Ip) t e = tt
ip_gives (One a) t e = cc
ip_gives (Two a b) t e = absurd t

prefix_gives : (given : Fact) (operands : Operands Fact) → IsTakenFrom Top operands →
    each_is (λ x. is_prefix (kind_of_fact x)) operands ≡ true → IsThere (on_one known_prefix (λ p. given) operands)
prefix_gives given Zero t e = absurd t
prefix_gives given (One fact.Prefix) t e = tt
prefix_gives given (One a) t e = cc
prefix_gives given (Two a b) t e = absurd t

int_gives : (operands : Operands Fact) → IsTakenFrom Top operands → each_is (λ x. is_int (kind_of_fact x)) operands ≡ true →
    IsThere (on_one range_of (λ v. fact.Bool) operands)
int_gives Zero t e = absurd t
int_gives (One (fact.Int span)) t e = tt
int_gives (One a) t e = cc
int_gives (Two a b) t e = absurd t

one_more : (given : Option Fact) (rest : List Fact) → IsThere given → length (with_given given rest) ≡ length rest + 1
one_more None rest there = absurd there
one_more (Some f) rest there = omega arith

none_more : (rest : List Fact) → length rest ≡ length rest + 0
none_more rest = omega arith

-- an instruction gives as many as the table says
pub given_count : (size : ℕ) (i : Instr) (operands : Operands Fact) (rest : List Fact) → IsTakenFrom (source_of i) operands →
    fits_kinds kind_of_fact i operands ≡ true → length (with_given (fact_given size i operands) rest) ≡ length rest + gives i
given_count size (instr.Int k) operands rest t e = omega arith
given_count size (instr.Bool b) operands rest t e = omega arith
given_count size (instr.Ip a) operands rest t e = omega arith
given_count size (instr.Prefix bits) operands rest t e = omega arith
given_count size (instr.Load i) operands rest t e = one_more (fact_given size (instr.Load i) operands) rest (loaded_gives i operands t)
given_count size instr.Net operands rest t e = omega arith
given_count size instr.Metric operands rest t e = omega arith
given_count size instr.Received operands rest t e = omega arith
given_count size instr.Add operands rest t e = one_more (fact_given size instr.Add operands) rest (ints_give _ operands t e)
given_count size instr.Sub operands rest t e = one_more (fact_given size instr.Sub operands) rest (ints_give _ operands t e)
given_count size instr.Mul operands rest t e = one_more (fact_given size instr.Mul operands) rest (ints_give _ operands t e)
given_count size instr.Div operands rest t e = one_more (fact_given size instr.Div operands) rest (ints_give _ operands t e)
given_count size instr.Max operands rest t e = one_more (fact_given size instr.Max operands) rest (ints_give _ operands t e)
given_count size instr.Eq operands rest t e = one_more (fact_given size instr.Eq operands) rest (any_give operands t)
given_count size instr.Lt operands rest t e = one_more (fact_given size instr.Lt operands) rest (ordered_give operands t e)
given_count size instr.Le operands rest t e = one_more (fact_given size instr.Le operands) rest (ordered_give operands t e)
given_count size instr.Not operands rest t e = one_more (fact_given size instr.Not operands) rest (bool_gives operands t e)
given_count size instr.Addr operands rest t e = one_more (fact_given size instr.Addr operands) rest (prefix_gives _ operands t e)
given_count size instr.Len operands rest t e = one_more (fact_given size instr.Len operands) rest (prefix_gives _ operands t e)
given_count size (instr.Mask n) operands rest t e = one_more (fact_given size (instr.Mask n) operands) rest (ip_gives operands t e)
given_count size instr.Within operands rest t e = one_more (fact_given size instr.Within operands) rest (nested_give operands t e)
given_count size (instr.Member s) operands rest t e =
    one_more (fact_given size (instr.Member s) operands) rest (prefix_gives _ operands t e)
given_count size (instr.InSet s) operands rest t e = one_more (fact_given size (instr.InSet s) operands) rest (int_gives operands t e)
given_count size _ operands rest t e = none_more rest

-- what is drawn is as many operands as the source has, off the stack
abbrev IsDrawnFrom : OperandSource → List Fact → Drawn Fact → Type 0
IsDrawnFrom source stack (Bad why) = Unit {0}
IsDrawnFrom source stack (Good operands rest) = IsTakenFrom source operands × (length rest ≡ length stack - taken_off source)

one_taken : (stack : List Fact) → IsDrawnFrom Top stack (one_of stack)
one_taken [] = tt
one_taken (a ∷ rest) = (tt, omega arith)

two_taken : (stack : List Fact) → IsDrawnFrom TopTwo stack (two_of stack)
two_taken [] = tt
two_taken (b ∷ []) = tt
two_taken (b ∷ (a ∷ rest)) = (tt, omega arith)

local_taken : (index : ℕ) (found : Option (Option Fact)) (stack : List Fact) → IsDrawnFrom (Local index) stack (value_in found stack)
local_taken index None stack = tt
local_taken index (Some None) stack = tt
local_taken index (Some (Some f)) stack = (tt, omega arith)

taken_from : (source : OperandSource) (frame : Frame Fact) → IsDrawnFrom source frame.stack (taken source frame)
taken_from Nowhere frame = (tt, omega arith)
taken_from Top frame = one_taken frame.stack
taken_from TopTwo frame = two_taken frame.stack
taken_from (Local index) frame = local_taken index (slice_get frame.locals index) frame.stack

-- and of the kinds that the instruction takes
abbrev pub IsDrawnFor : Instr → List Fact → Drawn Fact → Type 0
IsDrawnFor i stack (Bad why) = Unit {0}
IsDrawnFor i stack (Good operands rest) =
    IsTakenFrom (source_of i) operands
    × (length rest ≡ length stack - taken_off (source_of i))
    × (fits_kinds kind_of_fact i operands ≡ true)

passed_for : (i : Instr) (stack : List Fact) (drawn : Drawn Fact) → IsDrawnFrom (source_of i) stack drawn →
    IsDrawnFor i stack (passing (fits_kinds kind_of_fact i) drawn)
passed_for i stack (Bad why) p = tt
passed_for i stack (Good operands rest) p =
    cond_both (fits_kinds kind_of_fact i operands) (Good operands rest) (Bad fault.WrongKind) (IsDrawnFor i stack) (λ e. (p.0, p.1, e))
    (λ e. tt)

drawn_for : (program : CodeView) (i : Instr) (frame : Frame Fact) → IsDrawnFor i frame.stack (draw kind_of_fact program i frame)
drawn_for program i frame =
    cond_both (name_exists i (names_in program frame.locals)) (passing (fits_kinds kind_of_fact i) (taken (source_of i) frame))
    (Bad fault.UnknownName) (IsDrawnFor i frame.stack)
    (λ e. passed_for i frame.stack (taken (source_of i) frame) (taken_from (source_of i) frame)) (λ e. tt)

-- what is propagated has as many operands as the table says, no more than fit, and goes to indices of the code
abbrev pub IsHigh : ℕ → AbstractFrameView → Type 0
IsHigh height next = length next.stack ≡ height

pub record HandsOn (instrs at height : ℕ) (found : Option Instr) (next : AbstractFrameView) : Type 0 where
  pub high : IsHigh (height_behind found height) next
  pub fits : height ≤ stack_limit → height_behind found height ≤ stack_limit
  pub within : leads_below at instrs (leads_of found) ≡ true

abbrev pub Passes : ℕ → ℕ → ℕ → Option Instr → OutStateView → Type 0
Passes instrs at height found (Passed next) = HandsOn instrs at height found next
Passes instrs at height found (Refused why) = Unit {0}
Passes instrs at height found Skipped = ⊥

-- the stack fits with what is given, if it did before
fits_with : (given : Option Fact) (rest : List Fact) → overfills given rest ≡ false → length rest ≤ stack_limit →
    length (with_given given rest) ≤ stack_limit
fits_with None rest e h = h
fits_with (Some f) rest e h = grind (arith, nat_tests)

passes_judged : (instrs size at : ℕ) (locals : List (Option Fact)) (stack : List Fact) (i : Instr) (drawn : Drawn Fact) →
    IsDrawnFor i stack drawn → Passes instrs at (length stack) (Some i) (judge instrs size at locals i drawn)
passes_judged instrs size at locals stack i (Bad why) p = tt
passes_judged instrs size at locals stack i (Good operands rest) p =
    judged (Passes instrs at (length stack) (Some i)) (λ why. tt) instrs size at locals i operands rest λ none fits within.
    let count = given_count size i operands rest p.0 p.2 in
    let left : length rest ≡ length stack - taken_off (source_of i) = p.1 in
    let after : length (with_given (fact_given size i operands) rest) ≡ height_after i (length stack) =
    count ∙ ap (λ n. n + gives i) left in
    record {
      high = length-map (with_given (fact_given size i operands) rest) (λ f. Some f) ∙ after;
      fits = λ low. subst (λ n. n ≤ stack_limit) after (fits_with (fact_given size i operands) rest fits (omega arith));
      within = within;
    }

passes_known : (program : CodeView) (size at : ℕ) (locals : List (Option Fact)) (stack : List Fact) (found : Option Instr) →
    Passes (length program.instrs) at (length stack) found (out_state_of_known program size at locals stack found)
passes_known program size at locals stack None = tt
passes_known program size at locals stack (Some i) =
    let frame : Frame Fact = record { stack = stack; locals = locals } in
    passes_judged (length program.instrs) size at locals stack i (draw kind_of_fact program i frame)
    (drawn_for program i frame)

-- the facts of places are as many
abbrev HasLength : ℕ → Option (List Fact) → Type 0
HasLength n None = Unit {0}
HasLength n (Some facts) = length facts ≡ n

one_longer : (f : Fact) (n : ℕ) (known : Option (List Fact)) → HasLength n known →
    HasLength (suc n) (option_and_then (λ facts. Some (f ∷ facts)) known)
one_longer f n None p = tt
one_longer f n (Some facts) p = ap suc p

known_length : (places : List (Option Fact)) → HasLength (length places) (all_known places)
known_length [] = refl
known_length (None ∷ places) = tt
known_length (Some f ∷ places) = one_longer f (length places) (all_known places) (known_length places)

passes_places : (program : CodeView) (size at height : ℕ) (locals : List (Option Fact)) (known : Option (List Fact)) →
    HasLength height known →
    Passes (length program.instrs) at height (slice_get program.instrs at) (out_state_of_frame program size at locals known)
passes_places program size at height locals None p = tt
passes_places program size at height locals (Some stack) p =
    subst (λ n. Passes (length program.instrs) at n (slice_get program.instrs at)
    (out_state_of_known program size at locals stack (slice_get program.instrs at))) p
    (passes_known program size at locals stack (slice_get program.instrs at))

-- an index whose in-state has a stack of this height
pub passes_on : (program : CodeView) (size at height : ℕ) (frame : AbstractFrameView) → length frame.stack ≡ height →
    Passes (length program.instrs) at height (slice_get program.instrs at) (out_state program size at (Known frame))
passes_on program size at height frame e =
    passes_places program size at height frame.locals (all_known frame.stack)
    (subst (λ n. HasLength n (all_known frame.stack)) e (known_length frame.stack))
