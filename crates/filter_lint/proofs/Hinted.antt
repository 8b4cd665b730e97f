-- What is said of an instruction as it stands is so.
use Rattle.std.proofs.Common.{◌≡◌, ◌≢◌, ℕ, ◌+◌, ◌*◌, ◌==◌, Bool, true, false, ◌&&◌, nat_le, nat_lt}
use Rattle.std.proofs.Common.{if◌then◌else◌, List, length, Option, Some, None, IfSome, IfOk, Result, Ok, Err, Vec, Global, refl, arith}
use Rattle.std.specs.Prelude.{All, option_and_then, slice_get}
use Rattle.std.specs.List.{list_any}
use Rattle.std.proofs.lemmas.Bool.Decides.{nat_tests}
use Rattle.std.proofs.lemmas.List.Elements.{All-append, All-nil, All-same}
use Rattle.std.proofs.lemmas.Map.Keys.{any_passes_from_place}
use Rattle.filter_code.specs.CodeView.{CodeView}
use Rattle.filter_code.specs.declared.instruction.Instr.{Instr}
use Rattle.filter_code.specs.declared.instruction.Instr.TheVariants as instr
use Rattle.int_sets.specs.Holding.{NumberRange}
use Rattle.prefix_patterns.specs.Matching.{PrefixPattern}
use Rattle.filter_verifier.specs.InStateView.{InStateView}
use Rattle.filter_verifier.specs.InStates.{in_state}
use Rattle.filter_lint.specs.Arithmetic.{may_wrap, operation_of, wraps, wraps_at}
use Rattle.filter_lint.specs.Hints.{hints}
use Rattle.filter_lint.specs.Known.{top_one, top_two}
use Rattle.filter_lint.specs.Metrics.{sets_metric, unreachable_at}
use Rattle.filter_lint.specs.Overlaps.{bounds_of, overlap_at, overlapped, overlaps_of}
use Rattle.filter_lint.specs.Sets.{asked_by, asks_ints, covered_at, covered_of, covering, overlapping_members, overlaps_by, overlaps_where}
use Rattle.filter_lint.specs.SurveyedFilters.{SurveyedFilterView, is_first, known_at, known_of}
use Rattle.filter_lint.specs.Truths.{IsTrueOf}
use Rattle.filter_lint.specs.Variables.{declared_by, is_load_of, unread_at}
use Rattle.filter_lint.specs.declared.warning.ValueBounds.{ValueBounds}
use Rattle.filter_lint.specs.declared.warning.WarningCause.TheVariants as cause
use Rattle.filter_lint.specs.declared.warning.Operation.{Operation}
use Rattle.filter_lint.specs.declared.warning.Warning.{Warning}
use Rattle.filter_lint.proofs.Covered.{covered, covers_all}
use Rattle.filter_lint.proofs.Found.{all_below, each_of}
use Rattle.filter_lint.proofs.Overlapping.{overlapping, shares}

-- what is known of a stack, where the verifier comes so far
known_there : {A : Type 0} (b : Bool) (f : InStateView → Option A) (here : InStateView) (a : A)
    → option_and_then f (if b then Some here else None) ≡ Some a → f here ≡ Some a
known_there true f here a e = e
known_there false f here a e = let no : ⊥ = cc in absurd no

module _ (program : CodeView) (size : ℕ) (text places : List ℕ) where
  abbrev here : SurveyedFilterView
  here = record { text = text; program = program; places = places; size = size }

  -- an operation
  if_wraps : (k byte : ℕ) (i : Instr) (what : Operation) (left right : ValueBounds) → slice_get program.instrs k ≡ Some i → slice_get places k ≡ Some byte
      → operation_of i ≡ Some what → option_and_then top_two (known_at here k) ≡ Some (left, right) → (t : Bool) → may_wrap what left right ≡ t
      → IfSome (if t then Some (record { instruction = k; byte = byte; cause = cause.Wraps what left right }) else None) (IsTrueOf program size places)
  if_wraps k byte i what left right is there op known false e = tt
  if_wraps k byte i what left right is there op known true e = record {
    place = there;
    is_so = record {
      i = i;
      there = is;
      is_operation = op;
      known = known_there (nat_lt k (known_of program size)) top_two (in_state program size k) (left, right) known;
      wraps = e;
    };
  }

  if_first : (k byte : ℕ) (i : Instr) (what : Operation) (both : ValueBounds × ValueBounds) → slice_get program.instrs k ≡ Some i → slice_get places k ≡ Some byte
      → operation_of i ≡ Some what → option_and_then top_two (known_at here k) ≡ Some both → (t : Bool)
      → IfSome (if t then wraps k byte what both.0 both.1 else None) (IsTrueOf program size places)
  if_first k byte i what both is there op known false = tt
  if_first k byte i what both is there op known true = if_wraps k byte i what both.0 both.1 is there op known (may_wrap what both.0 both.1) refl

  of_known : (k byte : ℕ) (i : Instr) (what : Operation) → slice_get program.instrs k ≡ Some i → slice_get places k ≡ Some byte
      → operation_of i ≡ Some what → (both : Option (ValueBounds × ValueBounds)) → option_and_then top_two (known_at here k) ≡ both
      → IfSome (option_and_then (λ both. if is_first places k byte then wraps k byte what both.0 both.1 else None) both) (IsTrueOf program size places)
  of_known k byte i what is there op None known = tt
  of_known k byte i what is there op (Some both) known = if_first k byte i what both is there op known (is_first places k byte)

  of_operation : (k byte : ℕ) (i : Instr) → slice_get program.instrs k ≡ Some i → slice_get places k ≡ Some byte
      → (what : Option Operation) → operation_of i ≡ what
      → IfSome (option_and_then
      (λ what. option_and_then (λ both. if is_first places k byte then wraps k byte what both.0 both.1 else None) (option_and_then top_two (known_at here k)))
      what) (IsTrueOf program size places)
  of_operation k byte i is there None op = tt
  of_operation k byte i is there (Some what) op = of_known k byte i what is there op (option_and_then top_two (known_at here k)) refl

  operation_is_so : (k : ℕ) → (i : Option Instr) → slice_get program.instrs k ≡ i → (byte : Option ℕ) → slice_get places k ≡ byte
      → IfSome (option_and_then
      (λ i. option_and_then
      (λ byte. option_and_then
      (λ what. option_and_then
      (λ both. if is_first places k byte then wraps k byte what both.0 both.1 else None)
      (option_and_then top_two (known_at here k)))
      (operation_of i))
      byte)
      i) (IsTrueOf program size places)
  operation_is_so k None is byte there = tt
  operation_is_so k (Some i) is None there = tt
  operation_is_so k (Some i) is (Some byte) there = of_operation k byte i is there (operation_of i) refl

  -- a variable
  read_if_loaded : (instrs : List Instr) (k number : ℕ) → list_any (is_load_of number) instrs ≡ false → slice_get instrs k ≢ Some (instr.Load number)
  read_if_loaded instrs k number e is =
      let same : (number == number) ≡ true = grind (arith, nat_tests) in
      let found : list_any (is_load_of number) instrs ≡ true = any_passes_from_place (is_load_of number) instrs k (instr.Load number) is same in
      let no : ⊥ = cc in
      no

  if_unread : (k byte number : ℕ) → slice_get program.instrs k ≡ Some (instr.Store number) → slice_get places k ≡ Some byte → k ≡ 2 * number + 1
      → (t : Bool) → list_any (is_load_of number) program.instrs ≡ t
      → IfSome (if t then None else Some (record { instruction = k; byte = byte; cause = cause.Unread })) (IsTrueOf program size places)
  if_unread k byte number is there at true e = tt
  if_unread k byte number is there at false e = record {
    place = there;
    is_so = record { number = number; declared = at; stored = is; unread = λ j. read_if_loaded program.instrs j number e };
  }

  of_test : (k byte number : ℕ) → slice_get program.instrs k ≡ Some (instr.Store number) → slice_get places k ≡ Some byte
      → (t : Bool) → (k == 2 * number + 1) ≡ t
      → IfSome (option_and_then (λ number. if list_any (is_load_of number) program.instrs then None
      else Some (record { instruction = k; byte = byte; cause = cause.Unread })) (if t then Some number else None)) (IsTrueOf program size places)
  of_test k byte number is there false e = tt
  of_test k byte number is there true e =
      if_unread k byte number is there (grind (arith, nat_tests)) (list_any (is_load_of number) program.instrs) refl

  of_store : (k byte : ℕ) (i : Instr) → slice_get program.instrs k ≡ Some i → slice_get places k ≡ Some byte
      → IfSome (option_and_then (λ number. if list_any (is_load_of number) program.instrs then None
      else Some (record { instruction = k; byte = byte; cause = cause.Unread })) (declared_by i k)) (IsTrueOf program size places)
  of_store k byte (instr.Store number) is there = of_test k byte number is there (k == 2 * number + 1) refl
  of_store k byte _ is there = tt

  variable_is_so : (k : ℕ) → (i : Option Instr) → slice_get program.instrs k ≡ i → (byte : Option ℕ) → slice_get places k ≡ byte
      → IfSome (option_and_then
      (λ i. option_and_then
      (λ byte. option_and_then (λ number. if list_any (is_load_of number) program.instrs then None
      else Some (record { instruction = k; byte = byte; cause = cause.Unread })) (declared_by i k))
      byte)
      i) (IsTrueOf program size places)
  variable_is_so k None is byte there = tt
  variable_is_so k (Some i) is None there = tt
  variable_is_so k (Some i) is (Some byte) there = of_store k byte i is there

  -- a metric
  if_large : (k byte : ℕ) (bounds : ValueBounds) → slice_get program.instrs k ≡ Some instr.SetMetric → slice_get places k ≡ Some byte
      → option_and_then top_one (known_at here k) ≡ Some bounds → (t : Bool) → nat_le size bounds.low ≡ t
      → IfSome (if t then Some (record { instruction = k; byte = byte; cause = cause.Unreachable bounds }) else None) (IsTrueOf program size places)
  if_large k byte bounds is there known false e = tt
  if_large k byte bounds is there known true e = record {
    place = there;
    is_so = record {
      sets = is;
      known = known_there (nat_lt k (known_of program size)) top_one (in_state program size k) bounds known;
      large = grind (arith, nat_tests);
    };
  }

  of_setting : (k byte : ℕ) (i : Instr) (bounds : ValueBounds) → slice_get program.instrs k ≡ Some i → slice_get places k ≡ Some byte
      → option_and_then top_one (known_at here k) ≡ Some bounds
      → IfSome (if sets_metric i && nat_le size bounds.low
      then Some (record { instruction = k; byte = byte; cause = cause.Unreachable bounds }) else None) (IsTrueOf program size places)
  of_setting k byte instr.SetMetric bounds is there known = if_large k byte bounds is there known (nat_le size bounds.low) refl
  of_setting k byte _ bounds is there known = tt

  of_bounds : (k byte : ℕ) (i : Instr) → slice_get program.instrs k ≡ Some i → slice_get places k ≡ Some byte
      → (bounds : Option ValueBounds) → option_and_then top_one (known_at here k) ≡ bounds
      → IfSome (option_and_then (λ bounds. if sets_metric i && nat_le size bounds.low
      then Some (record { instruction = k; byte = byte; cause = cause.Unreachable bounds }) else None) bounds) (IsTrueOf program size places)
  of_bounds k byte i is there None known = tt
  of_bounds k byte i is there (Some bounds) known = of_setting k byte i bounds is there known

  metric_is_so : (k : ℕ) → (i : Option Instr) → slice_get program.instrs k ≡ i → (byte : Option ℕ) → slice_get places k ≡ byte
      → IfSome (option_and_then
      (λ i. option_and_then
      (λ byte. option_and_then (λ bounds. if sets_metric i && nat_le size bounds.low
      then Some (record { instruction = k; byte = byte; cause = cause.Unreachable bounds }) else None) (option_and_then top_one (known_at here k)))
      byte)
      i) (IsTrueOf program size places)
  metric_is_so k None is byte there = tt
  metric_is_so k (Some i) is None there = tt
  metric_is_so k (Some i) is (Some byte) there = of_bounds k byte i is there (option_and_then top_one (known_at here k)) refl

  -- a pattern
  if_covered : (k byte number : ℕ) (patterns : List PrefixPattern) (j : ℕ) (inner : PrefixPattern) → slice_get program.instrs k ≡ Some (instr.Member number)
      → slice_get places k ≡ Some byte → slice_get program.sets number ≡ Some patterns → slice_get patterns j ≡ Some inner
      → (outer : Option ℕ) → covering patterns j inner ≡ outer
      → IfSome (option_and_then (λ outer. Some (record { instruction = k; byte = byte; cause = cause.Covered number j outer })) outer)
      (IsTrueOf program size places)
  if_covered k byte number patterns j inner is there set inner_is None e = tt
  if_covered k byte number patterns j inner is there set inner_is (Some outer) e =
      let found = covered patterns j inner inner_is outer e in
      record {
        place = there;
        is_so = record {
          asks = is;
          patterns = patterns;
          set = set;
          inner = inner;
          outer = found.outer;
          inner_is = inner_is;
          outer_is = found.there;
          apart = found.apart;
          covers = covers_all inner found.outer found.all;
        };
      }

  of_pattern : (k byte number : ℕ) (patterns : List PrefixPattern) (j : ℕ) → slice_get program.instrs k ≡ Some (instr.Member number)
      → slice_get places k ≡ Some byte → slice_get program.sets number ≡ Some patterns
      → (inner : Option PrefixPattern) → slice_get patterns j ≡ inner
      → IfSome (option_and_then
      (λ inner. option_and_then (λ outer. Some (record { instruction = k; byte = byte; cause = cause.Covered number j outer })) (covering patterns j inner))
      inner) (IsTrueOf program size places)
  of_pattern k byte number patterns j is there set None inner_is = tt
  of_pattern k byte number patterns j is there set (Some inner) inner_is =
      if_covered k byte number patterns j inner is there set inner_is (covering patterns j inner) refl

  of_set : (k byte number : ℕ) → slice_get program.instrs k ≡ Some (instr.Member number) → slice_get places k ≡ Some byte
      → (patterns : Option (List PrefixPattern)) → slice_get program.sets number ≡ patterns
      → All (IsTrueOf program size places) (covered_of patterns (record { instruction = k; byte = byte; set = number; is_of_ints = false }))
  of_set k byte number is there None set = All-nil (IsTrueOf program size places)
  of_set k byte number is there (Some patterns) set =
      all_below (IsTrueOf program size places) (covered_at patterns (record { instruction = k; byte = byte; set = number; is_of_ints = false }))
      (λ j. of_pattern k byte number patterns j is there set (slice_get patterns j) refl) (length patterns)

  -- a range of ints
  if_overlapping : (k byte number : ℕ) (ranges : List NumberRange) (j : ℕ) (range : NumberRange) → slice_get program.instrs k ≡ Some (instr.InSet number)
      → slice_get places k ≡ Some byte → slice_get program.int_sets number ≡ Some ranges → slice_get ranges j ≡ Some range
      → (other : Option NumberRange) → overlapped ranges j range ≡ other
      → IfSome (option_and_then (λ other. Some (record { instruction = k; byte = byte; cause = cause.Overlapping (bounds_of range) (bounds_of other) })) other)
      (IsTrueOf program size places)
  if_overlapping k byte number ranges j range is there set range_is None e = tt
  if_overlapping k byte number ranges j range is there set range_is (Some other) e =
      let found = overlapping ranges j range other e in
      let both = shares other range found.all in
      record {
        place = there;
        is_so = record {
          number = number;
          asks = is;
          ranges = ranges;
          set = set;
          j = j;
          k = found.k;
          before = found.before;
          range = range;
          other = other;
          range_is = range_is;
          other_is = found.there;
          of_range = refl;
          of_other = refl;
          shared = _;
          in_range = both.1;
          in_other = both.0;
        };
      }

  of_range : (k byte number : ℕ) (ranges : List NumberRange) (j : ℕ) → slice_get program.instrs k ≡ Some (instr.InSet number)
      → slice_get places k ≡ Some byte → slice_get program.int_sets number ≡ Some ranges
      → (range : Option NumberRange) → slice_get ranges j ≡ range
      → IfSome (option_and_then
      (λ range. option_and_then
      (λ other. Some (record { instruction = k; byte = byte; cause = cause.Overlapping (bounds_of range) (bounds_of other) }))
      (overlapped ranges j range))
      range) (IsTrueOf program size places)
  of_range k byte number ranges j is there set None range_is = tt
  of_range k byte number ranges j is there set (Some range) range_is =
      if_overlapping k byte number ranges j range is there set range_is (overlapped ranges j range) refl

  of_int_set : (k byte number : ℕ) → slice_get program.instrs k ≡ Some (instr.InSet number) → slice_get places k ≡ Some byte
      → (ranges : Option (List NumberRange)) → slice_get program.int_sets number ≡ ranges
      → All (IsTrueOf program size places) (overlaps_of ranges (record { instruction = k; byte = byte; set = number; is_of_ints = true }))
  of_int_set k byte number is there None set = All-nil (IsTrueOf program size places)
  of_int_set k byte number is there (Some ranges) set =
      all_below (IsTrueOf program size places) (overlap_at ranges (record { instruction = k; byte = byte; set = number; is_of_ints = true }))
      (λ j. of_range k byte number ranges j is there set (slice_get ranges j) refl) (length ranges)

  of_question : (k byte : ℕ) (i : Instr) → slice_get program.instrs k ≡ Some i → slice_get places k ≡ Some byte
      → All (IsTrueOf program size places) (overlaps_where program
      (option_and_then (λ set. Some (record { instruction = k; byte = byte; set = set; is_of_ints = asks_ints i })) (asked_by i)))
  of_question k byte (instr.Member number) is there = of_set k byte number is there (slice_get program.sets number) refl
  of_question k byte (instr.InSet number) is there = of_int_set k byte number is there (slice_get program.int_sets number) refl
  of_question k byte _ is there = All-nil (IsTrueOf program size places)

  sets_are_so : (k : ℕ) (i : Option Instr) → slice_get program.instrs k ≡ i → (byte : Option ℕ) → slice_get places k ≡ byte
      → All (IsTrueOf program size places) (overlaps_where program (option_and_then
      (λ i. option_and_then
      (λ byte. option_and_then (λ set. Some (record { instruction = k; byte = byte; set = set; is_of_ints = asks_ints i })) (asked_by i))
      byte)
      i))
  sets_are_so k None is byte there = All-nil (IsTrueOf program size places)
  sets_are_so k (Some i) is None there = All-nil (IsTrueOf program size places)
  sets_are_so k (Some i) is (Some byte) there = of_question k byte i is there

  -- those on members of sets
  pub members_are_so : All (IsTrueOf program size places) (overlapping_members here)
  members_are_so = each_of (IsTrueOf program size places) (overlaps_by here)
      (λ k. sets_are_so k (slice_get program.instrs k) refl (slice_get places k) refl) (length program.instrs)

  -- those that were found are the same
  pub members_found : {E : Type 0} (r : Result (Vec Warning Global) E) → IfOk r (λ found. found.items ≡ overlapping_members here)
      → IfOk r (λ found. All (IsTrueOf program size places) found.items)
  members_found (Ok found) same = All-same (IsTrueOf program size places) found.items (overlapping_members here) same members_are_so
  members_found (Err e) same = tt

  -- all of them
  pub hints_are_so : All (IsTrueOf program size places) (hints here)
  hints_are_so =
      let P : Warning → Type 0 = IsTrueOf program size places in
      let all = length program.instrs in
      All-append P _ _
      (all_below P (wraps_at here) (λ k. operation_is_so k (slice_get program.instrs k) refl (slice_get places k) refl) all)
      (All-append P _ _
      members_are_so
      (All-append P _ _
      (all_below P (unread_at here) (λ k. variable_is_so k (slice_get program.instrs k) refl (slice_get places k) refl) all)
      (all_below P (unreachable_at here) (λ k. metric_is_so k (slice_get program.instrs k) refl (slice_get places k) refl) all)))
