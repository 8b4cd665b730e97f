-- How many bytes the file of a code has, by the members of its sets.
use Rattle.std.proofs.Common.{ℕ, ◌+◌, ◌*◌, ◌≤◌, List, [], ◌∷◌, ◌++◌, length, ap, arith, lit≤, length-append}
use Rattle.std.proofs.lemmas.List.Concat.{flat_map-cons}
use Rattle.std.specs.List.{flat_map}
use Rattle.prefix_patterns.specs.Matching.{PrefixPattern}
use Rattle.int_sets.specs.Holding.{NumberRange}
use Rattle.filter_code.specs.CodeView.{CodeView}
use Rattle.filter_code.specs.Table.{Literal, Bare, Word, Truth, Bits, Index, Length, Skip, literal_of}
use Rattle.filter_code.specs.declared.instruction.Instr.{Instr}
use Rattle.code_file.proofs.Written.{bytes_of-append, bytes_of-flat_map}
use Rattle.code_file.specs.Fields.FieldKind.{Instructions, Sets}
use Rattle.code_file.specs.Spelling.{bytes_of, counted, instruction, int_set, int_sets, literal_field, pattern, range, set, spelling_in}
use Rattle.code_file.specs.declared.version.Version.{Version}
use Rattle.code_file.specs.declared.version.Version.TheVariants as version
use Rattle.filter_reports.proofs.SetMembers.{members_in}

-- items of at most so many bytes each
items_length : {A : Type 0} (k : ℕ) (f : A → List ℕ) → ((x : A) → length (f x) ≤ k) → (xs : List A) → length (flat_map f xs) ≤ k * length xs
items_length k f each [] = omega arith
items_length k f each (x ∷ xs) =
    omega (arith, ap length (flat_map-cons f x xs), length-append (f x) (flat_map f xs), each x, items_length k f each xs)

-- sets, each with its number of members in two bytes, and at most so many bytes for a member
sets_length : {X : Type 0} (k : ℕ) (f : List X → List ℕ) → ((one : List X) → length (f one) ≤ 2 + k * length one) → (sets : List (List X))
    → length (flat_map f sets) ≤ 2 * length sets + k * members_in sets
sets_length k f each [] = omega arith
sets_length k f each (x ∷ xs) =
    omega (arith, ap length (flat_map-cons f x xs), length-append (f x) (flat_map f xs), each x, sets_length k f each xs)

pattern_length : (p : PrefixPattern) → length (bytes_of (pattern p ∷ [])) ≤ 7
pattern_length p = lit≤ tt

range_length : (r : NumberRange) → length (bytes_of (range r ∷ [])) ≤ 8
range_length r = lit≤ tt

set_length : (patterns : List PrefixPattern) → length (bytes_of (set patterns)) ≤ 2 + 7 * length patterns
set_length patterns =
    omega (
      arith,
      ap length (bytes_of-flat_map (λ p. pattern p ∷ []) patterns),
      items_length 7 (λ p. bytes_of (pattern p ∷ [])) pattern_length patterns,
    )

int_set_length : (ranges : List NumberRange) → length (bytes_of (int_set ranges)) ≤ 2 + 8 * length ranges
int_set_length ranges =
    omega (arith, ap length (bytes_of-flat_map (λ r. range r ∷ []) ranges), items_length 8 (λ r. bytes_of (range r ∷ [])) range_length ranges)

literal_length : (l : Literal) → length (bytes_of (literal_field l)) ≤ 5
literal_length Bare = lit≤ tt
literal_length (Word n) = lit≤ tt
literal_length (Truth b) = lit≤ tt
literal_length (Bits bits) = lit≤ tt
literal_length (Index i) = lit≤ tt
literal_length (Length n) = lit≤ tt
literal_length (Skip k) = lit≤ tt

instruction_length : (v : Version) (i : Instr) → length (bytes_of (instruction v i)) ≤ 6
instruction_length v i = omega (arith, literal_length (literal_of i))

-- the sets of patterns, the sets of ints, and the instructions, each after their number
patterns_length : (sets : List (List PrefixPattern))
    → length (bytes_of (counted Sets set sets)) ≤ 1 + (2 * length sets + 7 * members_in sets)
patterns_length sets =
    omega (arith, ap length (bytes_of-flat_map set sets), sets_length 7 (λ one. bytes_of (set one)) set_length sets)

ints_length : (v : Version) (sets : List (List NumberRange))
    → length (bytes_of (int_sets v sets)) ≤ 1 + (2 * length sets + 8 * members_in sets)
ints_length version.One sets = omega arith
ints_length version.Two sets =
    omega (arith, ap length (bytes_of-flat_map int_set sets), sets_length 8 (λ one. bytes_of (int_set one)) int_set_length sets)

instructions_length : (v : Version) (instrs : List Instr)
    → length (bytes_of (counted Instructions (instruction v) instrs)) ≤ 2 + 6 * length instrs
instructions_length v instrs =
    omega (
      arith,
      ap length (bytes_of-flat_map (instruction v) instrs),
      items_length 6 (λ i. bytes_of (instruction v i)) (instruction_length v) instrs,
    )

-- the head, the sets of patterns, the sets of ints and the instructions
pub file_length : (v : Version) (code : CodeView) → length (spelling_in v code)
    ≤ 9 + (2 * length code.sets + 7 * members_in code.sets) + (2 * length code.int_sets + 8 * members_in code.int_sets) + 6 * length code.instrs
file_length v code =
    let ints = int_sets v code.int_sets in
    let instrs = counted Instructions (instruction v) code.instrs in
    let sets = counted Sets set code.sets in
    omega (
      arith,
      ap length (bytes_of-append sets (ints ++ instrs)),
      length-append (bytes_of sets) (bytes_of (ints ++ instrs)),
      ap length (bytes_of-append ints instrs),
      length-append (bytes_of ints) (bytes_of instrs),
      patterns_length code.sets,
      ints_length v code.int_sets,
      instructions_length v code.instrs,
    )
