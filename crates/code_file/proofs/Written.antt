-- The bytes of fields that are written one after the other.
use Rattle.std.proofs.Common.{◌≡◌, ℕ, ◌%◌, ◌<◌, ◌≤◌, List, [], ◌∷◌, ◌++◌, length, All, take, get_or, ◌+◌, refl, sym, ap, ◌∙◌}
use Rattle.std.proofs.Common.{append_assoc, arith, inl, inr, lit<, ltb, Result, Ok, Err, Bool, true, false, ◌||◌}
use Rattle.std.specs.Prelude.{OnOk}
use Rattle.std.specs.List.{flat_map, AllByRecursion, list_any}
use Rattle.std.proofs.lemmas.Bool.{cases_lt, ltb-false}
use Rattle.std.proofs.lemmas.List.{append-nil, take_more, get_or_default}
use Rattle.std.proofs.lemmas.List.Concat.{flat_map-cons}
use Rattle.std.proofs.lemmas.List.Elements.{recursion_from_All}
use Rattle.byteorder.specs.Endian.{big_bytes}
use Rattle.prefix_patterns.specs.Matching.{pattern_limit}
use Rattle.prefix_patterns.specs.Matching.{PrefixPattern}
use Rattle.filter_code.specs.Limits.{local_limit, set_limit, int_set_limit, instruction_limit}
use Rattle.filter_code.specs.CodeView.{CodeView}
use Rattle.filter_code.specs.declared.instruction.Instr.{Instr}
use Rattle.int_sets.specs.Holding.{NumberRange, range_limit}
use Rattle.code_file.specs.Spelling.{Field, bytes_of, pattern, set, counted, range, int_set, int_sets, instruction}
use Rattle.code_file.specs.Spelling.{spelling_in, IsPattern, IsSet, IsInstruction, IsCodeIn}
use Rattle.code_file.specs.Spelling.{IsRange, IsIntSet, AreIntSets, needs_int_sets}
use Rattle.code_file.specs.declared.version.Version.{Version}
use Rattle.code_file.specs.declared.version.Version.TheVariants as version
use Rattle.code_file.specs.Fields.{version_byte, is_in_set, is_in}
use Rattle.code_file.specs.Fields.FieldKind.{Instructions}

pub bytes_of-append : (fs gs : List Field) → bytes_of (fs ++ gs) ≡ bytes_of fs ++ bytes_of gs
bytes_of-append [] gs = refl
bytes_of-append (f ∷ fs) gs = ap (λ (bytes : List ℕ). f.bytes ++ bytes) (bytes_of-append fs gs)
    ∙ sym (append_assoc f.bytes (bytes_of fs) (bytes_of gs))

pub bytes_of-flat_map : {A : Type 0} (fields_of : A → List Field) (xs : List A) →
    bytes_of (flat_map fields_of xs) ≡ flat_map (λ x. bytes_of (fields_of x)) xs
bytes_of-flat_map fields_of [] = refl
bytes_of-flat_map {A} fields_of (x ∷ xs) =
    ap bytes_of (flat_map-cons fields_of x xs)
    ∙ bytes_of-append (fields_of x) (flat_map fields_of xs)
    ∙ ap (λ (bytes : List ℕ). bytes_of (fields_of x) ++ bytes) (bytes_of-flat_map fields_of xs)
    ∙ sym (flat_map-cons (λ x. bytes_of (fields_of x)) x xs)

-- a set after what was written
pub set_written : (old : List ℕ) (patterns : List PrefixPattern) →
    (old ++ big_bytes 2 (length patterns)) ++ flat_map (λ p. bytes_of (pattern p ∷ [])) patterns ≡ old ++ bytes_of (set patterns)
set_written old patterns =
    append_assoc old (big_bytes 2 (length patterns)) (flat_map (λ p. bytes_of (pattern p ∷ [])) patterns)
    ∙ ap (λ (bytes : List ℕ). old ++ (big_bytes 2 (length patterns) ++ bytes)) (sym (bytes_of-flat_map (λ p. pattern p ∷ []) patterns))

-- a byte is itself as the lowest byte of a number
low_byte : (n : ℕ) → n < 256 → big_bytes 1 n ≡ n ∷ []
low_byte n h =
    let e : n % 256 ≡ n = omega arith in
    ap (λ (b : ℕ). b ∷ []) e

version_is_byte : (v : Version) → version_byte v < 256
version_is_byte version.One = lit< tt
version_is_byte version.Two = lit< tt

-- the mark up to its last byte
abbrev pub head : List ℕ
head = 0x4E ∷ 0x43 ∷ 0x46 ∷ []

-- the bytes of the sets, of the sets of ints and of the instructions
abbrev pub set_bytes : CodeView → List ℕ
set_bytes code = flat_map (λ s. bytes_of (set s)) code.sets

abbrev pub int_set_bytes : Version → CodeView → List ℕ
int_set_bytes v code = bytes_of (int_sets v code.int_sets)

abbrev pub instruction_bytes : Version → CodeView → List ℕ
instruction_bytes v code = flat_map (λ i. bytes_of (instruction v i)) code.instrs

-- what follows the number of sets
after_count : (v : Version) (code : CodeView) →
    bytes_of (flat_map set code.sets ++ (int_sets v code.int_sets ++ counted Instructions (instruction v) code.instrs))
    ≡ set_bytes code ++ (int_set_bytes v code ++ (big_bytes 2 (length code.instrs) ++ instruction_bytes v code))
after_count v code =
    bytes_of-append (flat_map set code.sets) (int_sets v code.int_sets ++ counted Instructions (instruction v) code.instrs)
    ∙ ap (λ (bytes : List ℕ). bytes ++ bytes_of (int_sets v code.int_sets ++ counted Instructions (instruction v) code.instrs))
    (bytes_of-flat_map set code.sets)
    ∙ ap (λ (bytes : List ℕ). set_bytes code ++ bytes)
    (bytes_of-append (int_sets v code.int_sets) (counted Instructions (instruction v) code.instrs))
    ∙ ap (λ (bytes : List ℕ). set_bytes code ++ (int_set_bytes v code ++ (big_bytes 2 (length code.instrs) ++ bytes)))
    (bytes_of-flat_map (instruction v) code.instrs)

-- a whole file
pub file_written : (v : Version) (code : CodeView) → code.locals ≤ local_limit → length code.sets ≤ set_limit
    → (((((((head ++ version_byte v ∷ []) ++ code.locals ∷ []) ++ length code.sets ∷ []) ++ set_bytes code)
    ++ int_set_bytes v code) ++ big_bytes 2 (length code.instrs)) ++ instruction_bytes v code)
    ≡ spelling_in v code
file_written v code few_locals few_sets =
    let mark : big_bytes 1 (version_byte v) ≡ version_byte v ∷ [] = low_byte (version_byte v) (version_is_byte v) in
    let locals : big_bytes 1 code.locals ≡ code.locals ∷ [] = low_byte code.locals (omega arith) in
    let sets : big_bytes 1 (length code.sets) ≡ length code.sets ∷ [] = low_byte (length code.sets) (omega arith) in
    let last : List ℕ = big_bytes 2 (length code.instrs) ++ instruction_bytes v code in
    let end : List ℕ = set_bytes code ++ (int_set_bytes v code ++ last) in
    let spelled : spelling_in v code
    ≡ head ++ ((version_byte v ∷ []) ++ ((code.locals ∷ []) ++ ((length code.sets ∷ []) ++ end))) =
    ap (λ (bytes : List ℕ). head ++ (big_bytes 1 (version_byte v) ++ (big_bytes 1 code.locals
    ++ (big_bytes 1 (length code.sets) ++ bytes)))) (after_count v code)
    ∙ ap (λ (bytes : List ℕ). head ++ (bytes ++ (big_bytes 1 code.locals ++ (big_bytes 1 (length code.sets) ++ end)))) mark
    ∙ ap (λ (bytes : List ℕ). head ++ ((version_byte v ∷ []) ++ (bytes ++ (big_bytes 1 (length code.sets) ++ end)))) locals
    ∙ ap (λ (bytes : List ℕ). head ++ ((version_byte v ∷ []) ++ ((code.locals ∷ []) ++ (bytes ++ end)))) sets in
    let front : List ℕ = head ++ (version_byte v ∷ (code.locals ∷ (length code.sets ∷ []))) in
    append_assoc ((front ++ set_bytes code) ++ int_set_bytes v code) (big_bytes 2 (length code.instrs)) (instruction_bytes v code)
    ∙ append_assoc (front ++ set_bytes code) (int_set_bytes v code) last
    ∙ append_assoc front (set_bytes code) (int_set_bytes v code ++ last)
    ∙ sym spelled

flat_map-push : {A : Type 0} (f : A → List ℕ) (xs : List A) (x : A) → flat_map f (xs ++ x ∷ []) ≡ flat_map f xs ++ f x
flat_map-push f [] x = flat_map-cons f x [] ∙ append-nil (f x)
flat_map-push f (y ∷ xs) x =
    flat_map-cons f y (xs ++ x ∷ []) ∙ ap (λ (bytes : List ℕ). f y ++ bytes) (flat_map-push f xs x)
    ∙ sym (append_assoc (f y) (flat_map f xs) (f x)) ∙ ap (λ (bytes : List ℕ). bytes ++ f x) (sym (flat_map-cons f y xs))

-- one more after those that were written
pub grown : {A : Type 0} (f : A → List ℕ) (old now new : List ℕ) (xs : List A) (i : ℕ) (x : A) → i < length xs →
    x ≡ get_or xs i x → now ≡ old ++ flat_map f (take i xs) → new ≡ now ++ f x → new ≡ old ++ flat_map f (take (i + 1) xs)
grown f old now new xs i x lt is so_far more =
    let longer : take (i + 1) xs ≡ take i xs ++ x ∷ [] = take_more xs i x lt ∙ ap (λ y. take i xs ++ y ∷ []) (sym is) in
    more ∙ ap (λ (bytes : List ℕ). bytes ++ f x) so_far ∙ append_assoc old (flat_map f (take i xs)) (f x)
    ∙ ap (λ (bytes : List ℕ). old ++ bytes) (sym (ap (flat_map f) longer ∙ flat_map-push f (take i xs) x))

pub all_grown : {A : Type 0} (P : A → Type 0) (xs : List A) (i : ℕ) (x : A) → i < length xs → x ≡ get_or xs i x → P x →
    ((k : ℕ) (d : A) → k < i → P (get_or xs k d)) → (k : ℕ) (d : A) → k < i + 1 → P (get_or xs k d)
all_grown P xs i x lt is here so_far k d h =
    elim (cases_lt k i) [
      | inl below ↦ so_far k d below
      | inr above ↦
          let last : k ≡ i = omega arith in
          rw (last, get_or_default xs i d x lt, ← is) here
    ]

or_false : (a b : Bool) → (a || b) ≡ false → (a ≡ false) × (b ≡ false)
or_false true b e = absurd cc
or_false false b e = (refl, e)

-- instructions, none of which looks into a set of ints, are those of each version
pub each_in : (v : Version) (instrs : List Instr) → AllByRecursion (IsInstruction version.Two) instrs →
    (v ≡ version.One → list_any is_in_set instrs ≡ false) → AllByRecursion (IsInstruction v) instrs
each_in version.Two instrs each none = each
each_in version.One [] each none = tt
each_in version.One (i ∷ instrs) each none =
    let both = or_false (is_in_set i) (list_any is_in_set instrs) (none refl) in
    let is : is_in version.One i ≡ true = rw both.0 refl in
    ((each.0.0, is), each_in version.One instrs each.1 (λ e. both.1))

-- what was read of the parts makes it a code that has a file
pub is_code : (v : Version) (code : CodeView) → code.locals ≤ local_limit → length code.sets ≤ set_limit →
    length code.instrs ≤ instruction_limit → All IsSet code.sets → AreIntSets v code.int_sets → All (IsInstruction version.Two) code.instrs →
    (v ≡ version.One → list_any is_in_set code.instrs ≡ false) → IsCodeIn v code
is_code v code locals sets instrs each_set int_sets each_instr none =
    record {
      locals = locals;
      sets = sets;
      each_set = recursion_from_All IsSet code.sets each_set;
      int_sets = int_sets;
      instrs = instrs;
      each_instr = each_in v code.instrs (recursion_from_All (IsInstruction version.Two) code.instrs each_instr) none;
    }

pub is_set : (patterns : List PrefixPattern) → length patterns ≤ pattern_limit → All IsPattern patterns → IsSet patterns
is_set patterns limit each = record { within_limit = limit; each = recursion_from_All IsPattern patterns each }

-- what was written in parts
pub file_joined : (v : Version) (code : CodeView) (one mark two three four ints five six : List ℕ) → code.locals ≤ local_limit →
    length code.sets ≤ set_limit
    → one ≡ head → mark ≡ one ++ version_byte v ∷ [] → two ≡ mark ++ code.locals ∷ [] → three ≡ two ++ length code.sets ∷ [] →
    four ≡ three ++ set_bytes code → ints ≡ four ++ int_set_bytes v code
    → five ≡ ints ++ big_bytes 2 (length code.instrs) → six ≡ five ++ instruction_bytes v code → six ≡ spelling_in v code
file_joined v code one mark two three four ints five six few_locals few_sets p m q r s i t u =
    u ∙ ap (λ (bytes : List ℕ). bytes ++ instruction_bytes v code)
    (t ∙ ap (λ (bytes : List ℕ). bytes ++ big_bytes 2 (length code.instrs))
    (i ∙ ap (λ (bytes : List ℕ). bytes ++ int_set_bytes v code)
    (s ∙ ap (λ (bytes : List ℕ). bytes ++ set_bytes code)
    (r ∙ ap (λ (bytes : List ℕ). bytes ++ length code.sets ∷ []) (q ∙ ap (λ (bytes : List ℕ). bytes ++ code.locals ∷ [])
    (m ∙ ap (λ (bytes : List ℕ). bytes ++ version_byte v ∷ []) p))))))
    ∙ file_written v code few_locals few_sets

-- ---- sets of ints

-- a set of ints after what was written
pub int_set_written : (old : List ℕ) (ranges : List NumberRange) →
    (old ++ big_bytes 2 (length ranges)) ++ flat_map (λ r. bytes_of (range r ∷ [])) ranges ≡ old ++ bytes_of (int_set ranges)
int_set_written old ranges =
    append_assoc old (big_bytes 2 (length ranges)) (flat_map (λ r. bytes_of (range r ∷ [])) ranges)
    ∙ ap (λ (bytes : List ℕ). old ++ (big_bytes 2 (length ranges) ++ bytes)) (sym (bytes_of-flat_map (λ r. range r ∷ []) ranges))

pub is_int_set : (ranges : List NumberRange) → length ranges ≤ range_limit → All IsRange ranges → IsIntSet ranges
is_int_set ranges limit each = record { within_limit = limit; each = recursion_from_All IsRange ranges each }

-- the number of sets of ints, and these
pub int_sets_written : (old : List ℕ) (sets : List (List NumberRange)) → length sets ≤ int_set_limit →
    (old ++ length sets ∷ []) ++ flat_map (λ s. bytes_of (int_set s)) sets ≡ old ++ bytes_of (int_sets version.Two sets)
int_sets_written old sets few =
    append_assoc old (length sets ∷ []) (flat_map (λ s. bytes_of (int_set s)) sets)
    ∙ ap (λ (bytes : List ℕ). old ++ (bytes ++ flat_map (λ s. bytes_of (int_set s)) sets))
    (sym (low_byte (length sets) (omega arith)))
    ∙ ap (λ (bytes : List ℕ). old ++ (big_bytes 1 (length sets) ++ bytes)) (sym (bytes_of-flat_map int_set sets))

pub no_int_sets : (sets : List (List NumberRange)) → length sets ≡ 0 → sets ≡ []
no_int_sets [] e = refl
no_int_sets (s ∷ sets) e = absurd (omega (arith, e))

pub are_int_sets : (sets : List (List NumberRange)) → length sets ≤ int_set_limit → All IsIntSet sets → AreIntSets version.Two sets
are_int_sets sets limit each = (limit, recursion_from_All IsIntSet sets each)

-- a code without sets of ints and INSETs
pub needs_none : (code : CodeView) → needs_int_sets code ≡ false → (length code.int_sets ≡ 0) × (list_any is_in_set code.instrs ≡ false)
needs_none code e =
    let both = or_false (ltb 0 (length code.int_sets)) (list_any is_in_set code.instrs) e in
    let least : length code.int_sets ≤ 0 = ltb-false _ _ both.0 in
    (omega (arith, least), both.1)

-- what follows from what stands where nothing failed
pub on_ok : {X E P Q : Type 0} (r : Result X E) → (P → Q) → OnOk r P → OnOk r Q
on_ok (Ok x) follows h = follows h
on_ok (Err e) follows h = tt
