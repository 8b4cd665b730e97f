-- The file of a code is made of bytes, at most 989,449 of them.
use Rattle.std.proofs.Common.{Bool, ℕ, zero, suc, ◌+◌, ◌*◌, ◌<◌, ◌≤◌, List, [], ◌∷◌, ◌++◌, length, slice_index, sym, subst, arith}
use Rattle.std.proofs.Common.{lit<, lit≤, length-append, append-nil, if◌then◌else◌}
use Rattle.std.specs.List.{AllByRecursion, flat_map}
use Rattle.prefix_patterns.specs.Bits.{address_of}
use Rattle.prefix_patterns.specs.Matching.{PrefixPattern}
use Rattle.filter_code.specs.Table.{Literal, Bare, Word, Truth, Bits, Index, Length, Skip, literal_of, opcode}
use Rattle.filter_code.specs.CodeView.{CodeView}
use Rattle.filter_code.specs.declared.instruction.Instr.{Instr}
use Rattle.code_file.proofs.Written.{bytes_of-append, bytes_of-flat_map}
use Rattle.int_sets.specs.Holding.{NumberRange}
use Rattle.code_file.specs.declared.version.Version.{Version}
use Rattle.code_file.specs.declared.version.Version.TheVariants as version
use Rattle.code_file.specs.Fields.{FieldKind, IsBytes, mark_bytes, version_byte, width}
use Rattle.code_file.specs.Fields.FieldKind.{Instructions, IntSets, Locals, Mark, VersionMark, Patterns, Ranges, Sets}
use Rattle.code_file.specs.Spelling.{Field, FitsField, IsInstruction, IsPattern, IsCodeIn, IsSet, bytes_of, counted, field, instruction}
use Rattle.code_file.specs.Spelling.{literal_field, mark_byte, version_mark, operand, pattern, prefix_bytes, set, spelling}
use Rattle.code_file.specs.Spelling.{range, int_set, int_sets, spelling_in, AreIntSets, IsCode, IsIntSet, IsRange}
use Rattle.std.specs.Int.{byte_at, bytes_high_first as big_bytes}

-- at most so many bytes
pub record AreBytes (limit : ℕ) (bytes : List ℕ) : Type 0 where
  pub few : length bytes ≤ limit
  pub each : IsBytes bytes

-- both parts together
joined_bytes : (xs ys : List ℕ) → IsBytes xs → IsBytes ys → IsBytes (xs ++ ys)
joined_bytes [] ys a b i = b i
joined_bytes (x ∷ xs) ys a b zero = a zero
joined_bytes (x ∷ xs) ys a b (suc i) = joined_bytes xs ys (λ k. a (suc k)) b i

joined : (m n : ℕ) (xs ys : List ℕ) → AreBytes m xs → AreBytes n ys → AreBytes (m + n) (xs ++ ys)
joined m n xs ys a b =
    let sum = length-append xs ys in
    let first = a.few in
    let second = b.few in
    record { few = omega arith; each = joined_bytes xs ys a.each b.each }

-- more are allowed
relaxed : (m n : ℕ) (xs : List ℕ) → m ≤ n → AreBytes m xs → AreBytes n xs
relaxed m n xs le a = record { few = let p = a.few in omega arith; each = a.each }

none : AreBytes 0 []
none = record { few = lit≤ tt; each = λ i. lit< tt }

one : (b : ℕ) → b < 256 → AreBytes 1 (b ∷ [])
one b h = record { few = lit≤ tt; each = each }
  where
    each : IsBytes (b ∷ [])
    each zero = h
    each (suc i) = lit< tt

-- the bytes of a number
number : (n x : ℕ) → AreBytes n (big_bytes n x)
number zero x = none
number (suc n) x = relaxed (1 + n) (suc n) (byte_at n x ∷ big_bytes n x) (omega arith)
    (joined 1 n (byte_at n x ∷ []) (big_bytes n x) (one (byte_at n x) (a_byte n x)) (number n x))
  where
    a_byte : (n x : ℕ) → byte_at n x < 256
    a_byte zero x = omega arith
    a_byte (suc n) x = omega arith

-- of each item the same
flat : {A : Type 0} (P : A → Type 0) (k : ℕ) (f : A → List ℕ) → ((x : A) → P x → AreBytes k (f x)) → (xs : List A)
    → AllByRecursion P xs → AreBytes (k * length xs) (flat_map f xs)
flat P k f each [] all = relaxed 0 (k * 0) [] (omega arith) none
flat P k f each (x ∷ xs) all =
    relaxed (k + k * length xs) (k * length (x ∷ xs)) (f x ++ flat_map f xs) (omega arith)
    (joined k (k * length xs) (f x) (flat_map f xs) (each x all.0) (flat P k f each xs all.1))

-- a field of a number, and those after it
and_more : {n : ℕ} (kind : FieldKind) (x : ℕ) (fs : List Field) → AreBytes n (bytes_of fs)
    → AreBytes (width kind + n) (bytes_of (field kind x ∷ fs))
and_more {n} kind x fs a = joined (width kind) n (big_bytes (width kind) x) (bytes_of fs) (number (width kind) x) a

-- items that are counted
all_counted : {A : Type 0} (kind : FieldKind) (P : A → Type 0) (k limit : ℕ) (fields_of : A → List Field)
    → ((x : A) → P x → AreBytes k (bytes_of (fields_of x))) → (xs : List A) → AllByRecursion P xs → k * length xs ≤ limit
    → AreBytes (width kind + limit) (bytes_of (counted kind fields_of xs))
all_counted kind P k limit fields_of each xs all le =
    and_more kind (length xs) (flat_map fields_of xs)
    (subst (AreBytes limit) (sym (bytes_of-flat_map fields_of xs))
    (relaxed (k * length xs) limit (flat_map (λ x. bytes_of (fields_of x)) xs) le
    (flat P k (λ x. bytes_of (fields_of x)) each xs all)))

-- a field with none after it
alone : (n : ℕ) (bytes : List ℕ) → AreBytes n bytes → AreBytes n (bytes ++ [])
alone n bytes a = subst (AreBytes n) (sym (append-nil bytes)) a

a_prefix : (bits : List Bool) → length bits ≤ 32 → AreBytes 5 (prefix_bytes bits)
a_prefix bits le = joined 4 1 (big_bytes 4 (address_of bits)) (length bits ∷ []) (number 4 (address_of bits))
    (one (length bits) (omega arith))

a_pattern : (p : PrefixPattern) → IsPattern p → AreBytes 7 (bytes_of (pattern p ∷ []))
a_pattern p h =
    let order = h.lengths.order in
    let limit = h.lengths.limit in
    alone 7 (pattern p).bytes
    (joined 5 2 (prefix_bytes p.bits) (p.low ∷ p.high ∷ []) (a_prefix p.bits h.prefix)
    (joined 1 1 (p.low ∷ []) (p.high ∷ []) (one p.low (omega arith)) (one p.high (omega arith))))

a_set : (patterns : List PrefixPattern) → IsSet patterns → AreBytes 7170 (bytes_of (set patterns))
a_set patterns h =
    let le = h.within_limit in
    all_counted Patterns IsPattern 7 7168 (λ p. pattern p ∷ []) a_pattern patterns h.each (omega arith)

a_range : (r : NumberRange) → IsRange r → AreBytes 8 (bytes_of (range r ∷ []))
a_range r h = alone 8 (range r).bytes (joined 4 4 (big_bytes 4 r.low) (big_bytes 4 r.high) (number 4 r.low) (number 4 r.high))

an_int_set : (ranges : List NumberRange) → IsIntSet ranges → AreBytes 8194 (bytes_of (int_set ranges))
an_int_set ranges h =
    let le = h.within_limit in
    all_counted Ranges IsRange 8 8192 (λ r. range r ∷ []) a_range ranges h.each (omega arith)

the_int_sets : (v : Version) (sets : List (List NumberRange)) → AreIntSets v sets → AreBytes 524417 (bytes_of (int_sets v sets))
the_int_sets version.One sets h = relaxed 0 524417 [] (lit≤ tt) none
the_int_sets version.Two sets h =
    let le = h.0 in
    all_counted IntSets IsIntSet 8194 524416 int_set an_int_set sets h.1 (omega arith)

-- the operand of an instruction takes at most five bytes
a_number : (n x : ℕ) → n ≤ 5 → AreBytes 5 (big_bytes n x ++ [])
a_number n x le = relaxed n 5 (big_bytes n x ++ []) le (alone n (big_bytes n x) (number n x))

a_literal : (l : Literal) → FitsField l → AreBytes 5 (bytes_of (literal_field l))
a_literal Bare h = relaxed 0 5 [] (lit≤ tt) none
a_literal (Word n) h = a_number 4 n (lit≤ tt)
a_literal (Truth b) h = a_number 1 (if b then 1 else 0) (lit≤ tt)
a_literal (Bits bits) h = alone 5 (prefix_bytes bits) (a_prefix bits h)
a_literal (Index i) h = a_number 1 i (lit≤ tt)
a_literal (Length n) h = a_number 1 n (lit≤ tt)
a_literal (Skip k) h = a_number 2 k (lit≤ tt)

an_instruction : (v : Version) (i : Instr) → IsInstruction v i → AreBytes 6 (bytes_of (instruction v i))
an_instruction v i h = joined 1 5 (big_bytes 1 (opcode i)) (bytes_of (operand i)) (number 1 (opcode i)) (a_literal (literal_of i) h.0)

-- the mark
a_mark : {n : ℕ} (place : ℕ) (fs : List Field) → AreBytes n (bytes_of fs) → AreBytes (1 + n) (bytes_of (mark_byte place ∷ fs))
a_mark place fs a = and_more (Mark place) (slice_index mark_bytes place) fs a

after_mark : (v : Version) (n : ℕ) (fs : List Field) → AreBytes n (bytes_of fs)
    → AreBytes (1 + (1 + (1 + (1 + n)))) (bytes_of (mark_byte 0 ∷ mark_byte 1 ∷ mark_byte 2 ∷ version_mark v ∷ fs))
after_mark v n fs a =
    let third = version_mark v ∷ fs in
    let second = mark_byte 2 ∷ third in
    a_mark 0 (mark_byte 1 ∷ second) (a_mark 1 second (a_mark 2 third (and_more VersionMark (version_byte v) fs a)))

-- a file has at most 989,449 bytes
pub a_file_in : (v : Version) (code : CodeView) → IsCodeIn v code → AreBytes 989449 (spelling_in v code)
a_file_in v code h =
    let sets_limit = h.sets in
    let instrs_limit = h.instrs in
    let sets = all_counted Sets IsSet 7170 458880 set a_set code.sets h.each_set (omega arith) in
    let ints = the_int_sets v code.int_sets h.int_sets in
    let instrs = all_counted Instructions (IsInstruction v) 6 6144 (instruction v) (an_instruction v) code.instrs h.each_instr
    (omega arith) in
    let last = int_sets v code.int_sets ++ counted Instructions (instruction v) code.instrs in
    let end : AreBytes 530563 (bytes_of last) =
    subst (AreBytes 530563) (sym (bytes_of-append (int_sets v code.int_sets) (counted Instructions (instruction v) code.instrs)))
    (joined 524417 6146 (bytes_of (int_sets v code.int_sets)) (bytes_of (counted Instructions (instruction v) code.instrs)) ints instrs) in
    let locals = and_more Locals code.locals (counted Sets set code.sets) sets in
    let front = mark_byte 0 ∷ mark_byte 1 ∷ mark_byte 2 ∷ version_mark v ∷ field Locals code.locals ∷ counted Sets set code.sets in
    subst (AreBytes 989449) (sym (bytes_of-append front last))
    (joined 458886 530563 (bytes_of front) (bytes_of last)
    (after_mark v 458882 (field Locals code.locals ∷ counted Sets set code.sets) locals) end)

pub a_file : (code : CodeView) → IsCode code → AreBytes 989449 (spelling code)
a_file code h = a_file_in version.Two code h
