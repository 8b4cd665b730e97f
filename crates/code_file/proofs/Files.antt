-- The fields of each code follow the format of a file, and no others do.
use Rattle.std.proofs.Common.{◌≡◌, ◌&&◌, ◌||◌, not, ◌==◌, ℕ, zero, suc, ◌^◌, ◌<◌, ◌≤◌, Bool, true, false, cond, eqb, leb, List, [], ◌∷◌, ◌++◌}
use Rattle.std.proofs.Common.{length, slice_index, Option, Some, None, unwrap_or, refl, sym, ap, subst, ◌∙◌, arith, lit<}
use Rattle.std.specs.Prelude.{is_some, find}
use Rattle.std.specs.List.{AllByRecursion}
use Rattle.std.proofs.lemmas.Bool.{eqb-true, le-leb, leb-true}
use Rattle.std.proofs.lemmas.List.{append-nil}
use Rattle.byteorder.specs.Endian.{big_bytes}
use Rattle.prefix_patterns.specs.Matching.{pattern_limit}
use Rattle.prefix_patterns.specs.Matching.{PrefixPattern}
use Rattle.filter_code.specs.declared.instruction.Instr.{Instr}
use Rattle.filter_code.specs.declared.instruction.Instr.TheVariants as instr
use Rattle.filter_code.specs.Limits.{local_limit, set_limit, int_set_limit, instruction_limit}
use Rattle.filter_code.specs.Table.{opcode, literal_of}
use Rattle.filter_code.specs.CodeView.{CodeView}
use Rattle.int_sets.specs.Holding.{NumberRange, range_limit}
use Rattle.code_file.specs.declared.version.Version.{Version}
use Rattle.code_file.specs.declared.version.Version.TheVariants as version
use Rattle.code_file.specs.Fields.{FieldKind, width, number, mark_bytes, version_byte, versions, version_of, has_int_sets}
use Rattle.code_file.specs.Fields.{is_good, is_prefix, is_in_set, is_in, form_of, forms}
use Rattle.code_file.specs.Fields.FieldKind.{Mark, VersionMark, Locals, Sets, Patterns, Pattern, IntSets, Ranges, Instructions, Opcode}
use Rattle.code_file.specs.Fields.FieldKind.{WordOperand, TruthOperand, PrefixOperand, NameOperand, BitsOperand, SkipOperand}
use Rattle.code_file.specs.Spelling.{Field, field, mark_byte, version_mark, prefix_bytes, pattern, counted}
use Rattle.code_file.specs.Spelling.{set, range, int_set, int_sets, operand, instruction, fields}
use Rattle.code_file.specs.Spelling.{IsRange, IsIntSet, AreIntSets, IsPattern, IsSet, FitsField, IsInstruction, IsCodeIn}
use Rattle.code_file.specs.Reading.{Format, ◌>>=◌, a_number, prefix_of, a_pattern, a_count_of, a_set, a_range, an_int_set, the_int_sets, an_operand}
use Rattle.code_file.specs.Reading.{an_instruction, a_version, a_code, a_file}
use Rattle.code_file.specs.Reading.Format.{Done}
use Rattle.code_file.proofs.Bytes.{GivesBytesBack, bytes_again_1, bytes_again_2, bytes_again_4}
use Rattle.code_file.proofs.Formats.{Follows, AreBytes, follows_then, follows_both}
use Rattle.code_file.proofs.Prefixes.{and_true, true_and, prefix_again, prefix_is_good, HasPrefix, has_prefix, five, seven}
use Rattle.code_file.proofs.Ranges.{put_range, take_range}
use Rattle.code_file.proofs.Times.{number_of_field, put_number, take_number, HasLimit, put_counted, take_counted}

-- ---- patterns and sets

put_pattern : (p : PrefixPattern) → IsPattern p → Follows a_pattern (pattern p ∷ []) p
put_pattern p h =
    let tail : List ℕ = p.low ∷ p.high ∷ [] in
    let order = h.lengths.order in
    let limit = h.lengths.limit in
    let good : is_good Pattern (prefix_bytes p.bits ++ tail) ≡ true =
    true_and (is_prefix (prefix_bytes p.bits ++ tail)) _ (prefix_is_good p.bits tail h.prefix)
    (true_and (leb p.low p.high) (leb p.high 32) (le-leb _ _ order) (le-leb _ _ limit)) in
    let made : record { bits = prefix_of (prefix_bytes p.bits ++ tail); low = p.low; high = p.high } ≡ p =
    ap (λ (bits : List Bool). let q : PrefixPattern = record { bits = bits; low = p.low; high = p.high } in q)
    (prefix_again p.bits tail h.prefix) in
    (refl, refl, good, (refl, made))

pattern_again : (bytes : List ℕ) → length bytes ≡ 7 → HasPrefix bytes →
    prefix_bytes (prefix_of bytes) ++ slice_index bytes 5 ∷ slice_index bytes 6 ∷ [] ≡ bytes
pattern_again bytes len has = ap (λ (b : List ℕ). b ++ slice_index bytes 5 ∷ slice_index bytes 6 ∷ []) has.parts ∙ seven bytes len

take_pattern : (fs : List Field) (p : PrefixPattern) → AreBytes fs → Follows a_pattern fs p → (fs ≡ pattern p ∷ []) × IsPattern p
take_pattern [] p b h = absurd h
take_pattern (f ∷ fs) p b h =
    let bytes = f.bytes in
    let all = and_true (is_prefix bytes) _ h.2 in
    let lengths = and_true (leb (slice_index bytes 5) (slice_index bytes 6)) (leb (slice_index bytes 6) 32) all.1 in
    let has = has_prefix bytes (omega (arith, h.1)) b.0 all.0 in
    let again : bytes ≡ prefix_bytes (prefix_of bytes) ++ slice_index bytes 5 ∷ slice_index bytes 6 ∷ [] =
    sym (pattern_again bytes h.1 has) in
    let made : PrefixPattern = record { bits = prefix_of bytes; low = slice_index bytes 5; high = slice_index bytes 6 } in
    let same : f ≡ pattern made = ap (λ (k : FieldKind). let g : Field = record { kind = k; bytes = bytes } in g) h.0
    ∙ ap (λ (b : List ℕ). let g : Field = record { kind = Pattern; bytes = b } in g) again in
    let is : IsPattern made = record {
      prefix = has.limit;
      lengths =
          record { order = leb-true _ _ lengths.0; limit = leb-true _ _ lengths.1 };
    } in
    subst (λ (q : PrefixPattern). (f ∷ fs ≡ pattern q ∷ []) × IsPattern q) h.3.1
    (ap (λ (g : Field). g ∷ fs) same ∙ ap (λ (gs : List Field). pattern made ∷ gs) h.3.0, is)

patterns_limit : HasLimit Patterns pattern_limit
patterns_limit = record {
  back = bytes_again_2;
  below = lit< tt;
  is_taken = λ n le fits. le-leb _ _ (omega (arith, le, number_of_field Patterns n fits));
  is_within = λ n fits good. let within : number Patterns (big_bytes 2 n) ≤ pattern_limit =
      leb-true _ _ good in omega (arith, within, number_of_field Patterns n fits);
}

put_set : (patterns : List PrefixPattern) → IsSet patterns → Follows a_set (set patterns) patterns
put_set patterns h = put_counted Patterns pattern_limit patterns_limit a_pattern (λ p. pattern p ∷ []) IsPattern put_pattern
    patterns h.within_limit h.each

take_set : (fs : List Field) (patterns : List PrefixPattern) → AreBytes fs → Follows a_set fs patterns →
    (fs ≡ set patterns) × IsSet patterns
take_set fs patterns b h =
    let all = take_counted Patterns pattern_limit patterns_limit a_pattern (λ p. pattern p ∷ []) IsPattern take_pattern fs patterns b h in
    (all.parts, record { within_limit = all.within_limit; each = all.each })

-- ---- ranges and sets of ints

ranges_limit : HasLimit Ranges range_limit
ranges_limit = record {
  back = bytes_again_2;
  below = lit< tt;
  is_taken = λ n le fits. le-leb _ _ (omega (arith, le, number_of_field Ranges n fits));
  is_within = λ n fits good. let within : number Ranges (big_bytes 2 n) ≤ range_limit =
      leb-true _ _ good in omega (arith, within, number_of_field Ranges n fits);
}

int_sets_limit : HasLimit IntSets int_set_limit
int_sets_limit = record {
  back = bytes_again_1;
  below = lit< tt;
  is_taken = λ n le fits. le-leb _ _ (omega (arith, le, number_of_field IntSets n fits));
  is_within = λ n fits good. let within : number IntSets (big_bytes 1 n) ≤ int_set_limit =
      leb-true _ _ good in omega (arith, within, number_of_field IntSets n fits);
}

put_int_set : (ranges : List NumberRange) → IsIntSet ranges → Follows an_int_set (int_set ranges) ranges
put_int_set ranges h = put_counted Ranges range_limit ranges_limit a_range (λ r. range r ∷ []) IsRange put_range
    ranges h.within_limit h.each

take_int_set : (fs : List Field) (ranges : List NumberRange) → AreBytes fs → Follows an_int_set fs ranges →
    (fs ≡ int_set ranges) × IsIntSet ranges
take_int_set fs ranges b h =
    let all = take_counted Ranges range_limit ranges_limit a_range (λ r. range r ∷ []) IsRange take_range fs ranges b h in
    (all.parts, record { within_limit = all.within_limit; each = all.each })

-- the sets of ints of a version
put_int_sets : (v : Version) (sets : List (List NumberRange)) → AreIntSets v sets → Follows (the_int_sets v) (int_sets v sets) sets
put_int_sets version.One sets h = (refl, sym h)
put_int_sets version.Two sets h = put_counted IntSets int_set_limit int_sets_limit an_int_set int_set IsIntSet put_int_set sets h.0 h.1

take_int_sets : (v : Version) (fs : List Field) (sets : List (List NumberRange)) → AreBytes fs → Follows (the_int_sets v) fs sets →
    (fs ≡ int_sets v sets) × AreIntSets v sets
take_int_sets version.One fs sets b h = (h.0, sym h.1)
take_int_sets version.Two fs sets b h =
    let all = take_counted IntSets int_set_limit int_sets_limit an_int_set int_set IsIntSet take_int_set fs sets b h in
    (all.parts, (all.within_limit, all.each))

-- ---- an instruction

-- an item that is found passes the test
found_here : (p : Instr → Bool) (i : Instr) (is : List Instr) (form : Instr) (b : Bool) → p i ≡ b →
    (find p is ≡ Some form → p form ≡ true) → cond b (Some i) (find p is) ≡ Some form → p form ≡ true
found_here p i is form true here later e =
    let same : i ≡ form = cc in
    rw (← same) here
found_here p i is form false here later e = later e

found_passes : (p : Instr → Bool) (is : List Instr) (form : Instr) → find p is ≡ Some form → p form ≡ true
found_passes p [] form e = absurd cc
found_passes p (i ∷ is) form e = found_here p i is form (p i) refl (found_passes p is form) e

-- the form of a byte has that byte as its opcode, and the version has it
opcode_of_form : (v : Version) (byte : ℕ) (form : Instr) → form_of v byte ≡ Some form → (opcode form ≡ byte) × (is_in v form ≡ true)
unfolding form_of
opcode_of_form v byte form e = (eqb-true _ _ both.0, both.1)
  where
    both : (eqb (opcode form) byte ≡ true) × (is_in v form ≡ true)
    both = and_true (eqb (opcode form) byte) (is_in v form) (found_passes (λ i. eqb (opcode i) byte && is_in v i) forms form e)

-- a byte that is good for an opcode has a form
record HasForm (v : Version) (byte : ℕ) : Type 0 where
  form : Instr
  is_form : form_of v byte ≡ Some form

has_form : (v : Version) (byte : ℕ) (o : Option Instr) → form_of v byte ≡ o → is_some o ≡ true → HasForm v byte
has_form v byte None e good = absurd cc
has_form v byte (Some form) e good = record { form = form; is_form = e }

put_instruction : (v : Version) (i : Instr) → IsInstruction v i → Follows (an_instruction v) (instruction v i) i
unfolding form_of
put_instruction v (instr.Int n) h =
    (refl, refl, refl, (refl, refl, refl, (refl, ap (λ (k : ℕ). instr.Int k) (number_of_field WordOperand n h.0))))
put_instruction v (instr.Bool true) h = (refl, refl, refl, (refl, refl, refl, (refl, refl)))
put_instruction v (instr.Bool false) h = (refl, refl, refl, (refl, refl, refl, (refl, refl)))
put_instruction v (instr.Ip a) h = (
  refl,
  refl,
  refl,
  (
    refl,
    refl,
    refl,
    (refl, ap (λ (k : ℕ). instr.Ip (record { 0 = k })) (number_of_field WordOperand a.0 h.0)),
  ),
)
put_instruction v (instr.Prefix bits) h = (
  refl,
  refl,
  refl,
  (
    refl,
    refl,
    prefix_is_good bits [] h.0,
    (refl, ap (λ (p : List Bool). instr.Prefix p) (prefix_again bits [] h.0)),
  ),
)
put_instruction v (instr.Load i) h =
    (refl, refl, refl, (refl, refl, refl, (refl, ap (λ (k : ℕ). instr.Load k) (number_of_field NameOperand i h.0))))
put_instruction v (instr.Store i) h =
    (refl, refl, refl, (refl, refl, refl, (refl, ap (λ (k : ℕ). instr.Store k) (number_of_field NameOperand i h.0))))
put_instruction v (instr.Mask n) h =
    let within = h.0 in
    let fits : n < 256 = omega arith in
    let good : leb (number BitsOperand (big_bytes 1 n)) 32 ≡ true = le-leb _ _ (omega (arith, within, number_of_field BitsOperand n fits)) in
    (refl, refl, refl, (refl, refl, good, (refl, ap (λ (k : ℕ). instr.Mask k) (number_of_field BitsOperand n fits))))
put_instruction v (instr.Member i) h =
    (refl, refl, refl, (refl, refl, refl, (refl, ap (λ (k : ℕ). instr.Member k) (number_of_field NameOperand i h.0))))
put_instruction version.Two (instr.InSet i) h =
    (refl, refl, refl, (refl, refl, refl, (refl, ap (λ (k : ℕ). instr.InSet k) (number_of_field NameOperand i h.0))))
put_instruction version.One (instr.InSet i) h = absurd (let none = h.1 in cc)
put_instruction v (instr.Jump k) h =
    (refl, refl, refl, (refl, refl, refl, (refl, ap (λ (n : ℕ). instr.Jump n) (number_of_field SkipOperand k h.0))))
put_instruction v (instr.JumpIfNot k) h =
    (refl, refl, refl, (refl, refl, refl, (refl, ap (λ (n : ℕ). instr.JumpIfNot n) (number_of_field SkipOperand k h.0))))
put_instruction v i h = (refl, refl, refl, (refl, refl))

-- an operand that was read is in the spelling of what it made
record IsOperandOf (form i : Instr) (fs : List Field) : Type 0 where
  parts : fs ≡ operand i
  same : opcode i ≡ opcode form
  alike : is_in_set i ≡ is_in_set form
  fits : FitsField (literal_of i)

-- an operand that is a number
number_operand : (kind : FieldKind) (form : Instr) (make : ℕ → Instr) → GivesBytesBack (width kind) →
    ((n : ℕ) → n < 256 ^ width kind → is_good kind (big_bytes (width kind) n) ≡ true →
    IsOperandOf form (make n) (field kind n ∷ []))
    → (fs : List Field) (i : Instr) → AreBytes fs → Follows (a_number kind >>= λ n. Done (make n)) fs i → IsOperandOf form i fs
number_operand kind form make back is fs i b h =
    let n = take_number kind (λ n. Done (make n)) fs i back b h in
    let here : fs ≡ field kind n.value ∷ [] = n.parts ∙ ap (λ (gs : List Field). field kind n.value ∷ gs) n.follows.0 in
    subst (λ (j : Instr). IsOperandOf form j fs) n.follows.1
    (subst (λ (gs : List Field). IsOperandOf form (make n.value) gs) (sym here) (is n.value n.fits n.good))

truth_operand : (any : Bool) (n : ℕ) → n < 256 → is_good TruthOperand (big_bytes 1 n) ≡ true →
    IsOperandOf (instr.Bool any) (instr.Bool (n == 1)) (field TruthOperand n ∷ [])
truth_operand any zero fits good = record { parts = refl; same = refl; alike = refl; fits = tt }
truth_operand any (suc zero) fits good = record { parts = refl; same = refl; alike = refl; fits = tt }
truth_operand any (suc (suc n)) fits good =
    let within : number TruthOperand (big_bytes 1 (suc (suc n))) ≤ 1 = leb-true _ _ good in
    absurd (omega (arith, within, number_of_field TruthOperand (suc (suc n)) fits))

bits_operand : (any n : ℕ) → n < 256 → is_good BitsOperand (big_bytes 1 n) ≡ true →
    IsOperandOf (instr.Mask any) (instr.Mask n) (field BitsOperand n ∷ [])
bits_operand any n fits good =
    let within : number BitsOperand (big_bytes 1 n) ≤ 32 = leb-true _ _ good in
    record { parts = refl; same = refl; alike = refl; fits = omega (arith, within, number_of_field BitsOperand n fits) }

prefix_operand : (any : List Bool) (fs : List Field) (i : Instr) → AreBytes fs → Follows (an_operand (instr.Prefix any)) fs i →
    IsOperandOf (instr.Prefix any) i fs
prefix_operand any [] i b h = absurd h
prefix_operand any (f ∷ fs) i b h =
    let bytes = f.bytes in
    let has = has_prefix bytes (omega (arith, h.1)) b.0 h.2 in
    let again : bytes ≡ prefix_bytes (prefix_of bytes) = sym (has.parts ∙ five bytes h.1) in
    let spelled : Field = record { kind = PrefixOperand; bytes = prefix_bytes (prefix_of bytes) } in
    let same : f ≡ spelled = ap (λ (k : FieldKind). let g : Field = record { kind = k; bytes = bytes } in g) h.0
    ∙ ap (λ (b : List ℕ). let g : Field = record { kind = PrefixOperand; bytes = b } in g) again in
    subst (λ (j : Instr). IsOperandOf (instr.Prefix any) j (f ∷ fs)) h.3.1
    (record { parts = ap (λ (g : Field). g ∷ fs) same ∙ ap (λ (gs : List Field). spelled ∷ gs) h.3.0; same = refl; alike = refl; fits = has.limit })

take_operand : (form : Instr) (fs : List Field) (i : Instr) → AreBytes fs → Follows (an_operand form) fs i → IsOperandOf form i fs
take_operand (instr.Int any) fs i b h = number_operand WordOperand (instr.Int any) (λ n. instr.Int n) bytes_again_4
    (λ n fits good. record { parts = refl; same = refl; alike = refl; fits = fits }) fs i b h
take_operand (instr.Bool any) fs i b h = number_operand TruthOperand (instr.Bool any) (λ n. instr.Bool (n == 1)) bytes_again_1
    (truth_operand any) fs i b h
take_operand (instr.Ip any) fs i b h =
    number_operand WordOperand (instr.Ip any) (λ n. instr.Ip (record { 0 = n })) bytes_again_4
    (λ n fits good. record { parts = refl; same = refl; alike = refl; fits = fits }) fs i b h
take_operand (instr.Prefix any) fs i b h = prefix_operand any fs i b h
take_operand (instr.Load any) fs i b h = number_operand NameOperand (instr.Load any) (λ n. instr.Load n) bytes_again_1
    (λ n fits good. record { parts = refl; same = refl; alike = refl; fits = fits }) fs i b h
take_operand (instr.Store any) fs i b h = number_operand NameOperand (instr.Store any) (λ n. instr.Store n) bytes_again_1
    (λ n fits good. record { parts = refl; same = refl; alike = refl; fits = fits }) fs i b h
take_operand (instr.Mask any) fs i b h = number_operand BitsOperand (instr.Mask any) (λ n. instr.Mask n) bytes_again_1
    (bits_operand any) fs i b h
take_operand (instr.Member any) fs i b h = number_operand NameOperand (instr.Member any) (λ n. instr.Member n) bytes_again_1
    (λ n fits good. record { parts = refl; same = refl; alike = refl; fits = fits }) fs i b h
take_operand (instr.InSet any) fs i b h = number_operand NameOperand (instr.InSet any) (λ n. instr.InSet n) bytes_again_1
    (λ n fits good. record { parts = refl; same = refl; alike = refl; fits = fits }) fs i b h
take_operand (instr.Jump any) fs i b h = number_operand SkipOperand (instr.Jump any) (λ n. instr.Jump n) bytes_again_2
    (λ n fits good. record { parts = refl; same = refl; alike = refl; fits = fits }) fs i b h
take_operand (instr.JumpIfNot any) fs i b h =
    number_operand SkipOperand (instr.JumpIfNot any) (λ n. instr.JumpIfNot n) bytes_again_2
    (λ n fits good. record { parts = refl; same = refl; alike = refl; fits = fits }) fs i b h
take_operand form fs i b h = subst (λ (j : Instr). IsOperandOf form j fs) h.1 (record { parts = h.0; same = refl; alike = refl; fits = tt })

take_instruction : (v : Version) (fs : List Field) (i : Instr) → AreBytes fs → Follows (an_instruction v) fs i →
    (fs ≡ instruction v i) × IsInstruction v i
take_instruction v fs i b h =
    let n = take_number (Opcode v) (λ byte. an_operand (unwrap_or (form_of v byte) instr.Reject)) fs i bytes_again_1 b h in
    let good : is_some (form_of v n.value) ≡ true =
    subst (λ (k : ℕ). is_some (form_of v k) ≡ true) (number_of_field (Opcode v) n.value n.fits) n.good in
    let known = has_form v n.value (form_of v n.value) refl good in
    let follows : Follows (an_operand known.form) n.others i = rw known.is_form at n.follows in
    let o = take_operand known.form n.others i n.are_bytes follows in
    let has = opcode_of_form v n.value known.form known.is_form in
    let byte : n.value ≡ opcode i = sym (o.same ∙ has.0) in
    let is : is_in v i ≡ true = ap (λ (b : Bool). not b || has_int_sets v) o.alike ∙ has.1 in
    (n.parts ∙ ap (λ (k : ℕ). field (Opcode v) k ∷ n.others) byte ∙ ap (λ (gs : List Field). field (Opcode v) (opcode i) ∷ gs) o.parts, (o.fits, is))

-- ---- a whole file

sets_limit : HasLimit Sets set_limit
sets_limit = record {
  back = bytes_again_1;
  below = lit< tt;
  is_taken = λ n le fits. le-leb _ _ (omega (arith, le, number_of_field Sets n fits));
  is_within = λ n fits good. let within : number Sets (big_bytes 1 n) ≤ set_limit =
      leb-true _ _ good in omega (arith, within, number_of_field Sets n fits);
}

instructions_limit : HasLimit Instructions instruction_limit
instructions_limit = record {
  back = bytes_again_2;
  below = lit< tt;
  is_taken = λ n le fits. le-leb _ _ (omega (arith, le, number_of_field Instructions n fits));
  is_within = λ n fits good. let within : number Instructions (big_bytes 2 n) ≤ instruction_limit =
      leb-true _ _ good in omega (arith, within, number_of_field Instructions n fits);
}

abbrev program_of : ℕ → List (List PrefixPattern) → List (List NumberRange) → List Instr → CodeView
program_of locals sets int_sets instrs = record { locals = locals; sets = sets; int_sets = int_sets; instrs = instrs }

abbrev made : ℕ → List (List PrefixPattern) → List (List NumberRange) → List Instr → Format CodeView
made locals sets int_sets instrs = Done (program_of locals sets int_sets instrs)

abbrev from_instructions : Version → ℕ → List (List PrefixPattern) → List (List NumberRange) → Format CodeView
from_instructions v locals sets int_sets = a_count_of Instructions (an_instruction v) >>= made locals sets int_sets

abbrev from_int_sets : Version → ℕ → List (List PrefixPattern) → Format CodeView
from_int_sets v locals sets = the_int_sets v >>= from_instructions v locals sets

abbrev from_sets : Version → ℕ → Format CodeView
from_sets v locals = a_count_of Sets a_set >>= from_int_sets v locals

-- the instructions of a code, what comes before them from the sets of ints on, and all after the mark
abbrev instruction_fields : Version → CodeView → List Field
instruction_fields v c = counted Instructions (instruction v) c.instrs

abbrev last_fields : Version → CodeView → List Field
last_fields v c = int_sets v c.int_sets ++ instruction_fields v c

abbrev code_fields : Version → CodeView → List Field
code_fields v c = field Locals c.locals ∷ counted Sets set c.sets ++ last_fields v c

put_last : (v : Version) (code : CodeView) → IsCodeIn v code →
    Follows (from_int_sets v code.locals code.sets) (last_fields v code) code
put_last v code h =
    let end : Follows (Done code) [] code = (refl, refl) in
    let instrs = put_counted Instructions instruction_limit instructions_limit (an_instruction v) (instruction v)
    (IsInstruction v) (put_instruction v) code.instrs h.instrs h.each_instr in
    let with_end = follows_then (a_count_of Instructions (an_instruction v)) (made code.locals code.sets code.int_sets)
    (instruction_fields v code) [] code.instrs code instrs end in
    let back : Follows (from_instructions v code.locals code.sets code.int_sets) (instruction_fields v code) code =
    subst (λ (fs : List Field). Follows (from_instructions v code.locals code.sets code.int_sets) fs code)
    (append-nil (instruction_fields v code)) with_end in
    follows_then (the_int_sets v) (from_instructions v code.locals code.sets) (int_sets v code.int_sets)
    (instruction_fields v code) code.int_sets code (put_int_sets v code.int_sets h.int_sets) back

put_code : (v : Version) (code : CodeView) → IsCodeIn v code → Follows (a_code v) (code_fields v code) code
put_code v code h =
    let fits : code.locals < 256 = let limit = h.locals in omega arith in
    let good : leb (number Locals (big_bytes 1 code.locals)) local_limit ≡ true =
    le-leb _ _ (let limit = h.locals in omega (arith, number_of_field Locals code.locals fits)) in
    let sets = put_counted Sets set_limit sets_limit a_set set IsSet put_set code.sets h.sets h.each_set in
    let all = follows_then (a_count_of Sets a_set) (from_int_sets v code.locals) (counted Sets set code.sets)
    (last_fields v code) code.sets code sets (put_last v code h) in
    put_number Locals (from_sets v) code.locals (counted Sets set code.sets ++ last_fields v code) code fits good all

put_version : (v : Version) (code : CodeView) → IsCodeIn v code →
    Follows (a_version >>= a_code) (version_mark v ∷ code_fields v code) code
put_version version.One code h = (refl, refl, refl, put_code version.One code h)
put_version version.Two code h = (refl, refl, refl, put_code version.Two code h)

-- the fields of a code follow the format
pub put_file : (v : Version) (code : CodeView) → IsCodeIn v code → Follows a_file (fields v code) code
unfolding a_file
put_file v code h = (refl, refl, refl, (refl, refl, refl, (refl, refl, refl, put_version v code h)))

-- the next byte of the mark, and the fields after it
record HasMark (place : ℕ) (later : Format CodeView) (fs : List Field) (code : CodeView) : Type 0 where
  others : List Field
  parts : fs ≡ mark_byte place ∷ others
  follows : Follows later others code
  are_bytes : AreBytes others

take_mark : (place : ℕ) (later : Format CodeView) (fs : List Field) (code : CodeView) → AreBytes fs →
    Follows (a_number (Mark place) >>= λ n. later) fs code → HasMark place later fs code
take_mark place later fs code b h =
    let n = take_number (Mark place) (λ n. later) fs code bytes_again_1 b h in
    let value : n.value ≡ slice_index mark_bytes place = sym (number_of_field (Mark place) n.value n.fits) ∙ eqb-true _ _ n.good in
    record {
      others = n.others;
      parts = n.parts ∙ ap (λ (k : ℕ). field (Mark place) k ∷ n.others) value;
      follows =
          n.follows;
      are_bytes = n.are_bytes;
    }

-- the fields from some place on, and what they say of the code
record IsFrom (spelled : CodeView → List Field) (says : CodeView → Type 0) (fs : List Field) (code : CodeView) : Type 0 where
  parts : fs ≡ spelled code
  is : says code

abbrev SaysInstructions : Version → ℕ → List (List PrefixPattern) → List (List NumberRange) → CodeView → Type 0
SaysInstructions v locals sets int_sets code = (code.locals ≡ locals) × (code.sets ≡ sets) × (code.int_sets ≡ int_sets)
    × (length code.instrs ≤ instruction_limit) × AllByRecursion (IsInstruction v) code.instrs

take_instructions : (v : Version) (locals : ℕ) (sets : List (List PrefixPattern)) (int_sets : List (List NumberRange))
    (fs : List Field) (code : CodeView) → AreBytes fs → Follows (from_instructions v locals sets int_sets) fs code
    → IsFrom (instruction_fields v) (SaysInstructions v locals sets int_sets) fs code
take_instructions v locals sets int_sets fs code b h =
    let both = follows_both (a_count_of Instructions (an_instruction v)) (made locals sets int_sets) fs code b h in
    let all = take_counted Instructions instruction_limit instructions_limit (an_instruction v) (instruction v) (IsInstruction v)
    (take_instruction v) both.first both.made both.first_are_bytes both.follows_first in
    let parts : fs ≡ counted Instructions (instruction v) both.made =
    both.parts ∙ ap (λ (gs : List Field). both.first ++ gs) both.follows_second.0 ∙ append-nil both.first ∙ all.parts in
    subst (λ (c : CodeView). IsFrom (instruction_fields v) (SaysInstructions v locals sets int_sets) fs c)
    both.follows_second.1
    (record { parts = parts; is = (refl, refl, refl, all.within_limit, all.each) })

abbrev SaysIntSets : Version → ℕ → List (List PrefixPattern) → CodeView → Type 0
SaysIntSets v locals sets code = (code.locals ≡ locals) × (code.sets ≡ sets) × AreIntSets v code.int_sets
    × (length code.instrs ≤ instruction_limit) × AllByRecursion (IsInstruction v) code.instrs

take_last : (v : Version) (locals : ℕ) (sets : List (List PrefixPattern)) (fs : List Field) (code : CodeView) → AreBytes fs →
    Follows (from_int_sets v locals sets) fs code → IsFrom (last_fields v) (SaysIntSets v locals sets) fs code
take_last v locals sets fs code b h =
    let both = follows_both (the_int_sets v) (from_instructions v locals sets) fs code b h in
    let all = take_int_sets v both.first both.made both.first_are_bytes both.follows_first in
    let rest = take_instructions v locals sets both.made both.second code both.second_are_bytes both.follows_second in
    let same : both.made ≡ code.int_sets = sym rest.is.2 in
    let parts : fs ≡ last_fields v code =
    both.parts ∙ ap (λ (gs : List Field). gs ++ both.second) all.0
    ∙ ap (λ (gs : List Field). int_sets v both.made ++ gs) rest.parts
    ∙ ap (λ (ranges : List (List NumberRange)). int_sets v ranges ++ instruction_fields v code) same in
    record {
      parts = parts;
      is = (
        rest.is.0,
        rest.is.1,
        subst (λ (ranges : List (List NumberRange)). AreIntSets v ranges) same all.1,
        rest.is.3,
        rest.is.4,
      );
    }

abbrev SaysSets : Version → ℕ → CodeView → Type 0
SaysSets v locals code = (code.locals ≡ locals) × (length code.sets ≤ set_limit) × AllByRecursion IsSet code.sets
    × AreIntSets v code.int_sets × (length code.instrs ≤ instruction_limit) × AllByRecursion (IsInstruction v) code.instrs

take_sets : (v : Version) (locals : ℕ) (fs : List Field) (code : CodeView) → AreBytes fs → Follows (from_sets v locals) fs code
    → IsFrom (λ c. counted Sets set c.sets ++ last_fields v c) (SaysSets v locals) fs code
take_sets v locals fs code b h =
    let both = follows_both (a_count_of Sets a_set) (from_int_sets v locals) fs code b h in
    let all = take_counted Sets set_limit sets_limit a_set set IsSet take_set both.first both.made both.first_are_bytes
    both.follows_first in
    let rest = take_last v locals both.made both.second code both.second_are_bytes both.follows_second in
    let same : both.made ≡ code.sets = sym rest.is.1 in
    let parts : fs ≡ counted Sets set code.sets ++ last_fields v code =
    both.parts ∙ ap (λ (gs : List Field). gs ++ both.second) all.parts
    ∙ ap (λ (gs : List Field). counted Sets set both.made ++ gs) rest.parts
    ∙ ap (λ (sets : List (List PrefixPattern)). counted Sets set sets ++ last_fields v code) same in
    record {
      parts = parts;
      is = (
        rest.is.0,
        subst (λ (sets : List (List PrefixPattern)). length sets ≤ set_limit) same
            all.within_limit,
        subst (λ (sets : List (List PrefixPattern)). AllByRecursion IsSet sets) same all.each,
        rest.is.2,
        rest.is.3,
        rest.is.4,
      );
    }

take_locals : (v : Version) (fs : List Field) (code : CodeView) → AreBytes fs → Follows (a_code v) fs code
    → IsFrom (code_fields v) (IsCodeIn v) fs code
take_locals v fs code b h =
    let n = take_number Locals (from_sets v) fs code bytes_again_1 b h in
    let rest = take_sets v n.value n.others code n.are_bytes n.follows in
    let same : n.value ≡ code.locals = sym rest.is.0 in
    let within : number Locals (big_bytes 1 n.value) ≤ local_limit = leb-true _ _ n.good in
    let limit : n.value ≤ local_limit = omega (arith, within, number_of_field Locals n.value n.fits) in
    record {
      parts = n.parts ∙ ap (λ (gs : List Field). field Locals n.value ∷ gs) rest.parts
          ∙ ap (λ (k : ℕ). field Locals k ∷ counted Sets set code.sets ++ last_fields v code) same;
      is = record {
        locals = rw (← same) limit;
        sets = rest.is.1;
        each_set = rest.is.2;
        int_sets = rest.is.3;
        instrs = rest.is.4;
        each_instr = rest.is.5;
      };
    }

-- the last byte of the mark tells the version
record HasVersion (fs : List Field) (code : CodeView) : Type 0 where
  version : Version
  others : List Field
  parts : fs ≡ version_mark version ∷ others
  follows : Follows (a_code version) others code
  are_bytes : AreBytes others

version_found : (p : Version → Bool) (vs : List Version) (v : Version) → find p vs ≡ Some v → p v ≡ true
version_found p [] v e = absurd cc
version_found p (u ∷ vs) v e = version_here p u vs v (p u) refl (version_found p vs v) e
  where
    version_here : (p : Version → Bool) (u : Version) (vs : List Version) (v : Version) (b : Bool) → p u ≡ b →
        (find p vs ≡ Some v → p v ≡ true) → cond b (Some u) (find p vs) ≡ Some v → p v ≡ true
    version_here p u vs v true here later e =
        let same : u ≡ v = cc in
        rw (← same) here
    version_here p u vs v false here later e = later e

byte_of_version : (byte : ℕ) (v : Version) → version_of byte ≡ Some v → version_byte v ≡ byte
byte_of_version byte v e = eqb-true _ _ (version_found (λ v. eqb (version_byte v) byte) versions v e)

record IsVersion (byte : ℕ) : Type 0 where
  version : Version
  is_version : version_of byte ≡ Some version

is_version : (byte : ℕ) (o : Option Version) → version_of byte ≡ o → is_some o ≡ true → IsVersion byte
is_version byte None e good = absurd cc
is_version byte (Some v) e good = record { version = v; is_version = e }

take_version : (fs : List Field) (code : CodeView) → AreBytes fs → Follows (a_version >>= a_code) fs code → HasVersion fs code
take_version fs code b h =
    let n = take_number VersionMark (λ byte. a_code (unwrap_or (version_of byte) version.One)) fs code bytes_again_1 b h in
    let good : is_some (version_of n.value) ≡ true =
    subst (λ (k : ℕ). is_some (version_of k) ≡ true) (number_of_field VersionMark n.value n.fits) n.good in
    let known = is_version n.value (version_of n.value) refl good in
    let byte : n.value ≡ version_byte known.version = sym (byte_of_version n.value known.version known.is_version) in
    record {
      version = known.version;
      others = n.others;
      parts = n.parts ∙ ap (λ (k : ℕ). field VersionMark k ∷ n.others) byte;
      follows = rw known.is_version at n.follows;
      are_bytes = n.are_bytes;
    }

in_front : (fs a b c d body : List Field) (v : Version) → fs ≡ mark_byte 0 ∷ a → a ≡ mark_byte 1 ∷ b → b ≡ mark_byte 2 ∷ c →
    c ≡ version_mark v ∷ d → d ≡ body → fs ≡ mark_byte 0 ∷ mark_byte 1 ∷ mark_byte 2 ∷ version_mark v ∷ body
in_front fs a b c d body v p q r s t = rw (p, q, r, s, t) refl

-- fields of a whole file
pub record IsWhole (fs : List Field) (code : CodeView) : Type 0 where
  pub version : Version
  pub parts : fs ≡ fields version code
  pub is_code : IsCodeIn version code

-- fields that follow the format are those of the code that they make
pub take_file : (fs : List Field) (code : CodeView) → AreBytes fs → Follows a_file fs code → IsWhole fs code
unfolding a_file
take_file fs code b h =
    let after = a_version >>= a_code in
    let m0 = take_mark 0 (a_number (Mark 1) >>= λ n. a_number (Mark 2) >>= λ n. after) fs code b h in
    let m1 = take_mark 1 (a_number (Mark 2) >>= λ n. after) m0.others code m0.are_bytes m0.follows in
    let m2 = take_mark 2 after m1.others code m1.are_bytes m1.follows in
    let m3 = take_version m2.others code m2.are_bytes m2.follows in
    let rest = take_locals m3.version m3.others code m3.are_bytes m3.follows in
    record {
      version = m3.version;
      parts = in_front fs m0.others m1.others m2.others m3.others (code_fields m3.version code) m3.version m0.parts m1.parts
          m2.parts m3.parts rest.parts;
      is_code = rest.is;
    }
