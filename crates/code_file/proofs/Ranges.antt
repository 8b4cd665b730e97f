-- Ranges of ints in their fields.
use Rattle.std.proofs.Common.{◌≡◌, ℕ, ◌^◌, ◌<◌, List, [], ◌∷◌, ◌++◌, length, take, drop, refl, sym, ap, subst, ◌∙◌, arith}
use Rattle.std.proofs.lemmas.Bool.{le-leb, leb-true}
use Rattle.std.proofs.lemmas.List.{take-append-drop, drop_at, length-take, length-drop}
use Rattle.byteorder.specs.Endian.{big_number, big_bytes}
use Rattle.byteorder.specs.Numbers.{big_number-reads_back, big_from-take, big_from-lt, length-bytes_high_first}
use Rattle.int_sets.specs.Holding.{NumberRange}
use Rattle.code_file.specs.Fields.{FieldKind, IsBytes}
use Rattle.code_file.specs.Fields.FieldKind.{Range}
use Rattle.code_file.specs.Spelling.{Field, range, IsRange}
use Rattle.code_file.specs.Reading.{a_range, range_of}
use Rattle.code_file.proofs.Bytes.{IsBytes-take, IsBytes-drop, bytes_again_4, number_again}
use Rattle.code_file.proofs.Formats.{Follows, AreBytes}

abbrev of_ends : ℕ → ℕ → NumberRange
of_ends low high = record { low = low; high = high }

-- the first number and the last one are read back
low_again : (low high : ℕ) → low < 2 ^ 32 → big_number 4 (big_bytes 4 low ++ big_bytes 4 high) ≡ low
low_again low high fits = big_number-reads_back 4 low (big_bytes 4 high) fits

high_again : (low high : ℕ) → high < 2 ^ 32 → big_number 4 (drop 4 (big_bytes 4 low ++ big_bytes 4 high)) ≡ high
high_again low high fits =
    ap (big_number 4) (drop_at (big_bytes 4 low) (big_bytes 4 high) 4 (length-bytes_high_first 4 low)) ∙ number_again 4 high fits

pub put_range : (r : NumberRange) → IsRange r → Follows a_range (range r ∷ []) r
put_range r h =
    let order = h.order in
    let high_fits = h.fits in
    let low : big_number 4 (big_bytes 4 r.low ++ big_bytes 4 r.high) ≡ r.low = low_again r.low r.high (omega arith) in
    let high : big_number 4 (drop 4 (big_bytes 4 r.low ++ big_bytes 4 r.high)) ≡ r.high = high_again r.low r.high high_fits in
    let len : length (big_bytes 4 r.low ++ big_bytes 4 r.high) ≡ 8 = refl in (
      refl,
      len,
      le-leb _ _ (omega (arith, order, low, high)),
      (
        refl,
        ap (λ (n : ℕ). of_ends n (big_number 4 (drop 4 (big_bytes 4 r.low ++ big_bytes 4 r.high)))) low
            ∙ ap (λ (n : ℕ). of_ends r.low n) high,
      ),
    )

-- bytes are those of the two numbers in them
ends_again : (bytes : List ℕ) → length bytes ≡ 8 → IsBytes bytes →
    big_bytes 4 (big_number 4 bytes) ++ big_bytes 4 (big_number 4 (drop 4 bytes)) ≡ bytes
ends_again bytes len h =
    let first : big_bytes 4 (big_number 4 (take 4 bytes)) ≡ take 4 bytes =
    bytes_again_4 (take 4 bytes) (omega (arith, len, length-take 4 bytes)) (IsBytes-take 4 bytes h) in
    let same : big_number 4 (take 4 bytes) ≡ big_number 4 bytes = big_from-take 0 4 4 bytes (omega arith) in
    let last : big_bytes 4 (big_number 4 (drop 4 bytes)) ≡ drop 4 bytes =
    bytes_again_4 (drop 4 bytes) (omega (arith, len, length-drop 4 bytes)) (IsBytes-drop 4 bytes h) in
    ap (λ (n : ℕ). big_bytes 4 n ++ big_bytes 4 (big_number 4 (drop 4 bytes))) (sym same)
    ∙ ap (λ (b : List ℕ). b ++ big_bytes 4 (big_number 4 (drop 4 bytes))) first
    ∙ ap (λ (b : List ℕ). take 4 bytes ++ b) last
    ∙ take-append-drop 4 bytes

pub take_range : (fs : List Field) (r : NumberRange) → AreBytes fs → Follows a_range fs r → (fs ≡ range r ∷ []) × IsRange r
take_range [] r b h = absurd h
take_range (f ∷ fs) r b h =
    let bytes = f.bytes in
    let again = sym (ends_again bytes h.1 b.0) in
    let made = range_of bytes in
    let same : f ≡ range made = ap (λ (k : FieldKind). let g : Field = record { kind = k; bytes = bytes } in g) h.0
    ∙ ap (λ (b : List ℕ). let g : Field = record { kind = Range; bytes = b } in g) again in
    let fits : big_number 4 (drop 4 bytes) < 256 ^ 4 = big_from-lt 0 4 (drop 4 bytes) (IsBytes-drop 4 bytes b.0) in
    let is : IsRange made = record { order = leb-true _ _ h.2; fits = fits } in
    subst (λ (q : NumberRange). (f ∷ fs ≡ range q ∷ []) × IsRange q) h.3.1
    (ap (λ (g : Field). g ∷ fs) same ∙ ap (λ (gs : List Field). range made ∷ gs) h.3.0, is)
