-- A number, and as many of one format after it.
use Rattle.std.proofs.Common.{◌≡◌, ℕ, zero, suc, ◌^◌, ◌<◌, ◌≤◌, true, List, [], ◌∷◌, ◌++◌, length, refl, sym, ap, subst, ◌∙◌, arith}
use Rattle.std.specs.List.{flat_map, AllByRecursion}
use Rattle.std.proofs.lemmas.List.{append-nil}
use Rattle.std.proofs.lemmas.List.Concat.{flat_map-cons}
use Rattle.byteorder.specs.Endian.{big_bytes}
use Rattle.byteorder.specs.Numbers.{big_from-lt, length-bytes_high_first}
use Rattle.code_file.specs.Fields.{FieldKind, width, number, is_good}
use Rattle.code_file.specs.Spelling.{Field, field, counted}
use Rattle.code_file.specs.Reading.{Format, ◌>>=◌, a_number, times, a_count_of}
use Rattle.code_file.specs.Reading.Format.{Done}
use Rattle.code_file.proofs.Bytes.{number_again, GivesBytesBack}
use Rattle.code_file.proofs.Formats.{Follows, AreBytes, follows_then, follows_both}

-- ---- a field that holds a number

pub number_of_field : (kind : FieldKind) (n : ℕ) → n < 256 ^ width kind → number kind (big_bytes (width kind) n) ≡ n
number_of_field kind n h = number_again (width kind) n h

-- a good number, and what follows
pub put_number : {A : Type 0} (kind : FieldKind) (later : ℕ → Format A) (n : ℕ) (fs : List Field) (x : A) →
    n < 256 ^ width kind → is_good kind (big_bytes (width kind) n) ≡ true → Follows (later n) fs x
    → Follows (a_number kind >>= later) (field kind n ∷ fs) x
put_number kind later n fs x fits good h =
    (refl, length-bytes_high_first (width kind) n, good, rw (number_of_field kind n fits) h)

-- a number that was read, and what follows
pub record HasNumber {A : Type 0} (kind : FieldKind) (later : ℕ → Format A) (fs : List Field) (x : A) : Type 0 where
  pub value : ℕ
  pub others : List Field
  pub parts : fs ≡ field kind value ∷ others
  pub good : is_good kind (big_bytes (width kind) value) ≡ true
  pub fits : value < 256 ^ width kind
  pub follows : Follows (later value) others x
  pub are_bytes : AreBytes others

pub take_number : {A : Type 0} (kind : FieldKind) (later : ℕ → Format A) (fs : List Field) (x : A) →
    GivesBytesBack (width kind) → AreBytes fs → Follows (a_number kind >>= later) fs x → HasNumber kind later fs x
take_number kind later [] x back b h = absurd h
take_number kind later (f ∷ fs) x back b h =
    let value = number kind f.bytes in
    let again : big_bytes (width kind) value ≡ f.bytes = back f.bytes h.1 b.0 in
    let same : f ≡ field kind value = ap (λ (k : FieldKind). let g : Field = record { kind = k; bytes = f.bytes } in g) h.0
    ∙ ap (λ (bytes : List ℕ). let g : Field = record { kind = kind; bytes = bytes } in g) (sym again) in
    record {
      value = value;
      others = fs;
      parts = ap (λ (g : Field). g ∷ fs) same;
      good = rw again h.2;
      fits = big_from-lt 0 (width kind) f.bytes b.0;
      follows = h.3;
      are_bytes = b.1;
    }

-- ---- one format n times

-- what has its spelling in these fields follows the format
abbrev pub Puts : {A : Type 0} → Format A → (A → List Field) → (A → Type 0) → Type 0
Puts {A} format fields_of P = (x : A) → P x → Follows format (fields_of x) x

-- fields that follow the format are the spelling of what they make
abbrev pub Takes : {A : Type 0} → Format A → (A → List Field) → (A → Type 0) → Type 0
Takes {A} format fields_of P = (fs : List Field) (x : A) → AreBytes fs → Follows format fs x → (fs ≡ fields_of x) × P x

pub put_times : {A : Type 0} (format : Format A) (fields_of : A → List Field) (P : A → Type 0) → Puts format fields_of P →
    (xs : List A) → AllByRecursion P xs → Follows (times (length xs) format) (flat_map fields_of xs) xs
unfolding times
put_times format fields_of P put [] h = (refl, refl)
put_times format fields_of P put (x ∷ xs) h =
    let end : Follows (Done (x ∷ xs)) [] (x ∷ xs) = (refl, refl) in
    let others = follows_then (times (length xs) format) (λ others. Done (x ∷ others)) (flat_map fields_of xs) [] xs (x ∷ xs)
    (put_times format fields_of P put xs h.1) end in
    let all = follows_then format (λ first. times (length xs) format >>= λ others. Done (first ∷ others)) (fields_of x)
    (flat_map fields_of xs ++ []) x (x ∷ xs) (put x h.0) others in
    let same : fields_of x ++ (flat_map fields_of xs ++ []) ≡ flat_map fields_of (x ∷ xs) =
    ap (λ (fs : List Field). fields_of x ++ fs) (append-nil (flat_map fields_of xs)) ∙ sym (flat_map-cons fields_of x xs) in
    subst (λ (fs : List Field). Follows (times (suc (length xs)) format) fs (x ∷ xs)) same all

pub record AreTimes {A : Type 0} (fields_of : A → List Field) (P : A → Type 0) (n : ℕ) (fs : List Field) (xs : List A) : Type 0 where
  pub parts : fs ≡ flat_map fields_of xs
  pub count : length xs ≡ n
  pub each : AllByRecursion P xs

pub take_times : {A : Type 0} (format : Format A) (fields_of : A → List Field) (P : A → Type 0) → Takes format fields_of P →
    (n : ℕ) (fs : List Field) (xs : List A) → AreBytes fs → Follows (times n format) fs xs → AreTimes fields_of P n fs xs
unfolding times
take_times {A} format fields_of P take zero fs xs b h =
    subst (λ (ys : List A). AreTimes fields_of P zero fs ys) h.1 (record { parts = h.0; count = refl; each = tt })
take_times {A} format fields_of P take (suc n) fs xs b h =
    let one = follows_both format (λ first. times n format >>= λ others. Done (first ∷ others)) fs xs b h in
    let two = follows_both (times n format) (λ others. Done (one.made ∷ others)) one.second xs one.second_are_bytes one.follows_second in
    let first = take one.first one.made one.first_are_bytes one.follows_first in
    let others = take_times format fields_of P take n two.first two.made two.first_are_bytes two.follows_first in
    let back : one.second ≡ flat_map fields_of two.made =
    two.parts ∙ ap (λ (gs : List Field). two.first ++ gs) two.follows_second.0 ∙ append-nil two.first ∙ others.parts in
    let parts : fs ≡ flat_map fields_of (one.made ∷ two.made) = one.parts ∙ ap (λ (gs : List Field). gs ++ one.second) first.0
    ∙ ap (λ (gs : List Field). fields_of one.made ++ gs) back ∙ sym (flat_map-cons fields_of one.made two.made) in
    subst (λ (ys : List A). AreTimes fields_of P (suc n) fs ys) two.follows_second.1
    (record { parts = parts; count = ap suc others.count; each = (first.1, others.each) })

-- ---- a number, and as many of one format

-- the count is good up to a limit
pub record HasLimit (kind : FieldKind) (limit : ℕ) : Type 0 where
  pub back : GivesBytesBack (width kind)
  pub below : limit < 256 ^ width kind
  pub is_taken : (n : ℕ) → n ≤ limit → n < 256 ^ width kind → is_good kind (big_bytes (width kind) n) ≡ true
  pub is_within : (n : ℕ) → n < 256 ^ width kind → is_good kind (big_bytes (width kind) n) ≡ true → n ≤ limit

pub put_counted : {A : Type 0} (kind : FieldKind) (limit : ℕ) (has : HasLimit kind limit) (format : Format A) (fields_of : A →
    List Field) (P : A → Type 0) → Puts format fields_of P
    → (xs : List A) → length xs ≤ limit → AllByRecursion P xs → Follows (a_count_of kind format) (counted kind fields_of xs) xs
put_counted kind limit has format fields_of P put xs within each =
    let below = has.below in
    let fits : length xs < 256 ^ width kind = omega arith in
    let all = put_times format fields_of P put xs each in (
      refl,
      length-bytes_high_first (width kind) (length xs),
      has.is_taken (length xs) within fits,
      rw (number_of_field kind (length xs) fits) all,
    )

pub record AreCounted {A : Type 0} (kind : FieldKind) (limit : ℕ) (fields_of : A → List Field) (P : A → Type 0)
    (fs : List Field) (xs : List A) : Type 0 where
  pub parts : fs ≡ counted kind fields_of xs
  pub within_limit : length xs ≤ limit
  pub each : AllByRecursion P xs

pub take_counted : {A : Type 0} (kind : FieldKind) (limit : ℕ) (has : HasLimit kind limit) (format : Format A) (fields_of : A →
    List Field) (P : A → Type 0) → Takes format fields_of P
    → (fs : List Field) (xs : List A) → AreBytes fs → Follows (a_count_of kind format) fs xs → AreCounted kind limit fields_of P fs xs
take_counted {A} kind limit has format fields_of P take fs xs b h =
    let n = take_number kind (λ n. times n format) fs xs has.back b h in
    let all = take_times format fields_of P take n.value n.others xs n.are_bytes n.follows in
    let within = has.is_within n.value n.fits n.good in
    record {
      parts = n.parts ∙ ap (λ (gs : List Field). field kind n.value ∷ gs) all.parts
          ∙ ap (λ (k : ℕ). field kind k ∷ flat_map fields_of xs) (sym all.count);
      within_limit = omega (arith, all.count, within);
      each = all.each;
    }
