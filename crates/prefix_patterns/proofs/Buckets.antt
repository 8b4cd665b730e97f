-- Patterns by their buckets.
use Rattle.std.proofs.Common.{◌≡◌, ℕ, zero, suc, ◌<◌, ◌≤◌, ◌==◌, nat_lt, Bool, true, false, not, ◌&&◌, ◌||◌, cond}
use Rattle.std.proofs.Common.{List, [], ◌∷◌, length, filter, reverse, take, refl, sym, ap, ◌∙◌, arith, inl, inr}
use Rattle.std.specs.List.{list_any}
use Rattle.std.proofs.lemmas.Bool.{cases_eq, or_parts}
use Rattle.std.proofs.lemmas.Bool.Decides.{nat_tests}
use Rattle.std.proofs.lemmas.List.{length-take-le, reverse-append}
use Rattle.std.proofs.lemmas.List.Folds.{list_any-append}
use Rattle.prefix_patterns.specs.Bits.{bits, number}
use Rattle.prefix_patterns.specs.BitLists.{bits-number, number_lt}
use Rattle.prefix_patterns.specs.Index.{is_long}
use Rattle.prefix_patterns.specs.Matching.{PrefixPattern, matches_any}
use Rattle.prefix_patterns.specs.Trees.{AllAgree, agree, allows, bucket, hits, in_bucket, short_bucket}
use Rattle.prefix_patterns.proofs.Walks.{any_hits}

-- tests of lists
any_same : (f g : PrefixPattern → Bool) → ((q : PrefixPattern) → f q ≡ g q) → (xs : List PrefixPattern) → list_any f xs ≡ list_any g xs
any_same f g same [] = refl
any_same f g same (q ∷ xs) = let here = same q in let later = any_same f g same xs in cc

or_turned : (a b : Bool) → (a || (b || false)) ≡ (b || a)
or_turned true true = refl
or_turned true false = refl
or_turned false true = refl
or_turned false false = refl

any-reverse : (f : PrefixPattern → Bool) (xs : List PrefixPattern) → list_any f (reverse xs) ≡ list_any f xs
any-reverse f [] = refl
any-reverse f (q ∷ xs) =
    ap (list_any f) (reverse-append (q ∷ []) xs)
    ∙ list_any-append f (reverse xs) (q ∷ [])
    ∙ or_turned (list_any f (reverse xs)) (f q)
    ∙ ap (λ b. f q || b) (any-reverse f xs)

one_kept : (f : PrefixPattern → Bool) (q : PrefixPattern) (kept : List PrefixPattern) (b rest : Bool) → list_any f kept ≡ rest →
    list_any f (cond b (q ∷ kept) kept) ≡ ((b && f q) || rest)
one_kept f q kept true rest e = ap (λ r. f q || r) e
one_kept f q kept false rest e = e

any-filter : (t f : PrefixPattern → Bool) (xs : List PrefixPattern) → list_any f (filter t xs) ≡ list_any (λ q. t q && f q) xs
any-filter t f [] = refl
any-filter t f (q ∷ xs) = one_kept f q (filter t xs) (t q) (list_any (λ r. t r && f r) xs) (any-filter t f xs)

pub any_in_bucket : (f : PrefixPattern → Bool) (b : ℕ) (xs : List PrefixPattern) →
    list_any f (in_bucket b xs) ≡ list_any (λ q. (bucket q == b) && f q) xs
any_in_bucket f b xs = any-reverse f (filter (λ q. bucket q == b) xs) ∙ any-filter (λ q. bucket q == b) f xs

-- a test of all is one of those that pass another, and of those that do not
four : (t f x y : Bool) → (f || (x || y)) ≡ (((t && f) || x) || ((not t && f) || y))
four true true x y = refl
four true false x y = refl
four false true true y = refl
four false true false y = refl
four false false x y = refl

split : (t f : PrefixPattern → Bool) (xs : List PrefixPattern) →
    list_any f xs ≡ (list_any (λ q. t q && f q) xs || list_any (λ q. not (t q) && f q) xs)
split t f [] = refl
split t f (q ∷ xs) =
    ap (λ r. f q || r) (split t f xs)
    ∙ four (t q) (f q) (list_any (λ r. t r && f r) xs) (list_any (λ r. not (t r) && f r) xs)

-- a prefix matches a pattern of fewer bits, or a long one
pub short_or_long : (prefix : List Bool) (all : List PrefixPattern) →
    matches_any prefix all ≡ (matches_any prefix (in_bucket short_bucket all) || list_any (λ q. is_long q && hits prefix q) all)
short_or_long prefix all =
    any_hits prefix all
    ∙ split (λ q. bucket q == short_bucket) (hits prefix) all
    ∙ ap (λ b. b || list_any (λ q. is_long q && hits prefix q) all)
    (sym (any_hits prefix (in_bucket short_bucket all) ∙ any_in_bucket (hits prefix) short_bucket all))

-- bits that are the same
pub agree_first : (n : ℕ) (q : List Bool) → agree (take n q) q ≡ true
agree_first zero q = refl
agree_first (suc n) [] = refl
agree_first (suc n) (true ∷ q) = agree_first n q
agree_first (suc n) (false ∷ q) = agree_first n q

pub first_same : (n : ℕ) (p q : List Bool) → agree p q ≡ true → n ≤ length p → n ≤ length q → take n p ≡ take n q
first_same zero p q h few_p few_q = refl
first_same (suc n) [] q h few_p few_q = absurd (omega arith)
first_same (suc n) (x ∷ p) [] h few_p few_q = absurd (omega arith)
first_same (suc n) (true ∷ p) (true ∷ q) h few_p few_q = ap (λ xs. true ∷ xs) (first_same n p q h (omega arith) (omega arith))
first_same (suc n) (false ∷ p) (false ∷ q) h few_p few_q = ap (λ xs. false ∷ xs) (first_same n p q h (omega arith) (omega arith))
first_same (suc n) (true ∷ p) (false ∷ q) h few_p few_q = cc
first_same (suc n) (false ∷ p) (true ∷ q) h few_p few_q = cc

pub same_number : (v w : List Bool) → length v ≡ length w → number v ≡ number w → v ≡ w
same_number v w e n = sym (bits-number v) ∙ ap (λ k. bits k (number v)) e ∙ ap (bits (length w)) n ∙ bits-number w

-- what the bucket of a pattern says
first_8 : (w : List Bool) → 8 ≤ length w → number (take 8 w) < 256
first_8 w few = let below = number_lt (take 8 w) in rw (length-take-le 8 w few) at below

data Place (q : PrefixPattern) : Type 0 where
  is_short : bucket q ≡ 256 → Place q
  is_past : 8 ≤ length q.bits → bucket q ≡ number (take 8 q.bits) → bucket q < 256 → Place q

place_at : (q : PrefixPattern) (b : Bool) → nat_lt (length q.bits) 8 ≡ b → Place q
place_at q true few = is_short (ap (λ b. cond b 256 (number (take 8 q.bits))) few)
place_at q false many =
    let enough : 8 ≤ length q.bits = grind (arith, nat_tests) in
    let same : bucket q ≡ number (take 8 q.bits) = ap (λ b. cond b 256 (number (take 8 q.bits))) many in
    is_past enough same (rw same (first_8 q.bits enough))

place : (q : PrefixPattern) → Place q
place q = place_at q (nat_lt (length q.bits) 8) refl

not_equal : (m n : ℕ) → (m ≡ n → ⊥) → (m == n) ≡ false
not_equal m n other = grind (arith, nat_tests)

equal : (m n : ℕ) → m ≡ n → (m == n) ≡ true
equal m n same = grind (arith, nat_tests)

-- patterns of 8 bits or more are long, and others are not
long_at : (q : PrefixPattern) → Place q → 8 ≤ length q.bits → nat_lt (length q.bits) 8 ≡ false → is_long q ≡ true
long_at q (is_short short) many test =
    let same : bucket q ≡ number (take 8 q.bits) = ap (λ b. cond b 256 (number (take 8 q.bits))) test in
    let below = first_8 q.bits many in
    absurd (omega arith)
long_at q (is_past many same below) enough test = ap not (not_equal (bucket q) 256 (λ e. omega arith))

many_bits : (n : ℕ) → 8 ≤ n → nat_lt n 8 ≡ false
many_bits n h = grind (arith, nat_tests)

few_bits : (n : ℕ) → n < 8 → nat_lt n 8 ≡ true
few_bits n h = grind (arith, nat_tests)

pub long_is_long : (q : PrefixPattern) → 8 ≤ length q.bits → is_long q ≡ true
long_is_long q many = long_at q (place q) many (many_bits (length q.bits) many)

pub short_is_not_long : (q : PrefixPattern) → length q.bits < 8 → is_long q ≡ false
short_is_not_long q few =
    let short : bucket q ≡ 256 = ap (λ b. cond b 256 (number (take 8 q.bits))) (few_bits (length q.bits) few) in
    ap not (equal (bucket q) 256 short)

-- A long pattern agrees with bits of 8 or more only in their bucket.
data Told (w : List Bool) (q : PrefixPattern) : Type 0 where
  not_long : is_long q ≡ false → (bucket q == number (take 8 w)) ≡ false → Told w q
  in_place : is_long q ≡ true → (bucket q == number (take 8 w)) ≡ true → take 8 q.bits ≡ take 8 w → Told w q
  elsewhere : is_long q ≡ true → (bucket q == number (take 8 w)) ≡ false → agree w q.bits ≡ false → Told w q

disagree : (w : List Bool) (q : PrefixPattern) (b : Bool) → 8 ≤ length w → 8 ≤ length q.bits →
    (number (take 8 q.bits) ≡ number (take 8 w) → ⊥) →
    agree w q.bits ≡ b → agree w q.bits ≡ false
disagree w q true few many other e = absurd (other (ap number (sym (first_same 8 w q.bits e few many))))
disagree w q false few many other e = e

told_at : (w : List Bool) (q : PrefixPattern) → 8 ≤ length w → Place q → Told w q
told_at w q few (is_short short) =
    let below = first_8 w few in
    not_long (ap not (equal (bucket q) 256 short)) (not_equal (bucket q) (number (take 8 w)) (λ same. omega arith))
told_at w q few (is_past many same below) =
    let long : is_long q ≡ true = ap not (not_equal (bucket q) 256 (λ e. omega arith)) in
    elim (cases_eq (bucket q) (number (take 8 w))) [
      | inl here ↦
          let len : length (take 8 q.bits) ≡ length (take 8 w) = length-take-le 8 q.bits many ∙ sym (length-take-le 8 w few) in
          in_place long (equal _ _ here) (same_number (take 8 q.bits) (take 8 w) len (sym same ∙ here))
      | inr other ↦
          elsewhere long (not_equal _ _ other) (disagree w q (agree w q.bits) few many (λ e. other (same ∙ e)) refl)
    ]

told : (w : List Bool) (q : PrefixPattern) → 8 ≤ length w → Told w q
told w q few = told_at w q few (place q)

-- long patterns that match a prefix of 8 bits or more are in its bucket
hit_there : (w : List Bool) (q : PrefixPattern) (allowed : Bool) → Told w q →
    (is_long q && (agree w q.bits && allowed)) ≡ ((bucket q == number (take 8 w)) && (agree w q.bits && allowed))
hit_there w q allowed (not_long long here) = rw (long, here) refl
hit_there w q allowed (in_place long here same) = rw (long, here) refl
hit_there w q allowed (elsewhere long here other) = rw (long, here, other) refl

pub long_in_bucket : (prefix : List Bool) (all : List PrefixPattern) → 8 ≤ length prefix →
    list_any (λ q. is_long q && hits prefix q) all ≡ matches_any prefix (in_bucket (number (take 8 prefix)) all)
long_in_bucket prefix all few =
    any_same _ _ (λ q. hit_there prefix q (allows (length prefix) q) (told prefix q few)) all
    ∙ sym (any_in_bucket (hits prefix) (number (take 8 prefix)) all)
    ∙ sym (any_hits prefix (in_bucket (number (take 8 prefix)) all))

-- the patterns of a bucket agree with its 8 bits
no_rest : (a b : Bool) → a ≡ false → (a && b) ≡ false
no_rest true b e = cc
no_rest false b e = refl

none_apart : (w : List Bool) (q : PrefixPattern) → Told w q → ((bucket q == number (take 8 w)) && not (agree (take 8 w) q.bits)) ≡ false
none_apart w q (not_long long here) = no_rest _ _ here
none_apart w q (elsewhere long here other) = no_rest _ _ here
none_apart w q (in_place long here same) =
    let e : agree (take 8 w) q.bits ≡ true = ap (λ v. agree v q.bits) (sym same) ∙ agree_first 8 q.bits in
    rw (here, e) refl

none_found : (f : PrefixPattern → Bool) → ((q : PrefixPattern) → f q ≡ false) → (xs : List PrefixPattern) → list_any f xs ≡ false
none_found f none [] = refl
none_found f none (q ∷ xs) = let here = none q in let later = none_found f none xs in rw (here, later) refl

agrees : (b : Bool) → not b ≡ false → b ≡ true
agrees true e = refl
agrees false e = cc

all_agree : (depth : ℕ) (prefix : List Bool) (part : List PrefixPattern) →
    list_any (λ q. not (agree (take depth prefix) q.bits)) part ≡ false →
    AllAgree depth prefix part
all_agree depth prefix [] none = tt
all_agree depth prefix (q ∷ part) none =
    let parts = or_parts (not (agree (take depth prefix) q.bits)) (list_any (λ r. not (agree (take depth prefix) r.bits)) part) none in
    (agrees (agree (take depth prefix) q.bits) parts.0, all_agree depth prefix part parts.1)

pub bucket_agrees : (prefix : List Bool) (all : List PrefixPattern) → 8 ≤ length prefix →
    AllAgree 8 prefix (in_bucket (number (take 8 prefix)) all)
bucket_agrees prefix all few =
    all_agree 8 prefix (in_bucket (number (take 8 prefix)) all)
    (any_in_bucket (λ q. not (agree (take 8 prefix) q.bits)) (number (take 8 prefix)) all
    ∙ none_found _ (λ q. none_apart prefix q (told prefix q few)) all)
