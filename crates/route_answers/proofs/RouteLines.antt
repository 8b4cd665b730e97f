-- Which lines give a route, and which fault the others have.
use Rattle.std.proofs.Common.{◌≡◌, ◌≢◌, ◌≤◌, ◌↔◌, ◌⊎◌, ℕ, Bool, true, false, List, [], ◌∷◌, length, Option, Some, None}
use Rattle.std.proofs.Common.{Result, Ok, Err, nat_lt, if◌then◌else◌, inl, inr, refl, sym, ap, subst, ◌∙◌, arith}
use Rattle.std.proofs.lemmas.Bool.{cases_lt}
use Rattle.std.proofs.lemmas.Bool.Decides.{nat_tests}
use Rattle.filter_code.specs.RouteView.{IsWithinLimits, RouteView, is_within_limits}
use Rattle.line_protocol.specs.Limits.{line_limit, number_limit}
use Rattle.line_protocol.specs.Words.{words}
use Rattle.prefix_patterns.proofs.Numbers.{number_in-found, number_in-some}
use Rattle.prefix_patterns.proofs.Tokens.{prefix_in-found, prefix_in-only}
use Rattle.prefix_patterns.specs.Number.{IsNumber, decimal_value}
use Rattle.prefix_patterns.specs.Reading.{number_in, prefix_in}
use Rattle.prefix_patterns.specs.Token.{IsPrefix}
use Rattle.route_answers.specs.RouteLine.{AreNumbers, HasThreeWords, IsLineFault, IsRouteLine, route_in, parts_in, route_of_parts, route_of_words}
use Rattle.route_answers.specs.declared.line_fault.LineFault.{LineFault}
use Rattle.route_answers.specs.declared.line_fault.LineFault.TheVariants.{Words, Numbers, TooLong, Prefix}

-- the test of the limits
pub within_limits : (metric size : ℕ) → IsWithinLimits metric size → is_within_limits metric size ≡ true
within_limits metric size h =
    let a = h.from_two in
    let b = h.to_largest in
    let c = h.reachable in
    grind (arith, nat_tests)

are_limits : (metric size : ℕ) → is_within_limits metric size ≡ true → IsWithinLimits metric size
are_limits metric size e = record { from_two = grind (arith, nat_tests); to_largest = grind (arith, nat_tests); reachable = grind (arith, nat_tests) }

-- a line has a route, or one of the faults
abbrev Decided : List ℕ → Type 0
Decided line = ((route : RouteView) × IsRouteLine line route) ⊎ ((why : LineFault) × IsLineFault line why)

by_limits : (line first second third : List ℕ) → HasThreeWords line first second third → (bits : List Bool) → IsPrefix first bits
    → IsNumber number_limit second → IsNumber number_limit third → (b : Bool)
    → is_within_limits (decimal_value second) (decimal_value third) ≡ b → Decided line
by_limits line first second third h bits p m s true e =
    inl (
      record { net = bits; metric = decimal_value second; size = decimal_value third },
      record {
        first = first;
        second = second;
        third = third;
        three = h;
        prefix = p;
        numbers = record { is_metric = m; is_size = s; limits = are_limits (decimal_value second) (decimal_value third) e };
        metric = refl;
        size = refl;
      },
    )
by_limits line first second third h bits p m s false e =
    inr (Numbers, (first, second, third, h, (bits, p), λ n. let yes = within_limits _ _ n.limits in cc))

by_size : (line first second third : List ℕ) → HasThreeWords line first second third → (bits : List Bool) → IsPrefix first bits
    → IsNumber number_limit second → (o : Option ℕ) → number_in number_limit third ≡ o → Decided line
by_size line first second third h bits p m None e =
    inr (Numbers, (first, second, third, h, (bits, p), λ n. let some = number_in-some number_limit third n.is_size in cc))
by_size line first second third h bits p m (Some size) e =
    by_limits line first second third h bits p m (number_in-found number_limit third size e).0 _ refl

by_metric : (line first second third : List ℕ) → HasThreeWords line first second third → (bits : List Bool) → IsPrefix first bits
    → (o : Option ℕ) → number_in number_limit second ≡ o → Decided line
by_metric line first second third h bits p None e =
    inr (Numbers, (first, second, third, h, (bits, p), λ n. let some = number_in-some number_limit second n.is_metric in cc))
by_metric line first second third h bits p (Some metric) e =
    by_size line first second third h bits p (number_in-found number_limit second metric e).0 _ refl

by_prefix : (line first second third : List ℕ) → HasThreeWords line first second third → (o : Option (List Bool))
    → prefix_in first ≡ o → Decided line
by_prefix line first second third h None e =
    inr (Prefix, (first, second, third, h, λ bits p. let some = prefix_in-only first bits p in cc))
by_prefix line first second third h (Some bits) e = by_metric line first second third h bits (prefix_in-found first bits e) _ refl

by_words : (line : List ℕ) → length line ≤ line_limit → (all : List (List ℕ)) → words line ≡ all → Decided line
by_words line within [] e = inr (Words, (within, λ three. let n = ap length e in omega (arith, three, n)))
by_words line within (a ∷ []) e = inr (Words, (within, λ three. let n = ap length e in omega (arith, three, n)))
by_words line within (a ∷ (b ∷ [])) e = inr (Words, (within, λ three. let n = ap length e in omega (arith, three, n)))
by_words line within (a ∷ (b ∷ (c ∷ []))) e = by_prefix line a b c (record { within = within; are = e }) _ refl
by_words line within (a ∷ (b ∷ (c ∷ (d ∷ more)))) e = inr (Words, (within, λ three. let n = ap length e in omega (arith, three, n)))

decided : (line : List ℕ) → Decided line
decided line = elim (cases_lt line_limit (length line)) [
  | inl long ↦ inr (TooLong, long)
  | inr within ↦ by_words line within (words line) refl
]

-- what is read of a line within the limit, by its words
pub read_within : (given : Option ℕ) (line : List ℕ) → length line ≤ line_limit → route_in given line ≡ route_of_words (parts_in (words line) given)
read_within given line within =
    let short : nat_lt line_limit (length line) ≡ false = grind (arith, nat_tests) in
    ap (λ (b : Bool). if b then Err TooLong else route_of_words (parts_in (words line) given)) short

read_three : (line first second third : List ℕ) → HasThreeWords line first second third
    → route_in None line ≡ route_of_parts (prefix_in first) (number_in number_limit second) (number_in number_limit third)
read_three line first second third h =
    read_within None line h.within ∙ ap (λ (all : List (List ℕ)). route_of_words (parts_in all None)) h.are

-- a route by its parts
ok_route : (route : RouteView) (metric size : ℕ) → metric ≡ route.metric → size ≡ route.size
    → (let ok : Result RouteView LineFault = Ok (record { net = route.net; metric = metric; size = size }) in ok ≡ Ok route)
ok_route route metric size e f = rw (e, f) refl

-- a route line is read as its route
pub read_route : (line : List ℕ) (route : RouteView) → IsRouteLine line route → route_in None line ≡ Ok route
read_route line route h =
    let n = h.numbers in
    let p = prefix_in-only h.first route.net h.prefix in
    let m = number_in-some number_limit h.second n.is_metric in
    let s = number_in-some number_limit h.third n.is_size in
    let l = within_limits _ _ n.limits in
    read_three line h.first h.second h.third h.three ∙ rw (p, m, s, l) (ok_route route _ _ (sym h.metric) (sym h.size))

-- a line that is not of three words
few_words : (all : List (List ℕ)) → length all ≢ 3 → route_of_words (parts_in all None) ≡ Err Words
few_words [] h = refl
few_words (a ∷ []) h = refl
few_words (a ∷ (b ∷ [])) h = refl
few_words (a ∷ (b ∷ (c ∷ []))) h = absurd (h refl)
few_words (a ∷ (b ∷ (c ∷ (d ∷ more)))) h = refl

-- a text that writes no prefix
no_prefix : (text : List ℕ) (o : Option (List Bool)) → prefix_in text ≡ o → ((bits : List Bool) → IsPrefix text bits → ⊥) → o ≡ None
no_prefix text None e h = refl
no_prefix text (Some bits) e h = absurd (h bits (prefix_in-found text bits e))

-- numbers that are out of their limits
out_of_limits : (bits : List Bool) (m s : ℕ) (b : Bool) → is_within_limits m s ≡ b → (is_within_limits m s ≡ true → ⊥)
    → route_of_parts (Some bits) (Some m) (Some s) ≡ Err Numbers
out_of_limits bits m s true e out = absurd (out e)
out_of_limits bits m s false e out =
    let parts : Bool → Result RouteView LineFault =
    λ c. if c then Ok (record { net = bits; metric = m; size = s }) else Err Numbers
    in
    ap parts e

-- texts that are not the numbers of a route
no_numbers : (bits : List Bool) (second third : List ℕ) (m s : Option ℕ) → number_in number_limit second ≡ m
    → number_in number_limit third ≡ s → ¬ AreNumbers second third → route_of_parts (Some bits) m s ≡ Err Numbers
no_numbers bits second third None s e f h = refl
no_numbers bits second third (Some m) None e f h = refl
no_numbers bits second third (Some m) (Some s) e f h =
    let a = number_in-found number_limit second m e in
    let b = number_in-found number_limit third s f in
    out_of_limits bits m s (is_within_limits m s) refl
    (λ l. h (record { is_metric = a.0; is_size = b.0; limits = rw (a.1, b.1) (are_limits m s l) }))

-- a line with a fault is refused with it
read_fault : (line : List ℕ) (why : LineFault) → IsLineFault line why → route_in None line ≡ Err why
read_fault line TooLong h =
    let long : nat_lt line_limit (length line) ≡ true = grind (arith, nat_tests) in
    ap (λ (b : Bool). if b then Err TooLong else route_of_words (parts_in (words line) None)) long
read_fault line Words h = read_within None line h.0 ∙ few_words (words line) h.1
read_fault line Prefix h =
    let none = no_prefix h.0 (prefix_in h.0) refl h.4 in
    read_three line h.0 h.1 h.2 h.3
    ∙ ap (λ (o : Option (List Bool)). route_of_parts o (number_in number_limit h.1) (number_in number_limit h.2)) none
read_fault line Numbers h =
    let some = prefix_in-only h.0 h.4.0 h.4.1 in
    read_three line h.0 h.1 h.2 h.3
    ∙ ap (λ (o : Option (List Bool)). route_of_parts o (number_in number_limit h.1) (number_in number_limit h.2)) some
    ∙ no_numbers h.4.0 h.1 h.2 _ _ refl refl h.5

-- and the other way round, since each line has a route or a fault
pub routes : (line : List ℕ) (route : RouteView) → (route_in None line ≡ Ok route) ↔ IsRouteLine line route
routes line route = (
  λ e. elim (decided line) [
    | inl found ↦ let same : found.0 ≡ route = let f = read_route line found.0 found.1 in cc in
        subst (λ (r : RouteView). IsRouteLine line r) same found.1
    | inr fault ↦ absurd (let f = read_fault line fault.0 fault.1 in cc)
  ],
  read_route line route,
)

pub faults : (line : List ℕ) (why : LineFault) → (route_in None line ≡ Err why) ↔ IsLineFault line why
faults line why = (
  λ e. elim (decided line) [
    | inl found ↦ absurd (let f = read_route line found.0 found.1 in cc)
    | inr fault ↦ let same : fault.0 ≡ why = let f = read_fault line fault.0 fault.1 in cc in
        subst (λ (w : LineFault). IsLineFault line w) same fault.1
  ],
  read_fault line why,
)
