-- How many classes a search tries at most.
use Rattle.std.proofs.Common.{◌≡◌, ℕ, zero, suc, ◌+◌, ◌-◌, ◌*◌, ◌^◌, ◌<◌, ◌≤◌, Bool, true, false, Option, Some, None, List, [], ◌∷◌, ◌++◌, length}
use Rattle.std.proofs.Common.{refl, ◌∙◌, ap, arith, length-append}
use Rattle.std.proofs.Math.Nat.{pow-suc}
use Rattle.filter_diff.specs.Searches.{HasBit, by_metric, most_tried, most_tried_of, split_by_bits}
use Rattle.filter_diff.specs.declared.class.Class.{Class}

split_some : (n : ℕ) → 1 ≤ split_by_bits n
split_some zero = omega arith
split_some (suc n) = omega arith

metric_some : (size : ℕ) (metric : Option ℕ) → 1 ≤ by_metric size metric
metric_some size None = omega arith
metric_some size (Some metric) = omega arith

product_some : (a b : ℕ) → 1 ≤ a → 1 ≤ b → 1 ≤ a * b
product_some zero b h k = absurd (omega arith)
product_some (suc a) b h k = let e : suc a * b ≡ a * b + b = grind arith in omega (arith, e)

-- a class is one of those that are tried of it
pub tried_some : (size : ℕ) (class : Class) → 1 ≤ most_tried size class
tried_some size class =
    product_some (by_metric size class.metric) (split_by_bits (class.len - length class.known)) (metric_some size class.metric)
    (split_some (class.len - length class.known))

-- a class more
tried_append : (size : ℕ) (xs : List Class) (c : Class) → most_tried_of size (xs ++ (c ∷ [])) ≡ most_tried_of size xs + most_tried size c
tried_append size [] c = omega arith
tried_append size (x ∷ xs) c = let e = tried_append size xs c in omega (arith, e)

pub tried_pushed : (size : ℕ) (xs ys : List Class) (c : Class) → ys ≡ xs ++ (c ∷ []) →
    most_tried_of size ys ≡ most_tried_of size xs + most_tried size c
tried_pushed size xs ys c e = ap (most_tried_of size) e ∙ tried_append size xs c

-- the two halves of a class
half : (size : ℕ) (class longer : Class) (bit : Bool) (n : ℕ) → HasBit class bit longer → class.len - length class.known ≡ suc n →
    most_tried size longer ≡ by_metric size class.metric * split_by_bits n
half size class longer bit n has e =
    let long : length longer.known ≡ length class.known + 1 = ap length has.known ∙ length-append class.known (bit ∷ []) in
    let left : longer.len - length longer.known ≡ n = omega (arith, long, has.len, e) in
    rw (has.metric, left) refl

twice : (m a : ℕ) → 1 ≤ m → m * a + m * a + 1 ≤ m * (1 + 2 * a)
twice m a h = let e : m * (1 + 2 * a) ≡ m + (m * a + m * a) = grind arith in omega (arith, e)

halves_by : (size : ℕ) (class upper lower : Class) (n : ℕ) → HasBit class true upper → HasBit class false lower →
    class.len - length class.known ≡ suc n → most_tried size upper + most_tried size lower + 1 ≤ most_tried size class
halves_by size class upper lower n has_upper has_lower e =
    rw (half size class upper true n has_upper e, half size class lower false n has_lower e, e)
    (twice (by_metric size class.metric) (split_by_bits n) (metric_some size class.metric))

pub tried_halves : (size : ℕ) (class upper lower : Class) (xs ys zs : List Class) → HasBit class true upper → HasBit class false lower →
    length class.known < class.len → ys ≡ xs ++ (upper ∷ []) → zs ≡ ys ++ (lower ∷ []) →
    most_tried_of size zs + 1 ≤ most_tried_of size xs + most_tried size class
tried_halves size class upper lower xs ys zs has_upper has_lower more e f =
    let first = tried_pushed size xs ys upper e in
    let second = tried_pushed size ys zs lower f in
    let both = halves_by size class upper lower (class.len - length class.known - 1) has_upper has_lower (omega arith) in
    omega (arith, first, second, both)

-- one metric more
pub tried_metric : (size : ℕ) (class : Class) (xs ys : List Class) (metric step before : ℕ) →
    ys ≡ xs ++ (record { known = class.known; len = class.len; metric = Some metric; size = class.size } ∷ []) →
    most_tried_of size xs ≡ before + step * split_by_bits (class.len - length class.known) →
    most_tried_of size ys ≡ before + (step + 1) * split_by_bits (class.len - length class.known)
tried_metric size class xs ys metric step before e so_far =
    let a = split_by_bits (class.len - length class.known) in
    let pushed = tried_pushed size xs ys _ e in
    let one : 1 * a ≡ a = grind arith in
    let next : (step + 1) * a ≡ step * a + a = grind arith in
    omega (arith, pushed, so_far, one, next)

-- all metrics
pub tried_metrics : (size : ℕ) (class : Class) (before after : ℕ) → class.metric ≡ None →
    after ≡ before + (size + 1) * split_by_bits (class.len - length class.known) → after + 1 ≤ before + most_tried size class
tried_metrics size class before after none is =
    let a = split_by_bits (class.len - length class.known) in
    let some : 1 ≤ a = split_some (class.len - length class.known) in
    let all : most_tried size class ≡ (size + 2) * a = ap (λ (m : Option ℕ). by_metric size m * a) none in
    let next : (size + 2) * a ≡ (size + 1) * a + a = grind arith in
    omega (arith, is, all, next, some)

-- the classes of a length
split_pow : (n : ℕ) → split_by_bits n + 1 ≡ 2 ^ (n + 1)
split_pow zero = refl
split_pow (suc n) =
    let so_far = split_pow n in
    let next : suc n + 1 ≡ suc (n + 1) = omega arith in
    let more : 2 ^ suc (n + 1) ≡ 2 ^ (n + 1) * 2 = pow-suc 2 (n + 1) in
    rw next (omega (arith, so_far, more))

-- those of one length more, beside what the shorter ones take
length_by : (size len before after a b c : ℕ) → a + 1 ≡ b → c ≡ b * 2 → after ≡ before + (size + 2) * a →
    before + (size + 2) * c ≤ 2 ^ 34 * (size + 2) → after + (size + 2) * b ≤ 2 ^ 34 * (size + 2)
length_by size len before after a b c e f is so_far =
    let whole : (size + 2) * c ≡ (size + 2) * a + (size + 2) * b + (size + 2) = rw (f, ← e) (grind arith) in
    omega (arith, whole, is, so_far)

pub tried_length : (size step before after : ℕ) → step ≤ 32 → after ≡ before + (size + 2) * split_by_bits (32 - step) →
    before + (size + 2) * 2 ^ (34 - step) ≤ 2 ^ 34 * (size + 2) → after + (size + 2) * 2 ^ (34 - (step + 1)) ≤ 2 ^ 34 * (size + 2)
tried_length size step before after few is so_far =
    let long : 34 - (step + 1) ≡ 32 - step + 1 = omega arith in
    let more : 34 - step ≡ suc (32 - step + 1) = omega arith in
    let double : 2 ^ (34 - step) ≡ 2 ^ (32 - step + 1) * 2 = rw more (pow-suc 2 (32 - step + 1)) in
    rw long (length_by size (32 - step) before after (split_by_bits (32 - step)) (2 ^ (32 - step + 1)) (2 ^ (34 - step)) (split_pow (32 - step))
    double is so_far)

-- the class that is taken is one, so the limit is below that of all classes where it is the last
pub taken : (size limit left all : ℕ) (cs ds : List Class) (next : Class) → cs ≡ ds ++ (next ∷ []) →
    limit + most_tried_of size cs ≤ left + all → limit + (most_tried_of size ds + most_tried size next) ≤ left + all
taken size limit left all cs ds next e h = let pushed = tried_pushed size ds cs next e in omega (arith, pushed, h)
