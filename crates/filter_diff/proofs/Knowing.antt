-- What the first bits of a prefix tell of it.
use Rattle.std.proofs.Common.{◌≡◌, ℕ, zero, suc, ◌<◌, ◌≤◌, Bool, true, false, ◌||◌, List, [], ◌∷◌, length, take, get_or}
use Rattle.std.proofs.Common.{refl, sym, ◌∙◌, ap, arith}
use Rattle.std.proofs.lemmas.List.{take-take}
use Rattle.std.specs.List.{list_any}
use Rattle.prefix_patterns.specs.Bits.{address_bits, address_of, prefix_bits}
use Rattle.prefix_patterns.specs.BitLists.{prefix_bits-address_of}
use Rattle.prefix_patterns.specs.Matching.{LiesWithin, has_same_bits}
use Rattle.prefix_patterns.specs.Trees.{agree}
use Rattle.prefix_patterns.proofs.Agreement.{same_is_agree}

-- what differs in the first bits differs
agree_less : (n : ℕ) (net q : List Bool) → agree (take n net) q ≡ false → agree net q ≡ false
agree_less zero net q e = cc
agree_less (suc n) [] q e = e
agree_less (suc n) (x ∷ net) [] e = cc
agree_less (suc n) (true ∷ net) (true ∷ q) e = agree_less n net q e
agree_less (suc n) (false ∷ net) (false ∷ q) e = agree_less n net q e
agree_less (suc n) (true ∷ net) (false ∷ q) e = refl
agree_less (suc n) (false ∷ net) (true ∷ q) e = refl

agree_none : (net : List Bool) → agree net [] ≡ true
agree_none [] = refl
agree_none (x ∷ net) = refl

-- what has no more bits than are known is compared whole
agree_all : (n : ℕ) (net q : List Bool) → length q ≤ n → agree (take n net) q ≡ agree net q
agree_all n net [] h = agree_none (take n net) ∙ sym (agree_none net)
agree_all zero net (y ∷ q) h = absurd (omega arith)
agree_all (suc n) [] (y ∷ q) h = refl
agree_all (suc n) (true ∷ net) (true ∷ q) h = agree_all n net q (omega arith)
agree_all (suc n) (false ∷ net) (false ∷ q) h = agree_all n net q (omega arith)
agree_all (suc n) (true ∷ net) (false ∷ q) h = refl
agree_all (suc n) (false ∷ net) (true ∷ q) h = refl

-- known bits that differ from those of a pattern
pub differ_known : (known net q : List Bool) → LiesWithin net known → has_same_bits known q ≡ false → has_same_bits net q ≡ false
differ_known known net q begins e =
    same_is_agree net q
    ∙ agree_less (length known) net q (ap (λ (p : List Bool). agree p q) begins ∙ (sym (same_is_agree known q) ∙ e))

-- known bits that are at least as many as those of a pattern
pub same_known : (known net q : List Bool) → LiesWithin net known → length q ≤ length known → has_same_bits known q ≡ has_same_bits net q
same_known known net q begins h =
    same_is_agree known q
    ∙ (ap (λ (p : List Bool). agree p q) (sym begins) ∙ (agree_all (length known) net q h ∙ sym (same_is_agree net q)))

-- the first of the known bits are the first bits
pub first_known : (known net : List Bool) (kept : ℕ) → LiesWithin net known → kept ≤ length known → take kept known ≡ take kept net
first_known known net kept begins h = ap (take kept) (sym begins) ∙ take-take kept (length known) net h

-- the first bits of an address of a prefix are those of the prefix
pub first_bits : (prefix : List Bool) (kept : ℕ) → length prefix ≤ 32 → kept ≤ length prefix →
    prefix_bits (address_of prefix) kept ≡ take kept prefix
first_bits prefix kept limit h =
    sym (take-take kept (length prefix) (address_bits (address_of prefix)) h) ∙ ap (take kept) (prefix_bits-address_of prefix limit)

-- the address of known bits
pub kept_known : (known net : List Bool) (kept : ℕ) → LiesWithin net known → length known ≤ 32 → kept ≤ length known →
    address_of (prefix_bits (address_of known) kept) ≡ address_of (take kept net)
kept_known known net kept begins limit h =
    ap (λ (p : List Bool). address_of p) (first_bits known kept limit h ∙ first_known known net kept begins h)

or_more : (a : Bool) {b : Bool} → b ≡ true → (a || b) ≡ true
or_more true e = refl
or_more false e = e

-- a test that one element passes
pub any_at : {A : Type 0} (p : A → Bool) (xs : List A) (i : ℕ) (d : A) → i < length xs → p (get_or xs i d) ≡ true → list_any p xs ≡ true
any_at p [] i d h e = absurd (omega arith)
any_at p (x ∷ xs) zero d h e = rw e refl
any_at p (x ∷ xs) (suc i) d h e = or_more (p x) (any_at p xs i d (omega arith) e)
