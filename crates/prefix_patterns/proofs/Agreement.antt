-- Two lists of bits agree as far as both go.
use Rattle.std.proofs.Common.{◌≡◌, ℕ, zero, suc, min, nat_le, Bool, true, false, Some, List, [], ◌∷◌, length, take}
use Rattle.std.proofs.Common.{refl, arith, slice_get}
use Rattle.std.proofs.Math.Nat.{suc-min-suc}
use Rattle.std.specs.Bool.{beq}
use Rattle.std.proofs.lemmas.Bool.Decides.{nat_tests}
use Rattle.prefix_patterns.specs.Matching.{has_same_bits}
use Rattle.prefix_patterns.specs.Trees.{agree}

none_less : (n : ℕ) → min 0 n ≡ 0
none_less n = omega arith

less_none : (n : ℕ) → min n 0 ≡ 0
less_none n = omega arith

pub same_is_agree : (p q : List Bool) → has_same_bits p q ≡ agree p q
same_is_agree [] q = rw (none_less (length q)) refl
same_is_agree (a ∷ p) [] = rw (less_none (length (a ∷ p))) refl
same_is_agree (a ∷ p) (b ∷ q) = let more = same_is_agree p q in rw (suc-min-suc (length p) (length q), more) refl

-- one more bit that is the same
pub agree_more : (depth : ℕ) (p q : List Bool) (b c : Bool) → agree (take depth p) q ≡ true → slice_get p depth ≡ Some b →
    slice_get q depth ≡ Some c → beq b c ≡ true → agree (take (suc depth) p) q ≡ true
agree_more depth [] q b c h at_p at_q same = cc
agree_more depth (x ∷ p) [] b c h at_p at_q same = cc
agree_more zero (x ∷ p) (y ∷ q) b c h at_p at_q same =
    let e : beq x y ≡ true = cc in
    rw e refl
agree_more (suc depth) (true ∷ p) (true ∷ q) b c h at_p at_q same = agree_more depth p q b c h at_p at_q same
agree_more (suc depth) (false ∷ p) (false ∷ q) b c h at_p at_q same = agree_more depth p q b c h at_p at_q same
agree_more (suc depth) (true ∷ p) (false ∷ q) b c h at_p at_q same = cc
agree_more (suc depth) (false ∷ p) (true ∷ q) b c h at_p at_q same = cc

-- one bit that is not
pub differ_at : (depth : ℕ) (p q : List Bool) (b c : Bool) → slice_get p depth ≡ Some b → slice_get q depth ≡ Some c →
    beq b c ≡ false → agree p q ≡ false
differ_at depth [] q b c at_p at_q other = cc
differ_at depth (x ∷ p) [] b c at_p at_q other = cc
differ_at zero (x ∷ p) (y ∷ q) b c at_p at_q other =
    let e : beq x y ≡ false = cc in
    rw e refl
differ_at (suc depth) (true ∷ p) (true ∷ q) b c at_p at_q other = differ_at depth p q b c at_p at_q other
differ_at (suc depth) (false ∷ p) (false ∷ q) b c at_p at_q other = differ_at depth p q b c at_p at_q other
differ_at (suc depth) (true ∷ p) (false ∷ q) b c at_p at_q other = refl
differ_at (suc depth) (false ∷ p) (true ∷ q) b c at_p at_q other = refl

few_fewer : (n depth : ℕ) → nat_le (suc n) (suc depth) ≡ true → nat_le n depth ≡ true
few_fewer n depth h = grind (arith, nat_tests)

none_few : (n : ℕ) → nat_le (suc n) 0 ≡ true → ⊥
none_few n h = grind (arith, nat_tests)

-- all bits of the second list were compared
pub agree_to_end : (depth : ℕ) (p q : List Bool) → nat_le (length q) depth ≡ true → agree (take depth p) q ≡ true → agree p q ≡ true
agree_to_end depth [] q few h = refl
agree_to_end depth (x ∷ p) [] few h = refl
agree_to_end zero (x ∷ p) (y ∷ q) few h = absurd (none_few (length q) few)
agree_to_end (suc depth) (true ∷ p) (true ∷ q) few h = agree_to_end depth p q (few_fewer (length q) depth few) h
agree_to_end (suc depth) (false ∷ p) (false ∷ q) few h = agree_to_end depth p q (few_fewer (length q) depth few) h
agree_to_end (suc depth) (true ∷ p) (false ∷ q) few h = cc
agree_to_end (suc depth) (false ∷ p) (true ∷ q) few h = cc
