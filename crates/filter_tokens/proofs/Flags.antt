-- The table of flags is held against the definition of each class, by computing, at all bytes.
use Rattle.std.proofs.Common.{◌≡◌, ℕ, zero, suc, ◌<◌, Bool, true, false, ◌&&◌, not, nat_eq, bit_and, get_or, refl, arith, inl, inr}
use Rattle.std.specs.Bool.{beq}
use Rattle.std.proofs.lemmas.Bool.{cases_eq}
use Rattle.filter_tokens.specs.declared.byte_class.TheConstants.{FLAGS}
use Rattle.filter_tokens.specs.ByteClasses.{stands_alone}
use Rattle.filter_tokens.specs.Shapes.{begins_word, continues_word}

-- whether a byte has one of the flags
abbrev pub has_flag : ℕ → ℕ → Bool
has_flag flags byte = not (nat_eq (bit_and (get_or FLAGS byte 0) flags) 0)

-- two tests agree at all numbers below one
unfoldable agree_below : (ℕ → Bool) → (ℕ → Bool) → ℕ → Bool
agree_below f g zero = true
agree_below f g (suc n) = beq (f n) (g n) && agree_below f g n

both_of : (x y rest : Bool) → (beq x y && rest) ≡ true → (x ≡ y) × (rest ≡ true)
both_of true true rest e = (refl, e)
both_of true false rest e = cc
both_of false true rest e = cc
both_of false false rest e = (refl, e)

agree_at : (f g : ℕ → Bool) (n : ℕ) → agree_below f g n ≡ true → (byte : ℕ) → byte < n → f byte ≡ g byte
unfolding agree_below
agree_at f g zero e byte within = absurd (omega arith)
agree_at f g (suc n) e byte within =
    let both = both_of (f n) (g n) (agree_below f g n) e in
    elim (cases_eq byte n) [ inl same ↦ rw same both.0 | inr other ↦ agree_at f g n both.1 byte (omega arith) ]

-- the flag of the bytes with which a word begins
pub flag-begins : (byte : ℕ) → byte < 256 → has_flag 1 byte ≡ begins_word byte
unfolding agree_below
flag-begins byte within = agree_at (has_flag 1) begins_word 256 refl byte within

-- that flag and the one of the digits
pub flag-continues : (byte : ℕ) → byte < 256 → has_flag 3 byte ≡ continues_word byte
unfolding agree_below
flag-continues byte within = agree_at (has_flag 3) continues_word 256 refl byte within

-- the flag of the punctuators that are told by one byte
pub flag-alone : (byte : ℕ) → byte < 256 → has_flag 4 byte ≡ stands_alone byte
unfolding agree_below
flag-alone byte within = agree_at (has_flag 4) stands_alone 256 refl byte within
