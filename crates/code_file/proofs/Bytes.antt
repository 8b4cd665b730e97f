-- Bytes, and the numbers in them.
use Rattle.std.proofs.Common.{◌≡◌, ℕ, zero, suc, ◌+◌, ◌*◌, ◌%◌, ◌^◌, ◌<◌, List, [], ◌∷◌, length, take, drop, replicate, sym, ap}
use Rattle.std.proofs.Common.{◌∙◌, arith, inl, inr, lit<}
use Rattle.std.proofs.lemmas.Bool.{cases_lt}
use Rattle.std.proofs.lemmas.List.{append-nil, length-take, get_or-drop, get_or-take, get_or_past}
use Rattle.std.proofs.lemmas.Nat.{be_bytes_2, be_bytes_4}
use Rattle.code_file.specs.Fields.{IsBytes}
use Rattle.byteorder.specs.Endian.{big_number, big_bytes}
use Rattle.byteorder.specs.Numbers.{big_number-reads_back}

pub IsBytes-drop : (n : ℕ) (bytes : List ℕ) → IsBytes bytes → IsBytes (drop n bytes)
IsBytes-drop n bytes h i = rw get_or-drop (h (n + i))

pub IsBytes-take : (n : ℕ) (bytes : List ℕ) → IsBytes bytes → IsBytes (take n bytes)
IsBytes-take n bytes h i =
    elim (cases_lt i n) [
      | inl lt ↦ rw (get_or-take n bytes i 0 lt) (h i)
      | inr le ↦ rw (get_or_past (take n bytes) i 0 (omega (arith, length-take n bytes))) (omega arith)
    ]

pub one_byte : (b : ℕ) → b < 256 → IsBytes (b ∷ [])
one_byte b h zero = h
one_byte b h (suc i) = lit< tt

pub zeros_are_bytes : (n : ℕ) → IsBytes (replicate n 0)
zeros_are_bytes zero i = lit< tt
zeros_are_bytes (suc n) zero = lit< tt
zeros_are_bytes (suc n) (suc i) = zeros_are_bytes n i

-- a number is read back from its bytes
pub number_again : (n x : ℕ) → x < 256 ^ n → big_number n (big_bytes n x) ≡ x
number_again n x h = ap (big_number n) (sym (append-nil (big_bytes n x))) ∙ big_number-reads_back n x [] h

-- bytes are those of the number in them
abbrev pub GivesBytesBack : ℕ → Type 0
GivesBytesBack n = (bytes : List ℕ) → length bytes ≡ n → IsBytes bytes → big_bytes n (big_number n bytes) ≡ bytes

pub bytes_again_1 : GivesBytesBack 1
bytes_again_1 [] len h = absurd (omega arith)
bytes_again_1 (b ∷ []) len h =
    let small : b < 256 = h 0 in
    let e : (b * 256 ^ 0 + 0) % 256 ≡ b = omega arith in
    ap (λ (x : ℕ). x ∷ []) e
bytes_again_1 (b ∷ c ∷ bytes) len h = absurd (omega arith)

pub bytes_again_2 : GivesBytesBack 2
bytes_again_2 bytes len h = be_bytes_2 bytes (big_number 2 bytes) len h (omega arith)

pub bytes_again_4 : GivesBytesBack 4
bytes_again_4 bytes len h = be_bytes_4 bytes (big_number 4 bytes) len h (omega arith)
