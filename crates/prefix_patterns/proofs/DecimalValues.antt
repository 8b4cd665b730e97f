-- What digits added at the end do to the number that they write.
use Rattle.std.proofs.Common.{◌≡◌, ℕ, ◌+◌, ◌-◌, ◌*◌, ◌^◌, ◌<◌, ◌≤◌, List, [], ◌∷◌, ◌++◌, length, take, drop, get_or, sym, ◌∙◌, ap}
use Rattle.std.proofs.Common.{arith, length-append}
use Rattle.std.proofs.Math.Nat.{one-le-pow, le-mul_of_pos_right}
use Rattle.std.proofs.lemmas.List.{take_more, take-append-drop}
use Rattle.std.proofs.lemmas.Nat.{pow-add}
use Rattle.prefix_patterns.specs.Number.{decimal_value}

pub decimal_value-append : (front back : List ℕ) →
    decimal_value (front ++ back) ≡ decimal_value front * 10 ^ length back + decimal_value back
unfolding decimal_value
decimal_value-append [] back = omega arith
decimal_value-append (digit ∷ digits) back =
    rw (length-append digits back, pow-add 10 (length digits) (length back), decimal_value-append digits back) (omega arith)

-- one more digit
pub decimal_value-more : (text : List ℕ) (n : ℕ) → n < length text →
    decimal_value (take (n + 1) text) ≡ decimal_value (take n text) * 10 + (get_or text n 0 - 48)
unfolding decimal_value
decimal_value-more text n within = rw (take_more text n 0 within, decimal_value-append (take n text) (get_or text n 0 ∷ [])) (omega arith)

-- the digits at the front write no larger number
pub decimal_value-take : (text : List ℕ) (n : ℕ) → decimal_value (take n text) ≤ decimal_value text
decimal_value-take text n =
    let split : decimal_value text ≡ decimal_value (take n text) * 10 ^ length (drop n text) + decimal_value (drop n text) =
    ap decimal_value (sym (take-append-drop n text)) ∙ decimal_value-append (take n text) (drop n text) in
    let grows : decimal_value (take n text) ≤ decimal_value (take n text) * 10 ^ length (drop n text) =
    le-mul_of_pos_right _ (one-le-pow (length (drop n text)) 10 (omega arith)) in
    omega arith
