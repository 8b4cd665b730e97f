-- Worked rows, computed by the definitions.
use Rattle.std.proofs.Common.{◌≡◌, true, false, [], ◌∷◌, refl}
use Rattle.int_sets.specs.Holding.{NumberRange, holds, holds_any, HoldsAny}
use Rattle.int_sets.proofs.Holding.{holds_any-Decides}

-- the ranges [3..5], [7..7], [5..9] and [4294967295..4294967295]
abbrev three_to_five : NumberRange
three_to_five = record { low = 3; high = 5 }

abbrev seven : NumberRange
seven = record { low = 7; high = 7 }

abbrev five_to_nine : NumberRange
five_to_nine = record { low = 5; high = 9 }

abbrev greatest : NumberRange
greatest = record { low = 4294967295; high = 4294967295 }

-- a range holds its first number and its last, and not those beside them
first : holds 3 three_to_five ≡ true
first = refl

last : holds 5 three_to_five ≡ true
last = refl

before : holds 2 three_to_five ≡ false
before = refl

past : holds 6 three_to_five ≡ false
past = refl

-- a range of one number holds that one alone
one : holds 7 seven ≡ true
one = refl

one_less : holds 6 seven ≡ false
one_less = refl

one_more : holds 8 seven ≡ false
one_more = refl

-- a set of no ranges holds nothing
nothing : holds_any 0 [] ≡ false
nothing = refl

-- between two ranges is a gap, also where the second begins two past the end of the first
gap : holds_any 6 (three_to_five ∷ seven ∷ []) ≡ false
gap = refl

-- the order of ranges does not matter, nor that they overlap
overlap : holds_any 5 (five_to_nine ∷ three_to_five ∷ []) ≡ true
overlap = refl

overlap_turned : holds_any 3 (five_to_nine ∷ three_to_five ∷ []) ≡ true
overlap_turned = refl

over : holds_any 10 (five_to_nine ∷ three_to_five ∷ seven ∷ []) ≡ false
over = refl

-- the greatest number is like any other
at_the_end : holds_any 4294967295 (three_to_five ∷ greatest ∷ []) ≡ true
at_the_end = refl

before_the_end : holds_any 4294967294 (three_to_five ∷ greatest ∷ []) ≡ false
before_the_end = refl

-- two of these as facts
last_fact : HoldsAny 5 (three_to_five ∷ seven ∷ [])
last_fact = (holds_any-Decides 5 (three_to_five ∷ seven ∷ [])).0 refl

gap_fact : HoldsAny 6 (three_to_five ∷ seven ∷ []) → ⊥
gap_fact any =
    let no : holds_any 6 (three_to_five ∷ seven ∷ []) ≡ false = refl in
    let yes = (holds_any-Decides 6 (three_to_five ∷ seven ∷ [])).1 any in
    cc
