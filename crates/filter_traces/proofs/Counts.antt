-- Counts of 64 bits hold the numbers of the lines of an input, which are fewer.
use Rattle.std.proofs.Common.{◌≡◌, ℕ, ◌+◌, ◌-◌, ◌^◌, ◌≤◌, ◌==◌, Bool, true, false, cond, min, not}
use Rattle.std.proofs.Common.{List, [], ◌∷◌, ◌++◌, length, sym, ap, ◌∙◌, add-zero, arith}
use Rattle.std.specs.Prelude.{count_by, if◌then◌else◌}
use Rattle.std.specs.List.{enumerate_from, slice_split}
use Rattle.std.specs.Str.Lines.{lines, lines_of_parts}
use Rattle.std.proofs.lemmas.List.Sums.{count_by-le-length, length-filter, sum_by-append, sum_by-cons}
use Rattle.std.proofs.lemmas.List.Splits.{length-slice_split}
use Rattle.std.proofs.lemmas.List.FromFn.{length-enumerate_from}
use Rattle.line_protocol.specs.Lines.{is_skipped, numbered}
use Rattle.filter_traces.specs.Hits.{counted_up}

-- one element more
pub count_more : {X : Type 0} (p : X → Bool) (xs : List X) (x : X) → count_by p (xs ++ x ∷ []) ≡ count_by p xs + cond (p x) 1 0
count_more p xs x =
    sum_by-append (λ y. cond (p y) 1 0) xs (x ∷ [])
    ∙ ap (λ (n : ℕ). count_by p xs + n) (sum_by-cons (λ y. cond (p y) 1 0) x [] ∙ add-zero _)

-- what is counted up to a limit
capped : (limit h : ℕ) → min (min h limit + 1) limit ≡ min (h + 1) limit
capped limit h = omega arith

pub capped_more : (b : Bool) (h : ℕ) → counted_up b (min h (2 ^ 64 - 1)) ≡ min (h + cond b 1 0) (2 ^ 64 - 1)
capped_more true h = capped (2 ^ 64 - 1) h
capped_more false h = ap (λ (n : ℕ). min n (2 ^ 64 - 1)) (sym (add-zero h))

-- there are no more lines than parts between line feeds
parts_few : (parts : List (List ℕ)) → length (lines_of_parts parts) ≤ length parts
parts_few [] = omega arith
parts_few (x ∷ []) = last (length x == 0)
  where
    last : (b : Bool) → length (let ls : List (List ℕ) = if b then [] else x ∷ [] in ls) ≤ 1
    last true = omega arith
    last false = omega arith
parts_few (x ∷ (y ∷ more)) =
    let rest : length (lines_of_parts (y ∷ more)) ≤ length (y ∷ more) = parts_few (y ∷ more) in
    omega (arith, rest)

pub few_lines : (input : List ℕ) → length (numbered input) ≤ length input + 1
few_lines input =
    let kept : length (numbered input) ≡ count_by (λ (line : ℕ × List ℕ). not (is_skipped line.1)) (enumerate_from 1 (lines input)) =
    length-filter (λ (line : ℕ × List ℕ). not (is_skipped line.1)) (enumerate_from 1 (lines input)) in
    let some : count_by (λ (line : ℕ × List ℕ). not (is_skipped line.1)) (enumerate_from 1 (lines input)) ≤ length (enumerate_from 1 (lines input)) =
    count_by-le-length (λ (line : ℕ × List ℕ). not (is_skipped line.1)) (enumerate_from 1 (lines input)) in
    let all : length (enumerate_from 1 (lines input)) ≡ length (lines input) = length-enumerate_from 1 (lines input) in
    let parts : length (lines input) ≤ length (slice_split (λ b. b == 10) input) = parts_few (slice_split (λ b. b == 10) input) in
    let split : length (slice_split (λ b. b == 10) input) ≡ count_by (λ b. b == 10) input + 1 = length-slice_split (λ b. b == 10) input in
    let feeds : count_by (λ b. b == 10) input ≤ length input = count_by-le-length (λ b. b == 10) input in
    omega (arith, kept, some, all, parts, split, feeds)

-- a limit that is not reached
pub below : (limit n : ℕ) → n ≤ limit → min n limit ≡ n
below limit n few = omega arith
