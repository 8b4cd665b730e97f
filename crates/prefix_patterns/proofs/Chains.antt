-- Chains of patterns.
use Rattle.std.proofs.Common.{◌≡◌, ℕ, ◌+◌, ◌-◌, ◌<◌, ◌≤◌, ◌==◌, true, false, cond, Some, List, [], ◌∷◌, ◌++◌, length, filter, reverse}
use Rattle.std.proofs.Common.{refl, sym, ap, ◌∙◌, arith, slice_get, get_or, set, take, append-nil, inl, inr}
use Rattle.std.proofs.lemmas.Bool.Decides.{nat_tests}
use Rattle.std.proofs.lemmas.List.{length-append, get_or_at, get_or_read_under, get_or-set_same, get_or-set_other, reverse-append}
use Rattle.std.proofs.lemmas.List.Elements.{filter_more}
use Rattle.std.proofs.lemmas.Option.{slice_get_read, slice_get_within}
use Rattle.std.proofs.Math.ListN.{get_or-append}
use Rattle.std.proofs.lemmas.Bool.{cases_eq}
use Rattle.prefix_patterns.specs.Matching.{PrefixPattern}
use Rattle.prefix_patterns.specs.Trees.{bucket, in_bucket}
use Rattle.prefix_patterns.specs.Index.{IsChain}

-- the first pattern of a chain, at an index, and the chain after it
pub record IsStep (patterns : List PrefixPattern) (next : List ℕ) (index : ℕ) (chain : List PrefixPattern) : Type 0 where
  pub first : PrefixPattern
  pub rest : List PrefixPattern
  pub is : chain ≡ first ∷ rest
  pub there : slice_get patterns index ≡ Some first
  pub inside : index < length patterns
  pub within : index < length next
  pub back : get_or next index 0 ≤ index
  pub goes_on : IsChain patterns next (get_or next index 0) rest

pub step_at : (patterns : List PrefixPattern) (next : List ℕ) (at index : ℕ) (chain : List PrefixPattern) → 0 < at →
    index ≡ at - 1 → IsChain patterns next at chain → IsStep patterns next index chain
step_at patterns next at index [] some before h = absurd (omega arith)
step_at patterns next at index (p ∷ rest) some before (here, e, there, within, back, goes_on) =
    let same : here ≡ index = omega arith in
    let found : slice_get patterns index ≡ Some p = rw same at there in
    record {
      first = p;
      rest = rest;
      is = refl;
      there = found;
      inside = slice_get_within patterns index p found;
      within = omega arith;
      back = rw same at back;
      goes_on = rw same at goes_on;
    }

-- the link that was read
pub read_link : (next : List ℕ) (index link : ℕ) → link ≡ get_or next index link → index < length next → link ≡ get_or next index 0
read_link next index link is within = get_or_read_under next index (length next) link 0 is within refl

-- a chain begins at a place of the list
pub head_within : (patterns : List PrefixPattern) (next : List ℕ) (at : ℕ) (chain : List PrefixPattern) →
    IsChain patterns next at chain → at ≤ length next
head_within patterns next at [] h = omega arith
head_within patterns next at (p ∷ rest) (index, e, there, within, back, goes_on) = omega arith

-- a chain stays when the list grows
pub chain_longer : (patterns : List PrefixPattern) (next more : List ℕ) (at : ℕ) (chain : List PrefixPattern) →
    IsChain patterns next at chain →
    IsChain patterns (next ++ more) at chain
chain_longer patterns next more at [] h = h
chain_longer patterns next more at (p ∷ rest) (index, e, there, within, back, goes_on) =
    let same : get_or (next ++ more) index 0 ≡ get_or next index 0 = get_or-append next more 0 index within in (
      index,
      e,
      there,
      omega (arith, length-append next more),
      rw same back,
      rw same (chain_longer patterns next more (get_or next index 0) rest goes_on),
    )

-- a chain that begins nowhere has no patterns
pub over : (patterns : List PrefixPattern) (next : List ℕ) (at : ℕ) (chain : List PrefixPattern) → at ≤ 0 →
    IsChain patterns next at chain → chain ≡ []
over patterns next at [] none h = refl
over patterns next at (p ∷ rest) none (index, e, there, within, back, goes_on) = absurd (omega arith)

-- one more pattern, in the bucket or not
module _ (patterns : List PrefixPattern) (at k : ℕ) (p : PrefixPattern) (within : at < length patterns)
    (is : p ≡ get_or patterns at p) where
  more : filter (λ q. bucket q == k) (take (at + 1) patterns)
      ≡ filter (λ q. bucket q == k) (take at patterns) ++ cond (bucket p == k) (p ∷ []) []
  more =
      filter_more (λ q. bucket q == k) patterns at p within
      ∙ ap (λ q. filter (λ r. bucket r == k) (take at patterns) ++ cond (bucket q == k) (q ∷ []) []) (sym is)

  pub one_more : (bucket p == k) ≡ true → in_bucket k (take (at + 1) patterns) ≡ p ∷ in_bucket k (take at patterns)
  one_more here =
      ap reverse (more ∙ ap (λ b. filter (λ q. bucket q == k) (take at patterns) ++ cond b (p ∷ []) []) here)
      ∙ reverse-append (filter (λ q. bucket q == k) (take at patterns)) (p ∷ [])

  pub none_more : (bucket p == k) ≡ false → in_bucket k (take (at + 1) patterns) ≡ in_bucket k (take at patterns)
  none_more elsewhere =
      ap reverse (more ∙ ap (λ b. filter (λ q. bucket q == k) (take at patterns) ++ cond b (p ∷ []) []) elsewhere
      ∙ append-nil (filter (λ q. bucket q == k) (take at patterns)))

is_here : (p : PrefixPattern) (b k : ℕ) → bucket p ≡ b → k ≡ b → (bucket p == k) ≡ true
is_here p b k e same = grind (arith, nat_tests)

is_elsewhere : (p : PrefixPattern) (b k : ℕ) → bucket p ≡ b → (k ≡ b → ⊥) → (bucket p == k) ≡ false
is_elsewhere p b k e other = grind (arith, nat_tests)

-- the chains of the patterns so far, and of one more
pub chains_more : (patterns : List PrefixPattern) (heads next longer : List ℕ) (at b head : ℕ) (p : PrefixPattern) → at < length patterns →
    p ≡ get_or patterns at p → length next ≡ at → length heads ≡ 257 → b ≡ bucket p → b ≤ 256 → head ≡ get_or heads b 0 →
    longer ≡ next ++ head ∷ [] →
    ((k : ℕ) → k ≤ 256 → IsChain patterns next (get_or heads k 0) (in_bucket k (take at patterns))) →
    (k : ℕ) → k ≤ 256 → IsChain patterns longer (get_or (set heads b (at + 1)) k 0) (in_bucket k (take (at + 1) patterns))
chains_more patterns heads next longer at b head p within is count buckets here limit began grown so_far k below =
    elim (cases_eq k b) [
      | inl same ↦
          let first : get_or (set heads b (at + 1)) k 0 ≡ at + 1 = rw same (get_or-set_same heads b (at + 1) 0 (omega arith)) in
          let list = one_more patterns at k p within is (is_here p b k (sym here) same) in
          let last : get_or longer at 0 ≡ head = rw grown (get_or_at next head [] 0 at count) in
          let before = so_far b limit in
          let back : head ≤ at = rw began (rw count at (head_within patterns next (get_or heads b 0) (in_bucket b (take at patterns))
          before)) in
          let rest : IsChain patterns longer head (in_bucket k (take at patterns)) =
          rw (grown, began, same) (chain_longer patterns next (get_or heads b 0 ∷ []) (get_or heads b 0)
          (in_bucket b (take at patterns)) before) in
          rw (first, list) (
            at,
            refl,
            slice_get_read patterns (length patterns) at p refl within is,
            rw grown (omega (arith, length-append next (head ∷ []))),
            rw last back,
            rw last rest,
          )
      | inr other ↦
          let first : get_or (set heads b (at + 1)) k 0 ≡ get_or heads k 0 = get_or-set_other heads b k (at + 1) 0 other in
          let list = none_more patterns at k p within is (is_elsewhere p b k (sym here) other) in
          rw (first, list, grown) (chain_longer patterns next (head ∷ []) (get_or heads k 0) (in_bucket k (take at patterns))
          (so_far k below))
    ]
