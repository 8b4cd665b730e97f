use Rattle.std.proofs.Common.{◌≡◌, ℕ, ◌+◌, ◌<◌, ◌&&◌, ◌||◌, Bool, true, false, List, [], ◌∷◌, ◌++◌, length, take, drop, get_or}
use Rattle.std.proofs.Common.{replicate, refl, sym, ap, ◌∙◌, subst, arith}
use Rattle.std.specs.List.{list_any}
use Rattle.std.proofs.lemmas.List.{get_or-replicate, length-replicate, take_all, take_more}
use Rattle.std.proofs.lemmas.List.Folds.{list_any-append}
use Rattle.std.proofs.Math.Seq.{take-append_seam}
use Rattle.prefix_patterns.specs.Index.{AreMarks, is_long}
use Rattle.prefix_patterns.specs.Matching.{PrefixPattern}
use Rattle.prefix_patterns.specs.Trees.{hits, index_of}
use Rattle.prefix_patterns.proofs.Buckets.{long_is_long, short_is_not_long}
use Rattle.prefix_patterns.proofs.Marks.{index_within}
use Rattle.prefix_patterns.proofs.index.marks_of.Goals as goal
use Rattle.prefix_patterns.proofs.index.marks_of.Goals.{then-len-ge-BUCKET_BITS, else-len-ge-BUCKET_BITS}

pub loop-pattern-init : goal.loop-pattern-init
loop-pattern-init c =
    let none : c.in_ok-marks.marks.items ≡ replicate 512 false = c.in_ok-marks.ensures.items_if_clones_equal (λ y h. h) in
    record {
      count = ap length none ∙ length-replicate 512 false;
      marked = λ w d few. ap (λ xs. get_or xs (index_of w) d) none ∙ get_or-replicate 512 (index_of w) false d (index_within w few);
    }

-- whether a prefix matches one of the long patterns, with one more
abbrev test : List Bool → PrefixPattern → Bool
test w q = is_long q && hits w q

or_false : (a b : Bool) → (a || (b || false)) ≡ (a || b)
or_false true b = refl
or_false false true = refl
or_false false false = refl

one_more : (w : List Bool) (patterns : List PrefixPattern) (at : ℕ) (p : PrefixPattern) → at < length patterns → p ≡ get_or patterns at p →
    list_any (test w) (take (at + 1) patterns) ≡ (list_any (test w) (take at patterns) || test w p)
one_more w patterns at p within is =
    ap (list_any (test w)) (take_more patterns at p within)
    ∙ ap (λ q. list_any (test w) (take at patterns ++ q ∷ [])) (sym is)
    ∙ list_any-append (test w) (take at patterns) (p ∷ [])
    ∙ or_false (list_any (test w) (take at patterns)) (test w p)

none_or : (a : Bool) → a ≡ (a || false)
none_or true = refl
none_or false = refl

-- a pattern of 8 bits or more is marked, and another is not long
with_long : (w : List Bool) (patterns : List PrefixPattern) (at : ℕ) (p : PrefixPattern) (found : Bool) → at < length patterns →
    p ≡ get_or patterns at p → is_long p ≡ true → found ≡ (list_any (test w) (take at patterns) || hits w p) →
    found ≡ list_any (test w) (take (at + 1) patterns)
with_long w patterns at p found within is long so_far =
    so_far ∙ ap (λ b. list_any (test w) (take at patterns) || (b && hits w p)) (sym long) ∙ sym (one_more w patterns at p within is)

with_short : (w : List Bool) (patterns : List PrefixPattern) (at : ℕ) (p : PrefixPattern) (found : Bool) → at < length patterns →
    p ≡ get_or patterns at p → is_long p ≡ false → found ≡ list_any (test w) (take at patterns) →
    found ≡ list_any (test w) (take (at + 1) patterns)
with_short w patterns at p found within is short so_far =
    so_far ∙ none_or (list_any (test w) (take at patterns))
    ∙ ap (λ b. list_any (test w) (take at patterns) || (b && hits w p)) (sym short) ∙ sym (one_more w patterns at p within is)

-- a whole list that was written back
written_back : (old new : List Bool) (len : ℕ) → len ≡ length new → take len (new ++ drop (length new) old) ≡ new
written_back old new len e = rw e (take-append_seam new (drop (length new) old))

pub loop-pattern-preserved : goal.loop-pattern-preserved
loop-pattern-preserved c =
    let patterns = c.args.patterns.now in
    let at = c.loop-pattern.pattern-index in
    let old = c.loop-pattern.marks in
    let inv = c.loop-pattern.invariant in
    let p = c.pattern-item.result in
    let within : at < length patterns = omega arith in
    let bits : c.len.result ≡ length p.bits = c.len.ensures.bits ∙ ap length c.prefix.ensures in
    elim c.if-len-ge-BUCKET_BITS.branch [
      | then-len-ge-BUCKET_BITS w ↦
          let long = long_is_long p (omega (arith, bits, w.if-len-ge-BUCKET_BITS.true)) in
          let kept : length w.mark.new.marks ≡ length old.items = w.mark.auto.marks ∙ ap length w.as_mut_slice.ensures.value in
          let back = written_back old.items w.mark.new.marks old.len (omega (arith, kept, old.ok.0)) in
          let is = ap (λ v. v.items) w.marks-is ∙ back in
          record {
            count = ap length is ∙ kept ∙ inv.count;
            marked = λ prefix d few.
                with_long prefix patterns at p (get_or c.if-len-ge-BUCKET_BITS.marks.items (index_of prefix) d) within c.pattern-item.is long
                (ap (λ xs. get_or xs (index_of prefix) d) is ∙ w.mark.ensures prefix d few
                ∙ ap (λ xs. get_or xs (index_of prefix) d || hits prefix p) w.as_mut_slice.ensures.value
                ∙ ap (λ b. b || hits prefix p) (inv.marked prefix d few));
          }
      | else-len-ge-BUCKET_BITS w ↦
          let short = short_is_not_long p (omega (arith, bits, w.if-len-ge-BUCKET_BITS.false)) in
          let is = ap (λ v. v.items) w.marks-is in
          record {
            count = ap length is ∙ inv.count;
            marked = λ prefix d few.
                with_short prefix patterns at p (get_or c.if-len-ge-BUCKET_BITS.marks.items (index_of prefix) d) within c.pattern-item.is short
                (ap (λ xs. get_or xs (index_of prefix) d) is ∙ inv.marked prefix d few);
          }
    ]

pub returns : goal.returns
returns c =
    subst (AreMarks c.loop-pattern.marks.items) (take_all c.loop-pattern.pattern-index c.args.patterns.now (omega arith))
    c.loop-pattern.invariant
