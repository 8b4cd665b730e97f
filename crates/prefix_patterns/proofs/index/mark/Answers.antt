use Rattle.std.proofs.Common.{◌≡◌, ℕ, ◌<◌, ◌≤◌, Bool, true, List, length, take, get_or, ap, ◌∙◌, arith}
use Rattle.std.proofs.lemmas.List.{length-set, length-take-le}
use Rattle.prefix_patterns.specs.Trees.{index_of}
use Rattle.prefix_patterns.proofs.Marks.{index_within, one_marked}
use Rattle.prefix_patterns.proofs.index.mark.Goals as goal

-- the first bits of a pattern have their place among the marks
placed : (bits first : List Bool) (len at : ℕ) → len ≤ 8 → len ≤ length bits → first ≡ bits → at ≡ index_of (take len first) →
    (at ≡ index_of (take len bits)) × (at < 512)
placed bits first len at few within same is =
    let place : at ≡ index_of (take len bits) = is ∙ ap (λ b. index_of (take len b)) same in
    let below = index_within (take len bits) (omega (arith, length-take-le len bits within)) in
    (place, omega (arith, place, below))

pub bounds-marks-heap_index : goal.bounds-marks-heap_index
bounds-marks-heap_index c =
    let p = c.args.pattern.now in
    let len = c.loop-len.len in
    let few : len ≤ 8 = omega (arith, c.min-len-end.ensures) in
    let (place, below) = placed p.bits c.prefix-prefix.result len c.heap_index.result few (omega (arith, c.requires.long))
    c.prefix-prefix.ensures c.heap_index.ensures in
    omega (arith, below, c.loop-len.invariant.count)

pub loop-len-preserved : goal.loop-len-preserved
loop-len-preserved c =
    let marks = c.loop-len.marks in
    let p = c.args.pattern.now in
    let len = c.loop-len.len in
    let inv = c.loop-len.invariant in
    let few : len ≤ 8 = omega (arith, c.min-len-end.ensures) in
    let within : len ≤ length p.bits = omega (arith, c.requires.long) in
    let order : p.low ≤ len = omega (arith, c.low-len.ensures) in
    let (place, below) = placed p.bits c.prefix-prefix.result len c.heap_index.result few within
    c.prefix-prefix.ensures c.heap_index.ensures in
    record {
      count = length-set marks c.heap_index.result true ∙ inv.count;
      marked = λ w d small.
          one_marked marks p p.low len c.heap_index.result order within place (omega (arith, below, inv.count)) w d
          (get_or c.args.marks.now (index_of w) d) (inv.marked w d small);
    }
