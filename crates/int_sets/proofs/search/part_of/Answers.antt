use Rattle.std.proofs.Common.{◌+◌, ◌*◌, get_or, refl, arith}
use Rattle.int_sets.proofs.Searching.{low_at, part_begun, part_later}
use Rattle.int_sets.proofs.search.part_of.Goals as goal

pub returns-clause-begun : goal.returns-clause-begun
returns-clause-begun c = λ some d.
    let ranges = c.args.ranges.now in
    let base = c.args.base in
    let part = c.args.part in
    let first = low_at ranges base part 1 _ c.index-ranges-base.result d c.index-ranges-base.is (omega arith) (omega arith) in
    let second = low_at ranges base part 2 _ c.index-ranges-base-2.result d c.index-ranges-base-2.is (omega arith) (omega arith) in
    let third = low_at ranges base part 3 _ c.index-ranges-base-3.result d c.index-ranges-base-3.is (omega arith) (omega arith) in
    part_begun c.args.number _ c.begins_by.result c.begins_by-2.result c.begins_by-3.result (λ k. (get_or ranges (base + part * k) d).low) refl
    (c.requires.rising.low (base + part * 1) (base + part * 2) d (omega arith) (omega arith))
    (c.requires.rising.low (base + part * 2) (base + part * 3) d (omega arith) (omega arith))
    c.begins_by.ensures.limit c.begins_by-2.ensures.limit c.begins_by-3.ensures.limit
    (rw first c.begins_by.ensures.begun) (rw second c.begins_by-2.ensures.begun) (rw third c.begins_by-3.ensures.begun)
    (rw first c.begins_by.ensures.later) (rw second c.begins_by-2.ensures.later) some

pub returns-clause-later : goal.returns-clause-later
returns-clause-later c = λ some d.
    let ranges = c.args.ranges.now in
    let base = c.args.base in
    let part = c.args.part in
    let first = low_at ranges base part 1 _ c.index-ranges-base.result d c.index-ranges-base.is (omega arith) (omega arith) in
    let second = low_at ranges base part 2 _ c.index-ranges-base-2.result d c.index-ranges-base-2.is (omega arith) (omega arith) in
    let third = low_at ranges base part 3 _ c.index-ranges-base-3.result d c.index-ranges-base-3.is (omega arith) (omega arith) in
    part_later c.args.number _ c.begins_by.result c.begins_by-2.result c.begins_by-3.result (λ k. (get_or ranges (base + part * k) d).low) refl
    (c.requires.rising.low (base + part * 1) (base + part * 2) d (omega arith) (omega arith))
    (c.requires.rising.low (base + part * 2) (base + part * 3) d (omega arith) (omega arith))
    c.begins_by.ensures.limit c.begins_by-2.ensures.limit c.begins_by-3.ensures.limit
    (rw second c.begins_by-2.ensures.begun) (rw third c.begins_by-3.ensures.begun)
    (rw first c.begins_by.ensures.later) (rw second c.begins_by-2.ensures.later) (rw third c.begins_by-3.ensures.later) some
