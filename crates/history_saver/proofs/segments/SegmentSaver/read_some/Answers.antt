use Rattle.std.proofs.Common.{◌≡◌, ◌∙◌, ap, arith, subst, sym}
use Rattle.history_saver.specs.Looking.{seen_by}
use Rattle.history_saver.specs.Segments.{HasSegments, SegmentsView}
use Rattle.history_saver.proofs.Rotating.{due_of, left_out_of}
use Rattle.history_saver.proofs.Turns.{reads_on, shown, state_of, still_has}
use Rattle.history_saver.proofs.segments.SegmentSaver.read_some.Goals as goal

pub note_read-requires : goal.note_read-requires
note_read-requires g c =
    let seen = c.observe_with_right.ensures in
    let all = c.requires.all.all in
    let portion = shown c.args.router.now c.args.right.now c.observe_with_right.new.right c.args.self.now _ _ _ _ c.in-Some.portion c.self.view_is
    seen.observed.saw seen.exact c.requires.none_missed all (sym c.portion.ensures ∙ c.in-Some.is) in
    let count = portion.count in
    omega (arith, count, all)

pub returns-in-Some-clause-only : goal.returns-in-Some-clause-only
returns-in-Some-clause-only g c =
    let seen = c.observe_with_right.ensures in
    let portion = shown c.args.router.now c.args.right.now c.observe_with_right.new.right c.args.self.now _ _ _ _ c.in-Some.portion c.self.view_is
    seen.observed.saw seen.exact c.requires.none_missed c.requires.all.all (sym c.portion.ensures ∙ c.in-Some.is) in
    let noted = c.note_read.ensures.noted in
    let count = portion.count in
    let read = ap (λ (v : SegmentsView). v.read) noted in record {
      plan = record {
        every = ap (λ (v : SegmentsView). v.every) noted;
        keep = ap (λ (v : SegmentsView). v.keep) noted;
        back = ap (λ (v : SegmentsView). v.back) noted;
      };
      begun = ap (λ (v : SegmentsView). v.begun) noted;
      saved = ap (λ (v : SegmentsView). v.saved) noted;
      on = omega (arith, count, read);
    }

pub returns-in-Some-clause-saved : goal.returns-in-Some-clause-saved
returns-in-Some-clause-saved g c =
    let new = c.observe_with_right.new.right in
    let seen = c.observe_with_right.ensures in
    let portion = shown c.args.router.now c.args.right.now new c.args.self.now _ _ _ _ c.in-Some.portion c.self.view_is
    seen.observed.saw seen.exact c.requires.none_missed c.requires.all.all (sym c.portion.ensures ∙ c.in-Some.is) in
    subst (λ (v : SegmentsView). HasSegments v (seen_by c.args.router.now new)) (sym c.note_read.ensures.noted)
    (reads_on c.args.router.now c.args.right.now new seen.observed.begins c.args.self.now c.requires.saved
    c.in-Some.portion _ _ c.requires.all.none_left portion)

pub returns-in-Some-clause-count : goal.returns-in-Some-clause-count
returns-in-Some-clause-count g c =
    let seen = c.observe_with_right.ensures in
    let portion = shown c.args.router.now c.args.right.now c.observe_with_right.new.right c.args.self.now _ _ _ _ c.in-Some.portion c.self.view_is
    seen.observed.saw seen.exact c.requires.none_missed c.requires.all.all (sym c.portion.ensures ∙ c.in-Some.is) in
    ap (λ (v : SegmentsView). v.read) c.note_read.ensures.noted ∙ portion.count

pub returns-in-Some-clause-state : goal.returns-in-Some-clause-state
returns-in-Some-clause-state g c =
    let new = c.observe_with_right.new.right in
    let seen = c.observe_with_right.ensures in
    let portion = shown c.args.router.now c.args.right.now new c.args.self.now _ _ _ _ c.in-Some.portion c.self.view_is
    seen.observed.saw seen.exact c.requires.none_missed c.requires.all.all (sym c.portion.ensures ∙ c.in-Some.is) in
    state_of c.args.router.now new c.note_read.new.self c.in-Some.portion c.note_read.result
    (sym (ap (λ (v : SegmentsView). v.read) c.note_read.ensures.noted)) c.note_read.ensures.state c.args.self.now.read _ _ portion

pub returns-in-None-clause-saved : goal.returns-in-None-clause-saved
returns-in-None-clause-saved g c =
    still_has c.args.router.now c.args.right.now c.observe_with_right.new.right c.observe_with_right.ensures.observed.begins c.args.self.now
    c.requires.saved

pub returns-in-Some-clause-due : goal.returns-in-Some-clause-due
returns-in-Some-clause-due g c =
    let new = c.observe_with_right.new.right in
    let seen = c.observe_with_right.ensures in
    let portion = shown c.args.router.now c.args.right.now new c.args.self.now _ _ _ _ c.in-Some.portion c.self.view_is
    seen.observed.saw seen.exact c.requires.none_missed c.requires.all.all (sym c.portion.ensures ∙ c.in-Some.is) in
    let every = ap (λ (v : SegmentsView). v.every) c.self.view_is in
    due_of (seen_by c.args.router.now new) c.args.self.now c.note_read.new.self c.in-Some.portion c.note_read.result c.args.self.now.read _ _
    (sym (ap (λ (v : SegmentsView). v.read) c.note_read.ensures.noted)) c.note_read.ensures.state (ap (λ (v : SegmentsView). v.begun) c.self.view_is)
    (omega (arith, every)) portion

pub returns-in-Some-clause-left_out : goal.returns-in-Some-clause-left_out
returns-in-Some-clause-left_out g c =
    let new = c.observe_with_right.new.right in
    let seen = c.observe_with_right.ensures in
    let portion = shown c.args.router.now c.args.right.now new c.args.self.now _ _ _ _ c.in-Some.portion c.self.view_is
    seen.observed.saw seen.exact c.requires.none_missed c.requires.all.all (sym c.portion.ensures ∙ c.in-Some.is) in
    let every = ap (λ (v : SegmentsView). v.every) c.self.view_is in
    left_out_of (seen_by c.args.router.now new) c.args.self.now c.note_read.new.self c.in-Some.portion c.note_read.result c.args.self.now.read _ _
    (sym (ap (λ (v : SegmentsView). v.read) c.note_read.ensures.noted)) c.note_read.ensures.state (ap (λ (v : SegmentsView). v.begun) c.self.view_is)
    (omega (arith, every)) portion
