use Rattle.std.proofs.Common.{ℕ, List, [], Bor, get_or, map, take, arith}
use Rattle.std.proofs.lemmas.List.{take_all}
use Rattle.refusal_words.specs.declared.nearest.Near.{Near}
use Rattle.refusal_words.proofs.BestWord.{far_more, nearer_more, not_nearer_more, one_more}
use Rattle.refusal_words.proofs.nearest.nearest_word.Goals as goal
use Rattle.refusal_words.proofs.nearest.nearest_word.Goals.{then-near-word+then-is_nearer, else-near-word}
use Rattle.refusal_words.proofs.nearest.nearest_word.Goals.{else-near-word-via-then-near-word+else-is_nearer}
use Rattle.refusal_words.proofs.nearest.nearest_word.Goals.{else-near-word-via-else-near-word}

pub loop-candidate-preserved : goal.loop-candidate-preserved
loop-candidate-preserved c =
    let word = c.args.word.now in
    let i = c.loop-candidate.candidate-index in
    let passed = map (λ other. other.now) (take i c.args.known.now) in
    let known = c.loop-candidate.invariant in
    let distance = c.in_ok-osa_distance.ensures.value in
    let none : Bor (List ℕ) = record { ref_ptr = (0, 0); now = [] } in
    let new : Near = record { word = get_or c.args.known.now i none; distance = c.in_ok-osa_distance.field-0 } in
    let more = one_more c.args.known.now i none c.loop-candidate-test.true in
    elim c.if-near-word.branch [
      | then-near-word+then-is_nearer w ↦ rw (more, w.best-is)
          (nearer_more word passed c.loop-candidate.best new known distance (omega arith) (w.is_nearer.ensures.0 w.if-is_nearer.true))
      | else-near-word w ↦ rw (more, w.best-is) (elim w.else-near-word.branch [
        | else-near-word-via-then-near-word+else-is_nearer w' ↦
            not_nearer_more word passed c.loop-candidate.best _ _ known distance (λ less. let t = w'.is_nearer.ensures.1 less in let f = w'.if-is_nearer.false in cc)
        | else-near-word-via-else-near-word w' ↦ far_more word passed c.loop-candidate.best _ known (omega arith)
      ])
    ]

pub returns-in-None : goal.returns-in-None
returns-in-None c =
    let h = c.loop-candidate.invariant in
    let known = c.args.known.now in
    let all = take_all c.loop-candidate.candidate-index known (omega arith) in
    rw (c.in-None.is, all) at h
