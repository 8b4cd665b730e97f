use Rattle.std.proofs.Common.{◌≡◌, ℕ, ◌≤◌, List, ◌++◌, ap, arith, length, length-append, sym, take, ◌∙◌}
use Rattle.std.proofs.Math.Seq.{take-append_seam}
use Rattle.std.proofs.lemmas.List.{take-take}
use Rattle.std.proofs.lemmas.Result.{on_err_weaker}
use Rattle.std.specs.Io.{StartsWith}
use Rattle.domain_cmds.proofs.text.push_changes.Goals as goal

-- what begins with a text begins with what that one begins with
front_of : (new mid old rest : List ℕ) → mid ≡ old ++ rest → StartsWith new mid → StartsWith new old
front_of new mid old rest is front =
    let long : length old ≤ length mid = omega (arith, ap (λ (l : List ℕ). length l) is, length-append old rest) in
    sym (take-take (length old) (length mid) new long) ∙ ap (take (length old)) (front ∙ is) ∙ take-append_seam old rest

pub returns-clause-err : goal.returns-clause-err
returns-clause-err c =
    let begun : List ℕ = c.extend_from_slice.new.self.items in
    let changed : List ℕ = c.push_all_changes.new.out.items in
    let all : List ℕ = c.push_stills.new.out.items in
    on_err_weaker c.push_stills.result
    (λ front. front_of all begun c.args.out.now.items _ c.in_ok-extend_from_slice.ensures.items
    (front_of all changed begun _ c.in_ok-push_all_changes.ensures.ok front))
    c.push_stills.ensures.err
