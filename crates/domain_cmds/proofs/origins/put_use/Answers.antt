-- The first that is used there, or one more.
use Rattle.std.proofs.Common.{◌≡◌, ◌<◌, ◌≤◌, List, [], ◌∷◌, ◌++◌, All, length, get_or, slice_set, false, sym, ap, subst, ◌∙◌, arith, take_all}
use Rattle.std.proofs.lemmas.List.{get_or_default}
use Rattle.std.proofs.lemmas.List.Elements.{All-more}
use Rattle.domain_cmds.specs.Origins.{is_use_of}
use Rattle.domain_cmds.specs.declared.origins.Use.{Use}
use Rattle.domain_cmds.proofs.Placing.{put_at, put_behind}
use Rattle.domain_cmds.proofs.origins.put_use.Goals as goal

pub returns-then-is_use_of-clause-ok : goal.returns-then-is_use_of-clause-ok
returns-then-is_use_of-clause-ok c =
    let new = c.args.new in
    let uses = c.args.uses.now.items in
    let it = c.loop-it.it in
    let short : it < length uses = omega (arith, c.loop-it-test.true, c.len-it-end.ensures, c.args.uses.now.ok.0) in
    let known : c.index.result.now ≡ get_or uses it new =
    c.index.ensures ∙ ap (λ (l : List Use). get_or l it c.index.result.now) c.loop-it.invariant.same
    ∙ get_or_default uses it c.index.result.now new short in
    put_at new uses (slice_set c.loop-it.uses.items it new) it short
    (ap (is_use_of new.direction new.u new.w) (sym known) ∙ sym c.is_use_of.ensures ∙ c.if-is_use_of.true)
    c.loop-it.invariant.before (ap (λ (l : List Use). slice_set l it new) c.loop-it.invariant.same)

pub loop-it-preserved : goal.loop-it-preserved
loop-it-preserved c =
    let new = c.args.new in
    let uses = c.args.uses.now.items in
    let it = c.loop-it.it in
    let short : it < length uses = omega (arith, c.loop-it-test.true, c.len-it-end.ensures, c.args.uses.now.ok.0) in
    let known : c.index.result.now ≡ get_or uses it new =
    c.index.ensures ∙ ap (λ (l : List Use). get_or l it c.index.result.now) c.loop-it.invariant.same
    ∙ get_or_default uses it c.index.result.now new short in
    record {
      before = All-more (λ (k : Use). is_use_of new.direction new.u new.w k ≡ false) uses it new short c.loop-it.invariant.before
          (ap (is_use_of new.direction new.u new.w) (sym known) ∙ sym c.is_use_of.ensures ∙ c.if-is_use_of.false);
      same = c.loop-it.invariant.same;
    }

pub returns-clause-ok : goal.returns-clause-ok
returns-clause-ok c =
    let new = c.args.new in
    let uses = c.args.uses.now.items in
    let all : length uses ≤ c.loop-it.it = omega (arith, c.loop-it-test.false, c.len-it-end.ensures, c.args.uses.now.ok.0) in
    put_behind new uses c.push.new.self.items
    (subst (All (λ (k : Use). is_use_of new.direction new.u new.w k ≡ false)) (take_all c.loop-it.it uses all) c.loop-it.invariant.before)
    (c.in_ok-push.ensures.items ∙ ap (λ (l : List Use). l ++ new ∷ []) c.loop-it.invariant.same)
