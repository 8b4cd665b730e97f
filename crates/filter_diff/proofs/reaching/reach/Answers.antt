use Rattle.std.proofs.Common.{◌≡◌, ◌≤◌, ◌⊎◌, inr, Bool, true, false, List, [], length, map, replicate, ◌∙◌, ap, refl, sym, subst, arith}
use Rattle.std.proofs.lemmas.Grind.{common_steps}
use Rattle.std.proofs.lemmas.List.{length-replicate, with_items_is}
use Rattle.std.specs.Vec.{with_items}
use Rattle.filter_diff.specs.Marking.{AreAllMarked, AreSound, Extend, unmarked}
use Rattle.filter_diff.specs.Searches.{IsLeft, most_tried}
use Rattle.filter_diff.specs.Exploring.{AreExplored}
use Rattle.filter_diff.specs.declared.mark.Mark.{Mark}
use Rattle.filter_diff.proofs.Completed.{complete_all, marked_taken, reach_partly, reach_whole, sound_none}
use Rattle.filter_diff.proofs.Counted.{taken, tried_some}
use Rattle.filter_diff.proofs.Expected.{size_taken}
use Rattle.filter_diff.proofs.Marking.{extend_further, extend_self}
use Rattle.filter_diff.proofs.Explored.{none_explored}
use Rattle.filter_diff.proofs.reaching.reach.Goals as goal

pub loop-next-init : goal.loop-next-init
loop-next-init c =
    let are = c.in_ok-marks.ensures in
    let none : c.in_ok-explored.explored.items ≡ replicate (length c.args.watched.now) false = grind (arith, common_steps) in
    record {
      marked = λ route is_in. inr (c.in_ok-todo.ensures.all route is_in);
      real = c.in_ok-todo.ensures.real;
      tried = omega (arith, c.in_ok-todo.ensures.tried);
      more = subst (Extend (map unmarked c.args.watched.now)) (sym are) (extend_self (map unmarked c.args.watched.now));
      sound = subst (AreSound c.args.code.now c.args.size) (sym are) (sound_none c.args.code.now c.args.size c.args.watched.now);
      places = ap length none ∙ (length-replicate (length c.args.watched.now) false ∙ c.requires.watched);
      explored = subst (AreExplored c.args.code.now c.in_ok-marks.marks.items) (sym none)
          (none_explored c.args.code.now c.in_ok-marks.marks.items (length c.args.watched.now));
    }

pub returns-then-left-eq0-clause-found : goal.returns-then-left-eq0-clause-found
returns-then-left-eq0-clause-found c =
    reach_partly c.args.code.now c.args.size c.args.watched.now _ c.loop-next.marks.items refl refl c.requires.watched
    c.loop-next.invariant.more c.loop-next.invariant.sound

pub deal-requires-clause-real : goal.deal-requires-clause-real
deal-requires-clause-real c =
    let next = (size_taken c.args.size _ _ c.in-Some.next c.in-Some.ensures.items c.loop-next.invariant.real).1 in
    record { bits = next.bits; fits = next.fits; reachable = next.reachable }

pub returns-then-not-is_dealt-clause-found : goal.returns-then-not-is_dealt-clause-found
returns-then-not-is_dealt-clause-found c =
    let are = with_items_is c.loop-next.marks c.deal.new.marks (omega (arith, c.deal.ensures.more.long, c.deref_mut.ensures.len)) in
    reach_partly c.args.code.now c.args.size c.args.watched.now _ c.deal.new.marks refl are c.requires.watched
    (extend_further (map unmarked c.args.watched.now) c.loop-next.marks.items c.deal.new.marks c.loop-next.invariant.more
    (subst (λ (marks : List Mark). Extend marks c.deal.new.marks) c.deref_mut.ensures.value c.deal.ensures.more))
    (c.deal.ensures.sound (subst (AreSound c.args.code.now c.args.size) (sym c.deref_mut.ensures.value) c.loop-next.invariant.sound))

pub loop-next-preserved : goal.loop-next-preserved
loop-next-preserved c =
    let are = with_items_is c.loop-next.marks c.deal.new.marks (omega (arith, c.deal.ensures.more.long, c.deref_mut.ensures.len)) in
    let as_many : length c.deal.new.explored ≡ length c.deref_mut-in-Some.result.now = c.deal.auto.explored in
    let explored_are = with_items_is c.loop-next.explored c.deal.new.explored (omega (arith, as_many, c.deref_mut-in-Some.ensures.len)) in
    record {
      marked = λ route is_in.
          subst (λ (marks : List Mark). AreAllMarked c.args.code.now marks route ⊎ IsLeft route c.deal.new.todo.items) (sym are)
          (marked_taken c.args.code.now c.args.size route is_in _ _ c.deal.new.todo.items c.in-Some.next c.loop-next.marks.items
          c.deal.new.marks c.in-Some.ensures.items
          (subst (λ (marks : List Mark). Extend marks c.deal.new.marks) c.deref_mut.ensures.value c.deal.ensures.more)
          (c.in_ok-is_dealt.ensures.kept route) (c.in_ok-is_dealt.ensures.covered c.if-not-is_dealt.false route is_in)
          (c.loop-next.invariant.marked route is_in));
      tried =
          let before = taken c.args.size c.args.limit c.loop-next.left _ _ _ c.in-Some.next c.in-Some.ensures.items c.loop-next.invariant.tried in
          omega (arith, before, c.in_ok-is_dealt.ensures.tried c.if-not-is_dealt.false);
      real = c.in_ok-is_dealt.ensures.real (size_taken c.args.size _ _ c.in-Some.next c.in-Some.ensures.items c.loop-next.invariant.real).0;
      more = subst (Extend (map unmarked c.args.watched.now)) (sym are)
          (extend_further (map unmarked c.args.watched.now) c.loop-next.marks.items c.deal.new.marks c.loop-next.invariant.more
          (subst (λ (marks : List Mark). Extend marks c.deal.new.marks) c.deref_mut.ensures.value c.deal.ensures.more));
      sound = subst (AreSound c.args.code.now c.args.size) (sym are)
          (c.deal.ensures.sound (subst (AreSound c.args.code.now c.args.size) (sym c.deref_mut.ensures.value) c.loop-next.invariant.sound));
      places = ap length explored_are ∙ as_many ∙ ap length c.deref_mut-in-Some.ensures.value ∙ c.loop-next.invariant.places;
      explored = subst (λ (marks : List Mark). AreExplored c.args.code.now marks (with_items c.loop-next.explored c.deal.new.explored).items) (sym are)
          (subst (λ (places : List Bool). AreExplored c.args.code.now c.deal.new.marks places) (sym explored_are)
          c.in_ok-is_dealt.ensures.explored);
    }

pub returns-clause-found : goal.returns-clause-found
returns-clause-found c =
    let none : c.loop-next.todo.items ≡ [] = grind (arith, common_steps) in
    reach_whole c.args.code.now c.args.size c.args.watched.now _ c.loop-next.marks.items refl c.requires.watched c.loop-next.invariant.more
    c.loop-next.invariant.sound
    (complete_all c.args.code.now c.args.size c.loop-next.marks.items c.loop-next.todo.items none c.loop-next.invariant.marked)

pub returns-then-left-eq0-clause-decided : goal.returns-then-left-eq0-clause-decided
returns-then-left-eq0-clause-decided c enough never =
    let before = taken c.args.size c.args.limit c.loop-next.left _ _ _ c.in-Some.next c.in-Some.ensures.items c.loop-next.invariant.tried in
    let some : 1 ≤ most_tried c.args.size c.in-Some.next = tried_some c.args.size c.in-Some.next in
    absurd (omega (arith, before, some, enough.classes))

pub returns-then-not-is_dealt-clause-decided : goal.returns-then-not-is_dealt-clause-decided
returns-then-not-is_dealt-clause-decided c enough never =
    let dealt : c.in_ok-is_dealt.is_dealt ≡ true = c.in_ok-is_dealt.ensures.decided enough.smallest never in
    let not_dealt : c.in_ok-is_dealt.is_dealt ≡ false = c.if-not-is_dealt.true in
    let no : ⊥ = cc in
    absurd no
