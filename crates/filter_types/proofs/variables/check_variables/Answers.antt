use Rattle.std.proofs.Common.{◌≡◌, ◌<◌, ◌≤◌, Some, length, map, take, ap, inl, inr, refl, subst, ◌∙◌, arith}
use Rattle.std.specs.Prelude.{slice_get}
use Rattle.std.proofs.lemmas.List.{length-take-le}
use Rattle.std.proofs.lemmas.Option.{slice_get_read}
use Rattle.std.proofs.lemmas.List.{length-map, take_all}
use Rattle.filter_syntax.specs.SyntaxCommands.{view_decl}
use Rattle.filter_syntax.specs.Surroundings.{variable_limit}
use Rattle.filter_types.specs.Kinds.{AreDeclaredOnce, number_of}
use Rattle.filter_types.proofs.Names.{earlier, once_next, twice}
use Rattle.filter_types.proofs.variables.check_variables.Goals as goal

pub returns-then-number_of-number-clause-judged : goal.returns-then-number_of-number-clause-judged
returns-then-number_of-number-clause-judged c _ declared =
    let is : c.number_of.result
    ≡ number_of (map view_decl (take c.loop-number.number c.args.variables.now)) c.index-variables-number.result.name.items =
    c.number_of.ensures.value ∙ ap (number_of (map view_decl (take c.loop-number.number c.args.variables.now))) c.deref.ensures.value in
    twice c.args.variables.now c.loop-number.number c.index-variables-number.result c.loop-number-test.true
    c.index-variables-number.is (subst (λ n. n < c.loop-number.number) is c.if-number_of-number.true) declared.once

pub loop-number-preserved : goal.loop-number-preserved
loop-number-preserved c =
    let is : c.number_of.result
    ≡ number_of (map view_decl (take c.loop-number.number c.args.variables.now)) c.index-variables-number.result.name.items =
    c.number_of.ensures.value ∙ ap (number_of (map view_decl (take c.loop-number.number c.args.variables.now))) c.deref.ensures.value in (
      once_next c.args.variables.now c.loop-number.number c.index-variables-number.result c.loop-number-test.true
          c.index-variables-number.is c.loop-number.invariant.0 (subst (λ n. c.loop-number.number ≤ n) is c.if-number_of-number.false),
      let high : c.loop-number.number ≤ variable_limit = c.loop-number.invariant.1 in let other = c.if-number-eq-VARIABLE_LIMIT.false in
          omega arith,
    )

pub returns-clause-judged : goal.returns-clause-judged
returns-clause-judged c =
    let all : take c.loop-number.number c.args.variables.now ≡ c.args.variables.now =
    take_all _ _ (omega (arith, c.loop-number-test.false)) in
    record {
      once = subst (λ l. AreDeclaredOnce (map view_decl l)) all c.loop-number.invariant.0;
      few = omega (
        arith,
        length-map c.args.variables.now view_decl,
        c.loop-number.invariant.1,
        c.loop-number-test.false,
        c.loop-number.auto.number-end,
      );
    }

pub returns-then-number_of-number-clause-fault : goal.returns-then-number_of-number-clause-fault
returns-then-number_of-number-clause-fault c =
    let vs = c.args.variables.now in
    let i = c.loop-number.number in
    let v = c.index-variables-number.result in
    let is : c.number_of.result ≡ number_of (map view_decl (take i vs)) v.name.items =
    c.number_of.ensures.value ∙ ap (number_of (map view_decl (take i vs))) c.deref.ensures.value in
    let low : i < length vs = c.loop-number-test.true in
    let below : number_of (map view_decl (take i vs)) v.name.items < i = subst (λ n. n < i) is c.if-number_of-number.true in
    inl (record {
      index = i;
      variable = v;
      is = slice_get_read vs (length vs) i v refl low c.index-variables-number.is;
      earlier = earlier (take i vs) v (omega (arith, below, length-take-le i vs (omega (arith, low))));
      is_said = refl;
    })

pub returns-then-number-eq-VARIABLE_LIMIT-clause-fault : goal.returns-then-number-eq-VARIABLE_LIMIT-clause-fault
returns-then-number-eq-VARIABLE_LIMIT-clause-fault c =
    let vs = c.args.variables.now in
    let v = c.index-variables-number.result in
    let read : slice_get vs c.loop-number.number ≡ Some v =
    slice_get_read vs (length vs) c.loop-number.number v refl c.loop-number-test.true c.index-variables-number.is in
    inr (v, subst (λ n. slice_get vs n ≡ Some v) c.if-number-eq-VARIABLE_LIMIT.true read, refl)
