-- A pass looks, and looks again.
use Rattle.std.proofs.Common.{◌∙◌, sym, ap, refl, List, [], ◌++◌, append_assoc, append-nil, arith}
use Rattle.route_history.specs.declared.entry.Entry.{Entry}
use Rattle.history_saver.specs.Looking.{Looks}
use Rattle.slot_lock.specs.Passes.{IsPassOf, PassView, RouterView}

pub looks_same : (r : RouterView) (p : PassView) → IsPassOf r p → Looks r p p
looks_same r p of = record {
  of = of;
  own = λ x. x;
  legal = λ x. x;
  begins = record { rest = []; is = sym (append-nil p.fragment.seen) };
  mine = refl;
  failed_tries = omega arith;
  shares = refl;
}

pub looks_both : (r : RouterView) (a b c : PassView) → Looks r a b → Looks r b c → Looks r a c
looks_both r a b c g h = record {
  of = h.of;
  own = λ x. h.own (g.own x);
  legal = λ x. h.legal (g.legal x);
  begins = record {
    rest = g.begins.rest ++ h.begins.rest;
    is = h.begins.is ∙ ap (λ (l : List Entry). l ++ h.begins.rest) g.begins.is ∙ append_assoc a.fragment.seen g.begins.rest h.begins.rest;
  };
  mine = h.mine ∙ g.mine;
  failed_tries = omega (arith, g.failed_tries, h.failed_tries);
  shares = h.shares ∙ g.shares;
}
