use Rattle.std.proofs.Common.{refl, ap, sym, ◌∙◌}
use Rattle.filter_syntax.specs.Syntax.{view}
use Rattle.filter_types.proofs.Views.{view_binary, view_chain, view_grouped, view_suffixed}
use Rattle.filter_compiler.specs.Translation.{sets_of}
use Rattle.filter_compiler.proofs.Gathering.{as_sets, chain_gathers, gathers_then, suffixes_sets}
use Rattle.filter_compiler.proofs.Views.{view_member}
use Rattle.filter_compiler.proofs.sets.+gathering.Goals as goal

pub gather-returns-in-Binary : goal.gather-returns-in-Binary
gather-returns-in-Binary t c =
    as_sets (ap sets_of (sym (view_binary c.args.expr.now c.in-Binary.parts c.deref-in-Binary.result.now c.in-Binary.is c.deref-in-Binary.ensures)))
    c.gather_binary.ensures

pub gather-returns-in-GroupedBinary : goal.gather-returns-in-GroupedBinary
gather-returns-in-GroupedBinary t c =
    as_sets (ap sets_of (sym (view_grouped c.args.expr.now c.in-GroupedBinary.field-0 c.in-GroupedBinary.parts c.deref-in-GroupedBinary.result.now
    c.in-GroupedBinary.is c.deref-in-GroupedBinary.ensures)))
    c.gather_binary-in-GroupedBinary.ensures

pub gather_binary-returns : goal.gather_binary-returns
gather_binary-returns t c = gathers_then c.gather.ensures c.gather-2.ensures

pub gather-returns-in-Chain : goal.gather-returns-in-Chain
gather-returns-in-Chain t c =
    let is = view_chain c.args.expr.now c.in-Chain.first c.in-Chain.more c.deref-in-Chain.result.now c.deref-in-Chain-2.result.now c.in-Chain.is
    c.deref-in-Chain.ensures c.deref-in-Chain-2.ensures.value in
    as_sets (ap sets_of (sym is))
    (c.gather_chain.ensures c.args.lists.now (view c.deref-in-Chain.result.now) c.gather-in-Chain.ensures)

pub gather-returns-in-Member : goal.gather-returns-in-Member
gather-returns-in-Member t c =
    let is = view_member c.args.expr.now c.in-Member.field-0 c.in-Member.left c.in-Member.set c.deref-in-Member.result.now c.in-Member.is
    c.deref-in-Member.ensures in
    as_sets (ap sets_of (sym is)) (gathers_then c.gather-in-Member.ensures c.gather_members.ensures)

pub gather-returns-in-Suffixed : goal.gather-returns-in-Suffixed
gather-returns-in-Suffixed t c =
    let is = view_suffixed c.args.expr.now c.in-Suffixed.inner c.in-Suffixed.field-1 c.deref-in-Suffixed.result.now c.in-Suffixed.field-1.items
    c.in-Suffixed.is c.deref-in-Suffixed.ensures refl in
    as_sets (sym (ap sets_of is ∙ suffixes_sets (view c.deref-in-Suffixed.result.now) c.in-Suffixed.field-1.items)) c.gather-in-Suffixed.ensures

pub gather_chain-loop-right-preserved : goal.gather_chain-loop-right-preserved
gather_chain-loop-right-preserved t c =
    λ before first h.
    chain_gathers first c.args.more.now c.loop-right.right-index c.loop-right-item.result c.loop-right-test.true c.loop-right-item.is
    (c.loop-right.invariant before first h) c.gather.ensures
