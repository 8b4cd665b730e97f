-- The members, each after those before it.
use Rattle.domain_reports.proofs.domain.domain_value.Goals as goal

pub returns : goal.returns
returns c =
    let failures = c.try_member.ensures _ _ c.new.ensures c.failures_value.ensures in
    let filters = c.try_member-2.ensures _ _ failures c.filters_value.ensures in
    let links = c.try_member-3.ensures _ _ filters c.links_value.ensures in
    let prefixes = c.try_member-4.ensures _ _ links c.texts_value.ensures in
    let reach = c.try_member-5.ensures _ _ prefixes c.reach_value.ensures in
    let size = c.member.ensures _ _ reach c.from.ensures in
    let tables = c.try_member-6.ensures _ _ size c.tables_value.ensures in
    c.finish.ensures _ tables
