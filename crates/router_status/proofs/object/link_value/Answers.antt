-- The members, each after those before it.
use Rattle.router_status.proofs.object.link_value.Goals as goal

pub returns : goal.returns
returns c =
    let ended = c.try_member.ensures _ _ c.new.ensures c.text_or_null.ensures in
    let export = c.try_member-2.ensures _ _ ended c.filter_or_null.ensures in
    let import = c.try_member-3.ensures _ _ export c.filter_or_null-2.ensures in
    let node = c.member.ensures _ _ import c.from.ensures in
    let received = c.member-2.ensures _ _ node c.from-2.ensures in
    let sent = c.member-3.ensures _ _ received c.from-3.ensures in
    let session = c.member-4.ensures _ _ sent (rw c.session_in.ensures at c.number_or_null.ensures) in
    let sessions = c.member-5.ensures _ _ session c.from-4.ensures in
    let since = c.member-6.ensures _ _ sessions c.from-5.ensures in
    let state = c.try_member-4.ensures _ _ since (rw c.state_word.ensures at c.text_value.ensures) in
    let unheard = c.member-7.ensures _ _ state c.number_or_null-2.ensures in
    let waiting = c.member-8.ensures _ _ unheard c.from-6.ensures in
    c.finish.ensures _ waiting
