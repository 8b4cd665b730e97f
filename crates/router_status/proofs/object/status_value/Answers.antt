-- The members, each after those before it.
use Rattle.router_status.proofs.object.status_value.Goals as goal

pub returns : goal.returns
returns c =
    let bytes = c.member.ensures _ _ c.new.ensures c.number_or_null.ensures in
    let domain = c.try_member.ensures _ _ bytes c.text_or_null.ensures in
    let entries = c.member-2.ensures _ _ domain c.from.ensures in
    let forgotten = c.member-3.ensures _ _ entries c.from-2.ensures in
    let links = c.try_member-2.ensures _ _ forgotten (rw c.as_slice.ensures.value at c.links_value.ensures) in
    let node = c.member-4.ensures _ _ links c.from-3.ensures in
    let room = c.member-5.ensures _ _ node c.from-4.ensures in
    let saved = c.member-6.ensures _ _ room c.number_or_null-2.ensures in
    let segments = c.member-7.ensures _ _ saved c.number_or_null-3.ensures in
    let size = c.member-8.ensures _ _ segments c.from-5.ensures in
    let up = c.member-9.ensures _ _ size c.from-6.ensures in
    let version = c.try_member-3.ensures _ _ up c.text_value.ensures in
    c.finish.ensures _ version
