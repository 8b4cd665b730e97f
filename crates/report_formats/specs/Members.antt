-- An object that is built member after member.
use Rattle.std.specs.Prelude.{◌≡◌, IfOk}
use Rattle.serde_json.specs.Data.{Members}
use Rattle.serde_json.specs.View.{members_view}
use Rattle.report_formats.specs.declared.object.ObjectBuilder.{ObjectBuilder}

-- it has these members, unless memory was wanting
abbrev pub HoldsMembers : ObjectBuilder → Members → Type 0
HoldsMembers builder held = IfOk builder.members (λ m. members_view m.entries ≡ held)
