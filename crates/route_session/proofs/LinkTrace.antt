-- What a link tells as it goes on.
use Rattle.std.proofs.Common.{◌≡◌, ap, sym, refl, Option, Some, None, List, [], ◌++◌, append_assoc, append-nil}
use Rattle.netchange_core.specs.declared.message.Message.{Message}
use Rattle.route_session.specs.LinkTrace.{grown}

pub grown_none : (told : Option (List Message)) → told ≡ grown told []
grown_none None = refl
grown_none (Some ms) = ap Some (sym (append-nil ms))

pub grown_more : (told : Option (List Message)) (ms ns : List Message) → grown (grown told ms) ns ≡ grown told (ms ++ ns)
grown_more None ms ns = refl
grown_more (Some ls) ms ns = ap Some (append_assoc ls ms ns)
