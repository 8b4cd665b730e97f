-- When an end of a link that several threads share has something to write.
use Rattle.std.proofs.Common.{◌≡◌, Bool, true, false, inl, inr, refl}
use Rattle.std.specs.Prelude.{◌⊎◌, IsTrue}
use Rattle.link_handshake.specs.Clocks.{IsDue}
use Rattle.link_handshake.specs.Posts.{HasToGreet, HasToWrite}
use Rattle.link_handshake.specs.declared.post.Post.{Post}

-- it owes no greeting, and has a session, or wrote something not long ago
pub greets_not_in_session : (p : Post) → p.owes_greeting ≡ false → p.end.is_up ≡ true → HasToGreet p → ⊥
greets_not_in_session p none up (inl owes) = absurd cc
greets_not_in_session p none up (inr (down, due)) = absurd cc

pub greets_not_yet : (p : Post) → p.owes_greeting ≡ false → (IsDue p.clocks → ⊥) → HasToGreet p → ⊥
greets_not_yet p none early (inl owes) = absurd cc
greets_not_yet p none early (inr (down, due)) = early due
