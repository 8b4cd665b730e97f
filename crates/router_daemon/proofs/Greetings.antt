-- When an end of a link does not wait before it greets.
use Rattle.std.proofs.Common.{◌≡◌, Bool, true, false, inl, inr}
use Rattle.std.specs.Prelude.{◌<◌}
use Rattle.router_daemon.specs.Stations.{Waits}
use Rattle.router_daemon.specs.declared.station.Station.{Station}

-- it has a session
pub waits_not_in_session : (s : Station) → s.post.end.is_up ≡ true → Waits s → ⊥
waits_not_in_session s up (down, why) = absurd cc

-- it heard the line that ended its session, and owes its greeting
pub waits_not_with_a_debt : (s : Station) → s.is_to_hear ≡ false → s.post.owes_greeting ≡ true → Waits s → ⊥
waits_not_with_a_debt s heard owes (down, inl hears) = absurd cc
waits_not_with_a_debt s heard owes (down, inr (none, early)) = absurd cc

-- or it waited long enough
pub waits_no_longer : (s : Station) → s.is_to_hear ≡ false → (s.post.clocks.unwritten < s.wait → ⊥) → Waits s → ⊥
waits_no_longer s heard late (down, inl hears) = absurd cc
waits_no_longer s heard late (down, inr (none, early)) = late early
