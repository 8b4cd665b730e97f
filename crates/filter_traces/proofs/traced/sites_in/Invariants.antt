use Rattle.std.proofs.Common.{◌≡◌, map, take}
use Rattle.filter_traces.specs.Whys.{site_in}
use Rattle.filter_traces.proofs.traced.sites_in.Given as goal

abbrev pub invariant-loop-place : goal.invariant-loop-place
invariant-loop-place l = l.sites.items ≡ map (site_in l.text) (take l.place-index l.places)
