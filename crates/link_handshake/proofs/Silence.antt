-- An end is not held for dead too soon.
use Rattle.std.proofs.Common.{◌≡◌, ℕ, ◌+◌, ◌-◌, ◌*◌, ◌≤◌, min, List, [], ◌∷◌, refl, arith}
use Rattle.link_handshake.specs.Clocks.{AreRising, IsSilent, after_looks, last_of, looked}
use Rattle.link_handshake.specs.declared.clocks.Clocks.{Clocks}

-- a look counts no more than went by
counts_less : (u last now : ℕ) → last ≤ now → min (u + min (now - last) 250) 3600000 + last ≤ u + now
counts_less u last now after = omega (arith, after)

-- nor do all looks
pub unheard_short : (times : List ℕ) (c : Clocks) → AreRising c.looked_at times →
    (after_looks times c).unheard + c.looked_at ≤ c.unheard + last_of c.looked_at times
unheard_short [] c rising = omega arith
unheard_short (now ∷ times) c rising =
    omega (arith, unheard_short times (looked c now) (rising.1), counts_less c.unheard c.looked_at now (rising.0))

pub hold_stays : (times : List ℕ) (c : Clocks) → (after_looks times c).other_hold ≡ c.other_hold
hold_stays [] c = refl
hold_stays (now ∷ times) c = hold_stays times (looked c now)

pub silent_long : (times : List ℕ) (c : Clocks) → c.unheard ≡ 0 → AreRising c.looked_at times → IsSilent (after_looks times c) →
    c.looked_at + 1000 * c.other_hold ≤ last_of c.looked_at times
silent_long times c heard rising silent = omega (arith, heard, unheard_short times c rising, hold_stays times c, silent.1)
