-- What the definitions say of two calls.
use Rattle.std.proofs.Common.{◌≡◌, ◌∙◌, sym, subst, ℕ, ◌<◌, List, [], ◌∷◌, ◌++◌, arith}
use Rattle.std.specs.Prelude.{AllPairs}
use Rattle.std.proofs.lemmas.List.{append_cancel_left}
use Rattle.route_history.specs.declared.entry.Entry.{Entry}
use Rattle.route_session.specs.Calls.{Gained}
use Rattle.slot_lock.specs.Passes.{Fragment}

-- Calls that stand in the history the other way round are none that a session gained, whatever they are. So passes merge that were split.
other_way_round : (old : Fragment) (calls : List Entry) (new : Fragment) (late early : ℕ) → new.mine ≡ old.mine ++ late ∷ early ∷ [] →
    early < late → Gained old calls new → ⊥
other_way_round old calls new late early mine before g =
    let positions : g.positions ≡ late ∷ early ∷ [] =
    append_cancel_left old.mine g.positions (late ∷ early ∷ []) (sym g.mine ∙ mine) in
    let rising : AllPairs (λ a b. a < b) (late ∷ early ∷ []) = subst (λ (l : List ℕ). AllPairs (λ a b. a < b) l) positions g.rising in
    let falling : late < early = rising 0 1 late (omega arith) (omega arith) in
    omega (arith, before, falling)
