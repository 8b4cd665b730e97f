-- How many nodes are not done.
use Rattle.std.proofs.Common.{◌≡◌, ℕ, suc, zero, ◌<◌, Bool, true, false, List, [], ◌∷◌, slice_index_or, slice_set, sym, arith}
use Rattle.std.proofs.lemmas.Bool.{false≢true}

abbrev pub waiting : List Bool → ℕ
waiting [] = 0
waiting (true ∷ done) = waiting done
waiting (false ∷ done) = suc (waiting done)

pub fewer_wait : (done : List Bool) (w : ℕ) → slice_index_or done w true ≡ false → waiting (slice_set done w true) < waiting done
fewer_wait [] w waits = absurd (false≢true (sym waits))
fewer_wait (true ∷ done) zero waits = absurd (false≢true (sym waits))
fewer_wait (false ∷ done) zero waits = omega arith
fewer_wait (true ∷ done) (suc w) waits = fewer_wait done w waits
fewer_wait (false ∷ done) (suc w) waits = omega (arith, fewer_wait done w waits)
