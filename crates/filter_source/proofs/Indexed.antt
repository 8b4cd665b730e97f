-- What is read of a list at an index.
use Rattle.std.proofs.Common.{◌≡◌, ℕ, Bor, List, length, Option, Some, None, refl, sym}
use Rattle.std.specs.Option.{option_copied}
use Rattle.std.specs.Prelude.{slice_get}
use Rattle.std.specs.Slice.{IsItemAt}
use Rattle.std.proofs.lemmas.Option.{slice_get_past, slice_get_read}

pub copied_is : (xs : List ℕ) (i : ℕ) (r : Option (Bor ℕ)) → IsItemAt xs i r → option_copied r ≡ slice_get xs i
copied_is xs i None h = sym (slice_get_past xs i h.3)
copied_is xs i (Some x) h = sym (slice_get_read xs (length xs) i x.now refl h.3.0 h.1)
