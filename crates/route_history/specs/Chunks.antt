-- Entries in chunks, of which the first can be dropped.
use Rattle.std.specs.Prelude.{◌≡◌, ◌≤◌, Bool, true, false, List, [], ◌∷◌, length}
use Rattle.std.specs.List.{flat_map}
use Rattle.route_history.specs.declared.entry.Entry.{Entry}

-- whether they are in chunks, and the entries
pub record ChunksView : Type 0 where
  pub is_chunked : Bool
  pub list : List Entry

-- one after another
abbrev pub joined : List (List Entry) → List Entry
joined chunks = flat_map (λ (c : List Entry). c) chunks

-- each chunk has as many entries as fit
abbrev pub AreFilled : List (List Entry) → Type 0
AreFilled [] = Unit {0}
AreFilled (c ∷ cs) = (length c ≡ 1024) × AreFilled cs

-- the chunks that are full, and the last one, to which entries are added
pub record AreChunks (is_chunked : Bool) (full : List (List Entry)) (last : List Entry) : Type 0 where
  pub filled : AreFilled full
  pub small : is_chunked ≡ true → length last ≤ 1024
  pub whole : is_chunked ≡ false → full ≡ []
