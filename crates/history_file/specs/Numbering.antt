-- How the filters in force are numbered, by the words that their lines have. (This project's own choice.)
use Rattle.std.specs.Prelude.{◌≡◌, ◌⊎◌, ℕ, suc, ◌<◌, List, [], ◌∷◌, ◌++◌, Option, Some, None, Vec, length, map, slice_index_or, codes, decimal}
use Rattle.std.specs.declared.alloc.Global.{Global}
use Rattle.filter_verifier.specs.VerifiedView.{VerifiedView}
use Rattle.netchange_core.specs.World.{NeighbourView, neighbour_at}
use Rattle.history_file.specs.Segments.{AreUses, IsTable, IsUse, uses_at}
use Rattle.history_lines.specs.Text.{filter_words, spaced}
use Rattle.history_file.specs.declared.numbering.Uses.{Uses}

-- texts as lists of bytes
abbrev pub texts_of : List (Vec ℕ Global) → List (List ℕ)
texts_of vs = map (λ v. v.items) vs

-- a row of the table: the words of a filter, each after a space
abbrev pub row_of : VerifiedView → List ℕ
row_of f = spaced (filter_words f)

-- the rows are those of a table
pub record AreRows (table : List VerifiedView) (rows : List (List ℕ)) : Type 0 where
  pub is_table : IsTable table
  pub rows_are : rows ≡ map row_of table

-- the first place of a row, if it has one
abbrev pub IsFound : List (List ℕ) → List ℕ → Option ℕ → Type 0
IsFound rows row (Some k) = (k < length rows) × (slice_index_or rows k row ≡ row)
IsFound rows row None = (k : ℕ) (d : List ℕ) → k < length rows → slice_index_or rows k d ≡ row → ⊥

-- a row has this number, and was added if it was not there
abbrev pub IsRow : List (List ℕ) → List ℕ → List (List ℕ) → ℕ → Type 0
IsRow rows row new k = (IsFound rows row (Some k) × (new ≡ rows))
    ⊎ (IsFound rows row None × (k ≡ length rows) × (new ≡ rows ++ row ∷ []))

-- a table with more filters after its own
abbrev pub Extends : List VerifiedView → List VerifiedView → Type 0
Extends table grown = (more : List VerifiedView) × (grown ≡ table ++ more)

-- a filter has this number, in a table that has grown by it if it was not there
pub record IsNumberedIn (table : List VerifiedView) (f : Option VerifiedView) (rows : List (List ℕ)) (number : Option ℕ) : Type 0 where
  pub grown : List VerifiedView
  pub extends : Extends table grown
  pub are_rows : AreRows grown rows
  pub is_use : IsUse grown f number

abbrev pub IsNumbered : List (List ℕ) → Option VerifiedView → List (List ℕ) → Option ℕ → Type 0
IsNumbered rows f new number = (table : List VerifiedView) → AreRows table rows → IsNumberedIn table f new number

-- the nodes below a number use these filters of a table
pub record AreNumbered (ns : List NeighbourView) (rows : List (List ℕ)) (uses : List Uses) (count : ℕ) : Type 0 where
  pub table : List VerifiedView
  pub are_rows : AreRows table rows
  pub one_a_node : length uses ≡ count
  pub each : (k : ℕ) → k < count → AreUses table (neighbour_at ns k) (uses_at uses k)

-- the line of a row, by its number
abbrev pub row_line : ℕ → List ℕ → List ℕ
row_line k row = codes "filter" ++ (32 ∷ decimal k ++ row)

-- the lines of rows; the first has this number
abbrev pub rows_text : ℕ → List (List ℕ) → List ℕ
rows_text k [] = []
rows_text k (row ∷ rows) = row_line k row ++ 10 ∷ rows_text (suc k) rows
