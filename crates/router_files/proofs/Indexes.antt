-- Statements by their indexes.
use Rattle.std.proofs.Common.{◌≡◌, ℕ, ◌+◌, ◌<◌, ◌⊎◌, List, Some, ap, arith, length, map, refl, sym, ◌∙◌}
use Rattle.std.proofs.lemmas.Option.{slice_get-map, slice_get_read}
use Rattle.std.specs.Option.{option_map}
use Rattle.std.specs.Prelude.{get_or, slice_get}
use Rattle.router_files.specs.Files.{StatementView, statement_of}
use Rattle.router_files.specs.declared.reading.Statement.{Statement}

-- the statement of an index, as it is seen
pub view_at : (statements : List Statement) (n : ℕ) (one : Statement) → one ≡ get_or statements n one → n < length statements
    → slice_get (map statement_of statements) n ≡ Some (statement_of one)
view_at statements n one is inside =
    slice_get-map statement_of statements n ∙ ap (option_map statement_of) (slice_get_read statements (length statements) n one refl inside is)

same_view : (one other : StatementView) → Some one ≡ Some other → one ≡ other
same_view one other is = cc

-- no other is there
pub same_there : (statements : List Statement) (n : ℕ) (one : Statement) (other : StatementView) → one ≡ get_or statements n one
    → n < length statements → slice_get (map statement_of statements) n ≡ Some other → statement_of one ≡ other
same_there statements n one other is inside here = same_view _ _ (sym (view_at statements n one is inside) ∙ here)

-- an index below the next one
pub below_or_at : (k n : ℕ) → k < n + 1 → (k < n) ⊎ (k ≡ n)
below_or_at k n h = grind arith
