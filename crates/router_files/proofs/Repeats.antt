-- Statements that are looked through for one that says again what an earlier one says.
use Rattle.std.proofs.Common.{◌≡◌, ℕ, ◌+◌, ◌<◌, List, Option, Some, None, ap, inl, inr, length, map, subst, sym, take, ◌∙◌}
use Rattle.std.proofs.lemmas.List.{take-map}
use Rattle.std.specs.Prelude.{find, get_or, slice_get}
use Rattle.router_files.specs.Again.{IsAgain, NoneBefore, first_said, says_again}
use Rattle.router_files.specs.Files.{StatementView, statement_of}
use Rattle.router_files.proofs.Indexes.{below_or_at, same_there, view_at}
use Rattle.router_files.specs.declared.again.Again.{Again}
use Rattle.router_files.specs.declared.reading.Statement.{Statement}

-- what it says again
first_of : (statements : List Statement) (n : ℕ) (one : Statement) (found : Option StatementView)
    → found ≡ find (says_again (statement_of one)) (map statement_of (take n statements))
    → first_said (map statement_of statements) n (statement_of one) ≡ found
first_of statements n one found is = ap (find (says_again (statement_of one))) (take-map statement_of n statements) ∙ sym is

-- it says again what an earlier one says
pub is_again : (statements : List Statement) (n : ℕ) (again : Again) → again.later.now ≡ get_or statements n again.later.now
    → n < length statements → NoneBefore (map statement_of statements) n
    → Some (statement_of again.earlier.now) ≡ find (says_again (statement_of again.later.now)) (map statement_of (take n statements))
    → IsAgain (map statement_of statements) again
is_again statements n again is inside none found = record {
  n = n;
  later = view_at statements n again.later.now is inside;
  earlier = first_of statements n again.later.now _ found;
  first = none;
}

-- it says nothing again
pub none_more : (statements : List Statement) (n : ℕ) (later : Statement) → later ≡ get_or statements n later → n < length statements
    → NoneBefore (map statement_of statements) n
    → None ≡ find (says_again (statement_of later)) (map statement_of (take n statements)) → NoneBefore (map statement_of statements) (n + 1)
none_more statements n later is inside none found k one below got =
    elim (below_or_at k n below) [
      | inl earlier ↦ none k one earlier got
      | inr same ↦
          let here : slice_get (map statement_of statements) n ≡ Some one = subst (λ (m : ℕ). slice_get (map statement_of statements) m ≡ Some one) same got in
          let one_is : statement_of later ≡ one = same_there statements n later one is inside here in
          subst (λ (m : ℕ). first_said (map statement_of statements) m one ≡ None) (sym same)
          (subst (λ (s : StatementView). first_said (map statement_of statements) n s ≡ None) one_is (first_of statements n later None found))
    ]
