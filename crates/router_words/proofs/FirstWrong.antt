-- Lines of a router's file that are looked through for one that is refused by itself.
use Rattle.std.proofs.Common.{◌≡◌, ℕ, ◌+◌, ◌<◌, List, Some, None, inl, inr, length, map, subst, sym}
use Rattle.std.specs.Prelude.{get_or, slice_get}
use Rattle.command_line.specs.declared.router_words.RouterWords.{RouterWords}
use Rattle.router_files.specs.Files.{StatementView, statement_of}
use Rattle.router_files.proofs.Indexes.{below_or_at, same_there, view_at}
use Rattle.router_files.specs.declared.reading.Statement.{Statement}
use Rattle.router_words.specs.Gathering.{NoneWrongBefore, fault_of}
use Rattle.router_words.specs.declared.gathering.StatementFault.{StatementFault}

-- it is the first that is refused
pub is_first_wrong : (words : RouterWords) (statements : List Statement) (n : ℕ) (one : Statement) (why : StatementFault)
    → one ≡ get_or statements n one → n < length statements → NoneWrongBefore words (map statement_of statements) n
    → Some why ≡ fault_of words (statement_of one)
    → (m : ℕ) × (slice_get (map statement_of statements) m ≡ Some (statement_of one)) × (fault_of words (statement_of one) ≡ Some why)
    × NoneWrongBefore words (map statement_of statements) m
is_first_wrong words statements n one why is inside none refused = (n, view_at statements n one is inside, sym refused, none)

-- it is not refused
pub none_more_wrong : (words : RouterWords) (statements : List Statement) (n : ℕ) (one : Statement) → one ≡ get_or statements n one
    → n < length statements → NoneWrongBefore words (map statement_of statements) n → None ≡ fault_of words (statement_of one)
    → NoneWrongBefore words (map statement_of statements) (n + 1)
none_more_wrong words statements n one is inside none right k other below got =
    elim (below_or_at k n below) [
      | inl earlier ↦ none k other earlier got
      | inr same ↦
          let here : slice_get (map statement_of statements) n ≡ Some other = subst (λ (m : ℕ). slice_get (map statement_of statements) m ≡ Some other) same got in
          let other_is : statement_of one ≡ other = same_there statements n one other is inside here in
          subst (λ (s : StatementView). fault_of words s ≡ None) other_is (sym right)
    ]
