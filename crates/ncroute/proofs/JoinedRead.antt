-- How the sources of a script are read, one after another.
use Rattle.std.proofs.Common.{◌≡◌, ℕ, ◌+◌, ◌<◌, List, [], length, get_or, Option, Result, refl, add-one}
use Rattle.std.proofs.lemmas.Option.{slice_get_read}
use Rattle.std.specs.declared.io.Error.{Error}
use Rattle.program_words.specs.declared.source.Source.{Source}
use Rattle.ncroute.specs.Joining.{JoinsFirst, JoinsNext, LeavesNext, StopsAtSource}
use Rattle.program_console.specs.declared.sources.Unread.{Unread}

module _ (opens : List ℕ → Result (Option (List ℕ)) Error → Type 0) (sources : List Source) where
  pub none_joined : (known : Option (List ℕ)) → JoinsFirst opens sources 0 [] known known
  unfolding JoinsFirst
  none_joined known = (refl, refl)

  pub one_more_joined : (n : ℕ) (source : Source) (earlier script : List ℕ) (known mid left : Option (List ℕ))
      → n < length sources → source ≡ get_or sources n source → JoinsFirst opens sources n earlier known mid
      → JoinsNext opens source earlier script mid left → JoinsFirst opens sources (n + 1) script known left
  unfolding JoinsFirst
  one_more_joined n source earlier script known mid left inside is first next =
      rw add-one (source, earlier, mid, slice_get_read sources _ n source refl inside is, first, next)

  -- a source is not read behind others
  pub not_joined : (n : ℕ) (source : Source) (why : Unread) (earlier : List ℕ) (known mid left : Option (List ℕ))
      → n < length sources → source ≡ get_or sources n source → JoinsFirst opens sources n earlier known mid
      → LeavesNext opens source why mid left → StopsAtSource opens sources source why known left
  not_joined n source why earlier known mid left inside is first leaves = record {
    n = n;
    is_source = slice_get_read sources _ n source refl inside is;
    earlier = earlier;
    mid = mid;
    first = first;
    leaves = leaves;
  }
