-- How the filters that a script is started with are read, one after another.
use Rattle.std.proofs.Common.{◌≡◌, ◌⊎◌, ℕ, ◌+◌, ◌<◌, ◌++◌, List, [], ◌∷◌, length, get_or, Option}
use Rattle.std.proofs.Common.{Result, Ok, Err, IfErr, refl, inl, add-one}
use Rattle.std.proofs.lemmas.Option.{slice_get_read}
use Rattle.std.specs.Prelude.{OnOk}
use Rattle.std.specs.declared.io.Error.{Error}
use Rattle.router_script.specs.declared.filter_naming.NamedFilter.{NamedFilter}
use Rattle.program_words.specs.declared.source.Source.{Source}
use Rattle.command_line.specs.declared.filter_words.NamedFile.{NamedFile}
use Rattle.ncroute.specs.Filters.{LeavesFilter, ReadsFilter, ReadsFirst, StopsAtFilter}
use Rattle.program_console.specs.declared.sources.Unread.{Unread}
use Rattle.program_console.specs.declared.sources.Unread.TheVariants as unread

module _ (opens : List ℕ → Result (Option (List ℕ)) Error → Type 0) (files : List NamedFile) where
  pub none_read : (known : Option (List ℕ)) → ReadsFirst opens files 0 [] known known
  unfolding ReadsFirst
  none_read known = (refl, refl)

  pub one_more_read : (n : ℕ) (file : NamedFile) (filter : NamedFilter) (earlier later : List NamedFilter) (known mid left : Option (List ℕ))
      → n < length files → file ≡ get_or files n file → ReadsFirst opens files n earlier known mid → ReadsFilter opens file filter mid left
      → later ≡ earlier ++ filter ∷ [] → ReadsFirst opens files (n + 1) later known left
  unfolding ReadsFirst
  one_more_read n file filter earlier later known mid left inside is first read more =
      rw add-one (file, filter, earlier, mid, slice_get_read files _ n file refl inside is, first, read, more)

  -- a filter is not read behind others
  pub not_read : (n : ℕ) (file : NamedFile) (source : Source) (why : Unread) (earlier : List NamedFilter) (known mid left : Option (List ℕ))
      → n < length files → file ≡ get_or files n file → source ≡ file.source → ReadsFirst opens files n earlier known mid
      → LeavesFilter opens file why mid left → StopsAtFilter opens files source why known left
  not_read n file source why earlier known mid left inside is same first leaves = record {
    n = n;
    file = file;
    is_file = slice_get_read files _ n file refl inside is;
    is_source = same;
    earlier = earlier;
    mid = mid;
    first = first;
    leaves = leaves;
  }

-- a filter that was read, and then added
pub added : {A E : Type 0} (Reads Grows : NamedFilter → Type 0) (filter : NamedFilter) → Reads filter → (r : Result A E)
    → OnOk r (Grows filter) → OnOk r ((f : NamedFilter) × Reads f × Grows f)
added Reads Grows filter reads (Ok x) h = (filter, reads, h)
added Reads Grows filter reads (Err e) h = tt

-- memory that is refused is one cause
pub left : {A : Type 0} (Others : Unread → Type 0) (r : Result A Unread) → IfErr r (λ why. why ≡ unread.Memory)
    → IfErr r (λ why. (why ≡ unread.Memory) ⊎ Others why)
left Others (Ok x) h = tt
left Others (Err why) h = inl h
