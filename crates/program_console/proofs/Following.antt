-- How things of one kind, as sources, follow one another.
use Rattle.std.proofs.Common.{◌≡◌, ℕ, ◌+◌, ◌<◌, List, length, get_or, refl, add-one}
use Rattle.std.proofs.lemmas.Option.{slice_get_read}
use Rattle.program_console.specs.Following.{CutsLater, DoesFirst}
use Rattle.program_console.specs.Streaming.{Streams}

module _ {A B : Type 0} (start : B) (DoesOne : B → A → Streams → Streams → B → Type 0) where
  pub none_done : (all : List A) (before : Streams) → DoesFirst start DoesOne all 0 before before start
  unfolding DoesFirst
  none_done all before = (refl, refl)

  pub one_more : (all : List A) (n : ℕ) (one : A) (before mid after : Streams) (earlier state : B) → n < length all → one ≡ get_or all n one
      → DoesFirst start DoesOne all n before mid earlier → DoesOne earlier one mid after state → DoesFirst start DoesOne all (n + 1) before after state
  unfolding DoesFirst
  one_more all n one before mid after earlier state inside is first done =
      rw add-one (one, mid, earlier, slice_get_read all _ n one refl inside is, first, done)

  -- a fault cuts it with one behind others
  pub some_done : (CutsOne : B → A → Streams → Streams → Type 0) (all : List A) (n : ℕ) (one : A) (before mid after : Streams) (earlier : B)
      → n < length all → one ≡ get_or all n one → DoesFirst start DoesOne all n before mid earlier → CutsOne earlier one mid after
      → CutsLater start DoesOne CutsOne all before after
  some_done CutsOne all n one before mid after earlier inside is first cut = record {
    n = n;
    one = one;
    is_one = slice_get_read all _ n one refl inside is;
    mid = mid;
    earlier = earlier;
    first = first;
    cut = cut;
  }
