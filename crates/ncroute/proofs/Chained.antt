-- How the segments of files are replayed, one file after another.
use Rattle.std.proofs.Common.{◌≡◌, ℕ, ◌+◌, ◌<◌, List, length, get_or, Option, Some, None, Result, inl, refl, add-one}
use Rattle.std.proofs.lemmas.Option.{slice_get_read}
use Rattle.std.specs.declared.io.Error.{Error}
use Rattle.program_words.specs.declared.source.Source.{Source}
use Rattle.history_file.specs.declared.chain.Chain.{Chain}
use Rattle.line_protocol.specs.declared.faults.StreamFault.{StreamFault}
use Rattle.ncroute.specs.Replaying.{BailsOut, JoinsAll, JoinsFirst, JoinsSource, StopsAmong, StopsReading}
use Rattle.ncroute.specs.declared.replaying.ReplayedSegments.{ReplayedSegments}
use Rattle.ncroute.specs.declared.replaying.ReplayedSegments.TheVariants as replayed

module _ (opens : List ℕ → Result (Option (List ℕ)) Error → Type 0) (sources : List Source) where
  pub none_joined : (known : Option (List ℕ)) → JoinsFirst opens sources 0 None known known
  unfolding JoinsFirst
  none_joined known = (refl, refl)

  pub one_more_joined : (n : ℕ) (source : Source) (known mid left : Option (List ℕ)) (earlier : Option Chain) (now : Chain) → n < length sources
      → source ≡ get_or sources n source → JoinsFirst opens sources n earlier known mid
      → JoinsSource opens earlier (Some (n + 1)) source (replayed.Right now) mid left
      → JoinsFirst opens sources (n + 1) (Some now) known left
  unfolding JoinsFirst
  one_more_joined n source known mid left earlier now inside is first joined =
      rw add-one (source, mid, earlier, now, refl, slice_get_read sources _ n source refl inside is, first, joined)

  -- a source is refused or not read behind others
  pub bails : (n : ℕ) (source : Source) (known mid left : Option (List ℕ)) (chain : Option Chain) (found : ReplayedSegments) → n < length sources
      → source ≡ get_or sources n source → JoinsFirst opens sources n chain known mid
      → JoinsSource opens chain (Some (n + 1)) source found mid left → BailsOut opens sources found known left
  bails n source known mid left chain found inside is first refused = record {
    n = n;
    source = source;
    is_source = slice_get_read sources _ n source refl inside is;
    mid = mid;
    chain = chain;
    first = first;
    refused = refused;
  }

  -- then not all are joined
  pub left_off : (known left : Option (List ℕ)) (found : ReplayedSegments) → ((now : Chain) → found ≡ replayed.Right now → ⊥)
      → BailsOut opens sources found known left → JoinsAll opens sources found known left
  left_off known left (replayed.Right now) wrong h = absurd (wrong now refl)
  left_off known left (replayed.Refused file fault) wrong h = h
  left_off known left (replayed.Unread line) wrong h = inl h

  -- a fault ends the replay of a source behind others
  pub some_stopped : (fault : StreamFault) (n : ℕ) (source : Source) (known mid left : Option (List ℕ)) (chain : Option Chain)
      → n < length sources → source ≡ get_or sources n source → JoinsFirst opens sources n chain known mid
      → StopsReading opens fault source mid left → StopsAmong opens fault sources known left
  some_stopped fault n source known mid left chain inside is first stopped = record {
    n = n;
    source = source;
    is_source = slice_get_read sources _ n source refl inside is;
    mid = mid;
    chain = chain;
    first = first;
    stopped = stopped;
  }
