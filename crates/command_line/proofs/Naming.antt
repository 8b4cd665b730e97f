-- How the sources of names follow one another.
use Rattle.std.proofs.Common.{◌≡◌, ◌∙◌, ◌<◌, ◌≤◌, ◌+◌, ℕ, zero, suc, ap, subst, arith, length}
use Rattle.std.proofs.Common.{List, [], ◌∷◌, ◌++◌, map, take, get_or, add-one}
use Rattle.std.proofs.Math.Seq.{take-length}
use Rattle.std.proofs.lemmas.List.{map-append, map_more}
use Rattle.std.proofs.lemmas.Option.{slice_get-get_or}
use Rattle.command_line.specs.Filters.{NameFirst, file_in}
use Rattle.command_line.specs.Reads.{filter_sources}
use Rattle.command_line.specs.Sources.{AreNamed}
use Rattle.program_words.specs.Sources.{IsNamed}
use Rattle.command_line.specs.declared.filter_words.NamedFile.{NamedFile}
use Rattle.program_words.specs.declared.source.Source.{Source}

-- one more name, with its source
pub one_more : (names : List (List ℕ)) (sources : List Source) (name : List ℕ) (source : Source)
    → AreNamed names sources → IsNamed name source → AreNamed (names ++ name ∷ []) (sources ++ source ∷ [])
one_more [] [] name source first one = (one, tt)
one_more (n ∷ ns) (s ∷ ss) name source first one = (first.0, one_more ns ss name source first.1 one)
one_more [] (s ∷ ss) name source first one = absurd first
one_more (n ∷ ns) [] name source first one = absurd first

-- the same of the first names of a list
pub next_named : {X : Type 0} (f : X → List ℕ) (names : List X) (i : ℕ) (name : X) (sources later : List Source) (source : Source)
    → i < length names → AreNamed (map f (take i names)) sources → IsNamed (f (get_or names i name)) source
    → later ≡ sources ++ source ∷ [] → AreNamed (map f (take (i + 1) names)) later
next_named f names i name sources later source within first one is =
    rw (map_more f names i name within, is) (one_more (map f (take i names)) sources (f (get_or names i name)) source first one)

-- names and then others
pub named_append : (names more : List (List ℕ)) (sources others : List Source) → AreNamed names sources → AreNamed more others
    → AreNamed (names ++ more) (sources ++ others)
named_append [] more [] others first then = then
named_append (n ∷ ns) more (s ∷ ss) others first then = (first.0, named_append ns more ss others first.1 then)
named_append [] more (s ∷ ss) others first then = absurd first
named_append (n ∷ ns) more [] others first then = absurd first

-- the files of the filters that words name
filters_first : (words : List (List ℕ)) (n : ℕ) (filters : List NamedFile) → n ≤ length words → NameFirst words n filters
    → AreNamed (map file_in (take n words)) (filter_sources filters)
unfolding NameFirst
filters_first words zero filters within none = rw none tt
filters_first words (suc n) filters within (word, earlier, named, is, first, names, apart, grown) =
    let below : n < length words = omega arith in
    let same : word ≡ get_or words n word = let e = slice_get-get_or words n word below in cc in
    let before = filters_first words n earlier (omega arith) first in
    let source : IsNamed (file_in (get_or words n word)) named.source = subst (λ (w : List ℕ). IsNamed (file_in w) named.source) same names.source in
    let after : filter_sources filters ≡ filter_sources earlier ++ named.source ∷ [] =
    ap filter_sources grown ∙ map-append (λ (f : NamedFile). f.source) earlier (named ∷ []) in
    let all = next_named file_in words n word (filter_sources earlier) (filter_sources filters) named.source below before source after in
    rw add-one at all

pub filters_named : (words : List (List ℕ)) (filters : List NamedFile) → NameFirst words (length words) filters
    → AreNamed (map file_in words) (filter_sources filters)
filters_named words filters are = subst (λ (l : List (List ℕ)). AreNamed (map file_in l) (filter_sources filters)) (take-length words)
    (filters_first words (length words) filters (omega arith) are)
