-- How a configuration is read, with the files that it includes in their places. (This project's own choice; includes are those of the BIRD
-- 2.0 User's Guide.)
use Rattle.std.specs.Prelude.{◌≡◌, ◌⊎◌, ◌-◌, ◌&&◌, ◌++◌, ℕ, zero, suc, nat_le, true}
use Rattle.std.specs.Prelude.{false, if◌then◌else◌, List, [], ◌∷◌, Option, Some, None, Result}
use Rattle.std.specs.Prelude.{codes, drop, length, map, slice_get, take}
use Rattle.std.specs.declared.io.Error.{Error}
use Rattle.refusal_words.specs.Shown.{shown}
use Rattle.bird_import.specs.Including.{Includes, view_of as view_of_include}
use Rattle.bird_import.specs.declared.includes.Include.{Include}
use Rattle.program_words.specs.declared.source.Source.{Source}
use Rattle.ncimport.specs.Inclusions.{IsLeft, IsLookedFor, last_file}
use Rattle.ncimport.specs.Places.{ConfigView, FileView, place_in, view_of}
use Rattle.program_console.specs.Limited.{ReadsText, SkipsText}
use Rattle.program_console.specs.Streaming.{Streams, Writes}

-- how deep files include files at most, as in BIRD
abbrev pub include_depth : ℕ
include_depth = 8

-- a configuration of which nothing is read
abbrev pub nothing : ConfigView
nothing = record { text = []; stretches = []; files = []; reading = []; is_partial = false }

-- the bytes of a text from a place to another; none where the text has no such places
abbrev pub bytes_between : List ℕ → ℕ → ℕ → List ℕ
bytes_between text from to = if nat_le from to && nat_le to (length text) then take (to - from) (drop from text) else []

-- a configuration that has bytes of a file behind it, which stand at a place of the file
abbrev pub with_stretch : ConfigView → ℕ → ℕ → List ℕ → ConfigView
with_stretch config file at bytes = record config {
  text = config.text ++ bytes;
  stretches = config.stretches ++ record { from = length config.text; file = file; at = at } ∷ [];
}

-- the bytes of a file's text from a place to another
abbrev pub with_part : ConfigView → ℕ → List ℕ → ℕ → ℕ → ConfigView
with_part config file text from to = with_stretch config file from (bytes_between text from to)

-- the list without its last element
abbrev pub without_last : List ℕ → List ℕ
without_last all = take (length all - 1) all

-- a file begins to be read: it is the last of the files
abbrev pub opened : ConfigView → FileView → ConfigView
opened config file = record config { files = config.files ++ file ∷ []; reading = config.reading ++ length config.files ∷ [] }

-- it is read to its end: what is left of its text stands behind the rest, and a line feed behind that
abbrev pub closed : ConfigView → ℕ → List ℕ → ℕ → ConfigView
closed config file text from =
    let last = with_part config file text from (length text) in
    record last { text = last.text ++ 10 ∷ []; reading = without_last last.reading }

-- something is left out
abbrev pub partial : ConfigView → ConfigView
partial config = record config { is_partial = true }

-- what ends the line of a file that is left out
unfoldable pub left_behind : List ℕ
left_behind = codes ": this file was left out" ++ 10 ∷ []

-- why it is, to the end of the line
abbrev pub why_words : List ℕ → List ℕ
why_words why = codes ": " ++ why ++ left_behind

-- what is told of a file that is left out, and why
abbrev pub left_words : List ℕ → List ℕ → List ℕ
left_words name why = codes " include " ++ shown name ++ why_words why

-- the line that tells of it, at the place of its include
abbrev pub left_line : ConfigView → Include → List ℕ → List ℕ
left_line config one why = place_in (last_file config) one.from ++ left_words one.name.now why

-- A file was left out, which was told where the configuration's filters are told of.
pub record LeavesOut (one : Include) (why : List ℕ) (config after : ConfigView) (before now : Streams) : Type 0 where
  pub told : Writes (left_line config one why) before now
  pub is : after ≡ partial config

-- `Puts one config after before now` says how a file that is included is put behind a configuration, or left out.
module _ (Puts : Include → ConfigView → ConfigView → Streams → Streams → Type 0) where
  -- The first n of the files that a file includes were put behind a configuration, each behind what stands before its include in the file.
  -- `from` is the place behind the last of these includes.
  unfoldable pub PutsFirst : ℕ → List ℕ → List Include → ℕ → ConfigView → ConfigView → Streams → Streams → ℕ → Type 0
  PutsFirst file text included zero config after before now from = (after ≡ config) × (now ≡ before) × (from ≡ 0)
  PutsFirst file text included (suc n) config after before now from = (one : Include) × (earlier : ConfigView) × (mid : Streams) × (done : ℕ)
      × (slice_get included n ≡ Some one) × PutsFirst file text included n config earlier before mid done
      × Puts one (with_part earlier file text done one.from) after mid now × (from ≡ one.to)

  -- All of the text of a file was put behind a configuration: the files that it includes, each of them, in the places of their includes, and
  -- behind the last of these the rest.
  pub record PutsFile (file : FileView) (config after : ConfigView) (before now : Streams) : Type 0 where
    pub included : List Include
    pub all : Includes file.text (map view_of_include included)
    pub last : ConfigView
    pub from : ℕ
    pub first : PutsFirst (length config.files) file.text included (length included) (opened config file) last before now from
    pub ends : after ≡ closed last (length config.files) file.text from

module _ (opens : List ℕ → Result (Option (List ℕ)) Error → Type 0) where
  -- A file that is included was looked for by its path, and put behind a configuration with those that it includes; or it was left out. `deep`
  -- is how deep files may be included in it.
  unfoldable pub PutsIncluded : ℕ → Include → ConfigView → ConfigView → Streams → Streams → Type 0
  PutsIncluded zero one config after before now = LeavesOut one (codes "files are included at most 8 deep") config after before now
  PutsIncluded (suc deep) one config after before now =
      ((why : List ℕ) × IsLeft config one.name.now why × LeavesOut one why config after before now)
      ⊎ (((source : Source) × (text : List ℕ) × (mid : Streams) × IsLookedFor config one.name.now source × ReadsText opens source text before mid
      × PutsFile (PutsIncluded deep) (view_of source text) config after mid now)
      ⊎ ((source : Source) × (mid : Streams) × IsLookedFor config one.name.now source × SkipsText opens source before mid
      × LeavesOut one (codes "it cannot be read") config after mid now))

  -- A configuration is the text of a source, with the files that it includes in their places.
  pub record ReadsConfig (source : Source) (config : ConfigView) (before after : Streams) : Type 0 where
    pub text : List ℕ
    pub mid : Streams
    pub reads : ReadsText opens source text before mid
    pub puts : PutsFile (PutsIncluded include_depth) (view_of source text) nothing config mid after

  -- the configuration that a source is, or none where the source itself was not read
  abbrev pub IsConfig : Source → Option ConfigView → Streams → Streams → Type 0
  IsConfig source None before after = SkipsText opens source before after
  IsConfig source (Some config) before after = ReadsConfig source config before after
