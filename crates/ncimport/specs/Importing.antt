-- What the program does with a configuration of BIRD whose filters are imported. (This project's own choice.)
use Rattle.std.specs.Prelude.{◌≡◌, ◌⊎◌, ◌↔◌, ◌<◌, ◌||◌, ◌&&◌, ◌==◌, ◌-◌, ◌++◌, ℕ, nat_le, nat_lt, Bool, true, false, not, if◌then◌else◌}
use Rattle.std.specs.Prelude.{AllPairs, Contains, is_some, List, [], ◌∷◌, Option, Some, None, Result, Ok, Err}
use Rattle.std.specs.Prelude.{codes, length, map, slice_get, string_bytes}
use Rattle.std.specs.Option.{option_map}
use Rattle.std.specs.Str.{is_utf8}
use Rattle.std.specs.Io.KnownBytes.{Appends}
use Rattle.std.specs.declared.alloc.Global.{Global}
use Rattle.std.specs.IoError.{error_kind}
use Rattle.std.specs.declared.io.Error.{Error}
use Rattle.std.specs.declared.io.ErrorKind.TheVariants.{NotFound}
use Rattle.std.specs.declared.string.String.{String}
use Rattle.bird_import.specs.Cutting.{IsCutInto}
use Rattle.bird_import.specs.Items.{AreItemsIn, IsDefinitionIn, view_of_item}
use Rattle.bird_import.specs.Judged.{HaveConversions}
use Rattle.bird_import.specs.Laying.{origins_of, text_of}
use Rattle.bird_import.specs.Reasons.{AreReasonWords}
use Rattle.bird_import.specs.Texts.{HasOutcome, IsTaken}
use Rattle.bird_import.specs.declared.config.Config.{Config}
use Rattle.bird_import.specs.declared.cut.Cut.{Cut}
use Rattle.bird_import.specs.declared.conversions.Conversion.{Conversion}
use Rattle.bird_import.specs.declared.conversions.ConversionOutcome.{ConversionOutcome}
use Rattle.bird_import.specs.declared.conversions.ConversionOutcome.TheVariants.{Converted, LeftOut}
use Rattle.bird_import.specs.declared.items.Definition.{Definition}
use Rattle.bird_import.specs.declared.reason.Why.{Why}
use Rattle.bird_import.specs.declared.reason.Why.TheVariants as why
use Rattle.bird_import.specs.declared.text.TextOutcome.{TextOutcome}
use Rattle.bird_import.specs.declared.text.TextOutcome.TheVariants as text_outcome
use Rattle.bird_import.specs.declared.text.Origin.{Origin}
use Rattle.bird_import.specs.declared.word.Word.{Word}
use Rattle.bird_import.specs.declared.word.WordKind.{WordKind}
use Rattle.bird_import.specs.declared.word.WordKind.TheVariants.{Strange}
use Rattle.import_words.specs.declared.words.Importing.{Importing}
use Rattle.program_words.specs.declared.source.Source.{Source}
use Rattle.filter_reports.specs.Checking.{IsDiagnosis}
use Rattle.filter_source.specs.VerifiedLine.{verified_line}
use Rattle.filter_source.specs.declared.diagnosis.Diagnosis.{Diagnosis}
use Rattle.filter_tokens.specs.Codes.{fault_place}
use Rattle.filter_tokens.specs.declared.fault.TokenFault.{TokenFault}
use Rattle.refusal_words.specs.Explanations.{AreRefusalWords}
use Rattle.filter_reports.specs.VerifiedFilters.{IsVerifiedOf}
use Rattle.refusal_words.specs.Shown.{shown}
use Rattle.filter_verifier.specs.VerifiedView.{VerifiedView}
use Rattle.line_protocol.specs.Runs.{AppendsFront}
use Rattle.filter_reports.specs.Reports.{status_of_found}
use Rattle.program_console.specs.Following.{DoesAll, FindsNext}
use Rattle.ncimport.specs.Including.{ReadsConfig}
use Rattle.ncimport.specs.Noting.{HasNotes, place_from}
use Rattle.ncimport.specs.Places.{ConfigView, place_of}
use Rattle.program_console.specs.Limited.{SkipsText}
use Rattle.program_console.specs.Reading.{uncreated_line, unwritten_line}
use Rattle.program_console.specs.Streaming.{Streams, Tells, Writes}
use Rattle.ncimport.specs.declared.importing.FilterResult.{FilterResult}

-- the text that is written of a filter, if one is
abbrev pub text_in : FilterResult → Option (List ℕ)
text_in filter_result = option_map (λ text. text.items) filter_result.text

-- a comment that tells a place of a configuration
abbrev pub origin_line : List ℕ → ConfigView → ℕ → List ℕ
origin_line words config at = words ++ place_of config at ++ 10 ∷ []

-- whether a place is outside of a filter that begins at one place and ends at another
abbrev pub is_outside : ℕ → ℕ → ℕ → Bool
is_outside from to at = nat_lt at from || nat_lt to at

-- the comment of a word, behind one at another place, if it is outside of the filter and that one is not
abbrev pub outside_line : ConfigView → ℕ → ℕ → ℕ → ℕ → List ℕ
outside_line config from to last at =
    if is_outside from to at && not (is_outside from to last) then origin_line (codes "# and ") config at else []

-- the comments of the words of a filter, which are behind one at a place
abbrev pub outside_lines : ConfigView → ℕ → ℕ → ℕ → List Word → List ℕ
outside_lines config from to last [] = []
outside_lines config from to last (word ∷ words) = outside_line config from to last word.at ++ outside_lines config from to word.at words

-- the comments at the head of a filter's text: where it begins, and where each stretch of its words begins that comes from elsewhere
abbrev pub head_of : ConfigView → ℕ → ℕ → List Word → List ℕ
head_of config from to words = origin_line (codes "# From ") config from ++ outside_lines config from to from words

-- the same where these comments are not long, and otherwise where the filter begins alone
abbrev pub head_for : ConfigView → ℕ → ℕ → List Word → List ℕ
head_for config from to words =
    if nat_le (length (head_of config from to words)) 8192 then head_of config from to words else origin_line (codes "# From ") config from

-- A text is verified for domains of a size, and this is the line of its bounds.
pub record IsVerifiedText (size : ℕ) (text line : List ℕ) : Type 0 where
  pub verified : VerifiedView
  pub is : IsVerifiedOf size text verified
  pub bounds : line ≡ verified_line verified.program

-- A text is refused for domains of a size, and so it is told, at the place from which the byte comes that is told of it.
pub record IsRefusedText (size at : ℕ) (text : List ℕ) (origins : List Origin) (filter_result : FilterResult) : Type 0 where
  pub told : Diagnosis
  pub is : IsDiagnosis size false text told
  pub told_so : AreRefusalWords told filter_result.words.items
  pub place : filter_result.at ≡ place_from origins at told.byte

-- What comes of the text of a filter that begins at a place: it is verified, and kept; or it is refused.
abbrev pub KeepsText : ℕ → ℕ → List ℕ → List Origin → FilterResult → Option (List ℕ) → Type 0
KeepsText size at text origins filter_result None = IsRefusedText size at text origins filter_result
KeepsText size at text origins filter_result (Some kept) = (kept ≡ text) × IsVerifiedText size text filter_result.words.items × (filter_result.at ≡ at)

abbrev pub IsResultOfText : ℕ → ℕ → List ℕ → List Origin → FilterResult → Type 0
IsResultOfText size at text origins filter_result = KeepsText size at text origins filter_result (text_in filter_result)

-- What is kept of a conversion is the text that was written for its words, which reads no variable before it assigns it, and it is verified for
-- domains of a size; the place is that of the conversion.
pub record IsOfWords (size at : ℕ) (words : List Word) (text : List ℕ) (filter_result : FilterResult) (kept : List ℕ) : Type 0 where
  pub same : kept ≡ text
  pub taken : IsTaken words text
  pub verified : IsVerifiedText size text filter_result.words.items
  pub place : filter_result.at ≡ at

-- The words of a reason, as they are shown: no character of them steers a terminal or ends a line, whatever the name in them is.
abbrev pub AreWordsFor : Why → List ℕ → Type 0
AreWordsFor why words = (plain : List ℕ) × AreReasonWords why plain × (words ≡ shown plain)

-- a filter is left out for a reason, and so it is told, at a place
abbrev pub IsLeftOutFor : ℕ → Why → FilterResult → Type 0
IsLeftOutFor at why filter_result = (filter_result.at ≡ at) × AreWordsFor why filter_result.words.items

-- one of some words is a variable, and it is told that this one may be read before it is assigned
abbrev pub IsLeftOutUnset : Option Word → FilterResult → Type 0
IsLeftOutUnset None filter_result = ⊥
IsLeftOutUnset (Some word) filter_result = IsLeftOutFor word.at (why.Unset word.bytes) filter_result

-- Why none is kept of a conversion: the text for its words is refused, and so it is told; or the words could not be written, or one of them is a
-- variable that may be read before it is assigned, and its place is told.
abbrev pub IsLeftFor : ℕ → ℕ → List Word → List ℕ → List Origin → FilterResult → TextOutcome → Type 0
IsLeftFor size at words text origins filter_result text_outcome.Taken = IsRefusedText size at text origins filter_result
IsLeftFor size at words text origins filter_result (text_outcome.Refused fault) = IsRefusedText size at text origins filter_result
IsLeftFor size at words text origins filter_result text_outcome.Garbled = IsLeftOutFor at why.Unwritten filter_result
IsLeftFor size at words text origins filter_result (text_outcome.Unset k) = IsLeftOutUnset (slice_get words k) filter_result

pub record IsLeftOut (size at : ℕ) (words : List Word) (text : List ℕ) (origins : List Origin) (filter_result : FilterResult) : Type 0 where
  pub text_outcome : TextOutcome
  pub has_outcome : HasOutcome words text text_outcome
  pub left : IsLeftFor size at words text origins filter_result text_outcome

abbrev pub KeepsWords : ℕ → ℕ → List Word → List ℕ → List Origin → FilterResult → Option (List ℕ) → Type 0
KeepsWords size at words text origins filter_result None = IsLeftOut size at words text origins filter_result
KeepsWords size at words text origins filter_result (Some kept) = IsOfWords size at words text filter_result kept

-- what came of a conversion's words, for which a text was written whose words come from these places
abbrev pub IsResultOfWords : ℕ → ℕ → List Word → List ℕ → List Origin → FilterResult → Type 0
IsResultOfWords size at words text origins filter_result = KeepsWords size at words text origins filter_result (text_in filter_result)

-- the text that is written for the words of a filter that begins at one place and ends at another, and the places from which its words come
abbrev pub text_for : ConfigView → ℕ → ℕ → List Word → List ℕ
text_for config from to words = text_of (head_for config from to words) words

abbrev pub origins_for : ConfigView → ℕ → ℕ → List Word → List Origin
origins_for config from to words = origins_of (head_for config from to words) words

-- What came of a conversion: none is written of one that is left out, and what is told is its reason, at the place of that.
abbrev pub IsResultOf : ConfigView → ℕ → ℕ → ℕ → ConversionOutcome → FilterResult → Type 0
IsResultOf config size from to (LeftOut reason) filter_result = (text_in filter_result ≡ None) × IsLeftOutFor reason.at reason.why filter_result
IsResultOf config size from to (Converted words) filter_result =
    IsResultOfWords size from words.items (text_for config from to words.items) (origins_for config from to words.items) filter_result

abbrev pub IsFilterResult : ConfigView → ℕ → Conversion → FilterResult → Type 0
IsFilterResult config size conversion filter_result = IsResultOf config size conversion.at conversion.end conversion.outcome filter_result

-- Beside its text, if one is kept, what else is said of it is made: nothing where none is kept.
abbrev pub KeepsNotes : ConfigView → List ℕ → ℕ → ℕ → List ℕ → List Origin → FilterResult → Option (List ℕ) → Type 0
KeepsNotes config name size at text origins filter_result None = filter_result.notes.items ≡ []
KeepsNotes config name size at text origins filter_result (Some kept) = HasNotes config name size at text origins filter_result.notes.items

abbrev pub IsNotedText : ConfigView → List ℕ → ℕ → ℕ → List ℕ → List Origin → FilterResult → Type 0
IsNotedText config name size at text origins filter_result = KeepsNotes config name size at text origins filter_result (text_in filter_result)

-- So it is of a conversion.
abbrev pub IsNotedBy : ConfigView → List ℕ → ℕ → ℕ → ℕ → ConversionOutcome → FilterResult → Type 0
IsNotedBy config name size from to (LeftOut reason) filter_result = filter_result.notes.items ≡ []
IsNotedBy config name size from to (Converted words) filter_result =
    IsNotedText config name size from (text_for config from to words.items) (origins_for config from to words.items) filter_result

abbrev pub IsNoted : ConfigView → ℕ → Conversion → FilterResult → Type 0
IsNoted config size conversion filter_result = IsNotedBy config conversion.name.now size conversion.at conversion.end conversion.outcome filter_result

-- the parts of a configuration: its definitions, all of them and in order, and filters and functions that stand in its words, one behind another
pub record HasParts (words : List Word) (parts : Config) : Type 0 where
  pub of_words : parts.words.now ≡ words
  pub definitions : (definition : Definition) → Contains parts.definitions.now definition ↔ IsDefinitionIn words definition
  pub in_order : AllPairs (λ one other. one.name < other.name) parts.definitions.now
  pub items : AreItemsIn words (map view_of_item parts.items.now)

-- the last byte of a text is a slash
abbrev pub is_some_slash : Option ℕ → Bool
is_some_slash None = false
is_some_slash (Some byte) = byte == 47

abbrev pub ends_in_slash : List ℕ → Bool
ends_in_slash text = is_some_slash (slice_get text (length text - 1))

-- what stands between the path of a folder and a name in it
abbrev pub slash_behind : List ℕ → List ℕ
slash_behind folder = if ends_in_slash folder then [] else 47 ∷ []

-- a name that can be that of a file: nothing of one that is not UTF-8
unfoldable pub file_name : List ℕ → List ℕ
file_name name = if is_utf8 name then name else []

-- the path of a folder as one of the things that it holds, which no file has
abbrev pub inner_path : List ℕ → List ℕ
inner_path folder = folder ++ codes "/."

-- the path of a filter's file in a folder
abbrev pub file_path : List ℕ → List ℕ → List ℕ
file_path folder name = folder ++ slash_behind folder ++ file_name name ++ codes ".filter"

-- what is told of the file of a filter, where it has one
abbrev pub path_words : Option (List ℕ) → List ℕ
path_words None = []
path_words (Some path) = codes " -> " ++ shown path

-- what is told of what comes of a filter, to the end of the line
abbrev pub result_words : Bool → List ℕ → List ℕ
result_words true words = codes " " ++ words
result_words false words = codes ": " ++ words ++ codes ": this filter was left out" ++ 10 ∷ []

-- the line of a filter: its place, its name as it is shown, the name of its file, and what comes of it; and the lines of what else is said of it
abbrev pub result_line : ConfigView → List ℕ → FilterResult → Option (List ℕ) → List ℕ
result_line config name filter_result path = place_of config filter_result.at ++ codes " filter " ++ shown name ++ path_words path
    ++ result_words (is_some (text_in filter_result)) filter_result.words.items ++ filter_result.notes.items

-- the line that tells something of a byte of a configuration
abbrev pub byte_line : ConfigView → ℕ → List ℕ → List ℕ
byte_line config at words = place_of config at ++ codes " " ++ words ++ 10 ∷ []

-- what is told of a byte that begins no word, and of one behind which nothing is known
unfoldable pub strange_words : List ℕ
strange_words = codes "no word begins with this byte"

unfoldable pub end_words : List ℕ
end_words = codes "a comment or a text begins here that is not closed: nothing behind it was read"

-- A word that begins with a byte that begins none was told of, and it is said whether it is one.
abbrev pub TellsKind : WordKind → ConfigView → ℕ → Streams → Streams → Bool → Type 0
TellsKind Strange config at before after is_strange = Writes (byte_line config at strange_words) before after × (is_strange ≡ true)
TellsKind kind config at before after is_strange = (after ≡ before) × (is_strange ≡ false)

abbrev pub TellsWord : ConfigView → Word → Streams → Streams → Bool → Type 0
TellsWord config word before after is_strange = TellsKind word.kind config word.at before after is_strange

-- All of them were told of, and it is said whether there is one.
abbrev pub TellsStrange : ConfigView → List Word → Streams → Streams → Bool → Type 0
TellsStrange config words before after found = DoesAll false (FindsNext (TellsWord config)) words before after found

-- It was told where the words end before the end of the configuration, if they do, and it is said whether they do.
abbrev pub TellsEnd : ConfigView → Option TokenFault → Streams → Streams → Bool → Type 0
TellsEnd config None before after is_cut = (after ≡ before) × (is_cut ≡ false)
TellsEnd config (Some fault) before after is_cut = Writes (byte_line config (fault_place fault) end_words) before after × (is_cut ≡ true)

-- `opens name` says what may come of opening a file of this name.
module _ (opens : List ℕ → Result (Option (List ℕ)) Error → Type 0) where
  -- There is something of a path, or another reason why it was not opened.
  abbrev pub IsThere : List ℕ → Type 0
  IsThere path = ((held : Option (List ℕ)) × opens path (Ok held))
      ⊎ ((error : Error) × opens path (Err error) × (error_kind error ≡ NotFound → ⊥))

  -- There is nothing of it.
  abbrev pub IsMissing : List ℕ → Error → Type 0
  IsMissing path error = opens path (Err error) × (error_kind error ≡ NotFound)

  -- it is said whether a folder is given that is not there: then its name was told, once
  abbrev pub LacksFolder : Option (String Global) → Streams → Streams → Bool → Type 0
  LacksFolder None before after false = after ≡ before
  LacksFolder (Some folder) before after false = (after ≡ before) × IsThere (inner_path (string_bytes folder))
  LacksFolder None before after true = ⊥
  LacksFolder (Some folder) before after true = (error : Error) × (words : List ℕ)
      × IsMissing (inner_path (string_bytes folder)) error × Tells (uncreated_line (string_bytes folder) words) before after

-- `creates name` says what may come of making a file of this name: what it holds at first, or why there is none. `leaves name` says what a
-- new file of this name held when it was closed.
module _ (creates : List ℕ → Result (Option (List ℕ)) Error → Type 0) (leaves : List ℕ → Option (List ℕ) → Type 0) where
  -- A text was written into a new file of this path, all of it, and then that was closed.
  abbrev pub IsSaved : List ℕ → List ℕ → Type 0
  IsSaved path text = (held : Option (List ℕ)) × (holds : Option (List ℕ)) × creates path (Ok held) × Appends held holds text
      × leaves path holds

  -- There is no new file of this path, which standard error was told.
  abbrev pub IsUncreated : List ℕ → Streams → Streams → Type 0
  IsUncreated path before after = (error : Error) × (words : List ℕ) × creates path (Err error) × Tells (uncreated_line path words) before after

  -- A new file of this path got no more than a front of a text, which standard error was told.
  abbrev pub IsUnwritten : List ℕ → List ℕ → Streams → Streams → Type 0
  IsUnwritten path text before after = (held : Option (List ℕ)) × (holds : Option (List ℕ)) × creates path (Ok held) × AppendsFront held holds text
      × Tells (unwritten_line path) before after

  abbrev pub IsUnsaved : List ℕ → List ℕ → Streams → Streams → Type 0
  IsUnsaved path text before after = IsUncreated path before after ⊎ IsUnwritten path text before after

  -- it is said whether it was saved
  abbrev pub SavesText : List ℕ → List ℕ → Streams → Streams → Bool → Type 0
  SavesText path text before after true = IsSaved path text × (after ≡ before)
  SavesText path text before after false = IsUnsaved path text before after

  -- The text of a filter was written into a new file, and the filter's line was written; or it was not, and the filter is left out.
  abbrev pub SavesFilter : ConfigView → List ℕ → FilterResult → List ℕ → List ℕ → Streams → Streams → Bool → Type 0
  SavesFilter config name filter_result text path before after is_left =
      (IsSaved path text × Writes (result_line config name filter_result (Some path)) before after × (is_left ≡ false))
      ⊎ (IsUnsaved path text before after × (is_left ≡ true))

  -- What came of a filter: it was saved, where there is a folder and it is verified; and otherwise its line was written. It is said whether the
  -- filter is left out.
  abbrev pub ImportsResult : Option (String Global) → Option (List ℕ) → ConfigView → List ℕ → FilterResult → Streams → Streams → Bool → Type 0
  ImportsResult None text config name filter_result before after is_left =
      Writes (result_line config name filter_result None) before after × (is_left ≡ not (is_some text))
  ImportsResult (Some folder) None config name filter_result before after is_left = Writes (result_line config name filter_result None) before after × (is_left ≡ true)
  ImportsResult (Some folder) (Some text) config name filter_result before after is_left =
      SavesFilter config name filter_result text (file_path (string_bytes folder) name) before after is_left

  -- A filter was made of a conversion, with what else is said of it, and imported.
  pub record ImportsConversion (how : Importing) (config : ConfigView) (conversion : Conversion) (before after : Streams) (is_left : Bool) : Type 0 where
    pub filter_result : FilterResult
    pub is_filter_result : IsFilterResult config how.size conversion filter_result
    pub is_noted : IsNoted config how.size conversion filter_result
    pub imported : ImportsResult how.folder (text_in filter_result) config conversion.name.now filter_result before after is_left

  -- The filters among the parts of a configuration were imported, in order, and it is said whether one of them is left out.
  pub record ImportsParts (how : Importing) (config : ConfigView) (parts : Config) (before after : Streams) (is_left : Bool) : Type 0 where
    pub conversions : List Conversion
    pub converted : HaveConversions parts parts.items.now (length parts.items.now) conversions
    pub imported : DoesAll false (FindsNext (ImportsConversion how config)) conversions before after is_left

  -- So were those among its words.
  pub record ImportsWords (how : Importing) (config : ConfigView) (words : List Word) (before after : Streams) (is_left : Bool) : Type 0 where
    pub parts : Config
    pub has : HasParts words parts
    pub imported : ImportsParts how config parts before after is_left

  -- And then it was told of the bytes that begin no word, and where the words end before the end of the configuration. It is said whether
  -- something of it is left out: a filter, a byte, or what stands behind the words.
  pub record ImportsCut (how : Importing) (config : ConfigView) (words : List Word) (end : Option TokenFault) (before after : Streams)
      (is_left : Bool) : Type 0 where
    pub imported : Streams
    pub told : Streams
    pub is_filter_left : Bool
    pub is_strange : Bool
    pub is_cut : Bool
    pub filters : ImportsWords how config words before imported is_filter_left
    pub strange : TellsStrange config words imported told is_strange
    pub ends : TellsEnd config end told after is_cut
    pub judged : is_left ≡ (is_filter_left || is_strange || is_cut)

  -- The text of a configuration was cut into words, and imported.
  pub record ImportsConfig (how : Importing) (config : ConfigView) (before after : Streams) (is_left : Bool) : Type 0 where
    pub cut : Cut
    pub is : IsCutInto config.text cut
    pub imported : ImportsCut how config cut.words.items cut.end before after is_left

  -- The exit status says whether something of it was left out, or was when it was read.
  pub record ImportsRead (how : Importing) (config : ConfigView) (before after : Streams) (status : ℕ) : Type 0 where
    pub is_left : Bool
    pub imported : ImportsConfig how config before after is_left
    pub ends : status ≡ status_of_found (config.is_partial || is_left)

  -- `opens name` says what may come of opening a file of this name.
  module _ (opens : List ℕ → Result (Option (List ℕ)) Error → Type 0) where
    -- The configuration that a source is was read, with the files that it includes, and imported, and the exit status says whether something
    -- was left out: a file that is included, or what `ImportsCut` names. Or the source was not read, and nothing was written.
    unfoldable pub ImportsText : Importing → Source → Streams → Streams → ℕ → Type 0
    ImportsText how source before after status =
        ((config : ConfigView) × (mid : Streams) × ReadsConfig opens source config before mid × ImportsRead how config mid after status)
        ⊎ (SkipsText opens source before after × (status ≡ 1))

    -- So it was where no folder is given for the filters, or one that is there. Otherwise that was told, and nothing read.
    unfoldable pub ImportsSource : Importing → Source → Streams → Streams → ℕ → Type 0
    ImportsSource how source before after status =
        ((mid : Streams) × LacksFolder opens how.folder before mid false × ImportsText how source mid after status)
        ⊎ (LacksFolder opens how.folder before after true × (status ≡ 1))
