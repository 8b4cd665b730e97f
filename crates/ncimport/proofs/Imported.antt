-- What comes of a filter that was made of a conversion.
use Rattle.std.proofs.Common.{◌≡◌, subst, ℕ, Bool, List, Option, Result, Ok, Err, IfOk}
use Rattle.std.specs.declared.io.Error.{Error}
use Rattle.bird_import.specs.Cutting.{IsCutInto}
use Rattle.bird_import.specs.declared.cut.Cut.{Cut}
use Rattle.bird_import.specs.declared.conversions.Conversion.{Conversion}
use Rattle.import_words.specs.declared.words.Importing.{Importing}
use Rattle.ncimport.specs.Importing.{ImportsConfig, ImportsCut, ImportsConversion, ImportsResult, IsFilterResult, IsNoted, text_in}
use Rattle.ncimport.specs.Places.{ConfigView}
use Rattle.program_console.specs.Streaming.{Streams}
use Rattle.ncimport.specs.declared.importing.FilterResult.{FilterResult}

pub of_filter_result : {E : Type 0} (creates : List ℕ → Result (Option (List ℕ)) Error → Type 0)
    (leaves : List ℕ → Option (List ℕ) → Type 0) (how : Importing) (config : ConfigView) (conversion : Conversion)
    (filter_result : FilterResult) (before after : Streams) (r : Result Bool E) → IsFilterResult config how.size conversion filter_result → IsNoted config how.size conversion filter_result
    → IfOk r (ImportsResult creates leaves how.folder (text_in filter_result) config conversion.name.now filter_result before after)
    → IfOk r (ImportsConversion creates leaves how config conversion before after)
of_filter_result creates leaves how config conversion filter_result before after (Ok left) is noted imported =
    record { filter_result = filter_result; is_filter_result = is; is_noted = noted; imported = imported }
of_filter_result creates leaves how config conversion filter_result before after (Err fault) is noted imported = tt

-- the text of a configuration was cut, and what it was cut into was imported
pub of_cut : {E : Type 0} (creates : List ℕ → Result (Option (List ℕ)) Error → Type 0)
    (leaves : List ℕ → Option (List ℕ) → Type 0) (how : Importing) (config : ConfigView) (text : List ℕ)
    (cut : Cut) (before after : Streams) (r : Result Bool E) → text ≡ config.text → IsCutInto text cut
    → IfOk r (ImportsCut creates leaves how config cut.words.items cut.end before after) → IfOk r (ImportsConfig creates leaves how config before after)
of_cut creates leaves how config text cut before after (Ok left) same is imported =
    record { cut = cut; is = subst (λ (text : List ℕ). IsCutInto text cut) same is; imported = imported }
of_cut creates leaves how config text cut before after (Err fault) same is imported = tt
