-- What comes of a filter before its first route. (This project's own choice.)
use Rattle.std.specs.Prelude.{◌≡◌, ℕ, false, List}
use Rattle.filter_reports.specs.Checking.{IsDiagnosis}
use Rattle.filter_reports.specs.Notices.{IsNotice, Named}
use Rattle.filter_reports.specs.Reports.{ReportView}
use Rattle.filter_reports.specs.VerifiedFilters.{IsVerifiedOf, refusal_line}
use Rattle.filter_reports.specs.declared.placed.PlacedCode.{PlacedCode}
use Rattle.filter_reports.specs.declared.wording.Wording.{Wording}
use Rattle.filter_source.specs.TextPlaces.{ArePlacesOf}
use Rattle.filter_source.specs.declared.diagnosis.Diagnosis.{Diagnosis}

-- It is the verified code of a text, for domains of a size, and these are the bytes that its instructions come from.
pub record IsPlacedOf (size : ℕ) (text : List ℕ) (placed : PlacedCode) : Type 0 where
  pub verified : IsVerifiedOf size text placed.verified
  pub places : ArePlacesOf text placed.places.items

-- It is refused by a line, and this is told of it.
pub record IsFilterRefusal (size : ℕ) (wording : Wording) (source : Named) (report : ReportView) : Type 0 where
  pub why : Diagnosis
  pub diagnosed : IsDiagnosis size false source.text why
  pub written : report.out ≡ refusal_line why.refusal
  pub told : IsNotice wording source why report.err
  pub ends : report.status ≡ 1
