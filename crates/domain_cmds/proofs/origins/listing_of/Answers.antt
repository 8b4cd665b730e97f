-- The listing of a text, or of a code file.
use Rattle.std.proofs.Common.{IfOk, List, ℕ, true, sym, subst, ◌∙◌}
use Rattle.operator_cmds.specs.declared.filter.FilterSource.{FilterSource}
use Rattle.domain_cmds.specs.Origins.{HasListing, IsListingOf}
use Rattle.domain_cmds.proofs.origins.listing_of.Goals as goal

pub returns-in_ok-digits-in-File : goal.returns-in_ok-digits-in-File
returns-in_ok-digits-in-File c =
    subst (λ (s : FilterSource). IfOk c.listing_in-in-File.result (λ listing. IsListingOf s listing.items)) (sym c.in-File.is)
    (subst (λ (text : List ℕ). IfOk c.listing_in-in-File.result (λ listing. HasListing true text listing.items))
    (c.as_bytes.ensures.value ∙ c.in_ok-digits-in-File.ensures) c.listing_in-in-File.ensures)
