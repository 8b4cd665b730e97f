-- The verified code of a text, and where in the text its instructions come from.
use Rattle.std.proofs.Common.{◌≡◌, ℕ, List, map, sym, ap, subst, ◌∙◌}
use Rattle.filter_code.specs.CodeView.{CodeView}
use Rattle.filter_syntax.specs.SyntaxText.{FilterView}
use Rattle.filter_source.specs.Sources.{Translates}
use Rattle.filter_source.specs.TextPlaces.{ArePlacesOf}
use Rattle.filter_reports.specs.VerifiedFilters.{IsVerifiedOf}
use Rattle.filter_verifier.specs.Safe.{IsSafe}
use Rattle.filter_verifier.specs.VerifiedView.{VerifiedView}
use Rattle.filter_traces.specs.TracedView.{TracedView}
use Rattle.filter_traces.specs.Whys.{IsTraceOf, site_in}
use Rattle.filter_traces.specs.declared.site.InstructionSite.{InstructionSite}

pub traced_of : (source : List ℕ) (nodes : ℕ) (places shown : List ℕ) (sites : List InstructionSite) (v : VerifiedView) (t : TracedView)
    → IsVerifiedOf nodes source v → ArePlacesOf source places → shown ≡ places → sites ≡ map (site_in source) shown
    → t ≡ record { program = v.program; size = v.size; text = source; sites = sites }
    → (filter : FilterView) × IsTraceOf source nodes filter t
traced_of source nodes places shown sites v t is are shown_is sites_is t_is =
    let program_is : v.program ≡ t.program = sym (ap (λ (x : TracedView). x.program) t_is) in (
      is.filter,
      record {
        translates = subst (λ (p : CodeView). Translates source is.filter p) program_is is.translates;
        safe = subst (λ (p : CodeView). IsSafe p nodes) program_is (subst (IsSafe v.program) is.size_is is.safe);
        for_size = ap (λ (x : TracedView). x.size) t_is ∙ is.size_is;
        of_text = ap (λ (x : TracedView). x.text) t_is;
        places = places;
        come_from = are;
        sites_are = ap (λ (x : TracedView). x.sites) t_is ∙ (sites_is ∙ ap (map (site_in source)) shown_is);
      },
    )
