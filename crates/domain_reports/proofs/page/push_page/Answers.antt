-- The page has its parts in their order.
use Rattle.std.proofs.Common.{◌∙◌, ℕ, ◌++◌, List, ap, codes}
use Rattle.serde_json.specs.Data.{Data}
use Rattle.serde_json.specs.Written.{has_float}
use Rattle.domain_reports.specs.Pages.{data_element}
use Rattle.domain_reports.specs.Reports.{domain_data, text_data}
use Rattle.domain_reports.specs.Views.{domain_view}
use Rattle.domain_reports.proofs.Floats.{domain_without_floats}
use Rattle.domain_reports.proofs.Joining.{joined}
use Rattle.domain_reports.proofs.page.push_page.Goals as goal

pub push_element-requires-2 : goal.push_element-requires-2
push_element-requires-2 c = ap has_float c.in_ok-value.ensures ∙ domain_without_floats (domain_view c.args.domain.now)

pub returns : goal.returns
returns c =
    let old : List ℕ = c.args.out.now.items in
    let begun : List ℕ = c.extend_from_slice.new.self.items in
    let named : List ℕ = c.push_element.new.out.items in
    let filled : List ℕ = c.push_element-2.new.out.items in
    joined c.extend_from_slice-2.result old begun named filled c.extend_from_slice-2.new.self.items
    c.args.shell.before.now (data_element (codes "file") (text_data c.args.name.now))
    (data_element (codes "domain") (domain_data (domain_view c.args.domain.now))) c.as_bytes-2.result.now c.args.shell.behind.now
    (c.in_ok-extend_from_slice.ensures.items ∙ ap (λ (bytes : List ℕ). old ++ bytes) c.as_bytes.ensures.value)
    (c.in_ok-push_element.ensures ∙ ap (λ (value : Data). begun ++ data_element (codes "file") value) c.in_ok-file.ensures)
    (c.in_ok-push_element-2.ensures ∙ ap (λ (value : Data). named ++ data_element (codes "domain") value) c.in_ok-value.ensures)
    c.extend_from_slice-2.ensures.items c.as_bytes-2.ensures.value
