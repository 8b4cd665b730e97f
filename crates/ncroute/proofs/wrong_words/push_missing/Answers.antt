use Rattle.std.proofs.Common.{◌∙◌, ℕ, ◌++◌, List, ap}
use Rattle.router_files.specs.Options.{form_of}
use Rattle.ncroute.proofs.ThreeTexts.{joined}
use Rattle.ncroute.proofs.wrong_words.push_missing.Goals as goal

pub returns : goal.returns
returns c =
    let said : List ℕ = c.extend_from_slice.new.self.items in
    joined c.extend_from_slice-3.result c.extend_from_slice-3.new.self.items c.extend_from_slice-2.new.self.items said c.args.line.now.items _
    (form_of c.args.option) _ c.extend_from_slice-3.ensures.items
    (c.in_ok-extend_from_slice-2.ensures.items ∙ ap (λ (l : List ℕ). said ++ l) (c.as_bytes.ensures.value ∙ c.form.ensures))
    c.in_ok-extend_from_slice.ensures.items
