use Rattle.std.proofs.Common.{◌∙◌, ℕ, List, ap, subst}
use Rattle.bird_import.specs.Laying.{origins_of, text_of}
use Rattle.bird_import.specs.Texts.{HasOutcome}
use Rattle.bird_import.specs.declared.text.TextOutcome.TheVariants as text_outcome
use Rattle.ncimport.proofs.ResultTexts.{is_among, of_left, of_same, of_size, of_text, of_unset}
use Rattle.ncimport.proofs.NotedTexts.{noted_same, unnoted}
use Rattle.ncimport.proofs.importing.make_filter.Goals as goal

pub returns-in-Taken-clause-filter_result : goal.returns-in-Taken-clause-filter_result
returns-in-Taken-clause-filter_result c =
    let size = c.args.size in
    let at = c.args.conversion.now.at in
    let words = c.args.words.now in
    let written = c.in_ok-written.written in
    let text = written.text.items in
    let origins = written.origins.items in
    let is_head = c.as_slice.ensures.value ∙ c.in_ok-head.ensures in
    let same = c.in_ok-written.ensures.text ∙ ap (λ (head : List ℕ). text_of head words) is_head in
    let alike = c.in_ok-written.ensures.origins ∙ ap (λ (head : List ℕ). origins_of head words) is_head in
    let taken = subst (HasOutcome words text) c.in-Taken.is c.in_ok-written.ensures.text_outcome in
    of_same size at words c.verify_filter.result same alike
    (of_text size at words text origins c.verify_filter.result taken c.verify_filter.ensures.filter_result)

pub returns-in-Refused-clause-filter_result : goal.returns-in-Refused-clause-filter_result
returns-in-Refused-clause-filter_result c =
    let size = c.args.size in
    let at = c.args.conversion.now.at in
    let words = c.args.words.now in
    let written = c.in_ok-written.written in
    let text = written.text.items in
    let origins = written.origins.items in
    let is_head = c.as_slice.ensures.value ∙ c.in_ok-head.ensures in
    let same = c.in_ok-written.ensures.text ∙ ap (λ (head : List ℕ). text_of head words) is_head in
    let alike = c.in_ok-written.ensures.origins ∙ ap (λ (head : List ℕ). origins_of head words) is_head in
    let why = c.in-Refused.why in
    let has_outcome = subst (HasOutcome words text) c.in-Refused.is c.in_ok-written.ensures.text_outcome in
    of_same size at words c.refuse_text.result same alike
    (of_left size at words text origins (text_outcome.Refused why) c.refuse_text.result has_outcome
    (of_size size at text origins c.refuse_text.result c.refuse_text.ensures.told) c.refuse_text.ensures.text)

pub returns-in-Garbled-clause-filter_result : goal.returns-in-Garbled-clause-filter_result
returns-in-Garbled-clause-filter_result c =
    let size = c.args.size in
    let at = c.args.conversion.now.at in
    let words = c.args.words.now in
    let written = c.in_ok-written.written in
    let text = written.text.items in
    let origins = written.origins.items in
    let is_head = c.as_slice.ensures.value ∙ c.in_ok-head.ensures in
    let same = c.in_ok-written.ensures.text ∙ ap (λ (head : List ℕ). text_of head words) is_head in
    let alike = c.in_ok-written.ensures.origins ∙ ap (λ (head : List ℕ). origins_of head words) is_head in
    let has_outcome = subst (HasOutcome words text) c.in-Garbled.is c.in_ok-written.ensures.text_outcome in
    of_same size at words c.left_out.result same alike
    (of_left size at words text origins text_outcome.Garbled c.left_out.result has_outcome c.left_out.ensures.told c.left_out.ensures.text)

pub returns-clause-filter_result : goal.returns-clause-filter_result
returns-clause-filter_result c =
    let size = c.args.size in
    let at = c.args.conversion.now.at in
    let words = c.args.words.now in
    let written = c.in_ok-written.written in
    let text = written.text.items in
    let origins = written.origins.items in
    let is_head = c.as_slice.ensures.value ∙ c.in_ok-head.ensures in
    let same = c.in_ok-written.ensures.text ∙ ap (λ (head : List ℕ). text_of head words) is_head in
    let alike = c.in_ok-written.ensures.origins ∙ ap (λ (head : List ℕ). origins_of head words) is_head in
    let index = c.in-Unset.index in
    let r = c.left_out-in-Unset.result in
    let has_outcome = subst (HasOutcome words text) c.in-Unset.is c.in_ok-written.ensures.text_outcome in
    let told = of_unset words index _ r (is_among words index has_outcome.named.0) c.left_out-in-Unset.ensures.told in
    of_same size at words r same alike (of_left size at words text origins (text_outcome.Unset index) r has_outcome told c.left_out-in-Unset.ensures.text)

pub returns-in-Taken-clause-noted : goal.returns-in-Taken-clause-noted
returns-in-Taken-clause-noted c =
    let size = c.args.size in
    let at = c.args.conversion.now.at in
    let words = c.args.words.now in
    let written = c.in_ok-written.written in
    let is_head = c.as_slice.ensures.value ∙ c.in_ok-head.ensures in
    let same = c.in_ok-written.ensures.text ∙ ap (λ (head : List ℕ). text_of head words) is_head in
    let alike = c.in_ok-written.ensures.origins ∙ ap (λ (head : List ℕ). origins_of head words) is_head in
    noted_same c.args.placed.now c.args.conversion.now.name.now size at c.verify_filter.result same alike c.verify_filter.ensures.noted

pub returns-in-Refused-clause-noted : goal.returns-in-Refused-clause-noted
returns-in-Refused-clause-noted c =
    let size = c.args.size in
    let at = c.args.conversion.now.at in
    let words = c.args.words.now in
    let written = c.in_ok-written.written in
    let is_head = c.as_slice.ensures.value ∙ c.in_ok-head.ensures in
    let same = c.in_ok-written.ensures.text ∙ ap (λ (head : List ℕ). text_of head words) is_head in
    let alike = c.in_ok-written.ensures.origins ∙ ap (λ (head : List ℕ). origins_of head words) is_head in
    noted_same c.args.placed.now c.args.conversion.now.name.now size at c.refuse_text.result same alike
    (unnoted c.args.placed.now c.args.conversion.now.name.now size at written.text.items written.origins.items c.refuse_text.result c.refuse_text.ensures.text
    c.refuse_text.ensures.notes)

pub returns-in-Garbled-clause-noted : goal.returns-in-Garbled-clause-noted
returns-in-Garbled-clause-noted c =
    let size = c.args.size in
    let at = c.args.conversion.now.at in
    let words = c.args.words.now in
    let written = c.in_ok-written.written in
    let is_head = c.as_slice.ensures.value ∙ c.in_ok-head.ensures in
    let same = c.in_ok-written.ensures.text ∙ ap (λ (head : List ℕ). text_of head words) is_head in
    let alike = c.in_ok-written.ensures.origins ∙ ap (λ (head : List ℕ). origins_of head words) is_head in
    noted_same c.args.placed.now c.args.conversion.now.name.now size at c.left_out.result same alike
    (unnoted c.args.placed.now c.args.conversion.now.name.now size at written.text.items written.origins.items c.left_out.result c.left_out.ensures.text
    c.left_out.ensures.notes)

pub returns-clause-noted : goal.returns-clause-noted
returns-clause-noted c =
    let size = c.args.size in
    let at = c.args.conversion.now.at in
    let words = c.args.words.now in
    let written = c.in_ok-written.written in
    let is_head = c.as_slice.ensures.value ∙ c.in_ok-head.ensures in
    let same = c.in_ok-written.ensures.text ∙ ap (λ (head : List ℕ). text_of head words) is_head in
    let alike = c.in_ok-written.ensures.origins ∙ ap (λ (head : List ℕ). origins_of head words) is_head in
    noted_same c.args.placed.now c.args.conversion.now.name.now size at c.left_out-in-Unset.result same alike
    (unnoted c.args.placed.now c.args.conversion.now.name.now size at written.text.items written.origins.items c.left_out-in-Unset.result c.left_out-in-Unset.ensures.text
    c.left_out-in-Unset.ensures.notes)

pub bounds-words-index : goal.bounds-words-index
bounds-words-index c =
    let words = c.args.words.now in
    let has_outcome = subst (HasOutcome words c.in_ok-written.written.text.items) c.in-Unset.is c.in_ok-written.ensures.text_outcome in
    is_among words c.in-Unset.index has_outcome.named.0
