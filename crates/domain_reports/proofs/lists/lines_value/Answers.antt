-- One line more.
use Rattle.std.proofs.Common.{◌≡◌, ◌∙◌, ℕ, List, [], ◌∷◌, ◌++◌, ap, append_assoc, append-nil, map, sym}
use Rattle.std.proofs.lemmas.List.{map-append}
use Rattle.bstr.specs.Text.{lines_of, without_terminator}
use Rattle.serde_json.specs.Data.{Data, array}
use Rattle.serde_json.specs.View.{items_of, view}
use Rattle.serde_json.specs.declared.value.Value.{Value}
use Rattle.serde_json.proofs.Views.{view-Array}
use Rattle.domain_reports.specs.Reports.{text_data}
use Rattle.domain_reports.proofs.lists.lines_value.Goals as goal

one_line : (before after : List Value) (value : Value) (line : List ℕ) (left rest : List (List ℕ)) (all : List Data) → after ≡ before ++ value ∷ [] →
    left ≡ line ∷ rest → view value ≡ text_data line → map view before ++ map text_data left ≡ all → map view after ++ map text_data rest ≡ all
one_line before after value line left rest all more first is so_far =
    ap (λ (values : List Value). map view values ++ map text_data rest) more
    ∙ ap (λ (said : List Data). said ++ map text_data rest) (map-append view before (value ∷ []))
    ∙ append_assoc (map view before) (view value ∷ []) (map text_data rest)
    ∙ ap (λ (said : Data). map view before ++ (said ∷ map text_data rest)) is
    ∙ ap (λ (lines : List (List ℕ)). map view before ++ map text_data lines) (sym first)
    ∙ so_far

all_lines : (values : List Value) (left : List (List ℕ)) (all : List Data) → left ≡ [] → map view values ++ map text_data left ≡ all → map view values ≡ all
all_lines values left all none so_far =
    sym (append-nil (map view values))
    ∙ ap (λ (lines : List (List ℕ)). map view values ++ map text_data lines) (sym none)
    ∙ so_far

pub loop-line-init : goal.loop-line-init
loop-line-init c =
    ap (λ (values : List Value). map view values ++ map text_data c.into_iter-line-iterator.result) c.new-list.ensures.items
    ∙ ap (λ (lines : List (List ℕ)). map text_data lines) (c.into_iter-line-iterator.ensures.into_iter_gives ∙ c.lines-line-items.ensures.value)

pub loop-line-preserved : goal.loop-line-preserved
loop-line-preserved c =
    one_line c.loop-line.list.items c.push.new.self.items c.in_ok-text_value.field-0 c.in-Some.line.now c.loop-line.line-iterator c.next.new.self
    (map text_data (map without_terminator (lines_of c.args.text.now))) c.in_ok-push.ensures.items c.in-Some.ensures.steps c.in_ok-text_value.ensures
    c.loop-line.invariant

pub returns : goal.returns
returns c =
    view-Array c.loop-line.list
    ∙ ap (λ (said : List Data). array (items_of said))
    (all_lines c.loop-line.list.items c.loop-line.line-iterator (map text_data (map without_terminator (lines_of c.args.text.now))) c.in-None.ensures.steps.0
    c.loop-line.invariant)
