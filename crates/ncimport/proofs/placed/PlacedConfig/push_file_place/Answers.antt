use Rattle.std.proofs.Common.{◌≡◌, ◌∙◌, ◌++◌, List, ℕ, None, Option, Some, ap, subst, sym, append-nil}
use Rattle.std.specs.Prelude.{slice_get}
use Rattle.std.specs.Slice.{IsItemAt}
use Rattle.refusal_words.specs.Shown.{shown}
use Rattle.ncimport.specs.Places.{ConfigView, FileView, file_of, place_in}
use Rattle.ncimport.specs.declared.including.ConfigFile.{ConfigFile}
use Rattle.ncimport.proofs.FilePlaces.{adds_place, file_missing, file_there, on_ok}
use Rattle.ncimport.proofs.placed.PlacedConfig.push_file_place.Goals as goal

pub returns-in_ok-push_shown-in-Some-Some : goal.returns-in_ok-push_shown-in-Some-Some
returns-in_ok-push_shown-in-Some-Some c =
    let i = c.self.inside in
    let there = file_there i.whole.now.files.items i.positions.items c.args.index c.in-Some-Some.file c.in-Some-Some.positions c.self.invariant
    (subst (λ (l : List ConfigFile). IsItemAt l c.args.index (Some c.in-Some-Some.file)) c.deref.ensures.value c.in-Some-Some.ensures.lookup)
    (subst (λ (l : List (List ℕ)). IsItemAt l c.args.index (Some c.in-Some-Some.positions)) c.deref-2.ensures.value c.in-Some-Some.ensures'.lookup) in
    on_ok c.push_position.result
    (adds_place c.args.out.now.items c.push_shown.new.out.items c.push_position.new.out.items (file_of c.in-Some-Some.file.now)
    c.in-Some-Some.positions.now c.of-position.result.line c.of-position.result.column c.args.at (slice_get c.args.self.now.files c.args.index)
    (ap (λ (v : ConfigView). slice_get v.files c.args.index) (sym c.self.view_is) ∙ there.0) there.1 c.of-position.ensures.line
    c.of-position.ensures.column
    (c.in_ok-push_shown-in-Some-Some.ensures ∙ ap (λ (n : List ℕ). c.args.out.now.items ++ shown n) c.name_of.ensures))
    c.push_position.ensures

pub returns-in_default-2 : goal.returns-in_default-2
returns-in_default-2 c =
    let i = c.self.inside in
    let none : slice_get c.args.self.now.files c.args.index ≡ None =
    ap (λ (v : ConfigView). slice_get v.files c.args.index) (sym c.self.view_is)
    ∙ file_missing i.whole.now.files.items c.args.index
    (subst (λ (l : List ConfigFile). IsItemAt l c.args.index None) c.deref.ensures.value c.in_default.ensures.lookup) in
    sym (append-nil c.args.out.now.items) ∙ ap (λ (o : Option FileView). c.args.out.now.items ++ place_in o c.args.at) (sym none)
