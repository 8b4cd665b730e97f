use Rattle.std.proofs.Common.{◌↔◌, ◌<◌, List, AllPairs, Contains, map, refl, subst, sym}
use Rattle.std.proofs.lemmas.Result.{IfOk-weaker}
use Rattle.bird_import.specs.Items.{AreItemsIn, IsDefinitionIn, view_of_item}
use Rattle.bird_import.specs.declared.items.Definition.{Definition}
use Rattle.bird_import.specs.declared.items.Item.{Item}
use Rattle.ncimport.proofs.importing.import_words.Goals as goal

pub returns : goal.returns
returns g c =
    let words = c.args.words.now in
    let definitions = c.in_ok-definitions.ensures in
    let same = sym c.as_slice.ensures.value in
    IfOk-weaker c.import_parts.result _ _ (λ is_left imported. record {
      parts = _;
      has = record {
        of_words = refl;
        definitions = λ definition. subst (λ (list : List Definition). Contains list definition ↔ IsDefinitionIn words definition) same
            (definitions.each definition);
        in_order = subst (λ (list : List Definition). AllPairs (λ one other. one.name < other.name) list) same definitions.order;
        items = subst (λ (list : List Item). AreItemsIn words (map view_of_item list)) (sym c.as_slice-2.ensures.value) c.in_ok-items.ensures;
      };
      imported = imported;
    }) c.import_parts.ensures
