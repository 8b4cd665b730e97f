use Rattle.std.proofs.Common.{◌∙◌, ℕ, Bool, false, List, Option, codes, length, refl, sym, ap}
use Rattle.std.proofs.lemmas.Option.{slice_get-map, slice_get_past, slice_get_read}
use Rattle.std.specs.Option.{option_map, option_map_or}
use Rattle.std.specs.Str.{bytes_eq}
use Rattle.command_line.proofs.words.asks_for_import.Goals as goal

-- a word is `import`, if there is one
abbrev asks : Option (List ℕ) → Bool
asks word = option_map_or (λ w. bytes_eq w (codes "import")) word false

pub returns-in-Some : goal.returns-in-Some
returns-in-Some g c =
    let words = c.args.words.now in
    let found = c.in-Some.ensures.lookup in
    let is = slice_get_read words (length words) 1 c.in-Some.word.now refl found.3.0 found.1 in
    c.eq.ensures ∙ ap (λ w. bytes_eq w (codes "import")) c.as_str.ensures
    ∙ ap asks (sym (slice_get-map g.S.AsStr.text words 1 ∙ ap (option_map g.S.AsStr.text) is))

pub returns-in-None : goal.returns-in-None
returns-in-None g c =
    let words = c.args.words.now in
    ap asks (sym (slice_get-map g.S.AsStr.text words 1 ∙ ap (option_map g.S.AsStr.text) (slice_get_past words 1 c.in-None.ensures.lookup.3)))
