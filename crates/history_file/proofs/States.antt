-- The text of a state from its parts.
use Rattle.std.proofs.Common.{◌≡◌, ℕ, ◌<◌, ◌^◌, List, [], ◌∷◌, ◌++◌, length, map, decimal, codes, Result, Ok, Err, OnOk, refl, sym, ◌∙◌, ap, arith, append_assoc}
use Rattle.std.proofs.lemmas.List.{length-map, map-append}
use Rattle.netchange_core.specs.World.{NeighbourView, World}
use Rattle.netchange_core.specs.declared.message.Message.{Message}
use Rattle.history_file.proofs.Rows.{spaced_both, table_text}
use Rattle.history_lines.specs.Fits.{FitsOpening}
use Rattle.history_file.specs.Numbering.{AreNumbered, row_of, rows_text}
use Rattle.history_file.specs.Segments.{AddsState, end_text, filters_text, mark_line, nodes_text, place_line, state_text}
use Rattle.history_lines.specs.Keywords.{keyword_text}
use Rattle.history_file.specs.Segments.{link_words, node_line, use_words}
use Rattle.history_lines.specs.Text.{message_word, spaced}
use Rattle.history_lines.specs.declared.keyword.HistoryKeyword.TheVariants as word
use Rattle.history_file.specs.declared.numbering.Uses.{Uses}

-- one part before the others
before : (new x y part others : List ℕ) → new ≡ x ++ others → x ≡ y ++ part → new ≡ y ++ (part ++ others)
before new x y part others e is = e ∙ ap (λ t. t ++ others) is ∙ append_assoc y part others

-- words after others, of an event that may have been refused memory
pub queue_added : {A E : Type 0} (r : Result A E) (old word a b new : List ℕ) (ms ls all : List Message) → a ≡ old ++ word →
    b ≡ a ++ spaced (map message_word ms) → ms ++ ls ≡ all → OnOk r (new ≡ b ++ spaced (map message_word ls)) →
    OnOk r (new ≡ old ++ (word ++ spaced (map message_word all)))
queue_added (Ok x) old word a b new ms ls all a_is b_is whole last =
    let both : spaced (map message_word ms) ++ spaced (map message_word ls) ≡ spaced (map message_word all) =
    sym (spaced_both (map message_word ms) (map message_word ls)) ∙ ap spaced (sym (map-append message_word ms ls))
    ∙ ap (λ zs. spaced (map message_word zs)) whole in
    before new a old word _ (before new b a (spaced (map message_word ms)) (spaced (map message_word ls)) last b_is) a_is
    ∙ ap (λ t. old ++ (word ++ t)) both
queue_added (Err e) old word a b new ms ls all a_is b_is whole last = tt

pub node_added : {A E : Type 0} (r : Result A E) (k m : ℕ) (u : Uses) (n : NeighbourView) (told old a b c d new : List ℕ) →
    a ≡ old ++ codes "node" → b ≡ a ++ 32 ∷ decimal m → m ≡ k → c ≡ b ++ spaced (use_words (keyword_text word.Import) u.imports) →
    d ≡ c ++ spaced (use_words (keyword_text word.Export) u.exports) → told ≡ n.advertised →
    OnOk r (new ≡ d ++ spaced (link_words n.session told)) → OnOk r (new ≡ old ++ node_line k u n)
node_added (Ok x) k m u n told old a b c d new a_is b_is same c_is d_is told_is last =
    let imports = use_words (keyword_text word.Import) u.imports in
    let exports = use_words (keyword_text word.Export) u.exports in
    let link = link_words n.session n.advertised in
    let words = imports ++ (exports ++ link) in
    let end : new ≡ d ++ spaced link = last ∙ ap (λ z. d ++ spaced (link_words n.session z)) told_is in
    let one = before new d c (spaced exports) (spaced link) end d_is in
    let two = before new c b (spaced imports) (spaced exports ++ spaced link) one c_is in
    let all : spaced imports ++ (spaced exports ++ spaced link) ≡ spaced words =
    ap (λ t. spaced imports ++ t) (sym (spaced_both exports link)) ∙ sym (spaced_both imports (exports ++ link)) in
    let three : new ≡ a ++ spaced (decimal m ∷ words) =
    before new b a (32 ∷ decimal m) (spaced words) (two ∙ ap (λ t. b ++ t) all) b_is in
    before new a old (codes "node") (spaced (decimal m ∷ words)) three a_is ∙ ap (λ j. old ++ (codes "node" ++ spaced (decimal j ∷ words))) same
node_added (Err e) k m u n told old a b c d new a_is b_is same c_is d_is told_is last = tt

pub state_added : (room at : ℕ) (w : World) (rows : List (List ℕ)) (uses : List Uses) (old a b c d e f new : List ℕ) →
    FitsOpening w.opening room → AreNumbered w.neighbours rows uses w.opening.size → length rows < 2 ^ 64 →
    a ≡ old ++ mark_line w.opening room → b ≡ a ++ 10 ∷ [] → c ≡ b ++ place_line at w.sessions → d ≡ c ++ 10 ∷ [] →
    e ≡ d ++ rows_text 0 rows → f ≡ e ++ nodes_text 0 uses w.neighbours → new ≡ f ++ end_text → AddsState room at w old new
state_added room at w rows uses old a b c d e f new opening n few a_is b_is c_is d_is e_is f_is new_is =
    let nodes = nodes_text 0 uses w.neighbours ++ end_text in
    let filters = filters_text 0 n.table ++ nodes in
    let place = place_line at w.sessions ++ 10 ∷ filters in
    let rows_are : rows_text 0 rows ≡ filters_text 0 n.table = ap (rows_text 0) n.are_rows.rows_are ∙ table_text 0 n.table in
    let one = before new f e (nodes_text 0 uses w.neighbours) end_text new_is f_is in
    let two = before new e d (filters_text 0 n.table) nodes one (e_is ∙ ap (λ t. d ++ t) rows_are) in
    let three : new ≡ c ++ 10 ∷ filters = before new d c (10 ∷ []) filters two d_is in
    let four = before new c b (place_line at w.sessions) (10 ∷ filters) three c_is in
    let five : new ≡ a ++ 10 ∷ place = before new b a (10 ∷ []) place four b_is in
    let six = before new a old (mark_line w.opening room) (10 ∷ place) five a_is in
    record {
      text = state_text room at w n.table uses;
      added = six;
      is_text = record {
        table = n.table;
        uses = uses;
        opening = opening;
        filters = n.are_rows.is_table;
        few = omega (arith, few, ap length n.are_rows.rows_are, length-map n.table row_of);
        one_a_node = n.one_a_node;
        each = n.each;
        text_is = refl;
      };
    }
