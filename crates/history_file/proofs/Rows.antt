-- A table of filters, its rows, and how it grows.
use Rattle.std.proofs.Common.{◌≡◌, ◌⊎◌, ℕ, suc, ◌+◌, ◌<◌, List, [], ◌∷◌, ◌++◌, length, map, drop, get_or, Option, Some, None, Vec, refl, sym, ◌∙◌}
use Rattle.std.proofs.Common.{ap, arith, subst, inl, inr, append_assoc, append-nil, length-append, codes}
use Rattle.std.specs.List.{All}
use Rattle.std.specs.declared.alloc.Global.{Global}
use Rattle.std.proofs.lemmas.Bool.{cases_lt}
use Rattle.std.proofs.lemmas.List.{at_drop_more, get_or-map, get_or_append_left, get_or_push, get_or_default, length-map, length_push, map_push}
use Rattle.std.proofs.lemmas.List.Elements.{All-nil, All-push}
use Rattle.filter_verifier.specs.VerifiedView.{VerifiedView}
use Rattle.line_protocol.specs.Words.{words}
use Rattle.netchange_core.specs.World.{NeighbourView, neighbour_at}
use Rattle.history_file.proofs.Again.{filter_again}
use Rattle.history_file.proofs.LinePlain.{plain-filter, plain-mark}
use Rattle.history_file.proofs.Plain.{words-spaced}
use Rattle.history_lines.specs.Fits.{FitsFilter}
use Rattle.history_file.specs.Numbering.{AreNumbered, AreRows, Extends, IsFound, IsNumbered, IsNumberedIn, IsRow, row_of, rows_text, texts_of}
use Rattle.history_file.specs.Reading.{first_filter}
use Rattle.history_file.specs.Segments.{AreUses, IsTable, IsUse, filters_text, filter_line, nodes_text, node_text, uses_at}
use Rattle.history_lines.specs.Text.{filter_words, spaced}
use Rattle.history_file.specs.declared.numbering.Uses.{Uses}

some_is : {A : Type 0} (x y : A) → Some x ≡ Some y → x ≡ y
some_is x y e = cc

-- words after others
pub spaced_both : (xs ys : List (List ℕ)) → spaced (xs ++ ys) ≡ spaced xs ++ spaced ys
spaced_both [] ys = refl
spaced_both (x ∷ xs) ys =
    ap (λ t. 32 ∷ (x ++ t)) (spaced_both xs ys) ∙ sym (ap (λ t. 32 ∷ t) (append_assoc x (spaced xs) (spaced ys)))

-- a row is of one filter
one_row : (f g : VerifiedView) → FitsFilter f → FitsFilter g → row_of f ≡ row_of g → f ≡ g
one_row f g p q e =
    let mark = codes "NCH1" in
    let left : words (mark ++ row_of f) ≡ mark ∷ filter_words f = words-spaced mark (filter_words f) plain-mark (plain-filter f p) in
    let right : words (mark ++ row_of g) ≡ mark ∷ filter_words g = words-spaced mark (filter_words g) plain-mark (plain-filter g q) in
    let same : mark ∷ filter_words f ≡ mark ∷ filter_words g = sym left ∙ ap (λ row. words (mark ++ row)) e ∙ right in
    let read = sym (filter_again f [] p) ∙ ap (λ ws. first_filter (drop 1 ws ++ [])) same ∙ filter_again g [] q in
    ap (λ (z : VerifiedView × List (List ℕ)). z.0) (some_is (f, []) (g, []) read)

-- the rows of a table have its text
pub table_text : (k : ℕ) (fs : List VerifiedView) → rows_text k (map row_of fs) ≡ filters_text k fs
table_text k [] = refl
table_text k (f ∷ fs) = ap (λ t. filter_line k f ++ 10 ∷ t) (table_text (suc k) fs)

-- the text of a list of texts, by its place
pub found_there : (vs : List (Vec ℕ Global)) (k : ℕ) (row : List ℕ) (v : Vec ℕ Global) → k < length vs → v ≡ get_or vs k v → v.items ≡ row →
    IsFound (texts_of vs) row (Some k)
found_there vs k row v h is e =
    (omega (arith, length-map vs (λ x. x.items)), get_or-map (λ x. x.items) vs k v row h ∙ ap (λ x. x.items) (sym is) ∙ e)

-- a row has its filter's number in the table
at_row : (table : List VerifiedView) (f : VerifiedView) (k : ℕ) → All FitsFilter table → FitsFilter f → k < length table →
    get_or (map row_of table) k (row_of f) ≡ row_of f → get_or table k f ≡ f
at_row table f k all fits h e = one_row (get_or table k f) f (all k f h) fits (sym (get_or-map row_of table k f (row_of f) h) ∙ e)

-- a table with one filter more, which it did not have
one_filter_more : (table : List VerifiedView) (f : VerifiedView) → IsTable table → FitsFilter f → IsFound (map row_of table) (row_of f) None →
    IsTable (table ++ f ∷ [])
one_filter_more table f is fits none = record { fits = All-push FitsFilter table f is.fits fits; once = once }
  where
    before : (j : ℕ) (d : VerifiedView) → j < length table → get_or table j d ≡ f → ⊥
    before j d h e = none j (row_of d) (omega (arith, length-map table row_of)) (get_or-map row_of table j d (row_of d) h ∙ ap row_of e)

    once : (j k : ℕ) (d : VerifiedView) → j < k → k < length (table ++ f ∷ []) → get_or (table ++ f ∷ []) j d ≡ get_or (table ++ f ∷ []) k d → ⊥
    once j k d less within e =
        let short : j < length table = omega (arith, length_push table f) in
        let first = sym (get_or_append_left table (f ∷ []) d j short) ∙ e in
        elim (cases_lt k (length table)) [
          | inl below ↦ is.once j k d less below (first ∙ get_or_append_left table (f ∷ []) d k below)
          | inr above ↦ before j d short (first ∙ get_or_push table f d k (omega (arith, length_push table f)))
        ]

-- a filter with its number in rows
pub numbered_row : (rows : List (List ℕ)) (f : VerifiedView) (new : List (List ℕ)) (k : ℕ) → FitsFilter f → IsRow rows (row_of f) new k →
    IsNumbered rows (Some f) new (Some k)
numbered_row rows f new k fits (inl (found, same)) table are = record {
  grown = table;
  extends = ([], sym (append-nil table));
  are_rows = record { is_table = are.is_table; rows_are = same ∙ are.rows_are };
  is_use =
      let there : k < length table = omega (arith, found.0, ap length are.rows_are, length-map table row_of) in
      (there, at_row table f k are.is_table.fits fits there (ap (λ rs. get_or rs k (row_of f)) (sym are.rows_are) ∙ found.1));
}
numbered_row rows f new k fits (inr (none, last, pushed)) table are = record {
  grown = table ++ f ∷ [];
  extends = (f ∷ [], refl);
  are_rows = record {
    is_table = one_filter_more table f are.is_table fits (subst (λ rs. IsFound rs (row_of f) None) are.rows_are none);
    rows_are = pushed ∙ ap (λ rs. rs ++ row_of f ∷ []) are.rows_are ∙ sym (map_push row_of table f);
  };
  is_use =
      let long : length table ≡ k = omega (arith, last, ap length are.rows_are, length-map table row_of) in
      (omega (arith, long, length_push table f), get_or_push table f f k long);
}

-- no filter has no number
pub numbered_none : (rows : List (List ℕ)) → IsNumbered rows None rows None
numbered_none rows table are = record { grown = table; extends = ([], sym (append-nil table)); are_rows = are; is_use = tt }

-- a number stays as the table grows
use_kept : (a b : List VerifiedView) (f : Option VerifiedView) (u : Option ℕ) → Extends a b → IsUse a f u → IsUse b f u
use_kept a b None None more h = tt
use_kept a b (Some f) (Some k) (more, is) h =
    (omega (arith, ap length is, length-append a more, h.0), ap (λ t. get_or t k f) is ∙ get_or_append_left a more f k h.0 ∙ h.1)
use_kept a b None (Some k) more h = absurd h
use_kept a b (Some f) None more h = absurd h

extends_both : (a b c : List VerifiedView) → Extends a b → Extends b c → Extends a c
extends_both a b c (m, e) (n, f) = (m ++ n, f ∙ ap (λ t. t ++ n) e ∙ append_assoc a m n)

-- no node has been numbered
pub none_numbered : (ns : List NeighbourView) → AreNumbered ns [] [] 0
none_numbered ns = record {
  table = [];
  are_rows = record { is_table = record { fits = All-nil FitsFilter; once = λ j k d less within e. absurd (omega (arith, within)) }; rows_are = refl };
  one_a_node = refl;
  each = λ k h. absurd (omega (arith, h));
}

-- one node more
pub one_numbered : (ns : List NeighbourView) (r s t : List (List ℕ)) (uses : List Uses) (n : ℕ) (u : Uses) → AreNumbered ns r uses n →
    IsNumbered r (neighbour_at ns n).imports s u.imports → IsNumbered s (neighbour_at ns n).exports t u.exports →
    AreNumbered ns t (uses ++ u ∷ []) (n + 1)
one_numbered ns r s t uses n u so_far first second =
    let one = first so_far.table so_far.are_rows in
    let two = second one.grown one.are_rows in
    let all = extends_both so_far.table one.grown two.grown one.extends two.extends in
    record {
      table = two.grown;
      are_rows = two.are_rows;
      one_a_node = length_push uses u ∙ ap (λ k. k + 1) so_far.one_a_node;
      each = λ k h.
          elim (cases_lt k n) [
            | inl below ↦
                let old = so_far.each k below in
                let is : uses_at (uses ++ u ∷ []) k ≡ uses_at uses k =
                get_or_append_left uses (u ∷ []) _ k (omega (arith, below, so_far.one_a_node)) in
                subst (AreUses two.grown (neighbour_at ns k)) (sym is) (record {
                  imports = use_kept so_far.table two.grown _ _ all old.imports;
                  exports = use_kept so_far.table two.grown _ _ all old.exports;
                })
            | inr above ↦
                let here : n ≡ k = omega (arith, above, h) in
                let is : uses_at (uses ++ u ∷ []) k ≡ u = get_or_push uses u _ k (so_far.one_a_node ∙ here) in
                subst (λ j. AreUses two.grown (neighbour_at ns j) (uses_at (uses ++ u ∷ []) k)) here
                (subst (AreUses two.grown (neighbour_at ns n)) (sym is) (record {
                  imports = use_kept one.grown two.grown _ _ two.extends one.is_use;
                  exports = two.is_use;
                }))
          ];
    }

-- the lines of the rows that are left, the next one first
pub rows_next : (vs : List (Vec ℕ Global)) (k : ℕ) (v : Vec ℕ Global) → k < length vs → v ≡ get_or vs k v →
    rows_text k (texts_of (drop k vs)) ≡ rows_text k (v.items ∷ texts_of (drop (k + 1) vs))
rows_next vs k v h is =
    at_drop_more (λ rest. rows_text k (texts_of rest)) vs k v h ∙ ap (λ x. rows_text k (x.items ∷ texts_of (drop (k + 1) vs))) (sym is)

-- the lines of the nodes that are left, the next one first
pub nodes_next : (us : List Uses) (ns : List NeighbourView) (k : ℕ) (u : Uses) → k < length us → u ≡ get_or us k u →
    nodes_text k (drop k us) ns ≡ node_text k u (neighbour_at ns k) ++ nodes_text (suc k) (drop (k + 1) us) ns
nodes_next us ns k u h is =
    at_drop_more (λ rest. nodes_text k rest ns) us k u h ∙ ap (λ x. nodes_text k (x ∷ drop (k + 1) us) ns) (sym is)

-- a row that was not there is pushed
pub row_pushed : (vs : List (Vec ℕ Global)) (v : Vec ℕ Global) (new : List (Vec ℕ Global)) (k : ℕ) → IsFound (texts_of vs) v.items None →
    k ≡ length vs → new ≡ vs ++ v ∷ [] → IsRow (texts_of vs) v.items (texts_of new) k
row_pushed vs v new k none is pushed =
    inr (none, is ∙ sym (length-map vs (λ x. x.items)), ap texts_of pushed ∙ map_push (λ x. x.items) vs v)

-- one row more is another
pub not_yet : (vs : List (Vec ℕ Global)) (n : ℕ) (row : List ℕ) (v : Vec ℕ Global) → n < length vs → v ≡ get_or vs n v → (v.items ≡ row → ⊥) →
    ((k : ℕ) (d : List ℕ) → k < n → get_or (texts_of vs) k d ≡ row → ⊥) → (k : ℕ) (d : List ℕ) → k < n + 1 →
    get_or (texts_of vs) k d ≡ row → ⊥
not_yet vs n row v within is other so_far k d h e =
    elim (cases_lt k n) [
      | inl below ↦ so_far k d below e
      | inr above ↦
          let here : k ≡ n = omega (arith, above, h) in
          other (ap (λ x. x.items) is ∙ sym (get_or-map (λ x. x.items) vs n v d within) ∙ ap (λ j. get_or (texts_of vs) j d) (sym here) ∙ e)
    ]
