-- A text tells at most one state.
use Rattle.std.proofs.Common.{◌≡◌, ◌⊎◌, ℕ, zero, suc, ◌+◌, ◌^◌, ◌<◌, ◌≤◌, Bool, List, [], ◌∷◌, ◌++◌, length, map, drop, get_or, Option, Some, None}
use Rattle.std.proofs.Common.{refl, sym, ◌∙◌, ap, arith, subst, append_assoc, decimal, codes, lit<}
use Rattle.std.specs.List.{All, AllByRecursion}
use Rattle.std.proofs.lemmas.List.{get_or-map, get_or_default, same_lists}
use Rattle.std.proofs.lemmas.List.Elements.{All-head, All-tail, All-weaker, recursion_from_All}
use Rattle.filter_verifier.specs.VerifiedView.{VerifiedView}
use Rattle.line_protocol.specs.Words.{words}
use Rattle.netchange_core.specs.Consistent.{IsConsistent, IsConsistentNeighbour, IsMessage}
use Rattle.netchange_core.specs.Next.{last_session}
use Rattle.netchange_core.specs.OpeningView.{OpeningView}
use Rattle.netchange_core.specs.World.{NeighbourView, World, neighbour_at, nobody}
use Rattle.netchange_core.specs.declared.message.Message.{Message}
use Rattle.prefix_patterns.proofs.Tokens.{parts_at-joined}
use Rattle.prefix_patterns.specs.Reading.{number_in, parts_at}
use Rattle.history_file.proofs.Again.{filter_again, messages_again, opening_again}
use Rattle.history_file.proofs.LinePlain.{computed, plain-filter, plain-keyword, plain-messages, plain-opening}
use Rattle.history_file.proofs.Lines.{opening_from, parts_of}
use Rattle.history_file.proofs.Numbers.{number_in-decimal}
use Rattle.history_file.proofs.Plain.{ArePlain, IsPlain, are_plain-append, line_bytes, no_feed, plain-decimal, words-spaced}
use Rattle.history_lines.specs.Fits.{FitsFilter, FitsMessage, FitsOpening}
use Rattle.history_lines.specs.Keywords.{keyword_text}
use Rattle.history_file.specs.Reading.{OpeningParts, all_messages, first_filter, opening_parts}
use Rattle.history_file.specs.Segments.{AreUses, IsOneState, IsStateText, IsTable, IsUse, end_text, filters_text, filter_line, link_words, mark_line, node_line, node_text}
use Rattle.history_file.specs.Segments.{node_words, nodes_text, place_line, place_words, queue_line, queue_text, state_text, use_words, uses_at}
use Rattle.history_lines.specs.Text.{filter_words, message_word, opening_words, spaced}
use Rattle.history_lines.specs.declared.keyword.HistoryKeyword.TheVariants as word
use Rattle.history_file.specs.declared.numbering.Uses.{Uses}

some_is : {A : Type 0} (x y : A) → Some x ≡ Some y → x ≡ y
some_is x y e = cc

-- a line of words, and what follows it
abbrev Line : List ℕ → List (List ℕ) → List ℕ → List ℕ
Line w ws later = (w ++ spaced ws) ++ 10 ∷ later

line_cut : (w : List ℕ) (ws : List (List ℕ)) (later : List ℕ) → IsPlain w → ArePlain ws →
    parts_at 10 (Line w ws later) ≡ Some (w ++ spaced ws, later)
line_cut w ws later p q = parts_at-joined 10 (w ++ spaced ws) later (no_feed (w ++ spaced ws) (line_bytes w ws p q))

-- texts that begin with the same bytes begin with the same words
same_line : (w v : List ℕ) (ws vs : List (List ℕ)) (x y : List ℕ) → IsPlain w → ArePlain ws → IsPlain v → ArePlain vs →
    Line w ws x ≡ Line v vs y → ((w ∷ ws) ≡ (v ∷ vs)) × (x ≡ y)
same_line w v ws vs x y p q r s e =
    let one = line_cut w ws x p q in
    let two = ap (parts_at 10) e ∙ line_cut v vs y r s in
    let both = some_is (w ++ spaced ws, x) (v ++ spaced vs, y) (sym one ∙ two) in
    let lines : w ++ spaced ws ≡ v ++ spaced vs = ap (λ (z : List ℕ × List ℕ). z.0) both in
    (sym (words-spaced w ws p q) ∙ ap words lines ∙ words-spaced v vs r s, ap (λ (z : List ℕ × List ℕ). z.1) both)

-- numbers that are written alike
same_number : (m n : ℕ) → m < 2 ^ 64 → n < 2 ^ 64 → decimal m ≡ decimal n → m ≡ n
same_number m n p q e =
    some_is m n (sym (number_in-decimal (2 ^ 64) m (omega (arith, p)) p) ∙ ap (number_in (2 ^ 64)) e ∙ number_in-decimal (2 ^ 64) n (omega (arith, q)) q)

-- the first byte of the first of some words, and some other parts of lists of words
abbrev first_byte : List (List ℕ) → ℕ
first_byte ws = get_or (get_or ws 0 []) 0 0

abbrev nth : ℕ → List (List ℕ) → List ℕ
nth k ws = get_or ws k []

-- the words that begin lines
plain-node : IsPlain (codes "node")
plain-node = computed (codes "node") (lit< tt) refl

plain-filter-word : IsPlain (codes "filter")
plain-filter-word = computed (codes "filter") (lit< tt) refl

plain-queue : IsPlain (codes "queue")
plain-queue = computed (codes "queue") (lit< tt) refl

plain-at : IsPlain (codes "at")
plain-at = computed (codes "at") (lit< tt) refl

plain-sessions : IsPlain (codes "sessions")
plain-sessions = computed (codes "sessions") (lit< tt) refl

plain-segment : IsPlain (codes "NCH2")
plain-segment = computed (codes "NCH2") (lit< tt) refl

-- bytes that begin with a line whose first word begins with this byte
record BeginsBy (byte : ℕ) (bytes : List ℕ) : Type 0 where
  w : List ℕ
  ws : List (List ℕ)
  later : List ℕ
  plain : IsPlain w
  each : ArePlain ws
  is : bytes ≡ Line w ws later
  first : get_or w 0 0 ≡ byte

-- no bytes begin with two words
no_two : (a b : ℕ) (x : List ℕ) → BeginsBy a x → BeginsBy b x → a ≡ b
no_two a b x p q =
    let same = same_line p.w q.w p.ws q.ws p.later q.later p.plain p.each q.plain q.each (sym p.is ∙ q.is) in
    sym p.first ∙ ap first_byte same.0 ∙ q.first

-- tables of filters
plain-row : (k : ℕ) (f : VerifiedView) → k < 2 ^ 64 → FitsFilter f → ArePlain (decimal k ∷ filter_words f)
plain-row k f fits h = (plain-decimal k fits, plain-filter f h)

row_begins : (k : ℕ) (f : VerifiedView) (fs : List VerifiedView) (x : List ℕ) → k < 2 ^ 64 → FitsFilter f →
    BeginsBy 102 (filters_text k (f ∷ fs) ++ x)
row_begins k f fs x fits h = record {
  w = codes "filter";
  ws = decimal k ∷ filter_words f;
  later = filters_text (suc k) fs ++ x;
  plain = plain-filter-word;
  each = plain-row k f fits h;
  is = append_assoc (filter_line k f) (10 ∷ filters_text (suc k) fs) x;
  first = refl;
}

one_filter : (k : ℕ) (f g : VerifiedView) → FitsFilter f → FitsFilter g →
    (codes "filter" ∷ decimal k ∷ filter_words f) ≡ (codes "filter" ∷ decimal k ∷ filter_words g) → f ≡ g
one_filter k f g p q e =
    let read = sym (filter_again f [] p) ∙ ap (λ ws. first_filter (drop 2 ws ++ [])) e ∙ filter_again g [] q in
    ap (λ (z : VerifiedView × List (List ℕ)). z.0) (some_is (f, []) (g, []) read)

same_tables : (k : ℕ) (fs gs : List VerifiedView) (x y : List ℕ) → k + length fs < 2 ^ 64 → k + length gs < 2 ^ 64 →
    AllByRecursion FitsFilter fs → AllByRecursion FitsFilter gs → BeginsBy 110 x → BeginsBy 110 y →
    filters_text k fs ++ x ≡ filters_text k gs ++ y → (fs ≡ gs) × (x ≡ y)
same_tables k [] [] x y m n p q a b e = (refl, e)
same_tables k [] (g ∷ gs) x y m n p q a b e =
    absurd (omega (arith, no_two 110 102 x a (subst (BeginsBy 102) (sym e) (row_begins k g gs y (omega arith) q.0))))
same_tables k (f ∷ fs) [] x y m n p q a b e =
    absurd (omega (arith, no_two 110 102 y b (subst (BeginsBy 102) e (row_begins k f fs x (omega arith) p.0))))
same_tables k (f ∷ fs) (g ∷ gs) x y m n p q a b e =
    let one = append_assoc (filter_line k f) (10 ∷ filters_text (suc k) fs) x in
    let two = append_assoc (filter_line k g) (10 ∷ filters_text (suc k) gs) y in
    let same = same_line (codes "filter") (codes "filter") (decimal k ∷ filter_words f) (decimal k ∷ filter_words g)
    (filters_text (suc k) fs ++ x) (filters_text (suc k) gs ++ y) plain-filter-word (plain-row k f (omega arith) p.0) plain-filter-word
    (plain-row k g (omega arith) q.0) (sym one ∙ e ∙ two) in
    let first : f ≡ g = one_filter k f g p.0 q.0 same.0 in
    let others = same_tables (suc k) fs gs x y (omega arith) (omega arith) p.1 q.1 a b same.1 in
    (ap (λ z. z ∷ fs) first ∙ ap (λ zs. g ∷ zs) others.0, others.1)

-- numbers of filters, behind which other words come
abbrev fits_use : Option ℕ → Type 0
fits_use None = Unit {0}
fits_use (Some k) = k < 2 ^ 64

same_use : (text : List ℕ) (a b : Option ℕ) (xs ys : List (List ℕ)) → fits_use a → fits_use b →
    (nth 0 xs ≡ text → ⊥) → (nth 0 ys ≡ text → ⊥) → use_words text a ++ xs ≡ use_words text b ++ ys → (a ≡ b) × (xs ≡ ys)
same_use text None None xs ys p q left right e = (refl, e)
same_use text (Some j) None xs ys p q left right e = absurd (right (sym (ap (nth 0) e)))
same_use text None (Some k) xs ys p q left right e = absurd (left (ap (nth 0) e))
same_use text (Some j) (Some k) xs ys p q left right e = (ap Some (same_number j k p q (ap (nth 1) e)), ap (drop 2) e)

not_import : (u : Option ℕ) (s : Option ℕ) (a : List ℕ) → nth 0 (use_words (keyword_text word.Export) u ++ link_words s a) ≡ keyword_text word.Import → ⊥
not_import (Some k) s a e = absurd (omega (arith, ap (λ w. get_or w 0 0) e))
not_import None None a e = absurd (omega (arith, ap (λ w. get_or w 0 0) e))
not_import None (Some s) a e = absurd (omega (arith, ap (λ w. get_or w 0 0) e))

not_export : (s : Option ℕ) (a : List ℕ) → nth 0 (link_words s a) ≡ keyword_text word.Export → ⊥
not_export None a e = absurd (omega (arith, ap (λ w. get_or w 0 0) e))
not_export (Some s) a e = absurd (omega (arith, ap (λ w. get_or w 0 0) e))

same_distances : (xs ys : List ℕ) → AllByRecursion (λ d. d < 2 ^ 64) xs → AllByRecursion (λ d. d < 2 ^ 64) ys → map decimal xs ≡ map decimal ys → xs ≡ ys
same_distances [] [] p q e = refl
same_distances [] (y ∷ ys) p q e = absurd cc
same_distances (x ∷ xs) [] p q e = absurd cc
same_distances (x ∷ xs) (y ∷ ys) p q e =
    ap (λ z. z ∷ xs) (same_number x y p.0 q.0 (ap (nth 0) e)) ∙ ap (λ zs. y ∷ zs) (same_distances xs ys p.1 q.1 (ap (drop 1) e))

-- what is said of a node's session and distances
abbrev SameLink : Option ℕ → Option ℕ → List ℕ → List ℕ → Type 0
SameLink None t a b = t ≡ None
SameLink (Some s) t a b = (t ≡ Some s) × (a ≡ b)

same_link : (s t : Option ℕ) (a b : List ℕ) → fits_use s → fits_use t → AllByRecursion (λ d. d < 2 ^ 64) a → AllByRecursion (λ d. d < 2 ^ 64) b →
    link_words s a ≡ link_words t b → SameLink s t a b
same_link None None a b p q f g e = refl
same_link None (Some t) a b p q f g e = absurd (omega (arith, ap first_byte e))
same_link (Some s) None a b p q f g e = absurd (omega (arith, ap first_byte e))
same_link (Some s) (Some t) a b p q f g e =
    (ap Some (sym (same_number s t p q (ap (nth 1) e))), same_distances a b f g (ap (drop 2) e))

-- what a text can hold of a node
record FitsNode (u : Uses) (n : NeighbourView) : Type 0 where
  imports : fits_use u.imports
  exports : fits_use u.exports
  session : fits_use n.session
  distances : AllByRecursion (λ d. d < 2 ^ 64) n.advertised
  messages : AllByRecursion FitsMessage n.queue

plain-use : (text : List ℕ) (u : Option ℕ) → IsPlain text → fits_use u → ArePlain (use_words text u)
plain-use text None p h = tt
plain-use text (Some k) p h = (p, (plain-decimal k h, tt))

plain-distances : (ds : List ℕ) → AllByRecursion (λ d. d < 2 ^ 64) ds → ArePlain (map decimal ds)
plain-distances [] h = tt
plain-distances (d ∷ ds) h = (plain-decimal d h.0, plain-distances ds h.1)

plain-link : (s : Option ℕ) (a : List ℕ) → fits_use s → AllByRecursion (λ d. d < 2 ^ 64) a → ArePlain (link_words s a)
plain-link None a p h = (plain-keyword word.Down, tt)
plain-link (Some s) a p h = (plain-keyword word.Up, (plain-decimal s p, plain-distances a h))

plain-words : (k : ℕ) (u : Uses) (n : NeighbourView) → k < 2 ^ 64 → FitsNode u n → ArePlain (node_words k u n)
plain-words k u n fits h = (
  plain-decimal k fits,
  are_plain-append (use_words (keyword_text word.Import) u.imports)
      (use_words (keyword_text word.Export) u.exports ++ link_words n.session n.advertised)
      (plain-use (keyword_text word.Import) u.imports (plain-keyword word.Import) h.imports)
      (are_plain-append (use_words (keyword_text word.Export) u.exports) (link_words n.session n.advertised)
      (plain-use (keyword_text word.Export) u.exports (plain-keyword word.Export) h.exports)
      (plain-link n.session n.advertised h.session h.distances)),
)

-- bytes that do not begin with the line of a queue
record IsNoQueue (bytes : List ℕ) : Type 0 where
  byte : ℕ
  other : byte ≡ 113 → ⊥
  begins : BeginsBy byte bytes

queue_begins : (m : Message) (ms : List Message) (x : List ℕ) → AllByRecursion FitsMessage (m ∷ ms) →
    BeginsBy 113 ((queue_line (m ∷ ms) ++ 10 ∷ []) ++ x)
queue_begins m ms x h = record {
  w = codes "queue";
  ws = map message_word (m ∷ ms);
  later = x;
  plain = plain-queue;
  each = plain-messages (m ∷ ms) h;
  is = append_assoc (queue_line (m ∷ ms)) (10 ∷ []) x;
  first = refl;
}

same_queue : (s t : ℕ) (ms ls : List Message) (x y : List ℕ) → AllByRecursion FitsMessage ms → AllByRecursion FitsMessage ls → IsNoQueue x →
    IsNoQueue y → queue_text (Some s) ms ++ x ≡ queue_text (Some t) ls ++ y → (ms ≡ ls) × (x ≡ y)
same_queue s t [] [] x y p q a b e = (refl, e)
same_queue s t [] (l ∷ ls) x y p q a b e =
    absurd (a.other (no_two a.byte 113 x a.begins (subst (BeginsBy 113) (sym e) (queue_begins l ls y q))))
same_queue s t (m ∷ ms) [] x y p q a b e =
    absurd (b.other (no_two b.byte 113 y b.begins (subst (BeginsBy 113) e (queue_begins m ms x p))))
same_queue s t (m ∷ ms) (l ∷ ls) x y p q a b e =
    let one = append_assoc (queue_line (m ∷ ms)) (10 ∷ []) x in
    let two = append_assoc (queue_line (l ∷ ls)) (10 ∷ []) y in
    let same = same_line (codes "queue") (codes "queue") (map message_word (m ∷ ms)) (map message_word (l ∷ ls)) x y plain-queue
    (plain-messages (m ∷ ms) p) plain-queue (plain-messages (l ∷ ls) q) (sym one ∙ e ∙ two) in (
      some_is (m ∷ ms) (l ∷ ls)
          (sym (messages_again (m ∷ ms) p) ∙ ap (λ ws. all_messages (drop 1 ws)) same.0 ∙ messages_again (l ∷ ls) q),
      same.1,
    )

abbrev SameQueue : Option ℕ → List Message → List Message → Type 0
SameQueue None ms ls = Unit {0}
SameQueue (Some s) ms ls = ms ≡ ls

same_waiting : (s t : Option ℕ) (a b : List ℕ) (ms ls : List Message) (x y : List ℕ) → SameLink s t a b → AllByRecursion FitsMessage ms →
    AllByRecursion FitsMessage ls → IsNoQueue x → IsNoQueue y → queue_text s ms ++ x ≡ queue_text t ls ++ y → SameQueue s ms ls × (x ≡ y)
same_waiting None None a b ms ls x y link p q left right e = (tt, e)
same_waiting None (Some t) a b ms ls x y link p q left right e = absurd cc
same_waiting (Some s) None a b ms ls x y link p q left right e = let no = link.0 in absurd cc
same_waiting (Some s) (Some t) a b ms ls x y link p q left right e = same_queue s t ms ls x y p q left right e

record SameNode (u v : Uses) (n m : NeighbourView) : Type 0 where
  imports : u.imports ≡ v.imports
  exports : u.exports ≡ v.exports
  link : SameLink n.session m.session n.advertised m.advertised
  queue : SameQueue n.session n.queue m.queue

same_node : (k : ℕ) (u v : Uses) (n m : NeighbourView) (x y : List ℕ) → k < 2 ^ 64 → FitsNode u n → FitsNode v m → IsNoQueue x → IsNoQueue y →
    node_text k u n ++ x ≡ node_text k v m ++ y → SameNode u v n m × (x ≡ y)
same_node k u v n m x y fits p q left right e =
    let one = append_assoc (node_line k u n) (10 ∷ queue_text n.session n.queue) x in
    let two = append_assoc (node_line k v m) (10 ∷ queue_text m.session m.queue) y in
    let same = same_line (codes "node") (codes "node") (node_words k u n) (node_words k v m) (queue_text n.session n.queue ++ x)
    (queue_text m.session m.queue ++ y) plain-node (plain-words k u n fits p) plain-node (plain-words k v m fits q) (sym one ∙ e ∙ two) in
    let first = same_use (keyword_text word.Import) u.imports v.imports
    (use_words (keyword_text word.Export) u.exports ++ link_words n.session n.advertised)
    (use_words (keyword_text word.Export) v.exports ++ link_words m.session m.advertised) p.imports q.imports
    (not_import u.exports n.session n.advertised) (not_import v.exports m.session m.advertised) (ap (drop 2) same.0) in
    let second = same_use (keyword_text word.Export) u.exports v.exports (link_words n.session n.advertised) (link_words m.session m.advertised)
    p.exports q.exports (not_export n.session n.advertised) (not_export m.session m.advertised) first.1 in
    let link = same_link n.session m.session n.advertised m.advertised p.session q.session p.distances q.distances second.1 in
    let waiting = same_waiting n.session m.session n.advertised m.advertised n.queue m.queue x y link p.messages q.messages left right same.1 in
    (record { imports = first.0; exports = second.0; link = link; queue = waiting.0 }, waiting.1)

node_begins : (k : ℕ) (u : Uses) (us : List Uses) (ns : List NeighbourView) (x : List ℕ) → k < 2 ^ 64 → FitsNode u (neighbour_at ns k) →
    BeginsBy 110 (nodes_text k (u ∷ us) ns ++ x)
node_begins k u us ns x fits h =
    let n = neighbour_at ns k in
    record {
      w = codes "node";
      ws = node_words k u n;
      later = queue_text n.session n.queue ++ (nodes_text (suc k) us ns ++ x);
      plain = plain-node;
      each = plain-words k u n fits h;
      is = append_assoc (node_text k u n) (nodes_text (suc k) us ns) x
          ∙ append_assoc (node_line k u n) (10 ∷ queue_text n.session n.queue) (nodes_text (suc k) us ns ++ x);
      first = refl;
    }

-- what a text can hold of all nodes from a number on
abbrev FitNodes : ℕ → List Uses → List NeighbourView → Type 0
FitNodes k [] ns = Unit {0}
FitNodes k (u ∷ us) ns = FitsNode u (neighbour_at ns k) × FitNodes (suc k) us ns

abbrev SameNodes : ℕ → List Uses → List Uses → List NeighbourView → List NeighbourView → Type 0
SameNodes k [] vs ns ms = Unit {0}
SameNodes k (u ∷ us) [] ns ms = ⊥
SameNodes k (u ∷ us) (v ∷ vs) ns ms = SameNode u v (neighbour_at ns k) (neighbour_at ms k) × SameNodes (suc k) us vs ns ms

no_queue : (k : ℕ) (us : List Uses) (ns : List NeighbourView) (x : List ℕ) → k + length us < 2 ^ 64 → FitNodes k us ns → BeginsBy 46 x →
    IsNoQueue (nodes_text k us ns ++ x)
no_queue k [] ns x fits h end = record { byte = 46; other = λ e. omega (arith, e); begins = end }
no_queue k (u ∷ us) ns x fits h end =
    record { byte = 110; other = λ e. omega (arith, e); begins = node_begins k u us ns x (omega (arith, fits)) h.0 }

same_nodes : (k : ℕ) (us vs : List Uses) (ns ms : List NeighbourView) (x y : List ℕ) → length us ≡ length vs → k + length us < 2 ^ 64 →
    FitNodes k us ns → FitNodes k vs ms → BeginsBy 46 x → BeginsBy 46 y → nodes_text k us ns ++ x ≡ nodes_text k vs ms ++ y →
    SameNodes k us vs ns ms × (x ≡ y)
same_nodes k [] [] ns ms x y long fits p q a b e = (tt, e)
same_nodes k [] (v ∷ vs) ns ms x y long fits p q a b e = absurd (omega (arith, long))
same_nodes k (u ∷ us) [] ns ms x y long fits p q a b e = absurd (omega (arith, long))
same_nodes k (u ∷ us) (v ∷ vs) ns ms x y long fits p q a b e =
    let n = neighbour_at ns k in
    let m = neighbour_at ms k in
    let one = append_assoc (node_text k u n) (nodes_text (suc k) us ns) x in
    let two = append_assoc (node_text k v m) (nodes_text (suc k) vs ms) y in
    let less : suc k + length us < 2 ^ 64 = omega (arith, fits) in
    let also : suc k + length vs < 2 ^ 64 = omega (arith, fits, long) in
    let first = same_node k u v n m (nodes_text (suc k) us ns ++ x) (nodes_text (suc k) vs ms ++ y) (omega (arith, fits)) p.0 q.0
    (no_queue (suc k) us ns x less p.1 a) (no_queue (suc k) vs ms y also q.1 b) (sym one ∙ e ∙ two) in
    let others = same_nodes (suc k) us vs ns ms x y (omega (arith, long)) less p.1 q.1 a b first.1 in
    ((first.0, others.0), others.1)

-- what is the same of a node of each number
at_node : (k j : ℕ) (us vs : List Uses) (ns ms : List NeighbourView) → SameNodes k us vs ns ms → j < length us →
    SameNode (uses_at us j) (uses_at vs j) (neighbour_at ns (k + j)) (neighbour_at ms (k + j))
at_node k j [] vs ns ms same h = absurd (omega (arith, h))
at_node k j (u ∷ us) [] ns ms same h = absurd same
at_node k zero (u ∷ us) (v ∷ vs) ns ms same h =
    let here : k ≡ k + 0 = omega arith in
    subst (λ i. SameNode u v (neighbour_at ns i) (neighbour_at ms i)) here same.0
at_node k (suc j) (u ∷ us) (v ∷ vs) ns ms same h =
    let there : suc k + j ≡ k + suc j = omega arith in
    subst (λ i. SameNode (uses_at us j) (uses_at vs j) (neighbour_at ns i) (neighbour_at ms i)) there
    (at_node (suc k) j us vs ns ms same.1 (omega (arith, h)))

-- the filter of a number
one_use : (t : List VerifiedView) (f g : Option VerifiedView) (a : Option ℕ) → IsUse t f a → IsUse t g a → f ≡ g
one_use t None None None p q = refl
one_use t (Some f) (Some g) (Some k) p q = ap Some (sym p.1 ∙ get_or_default t k f g p.0 ∙ q.1)
one_use t None None (Some k) p q = absurd p
one_use t None (Some g) None p q = absurd q
one_use t None (Some g) (Some k) p q = absurd p
one_use t (Some f) None None p q = absurd p
one_use t (Some f) None (Some k) p q = absurd q
one_use t (Some f) (Some g) None p q = absurd p

same_session : (s t : Option ℕ) (a b : List ℕ) → SameLink s t a b → s ≡ t
same_session None t a b link = sym link
same_session (Some s) t a b link = sym link.0

same_advertised : (s t : Option ℕ) (a b u : List ℕ) → SameLink s t a b → (s ≡ None → a ≡ u) → (t ≡ None → b ≡ u) → a ≡ b
same_advertised None t a b u link left right = left refl ∙ sym (right link)
same_advertised (Some s) t a b u link left right = link.1

same_waits : (s t : Option ℕ) (a b : List ℕ) (ms ls : List Message) → SameLink s t a b → SameQueue s ms ls → (s ≡ None → ms ≡ []) →
    (t ≡ None → ls ≡ []) → ms ≡ ls
same_waits None t a b ms ls link same left right = left refl ∙ sym (right link)
same_waits (Some s) t a b ms ls link same left right = same

same_fields : (n m : NeighbourView) → n.session ≡ m.session → n.advertised ≡ m.advertised → n.imports ≡ m.imports → n.exports ≡ m.exports →
    n.queue ≡ m.queue → n ≡ m
same_fields n m a b c d e =
    ap (λ z. record n { session = z }) a ∙ ap (λ z. record n { session = m.session; advertised = z }) b
    ∙ ap (λ z. record n { session = m.session; advertised = m.advertised; imports = z }) c
    ∙ ap (λ z. record n { session = m.session; advertised = m.advertised; imports = m.imports; exports = z }) d
    ∙ ap (λ z. record m { queue = z }) e

same_neighbour : (o : OpeningView) (t : List VerifiedView) (u v : Uses) (n m : NeighbourView) → IsConsistentNeighbour o n →
    IsConsistentNeighbour o m → AreUses t n u → AreUses t m v → SameNode u v n m → n ≡ m
same_neighbour o t u v n m p q f g same =
    same_fields n m (same_session n.session m.session n.advertised m.advertised same.link)
    (same_advertised n.session m.session n.advertised m.advertised _ same.link (λ down. (p.down down).advertised) (λ down. (q.down down).advertised))
    (one_use t n.imports m.imports v.imports (subst (IsUse t n.imports) same.imports f.imports) g.imports)
    (one_use t n.exports m.exports v.exports (subst (IsUse t n.exports) same.exports f.exports) g.exports)
    (same_waits n.session m.session n.advertised m.advertised n.queue m.queue same.link same.queue (λ down. (p.down down).queue)
    (λ down. (q.down down).queue))

use_fits : (t : List VerifiedView) (f : Option VerifiedView) (a : Option ℕ) → length t < 2 ^ 64 → IsUse t f a → fits_use a
use_fits t None None few h = tt
use_fits t (Some f) (Some k) few h = omega (arith, h.0, few)
use_fits t None (Some k) few h = absurd h
use_fits t (Some f) None few h = absurd h

small_all : (xs : List ℕ) (m : ℕ) → m < 2 ^ 64 → ((v : ℕ) → get_or xs v 0 ≤ m) → AllByRecursion (λ d. d < 2 ^ 64) xs
small_all [] m small h = tt
small_all (x ∷ xs) m small h = (let first : x ≤ m = h 0 in omega (arith, first, small), small_all xs m small (λ v. h (suc v)))

session_fits : (s : Option ℕ) (count : ℕ) → count ≤ last_session → ((n : ℕ) → s ≡ Some n → n ≤ count) → fits_use s
session_fits None count last h = tt
session_fits (Some n) count last h = let within = h n refl in omega (arith, within, last)

fits_node : (room at : ℕ) (w : World) (t : List VerifiedView) (u : Uses) (k : ℕ) → FitsOpening w.opening room → IsConsistent w → length t < 2 ^ 64 →
    AreUses t (neighbour_at w.neighbours k) u → k < length w.neighbours → FitsNode u (neighbour_at w.neighbours k)
fits_node room at w t u k o c few h below =
    let n = neighbour_at w.neighbours k in
    let is : IsConsistentNeighbour w.opening n = c.neighbours.each k nobody below in
    record {
      imports = use_fits t n.imports u.imports few h.imports;
      exports = use_fits t n.exports u.exports few h.exports;
      session = session_fits n.session w.sessions c.counted
          (λ s held. (c.sessions.numbered k s (get_or-map (λ x. x.session) w.neighbours k nobody None below ∙ held)).1);
      distances = small_all n.advertised w.opening.size (omega (arith, o.opening.to_largest)) is.neighbour.reachable;
      messages = recursion_from_All FitsMessage n.queue
          (All-weaker (IsMessage w.opening.size) FitsMessage (λ m fine. record {
            dest = omega (arith, fine.dest, o.opening.to_largest);
            dist = omega (arith, fine.dist, o.opening.to_largest);
          }) n.queue is.messages);
    }

fit_nodes : (room at : ℕ) (w : World) (t : List VerifiedView) (k : ℕ) (us : List Uses) → FitsOpening w.opening room → IsConsistent w →
    length t < 2 ^ 64 → ((j : ℕ) → j < length us → AreUses t (neighbour_at w.neighbours (k + j)) (uses_at us j)) →
    k + length us ≤ length w.neighbours → FitNodes k us w.neighbours
fit_nodes room at w t k [] o c few each within = tt
fit_nodes room at w t k (u ∷ us) o c few each within = (
  let here : k + 0 ≡ k = omega arith in
      fits_node room at w t u k o c few (subst (λ i. AreUses t (neighbour_at w.neighbours i) u) here (each 0 (omega arith))) (omega (arith, within)),
  fit_nodes room at w t (suc k) us o c few
      (λ j h. let there : k + suc j ≡ suc k + j = omega arith in
      subst (λ i. AreUses t (neighbour_at w.neighbours i) (uses_at us j)) there (each (suc j) (omega (arith, h))))
      (omega (arith, within)),
)

all_fit : (room at : ℕ) (w : World) (t : List ℕ) → (h : IsStateText room at w t) → IsConsistent w → FitNodes 0 h.uses w.neighbours
all_fit room at w t h c = fit_nodes room at w h.table 0 h.uses h.opening c h.few (λ j below. let there : j ≡ 0 + j = omega arith in
    subst (λ i. AreUses h.table (neighbour_at w.neighbours i) (uses_at h.uses j)) there (h.each j (omega (arith, below, h.one_a_node))))
    (omega (arith, h.one_a_node, c.neighbours.one_a_node))

plain-place : (at count : ℕ) → at < 2 ^ 64 → count < 2 ^ 64 → ArePlain (place_words at count)
plain-place at count p q = (plain-decimal at p, (plain-sessions, (plain-decimal count q, tt)))

nodes_begin : (k : ℕ) (us : List Uses) (ns : List NeighbourView) (x : List ℕ) → k < 2 ^ 64 → 0 < length us → FitNodes k us ns →
    BeginsBy 110 (nodes_text k us ns ++ x)
nodes_begin k [] ns x fits some h = absurd (omega (arith, some))
nodes_begin k (u ∷ us) ns x fits some h = node_begins k u us ns x fits h.0

end_begins : (x : List ℕ) → BeginsBy 46 (end_text ++ x)
end_begins x = record { w = codes "."; ws = []; later = x; plain = computed (codes ".") (lit< tt) refl; each = tt; is = refl; first = refl }

same_worlds : (w v : World) → w.opening ≡ v.opening → w.sessions ≡ v.sessions → w.neighbours ≡ v.neighbours → w ≡ v
same_worlds w v a b c =
    ap (λ z. record w { opening = z }) a ∙ ap (λ z. record w { opening = v.opening; sessions = z }) b ∙ ap (λ z. record v { neighbours = z }) c

-- texts that begin with the texts of states begin with one state
pub one_state : (r s a b : ℕ) (w v : World) (t u x y : List ℕ) → a < 2 ^ 64 → b < 2 ^ 64 → IsConsistent w → IsConsistent v →
    IsStateText r a w t → IsStateText s b v u → t ++ x ≡ u ++ y → IsOneState r s a b w v x y
one_state r s a b w v t u x y p q c d f g e =
    let end = λ (z : List ℕ). end_text ++ z in
    let behind_one = nodes_text 0 f.uses w.neighbours ++ end_text in
    let behind_two = nodes_text 0 g.uses v.neighbours ++ end_text in
    let table_one = filters_text 0 f.table ++ behind_one in
    let table_two = filters_text 0 g.table ++ behind_two in
    let place_one = place_line a w.sessions ++ 10 ∷ table_one in
    let place_two = place_line b v.sessions ++ 10 ∷ table_two in
    let one = sym (append_assoc (mark_line w.opening r) (10 ∷ place_one) x) ∙ ap (λ z. z ++ x) (sym f.text_is) in
    let two = ap (λ z. z ++ y) g.text_is ∙ append_assoc (mark_line v.opening s) (10 ∷ place_two) y in
    let first = same_line (codes "NCH2") (codes "NCH2") (opening_words w.opening r) (opening_words v.opening s) (place_one ++ x) (place_two ++ y)
    plain-segment (plain-opening w.opening r f.opening) plain-segment (plain-opening v.opening s g.opening) (one ∙ e ∙ two) in
    let parts : parts_of w.opening r ≡ parts_of v.opening s = some_is (parts_of w.opening r) (parts_of v.opening s)
    (sym (opening_again (codes "NCH2") w.opening r f.opening) ∙ ap opening_parts first.0 ∙ opening_again (codes "NCH2") v.opening s g.opening) in
    let opening : w.opening ≡ v.opening = ap opening_from parts in
    let sizes : w.opening.size ≡ v.opening.size = ap (λ (o : OpeningView). o.size) opening in
    let counted_one : w.sessions < 2 ^ 64 = let last = c.counted in omega (arith, last) in
    let counted_two : v.sessions < 2 ^ 64 = let last = d.counted in omega (arith, last) in
    let second = same_line (codes "at") (codes "at") (place_words a w.sessions) (place_words b v.sessions) (table_one ++ x) (table_two ++ y)
    plain-at (plain-place a w.sessions p counted_one) plain-at (plain-place b v.sessions q counted_two)
    (sym (append_assoc (place_line a w.sessions) (10 ∷ table_one) x) ∙ first.1 ∙ append_assoc (place_line b v.sessions) (10 ∷ table_two) y) in
    let place : a ≡ b = same_number a b p q (ap (nth 1) second.0) in
    let sessions : w.sessions ≡ v.sessions = same_number w.sessions v.sessions counted_one counted_two (ap (nth 3) second.0) in
    let fit_one = all_fit r a w t f c in
    let fit_two = all_fit s b v u g d in
    let some_one : 0 < length f.uses = omega (arith, f.one_a_node, f.opening.opening.from_two) in
    let some_two : 0 < length g.uses = omega (arith, g.one_a_node, g.opening.opening.from_two) in
    let nodes_one : table_one ++ x ≡ filters_text 0 f.table ++ (nodes_text 0 f.uses w.neighbours ++ end x) =
    append_assoc (filters_text 0 f.table) behind_one x
    ∙ ap (λ z. filters_text 0 f.table ++ z) (append_assoc (nodes_text 0 f.uses w.neighbours) end_text x) in
    let nodes_two : table_two ++ y ≡ filters_text 0 g.table ++ (nodes_text 0 g.uses v.neighbours ++ end y) =
    append_assoc (filters_text 0 g.table) behind_two y
    ∙ ap (λ z. filters_text 0 g.table ++ z) (append_assoc (nodes_text 0 g.uses v.neighbours) end_text y) in
    let third = same_tables 0 f.table g.table (nodes_text 0 f.uses w.neighbours ++ end x) (nodes_text 0 g.uses v.neighbours ++ end y)
    (omega (arith, f.few)) (omega (arith, g.few)) (recursion_from_All FitsFilter f.table f.filters.fits)
    (recursion_from_All FitsFilter g.table g.filters.fits) (nodes_begin 0 f.uses w.neighbours (end x) (omega arith) some_one fit_one)
    (nodes_begin 0 g.uses v.neighbours (end y) (omega arith) some_two fit_two) (sym nodes_one ∙ second.1 ∙ nodes_two) in
    let long : length f.uses ≡ length g.uses = omega (arith, f.one_a_node, g.one_a_node, sizes) in
    let fourth = same_nodes 0 f.uses g.uses w.neighbours v.neighbours (end x) (end y) long
    (omega (arith, f.one_a_node, f.opening.opening.to_largest)) fit_one fit_two (end_begins x) (end_begins y) third.1 in
    let neighbours : w.neighbours ≡ v.neighbours = same_lists w.neighbours v.neighbours
    (omega (arith, c.neighbours.one_a_node, d.neighbours.one_a_node, sizes))
    (λ k n below.
    let size_one : k < w.opening.size = omega (arith, below, c.neighbours.one_a_node) in
    let size_two : k < v.opening.size = omega (arith, size_one, sizes) in
    let also : k < length v.neighbours = omega (arith, size_two, d.neighbours.one_a_node) in
    let this : 0 + k ≡ k = omega arith in
    let same = subst (λ i. SameNode (uses_at f.uses k) (uses_at g.uses k) (neighbour_at w.neighbours i) (neighbour_at v.neighbours i)) this
    (at_node 0 k f.uses g.uses w.neighbours v.neighbours fourth.0 (omega (arith, size_one, f.one_a_node))) in
    let uses = subst (λ table. AreUses table (neighbour_at v.neighbours k) (uses_at g.uses k)) (sym third.0) (g.each k size_two) in
    let here : neighbour_at w.neighbours k ≡ neighbour_at v.neighbours k =
    same_neighbour w.opening f.table (uses_at f.uses k) (uses_at g.uses k) (neighbour_at w.neighbours k) (neighbour_at v.neighbours k)
    (c.neighbours.each k nobody below)
    (subst (λ o. IsConsistentNeighbour o (neighbour_at v.neighbours k)) (sym opening) (d.neighbours.each k nobody also))
    (f.each k size_one) uses same in
    get_or_default w.neighbours k n nobody below ∙ here ∙ get_or_default v.neighbours k nobody n also) in
    record {
      room = ap (λ (z : OpeningParts). z.limit) parts;
      place = place;
      state = same_worlds w v opening sessions neighbours;
      later = ap (drop 2) fourth.1;
    }
