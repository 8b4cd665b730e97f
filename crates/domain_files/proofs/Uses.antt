-- The filters of a file's plan are those that have the names of the last uses, whatever lines it has.
use Rattle.std.proofs.Common.{◌≡◌, ◌⊎◌, ⊎_elim, inl, inr, ℕ, ◌<◌, ◌==◌, ◌&&◌, nat_lt, Bool, true, false, cond, List, [], ◌∷◌, ◌++◌, Option, Some, None}
use Rattle.std.proofs.Common.{Ok, Err, length, replicate, refl, subst, sym, ap, ◌∙◌, arith}
use Rattle.std.specs.Prelude.{MatchBool, ⊤, is_some, not}
use Rattle.std.specs.Str.{bytes_eq}
use Rattle.std.proofs.lemmas.Bool.{and_from, and_parts, both_ways, cases_Bool, cond-false, cond-true, eq-eqb, eqb-true}
use Rattle.std.proofs.lemmas.Bool.Decides.{nat_tests}
use Rattle.std.proofs.lemmas.List.{get_or-replicate, length-replicate}
use Rattle.std.proofs.lemmas.Slice.Eq.{bytes_eq-Decides}
use Rattle.filter_code.specs.CodeView.{CodeView}
use Rattle.filter_source.specs.Sources.{IsRefusedText}
use Rattle.filter_source.specs.declared.refusal.Refusal.{Refusal}
use Rattle.filter_verifier.specs.VerifiedView.{VerifiedView}
use Rattle.line_protocol.specs.Answers.{Answer}
use Rattle.line_protocol.specs.Lines.{is_skipped}
use Rattle.line_protocol.specs.declared.answers.LineReply.TheVariants as reply
use Rattle.netchange_core.specs.Openings.{default_prefixes}
use Rattle.operator_cmds.specs.Script.{AnswersSource, GivesFile, GivesText, IsRefusedFile}
use Rattle.operator_cmds.specs.declared.event.Direction.{Direction}
use Rattle.operator_cmds.specs.declared.event.Direction.TheVariants as direction
use Rattle.domain_routes.specs.Edits.{half_linking, linking, put, with_prefix}
use Rattle.domain_routes.specs.PlanView.{HasPlaces, PeerView, PlanView, is_linked, peer, stranger}
use Rattle.domain_routes.specs.Still.{BetweenView}
use Rattle.domain_routes.proofs.Places.{put_here, put_places, put_same, put_there}
use Rattle.domain_routes.proofs.Unlinked.{strange}
use Rattle.domain_cmds.specs.CommandView.{CommandView, Domain, Prefix, Load, Code, Link, Use, Anew, Mark, Json, Ask}
use Rattle.domain_cmds.specs.Commands.{Read, command_in}
use Rattle.domain_cmds.specs.Script
use Rattle.domain_cmds.specs.Script.{new_planning}
use Rattle.domain_cmds.specs.State.{PlanningView, filter_named}
use Rattle.domain_files.specs.FileView.{FileView}
use Rattle.domain_files.specs.Files.{AreUses, Begins, Carries, CarriesFirst, IsFile, Numbered, TakesAll, TakesLine}
use Rattle.domain_files.specs.FileView.{UseView}
use Rattle.domain_files.specs.Files.{TakesRead, filter_of_name, has_name, is_asking, is_between, is_same_way, name_between, name_if}
use Rattle.domain_files.specs.Files.{numbered, or_later}
use Rattle.domain_files.proofs.Names.{one_name_more}

-- one of two, by a test
pick : {R : Type 0} (b : Bool) (P Q : Type 0) → (b ≡ true → P → R) → (b ≡ false → Q → R) → MatchBool b P Q → R
pick true P Q f g h = f refl h
pick false P Q f g h = g refl h

-- ---- names of uses

-- it is that one, or one before it
name_found : (b : Bool) (name : List ℕ) (before : Option (List ℕ)) (found : List ℕ) → or_later (name_if b name) before ≡ Some found
    → (name ≡ found) ⊎ (before ≡ Some found)
name_found true name before found e = inl cc
name_found false name before found e = inr e

filter_or : (p : PlanningView) (b : Bool) (name : List ℕ) (before : Option (List ℕ))
    → filter_of_name p (or_later (name_if b name) before) ≡ cond b (filter_named p.filters name) (filter_of_name p before)
filter_or p true name before = refl
filter_or p false name before = refl

cond_same : {A : Type 0} (b : Bool) (x y z t : A) → x ≡ z → y ≡ t → cond b x y ≡ cond b z t
cond_same true x y z t e f = e
cond_same false x y z t e f = f

-- ---- what a node has of another one

abbrev filter_in : Direction → PeerView → Option VerifiedView
filter_in direction.Import c = c.imports
filter_in direction.Export c = c.exports

filter_strange : (way : Direction) → filter_in way stranger ≡ None
filter_strange direction.Import = refl
filter_strange direction.Export = refl

-- a use in one direction
module _ (plan : PlanView) (h : HasPlaces plan) (f : VerifiedView) (u w : ℕ) (from : u < plan.size) (to : w < plan.size) where
  at_place : (g : PeerView → Option VerifiedView) (c : PeerView) → g c ≡ Some f → (x y : ℕ)
      → g (peer (put u w c plan) x y) ≡ cond ((x == u) && (y == w)) (Some f) (g (peer plan x y))
  at_place g c same x y = ⊎_elim
      (λ (e : ((x == u) && (y == w)) ≡ true).
      ap g (put_here plan u w c h from to x y (eqb-true x u (and_parts (x == u) (y == w) e).0) (eqb-true y w (and_parts (x == u) (y == w) e).1))
      ∙ same ∙ sym (cond-true ((x == u) && (y == w)) (Some f) (g (peer plan x y)) e))
      (λ (e : ((x == u) && (y == w)) ≡ false).
      ap g (put_there plan u w c h from x y
      (λ s t. both_ways ((x == u) && (y == w)) e (and_from (x == u) (y == w) (eq-eqb x u s) (eq-eqb y w t))))
      ∙ sym (cond-false ((x == u) && (y == w)) (Some f) (g (peer plan x y)) e))
      (cases_Bool ((x == u) && (y == w)))

  after_use : (used way : Direction) (x y : ℕ) → filter_in way (peer (Script.filtering used f u w plan) x y)
      ≡ cond (is_same_way way used && (x == u) && (y == w)) (Some f) (filter_in way (peer plan x y))
  after_use direction.Import direction.Import x y = at_place (λ c. c.imports) (record (peer plan u w) { imports = Some f }) refl x y
  after_use direction.Import direction.Export x y =
      put_same (λ c. c.exports) plan u w (record (peer plan u w) { imports = Some f }) h from to refl x y
  after_use direction.Export direction.Import x y =
      put_same (λ c. c.imports) plan u w (record (peer plan u w) { exports = Some f }) h from to refl x y
  after_use direction.Export direction.Export x y = at_place (λ c. c.exports) (record (peer plan u w) { exports = Some f }) refl x y

  use_places : (used : Direction) → HasPlaces (Script.filtering used f u w plan)
  use_places direction.Import = put_places plan u w (record (peer plan u w) { imports = Some f }) h from
  use_places direction.Export = put_places plan u w (record (peer plan u w) { exports = Some f }) h from

-- a link more or less
module _ (plan : PlanView) (h : HasPlaces plan) (wanted : Bool) (u w : ℕ) (from : u < plan.size) (to : w < plan.size) where
  abbrev half : PlanView
  half = half_linking wanted u w plan

  half_places : HasPlaces half
  half_places = put_places plan u w (record (peer plan u w) { linked = wanted }) h from

  link_places : HasPlaces (linking wanted u w plan)
  link_places = put_places half w u (record (peer half w u) { linked = wanted }) half_places to

  link_keeps : (way : Direction) (x y : ℕ) → filter_in way (peer (linking wanted u w plan) x y) ≡ filter_in way (peer plan x y)
  link_keeps direction.Import x y =
      put_same (λ c. c.imports) half w u (record (peer half w u) { linked = wanted }) half_places to from refl x y
      ∙ put_same (λ c. c.imports) plan u w (record (peer plan u w) { linked = wanted }) h from to refl x y
  link_keeps direction.Export x y =
      put_same (λ c. c.exports) half w u (record (peer half w u) { linked = wanted }) half_places to from refl x y
      ∙ put_same (λ c. c.exports) plan u w (record (peer plan u w) { linked = wanted }) h from to refl x y

-- ---- what holds between two lines

record IsKept (p : PlanningView) (uses : List UseView) : Type 0 where
  pub places : HasPlaces p.plan
  pub filters : (way : Direction) (x y : ℕ) → filter_in way (peer p.plan x y) ≡ filter_of_name p (name_between way x y uses)
  pub named : (way : Direction) (x y : ℕ) (name : List ℕ) → name_between way x y uses ≡ Some name → has_name p name ≡ true

-- two nodes that could be neighbours
pair_from : (size u w : ℕ) → Script.are_a_pair size u w ≡ true → u < size
pair_from size u w pair = grind (arith, nat_tests)

pair_to : (size u w : ℕ) → Script.are_a_pair size u w ≡ true → w < size
pair_to size u w pair = grind (arith, nat_tests)

-- a refusal is not what was answered
unrefused : {A : Type 0} (answer : Answer) (text : List ℕ) → answer ≡ record { text = text; reply = reply.Refused } → answer.reply ≡ reply.Answered → A
unrefused answer text e answered =
    absurd (let no : reply.Refused ≡ reply.Answered = sym (ap (λ (a : Answer). a.reply) e) ∙ answered in cc)

module _ (p : PlanningView) (uses : List UseView) (k : IsKept p uses) where
  -- the names that are used have the same filters
  same_filter : (q : PlanningView) → ((name : List ℕ) → has_name p name ≡ true → filter_named q.filters name ≡ filter_named p.filters name)
      → (way : Direction) (x y : ℕ) (found : Option (List ℕ)) → name_between way x y uses ≡ found → filter_of_name p found ≡ filter_of_name q found
  same_filter q same way x y None e = refl
  same_filter q same way x y (Some name) e = sym (same name (k.named way x y name e))

  changed : (q : PlanningView) → HasPlaces q.plan → ((way : Direction) (x y : ℕ) → filter_in way (peer q.plan x y) ≡ filter_in way (peer p.plan x y))
      → ((name : List ℕ) → has_name p name ≡ true → filter_named q.filters name ≡ filter_named p.filters name) → IsKept q uses
  changed q places keeps same = record {
    places = places;
    filters = λ way x y. keeps way x y ∙ k.filters way x y ∙ same_filter q same way x y (name_between way x y uses) refl;
    named = λ way x y name e. ap is_some (same name (k.named way x y name e)) ∙ k.named way x y name e;
  }

  begun : IsKept (Script.begin p) uses
  begun = changed (Script.begin p) k.places (λ way x y. refl) (λ name has. refl)

  prefixed : (v : ℕ) (bits : List Bool) → IsKept (record p { plan = with_prefix v bits p.plan }) uses
  prefixed v bits = changed (record p { plan = with_prefix v bits p.plan }) (record { rows = k.places.rows; places = k.places.places })
      (λ way x y. refl) (λ name has. refl)

  anew : (since : Option BetweenView) → IsKept (Script.planned since p.plan p) uses
  anew since = changed (Script.planned since p.plan p) k.places (λ way x y. refl) (λ name has. refl)

  linked : (wanted : Bool) (u w : ℕ) (since : Option BetweenView) → u < p.plan.size → w < p.plan.size
      → IsKept (Script.planned since (linking wanted u w p.plan) p) uses
  linked wanted u w since from to = changed (Script.planned since (linking wanted u w p.plan) p) (link_places p.plan k.places wanted u w from to)
      (link_keeps p.plan k.places wanted u w from to) (λ name has. refl)

  unless : (is wanted : Bool) (number u w : ℕ) (since : Option BetweenView) (answer : Answer) (after : PlanningView)
      → u < p.plan.size → w < p.plan.size
      → Script.PlansUnless (Script.link_fault is wanted) since (linking wanted u w p.plan) p number answer after → IsKept after uses
  unless true true number u w since answer after from to h = subst (λ q. IsKept q uses) (sym h.1) begun
  unless false false number u w since answer after from to h = subst (λ q. IsKept q uses) (sym h.1) begun
  unless true false number u w since answer after from to h = subst (λ q. IsKept q uses) (sym h.1) (linked false u w since from to)
  unless false true number u w since answer after from to h = subst (λ q. IsKept q uses) (sym h.1) (linked true u w since from to)

  -- a filter that gets a name which had none
  other_name : (name other : List ℕ) → (has_name p name ≡ true → ⊥) → has_name p other ≡ true → bytes_eq name other ≡ false
  other_name name other free has = ⊎_elim
      (λ (e : bytes_eq name other ≡ true). absurd (free (subst (λ n. has_name p n ≡ true) (sym ((bytes_eq-Decides name other).0 e)) has)))
      (λ (e : bytes_eq name other ≡ false). e)
      (cases_Bool (bytes_eq name other))

  kept_names : (Gives : CodeView → Type 0) (Lacks : Refusal → Type 0) (size number : ℕ) (name : List ℕ) (answer : Answer) (after : PlanningView)
      → AnswersSource Gives Lacks size number name (filter_named p.filters) answer (filter_named after.filters)
      → (has_name p name ≡ true → ⊥) → (other : List ℕ) → has_name p other ≡ true → filter_named after.filters other ≡ filter_named p.filters other
  kept_names Gives Lacks size number name answer after h free other has = ⊎_elim
      (λ named. named.2.1 other
      ∙ cond-false (bytes_eq name other) (Some named.0) (filter_named p.filters other) (other_name name other free has))
      (λ turned. turned.2.1 other)
      h

  loaded : (Gives : CodeView → Type 0) (Lacks : Refusal → Type 0) (number : ℕ) (name : List ℕ) (answer : Answer) (after : PlanningView)
      → Script.AnswersLoad Gives Lacks p number name answer after → (has_name p name ≡ true → ⊥) → IsKept after uses
  loaded Gives Lacks number name answer after h free =
      subst (λ q. IsKept q uses) (sym h.1)
      (changed (record p { filters = after.filters }) k.places (λ way x y. refl)
      (kept_names Gives Lacks p.plan.size number name answer after h.0 free))

  -- a use
  fitting : (way : Direction) (f : VerifiedView) (u w : ℕ) (name : List ℕ) (since : Option BetweenView) → filter_named p.filters name ≡ Some f
      → u < p.plan.size → w < p.plan.size
      → IsKept (Script.planned since (Script.filtering way f u w p.plan) p) (uses ++ (record { direction = way; u = u; w = w; name = name }) ∷ [])
  fitting way f u w name since found from to =
      let used : UseView = record { direction = way; u = u; w = w; name = name } in
      let q : PlanningView = Script.planned since (Script.filtering way f u w p.plan) p in
      record {
        places = use_places p.plan k.places f u w from to way;
        filters = λ other x y.
            after_use p.plan k.places f u w from to way other x y
            ∙ cond_same (is_between other x y used) (Some f) (filter_in other (peer p.plan x y)) (filter_named p.filters name)
            (filter_of_name q (name_between other x y uses)) (sym found)
            (k.filters other x y ∙ same_filter q (λ n has. refl) other x y (name_between other x y uses) refl)
            ∙ sym (filter_or q (is_between other x y used) name (name_between other x y uses))
            ∙ sym (ap (filter_of_name q) (one_name_more other x y uses used));
        named = λ other x y n e. ⊎_elim
            (λ (same : name ≡ n). subst (λ m. has_name p m ≡ true) same (ap is_some found))
            (λ (before : name_between other x y uses ≡ Some n). k.named other x y n before)
            (name_found (is_between other x y used) name (name_between other x y uses) n (sym (one_name_more other x y uses used) ∙ e));
      }

  used : (found : Option VerifiedView) (way : Direction) (number u w : ℕ) (name : List ℕ) (answer : Answer) (after : PlanningView)
      → filter_named p.filters name ≡ found → Script.AnswersUse found way p number u w answer after → answer.reply ≡ reply.Answered
      → IsKept after (uses ++ (record { direction = way; u = u; w = w; name = name }) ∷ [])
  used None way number u w name answer after e h answered = unrefused answer _ h.0 answered
  used (Some f) way number u w name answer after e h answered = pick (Script.are_a_pair p.plan.size u w) _ _
      (λ pair q. subst (λ it. IsKept it (uses ++ (record { direction = way; u = u; w = w; name = name }) ∷ [])) (sym q.1)
      (fitting way f u w name _ e (pair_from p.plan.size u w pair) (pair_to p.plan.size u w pair)))
      (λ _ q. unrefused answer _ q.0 answered) h

-- the uses stay
unused : (uses : List UseView) (after : FileView) → IsKept after.planning uses → after.uses ≡ uses → IsKept after.planning after.uses
unused uses after k e = subst (λ it. IsKept after.planning it) (sym e) k

asked : (f after : FileView) → IsKept f.planning f.uses → after ≡ record f { planning = Script.begin f.planning }
    → IsKept after.planning after.uses
asked f after k e = subst (λ (g : FileView). IsKept g.planning g.uses) (sym e) (begun f.planning f.uses k)

carried : (f : FileView) (number : ℕ) (c : CommandView) (after : FileView) → IsKept f.planning f.uses → Carries f number c after
    → IsKept after.planning after.uses
carried f number (Domain size) after k h = unused f.uses after (subst (λ q. IsKept q f.uses) (sym h.0.0.1.1) k) h.0.1
carried f number (Prefix node bits) after k h = unused f.uses after
    (pick f.planning.begun _ _
    (λ _ q. subst (λ it. IsKept it f.uses) (sym q.1) k)
    (λ _ q. pick (nat_lt node f.planning.plan.size) _ _
    (λ _ r. subst (λ it. IsKept it f.uses) (sym r.1) (prefixed f.planning f.uses k node bits))
    (λ _ r. subst (λ it. IsKept it f.uses) (sym r.1) k) q) h.0.0.1) h.0.1
carried f number (Load name text) after k h = unused f.uses after
    (loaded f.planning f.uses k (GivesText text) (IsRefusedText text) number name h.0.0.0 after.planning h.0.0.1
    (λ has. h.1 (name, refl, has))) h.0.1
carried f number (Code name bytes) after k h = unused f.uses after
    (loaded f.planning f.uses k (GivesFile bytes) (IsRefusedFile bytes) number name h.0.0.0 after.planning h.0.0.1
    (λ has. h.1 (name, refl, has))) h.0.1
carried f number (Link wanted u w) after k h = unused f.uses after
    (pick (Script.are_a_pair f.planning.plan.size u w) _ _
    (λ pair q. unless f.planning f.uses k (is_linked f.planning.plan u w) wanted number u w _ h.0.0.0 after.planning
    (pair_from f.planning.plan.size u w pair) (pair_to f.planning.plan.size u w pair) q)
    (λ _ q. subst (λ it. IsKept it f.uses) (sym q.1) (begun f.planning f.uses k)) h.0.0.1) h.0.1
carried f number (Use way u w name) after k h =
    subst (λ it. IsKept after.planning it) (sym h.0.1)
    (used f.planning f.uses k (filter_named f.planning.filters name) way number u w name h.0.0.0 after.planning refl h.0.0.1 h.0.0.2)
carried f number (Anew u) after k h = unused f.uses after
    (pick (nat_lt u f.planning.plan.size) _ _
    (λ _ q. subst (λ it. IsKept it f.uses) (sym q.1) (anew f.planning f.uses k _))
    (λ _ q. subst (λ it. IsKept it f.uses) (sym q.1) (begun f.planning f.uses k)) h.0.0.1) h.0.1
carried f number Mark after k h = asked f after k h
carried f number Json after k h = asked f after k h
carried f number (Ask question) after k h = asked f after k h

-- ---- all lines

abbrev AreKept : Option FileView → Type 0
AreKept None = ⊤
AreKept (Some f) = IsKept f.planning f.uses

new_kept : (size : ℕ) → IsKept (new_planning size) []
new_kept size =
    let prefixes : List (List Bool) = default_prefixes size in
    record {
      places = record {
        rows = length-replicate (length prefixes) (replicate (length prefixes) stranger);
        places = λ u short. ap (λ (r : List PeerView). length r)
            (get_or-replicate (length prefixes) u (replicate (length prefixes) stranger) [] short)
            ∙ length-replicate (length prefixes) stranger;
      };
      filters = λ way x y. ap (filter_in way) (strange prefixes x y) ∙ filter_strange way;
      named = λ way x y name e. absurd (let no : None ≡ Some name = e in cc);
    }

begins_kept : (number : ℕ) (c : CommandView) (after : Option FileView) → Begins number c after → AreKept after
begins_kept number (Domain size) after h = subst AreKept (sym h) (new_kept size)
begins_kept number (Prefix node bits) after h = absurd h
begins_kept number (Load name text) after h = absurd h
begins_kept number (Code name bytes) after h = absurd h
begins_kept number (Link wanted u w) after h = absurd h
begins_kept number (Use way u w name) after h = absurd h
begins_kept number (Anew u) after h = absurd h
begins_kept number Mark after h = absurd h
begins_kept number Json after h = absurd h
begins_kept number (Ask question) after h = absurd h

first_kept : (before : Option FileView) (number : ℕ) (c : CommandView) (after : Option FileView) → AreKept before
    → CarriesFirst before number c after → AreKept after
first_kept None number c after k h = begins_kept number c after h
first_kept (Some f) number c after k h = subst AreKept (sym h.2) (carried f number c h.0 k h.1)

read_kept : (before : Option FileView) (number : ℕ) (r : Read) (after : Option FileView) → AreKept before → TakesRead before number r after
    → AreKept after
read_kept before number (Ok c) after k h = first_kept before number c after k h
read_kept before number (Err why) after k h = absurd h

line_kept : (before : Option FileView) (number : ℕ) (line : List ℕ) (after : Option FileView) → AreKept before → TakesLine before number line after
    → AreKept after
line_kept before number line after k h = pick (is_skipped line) _ _
    (λ _ e. subst AreKept (sym e) k) (λ _ r. read_kept before number (command_in line) after k r) h

all_kept : (lines : Numbered) (before after : Option FileView) → AreKept before → TakesAll lines before after → AreKept after
all_kept [] before after k h = subst AreKept (sym h) k
all_kept (line ∷ others) before after k h = all_kept others h.0 after (line_kept before line.0 line.1 h.0 k h.1) h.2

pub file_uses : (text : List ℕ) (f : FileView) → IsFile text f → AreUses f.planning f.uses
file_uses text f h =
    let k : IsKept f.planning f.uses = all_kept (numbered text) None (Some f) tt h in
    record { imports = k.filters direction.Import; exports = k.filters direction.Export }

-- ---- what is passed over

pub asks_nothing : (p q : PlanningView) (number : ℕ) (c : CommandView) (answer : Answer) → is_asking c ≡ true
    → Script.AnswersPlanned p number c answer q
    → (q.plan ≡ (Script.begin p).plan) × (q.filters ≡ (Script.begin p).filters) × (q.begun ≡ (Script.begin p).begun)
asks_nothing p q number (Domain size) answer e h = absurd (let no : false ≡ true = e in cc)
asks_nothing p q number (Prefix node bits) answer e h = absurd (let no : false ≡ true = e in cc)
asks_nothing p q number (Load name text) answer e h = absurd (let no : false ≡ true = e in cc)
asks_nothing p q number (Code name bytes) answer e h = absurd (let no : false ≡ true = e in cc)
asks_nothing p q number (Link wanted u w) answer e h = absurd (let no : false ≡ true = e in cc)
asks_nothing p q number (Use way u w name) answer e h = absurd (let no : false ≡ true = e in cc)
asks_nothing p q number (Anew u) answer e h = absurd (let no : false ≡ true = e in cc)
asks_nothing p q number Mark answer e h =
    (ap (λ (r : PlanningView). r.plan) h.2.1, ap (λ (r : PlanningView). r.filters) h.2.1, ap (λ (r : PlanningView). r.begun) h.2.1)
asks_nothing p q number Json answer e h =
    (ap (λ (r : PlanningView). r.plan) h.1, ap (λ (r : PlanningView). r.filters) h.1, ap (λ (r : PlanningView). r.begun) h.1)
asks_nothing p q number (Ask question) answer e h =
    (ap (λ (r : PlanningView). r.plan) h.1, ap (λ (r : PlanningView). r.filters) h.1, ap (λ (r : PlanningView). r.begun) h.1)
