-- Where the filters of a plan come from, as they are noted.
use Rattle.std.proofs.Common.{◌≡◌, ◌≢◌, ⊎_elim, inl, inr, ℕ, zero, suc, ◌<◌, ◌≤◌, ◌==◌, ◌&&◌, Bool, true, false, if◌then◌else◌, List, [], ◌∷◌, ◌++◌}
use Rattle.std.proofs.Common.{All, length, slice_get, Option, Some, None, IfSome, MatchOption, refl, sym, ap, subst, ◌∙◌, length-append, arith}
use Rattle.std.proofs.lemmas.Bool.{and_from, and_left, and_right, cases_eq, eq-eqb, ne_eqb}
use Rattle.std.proofs.lemmas.List.Elements.{All-nil, All-push, All-weaker}
use Rattle.std.specs.Cmp.Lexicographic.{bytes_decides}
use Rattle.std.specs.Option.{option_map}
use Rattle.std.specs.Str.{bytes_eq}
use Rattle.filter_verifier.specs.VerifiedView.{VerifiedView}
use Rattle.line_protocol.specs.Answers.{Answer}
use Rattle.line_protocol.specs.declared.answers.LineReply.{LineReply}
use Rattle.line_protocol.specs.declared.answers.LineReply.TheVariants as line_reply
use Rattle.operator_cmds.specs.Replies.{Answers}
use Rattle.operator_cmds.specs.Script.{AnswersSource, GetsName, IsVerified, gives, lacks}
use Rattle.operator_cmds.specs.declared.event.Direction.{Direction}
use Rattle.operator_cmds.specs.declared.event.Direction.TheVariants.{Export, Import}
use Rattle.operator_cmds.specs.declared.filter.FilterSource.{FilterSource}
use Rattle.domain_routes.specs.Edits.{exporting, importing, linking, unlinked, with_prefix}
use Rattle.domain_routes.specs.PlanView.{IsPlan, PeerView, PlanView, peer}
use Rattle.domain_routes.specs.Still.{BetweenView}
use Rattle.domain_routes.proofs.Linking.{IsLink, linking_keeps}
use Rattle.domain_routes.proofs.Places.{cases_place, put_here, put_same, put_there}
use Rattle.domain_routes.proofs.Unlinked.{strange}
use Rattle.domain_cmds.specs.Origins.{AreLastOf, AreOriginsOf, IsOrigin, Notes, NotesUse, OriginView, OriginsView, filter_at, filter_of_place, is_use_of, last_named, used_in}
use Rattle.domain_cmds.specs.Script.{filtering}
use Rattle.domain_cmds.specs.Short.{IsShortSource}
use Rattle.domain_cmds.specs.State.{FiltersView, Named, filter_named}
use Rattle.domain_cmds.specs.declared.origins.Use.{Use}
use Rattle.domain_cmds.proofs.Fitting.{fit_same}
use Rattle.domain_cmds.proofs.Naming.{last_at}
use Rattle.domain_cmds.proofs.Unrefused.{noted_origin}

-- ---- places

slice_front : {X : Type 0} (xs ys : List X) (i : ℕ) → i < length xs → slice_get (xs ++ ys) i ≡ slice_get xs i
slice_front [] ys i short = absurd (omega (arith, short))
slice_front (x ∷ xs) ys zero short = refl
slice_front (x ∷ xs) ys (suc i) short = slice_front xs ys i (omega (arith, short))

slice_seam : {X : Type 0} (xs ys : List X) (y : X) → slice_get (xs ++ y ∷ ys) (length xs) ≡ Some y
slice_seam [] ys y = refl
slice_seam (x ∷ xs) ys y = slice_seam xs ys y

abbrev filter_in : Option OriginView → Option VerifiedView
filter_in origin = option_map (λ o. o.filter) origin

-- a place that has a filter is one
is_place : (all : List OriginView) (place : ℕ) (f : VerifiedView) → filter_in (slice_get all place) ≡ Some f → place < length all
is_place [] place f e = absurd (let no : None ≡ Some f = e in cc)
is_place (o ∷ all) zero f e = omega arith
is_place (o ∷ all) (suc place) f e = let less = is_place all place f e in omega (arith, less)

-- filters stay where they are as others come behind them
stays : (all more : List OriginView) (place : Option ℕ) → IfSome place (λ p. p < length all) → filter_of_place (all ++ more) place ≡ filter_of_place all place
stays all more None h = refl
stays all more (Some place) h = ap filter_in (slice_front all more place h)

stays_found : (all more : List OriginView) (place : Option ℕ) (f : VerifiedView) → filter_of_place all place ≡ Some f
    → filter_of_place (all ++ more) place ≡ Some f
stays_found all more None f e = e
stays_found all more (Some place) f e = stays all more (Some place) (is_place all place f e) ∙ e

-- ---- names

same_bytes : (name : List ℕ) → bytes_eq name name ≡ true
same_bytes name = (bytes_decides name name).1 refl

equal_bytes : (name other : List ℕ) → bytes_eq name other ≡ true → name ≡ other
equal_bytes name other e = (bytes_decides name other).0 e

weaker : {X : Type 0} (o : Option X) (P Q : X → Type 0) → ((x : X) → P x → Q x) → IfSome o P → IfSome o Q
weaker None P Q f h = h
weaker (Some x) P Q f h = f x h

-- ---- plans

-- the filters stay as they are
pub unchanged : (p q : PlanView) (origins : OriginsView) → q.size ≡ p.size
    → ((way : Direction) (a b : ℕ) → filter_at way (peer q a b) ≡ filter_at way (peer p a b)) → AreOriginsOf p origins → AreOriginsOf q origins
unchanged p q origins size same o = record {
  known = subst (λ (n : ℕ). All (IsOrigin n) origins.all) (sym size) o.known;
  used = λ way a b. same way a b ∙ o.used way a b;
  among = o.among;
}

-- each is of the plan's size
pub all_fit : (p : PlanView) (origins : OriginsView) → AreOriginsOf p origins → All (λ (o : OriginView). o.filter.size ≡ p.size) origins.all
all_fit p origins o = All-weaker (IsOrigin p.size) (λ (one : OriginView). one.filter.size ≡ p.size) (λ one is. is.fits) origins.all o.known

pub prefixed : (p : PlanView) (v : ℕ) (bits : List Bool) (origins : OriginsView) → AreOriginsOf p origins → AreOriginsOf (with_prefix v bits p) origins
prefixed p v bits origins o = unchanged p (with_prefix v bits p) origins refl (λ way a b. refl) o

linked_at : (p : PlanView) (u w : ℕ) (linked : Bool) → IsLink p u w → (way : Direction) (a b : ℕ)
    → filter_at way (peer (linking linked u w p) a b) ≡ filter_at way (peer p a b)
linked_at p u w linked l Import a b = linking_keeps (λ (c : PeerView). c.imports) (λ _ _. refl) p u w linked l a b
linked_at p u w linked l Export a b = linking_keeps (λ (c : PeerView). c.exports) (λ _ _. refl) p u w linked l a b

pub linked : (p : PlanView) (u w : ℕ) (b : Bool) (origins : OriginsView) → IsPlan p → u < p.size → w < p.size → u ≢ w → AreOriginsOf p origins
    → AreOriginsOf (linking b u w p) origins
linked p u w b origins plan from to apart o =
    unchanged p (linking b u w p) origins refl (linked_at p u w b (record { plan = plan; from = from; to = to; apart = apart })) o

strange_at : (prefixes : List (List Bool)) (way : Direction) (u w : ℕ) → filter_at way (peer (unlinked prefixes) u w) ≡ None
strange_at prefixes Import u w = ap (λ (c : PeerView). c.imports) (strange prefixes u w)
strange_at prefixes Export u w = ap (λ (c : PeerView). c.exports) (strange prefixes u w)

-- a plan without filters
pub none_known : (p : PlanView) (prefixes : List (List Bool)) (origins : OriginsView) → p ≡ unlinked prefixes → origins ≡ record { all = []; uses = [] }
    → AreOriginsOf p origins
none_known p prefixes origins is none =
    subst (λ (q : PlanView). AreOriginsOf q origins) (sym is)
    (subst (AreOriginsOf (unlinked prefixes)) (sym none) (record {
      known = All-nil (IsOrigin (length prefixes));
      used = λ way u w. strange_at prefixes way u w;
      among = λ way u w. tt;
    }))

-- ---- a filter that is used

test_here : (u w a b : ℕ) → a ≡ u → b ≡ w → (u == a && w == b) ≡ true
test_here u w a b same there = and_from (u == a) (w == b) (eq-eqb u a (sym same)) (eq-eqb w b (sym there))

test_there : (u w a b : ℕ) → (a ≡ u → b ≡ w → ⊥) → (u == a && w == b) ≡ false
test_there u w a b other = ⊎_elim
    (λ (same : a ≡ u). and_right (u == a) (w == b) (ne_eqb w b (λ there. other same (sym there))))
    (λ (apart : a ≢ u). and_left (u == a) (w == b) (ne_eqb u a (λ same. apart (sym same))))
    (cases_eq a u)

module _ (p : PlanView) (f : VerifiedView) (u w : ℕ) (plan : IsPlan p) (from : u < p.size) (to : w < p.size) where
  imported : (a b : ℕ) → (peer (importing f u w p) a b).imports ≡ (if u == a && w == b then Some f else (peer p a b).imports)
  imported a b =
      let c : PeerView = record (peer p u w) { imports = Some f } in
      ⊎_elim
      (λ (at : (a ≡ u) × (b ≡ w)). ap (λ (k : PeerView). k.imports) (put_here p u w c plan.places from to a b (at.0) (at.1))
      ∙ ap (λ (t : Bool). if t then Some f else (peer p a b).imports) (sym (test_here u w a b (at.0) (at.1))))
      (λ (other : a ≡ u → b ≡ w → ⊥). ap (λ (k : PeerView). k.imports) (put_there p u w c plan.places from a b other)
      ∙ ap (λ (t : Bool). if t then Some f else (peer p a b).imports) (sym (test_there u w a b other)))
      (cases_place u w a b)

  exported : (a b : ℕ) → (peer (exporting f u w p) a b).exports ≡ (if u == a && w == b then Some f else (peer p a b).exports)
  exported a b =
      let c : PeerView = record (peer p u w) { exports = Some f } in
      ⊎_elim
      (λ (at : (a ≡ u) × (b ≡ w)). ap (λ (k : PeerView). k.exports) (put_here p u w c plan.places from to a b (at.0) (at.1))
      ∙ ap (λ (t : Bool). if t then Some f else (peer p a b).exports) (sym (test_here u w a b (at.0) (at.1))))
      (λ (other : a ≡ u → b ≡ w → ⊥). ap (λ (k : PeerView). k.exports) (put_there p u w c plan.places from a b other)
      ∙ ap (λ (t : Bool). if t then Some f else (peer p a b).exports) (sym (test_there u w a b other)))
      (cases_place u w a b)

  -- the filter stands there, in its direction, and all others where they were
  filtered_at : (way other : Direction) (place a b : ℕ) → filter_at other (peer (filtering way f u w p) a b)
      ≡ (if is_use_of other a b (record { direction = way; u = u; w = w; place = place }) then Some f else filter_at other (peer p a b))
  filtered_at Import Import place a b = imported a b
  filtered_at Import Export place a b =
      put_same (λ (k : PeerView). k.exports) p u w (record (peer p u w) { imports = Some f }) plan.places from to refl a b
  filtered_at Export Import place a b =
      put_same (λ (k : PeerView). k.imports) p u w (record (peer p u w) { exports = Some f }) plan.places from to refl a b
  filtered_at Export Export place a b = exported a b

  filtered_size : (way : Direction) → (filtering way f u w p).size ≡ p.size
  filtered_size Import = refl
  filtered_size Export = refl

  used_one : (all : List OriginView) (place : ℕ) (before : Option ℕ) (t : Bool) (found : Option VerifiedView) → filter_of_place all (Some place) ≡ Some f
      → found ≡ filter_of_place all before → (if t then Some f else found) ≡ filter_of_place all (if t then Some place else before)
  used_one all place before true found here there = sym here
  used_one all place before false found here there = there

  among_one : (n place : ℕ) (before : Option ℕ) (t : Bool) → place < n → IfSome before (λ k. k < n) → IfSome (if t then Some place else before) (λ k. k < n)
  among_one n place before true here there = here
  among_one n place before false here there = there

  used_place : (way : Direction) (place : ℕ) (old new : OriginsView) → filter_of_place old.all (Some place) ≡ Some f
      → NotesUse way u w (Some place) old new → AreOriginsOf p old → AreOriginsOf (filtering way f u w p) new
  used_place way place old new here (kept, puts) o =
      let added : Use = record { direction = way; u = u; w = w; place = place } in
      record {
        known = subst (λ (n : ℕ). All (IsOrigin n) new.all) (sym (filtered_size way))
            (subst (λ (l : List OriginView). All (IsOrigin p.size) l) (sym kept) o.known);
        used = λ other a b. filtered_at way other place a b
            ∙ used_one old.all place (used_in old.uses other a b) (is_use_of other a b added) (filter_at other (peer p a b)) here (o.used other a b)
            ∙ (λ i. filter_of_place (sym kept i) (sym (puts other a b) i));
        among = λ other a b. subst (λ (l : List OriginView). IfSome (used_in new.uses other a b) (λ k. k < length l)) (sym kept)
            (subst (λ (place : Option ℕ). IfSome place (λ k. k < length old.all)) (sym (puts other a b))
            (among_one (length old.all) place (used_in old.uses other a b) (is_use_of other a b added) (is_place old.all place f here)
            (o.among other a b)));
      }

  -- the filter that a name has now is used from now on
  pub used : (way : Direction) (named : Option ℕ) (old new : OriginsView) → filter_of_place old.all named ≡ Some f → NotesUse way u w named old new
      → AreOriginsOf p old → AreOriginsOf (filtering way f u w p) new
  used way None old new here h o = absurd (let no : None ≡ Some f = here in cc)
  used way (Some place) old new here h o = used_place way place old new here h o

-- the filters of names stay as they are noted
pub names_stay : (way : Direction) (u w : ℕ) (place : Option ℕ) (old new : OriginsView) (named : Named) → NotesUse way u w place old new → AreLastOf old named
    → AreLastOf new named
names_stay way u w None old new named h l = subst (λ (o : OriginsView). AreLastOf o named) (sym h) l
names_stay way u w (Some place) old new named (kept, puts) l = λ name.
    subst (λ (all : List OriginView). IfSome (filter_named named name) (λ f. filter_of_place all (last_named all name) ≡ Some f)) (sym kept) (l name)

-- ---- a filter that gets a name

among_more : (n m : ℕ) (place : Option ℕ) → n ≤ m → IfSome place (λ k. k < n) → IfSome place (λ k. k < m)
among_more n m None less h = h
among_more n m (Some k) less h = omega (arith, less, h)

abbrev with_one : OriginsView → OriginView → OriginsView
with_one old o = record old { all = old.all ++ o ∷ [] }

one_origin : (p : PlanView) (old : OriginsView) (one : OriginView) → IsOrigin p.size one → AreOriginsOf p old → AreOriginsOf p (with_one old one)
one_origin p old one is o = record {
  known = All-push (IsOrigin p.size) old.all one o.known is;
  used = λ way u w. o.used way u w ∙ sym (stays old.all (one ∷ []) (used_in old.uses way u w) (o.among way u w));
  among = λ way u w. among_more (length old.all) (length (old.all ++ one ∷ [])) (used_in old.uses way u w)
      (omega (arith, length-append old.all (one ∷ []))) (o.among way u w);
}

one_name : (old : OriginsView) (one : OriginView) (m : Named) (name : List ℕ) (f : VerifiedView) → one.name ≡ name → one.filter ≡ f → AreLastOf old m
    → (other : List ℕ) (t : Bool) → bytes_eq name other ≡ t
    → IfSome (if t then Some f else filter_named m other)
    (λ g. filter_of_place (old.all ++ one ∷ []) (last_named (old.all ++ one ∷ []) other) ≡ Some g)
one_name old one m name f is same l other t e =
    let here : last_named (old.all ++ one ∷ []) other ≡ (if t then Some (length old.all) else last_named old.all other) =
    last_at old.all one other
    ∙ ap (λ (text : List ℕ). if bytes_eq text other then Some (length old.all) else last_named old.all other) is
    ∙ ap (λ (b : Bool). if b then Some (length old.all) else last_named old.all other) e in
    split t here
  where
    split : (t : Bool) → last_named (old.all ++ one ∷ []) other ≡ (if t then Some (length old.all) else last_named old.all other)
        → IfSome (if t then Some f else filter_named m other)
        (λ g. filter_of_place (old.all ++ one ∷ []) (last_named (old.all ++ one ∷ []) other) ≡ Some g)
    split true here = ap (filter_of_place (old.all ++ one ∷ [])) here ∙ ap filter_in (slice_seam old.all [] one) ∙ ap (λ (g : VerifiedView). Some g) same
    split false here =
        weaker (filter_named m other) (λ g. filter_of_place old.all (last_named old.all other) ≡ Some g)
        (λ g. filter_of_place (old.all ++ one ∷ []) (last_named (old.all ++ one ∷ []) other) ≡ Some g)
        (λ g was. ap (filter_of_place (old.all ++ one ∷ [])) here ∙ stays_found old.all (one ∷ []) (last_named old.all other) g was) (l other)

names_gain : (old : OriginsView) (one : OriginView) (m n : Named) (name : List ℕ) (f : VerifiedView) → one.name ≡ name → one.filter ≡ f
    → GetsName name f (filter_named m) (filter_named n) → AreLastOf old m → AreLastOf (with_one old one) n
names_gain old one m n name f is same gets l other =
    subst (λ (o : Option VerifiedView). IfSome o (λ g. filter_of_place (old.all ++ one ∷ []) (last_named (old.all ++ one ∷ []) other) ≡ Some g))
    (sym (gets other)) (one_name old one m name f is same l other (bytes_eq name other) refl)

-- ---- a source that was answered

abbrev pub IsKnown : PlanView → OriginsView → Named → Type 0
IsKnown p origins named = AreOriginsOf p origins × AreLastOf origins named

noted : (p : PlanView) (s : FilterSource) (number : ℕ) (name : List ℕ) (m n : Named) (old new : OriginsView) (f : VerifiedView) → IsShortSource s
    → IsVerified (gives s) p.size f → GetsName name f (filter_named m) (filter_named n) → Notes number name s f old new → IsKnown p old m
    → IsKnown p new n
noted p s number name m n old new f short verified gets notes (o, l) =
    let one = noted_origin s p.size number name f old new short verified notes in
    subst (λ (later : OriginsView). IsKnown p later n) (sym one.1)
    (one_origin p old one.0 one.2 o, names_gain old one.0 m n name f one.3 one.4 gets l)

module _ (p : PlanView) (s : FilterSource) (number : ℕ) (name : List ℕ) (m n : Named) (old : OriginsView) (reply : LineReply) (out_old out_new : List ℕ)
    (known : IsKnown p old m)
    (answers : Answers (λ answer. AnswersSource (gives s) (lacks s) p.size number name (filter_named m) answer (filter_named n)) out_old out_new reply) where
  abbrev IsAnswered : Answer → Type 0
  IsAnswered answer = AnswersSource (gives s) (lacks s) p.size number name (filter_named m) answer (filter_named n)

  named_now : (f : VerifiedView) → GetsName name f (filter_named m) (filter_named n) → filter_named n name ≡ Some f
  named_now f gets = gets name ∙ ap (λ (b : Bool). if b then Some f else filter_named m name) (same_bytes name)

  answered : (new : OriginsView) → IsShortSource s → reply ≡ line_reply.Answered
      → MatchOption (filter_named n name) (new ≡ old) (λ f. Notes number name s f old new) → (answer : Answer) → answer.reply ≡ reply → IsAnswered answer
      → IsKnown p new n
  answered new short is notes answer same (inl (f, verified, (told, gets))) =
      noted p s number name m n old new f short verified gets
      (subst (λ (o : Option VerifiedView). MatchOption o (new ≡ old) (λ g. Notes number name s g old new)) (named_now f gets) notes) known
  answered new short is notes answer same (inr (why, bad, (told, stay))) =
      absurd (let no : line_reply.Refused ≡ line_reply.Answered = sym (ap (λ (a : Answer). a.reply) told) ∙ same ∙ is in cc)

  -- the filter is noted
  pub loaded : (new : OriginsView) → IsShortSource s → reply ≡ line_reply.Answered
      → MatchOption (filter_named n name) (new ≡ old) (λ f. Notes number name s f old new) → IsKnown p new n
  loaded new short is notes = answered new short is notes (record { text = answers.0; reply = reply }) refl (answers.2)

  turned : (reply ≡ line_reply.Answered → ⊥) → (answer : Answer) → answer.reply ≡ reply → IsAnswered answer → (other : List ℕ)
      → filter_named n other ≡ filter_named m other
  turned not answer same (inl (f, verified, (told, gets))) other = absurd (not (sym same ∙ ap (λ (a : Answer). a.reply) told))
  turned not answer same (inr (why, bad, (told, stay))) other = stay other

  -- a source is refused, and nothing is noted
  pub turned_away : (reply ≡ line_reply.Answered → ⊥) → IsKnown p old n
  turned_away not = (
    known.0,
    λ other. subst (λ (o : Option VerifiedView). IfSome o (λ f. filter_of_place old.all (last_named old.all other) ≡ Some f))
        (sym (turned not (record { text = answers.0; reply = reply }) refl (answers.2) other)) (known.1 other),
  )

  others : (answer : Answer) → IsAnswered answer → (other : List ℕ) → bytes_eq name other ≡ false → filter_named n other ≡ filter_named m other
  others answer (inl (f, verified, (told, gets))) other apart = gets other ∙ ap (λ (b : Bool). if b then Some f else filter_named m other) apart
  others answer (inr (why, bad, (told, stay))) other apart = stay other

  forgotten_one : (k : Named) → filter_named k name ≡ None → ((other : List ℕ) → other ≢ name → filter_named k other ≡ filter_named n other)
      → (other : List ℕ) (t : Bool) → bytes_eq name other ≡ t
      → IfSome (filter_named k other) (λ f. filter_of_place old.all (last_named old.all other) ≡ Some f)
  forgotten_one k gone stay other true e =
      subst (λ (o : Option VerifiedView). IfSome o (λ f. filter_of_place old.all (last_named old.all other) ≡ Some f))
      (sym (ap (filter_named k) (sym (equal_bytes name other e)) ∙ gone)) tt
  forgotten_one k gone stay other false e =
      let apart : other ≢ name = (λ same. let no : true ≡ false = sym (same_bytes name) ∙ ap (bytes_eq name) (sym same) ∙ e in cc) in
      subst (λ (o : Option VerifiedView). IfSome o (λ f. filter_of_place old.all (last_named old.all other) ≡ Some f))
      (sym (stay other apart ∙ others (record { text = answers.0; reply = reply }) (answers.2) other e)) (known.1 other)

  -- the name is free again
  pub forgotten : (k : Named) → filter_named k name ≡ None → ((other : List ℕ) → other ≢ name → filter_named k other ≡ filter_named n other)
      → IsKnown p old k
  forgotten k gone stay = (known.0, λ other. forgotten_one k gone stay other (bytes_eq name other) refl)

-- ---- what holds of a domain that is set up, between two lines

abbrev pub IsKept : ℕ → Option BetweenView → PlanView → OriginsView → Named → Type 0
IsKept size since p origins named = (size ≡ p.size) × IfSome since (λ between. between.most.size ≡ p.size) × AreOriginsOf p origins × AreLastOf origins named

module _ (size : ℕ) (since : Option BetweenView) (p : PlanView) (origins : OriginsView) (named : Named) (kept : IsKept size since p origins named) where
  pub kept_prefixed : (q : PlanView) (v : ℕ) (bits : List Bool) → q ≡ with_prefix v bits p → IsKept size since q origins named
  kept_prefixed q v bits is =
      subst (λ (x : PlanView). IsKept size since x origins named) (sym is) (kept.0, kept.1, prefixed p v bits origins kept.2, kept.3)

  pub kept_linked : (q : PlanView) (u w n : ℕ) (b : Bool) (later : Option BetweenView) → q ≡ linking b u w p → IsPlan p → u < p.size → w < p.size → u ≢ w
      → IfSome later (λ between. between.most.size ≡ n) → n ≡ p.size → IsKept size later q origins named
  kept_linked q u w n b later is plan from to apart fits same =
      subst (λ (x : PlanView). IsKept size later x origins named) (sym is)
      (kept.0, fit_same later n p.size same fits, linked p u w b origins plan from to apart kept.2, kept.3)

  -- the filter that has a name now is the last that got it
  named_here : (name : List ℕ) (f : VerifiedView) → filter_named named name ≡ Some f → filter_of_place origins.all (last_named origins.all name) ≡ Some f
  named_here name f is =
      subst (λ (o : Option VerifiedView). IfSome o (λ g. filter_of_place origins.all (last_named origins.all name) ≡ Some g)) is (kept.3 name)

  pub kept_used : (q : PlanView) (way : Direction) (f : VerifiedView) (u w n : ℕ) (name : List ℕ) (later : Option BetweenView) (new : OriginsView)
      → q ≡ filtering way f u w p → IsPlan p → u < p.size → w < p.size → filter_named named name ≡ Some f
      → NotesUse way u w (last_named origins.all name) origins new → IfSome later (λ between. between.most.size ≡ n) → n ≡ p.size
      → IsKept size later q new named
  kept_used q way f u w n name later new is plan from to found notes fits same =
      let sized : (filtering way f u w p).size ≡ p.size = filtered_size p f u w plan from to way in
      subst (λ (x : PlanView). IsKept size later x new named) (sym is) (
        kept.0 ∙ sym sized,
        fit_same later n (filtering way f u w p).size (same ∙ sym sized) fits,
        used p f u w plan from to way (last_named origins.all name) origins new (named_here name f found) notes kept.2,
        names_stay way u w (last_named origins.all name) origins new named notes kept.3,
      )

  -- whatever becomes of a source
  pub kept_known : (more : ℕ) (later : OriginsView) (names : Named) → more ≡ size → IsKnown p later names → IsKept more since p later names
  kept_known more later names same known = (same ∙ kept.0, kept.1, known.0, known.1)

  pub is_known : IsKnown p origins named
  is_known = (kept.2, kept.3)

  here : (s : FilterSource) (number : ℕ) (name : List ℕ) (later : FiltersView) (reply : LineReply) (out_old out_new : List ℕ)
      → Answers (λ answer. AnswersSource (gives s) (lacks s) size number name (filter_named named) answer (filter_named later.named)) out_old out_new reply
      → Answers (λ answer. AnswersSource (gives s) (lacks s) p.size number name (filter_named named) answer (filter_named later.named)) out_old out_new reply
  here s number name later reply out_old out_new answers =
      subst
      (λ (n : ℕ). Answers (λ answer. AnswersSource (gives s) (lacks s) n number name (filter_named named) answer (filter_named later.named)) out_old
      out_new reply)
      kept.0 answers

  -- a source was refused
  pub kept_turned : (s : FilterSource) (number : ℕ) (name : List ℕ) (later : FiltersView) (reply : LineReply) (out_old out_new : List ℕ)
      → later.size ≡ size
      → Answers (λ answer. AnswersSource (gives s) (lacks s) size number name (filter_named named) answer (filter_named later.named)) out_old out_new reply
      → (reply ≡ line_reply.Answered → ⊥) → IsKept later.size since p origins later.named
  kept_turned s number name later reply out_old out_new same answers not =
      kept_known later.size origins later.named same
      (turned_away p s number name named later.named origins reply out_old out_new is_known
      (here s number name later reply out_old out_new answers) not)

  -- a source got its name, and where it comes from is noted
  pub kept_loaded : (s : FilterSource) (number : ℕ) (name : List ℕ) (later now : FiltersView) (reply : LineReply) (out_old out_new : List ℕ)
      (new : OriginsView) → later.size ≡ size
      → Answers (λ answer. AnswersSource (gives s) (lacks s) size number name (filter_named named) answer (filter_named later.named)) out_old out_new reply
      → IsShortSource s → reply ≡ line_reply.Answered → now ≡ later
      → MatchOption (filter_named later.named name) (new ≡ origins) (λ f. Notes number name s f origins new) → IsKept now.size since p new now.named
  kept_loaded s number name later now reply out_old out_new new same answers short is left notes =
      subst (λ (f : FiltersView). IsKept f.size since p new f.named) (sym left)
      (kept_known later.size new later.named same
      (loaded p s number name named later.named origins reply out_old out_new is_known
      (here s number name later reply out_old out_new answers) new short is notes))

  -- a source got its name, and lost it again
  pub kept_forgotten : (s : FilterSource) (number : ℕ) (name : List ℕ) (later now : FiltersView) (reply : LineReply) (out_old out_new : List ℕ)
      (new : OriginsView) → later.size ≡ size
      → Answers (λ answer. AnswersSource (gives s) (lacks s) size number name (filter_named named) answer (filter_named later.named)) out_old out_new reply
      → now.size ≡ later.size → (new ≡ origins) × (filter_named now.named name ≡ None)
      → ((other : List ℕ) → other ≢ name → filter_named now.named other ≡ filter_named later.named other) → IsKept now.size since p new now.named
  kept_forgotten s number name later now reply out_old out_new new same answers fits (is, gone) stay =
      subst (λ (o : OriginsView). IsKept now.size since p o now.named) (sym is)
      (kept_known now.size origins now.named (fits ∙ same)
      (forgotten p s number name named later.named origins reply out_old out_new is_known
      (here s number name later reply out_old out_new answers) now.named gone stay))

  -- the plan is what it was
  pub kept_still : (q : PlanView) → q ≡ p → IsKept size since q origins named
  kept_still q is = subst (λ (x : PlanView). IsKept size since x origins named) (sym is) kept

  -- and is what it may become, from now on
  pub kept_marked : (q : PlanView) (b : BetweenView) → q ≡ p → b.most.size ≡ q.size → IsKept size (Some b) q origins named
  kept_marked q b is fits =
      let so_far = kept_still q is in (so_far.0, fits, so_far.2, so_far.3)

  -- nothing more is noted
  pub kept_unnoted : (new : OriginsView) → new ≡ origins → IsKept size since p new named
  kept_unnoted new is = subst (λ (x : OriginsView). IsKept size since p x named) (sym is) kept

  -- all filters and their names are what they were
  pub kept_same : (now : FiltersView) → now ≡ record { size = size; named = named } → IsKept now.size since p origins now.named
  kept_same now is = subst (λ (f : FiltersView). IsKept f.size since p origins f.named) (sym is) kept
