-- The uses of a configuration are put in force, one after another.
use Rattle.std.proofs.Common.{◌≡◌, ℕ, ◌+◌, ◌<◌, ◌≤◌, Bool, true, false, List, [], ◌∷◌, ◌++◌, length, take, Option, Result, Ok, Err, IfOk, OnErr}
use Rattle.std.proofs.Common.{refl, sym, subst, ap, ◌∙◌, append_assoc, append-nil, inl, inr}
use Rattle.std.proofs.lemmas.List.{take_all, take_more}
use Rattle.std.proofs.lemmas.Option.{slice_get_read}
use Rattle.std.specs.Prelude.{◌⊎◌, flat_map, get_or}
use Rattle.line_protocol.specs.Answers.{Answer}
use Rattle.line_protocol.specs.declared.answers.LineReply.{LineReply}
use Rattle.netchange_core.specs.declared.event.Event.{Event}
use Rattle.operator_cmds.specs.Replies.{Adds, Answers, answered}
use Rattle.operator_cmds.specs.Script.{setting, tables_of}
use Rattle.operator_cmds.proofs.Answering.{added}
use Rattle.operator_cmds.proofs.Unended.{either}
use Rattle.route_history.specs.Beginning.{Begins}
use Rattle.route_history.specs.JournalView.{JournalView}
use Rattle.router_operator.specs.OperatorView.{Names, OperatorView, journal_seen}
use Rattle.router_operator.specs.Operators as operator
use Rattle.router_operator.specs.Operators.{AnswersEvent, Enters, GrowsByOne, IsFull, Looks}
use Rattle.router_operator.specs.Reloading.{BreaksOff, Puts, PutsAll, PutsEach, PutsNext, PutsSome, ReloadsLinks, SetsUnless}
use Rattle.router_operator.specs.Reloading.{change_words, is_in_force, is_refused, put_words, refused_behind, reload_word, renamed}
use Rattle.router_operator.specs.declared.configuration.LinkChange.{LinkChange}
use Rattle.router_operator.specs.declared.configuration.NamedUse.{NamedUse}
use Rattle.router_operator.proofs.Entering.{begins_more, begins_same, begins_then, keeps_shares}

-- ---- what is left of a line that breaks off

pub same_breaks : (before after : OperatorView) → after ≡ before → BreaksOff before after
same_breaks before after e =
    subst (λ (o : OperatorView). BreaksOff before o) (sym e)
    (record {
      only = keeps_shares before before.pass refl;
      begins = begins_same before.pass.fragment.seen before.pass.fragment.seen refl;
      mine = begins_same before.pass.fragment.mine before.pass.fragment.mine refl;
    })

grown : (old new : List ℕ) → GrowsByOne old new → Begins old new
grown old new (inl same) = begins_same old new same
grown old new (inr more) = record { rest = more.0 ∷ []; is = more.1 }

-- a line of one event
pub one_breaks : (before after : OperatorView) → operator.BreaksOff before after → BreaksOff before after
one_breaks before after h = record {
  only = h.only;
  begins = h.begins;
  mine = grown before.pass.fragment.mine after.pass.fragment.mine h.mine;
}

pub look_breaks : (before after : OperatorView) → Looks before after → BreaksOff before after
look_breaks before after h = record {
  only = h.only;
  begins = h.found.begins;
  mine = begins_same before.pass.fragment.mine after.pass.fragment.mine h.mine;
}

event_breaks : (before : OperatorView) (happened : Event) (answer : Answer) (after : OperatorView)
    → AnswersEvent before happened answer after → BreaksOff before after
event_breaks before happened answer after h = record { only = h.only; begins = saw h.does; mine = made h.does }
  where
    saw : Enters before h.log happened answer after ⊎ IsFull before h.log answer after → Begins before.pass.fragment.seen after.pass.fragment.seen
    saw (inl e) = begins_more before.pass.fragment.seen h.log _ after.pass.fragment.seen h.found.begins (ap (λ (j : JournalView). j.entries) e.seen)
    saw (inr e) =
        begins_then before.pass.fragment.seen h.log after.pass.fragment.seen h.found.begins
        (begins_same h.log after.pass.fragment.seen (ap (λ (j : JournalView). j.entries) e.seen))

    made : Enters before h.log happened answer after ⊎ IsFull before h.log answer after → Begins before.pass.fragment.mine after.pass.fragment.mine
    made (inl e) = record { rest = length h.log ∷ []; is = e.mine }
    made (inr e) = begins_same before.pass.fragment.mine after.pass.fragment.mine e.mine

pub breaks_then : (a b c : OperatorView) → BreaksOff a b → BreaksOff b c → BreaksOff a c
breaks_then a b c p q = record {
  only = record {
    rest = q.only.rest ∙ ap (λ (o : OperatorView). record o { pass = c.pass }) p.only.rest;
    shares = q.only.shares ∙ p.only.shares;
  };
  begins = begins_then a.pass.fragment.seen b.pass.fragment.seen c.pass.fragment.seen p.begins q.begins;
  mine = begins_then a.pass.fragment.mine b.pass.fragment.mine c.pass.fragment.mine p.mine q.mine;
}

set_breaks : (checks : Bool) (before : OperatorView) (used : NamedUse) (reply : LineReply) (after : OperatorView)
    → SetsUnless checks before used reply after → BreaksOff before after
set_breaks true before used reply after h = same_breaks before after h.1
set_breaks false before used reply after (filter, same, answer, event, is) =
    event_breaks before (setting used.direction used.node filter) answer after event

pub put_breaks : (checks : Bool) (before : OperatorView) (used : NamedUse) (put : Option LineReply) (differs : List ℕ) (after : OperatorView)
    → Puts checks before used put differs after → BreaksOff before after
put_breaks checks before used put differs after (mid, looks, h) =
    breaks_then before mid after (look_breaks before mid looks)
    (either (is_in_force (tables_of (journal_seen mid)) used) _ _ (λ p. same_breaks mid after p.2)
    (λ q. set_breaks checks mid used q.0 after q.2) h)

pub next_breaks : (checks : Bool) (before : OperatorView) (used : NamedUse) (old : List ℕ) (refused : Bool) (new : List ℕ) (after : OperatorView)
    → PutsNext checks before used old refused new after → BreaksOff before after
next_breaks checks before used old refused new after (put, differs, puts, is, added) = put_breaks checks before used put differs after puts

pub all_breaks : (checks : Bool) (before : OperatorView) (uses : List NamedUse) (text : List ℕ) (after : OperatorView)
    → PutsAll checks before uses text after → BreaksOff before after
all_breaks checks before [] text after h = same_breaks before after h.1
all_breaks checks before (used ∷ uses) text after (mid, put, differs, puts, taken, more, rest, is) =
    breaks_then before mid after (put_breaks checks before used put differs mid puts) (all_breaks checks mid uses more after rest)

some_breaks : (checks : Bool) (before : OperatorView) (uses : List NamedUse) (text : List ℕ) (after : OperatorView)
    → PutsSome checks before uses text after → BreaksOff before after
some_breaks checks before uses text after (count, used, at, mid, all, put, differs, puts, refused) =
    breaks_then before mid after (all_breaks checks before (take count uses) text mid all) (put_breaks checks mid used put differs after puts)

pub each_breaks : (checks : Bool) (before : OperatorView) (uses : List NamedUse) (old : List ℕ) (whole : Bool) (new : List ℕ) (after : OperatorView)
    → PutsEach checks before uses old whole new after → BreaksOff before after
each_breaks checks before uses old whole new after (text, is, h) =
    either whole _ _ (λ p. all_breaks checks before uses text after p) (λ q. some_breaks checks before uses text after q) h

-- whatever became of what follows
pub left_after : {A E : Type 0} (r : Result A E) (P : Type 0) → P → OnErr r P
left_after (Ok a) P p = tt
left_after (Err e) P p = p

-- ---- many

-- one more
puts_more : (checks : Bool) (before mid after : OperatorView) (uses : List NamedUse) (used : NamedUse) (put : Option LineReply)
    (differs text : List ℕ) → PutsAll checks before uses text mid → Puts checks mid used put differs after → is_refused put ≡ false
    → PutsAll checks before (uses ++ used ∷ []) (text ++ put_words used put differs) after
puts_more checks before mid after [] used put differs text h puts taken = (
  after,
  put,
  differs,
  subst (λ (o : OperatorView). Puts checks o used put differs after) h.1 puts,
  taken,
  [],
  (refl, refl),
  ap (λ (t : List ℕ). t ++ put_words used put differs) h.0 ∙ sym (append-nil (put_words used put differs)),
)
puts_more checks before mid after (first ∷ uses) used put differs text (next, earlier, differed, puts_first, not_refused, more, rest, is) puts taken = (
  next,
  earlier,
  differed,
  puts_first,
  not_refused,
  more ++ put_words used put differs,
  puts_more checks next mid after uses used put differs more rest puts taken,
  ap (λ (t : List ℕ). t ++ put_words used put differs) is
      ∙ append_assoc (put_words first earlier differed) more (put_words used put differs),
)

-- the uses before an index are in force, and what is told of them stands behind what there was
abbrev pub PutsBefore : Bool → OperatorView → List NamedUse → ℕ → List ℕ → List ℕ → OperatorView → Type 0
PutsBefore checks before uses count old new after =
    (text : List ℕ) × (new ≡ old ++ text) × PutsAll checks before (take count uses) text after

-- what was in force before breaks off so
pub before_breaks : (checks : Bool) (before : OperatorView) (uses : List NamedUse) (count : ℕ) (old new : List ℕ) (after : OperatorView)
    → PutsBefore checks before uses count old new after → BreaksOff before after
before_breaks checks before uses count old new after (text, is, all) = all_breaks checks before (take count uses) text after all

-- none is before the first
pub puts_begin : (checks : Bool) (o : OperatorView) (uses : List NamedUse) (old : List ℕ) → PutsBefore checks o uses 0 old old o
puts_begin checks o uses old = ([], sym (append-nil old), (refl, refl))

-- all of them
pub puts_all : (checks : Bool) (before : OperatorView) (uses : List NamedUse) (count : ℕ) (old new : List ℕ) (after : OperatorView)
    → length uses ≤ count → PutsBefore checks before uses count old new after → PutsEach checks before uses old true new after
puts_all checks before uses count old new after whole (text, is, all) =
    (text, is, subst (λ (us : List NamedUse). PutsAll checks before us text after) (take_all count uses whole) all)

module _ (checks : Bool) (before : OperatorView) (uses : List NamedUse) (old : List ℕ) where
  -- the next one is, too
  pub puts_next : (count : ℕ) (used : NamedUse) (mid after : OperatorView) (held new : List ℕ) (refused : Bool) → used ≡ get_or uses count used
      → count < length uses → PutsBefore checks before uses count old held mid → refused ≡ false → PutsNext checks mid used held refused new after
      → PutsBefore checks before uses (count + 1) old new after
  puts_next count used mid after held new true at within h is next = absurd (cc)
  puts_next count used mid after held new false at within (text, is, all) goes (put, differs, puts, taken, added) = (
    text ++ put_words used put differs,
    added ∙ ap (λ (t : List ℕ). t ++ put_words used put differs) is ∙ append_assoc old text (put_words used put differs),
    subst (λ (us : List NamedUse). PutsAll checks before us (text ++ put_words used put differs) after)
        (sym (take_more uses count used within ∙ ap (λ (u : NamedUse). take count uses ++ u ∷ []) (sym at)))
        (puts_more checks before mid after (take count uses) used put differs text all puts taken),
  )

  -- or it is refused
  pub puts_stops : (count : ℕ) (used : NamedUse) (mid after : OperatorView) (held new : List ℕ) (refused : Bool) → used ≡ get_or uses count used
      → count < length uses → PutsBefore checks before uses count old held mid → refused ≡ true → PutsNext checks mid used held refused new after
      → PutsEach checks before uses old false new after
  puts_stops count used mid after held new false at within h is next = absurd (cc)
  puts_stops count used mid after held new true at within (text, is, all) stops (put, differs, puts, refused, same) =
      (text, same ∙ is, (count, used, slice_get_read uses (length uses) count used refl within at, mid, all, put, differs, puts, refused))

-- ---- a reload

-- what is told stands behind nothing, and the uses are those that a vector has
module _ (checks : Bool) (before mid : OperatorView) (uses slice : List NamedUse) (begun text : List ℕ) (same : slice ≡ uses) (empty : begun ≡ []) where
  told_alone : (told : List ℕ) → text ≡ begun ++ told → text ≡ told
  told_alone told is = is ∙ ap (λ (front : List ℕ). front ++ told) empty

  all_uses : PutsEach checks before slice begun true text mid → PutsAll checks before uses text mid
  all_uses (told, is, all) =
      subst (λ (us : List NamedUse). PutsAll checks before us text mid) same
      (subst (λ (t : List ℕ). PutsAll checks before slice t mid) (sym (told_alone told is)) all)

  some_uses : PutsEach checks before slice begun false text mid → PutsSome checks before uses text mid
  some_uses (told, is, some) =
      subst (λ (us : List NamedUse). PutsSome checks before us text mid) same
      (subst (λ (t : List ℕ). PutsSome checks before slice t mid) (sym (told_alone told is)) some)

  pub reloads : {E : Type 0} (after : OperatorView) (number : ℕ) (names : Names) (changes : List LinkChange) (told shown : List ℕ)
      (r : Result LineReply E) (old new : List ℕ)
      → PutsEach checks before slice begun true text mid → shown ≡ text → told ≡ flat_map change_words changes
      → after ≡ renamed checks names mid → IfOk r (Adds (answered (reload_word checks ++ shown ++ told)) old new)
      → IfOk r (Answers (λ answer. ReloadsLinks checks before number names uses answer after) old new)
  reloads after number names changes told shown r old new puts is_text is_told is_after h =
      added r (answered (reload_word checks ++ shown ++ told)) (λ answer. ReloadsLinks checks before number names uses answer after) old new
      (λ answer e. (
        changes,
        inl (
          text,
          mid,
          all_uses puts,
          is_after,
          e ∙ ap (λ (t : List ℕ). answered (reload_word checks ++ t ++ told)) is_text
              ∙ ap (λ (n : List ℕ). answered (reload_word checks ++ text ++ n)) is_told,
        ),
      )) h

  pub reload_stops : {E : Type 0} (number : ℕ) (names : Names) (shown : List ℕ) (whole : Bool) (r : Result LineReply E) (old new : List ℕ)
      → whole ≡ false → PutsEach checks before slice begun whole text mid → shown ≡ text → IfOk r (Adds (refused_behind number shown) old new)
      → IfOk r (Answers (λ answer. ReloadsLinks checks before number names uses answer mid) old new)
  reload_stops number names shown true r old new is puts is_text h = absurd (cc)
  reload_stops number names shown false r old new is puts is_text h =
      added r (refused_behind number shown) (λ answer. ReloadsLinks checks before number names uses answer mid) old new
      (λ answer e. ([], inr (text, some_uses puts, e ∙ ap (λ (t : List ℕ). refused_behind number t) is_text))) h
