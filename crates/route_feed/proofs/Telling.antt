-- What a feed has told, as the history goes on and as more is told.
use Rattle.std.proofs.Common.{◌≡◌, ◌∙◌, sym, ap, subst, refl, ℕ, suc, zero, ◌<◌, ◌≤◌, Bool, true, false, Option, Some, None, List, [], ◌∷◌}
use Rattle.std.proofs.Common.{length, length-append, take, arith, rules}
use Rattle.std.proofs.KnownBytes.{Appends-nil, Appends-trans}
use Rattle.std.proofs.lemmas.List.{take-append-le, take_all}
use Rattle.std.specs.Prelude.{if◌then◌else◌, is_none, is_some, not, IfErr, IfOk, IfSome, IsSome, Result, Ok, Err}
use Rattle.std.specs.Bool.{beq}
use Rattle.std.specs.Cmp.Lexicographic.{pointwise}
use Rattle.std.specs.Io.KnownBytes.{Appends}
use Rattle.line_protocol.specs.Runs.{AppendsFront}
use Rattle.netchange_core.specs.declared.best_route.BestRoute.{BestRoute}
use Rattle.netchange_core.specs.declared.reply.Via.TheVariants.{Nowhere}
use Rattle.netchange_core.specs.Best.{best, route_of}
use Rattle.netchange_core.specs.FilteredDistance.{prefix_of}
use Rattle.netchange_core.specs.OpeningView.{OpeningView}
use Rattle.netchange_core.specs.World.{World}
use Rattle.route_feed.specs.declared.fault.FeedFault.{FeedFault}
use Rattle.route_feed.specs.declared.fault.FeedFault.TheVariants as fault
use Rattle.route_feed.specs.declared.hop.Hop.{Hop}
use Rattle.route_feed.specs.declared.look.FeedSnapshot.{FeedSnapshot}
use Rattle.route_feed.specs.Changes.{are_same_below, changes_below}
use Rattle.route_feed.specs.Feeding.{AreMoments, FeedView, Got, HasFed, IsMoment, IsSpoken, Tells, is_none_before, seen_by, table_after}
use Rattle.route_feed.specs.Lines.{Block, block_text, feed_text, gathered}
use Rattle.route_feed.specs.Looks.{IsLook}
use Rattle.route_feed.specs.Steps.{AreNowhere, IsStill, IsUntold, IsUnwritten, IsWritten, news_block}
use Rattle.route_feed.specs.Table.{AreHops, hop_at, hop_of, is_had_below, nearer, nearest_below, prefix_at, route_at, table, table_by}
use Rattle.route_feed.proofs.Choosing.{to_itself}
use Rattle.route_feed.proofs.Gathering.{all_gathered, all_new, all_still, none_for, untouched}
use Rattle.route_history.specs.declared.entry.Entry.{Entry}
use Rattle.route_history.specs.Beginning.{Begins}
use Rattle.route_history.specs.History.{world_of}
use Rattle.route_history.specs.JournalView.{JournalView}
use Rattle.slot_lock.specs.Passes.{PassView, RouterView}

-- the journal, after it went on
abbrev longer : JournalView → List Entry → JournalView
longer j es = record j { entries = es }

module _ (j : JournalView) (es : List Entry) (b : Begins j.entries es) where
  not_shorter : length j.entries ≤ length es
  not_shorter = omega (arith, ap (λ (l : List Entry). length l) b.is, length-append j.entries b.rest)

  same_start : (n : ℕ) → n ≤ length j.entries → take n es ≡ take n j.entries
  same_start n within = ap (λ (l : List Entry). take n l) b.is ∙ take-append-le n j.entries b.rest within

  same_table : (n : ℕ) (p : List Bool) → n ≤ length j.entries → table_after j n p ≡ table_after (longer j es) n p
  same_table n p within = ap (λ (l : List Entry). table (world_of j.opening l) p) (sym (same_start n within))

  moment_longer : (upto more : ℕ) (c : Block) (bs : List Block) → upto ≤ length j.entries → upto ≤ more → IsMoment j upto c bs →
      IsMoment (longer j es) more c bs
  moment_longer upto more c bs within le m = record {
    at = omega (arith, m.at, le);
    table = λ p. m.table p ∙ same_table c.at p (omega (arith, m.at, within));
    new = m.new;
    foreign = m.foreign;
    whole = m.whole;
  }

  moments_longer : (upto : ℕ) (bs : List Block) → upto ≤ length j.entries → AreMoments j upto bs → AreMoments (longer j es) upto bs
  moments_longer upto [] within h = tt
  moments_longer upto (c ∷ bs) within h = (
    moment_longer upto upto c bs within (omega arith) h.0,
    moments_longer c.at bs (omega (arith, h.0.at, within)) h.1,
  )

  tells_longer : (at : Option ℕ) (bs : List Block) → Tells j at bs → Tells (longer j es) at bs
  tells_longer None bs h = h
  tells_longer (Some n) bs h = record {
    within = omega (arith, h.within, not_shorter);
    begun = h.begun;
    moments = moments_longer n bs h.within h.moments;
    now = λ p. h.now p ∙ same_table n p h.within;
  }

  got_longer : (broken : Bool) (bs : List Block) (first held : Option (List ℕ)) → Got broken j bs first held → Got broken (longer j es) bs first held
  got_longer false bs first held h = h
  got_longer true bs first held h = record {
    block = h.block;
    moment = moment_longer (length j.entries) (length es) h.block bs (omega arith) not_shorter h.moment;
    front = h.front;
    back = h.back;
    text = h.text;
    got = h.got;
  }

  -- what was told of a history was told of what it grew to
  pub fed_longer : (f : FeedView) → HasFed f j → HasFed f (longer j es)
  fed_longer f h = record {
    blocks = h.blocks;
    tells = tells_longer f.at h.blocks h.tells;
    hops = h.hops;
    others = h.others;
    got = got_longer f.is_broken h.blocks f.first f.held h.got;
  }

-- what was told of the history as one pass has seen it, and as it has seen it later
pub still_fed : (r : RouterView) (old new : PassView) → Begins old.fragment.seen new.fragment.seen → (f : FeedView) → HasFed f (seen_by r old) →
    HasFed f (seen_by r new)
still_fed r old new begins f h = fed_longer (seen_by r old) new.fragment.seen begins f h

-- a look that was found
pub look_found : (j : JournalView) (found : Option FeedSnapshot) (look : FeedSnapshot) → found ≡ Some look → IfSome found (IsLook j) → IsLook j look
look_found j found look is h = subst (λ (o : Option FeedSnapshot). IfSome o (IsLook j)) is h

-- the nearest node by the same routes
nearest_same : (size : ℕ) (prefix : ℕ → List Bool) (one two : ℕ → BestRoute) (p : List Bool) (n : ℕ) →
    ((v : ℕ) → v < n → one v ≡ two v) → nearest_below size prefix one p n ≡ nearest_below size prefix two p n
nearest_same size prefix one two p zero same = refl
nearest_same size prefix one two p (suc v) same =
    let before = nearest_same size prefix one two p v (λ u le. same u (omega (arith, le))) in
    ap (λ (r : BestRoute). if pointwise beq (prefix v) p then nearer r (one v) else r) before
    ∙ ap (λ (r : BestRoute). if pointwise beq (prefix v) p then nearer (nearest_below size prefix two p v) r else nearest_below size prefix two p v)
    (same v (omega arith))

-- no node has the prefix
nearest_none : (size : ℕ) (prefix : ℕ → List Bool) (route : ℕ → BestRoute) (p : List Bool) (n : ℕ) →
    is_had_below prefix p n ≡ false → nearest_below size prefix route p n ≡ route_of size Nowhere
nearest_none size prefix route p zero h = refl
nearest_none size prefix route p (suc v) h = one (pointwise beq (prefix v) p) h (λ g. nearest_none size prefix route p v g)
  where
    one : (b : Bool) → (if b then true else is_had_below prefix p v) ≡ false →
        (is_had_below prefix p v ≡ false → nearest_below size prefix route p v ≡ route_of size Nowhere) →
        (if b then nearer (nearest_below size prefix route p v) (route v) else nearest_below size prefix route p v) ≡ route_of size Nowhere
    one true g before = search rules
    one false g before = before g

-- blocks of moments up to one are of moments up to a later one
moments_upto : (j : JournalView) (upto more : ℕ) (bs : List Block) → upto ≤ more → AreMoments j upto bs → AreMoments j more bs
moments_upto j upto more [] le h = tt
moments_upto j upto more (c ∷ bs) le h = (record { at = omega (arith, h.0.at, le); table = h.0.table; new = h.0.new; foreign = h.0.foreign; whole = h.0.whole }, h.1)

moments_of : (j : JournalView) (at : Option ℕ) (bs : List Block) → Tells j at bs → AreMoments j (length j.entries) bs
moments_of j None bs h = subst (λ (l : List Block). AreMoments j (length j.entries) l) (sym h) tt
moments_of j (Some n) bs h = moments_upto j n (length j.entries) bs h.within h.moments

-- for the router's own prefix nothing is told
never_own : (j : JournalView) (upto : ℕ) (bs : List Block) → AreMoments j upto bs → gathered bs (prefix_of j.opening j.opening.me) ≡ None
never_own j upto [] h = refl
never_own j upto (b ∷ bs) h =
    untouched (gathered bs) b.changes (prefix_of j.opening j.opening.me) h.0.foreign ∙ never_own j b.at bs h.1

whole_of : (j : JournalView) (at : Option ℕ) (bs : List Block) → Tells j at bs → is_none at ≡ is_none_before bs
whole_of j None bs h = ap is_none_before (sym h)
whole_of j (Some n) [] h = absurd (h.begun refl)
whole_of j (Some n) (b ∷ bs) h = refl

begun_of : (j : JournalView) (at : Option ℕ) (bs : List Block) → IsSome at → Tells j at bs → bs ≡ [] → ⊥
begun_of j None bs some h = λ e. let no : false ≡ true = some in search rules
begun_of j (Some n) bs some h = h.begun

-- a feed that told nothing
pub new_fed : (o opened : OpeningView) (size : ℕ) (first stream : Option (List ℕ)) (hops : List (Option Hop)) (j : JournalView) → opened ≡ o →
    size ≡ o.size → first ≡ stream → AreNowhere size hops →
    HasFed (record { opening = opened; first = first; held = stream; at = None; hops = hops; is_broken = false }) j
new_fed o opened size first stream hops j opened_is size_is first_is nowhere =
    let here = subst (λ n. AreNowhere n hops) (size_is ∙ sym (ap (λ (x : OpeningView). x.size) opened_is)) nowhere in record {
      blocks = [];
      tells = refl;
      hops = record { one_a_node = here.one_a_node; each = here.each };
      others = λ p e. refl;
      got = subst (λ (x : Option (List ℕ)). Appends x stream []) (sym first_is) (Appends-nil stream);
    }

-- a look at a router, and a feed that told of its history
module _ (f : FeedView) (j : JournalView) (same : j.opening ≡ f.opening) (member : f.opening.me < f.opening.size) (look : FeedSnapshot)
    (looks : IsLook j look) (fed : HasFed f j) where
  abbrev its_world : World
  its_world = world_of j.opening j.entries

  opening_is : its_world.opening ≡ f.opening
  opening_is = looks.opening ∙ same

  at_end : (p : List Bool) → table_after j look.end p ≡ table its_world p
  at_end p = ap (λ (l : List Entry). table (world_of j.opening l) p) (take_all look.end j.entries (omega (arith, looks.end)))

  table_is : (p : List Bool) → table its_world p ≡ table_by f.opening.size (prefix_of f.opening) (best its_world) p
  table_is p = ap (λ (o : OpeningView). table_by o.size (prefix_of o) (best its_world) p) opening_is

  by_routes : (p : List Bool) → table_by f.opening.size (prefix_of f.opening) (route_at look.routes.items) p ≡ table its_world p
  by_routes p = ap hop_of (nearest_same f.opening.size (prefix_of f.opening) (route_at look.routes.items) (best its_world) p f.opening.size
      (λ v le. looks.routes.each v (subst (λ (o : OpeningView). v < o.size) (sym opening_is) le))) ∙ sym (table_is p)

  own_nowhere : table its_world (prefix_of j.opening j.opening.me) ≡ None
  own_nowhere = ap (λ (o : OpeningView). table its_world (prefix_of o o.me)) (sym looks.opening)
      ∙ to_itself its_world (subst (λ (o : OpeningView). o.me < o.size) (sym opening_is) member)

  none_there : (p : List Bool) → is_had_below (prefix_of f.opening) p f.opening.size ≡ false → table its_world p ≡ None
  none_there p e = table_is p ∙ ap hop_of (nearest_none f.opening.size (prefix_of f.opening) (best its_world) p f.opening.size e)

  module _ (hops : List (Option Hop))
      (are : AreHops f.opening.size (prefix_of f.opening) (table_by f.opening.size (prefix_of f.opening) (route_at look.routes.items)) hops) where
    new_hops : (v : ℕ) → v < f.opening.size → hop_at hops v ≡ table its_world (prefix_of f.opening v)
    new_hops v le = are.each v le ∙ by_routes (prefix_of f.opening v)

    others_same : (p : List Bool) → is_had_below (prefix_of f.opening) p f.opening.size ≡ false → gathered fed.blocks p ≡ table its_world p
    others_same p e = fed.others p e ∙ sym (none_there p e)

    abbrev pub its_block : Block
    its_block = news_block f hops look.end

    gathered_now : (p : List Bool) → gathered (its_block ∷ fed.blocks) p ≡ table its_world p
    gathered_now p = all_gathered (prefix_of f.opening) (hop_at f.hops) (hop_at hops) (gathered fed.blocks) (table its_world) f.opening.size
        fed.hops.each new_hops others_same p

    moment : (upto : ℕ) → look.end ≤ upto → IsMoment j upto its_block fed.blocks
    moment upto le = record {
      at = le;
      table = λ p. gathered_now p ∙ sym (at_end p);
      new = all_new (prefix_of f.opening) (hop_at f.hops) (hop_at hops) (gathered fed.blocks) (table its_world) f.opening.size fed.hops.each;
      foreign = none_for (prefix_of f.opening) (hop_at f.hops) (hop_at hops) (gathered fed.blocks) (table its_world)
          (prefix_of j.opening j.opening.me) (never_own j (length j.entries) fed.blocks (moments_of j f.at fed.blocks fed.tells)) own_nowhere
          f.opening.size fed.hops.each new_hops;
      whole = whole_of j f.at fed.blocks fed.tells;
    }

    before : AreMoments j look.end fed.blocks
    before = subst (λ n. AreMoments j n fed.blocks) (sym looks.end) (moments_of j f.at fed.blocks fed.tells)

    got_before : f.is_broken ≡ false → Appends f.first f.held (feed_text fed.blocks)
    got_before sound = subst (λ b. Got b j fed.blocks f.first f.held) sound fed.got

    -- the block was written
    pub fed_written : (now : Option (List ℕ)) → f.is_broken ≡ false → Appends f.held now (block_text its_block) →
        HasFed (record f { held = now; at = Some look.end; hops = hops }) j
    fed_written now sound more = record {
      blocks = its_block ∷ fed.blocks;
      tells = record {
        within = omega (arith, looks.end);
        begun = λ e. search rules;
        moments = (moment look.end (omega arith), before);
        now = λ p. gathered_now p ∙ sym (at_end p);
      };
      hops = record { one_a_node = are.one_a_node; each = λ v le. new_hops v le ∙ sym (gathered_now (prefix_of f.opening v)) };
      others = λ p e. gathered_now p ∙ none_there p e;
      got = subst (λ b. Got b j (its_block ∷ fed.blocks) f.first now) (sym sound)
          (Appends-trans f.first f.held now (feed_text fed.blocks) (block_text its_block) (got_before sound) more);
    }

    -- or a front of it
    pub fed_unwritten : (now : Option (List ℕ)) → f.is_broken ≡ false → AppendsFront f.held now (block_text its_block) →
        HasFed (record f { held = now; is_broken = true }) j
    fed_unwritten now sound more = record {
      blocks = fed.blocks;
      tells = fed.tells;
      hops = fed.hops;
      others = fed.others;
      got = record {
        block = its_block;
        moment = moment (length j.entries) (omega (arith, looks.end));
        front = more.0;
        back = more.1;
        text = more.2;
        got = Appends-trans f.first f.held now (feed_text fed.blocks) more.0 (got_before sound) more.3;
      };
    }

    -- or there is nothing to write
    pub fed_still : IsStill f hops → HasFed (record f { at = Some look.end }) j
    fed_still s =
        let still = subst (λ n. are_same_below (hop_at f.hops) (hop_at hops) n ≡ true) are.one_a_node s.same in
        let same_all = all_still (prefix_of f.opening) (hop_at f.hops) (hop_at hops) (gathered fed.blocks) (table its_world) f.opening.size
        fed.hops.each new_hops others_same still in
        record {
          blocks = fed.blocks;
          tells = record {
            within = omega (arith, looks.end);
            begun = begun_of j f.at fed.blocks s.told fed.tells;
            moments = before;
            now = λ p. same_all p ∙ sym (at_end p);
          };
          hops = fed.hops;
          others = fed.others;
          got = fed.got;
        }

none_is : (at : Option ℕ) (b : Bool) → is_some at ≡ not b → b ≡ is_none at
none_is None true h = refl
none_is None false h = search rules
none_is (Some n) true h = search rules
none_is (Some n) false h = refl

-- the text of the block, as the code has it: by what it read of the feed
pub block_is : (f : FeedView) (text : List ℕ) (prefixes : List (List Bool)) (old new hops : List (Option Hop)) (end : ℕ) (first : Bool) →
    text ≡ block_text (record { at = end; is_whole = first; changes = changes_below (prefix_at prefixes) (hop_at old) (hop_at new) (length prefixes) }) →
    prefixes ≡ f.opening.prefixes → length prefixes ≡ f.opening.size → old ≡ f.hops → new ≡ hops → is_some f.at ≡ not first →
    text ≡ block_text (news_block f hops end)
block_is f text prefixes old new hops end first is prefixes_are count old_is new_is first_is =
    is
    ∙ ap (λ (b : Bool). block_text (record { at = end; is_whole = b; changes = changes_below (prefix_at prefixes) (hop_at old) (hop_at new) (length prefixes) }))
    (none_is f.at first first_is)
    ∙ ap (λ n. block_text (record { at = end; is_whole = is_none f.at; changes = changes_below (prefix_at prefixes) (hop_at old) (hop_at new) n }))
    count
    ∙ ap (λ (ps : List (List Bool)). block_text (record {
      at = end;
      is_whole = is_none f.at;
      changes = changes_below (prefix_at ps) (hop_at old) (hop_at new) f.opening.size;
    })) prefixes_are
    ∙ ap (λ (l : List (Option Hop)). block_text (record {
      at = end;
      is_whole = is_none f.at;
      changes = changes_below (prefix_of f.opening) (hop_at l) (hop_at new) f.opening.size;
    })) old_is
    ∙ ap (λ (l : List (Option Hop)). block_text (record {
      at = end;
      is_whole = is_none f.at;
      changes = changes_below (prefix_of f.opening) (hop_at f.hops) (hop_at l) f.opening.size;
    })) new_is

module _ (f g : FeedView) (r : Result ℕ FeedFault) (text news : List ℕ) (is : text ≡ news) where
  -- it was written
  pub wrote_it : (hops : List (Option Hop)) (end : ℕ) → IfOk r (λ n. (n ≡ end) × IsWritten text hops end f g) →
      IfOk r (λ n. (n ≡ end) × IsWritten news hops end f g)
  wrote_it hops end h = subst (λ (t : List ℕ). IfOk r (λ n. (n ≡ end) × IsWritten t hops end f g)) is h

  -- or not all of it
  pub wrote_not_all : IfErr r (λ why. (why ≡ fault.Write) × IsUnwritten text f g) → IfErr r (λ why. IsUntold why news f g)
  wrote_not_all h = one r (subst (λ (t : List ℕ). IfErr r (λ why. (why ≡ fault.Write) × IsUnwritten t f g)) is h)
    where
      one : (x : Result ℕ FeedFault) → IfErr x (λ why. (why ≡ fault.Write) × IsUnwritten news f g) → IfErr x (λ why. IsUntold why news f g)
      one (Ok n) e = e
      one (Err why) e = subst (λ (w : FeedFault). IsUntold w news f g) (sym e.0) e.1

-- what was written is a block
pub spoke : (f g : FeedView) (b : Block) (hops : List (Option Hop)) (end : ℕ) (speaks : Bool) (r : Result ℕ FeedFault) → b.at ≡ end →
    IfOk r (λ n. (n ≡ end) × IsWritten (block_text b) hops end f g) → IfOk r (λ n. speaks ≡ true → IsSpoken n f g)
spoke f g b hops end speaks (Ok n) at h = λ _. record { block = b; at = at ∙ sym h.0; appends = h.1.appends }
spoke f g b hops end speaks (Err why) at h = tt

-- the same, as the code has it: by the size and the prefixes that it read
module _ (f g : FeedView) (j : JournalView) (same : j.opening ≡ f.opening) (member : f.opening.me < f.opening.size) (look : FeedSnapshot)
    (looks : IsLook j look) (fed : HasFed f j)
    (prefixes : List (List Bool)) (size : ℕ) (routes : List BestRoute) (hops : List (Option Hop)) (prefixes_are : prefixes ≡ f.opening.prefixes)
    (size_is : size ≡ f.opening.size) (routes_are : routes ≡ look.routes.items)
    (are : AreHops size (prefix_at prefixes) (table_by size (prefix_at prefixes) (route_at routes)) hops) where
  are_here : AreHops f.opening.size (prefix_of f.opening) (table_by f.opening.size (prefix_of f.opening) (route_at look.routes.items)) hops
  are_here =
      subst (λ (ps : List (List Bool)). AreHops f.opening.size (prefix_at ps) (table_by f.opening.size (prefix_at ps) (route_at look.routes.items)) hops)
      prefixes_are
      (subst (λ n. AreHops n (prefix_at prefixes) (table_by n (prefix_at prefixes) (route_at look.routes.items)) hops) size_is
      (subst (λ (l : List BestRoute). AreHops size (prefix_at prefixes) (table_by size (prefix_at prefixes) (route_at l)) hops) routes_are are))

  pub told_still : IsStill f hops → HasFed (record f { at = Some look.end }) j
  told_still s = fed_still f j same member look looks fed hops are_here s

  module _ (sound : f.is_broken ≡ false) where
    abbrev pub text : List ℕ
    text = block_text (news_block f hops look.end)

    written : IsWritten text hops look.end f g → HasFed g j
    written w = subst (λ (x : FeedView). HasFed x j) (sym w.is) (fed_written f j same member look looks fed hops are_here g.held sound w.appends)

    untold : (why : FeedFault) → IsUntold why text f g → HasFed g j
    untold fault.Memory is = subst (λ (x : FeedView). HasFed x j) (sym is) fed
    untold fault.Write w =
        subst (λ (x : FeedView). HasFed x j) (sym w.is) (fed_unwritten f j same member look looks fed hops are_here g.held sound w.front)

    pub told_hops : (r : Result ℕ FeedFault) → IfOk r (λ n. (n ≡ look.end) × IsWritten text hops look.end f g) →
        IfErr r (λ why. IsUntold why text f g) → HasFed g j
    told_hops (Ok n) ok err = written ok.1
    told_hops (Err why) ok err = untold why err
