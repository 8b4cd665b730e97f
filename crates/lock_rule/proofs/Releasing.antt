-- The release of the lock keeps the rule.
use Rattle.std.proofs.Common.{◌≡◌, ◌∙◌, sym, ap, refl, subst, ℕ, zero, suc, ◌+◌, ◌-◌, ◌<◌, ◌≤◌, ◌≢◌, ◌⊎◌, inl, inr, ⊎_elim}
use Rattle.std.proofs.Common.{Some, None, Option, List, [], ◌∷◌, ◌++◌, length, length-append, append-nil, arith}
use Rattle.std.proofs.lemmas.Bool.Decides.{nat_tests}
use mathlib.Core.Option.{none, some, some-injective, some-ne-none}
use mathlib.Core.Option as core_option
use mathlib.Core.Logic.{dite}
use native.Mathlib.Decide.{ℕ_discrete}
use lib.ListN.{get_elem?}
use Rattle.std.proofs.Common.{set}
use Rattle.atomic_table.specs.Table.{State, Act, Me, gives, Valid, homes_after, carried_after, Allows}
use Rattle.atomic_table.proofs.Lists.{at_set}
use Rattle.netchange_core.specs.OpeningView.{OpeningView}
use Rattle.route_history.specs.declared.bounds.Bounds.{Bounds}
use Rattle.route_history.specs.declared.entry.Entry.{Entry}
use Rattle.route_history.specs.Beginning.{Begins}
use Rattle.route_history.specs.History.{IsLegal}
use Rattle.route_history.specs.Long.{IsWindow, LongView}
use Rattle.route_history.specs.Positions.{once_below, times}
use Rattle.lock_rule.specs.declared.rule.View.{View}
use Rattle.lock_rule.specs.Views.{held_history, released, released_at, released_with, right_of, shares_of, times_in_view}
use Rattle.lock_rule.specs.Rule.{AreIn, AreKnown, Fits, IsHeld, IsKept, Knows, total}
use Rattle.lock_rule.specs.Steps.{after_release, after_release_entered, after_release_seen, last_entry}
use Rattle.lock_rule.proofs.Prefixes.{shorter, whole}
use Rattle.lock_rule.proofs.Keeping.{known_set, once_more, right_set, sees_on, times_append}
use Rattle.lock_rule.proofs.Totals.{total_two}

-- what a seat that holds the lock has to show to release it, with a new view
pub record MayRelease (v : View) (p : OpeningView × Bounds) (log : List Entry) (j : LongView) (w : View) : Type 0 where
  pub some_shares : 0 < shares_of v
  pub held : v.held ≡ Some (held_history v)
  pub about : v.about ≡ Some p
  pub window : IsWindow p.0 p.1 log j
  pub legal : IsLegal p.0 log
  pub grows : Begins (held_history v) log
  pub ends : w.held ≡ None
  pub fits : (o : OpeningView) (l : Bounds) → Fits o l (held_history v) v → Fits o l log w
  pub shares : shares_of w ≡ shares_of v
  pub on : v.held_first ≤ j.first
  pub forgets : v.held_first < j.first → 0 < v.right
  pub knows : Knows v.held_first v → Knows j.first w
  pub right : w.right ≡ v.right
  pub moved : (x : ℕ) → times_in_view x w + once_below x (length (held_history v)) ≡ times_in_view x v + once_below x (length log)

pub same_pair : (p q : OpeningView × Bounds) (x : Option (OpeningView × Bounds)) → x ≡ Some p → x ≡ Some q → p ≡ q
same_pair p q x a b = cc

same_held : (p q : List Entry) (x : Option (List Entry)) → x ≡ Some p → x ≡ Some q → p ≡ q
same_held p q x a b = cc

none_is_no_history : (p : List Entry) (x : Option (List Entry)) → x ≡ None → x ≡ Some p → ⊥
none_is_no_history p x a b = cc

-- the holder is the seat whose view holds a history, and the history is that one
holder_is : {first : ℕ} (s : State LongView View) (log es : List Entry) (is_held : IsHeld log first s) (id : ℕ) (v : View) → get_elem? s.views id ≡ some v →
    v.held ≡ Some es → (id ≡ is_held.holder) × (log ≡ es) × (v.held_first ≡ first)
holder_is s log es is_held id v at held = dite (ℕ_discrete id is_held.holder)
    (λ e.
    let same : is_held.who ≡ v = some-injective is_held.who v (sym is_held.there ∙ ap (λ (k : ℕ). get_elem? s.views k) (sym e) ∙ at) in
    (e, same_held log es v.held (ap (λ (z : View). z.held) (sym same) ∙ is_held.held) held, ap (λ (z : View). z.held_first) (sym same) ∙ is_held.first_is))
    (λ apart. absurd (none_is_no_history es v.held (is_held.others id v at apart) held))

pub zero_or_more : (n : ℕ) → (n ≡ 0) ⊎ (0 < n)
zero_or_more zero = inl refl
zero_or_more (suc n) = inr (omega arith)

-- what the others know stays right, since nobody else has the right where more is forgotten
others_know : (first later : ℕ) (views : List View) (id k : ℕ) (v u : View) → get_elem? views id ≡ some v → get_elem? views k ≡ some u → k ≢ id →
    total right_of views ≤ 1 → first ≤ later → (first < later → 0 < v.right) → Knows first u → Knows later u
others_know first later views id k v u at there apart most on forgets h =
    let a = h.0 in let b = h.1 in (
      omega arith,
      omega arith,
      λ has. ⊎_elim
          (λ none_more. let all = h.2 has in omega arith)
          (λ some_more.
          let two : u.right + v.right ≤ total right_of views = total_two right_of views k id u v there at apart in
          let own : 0 < v.right = forgets (omega arith) in absurd (omega arith))
          (zero_or_more (later - first)),
    )

free_after : (o : OpeningView) (l : Bounds) (id : ℕ) (v : View) (p : OpeningView × Bounds) (log : List Entry) (j : LongView) (w : View) (views : List View) →
    MayRelease v p log j w →
    get_elem? views id ≡ some v → AreKnown o l (held_history v) views →
    ((k : ℕ) (u : View) → get_elem? views k ≡ some u → Knows v.held_first u) → total right_of views ≤ 1 →
    ((k : ℕ) (u : View) → get_elem? views k ≡ some u → k ≢ id → u.held ≡ None) →
    IsKept o l (record { words = 0 ∷ []; homes = some j ∷ []; views = set views id w })
free_after o l id v p log j w views may at known forgot most others =
    let fits = known.fits id v at in
    let same : p ≡ (o, l) = same_pair p (o, l) v.about may.about (fits.about may.some_shares) in record {
      log = log;
      first = j.first;
      lock = inl (record {
        words = refl;
        journal = j;
        first_is = refl;
        homes = refl;
        window = subst (λ (z : OpeningView × Bounds). IsWindow z.0 z.1 log j) same may.window;
        none_holds = λ k u there. ⊎_elim (λ t. ap (λ (z : View). z.held) (sym t.1) ∙ may.ends) (λ t. others k u t.1 t.0) (at_set views id k w u there);
      });
      legal = subst (λ (z : OpeningView × Bounds). IsLegal z.0 log) same may.legal;
      known = known_set o l (held_history v) log views id v w at known may.grows (may.fits o l fits) may.shares may.moved;
      forgot = λ k u there. ⊎_elim
          (λ t. subst (λ (z : View). Knows j.first z) t.1 (may.knows (forgot id v at)))
          (λ t. others_know v.held_first j.first views id k v u at t.1 t.0 most may.on may.forgets (forgot k u t.1))
          (at_set views id k w u there);
      right = right_set views id v w at may.right most;
    }

-- what a store of 0 asks for, where the word and the slot are these
abbrev ReleasesAt : OpeningView → Bounds → ℕ → View → LongView → List View → (Me LongView View → Type 0) → List ℕ →
    List (core_option.Option LongView) → Type 0
ReleasesAt o l id v j views then_is words homes = (w : View) × (a : Act LongView) × Valid homes ((0, j) ∷ []) a
    × IsKept o l (record {
      words = set words 0 0;
      homes = homes_after homes ((0, j) ∷ []) a;
      views = set views id w;
    })
    × then_is (w, carried_after ((0, j) ∷ []) a)

pub releases : (o : OpeningView) (l : Bounds) (slots id : ℕ) (v : View) (p : OpeningView × Bounds) (log : List Entry) (j : LongView) (w : View)
    (then_is : Me LongView View → Type 0) → MayRelease v p log j w → then_is (w, []) → Allows (IsKept o l) slots id (v, (0, j) ∷ []) 0 (λ _. 0) (λ _. then_is)
releases o l slots id v p log j w then_is may tells s kept _ at _ = ⊎_elim
    (λ is_free. absurd (none_is_no_history (held_history v) v.held (is_free.none_holds id v at) may.held))
    (λ is_held.
    let is = holder_is s kept.log (held_history v) is_held id v at may.held in
    let known : AreKnown o l (held_history v) s.views = subst (λ (log : List Entry). AreKnown o l log s.views) is.1 kept.known in
    let forgot : (k : ℕ) (u : View) → get_elem? s.views k ≡ some u → Knows v.held_first u =
    λ k u there. subst (λ (n : ℕ). Knows n u) (sym is.2) (kept.forgot k u there) in
    let others : (k : ℕ) (u : View) → get_elem? s.views k ≡ some u → k ≢ id → u.held ≡ None =
    λ k u there apart. is_held.others k u there (λ e. apart (e ∙ sym is.0)) in
    subst (λ (z : List ℕ × List (core_option.Option LongView)). ReleasesAt o l id v j s.views then_is z.0 z.1)
    (λ i. (sym is_held.words i, sym is_held.homes i))
    (w, gives, tt, free_after o l id v p log j w s.views may at known forgot kept.right others, tells))
    kept.lock

pub single : (x n : ℕ) → 0 < times x (n ∷ []) → x ≡ n
single x n h = grind (arith, nat_tests)

-- the position of the new entry is among the positions of a history that is longer by one
pub more_within : (mine : List ℕ) (seen log grown : List Entry) → AreIn mine seen → length seen ≤ length log → length grown ≡ length log + 1 →
    AreIn (mine ++ length log ∷ []) grown
more_within mine seen log grown within le more x h = ⊎_elim
    (λ none_here.
    let sum = times_append x mine (length log ∷ []) in
    let is : x ≡ length log = single x (length log) (omega arith) in omega arith)
    (λ some_here. let below = within x some_here in omega arith)
    (zero_or_more (times x mine))

entered_fits : (v : View) (grown : List Entry) (e : Entry) → 0 < shares_of v → grown ≡ held_history v ++ e ∷ [] → (o : OpeningView) (l : Bounds) →
    Fits o l (held_history v) v → Fits o l grown (released_with v grown (v.fragment.mine ++ length (held_history v) ∷ []))
entered_fits v grown e some_shares is o l h = record {
  fragment = record {
    begins = whole grown;
    within = more_within v.fragment.mine v.fragment.seen (held_history v) grown h.fragment.within
        (shorter v.fragment.seen (held_history v) h.fragment.begins)
        (ap (λ (es : List Entry). length es) is ∙ length-append (held_history v) (e ∷ []));
  };
  incoming = sees_on (held_history v) grown v.incoming (record { rest = e ∷ []; is = is }) h.incoming;
  about = h.about;
  empty = λ none_left. absurd (omega arith);
}

entered_moves : (x n m : ℕ) (mine incoming : List ℕ) → m ≡ n + 1 →
    (times x (mine ++ n ∷ []) + times x incoming) + once_below x n ≡ (times x mine + times x incoming) + once_below x m
entered_moves x n m mine incoming is =
    let sum = times_append x mine (n ∷ []) in let more = once_more x n in let same : once_below x m ≡ once_below x (n + 1) = ap (once_below x) is in
    omega arith

-- with one entry more
pub releasing_entered : (o : OpeningView) (l : Bounds) (slots id : ℕ) (v : View) (p : OpeningView × Bounds) (j : LongView) (e : Entry) → 0 < shares_of v →
    v.held ≡ Some (held_history v) → v.about ≡ Some p → IsWindow p.0 p.1 (held_history v ++ e ∷ []) j → IsLegal p.0 (held_history v ++ e ∷ []) →
    last_entry j.entries ≡ e ∷ [] → j.first ≡ v.held_first →
    Allows (IsKept o l) slots id (v, (0, j) ∷ []) 0 (λ _. 0) (λ _ w. w ≡ after_release_entered (v, (0, j) ∷ []))
releasing_entered o l slots id v p j e some_shares held about window legal last stays =
    let grown = held_history v ++ e ∷ [] in
    let w = released_with v grown (v.fragment.mine ++ length (held_history v) ∷ []) in
    releases o l slots id v p grown j w (λ u. u ≡ after_release_entered (v, (0, j) ∷ [])) (record {
      some_shares = some_shares;
      held = held;
      about = about;
      window = window;
      legal = legal;
      grows = record { rest = e ∷ []; is = refl };
      ends = refl;
      on = omega arith;
      forgets = λ more. absurd (omega arith);
      knows = λ h. subst (λ (n : ℕ). Knows n v) (sym stays) h;
      right = refl;
      fits = entered_fits v grown e some_shares refl;
      shares = refl;
      moved = λ x. entered_moves x (length (held_history v)) (length grown) v.fragment.mine v.incoming.mine
          (length-append (held_history v) (e ∷ []));
    }) (λ i. (released_with v (held_history v ++ sym last i) (v.fragment.mine ++ length (held_history v) ∷ []), []))

seen_fits : (v : View) (grown : List Entry) (first : ℕ) → 0 < shares_of v → grown ≡ held_history v → (o : OpeningView) (l : Bounds) →
    Fits o l (held_history v) v → Fits o l grown (released_at v grown v.fragment.mine first)
seen_fits v grown first some_shares is o l h = record {
  fragment = record {
    begins = whole grown;
    within = λ x there.
        let below = h.fragment.within x there in let le = shorter v.fragment.seen (held_history v) h.fragment.begins in
        let same = ap (λ (es : List Entry). length es) is in omega arith;
  };
  incoming = sees_on (held_history v) grown v.incoming (record { rest = []; is = is ∙ sym (append-nil (held_history v)) }) h.incoming;
  about = h.about;
  empty = λ none_left. absurd (omega arith);
}

-- as it was, and its history is seen; the journal may have forgotten entries
pub releasing_seen : (o : OpeningView) (l : Bounds) (slots id : ℕ) (v : View) (p : OpeningView × Bounds) (j : LongView) → 0 < shares_of v →
    v.held ≡ Some (held_history v) → v.about ≡ Some p → IsWindow p.0 p.1 (held_history v) j → IsLegal p.0 (held_history v) → v.held_first ≤ j.first →
    (v.held_first < j.first → 0 < v.right) →
    Allows (IsKept o l) slots id (v, (0, j) ∷ []) 0 (λ _. 0) (λ _ w. w ≡ after_release_seen (v, (0, j) ∷ []))
releasing_seen o l slots id v p j some_shares held about window legal on forgets =
    releases o l slots id v p (held_history v) j (released_at v (held_history v) v.fragment.mine j.first) (λ u. u ≡ after_release_seen (v, (0, j) ∷ [])) (record {
      some_shares = some_shares;
      held = held;
      about = about;
      window = window;
      legal = legal;
      grows = whole (held_history v);
      ends = refl;
      on = on;
      forgets = forgets;
      knows = λ h. let b = h.1 in (omega arith, omega arith, λ has. omega arith);
      right = refl;
      fits = seen_fits v (held_history v) j.first some_shares refl;
      shares = refl;
      moved = λ x. refl;
    }) refl

released_fits : (v : View) (grown : List Entry) → 0 < shares_of v → grown ≡ held_history v → (o : OpeningView) (l : Bounds) →
    Fits o l (held_history v) v → Fits o l grown (released v)
released_fits v grown some_shares is o l h = let on : Begins (held_history v) grown = record { rest = []; is = is ∙ sym (append-nil (held_history v)) } in record {
  fragment = sees_on (held_history v) grown v.fragment on h.fragment;
  incoming = sees_on (held_history v) grown v.incoming on h.incoming;
  about = h.about;
  empty = λ none_left. absurd (omega arith);
}

-- as it was, and nothing is told
pub releasing : (o : OpeningView) (l : Bounds) (slots id : ℕ) (v : View) (p : OpeningView × Bounds) (j : LongView) → 0 < shares_of v →
    v.held ≡ Some (held_history v) → v.about ≡ Some p → IsWindow p.0 p.1 (held_history v) j → IsLegal p.0 (held_history v) → j.first ≡ v.held_first →
    Allows (IsKept o l) slots id (v, (0, j) ∷ []) 0 (λ _. 0) (λ _ w. w ≡ after_release (v, (0, j) ∷ []))
releasing o l slots id v p j some_shares held about window legal stays =
    releases o l slots id v p (held_history v) j (released v) (λ u. u ≡ after_release (v, (0, j) ∷ [])) (record {
      some_shares = some_shares;
      held = held;
      about = about;
      window = window;
      legal = legal;
      grows = whole (held_history v);
      ends = refl;
      on = omega arith;
      forgets = λ more. absurd (omega arith);
      knows = λ h. subst (λ (n : ℕ). Knows n v) (sym stays) h;
      right = refl;
      fits = released_fits v (held_history v) some_shares refl;
      shares = refl;
      moved = λ x. refl;
    }) refl
