-- A history is saved whole, at least as far as another pass has seen it.
use Rattle.std.proofs.Common.{◌≡◌, ◌∙◌, sym, ap, subst, Option, Some, None, ℕ, zero, suc, ◌+◌, ◌-◌, ◌<◌, ◌≤◌, max, true, List, [], ◌∷◌, ◌++◌, append_assoc, length, take, drop, arith}
use Rattle.std.specs.Prelude.{IfSome}
use Rattle.std.proofs.lemmas.List.{length-take-le, take-append-drop}
use Rattle.history_saver.proofs.Fronts.{has_front, has_still}
use Rattle.history_saver.specs.Looking.{Looks, seen_by}
use Rattle.history_saver.specs.Segments.{HasSegments, SegmentsView}
use Rattle.history_saver.specs.Steps.{IsAllSaved}
use Rattle.netchange_core.specs.OpeningView.{OpeningView}
use Rattle.route_history.specs.Beginning.{Begins}
use Rattle.route_history.specs.History.{IsLegal}
use Rattle.route_history.specs.declared.entry.Entry.{Entry}
use Rattle.slot_lock.specs.Calls.{Met}
use Rattle.slot_lock.specs.Passes.{Fragment, IsNew, IsPassOf, PassView, RouterView}
use Rattle.router_daemon.specs.Forgetting.{Forgets, ForgetsSaved, HasBegun, IsForgetter}
use Rattle.router_daemon.specs.Passes.{IsLegalPass}
use Rattle.router_daemon.specs.Running.{HasWhole}
use Rattle.router_daemon.proofs.Passes.{legal_new}

begins_both : (xs ys zs : List Entry) → Begins xs ys → Begins ys zs → Begins xs zs
begins_both xs ys zs b c = record {
  rest = b.rest ++ c.rest;
  is = c.is ∙ ap (λ (l : List Entry). l ++ c.rest) b.is ∙ append_assoc xs b.rest c.rest;
}

-- nothing is saved or forgotten yet of a router that was just opened
each_begun : (r : RouterView) (right : PassView) (opening : OpeningView) (limit back kept : ℕ) (saver : Option SegmentsView) → IsNew r 1 right →
    r.opening ≡ opening → r.limit ≡ limit → back ≡ kept → IfSome saver (HasBegun opening limit back) → IfSome saver (ForgetsSaved r right kept)
each_begun r right opening limit back kept None new is_opening is_limit same h = tt
each_begun r right opening limit back kept (Some s) new is_opening is_limit same h =
    let none = ap (λ (f : Fragment). f.forgot) new.fragment in record {
      has = h.has (seen_by r right) is_opening is_limit;
      saved = omega (arith, none);
      back = h.back ∙ same;
    }

pub begun : (r : RouterView) (right : PassView) (opening : OpeningView) (limit back kept : ℕ) (saver : Option SegmentsView) → IsNew r 1 right →
    r.opening ≡ opening → r.limit ≡ limit → r.endless ≡ true → back ≡ kept → IfSome saver (HasBegun opening limit back) →
    IsForgetter r (record { saver = saver; right = right; kept = kept })
begun r right opening limit back kept saver new is_opening is_limit endless same h = record {
  endless = endless;
  legal = legal_new r 1 right new;
  forgets = each_begun r right opening limit back kept saver new is_opening is_limit same h;
}

-- the first so many of two lists, where that is all of the first list
take_beyond : (xs ys : List Entry) (n : ℕ) → length xs ≤ n → take n (xs ++ ys) ≡ xs ++ take (n - length xs) ys
take_beyond [] ys n le = ap (λ k. take k ys) (let same : n ≡ n - 0 = omega arith in same)
take_beyond (x ∷ xs) ys zero le = absurd (omega (arith, le))
take_beyond (x ∷ xs) ys (suc n) le =
    ap (λ (l : List Entry). x ∷ l) (take_beyond xs ys n (omega (arith, le))
    ∙ ap (λ k. xs ++ take k ys) (let same : n - length xs ≡ suc n - suc (length xs) = omega arith in same))

-- what saving comes to, of a router that is this one
module _ (at r : RouterView) (named : at ≡ r) (endless : r.endless ≡ true) (old new : PassView) (s : SegmentsView) (n kept : ℕ)
    (is : n ≡ s.saved) (seen : length old.fragment.seen ≤ n) (back : s.back ≡ kept) (has : HasSegments s (seen_by at new))
    (asked : new.fragment.forgot ≤ max old.fragment.forgot (s.saved - s.back))
    (frees : at.endless ≡ true → length new.fragment.seen ≤ 9223372036854775808 → s.saved - s.back < new.fragment.forgot + 1024) where
  pub saves_all : Forgets kept n old new
  saves_all =
      let rising = has.rising in
      let within = has.within in record {
        from = λ _. seen;
        to = omega (arith, is, rising, within);
        keeps = omega (arith, is, back, asked);
        frees = λ most. let free = frees (ap (λ (x : RouterView). x.endless) named ∙ endless) most in omega (arith, is, back, free);
      }

-- the right meets another pass, and looks
module _ (at r : RouterView) (named : at ≡ r) (right other learned left mid : PassView) (met : Met right other learned left)
    (begins : Begins learned.fragment.seen mid.fragment.seen) where
  own_first : Begins right.fragment.seen mid.fragment.seen
  own_first = begins_both right.fragment.seen learned.fragment.seen mid.fragment.seen
      (subst (λ (p : PassView). Begins right.fragment.seen p.fragment.seen) (sym met.first) met.agree.first) begins

  other_first : Begins other.fragment.seen mid.fragment.seen
  other_first = begins_both other.fragment.seen learned.fragment.seen mid.fragment.seen
      (subst (λ (p : PassView). Begins other.fragment.seen p.fragment.seen) (sym met.first) met.agree.second) begins

  pub has_learned : (s : SegmentsView) → HasSegments s (seen_by r right) → HasSegments s (seen_by at mid)
  has_learned s h = subst (λ (x : RouterView). HasSegments s (seen_by x mid)) (sym named)
      (has_still (seen_by r right) mid.fragment.seen own_first s h)

  -- what is saved then is the whole of what the other had seen, and maybe more
  module _ (begun_legal : (opening : OpeningView) (es fs : List Entry) → Begins es fs → IsLegal opening fs → IsLegal opening es)
      (new : PassView) (s : SegmentsView) (most : Option ℕ) (keeps : s.keep ≡ most) (legal : IsLegal at.opening mid.fragment.seen)
      (looks : Looks at mid new) (all : IsAllSaved s) (seen : length mid.fragment.seen ≤ s.saved) (has : HasSegments s (seen_by at new)) where
    short : s.saved ≤ length new.fragment.seen
    short = let rising = has.rising in let within = has.within in omega (arith, rising, within)

    abbrev saved_entries : List Entry
    saved_entries = take s.saved new.fragment.seen

    abbrev saved_pass : PassView
    saved_pass = record new { fragment = record new.fragment { seen = saved_entries } }

    saved_first : Begins saved_entries new.fragment.seen
    saved_first = record { rest = drop s.saved new.fragment.seen; is = sym (take-append-drop s.saved new.fragment.seen) }

    mid_first : Begins mid.fragment.seen saved_entries
    mid_first =
        let es = mid.fragment.seen in
        let more = looks.begins.rest in record {
          rest = take (s.saved - length es) more;
          is = ap (take s.saved) looks.begins.is ∙ take_beyond es more s.saved seen;
        }

    pub whole : (p : PassView) × HasWhole r other.fragment.seen most p s
    whole = (
      saved_pass,
      record {
        legal = record {
          of = subst (λ (x : RouterView). IsPassOf x saved_pass) named (record { table = looks.of.table; about = looks.of.about });
          legal = subst (λ (x : RouterView). IsLegal x.opening saved_entries) named
              (begun_legal at.opening saved_entries new.fragment.seen saved_first (looks.legal legal));
        };
        begins = begins_both other.fragment.seen mid.fragment.seen saved_entries other_first mid_first;
        keeps = keeps;
        whole = sym (length-take-le s.saved new.fragment.seen short);
        none_left = all.none_left;
        has = subst (λ (x : RouterView). HasSegments s (seen_by x saved_pass)) named
            (has_front (seen_by at new) s.saved short s (let same = all.all in omega (arith, same)) has);
      },
    )
