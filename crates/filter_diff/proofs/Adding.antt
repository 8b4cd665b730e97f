-- Parts that stand for others, as they are joined one after another.
use Rattle.std.proofs.Common.{◌≡◌, ◌∙◌, ◌⊎◌, inl, inr, ℕ, zero, suc, ◌<◌, List, [], ◌∷◌, ◌++◌, All, length, get_or, refl, sym, subst, arith}
use Rattle.std.specs.Prelude.{Some, slice_set}
use Rattle.std.proofs.lemmas.List.Elements.{All-get_or, All-pop, All-push, All-set}
use Rattle.filter_code.specs.CodeView.{CodeView}
use Rattle.filter_code.specs.RouteView.{RouteView}
use Rattle.filter_diff.specs.Joins.{Joins, StandFor}
use Rattle.filter_diff.specs.Parts.{Has, Holds, InOne, IsDecided, IsIn, IsReal, IsTrueOf}
use Rattle.filter_diff.specs.declared.route_part.RoutePart.{RoutePart}
use Rattle.filter_diff.proofs.Dealt.{in_kept, in_new}

in_set : (route : RouteView) (parts : List RoutePart) (at : ℕ) (whole d : RoutePart) → (Has (get_or parts at d) route → Has whole route) →
    InOne route parts → InOne route (slice_set parts at whole)
in_set route [] at whole d f none = elim none [ ]
in_set route (x ∷ xs) zero whole d f (inl here) = inl (f here)
in_set route (x ∷ xs) zero whole d f (inr there) = inr there
in_set route (x ∷ xs) (suc at) whole d f (inl here) = inl here
in_set route (x ∷ xs) (suc at) whole d f (inr there) = inr (in_set route xs at whole d f there)

in_at : (route : RouteView) (parts : List RoutePart) (at : ℕ) (whole : RoutePart) → at < length parts → Has whole route →
    InOne route (slice_set parts at whole)
in_at route [] at whole h has = absurd (omega arith)
in_at route (x ∷ xs) zero whole h has = inl has
in_at route (x ∷ xs) (suc at) whole h has = inr (in_at route xs at whole (omega arith) has)

further : {A B C : Type 0} → A ⊎ B → (C ⊎ A) ⊎ B
further (inl a) = inl (inr a)
further (inr b) = inr b

in_last_or : (route : RouteView) (others : List RoutePart) (part : RoutePart) → InOne route (others ++ (part ∷ [])) →
    InOne route others ⊎ Has part route
in_last_or route [] part (inl here) = inr here
in_last_or route [] part (inr none) = elim none [ ]
in_last_or route (x ∷ xs) part (inl here) = inl (inl here)
in_last_or route (x ∷ xs) part (inr there) = further (in_last_or route xs part there)

in_either_of : (route : RouteView) (others after : List RoutePart) (part : RoutePart) → (InOne route others → InOne route after) →
    (Has part route → InOne route after) → InOne route others ⊎ Has part route → InOne route after
in_either_of route others after part f g (inl h) = f h
in_either_of route others after part f g (inr h) = g h

true_either : (old new : CodeView) (size : ℕ) (other part whole : RoutePart) (route : RouteView) → Joins other part whole →
    IsTrueOf old new size other → IsTrueOf old new size part → IsIn size route → Has other route ⊎ Has part route →
    Holds old new whole.finding route
true_either old new size other part whole route j other_true part_true is_in (inl h) =
    j.found.in_first old new route h (other_true route is_in h)
true_either old new size other part whole route j other_true part_true is_in (inr h) =
    j.found.in_second old new route h (part_true route is_in h)

joined_true : (old new : CodeView) (size : ℕ) (other part whole : RoutePart) → Joins other part whole → IsTrueOf old new size other →
    IsTrueOf old new size part → IsTrueOf old new size whole
joined_true old new size other part whole j other_true part_true route is_in has =
    true_either old new size other part whole route j other_true part_true is_in (j.either route has)

-- a part that joins one of them
pub add_joined : (parts others after : List RoutePart) (at : ℕ) (other part whole : RoutePart) → other ≡ get_or parts at other → at < length parts →
    Joins other part whole → after ≡ slice_set parts at whole → StandFor parts others → StandFor after (others ++ (part ∷ []))
add_joined parts others after at other part whole there h j set stand = record {
  routes = λ route among. subst (InOne route) (sym set)
      (in_either_of route others (slice_set parts at whole) part
      (λ kept. in_set route parts at whole other (λ has. j.first route (subst (λ (p : RoutePart). Has p route) (sym there) has))
      (stand.routes route kept))
      (λ has. in_at route parts at whole h (j.second route has)) (in_last_or route others part among));
  true_of = λ old new size all.
      let split = All-pop (IsTrueOf old new size) (others ++ (part ∷ [])) others (Some part) refl all in
      let so_far : All (IsTrueOf old new size) parts = stand.true_of old new size split.0 in
      let other_true : IsTrueOf old new size other =
      subst (IsTrueOf old new size) (sym there) (All-get_or (IsTrueOf old new size) parts at other h so_far) in
      subst (All (IsTrueOf old new size)) (sym set)
      (All-set (IsTrueOf old new size) parts at whole (joined_true old new size other part whole j other_true split.1) so_far);
  real = λ size all.
      let split = All-pop (IsReal size) (others ++ (part ∷ [])) others (Some part) refl all in
      let so_far : All (IsReal size) parts = stand.real size split.0 in
      let other_real : IsReal size other = subst (IsReal size) (sym there) (All-get_or (IsReal size) parts at other h so_far) in
      subst (All (IsReal size)) (sym set) (All-set (IsReal size) parts at whole (j.real size other_real split.1) so_far);
  decided = λ all.
      let split = All-pop IsDecided (others ++ (part ∷ [])) others (Some part) refl all in
      let whole_decided : IsDecided whole = sym j.found.second_decided ∙ split.1 in
      subst (All IsDecided) (sym set) (All-set IsDecided parts at whole whole_decided (stand.decided split.0));
}

-- a part that joins none of them
pub add_pushed : (parts others after : List RoutePart) (part : RoutePart) → after ≡ parts ++ (part ∷ []) → StandFor parts others →
    StandFor after (others ++ (part ∷ []))
add_pushed parts others after part pushed stand = record {
  routes = λ route among. in_either_of route others after part (λ kept. in_kept route parts after part pushed (stand.routes route kept))
      (λ has. in_new route parts after part pushed has) (in_last_or route others part among);
  true_of = λ old new size all.
      let split = All-pop (IsTrueOf old new size) (others ++ (part ∷ [])) others (Some part) refl all in
      subst (All (IsTrueOf old new size)) (sym pushed)
      (All-push (IsTrueOf old new size) parts part (stand.true_of old new size split.0) split.1);
  real = λ size all.
      let split = All-pop (IsReal size) (others ++ (part ∷ [])) others (Some part) refl all in
      subst (All (IsReal size)) (sym pushed) (All-push (IsReal size) parts part (stand.real size split.0) split.1);
  decided = λ all.
      let split = All-pop IsDecided (others ++ (part ∷ [])) others (Some part) refl all in
      subst (All IsDecided) (sym pushed) (All-push IsDecided parts part (stand.decided split.0) split.1);
}

-- parts that stand for parts that stand for others
pub stand_further : (xs ys zs : List RoutePart) → StandFor xs ys → StandFor ys zs → StandFor xs zs
stand_further xs ys zs f g = record {
  routes = λ route h. f.routes route (g.routes route h);
  true_of = λ old new size h. f.true_of old new size (g.true_of old new size h);
  real = λ size h. f.real size (g.real size h);
  decided = λ h. f.decided (g.decided h);
}

pub stand_self : (xs : List RoutePart) → StandFor xs xs
stand_self xs = record { routes = λ route h. h; true_of = λ old new size h. h; real = λ size h. h; decided = λ h. h }
