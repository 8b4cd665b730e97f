-- What agrees with one state agrees with its join with another: a join only loses information.
use Rattle.std.proofs.Common.{◌≡◌, ℕ, ◌==◌, true, Option, Some, None, List, [], ◌∷◌, length, sym, ◌∙◌, arith}
use Rattle.std.proofs.lemmas.Bool.{cond_both}
use Rattle.std.proofs.lemmas.Bool.Decides.{nat_tests}
use Rattle.filter_code.specs.declared.value.Value.{Value}
use Rattle.filter_code.specs.declared.value.Value.TheVariants as value
use Rattle.filter_code.specs.RouteView.{RouteView}
use Rattle.filter_code.specs.Machine.{Config}
use Rattle.filter_code.proofs.Metrics.{IsInRange}
use Rattle.filter_verifier.specs.declared.fact.Fact.{Fact}
use Rattle.filter_verifier.specs.declared.fact.Fact.TheVariants as fact
use Rattle.filter_verifier.specs.InStateView.{InStateView, Known, UnlikeDepths, Unreached}
use Rattle.filter_verifier.specs.PairwiseJoin.{join_two_at, join_two_facts, join_two_places, join_two_states}
use Rattle.filter_verifier.proofs.Arithmetic.{both_left, both_right}
use Rattle.filter_verifier.proofs.JoinedPlaces.{length_joined}
use Rattle.filter_verifier.proofs.Fits.{IsAs, PlaceIsAs, Pairwise}

-- a stack and local variables are as is known of their places, and the metric is in range
pub record Holds (route : RouteView) (c : Config) (stack locals : List (Option Fact)) : Type 0 where
  pub on_stack : Pairwise (λ v place. PlaceIsAs route.metric (Some v) place) c.frame.stack stack
  pub in_locals : Pairwise (PlaceIsAs route.metric) c.frame.locals locals
  pub metric : IsInRange route c.metric

-- a configuration agrees with an in-state
abbrev pub Agrees : RouteView → Config → InStateView → Type 0
Agrees route c Unreached = ⊥
Agrees route c UnlikeDepths = Unit {0}
Agrees route c (Known frame) = Holds route c frame.stack frame.locals

-- so many local variables are told of
abbrev pub Wide : ℕ → InStateView → Type 0
Wide width (Known frame) = length frame.locals ≡ width
Wide width _ = Unit {0}

-- the stack has this height, or stacks of unlike depths are joined
abbrev pub HasHeight : ℕ → InStateView → Type 0
HasHeight height Unreached = ⊥
HasHeight height UnlikeDepths = Unit {0}
HasHeight height (Known frame) = length frame.stack ≡ height

-- a value that is as one of two facts is as what they have in common
common_first : (received : ℕ) (v : Value) (f g : Fact) → IsAs received v f → PlaceIsAs received (Some v) (join_two_facts f g)
common_first received (value.Int x) (fact.Int s) (fact.Int t) p = both_left received x s t p
common_first received (value.Int x) (fact.Int s) _ p = tt
common_first received (value.Bool b) fact.Bool fact.Bool p = tt
common_first received (value.Bool b) fact.Bool _ p = tt
common_first received (value.Addr a) fact.Ip fact.Ip p = tt
common_first received (value.Addr a) fact.Ip _ p = tt
common_first received (value.Net bits) fact.Prefix fact.Prefix p = p
common_first received (value.Net bits) fact.Prefix _ p = tt
common_first received _ _ _ p = absurd p

common_second : (received : ℕ) (v : Value) (f g : Fact) → IsAs received v g → PlaceIsAs received (Some v) (join_two_facts f g)
common_second received (value.Int x) (fact.Int s) (fact.Int t) p = both_right received x s t p
common_second received (value.Int x) _ (fact.Int t) p = tt
common_second received (value.Bool b) fact.Bool fact.Bool p = tt
common_second received (value.Bool b) _ fact.Bool p = tt
common_second received (value.Addr a) fact.Ip fact.Ip p = tt
common_second received (value.Addr a) _ fact.Ip p = tt
common_second received (value.Net bits) fact.Prefix fact.Prefix p = p
common_second received (value.Net bits) _ fact.Prefix p = tt
common_second received _ _ _ p = absurd p

place_first : (received : ℕ) (o : Option Value) (a b : Option Fact) → PlaceIsAs received o a → PlaceIsAs received o (join_two_at a b)
place_first received o None b p = tt
place_first received o (Some f) None p = tt
place_first received None (Some f) (Some g) p = absurd p
place_first received (Some v) (Some f) (Some g) p = common_first received v f g p

place_second : (received : ℕ) (o : Option Value) (a b : Option Fact) → PlaceIsAs received o b → PlaceIsAs received o (join_two_at a b)
place_second received o None b p = tt
place_second received o (Some f) None p = tt
place_second received None (Some f) (Some g) p = absurd p
place_second received (Some v) (Some f) (Some g) p = common_second received v f g p

-- place by place, from what is known of the one and of the other
module _ {X : Type 0} (related : X → Option Fact → Type 0) (unknown : (x : X) → related x None) where
  common_left : ((x : X) (a b : Option Fact) → related x a → related x (join_two_at a b)) → (os : List X) (xs ys : List (Option Fact)) →
      Pairwise related os xs → Pairwise related os (join_two_places xs ys)
  common_left keep [] [] ys p = tt
  common_left keep [] (x ∷ xs) ys p = absurd p
  common_left keep (o ∷ os) [] ys p = absurd p
  common_left keep (o ∷ os) (x ∷ xs) [] p = (unknown o, common_left keep os xs [] p.1)
  common_left keep (o ∷ os) (x ∷ xs) (y ∷ ys) p = (keep o x y p.0, common_left keep os xs ys p.1)

  common_right : ((x : X) (a b : Option Fact) → related x b → related x (join_two_at a b)) → (os : List X) (xs ys : List (Option Fact)) →
      length xs ≡ length ys → Pairwise related os ys → Pairwise related os (join_two_places xs ys)
  common_right keep [] [] [] e p = tt
  common_right keep (o ∷ os) [] [] e p = absurd p
  common_right keep os (x ∷ xs) [] e p = absurd (cc)
  common_right keep os [] (y ∷ ys) e p = absurd (cc)
  common_right keep [] (x ∷ xs) (y ∷ ys) e p = absurd p
  common_right keep (o ∷ os) (x ∷ xs) (y ∷ ys) e p = (keep o x y p.0, common_right keep os xs ys (cc) p.1)

-- equal lengths
lengths_same : (m n : ℕ) → (m == n) ≡ true → m ≡ n
lengths_same m n e = grind (arith, nat_tests)

holds_first : (route : RouteView) (c : Config) (stack locals others more : List (Option Fact)) → Holds route c stack locals →
    Holds route c (join_two_places stack others) (join_two_places locals more)
holds_first route c stack locals others more p = record {
  on_stack =
      common_left (λ v place. PlaceIsAs route.metric (Some v) place) (λ v. tt)
      (λ v a b h. place_first route.metric (Some v) a b h) c.frame.stack stack others p.on_stack;
  in_locals =
      common_left (PlaceIsAs route.metric) (λ o. tt) (λ o a b h. place_first route.metric o a b h) c.frame.locals locals more p.in_locals;
  metric = p.metric;
}

holds_second : (route : RouteView) (c : Config) (stack locals others more : List (Option Fact)) → length stack ≡ length others →
    length locals ≡ length more → Holds route c others more → Holds route c (join_two_places stack others) (join_two_places locals more)
holds_second route c stack locals others more deep wide p = record {
  on_stack =
      common_right (λ v place. PlaceIsAs route.metric (Some v) place) (λ v. tt)
      (λ v a b h. place_second route.metric (Some v) a b h) c.frame.stack stack others deep p.on_stack;
  in_locals =
      common_right (PlaceIsAs route.metric) (λ o. tt)
      (λ o a b h. place_second route.metric o a b h) c.frame.locals locals more wide p.in_locals;
  metric = p.metric;
}

-- what agrees with one side agrees with the join; for the second, both have as many local variables
pub agrees_left : (route : RouteView) (c : Config) (a b : InStateView) → Agrees route c a → Agrees route c (join_two_states a b)
agrees_left route c Unreached b p = absurd p
agrees_left route c UnlikeDepths b p = tt
agrees_left route c (Known frame) Unreached p = p
agrees_left route c (Known frame) UnlikeDepths p = tt
agrees_left route c (Known frame) (Known other) p =
    cond_both (length frame.stack == length other.stack) _ _ (Agrees route c) (λ e. holds_first route c frame.stack frame.locals other.stack other.locals p) (λ e. tt)

pub agrees_right : (route : RouteView) (c : Config) (width : ℕ) (a b : InStateView) → Wide width a → Wide width b → Agrees route c b →
    Agrees route c (join_two_states a b)
agrees_right route c width Unreached b w v p = p
agrees_right route c width UnlikeDepths b w v p = tt
agrees_right route c width (Known frame) Unreached w v p = absurd p
agrees_right route c width (Known frame) UnlikeDepths w v p = tt
agrees_right route c width (Known frame) (Known other) w v p =
    cond_both (length frame.stack == length other.stack) _ _ (Agrees route c)
    (λ e. holds_second route c frame.stack frame.locals other.stack other.locals
    (lengths_same (length frame.stack) (length other.stack) e) (w ∙ sym v) p) (λ e. tt)

pub height_left : (height : ℕ) (a b : InStateView) → HasHeight height a → HasHeight height (join_two_states a b)
height_left height Unreached b p = absurd p
height_left height UnlikeDepths b p = tt
height_left height (Known frame) Unreached p = p
height_left height (Known frame) UnlikeDepths p = tt
height_left height (Known frame) (Known other) p =
    cond_both (length frame.stack == length other.stack) _ _ (HasHeight height) (λ e. length_joined frame.stack other.stack ∙ p) (λ e. tt)

pub height_right : (height : ℕ) (a b : InStateView) → HasHeight height b → HasHeight height (join_two_states a b)
height_right height Unreached b p = p
height_right height UnlikeDepths b p = tt
height_right height (Known frame) Unreached p = absurd p
height_right height (Known frame) UnlikeDepths p = tt
height_right height (Known frame) (Known other) p =
    cond_both (length frame.stack == length other.stack) _ _ (HasHeight height)
    (λ e. length_joined frame.stack other.stack
    ∙ (lengths_same (length frame.stack) (length other.stack) e ∙ p)) (λ e. tt)

pub wide_met : (width : ℕ) (a b : InStateView) → Wide width a → Wide width b → Wide width (join_two_states a b)
wide_met width Unreached b w v = v
wide_met width UnlikeDepths b w v = tt
wide_met width (Known frame) Unreached w v = w
wide_met width (Known frame) UnlikeDepths w v = tt
wide_met width (Known frame) (Known other) w v =
    cond_both (length frame.stack == length other.stack) _ _ (Wide width) (λ e. length_joined frame.locals other.locals ∙ w) (λ e. tt)
