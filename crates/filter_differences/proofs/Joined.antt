-- Parts that are joined are parts of the same codes, and equal codes have none.
use Rattle.std.proofs.Common.{◌≡◌, ◌⊎◌, inl, inr, ℕ, Bool, true, false, List, [], Result, Ok, Err, IfOk, Vec, Global, ap, refl}
use Rattle.std.proofs.lemmas.List.Elements.{All-nil}
use Rattle.filter_code.specs.CodeView.{CodeView}
use Rattle.filter_code.specs.RouteView.{RouteView}
use Rattle.filter_code.specs.Machine.{outcome_of}
use Rattle.filter_diff.specs.Joins.{StandFor}
use Rattle.filter_diff.specs.Parts.{InOne, IsDecided, IsReal, IsSame, IsTrueOf}
use Rattle.filter_diff.specs.declared.route_part.RoutePart.{RoutePart}
use Rattle.filter_differences.specs.Differences.{AreParts}

same_or_joined : (old new : CodeView) (route : RouteView) (parts others : List RoutePart) → (InOne route others → InOne route parts)
    → IsSame old new route ⊎ InOne route others → IsSame old new route ⊎ InOne route parts
same_or_joined old new route parts others f (inl same) = inl same
same_or_joined old new route parts others f (inr among) = inr (f among)

pub parts_joined : (old new : CodeView) (size limit : ℕ) (parts others : List RoutePart) → (old ≡ new → ⊥) → StandFor parts others
    → AreParts old new size limit others → AreParts old new size limit parts
parts_joined old new size limit parts others apart stand are = record {
  complete = λ route is_in. same_or_joined old new route parts others (stand.routes route) (are.complete route is_in);
  sound = stand.true_of old new size are.sound;
  real = stand.real size are.real;
  decided = λ enough. stand.decided (are.decided enough);
  none = λ same. absurd (apart same);
}

pub all_joined : {E : Type 0} (old new : CodeView) (size limit : ℕ) (others : List RoutePart) (r : Result (Vec RoutePart Global) E)
    → (old ≡ new → ⊥) → IfOk r (λ joined. StandFor joined.items others) → AreParts old new size limit others
    → IfOk r (λ joined. AreParts old new size limit joined.items)
all_joined old new size limit others (Ok joined) apart stand are = parts_joined old new size limit joined.items others apart stand are
all_joined old new size limit others (Err why) apart stand are = tt

pub never_both : (b : Bool) → b ≡ true → b ≡ false → ⊥
never_both b holds fails = cc

-- equal codes
pub none_of_equal : (old new : CodeView) (size limit : ℕ) → old ≡ new → AreParts old new size limit []
none_of_equal old new size limit same = record {
  complete = λ route is_in. inl (ap (λ (program : CodeView). outcome_of program route) same);
  sound = All-nil (IsTrueOf old new size);
  real = All-nil (IsReal size);
  decided = λ enough. All-nil IsDecided;
  none = λ _. refl;
}
