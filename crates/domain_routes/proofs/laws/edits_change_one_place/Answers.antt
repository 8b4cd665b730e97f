use Rattle.domain_routes.proofs.Values.{link_value, put_value}
use Rattle.domain_routes.proofs.laws.edits_change_one_place.Goals as goal

pub returns : goal.returns
returns c = record {
  put = λ p u w k plan from to x y. put_value p u w k plan from to x y;
  link = λ p u w linked plan from to apart x y. link_value p u w linked plan from to apart x y;
}
