use Rattle.domain_routes.proofs.Still.{anew_stays, begins_between, export_stays, import_stays, link_stays}
use Rattle.domain_routes.proofs.laws.plans_stay_between.Goals as goal

pub returns : goal.returns
returns c = record {
  begins = λ p plan. begins_between p plan;
  link = λ b linked p q u w s plan from to apart. link_stays b p q s u w from to apart linked plan;
  import = λ b f p q u w s plan from to apart. import_stays b p q s u w from to apart f plan;
  export = λ b f p q u w s plan from to apart. export_stays b p q s u w from to apart f plan;
  anew = λ b p q u s plan from. anew_stays p q plan u from b s;
}
