-- What holds of an error.
use Rattle.std.proofs.Common.{◌≡◌, ◌≢◌, Option, None, Result, Ok, Err, subst, sym}
use Rattle.std.specs.Prelude.{IfErr}
use Rattle.filter_syntax.specs.declared.tree.decl.Kind.{Kind}
use Rattle.filter_types.specs.Answers.{AnswersKind}
use Rattle.filter_types.specs.declared.fault.TypeFault.{TypeFault}
use Rattle.filter_types.specs.declared.fault.TypeFault.TheVariants as fault

pub err_map : {A E : Type 0} (r : Result A E) (P Q : E → Type 0) → ((e : E) → P e → Q e) → IfErr r P → IfErr r Q
err_map (Ok a) P Q f h = tt
err_map (Err e) P Q f h = f e h

-- a form that answers with a refusal does not take its operands
pub refused : (r : Result Kind TypeFault) (o : Option Kind) (said : TypeFault) (Q : TypeFault → Type 0) → said ≢ fault.Memory → AnswersKind r o
    → IfErr r (λ why. why ≡ said) → (o ≡ None → Q said) → IfErr r Q
refused (Ok k) o said Q other kind is f = tt
refused (Err why) o said Q other kind is f =
    subst Q (sym is) (f (kind (subst (λ (w : TypeFault). w ≢ fault.Memory) (sym is) other)))
