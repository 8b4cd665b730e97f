-- The filters of a router have their names as those of a script at its first line.
use Rattle.std.proofs.Common.{◌≡◌, ℕ, List, Option, Some, None, sym, ap, subst, ◌∙◌}
use Rattle.filter_verifier.specs.VerifiedView.{VerifiedView}
use Rattle.operator_cmds.specs.Script.{ScriptView, fresh}
use Rattle.operator_cmds.specs.Stages.{Empty, StageView}
use Rattle.router_operator.specs.OperatorView.{Names, filter_of}
use Rattle.router_script.proofs.Named.{naming_keeps}
use Rattle.router_script.specs.Naming.{AreNamed}
use Rattle.router_script.specs.declared.filter_naming.NamedFilter.{NamedFilter}
use Rattle.router_script.specs.declared.filter_naming.Unfit.{Unfit}
use Rattle.ncroute.specs.Loading.{AreLoaded, AreUnfit, script_with}

module _ (size : ℕ) (given : List NamedFilter) (found : Option Unfit) (first script : ScriptView) (begins : first ≡ fresh)
    (named : AreNamed size given found first script)
  where
    -- what became of them, as is known of it
    of_fresh : (known : Option Unfit) → found ≡ known → AreNamed size given known fresh script
    of_fresh known is =
        subst (λ (o : Option Unfit). AreNamed size given o fresh script) is
        (subst (λ (view : ScriptView). AreNamed size given found view script) begins named)

    pub loaded : (names : Names) → found ≡ None → filter_of names ≡ script.filters → AreLoaded size given names
    loaded names is same =
        let all = of_fresh None is in
        let stage : script.stage ≡ Empty = naming_keeps size given None fresh script all in
        let seen : script ≡ script_with names =
        ap (λ (s : StageView). let view : ScriptView = record { stage = s; filters = script.filters } in view) stage
        ∙ ap (λ (f : List ℕ → Option VerifiedView). let view : ScriptView = record { stage = Empty; filters = f } in view) (sym same)
        in
        subst (λ (view : ScriptView). AreNamed size given None fresh view) seen all

    pub unfit : (refused : Unfit) → found ≡ Some refused → AreUnfit size given refused
    unfit refused is = (script, of_fresh (Some refused) is)
