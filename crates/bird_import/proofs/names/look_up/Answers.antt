use Rattle.std.proofs.Common.{length, subst, sym}
use Rattle.bird_import.specs.Stuck.{IsFound}
use Rattle.bird_import.specs.declared.defines.NameDefinition.{NameDefinition}
use Rattle.bird_import.proofs.names.look_up.Goals as goal

pub returns : goal.returns
returns c =
    let config = c.args.config.now in
    let name = c.args.name.now in
    subst (λ (what : NameDefinition). IsFound config name (length config.definitions.now) what) (sym c.found_in.ensures) (c.requires name)
