-- The codes of the faults of saving. (This project's own choice.)
use Rattle.std.specs.Prelude.{ℕ, List, codes}
use Rattle.history_saver.specs.declared.fault.SaveFault.{SaveFault}
use Rattle.history_saver.specs.declared.fault.SaveFault.TheVariants as fault

-- the code of a fault, as ASCII text
abbrev pub save_code : SaveFault → List ℕ
save_code fault.Write = codes "E2"
save_code fault.Memory = codes "E3"
