-- The codes of the refusals. (This project's own choice.)
use Rattle.std.specs.Prelude.{ℕ, List, codes}
use Rattle.netchange_core.specs.declared.reply.EventRefusal.{EventRefusal}
use Rattle.netchange_core.specs.declared.reply.EventRefusal.TheVariants as refusal

-- the code of a refusal, as ASCII text
abbrev pub refusal_code : EventRefusal → List ℕ
refusal_code refusal.NoNode = codes "N1"
refusal_code refusal.AlreadyUp = codes "N2"
refusal_code refusal.Stale = codes "N3"
refusal_code refusal.BadDest = codes "N4"
refusal_code refusal.BadDist = codes "N5"
refusal_code refusal.OtherSize = codes "N6"
refusal_code refusal.NoSession = codes "N7"
