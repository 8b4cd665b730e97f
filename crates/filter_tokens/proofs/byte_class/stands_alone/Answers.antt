use Rattle.std.proofs.Common.{arith}
use Rattle.filter_tokens.proofs.Flags.{flag-alone}
use Rattle.filter_tokens.proofs.byte_class.stands_alone.Goals as goal

pub returns : goal.returns
returns c = flag-alone c.args.byte (omega arith)
