use Rattle.std.proofs.Common.{arith}
use Rattle.filter_tokens.proofs.Flags.{flag-continues}
use Rattle.filter_tokens.proofs.byte_class.continues_word.Goals as goal

pub returns : goal.returns
returns c = flag-continues c.args.byte (omega arith)
