use Rattle.std.proofs.Common.{arith}
use Rattle.filter_tokens.proofs.Flags.{flag-begins}
use Rattle.filter_tokens.proofs.byte_class.begins_word.Goals as goal

pub returns : goal.returns
returns c = flag-begins c.args.byte (omega arith)
