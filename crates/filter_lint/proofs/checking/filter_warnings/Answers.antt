use Rattle.std.proofs.Common.{sym, subst}
use Rattle.filter_tokens.specs.Tokenization.{IsTokenization}
use Rattle.filter_lint.proofs.checking.filter_warnings.Goals as goal

pub host_bits_lines-requires : goal.host_bits_lines-requires
host_bits_lines-requires c =
    subst (λ ts. IsTokenization ts 0 c.args.source.now.text.now) (sym c.as_slice.ensures.value) c.requires.survey.tokens
