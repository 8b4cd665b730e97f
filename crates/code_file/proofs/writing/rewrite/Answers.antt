use Rattle.code_file.proofs.Answered.{read_anew}
use Rattle.code_file.proofs.writing.rewrite.Goals as goal

pub returns-clause-same : goal.returns-clause-same
returns-clause-same c = read_anew (λ file. file.items) c.args.bytes.now c.in_ok-code.code c.write_code.result
    c.in_ok-code.ensures.exact c.write_code.ensures.readable c.write_code.ensures.written
