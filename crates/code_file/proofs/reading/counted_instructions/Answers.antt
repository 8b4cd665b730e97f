use Rattle.code_file.specs.Fields.FieldKind.{Instructions}
use Rattle.code_file.specs.Reading.{a_number, times, an_instruction}
use Rattle.code_file.proofs.Steps.{reads_into_both}
use Rattle.code_file.proofs.reading.counted_instructions.Goals as goal

pub returns-clause-value : goal.returns-clause-value
returns-clause-value c = reads_into_both (λ v. v.items) (a_number Instructions) (λ n. times n (an_instruction c.args.version))
    c.args.reader.now c.instruction_count.new.self c.instructions.new.reader c.in_ok-count.count c.instructions.result
    c.in_ok-count.ensures.value c.instructions.ensures.value
