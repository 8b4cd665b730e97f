use Rattle.bird_import.proofs.Noted.{noted}
use Rattle.bird_import.proofs.names.note.Goals as goal

pub returns : goal.returns
returns c other =
    noted c.args.names.now c.insert.new.self c.in_ok-from_slice.field-0 c.args.found c.args.name.now c.in_ok-from_slice.ensures.items
    c.in_ok-insert.ensures.updates other
