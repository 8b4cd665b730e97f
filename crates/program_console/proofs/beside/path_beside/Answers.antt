use Rattle.std.proofs.Common.{string_bytes}
use Rattle.program_console.proofs.PathBeside.{beside}
use Rattle.program_console.proofs.beside.path_beside.Goals as goal

pub returns-in_ok-push_str-in-Some-2 : goal.returns-in_ok-push_str-in-Some-2
returns-in_ok-push_str-in-Some-2 c =
    beside c.args.by.now c.args.name.now c.in-Some.folder.now c.in-Some.field-0-1.now (string_bytes c.in_ok-path-in-Some.path)
    (string_bytes c.push_str.new.self) _ c.in-Some.ensures.cases c.in_ok-path-in-Some.ensures.ok c.in_ok-push_str-in-Some.ensures.bytes
    c.in_ok-push_str-in-Some-2.ensures.bytes
