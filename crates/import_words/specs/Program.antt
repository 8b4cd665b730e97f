-- The options and the argument that the program takes, as the parser of words reads them. (This project's own choice.)
use Rattle.std.specs.Prelude.{true, [], ◌∷◌, Some, codes, fold, pos}
use Rattle.clap.specs.Simple.{App, new_app, new_rule, with_rule}
use Rattle.clap.specs.Walk.{Rule}
use Rattle.clap.specs.declared.builder.value_parser.ValueParser.TheVariants as parser

-- the number of nodes of the domain, which has to be there
abbrev pub size : Rule
size = record (new_rule (codes "size")) {
  long = Some (codes "size");
  value_names = 1;
  parser = Some (parser.Signed (pos 0) (pos 4294967295));
  required = true;
}

-- the folder of imported filters
abbrev pub out : Rule
out = record (new_rule (codes "out")) { long = Some (codes "out"); value_names = 1 }

-- the configuration
abbrev pub file : Rule
file = record (new_rule (codes "file")) { value_names = 1 }

-- the program without them
abbrev pub bare_program : App
bare_program = let bare = new_app (codes "ncimport") in record bare { top = record bare.top { has_version = true } }

-- the program
unfoldable pub program : App
program = fold with_rule bare_program (size ∷ out ∷ file ∷ [])
