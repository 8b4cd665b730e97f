-- The router that is called where no call picks another. (This project's own choice.)
use Rattle.std.specs.Prelude.{[], false}
use Rattle.slot_lock.specs.Passes.{RouterView}

-- a router that nobody has
abbrev pub nobodys : RouterView
nobodys = record {
  table = record { words = 0; slots = 0; views_name = 0; atom = 0; block = 0; offset = 0; slot_names = [] };
  opening = record { size = 0; me = 0; prefixes = [] };
  limit = 0;
  endless = false;
}
