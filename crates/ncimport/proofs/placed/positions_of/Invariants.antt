use Rattle.std.proofs.Common.{◌≡◌, map, take}
use Rattle.ncimport.specs.Places.{file_of, texts_of}
use Rattle.ncimport.proofs.placed.positions_of.Given as goal

-- the positions of the files so far
abbrev pub invariant-loop-file : goal.invariant-loop-file
invariant-loop-file l = l.all.items ≡ texts_of (map file_of (take l.file-index l.files))
