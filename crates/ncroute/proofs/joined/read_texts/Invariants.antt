use Rattle.std.proofs.Common.{◌≡◌}
use Rattle.ncroute.specs.Joining.{JoinsFirst, lines_of}
use Rattle.ncroute.proofs.joined.read_texts.Given as goal

-- the sources so far were read, their texts are joined, and the lines of these counted
abbrev pub invariant-loop-source : goal.invariant-loop-source
invariant-loop-source g l = record {
  first : JoinsFirst (g.F.Folder.opens l.files) l.sources l.source-index l.joined.text.items (g.R.Read.remaining l.fn.reader)
      (g.R.Read.remaining l.reader);
  counted : l.joined.lines ≡ lines_of l.joined.text.items;
}
