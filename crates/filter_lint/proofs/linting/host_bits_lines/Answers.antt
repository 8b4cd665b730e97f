use Rattle.std.proofs.Common.{◌∙◌, [], ap}
use Rattle.filter_lint.specs.Allowing.{shown_host_bits}
use Rattle.filter_lint.specs.WarningLines.{host_bits_text}
use Rattle.filter_lint.proofs.linting.host_bits_lines.Goals as goal

pub returns : goal.returns
returns c =
    let text = c.args.source.now.text.now in
    let told_is = c.as_slice-2.ensures.value ∙ c.in_ok-shown.ensures ∙ ap (shown_host_bits [] text) c.as_slice.ensures.value in
    record {
      host_bits = c.in_ok-host_bits.host_bits.items;
      are_host_bits = c.in_ok-host_bits.ensures.all text c.requires;
      lines_are = c.in_ok-lines.ensures ∙ ap (host_bits_text c.args.format c.args.source.now.name.now text) told_is;
    }
