-- The code was verified, and its places are those of the text's tree.
use Rattle.filter_traces.proofs.Tracing.{traced_of}
use Rattle.filter_traces.proofs.traced.trace_filter.Goals as goal

pub returns : goal.returns
returns c = λ size is.
    traced_of c.args.text.now size c.args.placed.places.items c.as_slice.result.now c.in_ok-sites.sites.items
    c.args.placed.verified c.new.result is.verified is.places
    c.as_slice.ensures.value c.in_ok-sites.ensures c.new.ensures
