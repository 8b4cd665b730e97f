-- What is known of a folder that was made, where more is known of the streams.
use Rattle.std.proofs.Common.{Option, Some, None, Result, Ok, Err, IfOk}
use Rattle.std.specs.Prelude.{MatchOption}

pub with_streams : {X E : Type 0} (r : Result (Option X) E) (Lacks Lacking : Type 0) (Has Having : X → Type 0) → (Lacks → Lacking)
    → ((x : X) → Has x → Having x) → IfOk r (λ made. MatchOption made Lacks Has) → IfOk r (λ made. MatchOption made Lacking Having)
with_streams (Ok None) Lacks Lacking Has Having lacks has h = lacks h
with_streams (Ok (Some x)) Lacks Lacking Has Having lacks has h = has x h
with_streams (Err e) Lacks Lacking Has Having lacks has h = tt
