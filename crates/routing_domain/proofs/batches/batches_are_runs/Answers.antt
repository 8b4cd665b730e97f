use Rattle.routing_domain.proofs.Batching.{batch_runs, newest_told}
use Rattle.routing_domain.proofs.batches.batches_are_runs.Goals as goal

pub returns : goal.returns
returns c = record {
  runs = λ d u w max from to some. batch_runs d u w max from to some;
  told = λ v before batch. newest_told v before batch;
}
