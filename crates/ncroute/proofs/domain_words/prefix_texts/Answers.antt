-- One prefix more.
use Rattle.std.proofs.Common.{[], map}
use Rattle.std.specs.Prelude.{string_bytes}
use Rattle.domain_cmds.proofs.Counting.{one_list_more}
use Rattle.ncroute.specs.DomainWords.{prefix_at}
use Rattle.ncroute.proofs.domain_words.prefix_texts.Goals as goal

pub loop-v-preserved : goal.loop-v-preserved
loop-v-preserved c =
    one_list_more (prefix_at c.args.prefixes.now) c.loop-v.v [] (map (λ text. string_bytes text) c.loop-v.texts.items)
    (map (λ text. string_bytes text) c.push_prefix_text.new.texts.items) c.loop-v.invariant c.in_ok-push_prefix_text.ensures
