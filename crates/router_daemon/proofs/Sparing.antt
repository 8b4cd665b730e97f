-- One more of the nodes that may get links, and those of a plan.
use Rattle.std.proofs.Common.{◌≡◌, ℕ, ◌+◌, suc, List, ◌++◌, ap, sym, ◌∙◌, append_assoc, arith}
use Rattle.router_options.specs.PlanView.{PlanView}
use Rattle.router_options.specs.declared.parts.LinkFiles.{LinkFiles}
use Rattle.router_daemon.specs.Spares.{linked_nodes, nodes_with, spare_at, spares_below}

one_up : (n : ℕ) → n + 1 ≡ suc n
one_up n = omega arith

pub one_spare_more : (me : ℕ) (links : List LinkFiles) (n : ℕ) (old mid new : List ℕ) → mid ≡ old ++ spares_below me links n
    → new ≡ mid ++ spare_at me links n → new ≡ old ++ spares_below me links (n + 1)
one_spare_more me links n old mid new first next =
    next ∙ ap (λ (l : List ℕ). l ++ spare_at me links n) first ∙ append_assoc old (spares_below me links n) (spare_at me links n)
    ∙ ap (λ (l : List ℕ). old ++ l) (sym (ap (λ (k : ℕ). spares_below me links k) (one_up n)))

pub linked_again : (p plan : PlanView) (files : List LinkFiles) (nodes : List ℕ) → p ≡ plan → files ≡ plan.links
    → nodes ≡ nodes_with p.opening files p.domain → nodes ≡ linked_nodes plan
linked_again p plan files nodes same sliced are =
    are ∙ ap (λ (fs : List LinkFiles). nodes_with p.opening fs p.domain) sliced
    ∙ ap (λ (q : PlanView). nodes_with q.opening plan.links q.domain) same
