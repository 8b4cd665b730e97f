-- Each word is the one of its name.
use Rattle.command_line.proofs.router_words.routing_in.Goals as goal

pub returns : goal.returns
returns c = record {
  sets = record {
    config = c.in_ok-text_given.ensures;
    checks = c.is_given.ensures;
    domain = c.in_ok-text_given-2.ensures;
    allows_other = c.is_given-2.ensures;
    size = c.number_given.ensures;
    node = c.number_given-2.ensures;
    limit = c.number_given-3.ensures;
    queue = c.number_given-4.ensures;
    retry = c.number_given-5.ensures;
    hold = c.number_given-6.ensures;
    save = c.in_ok-text_given-3.ensures;
    segments = c.number_given-7.ensures;
    routes = c.in_ok-text_given-4.ensures;
    settle = c.number_given-8.ensures;
    log = c.in_ok-text_given-5.ensures;
    stays = c.is_given-3.ensures;
    prefixes = c.in_ok-values_of.ensures;
    filters = c.requires;
    imports = c.in_ok-values_of-2.ensures;
    exports = c.in_ok-values_of-3.ensures;
    links = c.in_ok-values_of-4.ensures;
    controls = c.in_ok-values_of-5.ensures;
  };
}
