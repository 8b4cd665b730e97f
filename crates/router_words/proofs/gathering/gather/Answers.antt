use Rattle.std.proofs.Common.{refl}
use Rattle.router_words.proofs.gathering.gather.Goals as goal

pub returns : goal.returns
returns c = record {
  config = refl;
  checks = refl;
  domain = c.in_ok-text_of.ensures;
  allows_other = c.is_stated.ensures;
  size = c.number_of.ensures;
  node = c.number_of-2.ensures;
  limit = c.number_of-3.ensures;
  queue = c.number_of-4.ensures;
  retry = c.number_of-5.ensures;
  hold = c.number_of-6.ensures;
  save = c.in_ok-text_of-2.ensures;
  segments = c.number_of-7.ensures;
  routes = c.in_ok-text_of-3.ensures;
  settle = c.number_of-8.ensures;
  log = c.in_ok-text_of-4.ensures;
  stays = c.is_stated-2.ensures;
  prefixes = rw c.as_slice.ensures.value at c.in_ok-texts_of.ensures;
  filters = rw c.as_slice-2.ensures.value at c.in_ok-filters_of.ensures;
  imports = rw c.as_slice-3.ensures.value at c.in_ok-texts_of-2.ensures;
  exports = rw c.as_slice-4.ensures.value at c.in_ok-texts_of-3.ensures;
  links = rw c.as_slice-5.ensures.value at c.in_ok-texts_of-4.ensures;
  controls = rw c.as_slice-6.ensures.value at c.in_ok-texts_of-5.ensures;
}
