use Rattle.std.proofs.Common.{◌≡◌, ◌++◌, length, map}
use Rattle.std.specs.List.{list_all}
use Rattle.std.specs.Str.{is_utf8}
use Rattle.line_protocol.specs.Words.{words}
use Rattle.router_files.specs.Words.{before_comment, words_in}
use Rattle.router_files.proofs.words.words_of.Given as goal

-- the words so far are no comment, and are text
abbrev pub invariant-loop-word : goal.invariant-loop-word
invariant-loop-word l = record {
  before : words_in l.line ≡ map (λ word. word.now) l.words.items ++ before_comment (words l.rest);
  texts : list_all is_utf8 (words_in l.line) ≡ list_all is_utf8 (before_comment (words l.rest));
}

abbrev pub decreases-loop-word : goal.decreases-loop-word
decreases-loop-word l = length (words l.rest)
