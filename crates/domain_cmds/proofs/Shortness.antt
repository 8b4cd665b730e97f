-- Whatever command a line gives, the line has room for its source.
use Rattle.std.proofs.Common.{◌≡◌, ℕ, suc, ◌*◌, ◌≤◌, Bool, true, false, cond, if◌then◌else◌, List, [], ◌∷◌, All, length, drop, length-drop}
use Rattle.std.proofs.Common.{Option, Some, None, Result, Ok, Err, codes, nat_lt, refl, subst, arith}
use Rattle.std.proofs.lemmas.Bool.Decides.{nat_tests}
use Rattle.std.proofs.lemmas.List.Elements.{All-cons, All-filter, All-head, All-nil, All-tail, All-weaker}
use Rattle.std.specs.List.{onto_first, prefix_len, slice_split}
use Rattle.std.specs.Str.{bytes_eq}
use Rattle.hex.specs.Hex.{decode_of}
use Rattle.hex.specs.declared.error.FromHexError.{FromHexError}
use Rattle.hex.proofs.HexLemmas.{decode_of-ok}
use Rattle.filter_source.specs.Limits.{source_limit}
use Rattle.line_protocol.specs.Limits.{line_limit}
use Rattle.line_protocol.specs.Words.{is_blank, is_word, words, without_front_blanks}
use Rattle.operator_cmds.specs.Commands.{code_in, code_parts, load_in, made, node_in, node_prefix_in, text_in}
use Rattle.line_protocol.specs.Names.{is_name}
use Rattle.operator_cmds.specs.WordLists.{after_word, first_length, one_of, two_of, three_of}
use Rattle.operator_cmds.specs.declared.event.Direction.TheVariants as direction
use Rattle.operator_cmds.specs.declared.fault.CommandFault.{CommandFault}
use Rattle.operator_cmds.specs.declared.fault.CommandFault.TheVariants as fault
use Rattle.domain_cmds.specs.CommandView.{CommandView, Domain, Prefix, Load, Code, Link, Use, Anew, Mark, Json, Ask}
use Rattle.domain_cmds.specs.Commands.{Read, alone, command_in, command_of, command_of_words, domain_parts, drawing_in, failures_in, filter_in, nodes_in}
use Rattle.domain_cmds.specs.Short.{IsShort, IsShortText}
use Rattle.domain_cmds.specs.Sizes.{is_size}
use Rattle.domain_cmds.specs.Verbs.{verb_in}
use Rattle.domain_cmds.specs.declared.command.Question.TheVariants as question
use Rattle.domain_cmds.specs.declared.verb.DomainVerb.{DomainVerb}
use Rattle.domain_cmds.specs.declared.verb.DomainVerb.TheVariants as verb

-- ---- words

-- words of at most so many bytes
abbrev AreWithin : ℕ → List (List ℕ) → Type 0
AreWithin n parts = All (λ part. length part ≤ n) parts

one_wider : (n : ℕ) (parts : List (List ℕ)) → AreWithin n parts → AreWithin (suc n) parts
one_wider n parts h = All-weaker (λ part. length part ≤ n) (λ part. length part ≤ suc n) (λ part short. omega (arith, short)) parts h

one_byte_more : (b : Bool) (x n : ℕ) (parts : List (List ℕ)) → AreWithin n parts → AreWithin (suc n) (cond b ([] ∷ parts) (onto_first x parts))
one_byte_more true x n parts h = All-cons (λ part. length part ≤ suc n) [] parts (omega arith) (one_wider n parts h)
one_byte_more false x n [] h =
    All-cons (λ part. length part ≤ suc n) (x ∷ []) [] (omega arith) (All-nil (λ part. length part ≤ suc n))
one_byte_more false x n (part ∷ parts) h =
    let short : length part ≤ n = All-head (λ part. length part ≤ n) part parts h in
    All-cons (λ part. length part ≤ suc n) (x ∷ part) parts (omega (arith, short))
    (one_wider n parts (All-tail (λ part. length part ≤ n) part parts h))

parts_within : (p : ℕ → Bool) (line : List ℕ) → AreWithin (length line) (slice_split p line)
parts_within p [] = All-cons (λ part. length part ≤ 0) [] [] (omega arith) (All-nil (λ part. length part ≤ 0))
parts_within p (x ∷ xs) = one_byte_more (p x) x (length xs) (slice_split p xs) (parts_within p xs)

words_within : (line : List ℕ) → AreWithin (length line) (words line)
words_within line = All-filter is_word (λ part. length part ≤ length line) (slice_split is_blank line) (parts_within is_blank line)

dropped : (n : ℕ) (line : List ℕ) → length (drop n line) ≤ length line
dropped n line = omega (arith, length-drop n line)

after_within : (line : List ℕ) → length (after_word line) ≤ length line
after_within line = omega (arith, dropped (first_length (words line)) (without_front_blanks line), dropped (prefix_len is_blank line) line)

text_within : (line : List ℕ) → length (text_in line) ≤ length line
text_within line =
    let later = after_word (after_word line) in
    omega (arith, dropped (prefix_len is_blank later) later, after_within (after_word line), after_within line)

-- ---- commands

abbrev IsShortRead : Read → Type 0
IsShortRead (Ok command) = IsShort command
IsShortRead (Err why) = Unit {0}

made_short : {X : Type 0} (make : X → CommandView) → ((x : X) → IsShort (make x)) → (r : Result X CommandFault) → IsShortRead (made make r)
made_short make f (Ok x) = f x
made_short make f (Err why) = tt

when : (b : Bool) (r : Read) (why : CommandFault) → IsShortRead r → IsShortRead (if b then r else Err why)
when true r why h = h
when false r why h = tt

domain_short : (r : Result ℕ CommandFault) → IsShortRead (domain_parts r)
domain_short (Err why) = tt
domain_short (Ok size) = when (is_size size) (Ok (Domain size)) fault.Numbers tt

alone_short : (command : CommandView) → IsShort command → (args : List (List ℕ)) → IsShortRead (alone command args)
alone_short command h [] = h
alone_short command h (word ∷ more) = tt

drawing_short : (args : List (List ℕ)) (o : Option (List ℕ × List ℕ)) → IsShortRead (drawing_in args o)
drawing_short args None = made_short (λ v. Ask (question.Draw v)) (λ v. tt) (node_in (one_of args))
drawing_short args (Some (node, option)) =
    when (bytes_eq option (codes "changes")) (made (λ v. Ask (question.DrawChanges v)) (node_in (Some node))) fault.Words
    (made_short (λ v. Ask (question.DrawChanges v)) (λ v. tt) (node_in (Some node)))

failures_short : (args : List (List ℕ)) (o : Option (List ℕ)) → IsShortRead (failures_in args o)
failures_short args None = alone_short (Ask question.Failures) tt args
failures_short args (Some what) = when (bytes_eq what (codes "nodes")) (Ok (Ask question.NodeFailures)) fault.Words tt

abbrev load_of : List ℕ × List ℕ → CommandView
load_of p = Load p.0 p.1

load_named : (b : Bool) (name text : List ℕ) → IsShortText text → IsShortRead (made load_of (if b then Ok (name, text) else Err fault.Words))
load_named true name text h = h
load_named false name text h = tt

load_short : (args : List (List ℕ)) (text : List ℕ) → IsShortText text → IsShortRead (made load_of (load_in args text))
load_short [] text h = tt
load_short (name ∷ []) text h = tt
load_short (name ∷ (word ∷ more)) text h = load_named (is_name name) name text h

abbrev code_of : List ℕ × List ℕ → CommandView
code_of p = Code p.0 p.1

code_read : (name digits : List ℕ) → length digits ≤ source_limit → (r : Result (List ℕ) FromHexError) → decode_of digits ≡ r
    → IsShortRead (made code_of (code_parts name r))
code_read name digits h (Ok bytes) e =
    let decoded = decode_of-ok digits bytes e in
    let twice : length digits ≡ 2 * length bytes = decoded.2 in
    (decoded.3, omega (arith, twice, h))
code_read name digits h (Err why) e = tt

code_named : (b : Bool) (name digits : List ℕ) → length digits ≤ source_limit
    → IsShortRead (made code_of (if b then code_parts name (decode_of digits) else Err fault.Words))
code_named true name digits h = code_read name digits h (decode_of digits) refl
code_named false name digits h = tt

code_short : (args : List (List ℕ)) → AreWithin source_limit args → IsShortRead (made code_of (code_in (two_of args)))
code_short [] h = tt
code_short (name ∷ []) h = tt
code_short (name ∷ (digits ∷ [])) h =
    code_named (is_name name) name digits
    (All-head (λ part. length part ≤ source_limit) digits [] (All-tail (λ part. length part ≤ source_limit) name (digits ∷ []) h))
code_short (name ∷ (digits ∷ (word ∷ more))) h = tt

command_short : (v : Option DomainVerb) (args : List (List ℕ)) (text : List ℕ) → AreWithin source_limit args → IsShortText text
    → IsShortRead (command_of v args text)
command_short None args text h short = tt
command_short (Some verb.Domain) args text h short = domain_short (node_in (one_of args))
command_short (Some verb.Prefix) args text h short = made_short (λ p. Prefix p.0 p.1) (λ p. tt) (node_prefix_in (two_of args))
command_short (Some verb.Load) args text h short = load_short args text short
command_short (Some verb.Code) args text h short = code_short args h
command_short (Some verb.Link) args text h short = made_short (λ p. Link true p.0 p.1) (λ p. tt) (nodes_in (two_of args))
command_short (Some verb.Cut) args text h short = made_short (λ p. Link false p.0 p.1) (λ p. tt) (nodes_in (two_of args))
command_short (Some verb.Import) args text h short = made_short (λ p. Use direction.Import p.0 p.1 p.2) (λ p. tt) (filter_in (three_of args))
command_short (Some verb.Export) args text h short = made_short (λ p. Use direction.Export p.0 p.1 p.2) (λ p. tt) (filter_in (three_of args))
command_short (Some verb.Anew) args text h short = made_short (λ u. Anew u) (λ u. tt) (node_in (one_of args))
command_short (Some verb.Route) args text h short = made_short (λ p. Ask (question.Route p.0 p.1)) (λ p. tt) (nodes_in (two_of args))
command_short (Some verb.Path) args text h short = made_short (λ p. Ask (question.Path p.0 p.1)) (λ p. tt) (nodes_in (two_of args))
command_short (Some verb.Table) args text h short = made_short (λ u. Ask (question.Table u)) (λ u. tt) (node_in (one_of args))
command_short (Some verb.Draw) args text h short = drawing_short args (two_of args)
command_short (Some verb.Reach) args text h short = alone_short (Ask question.Reach) tt args
command_short (Some verb.Mark) args text h short = alone_short Mark tt args
command_short (Some verb.Changes) args text h short = alone_short (Ask question.Changes) tt args
command_short (Some verb.Failures) args text h short = failures_short args (one_of args)
command_short (Some verb.Settle) args text h short = alone_short (Ask question.Settle) tt args
command_short (Some verb.Json) args text h short = alone_short Json tt args

words_short : (parts : List (List ℕ)) (text : List ℕ) → AreWithin source_limit parts → IsShortText text → IsShortRead (command_of_words parts text)
words_short [] text h short = tt
words_short (first ∷ args) text h short = command_short (verb_in first) args text (All-tail (λ part. length part ≤ source_limit) first args h) short

line_short : (line : List ℕ) (b : Bool) → nat_lt line_limit (length line) ≡ b
    → IsShortRead (if b then Err fault.TooLong else command_of_words (words line) (text_in line))
line_short line true e = tt
line_short line false e =
    let short : length line ≤ source_limit = grind (arith, nat_tests) in
    words_short (words line) (text_in line)
    (All-weaker (λ part. length part ≤ length line) (λ part. length part ≤ source_limit) (λ part h. omega (arith, h, short)) (words line)
    (words_within line))
    (omega (arith, text_within line, short))

pub short_command : (line : List ℕ) (command : CommandView) → command_in line ≡ Ok command → IsShort command
short_command line command e = subst IsShortRead e (line_short line (nat_lt line_limit (length line)) refl)
