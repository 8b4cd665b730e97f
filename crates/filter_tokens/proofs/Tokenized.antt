-- The lexer's loop: what cuts the rest of a text, with the tokens so far, cuts the whole, and every cut of the whole is one of these.
use Rattle.std.proofs.Common.{◌≡◌, ℕ, ◌+◌, ◌-◌, ◌<◌, ◌≤◌, List, [], ◌∷◌, ◌++◌, length, take, drop, Option, Some, None, refl, sym}
use Rattle.std.proofs.Common.{◌∙◌, ap, subst, arith, append-nil, length-drop}
use Rattle.std.proofs.lemmas.List.{append_assoc, take_rest, drop_all, drop-drop}
use Rattle.std.proofs.lemmas.Option.{same_Some}
use Rattle.filter_tokens.specs.declared.part.Part.{Part}
use Rattle.filter_tokens.specs.declared.part.Part.TheVariants as part
use Rattle.filter_tokens.specs.declared.token.Token.{Token}
use Rattle.filter_tokens.specs.declared.token_kind.TokenKind.{TokenKind}
use Rattle.filter_tokens.specs.Tokenization.{IsPart, part_len, AreParts, AreFrontParts, tokens_among, IsTokenization, AreInOrder, StopsAt}
use Rattle.filter_tokens.specs.Reading.{part_in}
use Rattle.filter_tokens.proofs.PartLaws.{part-found, part-there, part-bounds}

-- how many bytes parts have
abbrev pub parts_len : List Part → ℕ
parts_len [] = 0
parts_len (part ∷ parts) = part_len part + parts_len parts

-- the tokens of a text up to a place, after which comes the rest
pub record Lexes (text : List ℕ) (so_far : List Token) (at : ℕ) (rest : List ℕ) : Type 0 where
  pub parts : List Part
  pub cut : AreFrontParts parts text rest
  pub among : so_far ≡ tokens_among parts 0
  pub reach : parts_len parts ≡ at
  pub found : (tokens : List Token) → IsTokenization tokens at rest → IsTokenization (so_far ++ tokens) 0 text
  pub only : (all : List Token) → IsTokenization all 0 text → (tokens : List Token) × (all ≡ so_far ++ tokens) × IsTokenization tokens at rest

-- at the start
pub lexes-start : (text : List ℕ) → Lexes text [] 0 text
lexes-start text = record {
  parts = [];
  cut = refl;
  among = refl;
  reach = refl;
  found = λ tokens cuts. cuts;
  only = λ all cuts. (all, refl, cuts);
}

-- what a part adds to the tokens
abbrev pub tokens_of : Part → ℕ → List Token
tokens_of (part.Gap len) at = []
tokens_of (part.Token kind len) at = record { word = kind; from = at; to = at + len } ∷ []

among_step : (one : Part) (parts : List Part) (at : ℕ)
    → tokens_among (one ∷ parts) at ≡ tokens_of one at ++ tokens_among parts (at + part_len one)
among_step (part.Gap len) parts at = refl
among_step (part.Token kind len) parts at = refl

-- one more part after others
among_more : (parts : List Part) (one : Part) (from : ℕ)
    → tokens_among (parts ++ one ∷ []) from ≡ tokens_among parts from ++ tokens_of one (from + parts_len parts)
among_more [] (part.Gap len) from = refl
among_more [] (part.Token kind len) from = ap (tokens_of (part.Token kind len)) (omega arith)
among_more (part.Gap len ∷ parts) one from =
    among_more parts one (from + len)
    ∙ ap (λ n. tokens_among parts (from + len) ++ tokens_of one n) (omega arith)
among_more (part.Token kind len ∷ parts) one from =
    ap (λ ts. record { word = kind; from = from; to = from + len } ∷ ts)
    (among_more parts one (from + len) ∙ ap (λ n. tokens_among parts (from + len) ++ tokens_of one n) (omega arith))

len_more : (parts : List Part) (one : Part) → parts_len (parts ++ one ∷ []) ≡ parts_len parts + part_len one
len_more [] one = omega arith
len_more (part ∷ parts) one = omega (arith, len_more parts one)

front_more : (parts : List Part) (one : Part) (text rest : List ℕ) → AreFrontParts parts text rest → IsPart rest one
    → AreFrontParts (parts ++ one ∷ []) text (drop (part_len one) rest)
front_more [] one text rest same is = (subst (λ x. IsPart x one) (sym same) is, ap (drop (part_len one)) same)
front_more (part ∷ parts) one text rest cut is = (cut.0, front_more parts one (drop (part_len part) text) rest cut.1 is)

-- a cut of what follows a part is one of the whole, with the part before it
cut_with : (one : Part) (at : ℕ) (text : List ℕ) (tokens : List Token) → IsPart text one
    → IsTokenization tokens (at + part_len one) (drop (part_len one) text)
    → IsTokenization (tokens_of one at ++ tokens) at text
cut_with one at text tokens is cuts = record {
  parts = one ∷ cuts.parts;
  cut = (is, cuts.cut);
  among = ap (λ ts. tokens_of one at ++ ts) cuts.among ∙ sym (among_step one cuts.parts at);
}

-- a cut of a text begins with the part at its front
cut_begins_as : (one : Part) (at : ℕ) (text : List ℕ) (tokens : List Token) → part_in text ≡ Some one → 0 < length text
    → (parts : List Part) → AreParts parts text
    → tokens ≡ tokens_among parts at → (later : List Token) × (tokens ≡ tokens_of one at ++ later)
    × IsTokenization later (at + part_len one) (drop (part_len one) text)
cut_begins_as one at text tokens e some [] none among = absurd (omega (arith, ap length none))
cut_begins_as one at text tokens e some (first ∷ parts) cut among =
    let same : first ≡ one = same_Some _ _ (sym (part-there text first cut.0) ∙ e) in (
      tokens_among parts (at + part_len one),
      among ∙ among_step first parts at ∙ ap (λ p. tokens_of p at ++ tokens_among parts (at + part_len p)) same,
      record { parts = parts; cut = subst (λ p. AreParts parts (drop (part_len p) text)) same cut.1; among = refl },
    )

cut_begins : (one : Part) (at : ℕ) (text : List ℕ) (tokens : List Token) → part_in text ≡ Some one → IsTokenization tokens at text
    → (later : List Token) × (tokens ≡ tokens_of one at ++ later) × IsTokenization later (at + part_len one) (drop (part_len one) text)
cut_begins one at text tokens e cuts =
    let bounds = part-bounds text one (part-found text one e) in
    cut_begins_as one at text tokens e (omega (arith, bounds.0, bounds.1)) cuts.parts cuts.cut cuts.among

-- one part further
pub lexes-more : (text : List ℕ) (so_far : List Token) (at : ℕ) (rest : List ℕ) (one : Part) → part_in rest ≡ Some one
    → Lexes text so_far at rest
    → Lexes text (so_far ++ tokens_of one at) (at + part_len one) (drop (part_len one) rest)
lexes-more text so_far at rest one e lexes = record {
  parts = lexes.parts ++ one ∷ [];
  cut = front_more lexes.parts one text rest lexes.cut (part-found rest one e);
  among =
      ap (λ ts. ts ++ tokens_of one at) lexes.among ∙ ap (λ n. tokens_among lexes.parts 0 ++ tokens_of one n) (omega (arith, lexes.reach))
      ∙ sym (among_more lexes.parts one 0);
  reach = len_more lexes.parts one ∙ ap (λ n. n + part_len one) lexes.reach;
  found = λ tokens cuts.
      let whole = lexes.found (tokens_of one at ++ tokens) (cut_with one at rest tokens (part-found rest one e) cuts) in
      subst (λ ts. IsTokenization ts 0 text) (sym (append_assoc so_far (tokens_of one at) tokens)) whole;
  only = λ all cuts.
      let here = lexes.only all cuts in
      let next = cut_begins one at rest here.0 e here.2 in
      (next.0, here.1 ∙ ap (λ ts. so_far ++ ts) next.1 ∙ sym (append_assoc so_far (tokens_of one at) next.0), next.2);
}

-- the end of the text
pub lexes-found : (text : List ℕ) (tokens : List Token) (at : ℕ) → Lexes text tokens at [] → IsTokenization tokens 0 text
lexes-found text tokens at lexes =
    let whole = lexes.found [] (record { parts = []; cut = refl; among = refl }) in
    subst (λ ts. IsTokenization ts 0 text) (append-nil tokens) whole

no_tokens : (parts : List Part) (at : ℕ) → AreParts parts [] → tokens_among parts at ≡ []
no_tokens [] at cut = refl
no_tokens (first ∷ parts) at cut = let bounds = part-bounds [] first cut.0 in absurd (omega (arith, bounds.0, bounds.1))

pub lexes-only : (text : List ℕ) (tokens : List Token) (at : ℕ) → Lexes text tokens at [] → (all : List Token) → IsTokenization all 0 text
    → tokens ≡ all
lexes-only text tokens at lexes all cuts =
    let here = lexes.only all cuts in
    let none : here.0 ≡ [] = here.2.among ∙ no_tokens here.2.parts at here.2.cut in
    sym (here.1 ∙ ap (λ ts. tokens ++ ts) none ∙ append-nil tokens)

-- where there is no part, nothing cuts the text
no_part : (rest : List ℕ) (parts : List Part) → part_in rest ≡ None → 0 < length rest → AreParts parts rest → ⊥
no_part rest [] e some cut = omega (arith, ap length cut)
no_part rest (first ∷ parts) e some cut = let there = part-there rest first cut.0 in cc

pub lexes-stopped : (text : List ℕ) (so_far : List Token) (at : ℕ) (rest : List ℕ) → Lexes text so_far at rest → part_in rest ≡ None
    → 0 < length rest
    → (all : List Token) → IsTokenization all 0 text → ⊥
lexes-stopped text so_far at rest lexes e some all cuts =
    let here = lexes.only all cuts in no_part rest here.2.parts e some here.2.cut

-- ---- no text is cut in two ways

parts_once : (xs ys : List Part) (text : List ℕ) → AreParts xs text → AreParts ys text → xs ≡ ys
parts_once [] [] text a b = refl
parts_once [] (y ∷ ys) text a b = let bounds = part-bounds text y b.0 in absurd (omega (arith, bounds.0, bounds.1, ap length a))
parts_once (x ∷ xs) [] text a b = let bounds = part-bounds text x a.0 in absurd (omega (arith, bounds.0, bounds.1, ap length b))
parts_once (x ∷ xs) (y ∷ ys) text a b =
    let same : x ≡ y = same_Some _ _ (sym (part-there text x a.0) ∙ part-there text y b.0) in
    let after : AreParts ys (drop (part_len x) text) = subst (λ p. AreParts ys (drop (part_len p) text)) (sym same) b.1 in
    ap (λ p. p ∷ xs) same ∙ ap (λ ps. y ∷ ps) (parts_once xs ys (drop (part_len x) text) a.1 after)

pub tokenized_once : (text : List ℕ) (tokens others : List Token) → IsTokenization tokens 0 text → IsTokenization others 0 text → tokens ≡ others
tokenized_once text tokens others a b =
    a.among ∙ ap (λ ps. tokens_among ps 0) (parts_once a.parts b.parts text a.cut b.cut) ∙ sym b.among

-- ---- places

-- tokens in order stay so where the text goes on
pub ordered-further : (from : ℕ) (tokens : List Token) (to later : ℕ) → to ≤ later → AreInOrder from tokens to
    → AreInOrder from tokens later
ordered-further from [] to later more order = omega (arith, order)
ordered-further from (token ∷ tokens) to later more order = (order.0, order.1, ordered-further token.to tokens to later more order.2)

-- one more token
pub ordered-push : (from : ℕ) (tokens : List Token) (to : ℕ) (token : Token) → AreInOrder from tokens to → to ≤ token.from
    → token.from < token.to
    → AreInOrder from (tokens ++ token ∷ []) token.to
ordered-push from [] to token order before some = (omega (arith, order), some, omega arith)
ordered-push from (first ∷ tokens) to token order before some =
    (order.0, order.1, ordered-push first.to tokens to token order.2 before some)

-- ---- the steps, at a place of the text

-- the slice from a place on is what follows it
rest_read : (text : List ℕ) (at : ℕ) (o : Option Part) → part_in (take (length text - at) (drop at text)) ≡ o → part_in (drop at text) ≡ o
rest_read text at o e = ap part_in (sym (take_rest text at)) ∙ e

-- a part ends within the text
pub step-bounds : (text : List ℕ) (at : ℕ) (one : Part) → at ≤ length text → part_in (take (length text - at) (drop at text)) ≡ Some one
    → (0 < part_len one) × (at + part_len one ≤ length text)
step-bounds text at one within e =
    let bounds = part-bounds (drop at text) one (part-found (drop at text) one (rest_read text at (Some one) e)) in
    (bounds.0, omega (arith, bounds.1, length-drop at text))

step : (text : List ℕ) (so_far : List Token) (at : ℕ) (one : Part) → part_in (take (length text - at) (drop at text)) ≡ Some one
    → Lexes text so_far at (drop at text)
    → Lexes text (so_far ++ tokens_of one at) (at + part_len one) (drop (at + part_len one) text)
step text so_far at one e lexes =
    subst (λ rest. Lexes text (so_far ++ tokens_of one at) (at + part_len one) rest) (drop-drop (part_len one) at text)
    (lexes-more text so_far at (drop at text) one (rest_read text at (Some one) e) lexes)

pub step-gap : (text : List ℕ) (so_far : List Token) (at len : ℕ)
    → part_in (take (length text - at) (drop at text)) ≡ Some (part.Gap len) → Lexes text so_far at (drop at text)
    → Lexes text so_far (at + len) (drop (at + len) text)
step-gap text so_far at len e lexes =
    subst (λ ts. Lexes text ts (at + len) (drop (at + len) text)) (append-nil so_far) (step text so_far at (part.Gap len) e lexes)

pub step-token : (text : List ℕ) (so_far more : List Token) (at : ℕ) (kind : TokenKind) (len : ℕ)
    → part_in (take (length text - at) (drop at text)) ≡ Some (part.Token kind len)
    → more ≡ so_far ++ record { word = kind; from = at; to = at + len } ∷ [] → Lexes text so_far at (drop at text)
    → Lexes text more (at + len) (drop (at + len) text)
step-token text so_far more at kind len e pushed lexes =
    subst (λ ts. Lexes text ts (at + len) (drop (at + len) text)) (sym pushed) (step text so_far at (part.Token kind len) e lexes)

pub step-order : (tokens more : List Token) (at : ℕ) (kind : TokenKind) (len : ℕ)
    → more ≡ tokens ++ record { word = kind; from = at; to = at + len } ∷ [] → 0 < len
    → AreInOrder 0 tokens at → AreInOrder 0 more (at + len)
step-order tokens more at kind len pushed some order =
    subst (λ ts. AreInOrder 0 ts (at + len)) (sym pushed)
    (ordered-push 0 tokens at (record { word = kind; from = at; to = at + len }) order (omega arith) (omega arith))

pub step-stopped : (text : List ℕ) (so_far : List Token) (at : ℕ) → at < length text
    → part_in (take (length text - at) (drop at text)) ≡ None → Lexes text so_far at (drop at text)
    → (all : List Token) → IsTokenization all 0 text → ⊥
step-stopped text so_far at within e lexes all cuts =
    lexes-stopped text so_far at (drop at text) lexes (rest_read text at None e) (omega (arith, length-drop at text)) all cuts

-- where the text goes on with no part
pub step-stopped-at : (text : List ℕ) (so_far : List Token) (at place : ℕ) → at < length text
    → part_in (take (length text - at) (drop at text)) ≡ None → Lexes text so_far at (drop at text) → place ≡ at
    → StopsAt so_far place text
step-stopped-at text so_far at place within e lexes same =
    subst (λ n. StopsAt so_far n text) (sym same) (record {
      parts = lexes.parts;
      cut = lexes.cut;
      among = lexes.among;
      before_end = within;
      no_part = λ one is. let there = part-there (drop at text) one is in let none = rest_read text at None e in cc;
    })

-- the end
pub ended-found : (text : List ℕ) (tokens : List Token) (at : ℕ) → length text ≤ at → Lexes text tokens at (drop at text)
    → IsTokenization tokens 0 text
ended-found text tokens at past lexes = lexes-found text tokens at (subst (λ rest. Lexes text tokens at rest) (drop_all at text past) lexes)

pub ended-only : (text : List ℕ) (tokens : List Token) (at : ℕ) → length text ≤ at → Lexes text tokens at (drop at text)
    → (all : List Token) → IsTokenization all 0 text → tokens ≡ all
ended-only text tokens at past lexes all cuts =
    lexes-only text tokens at (subst (λ rest. Lexes text tokens at rest) (drop_all at text past) lexes) all cuts
