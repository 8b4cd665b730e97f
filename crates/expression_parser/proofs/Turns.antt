-- Loops: some number of turns, which is enough for what is left to read.
use Rattle.std.proofs.Common.{◌≡◌, refl, sym, ℕ, zero, suc, ◌<◌, ◌≤◌, List, [], ◌∷◌, length, Option, Some, None, arith}
use Rattle.filter_tokens.specs.Lexemes.{Lexeme}
use Rattle.expression_parser.specs.Readers.{Turn, turns}

-- a loop that has made so much, with so much left, will answer this
pub record Goes {A : Type 0} (turn : Turn A) (x : A) (ws : List Lexeme)
    (answer : Option (A × List Lexeme)) : Type 0 where
  pub count : ℕ
  pub enough : length ws ≤ count
  pub same : turns turn count x ws ≡ answer

pub starts : {A : Type 0} (turn : Turn A) (x : A) (ws : List Lexeme) →
    Goes turn x ws (turns turn (length ws) x ws)
starts turn x ws = record { count = length ws; enough = omega arith; same = refl }

-- after a turn that goes on
pub goes_on : {A : Type 0} (turn : Turn A) (x y : A) (ws vs : List Lexeme)
    (answer : Option (A × List Lexeme)) →
    turn x ws ≡ Some (Some (y, vs)) → length vs < length ws → Goes turn x ws answer → Goes turn y vs answer
goes_on {A} turn x y ws vs answer s h g = go g.count g.enough g.same
  where
    go : (n : ℕ) → length ws ≤ n → turns turn n x ws ≡ answer → Goes turn y vs answer
    go zero k e = absurd (omega arith)
    go (suc n) k e = record { count = n; enough = omega arith; same = rw s at e }

-- after a turn that ends the loop
pub ends : {A : Type 0} (turn : Turn A) (x : A) (ws : List Lexeme)
    (answer : Option (A × List Lexeme)) → turn x ws ≡ Some None → Goes turn x ws answer → answer ≡ Some (x, ws)
ends {A} turn x ws answer s g = go g.count g.same
  where
    go : (n : ℕ) → turns turn n x ws ≡ answer → answer ≡ Some (x, ws)
    go zero e = sym e
    go (suc n) e = sym (rw s at e)

-- after a turn that refuses
pub refuses : {A : Type 0} (turn : Turn A) (x : A) (ws : List Lexeme)
    (answer : Option (A × List Lexeme)) → turn x [] ≡ Some None → turn x ws ≡ None → Goes turn x ws answer → answer ≡ None
refuses {A} turn x ws answer none s g = go ws g.count s g.enough g.same
  where
    go : (ws : List Lexeme) (n : ℕ) → turn x ws ≡ None → length ws ≤ n → turns turn n x ws ≡ answer → answer ≡ None
    go [] n s k e = absurd (cc)
    go (w ∷ ws) zero s k e = absurd (omega arith)
    go (w ∷ ws) (suc n) s k e = sym (rw s at e)
