-- What is told of a fault of a text besides the fault: what stands round its place. (This project's own choice.)
use Rattle.std.specs.Prelude.{◌≡◌, ⊤, ℕ, List}
use Rattle.expression_parser.specs.Codes.{fault_place}
use Rattle.expression_parser.specs.declared.fault.ParseFault.{ParseFault}
use Rattle.expression_parser.specs.declared.fault.ParseFault.TheVariants as fault
use Rattle.filter_parser.specs.Heads.{AreTokensOf}
use Rattle.filter_syntax.specs.Surroundings.{around_of, nothing}
use Rattle.filter_syntax.specs.declared.around.Around.{Around}
use Rattle.filter_tokens.specs.declared.token.Token.{Token}

-- this stands round a place of a text
abbrev pub StandsRound : List ℕ → ℕ → Around → Type 0
StandsRound text at around = (tokens : List Token) × AreTokensOf text tokens × (around ≡ around_of tokens at)

-- this is told of a fault of a text: what stands round its place. A text that is too long is not cut into tokens.
abbrev pub TellsRound : List ℕ → ParseFault → Around → Type 0
TellsRound text fault.TooLong around = around ≡ nothing
TellsRound text fault.Memory around = ⊤
TellsRound text why around = StandsRound text (fault_place why) around
