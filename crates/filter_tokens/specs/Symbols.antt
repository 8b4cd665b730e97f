-- The keywords and punctuators of filters, as in the BIRD 2.0 User's Guide on filters, and the words of it that are left out.
use Rattle.std.specs.Prelude.{ℕ, Bool, true, false, List, [], ◌∷◌, codes}
use Rattle.filter_tokens.specs.declared.symbol.Symbol.{Symbol}
use Rattle.filter_tokens.specs.declared.symbol.Symbol.TheVariants as symbol

-- how each keyword and punctuator is written
abbrev pub symbol_text : Symbol → List ℕ
symbol_text symbol.And = codes "&&"
symbol_text symbol.Or = codes "||"
symbol_text symbol.NotEqual = codes "!="
symbol_text symbol.NotMatch = codes "!~"
symbol_text symbol.LessEqual = codes "<="
symbol_text symbol.GreaterEqual = codes ">="
symbol_text symbol.DotDot = codes ".."
symbol_text symbol.LeftParen = codes "("
symbol_text symbol.RightParen = codes ")"
symbol_text symbol.LeftBrace = codes "{"
symbol_text symbol.RightBrace = codes "}"
symbol_text symbol.LeftBracket = codes "["
symbol_text symbol.RightBracket = codes "]"
symbol_text symbol.Semicolon = codes ";"
symbol_text symbol.Colon = codes ":"
symbol_text symbol.Comma = codes ","
symbol_text symbol.Dot = codes "."
symbol_text symbol.Equal = codes "="
symbol_text symbol.Less = codes "<"
symbol_text symbol.Greater = codes ">"
symbol_text symbol.Match = codes "~"
symbol_text symbol.Not = codes "!"
symbol_text symbol.Plus = codes "+"
symbol_text symbol.Minus = codes "-"
symbol_text symbol.Times = codes "*"
symbol_text symbol.Divide = codes "/"
symbol_text symbol.Filter = codes "filter"
symbol_text symbol.Int = codes "int"
symbol_text symbol.Bool = codes "bool"
symbol_text symbol.Ip = codes "ip"
symbol_text symbol.Prefix = codes "prefix"
symbol_text symbol.If = codes "if"
symbol_text symbol.Then = codes "then"
symbol_text symbol.Else = codes "else"
symbol_text symbol.Case = codes "case"
symbol_text symbol.Accept = codes "accept"
symbol_text symbol.Reject = codes "reject"
symbol_text symbol.True = codes "true"
symbol_text symbol.False = codes "false"
symbol_text symbol.Defined = codes "defined"
symbol_text symbol.Net = codes "net"
symbol_text symbol.RipMetric = codes "rip_metric"

-- whether it is a punctuator, and no keyword
abbrev pub is_punctuator : Symbol → Bool
is_punctuator symbol.Filter = false
is_punctuator symbol.Int = false
is_punctuator symbol.Bool = false
is_punctuator symbol.Ip = false
is_punctuator symbol.Prefix = false
is_punctuator symbol.If = false
is_punctuator symbol.Then = false
is_punctuator symbol.Else = false
is_punctuator symbol.Case = false
is_punctuator symbol.Accept = false
is_punctuator symbol.Reject = false
is_punctuator symbol.True = false
is_punctuator symbol.False = false
is_punctuator symbol.Defined = false
is_punctuator symbol.Net = false
is_punctuator symbol.RipMetric = false
is_punctuator punctuator = true

-- words of BIRD's filters that are neither names nor keywords here (this project's own choice)
abbrev pub left_out : List (List ℕ)
left_out =
    codes "function" ∷ codes "define" ∷ codes "print" ∷ codes "printn" ∷ codes "return" ∷ codes "include" ∷
    codes "string" ∷ codes "pair" ∷ codes "quad" ∷ codes "ec" ∷ codes "lc" ∷ codes "bgppath" ∷ codes "bgpmask" ∷ codes "clist" ∷
    codes "eclist" ∷ codes "lclist" ∷ codes "set" ∷ codes "from" ∷ codes "proto" ∷ codes "preference" ∷ codes "source" ∷ []
