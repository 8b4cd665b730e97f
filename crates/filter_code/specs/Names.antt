-- How an instruction is displayed: its name, and what it carries in itself. (This project's own choice.)
use Rattle.std.specs.Prelude.{ℕ, Bool, if◌then◌else◌, List, [], ◌∷◌, ◌++◌, codes, decimal}
use Rattle.prefix_patterns.specs.Spelling.{address_text, prefix_text}
use Rattle.filter_code.specs.declared.instruction.Instr.{Instr}
use Rattle.filter_code.specs.declared.instruction.Instr.TheVariants as instr

-- its name
abbrev pub name_of : Instr → List ℕ
name_of (instr.Int n) = codes "INT"
name_of (instr.Bool b) = codes "BOOL"
name_of (instr.Ip a) = codes "IP"
name_of (instr.Prefix bits) = codes "PREFIX"
name_of (instr.Load i) = codes "LOAD"
name_of (instr.Store i) = codes "STORE"
name_of instr.Net = codes "NET"
name_of instr.Metric = codes "METRIC"
name_of instr.Received = codes "RECEIVED"
name_of instr.SetMetric = codes "SETMETRIC"
name_of instr.Add = codes "ADD"
name_of instr.Sub = codes "SUB"
name_of instr.Mul = codes "MUL"
name_of instr.Div = codes "DIV"
name_of instr.Max = codes "MAX"
name_of instr.Eq = codes "EQ"
name_of instr.Lt = codes "LT"
name_of instr.Le = codes "LE"
name_of instr.Not = codes "NOT"
name_of instr.Addr = codes "ADDR"
name_of instr.Len = codes "LEN"
name_of (instr.Mask n) = codes "MASK"
name_of instr.Within = codes "WITHIN"
name_of (instr.Member s) = codes "MEMBER"
name_of (instr.InSet s) = codes "INSET"
name_of (instr.Jump k) = codes "JUMP"
name_of (instr.JumpIfNot k) = codes "JUMPIFNOT"
name_of instr.Accept = codes "ACCEPT"
name_of instr.Reject = codes "REJECT"

-- a truth value
abbrev pub truth_text : Bool → List ℕ
truth_text b = if b then codes "true" else codes "false"

-- what it carries in itself, behind a space
abbrev pub carried_text : Instr → List ℕ
carried_text (instr.Int n) = 32 ∷ decimal n
carried_text (instr.Bool b) = 32 ∷ truth_text b
carried_text (instr.Ip a) = 32 ∷ address_text a.0
carried_text (instr.Prefix bits) = 32 ∷ prefix_text bits
carried_text (instr.Load i) = 32 ∷ decimal i
carried_text (instr.Store i) = 32 ∷ decimal i
carried_text (instr.Mask n) = 32 ∷ decimal n
carried_text (instr.Member s) = 32 ∷ decimal s
carried_text (instr.InSet s) = 32 ∷ decimal s
carried_text (instr.Jump k) = 32 ∷ decimal k
carried_text (instr.JumpIfNot k) = 32 ∷ decimal k
carried_text _ = []

-- the instruction as it is displayed
abbrev pub instruction_text : Instr → List ℕ
instruction_text i = name_of i ++ carried_text i
