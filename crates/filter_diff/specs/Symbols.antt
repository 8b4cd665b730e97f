-- What symbols stand for at a route.
use Rattle.std.specs.Prelude.{◌≡◌, ℕ, ◌+◌, Option, Some, None, List, ◌∷◌, map, take}
use Rattle.std.specs.Option.{option_map}
use Rattle.prefix_patterns.specs.Bits.{address_of}
use Rattle.filter_code.specs.declared.instruction.Instr.{Instr}
use Rattle.filter_code.specs.declared.value.Value.{Value}
use Rattle.filter_code.specs.declared.value.Value.TheVariants as value
use Rattle.filter_code.specs.RouteView.{RouteView}
use Rattle.filter_code.specs.CodeView.{CodeView}
use Rattle.filter_code.specs.Machine.{Config, Going, carry_out, overfills, unless_full}
use Rattle.filter_code.specs.Table.{Frame}
use Rattle.filter_diff.specs.declared.symbol.SymbolicValue.{SymbolicValue}
use Rattle.filter_diff.specs.declared.symbol.SymbolicValue.TheVariants as symbol

-- the address of a prefix of which so many bits are kept, the others cleared
abbrev pub kept_address : ℕ → RouteView → Value
kept_address kept route = value.Addr (record { 0 = address_of (take kept route.net) })

-- the value that a symbol stands for
abbrev pub value_at : RouteView → SymbolicValue → Value
value_at route (symbol.Int n) = value.Int n
value_at route (symbol.Bool b) = value.Bool b
value_at route (symbol.Ip a) = value.Addr a
value_at route (symbol.Net bits) = value.Net bits
value_at route (symbol.OwnIp kept) = kept_address kept route
value_at route symbol.OwnNet = value.Net route.net

-- the current metric: the one received, where no other was set
abbrev pub metric_at : RouteView → Option ℕ → ℕ
metric_at route None = route.metric
metric_at route (Some metric) = metric

-- the configuration that symbols stand for
abbrev pub config_at : RouteView → ℕ → List SymbolicValue → List (Option SymbolicValue) → Option ℕ → Config
config_at route pc stack locals metric =
    let frame : Frame Value = record { stack = map (value_at route) stack; locals = map (option_map (value_at route)) locals } in
    record { pc = pc; frame = frame; metric = metric_at route metric }

-- an instruction puts a value in place of its operands, if there is room for it
abbrev pub Puts : CodeView → Instr → RouteView → (List Value → List Value) → Value → Type 0
Puts program i route onto v = (pc metric : ℕ) (rest : List Value) (locals : List (Option Value)) →
    carry_out program route
    (record { pc = pc; frame = record { stack = onto rest; locals = locals }; metric = metric }) (Some i)
    ≡ unless_full (overfills (Some v) rest) pc
    (Going (record { pc = pc + 1; frame = record { stack = v ∷ rest; locals = locals }; metric = metric }))
