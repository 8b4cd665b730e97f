-- What a command has after arguments and subcommands were added to it.
use Rattle.std.proofs.Common.{◌≡◌, ◌∙◌, ◌<◌, ◌+◌, ◌++◌, ◌||◌, ℕ, Bool, true, false, List, [], ◌∷◌, Bor, Result}
use Rattle.std.proofs.Common.{ap, ap₂, append-nil, arith, get_or, length, map, refl, subst, sym, take}
use Rattle.std.specs.Prelude.{IfOk, fold}
use Rattle.std.proofs.lemmas.Result.{IfOk-weaker}
use Rattle.std.specs.List.{All}
use Rattle.std.specs.Str.{bytes_eq}
use Rattle.std.proofs.lemmas.List.{map-append, map_more}
use Rattle.std.proofs.lemmas.List.Elements.{All-drop, All-get_or, All-push, filter-append}
use Rattle.clap.specs.Words.{AddsArg, AddsInTurn, AddsSubcommand, App, Rule, Shape, app_of, new_app, rule_of, shape_of, with_rule, with_subcommand}
use Rattle.clap.specs.declared.builder.arg.Arg.{Arg}
use Rattle.clap.specs.declared.builder.command.Command.{Command}
use Rattle.command_line.specs.declared.options.Choices.{Choices}
use Rattle.command_line.specs.Parameters.{Taken, all_taken, bare_program, command_app, has_globals, listed, program, rule_for, rules_of, taken_by}
use Rattle.command_line.specs.declared.options.Parameter.{Parameter}

head_of : {X : Type 0} (P : X → Type 0) (x : X) (xs : List X) → All P (x ∷ xs) → P x
head_of P x xs all = All-get_or P (x ∷ xs) 0 x (omega arith) all

rest_of : {X : Type 0} (P : X → Type 0) (x : X) (xs : List X) → All P (x ∷ xs) → All P xs
rest_of P x xs all = All-drop P 1 (x ∷ xs) all

-- arguments that are not global
pub args_added : (old new : Command) (args : List Arg) → AddsInTurn AddsArg old args new → All (λ a. a.global ≡ false) args
    → (app_of new ≡ fold with_rule (app_of old) (map rule_of args)) × (has_globals new ≡ has_globals old)
args_added old new [] same all = subst (λ (c : Command). (app_of c ≡ app_of old) × (has_globals c ≡ has_globals old)) same (refl, refl)
args_added old new (a ∷ args) (next, adds, then) all =
    let local : a.global ≡ false = head_of (λ a. a.global ≡ false) a args all in
    let shape : app_of next ≡ with_rule (app_of old) (rule_of a) = adds.shape local in
    let globals : has_globals next ≡ has_globals old = adds.globals ∙ no_more (has_globals old) a.global local in
    let later = args_added next new args then (rest_of (λ a. a.global ≡ false) a args all) in
    (subst (λ (b : App). app_of new ≡ fold with_rule b (map rule_of args)) shape later.0, later.1 ∙ globals)
  where
    no_more : (had has : Bool) → has ≡ false → (had || has) ≡ had
    no_more had has none = rw none (grind arith)

-- subcommands without global arguments
pub subcommands_added : (old new : Command) (commands : List Command) → AddsInTurn AddsSubcommand old commands new
    → All (λ c. has_globals c ≡ false) commands → app_of new ≡ fold with_subcommand (app_of old) (map shape_of commands)
subcommands_added old new [] same all = subst (λ (c : Command). app_of c ≡ app_of old) same refl
subcommands_added old new (c ∷ commands) (next, adds, then) all =
    let shape : app_of next ≡ with_subcommand (app_of old) (shape_of c) = adds.shape (head_of (λ c. has_globals c ≡ false) c commands all) in
    subst (λ (b : App). app_of new ≡ fold with_subcommand b (map shape_of commands)) shape
    (subcommands_added next new commands then (rest_of (λ c. has_globals c ≡ false) c commands all))

-- the rules of one more entry
module _ {X : Type 0} (choices : Choices) (name : List ℕ) (f : X → Taken) (xs : List X) (i : ℕ) (d : X) (within : i < length xs) where
  split : rules_of choices name (map f (take (i + 1) xs)) ≡ rules_of choices name (map f (take i xs)) ++ rules_of choices name (f (get_or xs i d) ∷ [])
  split = ap (rules_of choices name) (map_more f xs i d within)
      ∙ ap (map (rule_for choices)) (filter-append (λ t. bytes_eq t.taker name) (map f (take i xs)) (f (get_or xs i d) ∷ []))
      ∙ map-append (rule_for choices) _ _

  pub rules_more : bytes_eq (f (get_or xs i d)).taker name ≡ true
      → rules_of choices name (map f (take (i + 1) xs)) ≡ rules_of choices name (map f (take i xs)) ++ rule_for choices (f (get_or xs i d)) ∷ []
  rules_more is = split ∙ rw is refl

  pub rules_same : bytes_eq (f (get_or xs i d)).taker name ≡ false
      → rules_of choices name (map f (take (i + 1) xs)) ≡ rules_of choices name (map f (take i xs))
  rules_same is = split ∙ rw is (append-nil _)

abbrev IsLocal : Arg → Type 0
IsLocal a = a.global ≡ false

-- the arguments of the first i entries, as far as they are of this command
abbrev pub AreArgs : Choices → List ℕ → List (Bor (List ℕ) × Parameter) → ℕ → List Arg → Type 0
AreArgs choices name entries i args = (map rule_of args ≡ rules_of choices name (map taken_by (take i entries))) × All (λ a. a.global ≡ false) args

module _ (choices : Choices) (name : List ℕ) (entries : List (Bor (List ℕ) × Parameter)) (i : ℕ) (d : Bor (List ℕ) × Parameter)
    (within : i < length entries) (args : List Arg) (so_far : AreArgs choices name entries i args) where
  abbrev entry : Bor (List ℕ) × Parameter
  entry = get_or entries i d

  pub one_more_arg : (later : List Arg) (arg : Arg) → bytes_eq entry.0.now name ≡ true → later ≡ args ++ arg ∷ []
      → rule_of arg ≡ rule_for choices (taken_by entry) → arg.global ≡ false → AreArgs choices name entries (i + 1) later
  one_more_arg later arg is grown rule local = (
    ap (map rule_of) grown ∙ map-append rule_of args (arg ∷ []) ∙ ap₂ both so_far.0 rule
        ∙ sym (rules_more choices name taken_by entries i d within is),
    subst (All IsLocal) (sym grown) (All-push IsLocal args arg so_far.1 local),
  )
    where
      both : List Rule → Rule → List Rule
      both rules rule = rules ++ rule ∷ []

  pub no_more_arg : bytes_eq entry.0.now name ≡ false → AreArgs choices name entries (i + 1) args
  no_more_arg is = (so_far.0 ∙ sym (rules_same choices name taken_by entries i d within is), so_far.1)

module _ {E : Type 0} (choices : Choices) where
  -- a command with its arguments
  pub command_made : (name : List ℕ) (bare : Command) (args : List Arg) (made : Result Command E) → app_of bare ≡ new_app name
      → has_globals bare ≡ false → map rule_of args ≡ rules_of choices name all_taken → All (λ a. a.global ≡ false) args
      → IfOk made (AddsInTurn AddsArg bare args)
      → IfOk made (λ command. (app_of command ≡ command_app choices name) × (has_globals command ≡ false))
  unfolding command_app
  command_made name bare args made app local rules locals adds =
      IfOk-weaker made _ _ (λ command added.
      let has = args_added bare command args added locals in
      (has.0 ∙ ap₂ (fold with_rule) app rules, has.1 ∙ local)) adds

  -- the program with its commands
  pub program_made : (bare : Command) (commands : List Command) (made : Result Command E) → app_of bare ≡ bare_program
      → map shape_of commands ≡ map (λ name. (command_app choices name).top) listed → All (λ c. has_globals c ≡ false) commands
      → IfOk made (AddsInTurn AddsSubcommand bare commands) → IfOk made (λ command. app_of command ≡ program choices)
  program_made bare commands made app shapes locals adds =
      IfOk-weaker made _ _ (λ command added. subcommands_added bare command commands added locals ∙ ap₂ (fold with_subcommand) app shapes) adds

abbrev HasNone : Command → Type 0
HasNone command = has_globals command ≡ false

-- the commands of the first i entries
abbrev pub AreCommands : Choices → List (Bor (List ℕ) × Bor (List ℕ)) → ℕ → List Command → Type 0
AreCommands choices entries i commands =
    (map shape_of commands ≡ map (λ name. (command_app choices name).top) (map (λ entry. entry.0.now) (take i entries)))
    × All (λ c. has_globals c ≡ false) commands

pub one_more_command : (choices : Choices) (entries : List (Bor (List ℕ) × Bor (List ℕ))) (i : ℕ) (d : Bor (List ℕ) × Bor (List ℕ))
    → i < length entries → (commands later : List Command) (command : Command) → AreCommands choices entries i commands
    → later ≡ commands ++ command ∷ [] → app_of command ≡ command_app choices (get_or entries i d).0.now → has_globals command ≡ false
    → AreCommands choices entries (i + 1) later
one_more_command choices entries i d within commands later command so_far grown app local =
    let shape : List ℕ → Shape = λ name. (command_app choices name).top in
    let name : Bor (List ℕ) × Bor (List ℕ) → List ℕ = λ entry. entry.0.now in (
      ap (map shape_of) grown ∙ map-append shape_of commands (command ∷ [])
          ∙ ap₂ both so_far.0 (ap (λ (a : App). a.top) app)
          ∙ sym (ap (map shape) (map_more name entries i d within) ∙ map-append shape _ _),
      subst (All HasNone) (sym grown) (All-push HasNone commands command so_far.1 local),
    )
  where
    both : List Shape → Shape → List Shape
    both shapes shape = shapes ++ shape ∷ []
