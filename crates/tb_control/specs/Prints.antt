-- Prints and assertions.
use Rattle.std.specs.Prelude.{ℕ, zero, suc, Bool, true, false, ◌&&◌, ◌==◌, if◌then◌else◌, nat_eq, List, [], ◌∷◌, length, Option, Some, None, Result, Ok, Err}
use Rattle.tb_perm.specs.declared.span.Span.{Span}
use Rattle.tb_perm.specs.declared.code.Code.TheVariants.{BadFormatText}
use Rattle.tb_lex.specs.declared.decoded.TextCharacter.{TextCharacter}
use Rattle.tb_types.specs.Table.{TypeTable}
use Rattle.tb_thir.specs.declared.node.Node.{Node, roll-Node}
use Rattle.tb_thir.specs.declared.node.Node.TheOpen.{Node-F}
use Rattle.tb_rules.specs.declared.scalars.Scalars.{Scalars}
use Rattle.tb_rules.specs.declared.type_kind.TypeKind.{TypeKind}
use Rattle.tb_rules.specs.declared.type_kind.TypeKind.TheVariants as kind
use Rattle.tb_rules.specs.Answers.{Fault}
use Rattle.tb_rules.specs.Kinds.{kind_at}
use Rattle.tb_rules.specs.Nodes.{type_of, head}
use Rattle.tb_control.specs.declared.printing.Brace.{Brace}
use Rattle.tb_control.specs.declared.printing.Brace.TheVariants.{Open, Close, Other}
use Rattle.tb_control.specs.declared.printing.Pending.{Pending}
use Rattle.tb_control.specs.declared.printing.Pending.TheVariants.{Nothing, Opened, Closed}

-- what an escape stands for is no brace
abbrev pub brace_of : TextCharacter → Brace
brace_of c = if c.escaped then Other else (if c.value == 123 then Open else (if c.value == 125 then Close else Other))

-- After one more character: what stands open, and whether a `{}` has ended; none where the character may not stand there.
abbrev pub after_none : Brace → Option (Pending × Bool)
after_none Open = Some (Opened, false)
after_none Close = Some (Closed, false)
after_none Other = Some (Nothing, false)

abbrev pub after_open : Brace → Option (Pending × Bool)
after_open Open = Some (Nothing, false)
after_open Close = Some (Nothing, true)
after_open Other = None

abbrev pub after_close : Brace → Option (Pending × Bool)
after_close Close = Some (Nothing, false)
after_close brace = None

abbrev pub after : Pending → Brace → Option (Pending × Bool)
after Nothing brace = after_none brace
after Opened brace = after_open brace
after Closed brace = after_close brace

-- at the end nothing stands open, and no argument is left
abbrev pub is_whole : Pending → ℕ → Bool
is_whole Nothing left = nat_eq left 0
is_whole pending left = false

abbrev pub by_step : (Pending → ℕ → Bool) → ℕ → Option (Pending × Bool) → Bool
by_step rest left None = false
by_step rest left (Some (pending, false)) = rest pending left
by_step rest zero (Some (pending, true)) = false
by_step rest (suc left) (Some (pending, true)) = rest pending left

-- the characters have so many `{}` more
abbrev pub places_from : List TextCharacter → Pending → ℕ → Bool
places_from [] pending left = is_whole pending left
places_from (c ∷ characters) pending left = by_step (places_from characters) left (after pending (brace_of c))

abbrev pub has_places : List TextCharacter → ℕ → Bool
has_places characters count = places_from characters Nothing count

-- integers, `bool` and `char` can be printed
abbrev pub is_shown : TypeKind → Bool
is_shown (kind.Int found) = true
is_shown kind.Bool = true
is_shown kind.Char = true
is_shown other = false

abbrev pub are_shown : TypeTable → List Node → Bool
are_shown types [] = true
are_shown types (argument ∷ arguments) = is_shown (kind_at types (type_of argument)) && are_shown types arguments

abbrev pub is_print : TypeTable → List TextCharacter → List Node → Bool
is_print types characters arguments = has_places characters (length arguments) && are_shown types arguments

abbrev pub print_of : TypeTable → Scalars → Bool → List ℕ → List TextCharacter → List Node → Span → Result Node Fault
print_of types scalars newline text characters arguments span = if is_print types characters arguments then Ok (roll-Node (Node-F.Print (head scalars.unit span) newline text arguments)) else Err (BadFormatText, span)

abbrev pub assert_of : Scalars → Node → Span → Node
assert_of scalars condition span = roll-Node (Node-F.Assert (head scalars.unit span) condition)
