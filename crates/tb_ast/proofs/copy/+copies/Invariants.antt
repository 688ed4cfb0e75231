use Rattle.std.proofs.Common.{◌≡◌, take}
use Rattle.tb_ast.proofs.copy.+copies.Given as goal

abbrev pub invariant-types_copy-loop-ty : goal.invariant-types_copy-loop-ty
invariant-types_copy-loop-ty l = l.list.items ≡ take l.ty-index l.types

abbrev pub invariant-listed_arguments_copy-loop-argument : goal.invariant-listed_arguments_copy-loop-argument
invariant-listed_arguments_copy-loop-argument l = l.list.items ≡ take l.argument-index l.arguments
