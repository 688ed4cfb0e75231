use Rattle.std.proofs.Common.{◌≡◌, ◌++◌, drop, map}
use Rattle.tb_ast.specs.Mentions.{MentionOf, told_mentions}
use Rattle.tb_ast.proofs.mention.Noted.types.Given as goal

abbrev pub invariant-loop-ty : goal.invariant-loop-ty
invariant-loop-ty l =
    told_mentions l.self.list.items ++ map MentionOf.Written (drop l.ty-index l.types) ≡ told_mentions l.initial.self.list.items ++ map MentionOf.Written l.types
