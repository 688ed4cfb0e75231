use Rattle.std.proofs.Common.{subst, Option}
use Rattle.tb_names.specs.Names.{names_of, told}
use Rattle.tb_ast.specs.Mentions.{told_mention}
use Rattle.tb_mentions.specs.declared.meaning.Meaning.{Meaning}
use Rattle.tb_mentions.specs.Variables.{told_variables}
use Rattle.tb_mentions.specs.Meanings.{IsMeaning, meaning_of}
use Rattle.tb_mentions.proofs.Walking.{noted_one}
use Rattle.tb_mentions.proofs.walk.note.Goals as goal

pub returns-in_ok-add-in-Some : goal.returns-in_ok-add-in-Some
returns-in_ok-add-in-Some c =
    noted_one c.args.types.now c.mean.new.types c.args.list.now.items c.add.new.list.items c.in-Some.meaning _ _ c.requires.meant
    (subst (λ (found : Option Meaning). IsMeaning c.args.types.now c.mean.new.types found (meaning_of c.args.scope.now.file.now (names_of (told c.args.scope.now.parameters.now)) (told_variables c.args.variables.now) (told_mention c.args.mention))) c.in-Some.is c.in_ok-meaning.ensures)
    c.in_ok-add-in-Some.ensures
