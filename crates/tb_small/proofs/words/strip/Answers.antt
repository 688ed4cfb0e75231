use Rattle.std.proofs.Common.{ap, ◌∙◌}
use Rattle.std.specs.Option.{option_copied}
use Rattle.std.proofs.lemmas.Bool.Decides.{Decides-eqb}
use Rattle.std.proofs.lemmas.Slice.Eq.{strip_prefix_is}
use Rattle.tb_small.proofs.Tokens.{strip-is}
use Rattle.tb_small.proofs.words.strip.Goals as goal

pub returns-in-Some : goal.returns-in-Some
returns-in-Some c =
    let h = strip_prefix_is Decides-eqb c.args.text.now c.args.word.now c.strip_prefix.result c.strip_prefix.ensures.cases in
    strip-is c.args.word.now c.args.text.now c.strip_prefix.result h ∙ ap option_copied c.in-Some.is

pub returns-in-None : goal.returns-in-None
returns-in-None c =
    let h = strip_prefix_is Decides-eqb c.args.text.now c.args.word.now c.strip_prefix.result c.strip_prefix.ensures.cases in
    strip-is c.args.word.now c.args.text.now c.strip_prefix.result h ∙ ap option_copied c.in-None.is
