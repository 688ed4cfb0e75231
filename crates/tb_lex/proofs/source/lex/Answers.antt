use Rattle.std.proofs.Common.{sym, subst}
use Rattle.std.specs.Str.{IsValidUpTo}
use Rattle.tb_lex.specs.Texts.{IsLexed}
use Rattle.tb_lex.proofs.Whole.{other-list, no_text-cause}
use Rattle.tb_lex.proofs.source.lex.Goals as goal

pub returns-in-Ok-tokens_of-clause-only : goal.returns-in-Ok-tokens_of-clause-only
returns-in-Ok-tokens_of-clause-only c = λ other is.
    let lexed = subst (λ t. IsLexed t c.in-Ok-tokens_of.list) c.in-Ok.ensures.cases.0 c.in-Ok-tokens_of.ensures.tokens in
    other-list c.args.text.now c.in-Ok-tokens_of.list other lexed is

pub returns-in-Err-clause-refused : goal.returns-in-Err-clause-refused
returns-in-Err-clause-refused c =
    let valid = subst (λ n. IsValidUpTo c.args.text.now n) (sym c.valid_up_to-at.ensures) c.in-Err.ensures.cases.1 in
    no_text-cause c.args.text.now c.valid_up_to-at.result valid
