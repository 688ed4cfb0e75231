use Rattle.std.proofs.Common.{rules, subst, sym}
use Rattle.tb_lex.proofs.Decoding.{IsRead, first-shorter, read-one, read-all}
use Rattle.tb_lex.proofs.decoded.characters_in.Goals as goal

pub loop-rest-smaller : goal.loop-rest-smaller
loop-rest-smaller c = first-shorter c.loop-rest.rest.now (c.in-Some.character, c.in-Some.after.now) (sym c.in-Some.ensures)

pub loop-rest-preserved : goal.loop-rest-preserved
loop-rest-preserved c =
    subst (λ cs. IsRead cs c.args.text.now c.in-Some.after.now) (sym c.in_ok-push.ensures.items)
    (read-one c.loop-rest.list.items c.args.text.now c.loop-rest.rest.now (c.in-Some.character, c.in-Some.after.now) c.loop-rest.invariant (sym c.in-Some.ensures))

pub returns : goal.returns
returns c = read-all c.loop-rest.list.items c.args.text.now c.loop-rest.rest.now c.loop-rest.invariant (search rules)
