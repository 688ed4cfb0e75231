use Rattle.std.proofs.Common.{sym, ◌∙◌, ◌+◌, arith}
use Rattle.std.proofs.lemmas.Result.{err_from_is_err_and}
use Rattle.tb_small.specs.Words.{begins_with}
use Rattle.tb_small.specs.Reading.{piece_at, holes_at}
use Rattle.tb_small.proofs.Many.{fails, goes_on}
use Rattle.tb_small.proofs.texts.holes_at.Goals as goal

pub returns-in_err-more-clause-holes : goal.returns-in_err-more-clause-holes
returns-in_err-more-clause-holes c =
    let p = err_from_is_err_and c.from_residual.result c.from_residual.ensures.1 in
    rw (p.1, p.2) (fails (begins_with 34) (λ _. piece_at) (λ taken more. taken + more) c.in_err-more.field-0.0 _ _ c.loop.holes c.loop.rest.now (holes_at c.args.text.now) c.loop-test.true (sym c.begins_with.ensures ∙ c.if-begins_with.false) c.in_err-more.ensures.piece c.loop.invariant.read)

pub loop-preserved : goal.loop-preserved
loop-preserved c = record {
  read = goes_on (begins_with 34) (λ _. piece_at) (λ taken more. taken + more) _ _ c.loop.holes c.loop.rest.now c.in_ok-more.more c.in_ok-more.after.now (holes_at c.args.text.now) c.loop-test.true (sym c.begins_with.ensures ∙ c.if-begins_with.false) c.in_ok-more.ensures.piece c.loop.invariant.read;
  few = let shorter = c.in_ok-more.ensures.shorter in omega (arith, shorter);
}
