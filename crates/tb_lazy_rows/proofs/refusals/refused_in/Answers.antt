use Rattle.std.proofs.Common.{◌∙◌, sym, subst, Some, is_some, refl, rules}
use Rattle.std.specs.Prelude.{position}
use Rattle.std.specs.List.{slice_range}
use Rattle.tb_perm.specs.Event.{refusal_of}
use Rattle.tb_lazy_rows.specs.Kinds.{IsFirstIn, refuses_at}
use Rattle.tb_lazy_rows.proofs.Firsts.{first_in_run}
use Rattle.tb_lazy_rows.proofs.refusals.refused_in.Goals as goal

pub returns : goal.returns
returns c = λ kinds meets.
    let found = c.find.ensures (λ s. is_some (refusal_of (Some c.in-Some.kind) c.args.protected c.args.rel s)) (λ s b post. search rules) in
    subst (IsFirstIn (refuses_at kinds c.args.protected c.args.rel c.args.states.now) c.args.run.now.lo c.args.run.now.hi) (sym found)
    (first_in_run kinds c.in-Some.kind c.args.protected c.args.rel c.args.states.now c.args.run.now.lo c.args.run.now.hi c.requires.order c.requires.within (λ byte above below. meets byte above below ∙ c.in-Some.is) (position (λ s. is_some (refusal_of (Some c.in-Some.kind) c.args.protected c.args.rel s)) (slice_range c.args.states.now c.args.run.now.lo c.args.run.now.hi)) refl)
