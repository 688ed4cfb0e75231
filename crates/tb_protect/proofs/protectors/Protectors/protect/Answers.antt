use Rattle.std.specs.HashMap.{get}
use Rattle.std.proofs.Common.{◌++◌, [], ◌∷◌, ◌∙◌, ap}
use Rattle.tb_protect.specs.Kept.{same_key}
use Rattle.tb_protect.proofs.Calls.{Entered, entered}
use Rattle.tb_protect.proofs.protectors.Protectors.protect.Goals as goal

done : (c : goal.In-Ok-push) → Entered (get same_key c.enter.new.index) c.self.inside.starts.items c.push.new.self.items c.args.self.now c.args.prov c.args.guard
done c =
    entered (get same_key c.self.inside.index) (get same_key c.enter.new.index) c.self.inside.starts.items c.self.inside.provs.items c.push.new.self.items c.args.self.now c.args.prov c.args.guard c.self.invariant c.self.view_is c.requires.frame c.requires.guarded c.requires.fresh c.in_ok-enter.ensures.ok
    (c.in-Ok-push.ensures.items ∙ ap (λ xs. xs ++ c.args.prov ∷ []) c.reserve.ensures.items)

pub invariant_of-self-2 : goal.invariant_of-self-2
invariant_of-self-2 c = (done c).stack

pub returns-clause-ok : goal.returns-clause-ok
returns-clause-ok c = (done c).frames

pub returns-clause-kinds : goal.returns-clause-kinds
returns-clause-kinds c = (done c).kinds
