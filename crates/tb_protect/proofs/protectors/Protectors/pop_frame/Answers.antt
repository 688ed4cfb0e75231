use Rattle.std.specs.HashMap.{get}
use Rattle.tb_protect.specs.Kept.{same_key}
use Rattle.tb_protect.proofs.Calls.{Left, left}
use Rattle.tb_protect.proofs.protectors.Protectors.pop_frame.Goals as goal

done : (c : goal.After-truncate) → Left (get same_key c.forget.new.index) c.pop.new.self.items c.truncate.new.self.items c.args.self.now
done c =
    left (get same_key c.self.inside.index) (get same_key c.forget.new.index) c.in-Some.start c.pop.new.self.items c.self.inside.starts.items c.self.inside.provs.items c.truncate.new.self.items c.args.self.now c.self.invariant c.self.view_is c.in-Some.ensures.items (rw (← c.deref.ensures.value) c.forget.ensures) c.truncate.ensures.items

pub invariant_of-self : goal.invariant_of-self
invariant_of-self c = (done c).stack

pub returns-clause-value : goal.returns-clause-value
returns-clause-value c = (done c).frames

pub returns-clause-kinds : goal.returns-clause-kinds
returns-clause-kinds c = (done c).kinds
