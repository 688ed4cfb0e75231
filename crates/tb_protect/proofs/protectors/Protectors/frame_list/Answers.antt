use Rattle.std.specs.HashMap.{get}
use Rattle.tb_protect.specs.Kept.{same_key}
use Rattle.tb_protect.proofs.Calls.{Listed, listed}
use Rattle.tb_protect.proofs.protectors.Protectors.frame_list.Goals as goal

done : (c : goal.After-top_provs) → Listed c.top_provs.result.now c.args.self.now
done c = listed (get same_key c.self.inside.index) c.self.inside.starts.items c.self.inside.provs.items c.top_provs.result.now c.args.self.now c.self.invariant c.self.view_is c.requires (rw (← c.deref.ensures.value, ← c.deref-2.ensures.value) c.top_provs.ensures)

pub returns-clause-value : goal.returns-clause-value
returns-clause-value c = (done c).value

pub returns-clause-once : goal.returns-clause-once
returns-clause-once c = (done c).once

pub returns-clause-guarded : goal.returns-clause-guarded
returns-clause-guarded c = (done c).guarded
