use Rattle.std.proofs.Common.{refl}
use Rattle.tb_shape.proofs.Uses.{IsShape-root}
use Rattle.tb_shape.proofs.edits.plant.Goals as goal

pub returns-in-Ok-push-clause-shape : goal.returns-in-Ok-push-clause-shape
returns-in-Ok-push-clause-shape c =
    rw (c.in-Ok-push.ensures.items, c.requires) (IsShape-root _ _ _ _ refl refl c.in-Ok.ensures.updates.changed refl c.new.ensures.items)
