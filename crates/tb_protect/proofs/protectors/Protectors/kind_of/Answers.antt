use Rattle.std.proofs.Common.{sym, ◌∙◌, ap}
use Rattle.tb_protect.specs.Frames.{Frames, kind_of}
use Rattle.tb_protect.proofs.Stacks.{kind_of-frames}
use Rattle.tb_protect.proofs.protectors.Protectors.kind_of.Goals as goal

pub returns : goal.returns
returns c =
    c.guard_of.ensures ∙ sym (kind_of-frames _ c.self.inside.starts.items c.self.inside.provs.items c.args.prov c.self.invariant) ∙ ap (λ (frames : Frames). kind_of frames c.args.prov) c.self.view_is
