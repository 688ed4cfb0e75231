-- How many calls run.
use Rattle.std.proofs.Common.{◌≡◌, refl, ◌+◌, ◌<◌, [], ◌∷◌, length, arith}
use Rattle.tb_perm.specs.declared.tag.Prov.{Prov}
use Rattle.tb_perm.specs.declared.perm.Guard.{Guard}
use Rattle.tb_protect.specs.Frames.{Frames, with_guarded, frames_below}

-- a provenance more is no call more
pub same_calls : (prov : Prov) (guard : Guard) (frames : Frames) → length (with_guarded prov guard frames) ≡ length frames
same_calls prov guard [] = refl
same_calls prov guard (frame ∷ frames) = refl

-- without the top frame there is one less
pub below_one : (frames : Frames) → 0 < length frames → length (frames_below frames) + 1 ≡ length frames
below_one [] h = absurd (omega arith)
below_one (frame ∷ frames) h = omega arith
