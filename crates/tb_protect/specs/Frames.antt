-- The guarded provenances of the calls that run: a list of frames, the top one first, each the list of
-- what its call guards, in the order in which it came.
use Rattle.std.specs.Prelude.{Bool, cond, ◌&&◌, ◌==◌, List, [], ◌∷◌, ◌++◌, map}
use Rattle.std.specs.List.{list_any}
use Rattle.tb_perm.specs.declared.tag.Prov.{Prov}
use Rattle.tb_perm.specs.declared.perm.Guard.{Guard}
use Rattle.tb_perm.specs.declared.perm.Guard.TheVariants.{Free}

-- a provenance, and how it is guarded
pub record Guarded : Type 0 where
  pub prov : Prov
  pub guard : Guard

abbrev pub Frames : Type 0
Frames = List (List Guarded)

-- the second is the provenance asked for
abbrev pub is_prov : Prov → Prov → Bool
is_prov asked prov = prov.alloc.0 == asked.alloc.0 && prov.tag.0 == asked.tag.0

-- the provenance is in a frame
abbrev pub is_in : Prov → List Guarded → Bool
is_in asked frame = list_any (λ (g : Guarded). is_prov asked g.prov) frame

-- how a frame guards a provenance; where it does not, the answer is the other one
abbrev pub guard_in : List Guarded → Prov → Guard → Guard
guard_in [] asked other = other
guard_in (g ∷ frame) asked other = cond (is_prov asked g.prov) g.guard (guard_in frame asked other)

-- how a provenance is guarded; it is free where no frame has it
abbrev pub kind_of : Frames → Prov → Guard
kind_of [] asked = Free
kind_of (frame ∷ frames) asked = guard_in frame asked (kind_of frames asked)

-- the top frame, if there is one
abbrev pub top_frame : Frames → List Guarded
top_frame [] = []
top_frame (frame ∷ frames) = frame

-- the frames below the top one
abbrev pub frames_below : Frames → Frames
frames_below [] = []
frames_below (frame ∷ frames) = frames

-- a frame's provenances
abbrev pub provs_of : List Guarded → List Prov
provs_of frame = map (λ (g : Guarded). g.prov) frame

-- the frames with one more provenance in the top one
abbrev pub with_guarded : Prov → Guard → Frames → Frames
with_guarded prov guard [] = []
with_guarded prov guard (frame ∷ frames) = (frame ++ record { prov = prov; guard = guard } ∷ []) ∷ frames
