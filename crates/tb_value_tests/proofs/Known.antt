-- A pointer that is known stays known.
use Rattle.std.proofs.Common.{◌≡◌, refl, true, Option, Some, None}
use Rattle.tb_perm.specs.declared.tag.Prov.{Prov}
use Rattle.tb_value.specs.Provs.{passes}
use Rattle.tb_events.specs.Memory.{RunMemory, knows, Keeps}

pub pass_kept : (old new : RunMemory) (prov : Option Prov) → Keeps old new → passes (knows old) prov ≡ true → passes (knows new) prov ≡ true
pass_kept old new None keeps h = refl
pass_kept old new (Some prov) keeps h = keeps prov h
