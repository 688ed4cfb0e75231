-- Which states can be come to: each pointer in them is known to the memory.
use Rattle.std.specs.Prelude.{List, ⊤}
use Rattle.std.specs.List.{AllByRecursion}
use Rattle.tb_heap.specs.Memory.{RunMemory}
use Rattle.tb_heap.specs.Sound.{HasProv, Knows, IsSound}
use Rattle.tb_eval.specs.Step.{State}
use Rattle.tb_eval.specs.declared.value.Slot.{Slot}
use Rattle.tb_eval.specs.declared.value.Slot.TheVariants.{Dead, Live, Empty, Holds}

-- a pointer in a slot is known
abbrev pub KnowsSlot : RunMemory → Slot → Type 0
KnowsSlot memory Dead = ⊤
KnowsSlot memory (Live prov) = HasProv memory prov
KnowsSlot memory Empty = ⊤
KnowsSlot memory (Holds value) = Knows memory value

abbrev pub KnowsSlots : RunMemory → List Slot → Type 0
KnowsSlots memory locals = AllByRecursion (KnowsSlot memory) locals

-- the memory is sound, and the pointers of all locals are known
pub record IsSoundState (state : State) : Type 0 where
  pub memory : IsSound state.memory
  pub locals : KnowsSlots state.memory state.frame.locals
