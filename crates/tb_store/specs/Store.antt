-- Allocations with their bytes, in the order of their making. Numbers count from 1, so the one with the number n stands
-- at place n - 1.
use Rattle.std.specs.Prelude.{◌≡◌, ℕ, zero, suc, List, [], length, replicate, Option, Some, None, slice_index_or, slice_set}
use Rattle.tb_bytes.specs.declared.byte_val.ByteVal.{ByteVal}
use Rattle.tb_bytes.specs.declared.byte_val.ByteVal.TheVariants.{Uninit}
use Rattle.tb_alloc.specs.declared.allocation.Allocation.{Allocation}
use Rattle.tb_alloc.specs.Allocations.{allocation_at}
use Rattle.tb_alloc.specs.Check.{if_live}

-- the allocations, and the bytes of each; one that is dead has none
pub record Blocks : Type 0 where
  pub table : List Allocation
  pub contents : List (List ByteVal)

-- before the first allocation
abbrev pub no_blocks : Blocks
no_blocks = record { table = []; contents = [] }

-- what a list has for the allocation with this number
abbrev pub nth : {A : Type 0} → List A → ℕ → A → A
nth list zero other = other
nth list (suc place) other = slice_index_or list place other

-- the list with another in its place
abbrev pub with_nth : {A : Type 0} → List A → ℕ → A → List A
with_nth list zero new = list
with_nth list (suc place) new = slice_set list place new

-- the bytes of an allocation
abbrev pub bytes_at : List (List ByteVal) → ℕ → List ByteVal
bytes_at contents number = nth contents number []

-- the allocation with this number, if it is live
abbrev pub live_at : List Allocation → ℕ → Option Allocation
live_at table number = if_live (allocation_at table number)

-- so many bytes without a value
abbrev pub uninit : ℕ → List ByteVal
uninit size = replicate size Uninit

-- bytes that may be kept
abbrev pub kept_bytes : Option (List ByteVal) → List ByteVal
kept_bytes None = []
kept_bytes (Some bytes) = bytes

-- each live allocation has as many bytes as its size says
pub record AreBlocks (table : List Allocation) (contents : List (List ByteVal)) : Type 0 where
  pub count : length contents ≡ length table
  pub sizes : (number : ℕ) (a : Allocation) → live_at table number ≡ Some a → length (bytes_at contents number) ≡ a.size
