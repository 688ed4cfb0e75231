-- What is true of blocks after an allocation is made, written to, or dead.
use Rattle.std.proofs.Common.{◌≡◌, ◌≢◌, refl, sym, ◌∙◌, ap, inl, inr, ◌⊎◌, ℕ, zero, suc, ◌+◌, ◌<◌, ◌≤◌, Bool, true, false, cond, List, [], ◌∷◌, ◌++◌, length, map, Option, Some, None, slice_get, option_map, arith}
use Rattle.std.proofs.lemmas.List.{length-append, length-replicate}
use Rattle.tb_bytes.specs.declared.byte_val.ByteVal.{ByteVal}
use Rattle.tb_bytes.specs.declared.byte_val.ByteVal.TheVariants.{Uninit}
use Rattle.tb_alloc.specs.declared.allocation.Allocation.{Allocation}
use Rattle.tb_alloc.specs.Allocations.{allocation_at, dead}
use Rattle.tb_alloc.specs.Check.{if_live}
use Rattle.tb_store.specs.Store.{with_nth, bytes_at, live_at, uninit, kept_bytes, AreBlocks}
use Rattle.tb_store.proofs.Places.{same_or_not, nth_same, nth_other, length_with, nth_before, nth_end}

got : {A : Type 0} (xs : List A) (i : ℕ) (x : A) → slice_get xs i ≡ Some x → i < length xs
got [] i x e = cc
got (y ∷ xs) zero x e = omega arith
got (y ∷ xs) (suc i) x e = let less : i < length xs = got xs i x e in omega arith

-- a number that an allocation has is one of those given
pub made_within : (table : List Allocation) (number : ℕ) (a : Allocation) → allocation_at table number ≡ Some a → (1 ≤ number) × (number ≤ length table)
made_within table zero a e = cc
made_within table (suc i) a e = let less : i < length table = got table i a e in ((let low : 1 ≤ suc i = omega arith in low), (let high : suc i ≤ length table = omega arith in high))

pub live_made : (found : Option Allocation) (a : Allocation) → if_live found ≡ Some a → found ≡ Some a
live_made None a e = cc
live_made (Some b) a e = by_live b.live e
  where
    by_live : (live : Bool) → cond live (Some b) None ≡ Some a → Some b ≡ Some a
    by_live true f = f
    by_live false f = cc

never_dead : (found : Option Allocation) (a : Allocation) → if_live (option_map dead found) ≡ Some a → ⊥
never_dead None a e = cc
never_dead (Some b) a e = cc

-- one is dead and has no bytes
pub blocks_gone : (old new : List Allocation) (contents : List (List ByteVal)) (number : ℕ) → AreBlocks old contents → length new ≡ length old
    → allocation_at new number ≡ option_map dead (allocation_at old number) → ((k : ℕ) → k ≢ number → allocation_at new k ≡ allocation_at old k) → AreBlocks new (with_nth contents number [])
blocks_gone old new contents number blocks count is_dead others = record {
  count = length_with contents number [] ∙ blocks.count ∙ sym count;
  sizes = λ k a e. by_number k a e (same_or_not k number);
}
  where
    by_number : (k : ℕ) (a : Allocation) → live_at new k ≡ Some a → (k ≡ number) ⊎ (k ≢ number) → length (bytes_at (with_nth contents number []) k) ≡ a.size
    by_number k a e (inl same) = absurd (never_dead (allocation_at old number) a (ap if_live (sym is_dead) ∙ ap (live_at new) (sym same) ∙ e))
    by_number k a e (inr apart) = ap length (nth_other contents number k [] [] apart) ∙ blocks.sizes k a (ap if_live (sym (others k apart)) ∙ e)

-- one is written to, and has as many bytes
pub blocks_written : (table : List Allocation) (contents : List (List ByteVal)) (number : ℕ) (bytes : List ByteVal) → AreBlocks table contents → length bytes ≡ length (bytes_at contents number) → AreBlocks table (with_nth contents number bytes)
blocks_written table contents number bytes blocks same_size = record {
  count = length_with contents number bytes ∙ blocks.count;
  sizes = λ k a e. by_number k a e (same_or_not k number);
}
  where
    by_number : (k : ℕ) (a : Allocation) → live_at table k ≡ Some a → (k ≡ number) ⊎ (k ≢ number) → length (bytes_at (with_nth contents number bytes) k) ≡ a.size
    by_number k a e (inl same) =
        let within : (1 ≤ k) × (k ≤ length table) = made_within table k a (live_made (allocation_at table k) a e) in
        let low : 1 ≤ number = (let l : 1 ≤ k = within.0 in omega arith) in
        let high : number ≤ length contents = (let l : k ≤ length table = within.1 in let f : length contents ≡ length table = blocks.count in omega arith) in
        ap (λ n. length (bytes_at (with_nth contents number bytes) n)) same ∙ ap length (nth_same contents number bytes [] low high) ∙ same_size
        ∙ ap (λ n. length (bytes_at contents n)) (sym same) ∙ blocks.sizes k a e
    by_number k a e (inr apart) = ap length (nth_other contents number k bytes [] apart) ∙ blocks.sizes k a e

-- one more is made
pub blocks_made : (old new : List Allocation) (contents : List (List ByteVal)) (number size : ℕ) (made : Allocation) → AreBlocks old contents → length new ≡ length old + 1 → number ≡ length old + 1 → made.size ≡ size
    → allocation_at new number ≡ Some made → ((k : ℕ) → k ≢ number → allocation_at new k ≡ allocation_at old k) → AreBlocks new (contents ++ uninit size ∷ [])
blocks_made old new contents number size made blocks count is_next sized found others = record {
  count = (let e : length (contents ++ uninit size ∷ []) ≡ length contents + 1 = length-append contents (uninit size ∷ []) in let f : length contents ≡ length old = blocks.count in (let g : length (contents ++ uninit size ∷ []) ≡ length new = omega arith in g));
  sizes = λ k a e. by_number k a e (same_or_not k number);
}
  where
    by_number : (k : ℕ) (a : Allocation) → live_at new k ≡ Some a → (k ≡ number) ⊎ (k ≢ number) → length (bytes_at (contents ++ uninit size ∷ []) k) ≡ a.size
    by_number k a e (inl same) =
        let is_made : Some made ≡ Some a = sym found ∙ ap (allocation_at new) (sym same) ∙ live_made (allocation_at new k) a e in
        let same_one : made ≡ a = cc in
        let end : k ≡ length contents + 1 = (let f : length contents ≡ length old = blocks.count in omega arith) in
        ap length (nth_end contents k (uninit size) [] end) ∙ length-replicate size Uninit ∙ sym sized ∙ ap (λ (b : Allocation). b.size) same_one
    by_number k a e (inr apart) =
        let old_live : live_at old k ≡ Some a = ap if_live (sym (others k apart)) ∙ e in
        let within : (1 ≤ k) × (k ≤ length old) = made_within old k a (live_made (allocation_at old k) a old_live) in
        let before : k ≤ length contents = (let l : k ≤ length old = within.1 in let f : length contents ≡ length old = blocks.count in omega arith) in
        ap length (nth_before contents k (uninit size) [] before) ∙ blocks.sizes k a old_live

pub map_end : (xs : List (Option (List ByteVal))) (bytes : List ByteVal) → map kept_bytes (xs ++ Some bytes ∷ []) ≡ map kept_bytes xs ++ bytes ∷ []
map_end [] bytes = refl
map_end (x ∷ xs) bytes = ap (λ (rest : List (List ByteVal)). kept_bytes x ∷ rest) (map_end xs bytes)

pub length_end : {A : Type 0} (old new : List A) (x : A) → new ≡ old ++ x ∷ [] → length new ≡ length old + 1
length_end old new x e = ap length e ∙ length-append old (x ∷ [])
