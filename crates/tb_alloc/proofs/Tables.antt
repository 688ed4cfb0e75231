-- What is true of the fields of a table stays true.
use Rattle.std.specs.Prelude.{◌≡◌, ℕ, ◌+◌, ◌-◌, ◌<◌, ◌≤◌, ◌^◌, Bool, true, not, ◌==◌, filter, length, map, List, [], ◌∷◌, ◌++◌}
use Rattle.std.specs.Int.{next_multiple_of}
use Rattle.std.proofs.Common.{sym, ◌∙◌, ap, subst, arith}
use Rattle.std.proofs.lemmas.List.Sums.{sum_by_push}
use Rattle.tb_perm.specs.declared.tag.AllocId.{AllocId}
use Rattle.tb_alloc.specs.declared.allocation.Allocation.{Allocation}
use Rattle.tb_alloc.specs.Allocations.{end_of, next_candidate, live_size, live_bytes_of, live_limit, live_numbers, killed}
use Rattle.tb_alloc.specs.Kept.{number_of, ArePlaced, IsTable}
use Rattle.tb_alloc.proofs.LiveNumbers.{numbers-push, numbers-killed}
use Rattle.tb_alloc.proofs.Places.{ArePlaced-push, candidate_after-push, ArePlaced-killed, candidate_after-killed}

-- when an allocation is made
pub IsTable-push : (xs ys : List Allocation) (a : Allocation) (candidate next live now : ℕ) (ids new : List AllocId) (id : AllocId) → ys ≡ xs ++ a ∷ [] → new ≡ ids ++ id ∷ [] → a.live ≡ true → id.0 ≡ length xs + 1 → IsTable xs candidate live ids → 0 < a.align → a.base ≡ next_multiple_of candidate a.align → next ≡ end_of a + 16 → next < 2 ^ 64 → now ≡ live + live_size a → now ≤ live_limit → IsTable ys next now new
IsTable-push xs ys a candidate next live now ids new id is also alive numbered table some base past fits sum limit =
    subst (λ ns. IsTable ys next now ns) (sym also) (subst (λ zs. IsTable zs next now (ids ++ id ∷ [])) (sym is) (record {
      placed = ArePlaced-push 65536 xs a table.placed some (base ∙ ap (λ from. next_multiple_of from a.align) table.is_candidate);
      is_candidate = past ∙ sym (candidate_after-push 65536 xs a);
      fits = fits;
      is_live = sum ∙ ap (λ n. n + live_size a) table.is_live ∙ sym (sum_by_push live_size xs a);
      limit = limit;
      numbers = numbers-push xs a ids id table.numbers alive numbered;
    }))

-- when one dies
pub IsTable-killed : (xs ys : List Allocation) (id candidate live freed : ℕ) (ids new : List AllocId) → ys ≡ killed xs id → new ≡ filter (λ (other : AllocId). not (number_of other == id)) ids → IsTable xs candidate live ids → live_bytes_of ys + freed ≡ live_bytes_of xs → IsTable ys candidate (live - freed) new
IsTable-killed xs ys id candidate live freed ids new is also table sum =
    record {
      placed = subst (ArePlaced 65536) (sym is) (ArePlaced-killed 65536 xs id table.placed);
      is_candidate = table.is_candidate ∙ sym (candidate_after-killed 65536 xs id) ∙ ap next_candidate (sym is);
      fits = table.fits;
      is_live = let before : live ≡ live_bytes_of xs = table.is_live in omega arith;
      limit = let before : live ≤ live_limit = table.limit in omega arith;
      numbers = ap (map number_of) also ∙ numbers-killed xs id ids table.numbers ∙ ap live_numbers (sym is);
    }
