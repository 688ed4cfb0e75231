-- Parts one after another.
use Rattle.std.proofs.Common.{◌≡◌, refl, subst, arith, ℕ, zero, suc, ◌+◌, ◌&&◌, List, [], ◌∷◌, drop, slice_get}
use Rattle.tb_types.specs.declared.shape.Ty.{Ty}
use Rattle.tb_types.specs.Table.{TypeTable}
use Rattle.tb_rules.specs.Allowed.{is_part_if, are_parts, is_copied_if, are_copied}

to_next : (at : ℕ) → suc at ≡ at + 1
to_next at = omega arith

parts_from : (types : TypeTable) (list : List Ty) (at : ℕ) → are_parts types (drop at list) ≡ (is_part_if types (slice_get list at) && are_parts types (drop (suc at) list))
parts_from types [] zero = refl
parts_from types [] (suc at) = refl
parts_from types (part ∷ parts) zero = refl
parts_from types (part ∷ parts) (suc at) = parts_from types parts at

pub parts_step : (types : TypeTable) (list : List Ty) (at : ℕ) → are_parts types (drop at list) ≡ (is_part_if types (slice_get list at) && are_parts types (drop (at + 1) list))
parts_step types list at = subst (λ n. are_parts types (drop at list) ≡ (is_part_if types (slice_get list at) && are_parts types (drop n list))) (to_next at) (parts_from types list at)

copied_from : (types : TypeTable) (list : List Ty) (at : ℕ) → are_copied types (drop at list) ≡ (is_copied_if types (slice_get list at) && are_copied types (drop (suc at) list))
copied_from types [] zero = refl
copied_from types [] (suc at) = refl
copied_from types (part ∷ parts) zero = refl
copied_from types (part ∷ parts) (suc at) = copied_from types parts at

pub copied_step : (types : TypeTable) (list : List Ty) (at : ℕ) → are_copied types (drop at list) ≡ (is_copied_if types (slice_get list at) && are_copied types (drop (at + 1) list))
copied_step types list at = subst (λ n. are_copied types (drop at list) ≡ (is_copied_if types (slice_get list at) && are_copied types (drop n list))) (to_next at) (copied_from types list at)
