-- How many locals there are.
use Rattle.std.proofs.Common.{◌≡◌, ℕ, ◌<◌, ◌≤◌, leb, Some, None, refl, arith, inl, inr}
use Rattle.std.proofs.lemmas.Bool.{cases_Bool, leb-true, leb-false, le-leb, lt-leb}
use Rattle.tb_small.specs.declared.error.SmallError.{SmallError}
use Rattle.tb_small.specs.declared.error.SmallError.TheVariants as errors
use Rattle.tb_small.specs.Reading.{Fails, within}

-- where a part is too many, the whole is
pub within-fails : (e : SmallError) (part whole : ℕ) → part ≤ whole → Fails e (within part) → Fails e (within whole)
within-fails errors.Memory part whole below h = tt
within-fails errors.NotBuilt part whole below h = elim (cases_Bool (leb part 4096)) [
  | inl few ↦ let e : Some part ≡ None = rw few at h in absurd cc
  | inr many ↦ let over : 4096 < part = leb-false part 4096 many in rw (lt-leb whole 4096 (omega arith)) refl
]

pub within-some : (part found : ℕ) → within part ≡ Some found → (part ≡ found) × (part ≤ 4096)
within-some part found h = elim (cases_Bool (leb part 4096)) [
  | inl few ↦ let e : Some part ≡ Some found = rw few at h in (cc, leb-true part 4096 few)
  | inr many ↦ let e : None ≡ Some found = rw many at h in absurd cc
]

pub within-few : (part : ℕ) → part ≤ 4096 → within part ≡ Some part
within-few part few = rw (le-leb part 4096 few) refl

pub within-none : (part : ℕ) → within part ≡ None → 4096 < part
within-none part h = elim (cases_Bool (leb part 4096)) [
  | inl few ↦ let e : Some part ≡ None = rw few at h in absurd cc
  | inr many ↦ leb-false part 4096 many
]
