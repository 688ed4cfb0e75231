-- What the runs say of the list of values.
use Rattle.std.proofs.Common.{◌≡◌, ℕ, zero, suc, ◌+◌, ◌-◌, ◌<◌, ◌≤◌, List, [], ◌∷◌, ◌++◌, length, map, take, drop, replicate, Some, None, refl, ap, sym, ◌∙◌, subst, arith, length-append, append_assoc}
use Rattle.std.specs.List.{AllZip, slice_range, slice_get, splice}
use Rattle.std.proofs.lemmas.List.{length-take-le, length-drop, take_all, drop_all, append-nil, take-append-drop}
use Rattle.std.proofs.Math.Seq.{take-add}
use Rattle.std.proofs.lemmas.Slice.Zip.{AllZip-long}
use Rattle.tb_ranges.specs.declared.run.Run.{Run}
use Rattle.tb_ranges.specs.Runs.{expanded, AreRuns, MapsRange}
use Rattle.tb_ranges.proofs.Places.{length-expanded}
use Rattle.tb_ranges.proofs.RunLaws.{StandsAt}

-- where a relation is a function, that function is mapped
pub AllZip-map : {T V : Type 0} (R : T → V → Type 0) (g : T → V) (xs : List T) (ys : List V) → ((x : T) (y : V) → R x y → y ≡ g x) → AllZip R xs ys → ys ≡ map g xs
AllZip-map R g [] [] by all = refl
AllZip-map R g [] (y ∷ ys) by all = absurd all
AllZip-map R g (x ∷ xs) [] by all = absurd all
AllZip-map R g (x ∷ xs) (y ∷ ys) by all = rw (by x y all.0, AllZip-map R g xs ys by all.1) refl

module _ {V : Type 0} where
  pub size_of : (size : ℕ) (runs : List (Run V)) → AreRuns size runs → length (expanded runs) ≡ size
  size_of size runs are = omega (arith, length-expanded None 0 size runs are)

  -- runs of a size are runs of as many places as they have values
  pub sized : (size : ℕ) (runs : List (Run V)) → AreRuns size runs → AreRuns (length (expanded runs)) runs
  sized size runs are = subst (λ n. AreRuns n runs) (sym (size_of size runs are)) are

  first_is : (n : ℕ) (v : V) (tail : List V) → 0 < n → slice_get (replicate n v ++ tail) 0 ≡ Some v
  first_is zero v tail some = absurd (omega arith)
  first_is (suc n) v tail some = refl

  slice_get-drop : (at : ℕ) (xs : List V) → slice_get (drop at xs) 0 ≡ slice_get xs at
  slice_get-drop zero xs = refl
  slice_get-drop (suc at) [] = refl
  slice_get-drop (suc at) (x ∷ xs) = slice_get-drop at xs

  -- the value at a place of a run
  pub value_at : (size k at : ℕ) (runs : List (Run V)) (run : Run V) → StandsAt size runs k run → run.lo ≤ at → at < run.hi → slice_get (expanded runs) at ≡ Some run.value
  value_at size k at runs run stands above below =
      sym (slice_get-drop at (expanded runs))
      ∙ ap (λ xs. slice_get xs 0) (stands.rest at above (omega arith))
      ∙ first_is (run.hi - at) run.value (expanded (drop (k + 1) runs)) (omega arith)

  length-slice_range : (xs : List V) (lo hi : ℕ) → hi ≤ length xs → length (slice_range xs lo hi) ≡ hi - lo
  length-slice_range xs lo hi within = omega (arith, length-take-le (hi - lo) (drop lo xs) (omega (arith, length-drop lo xs)))

  length-splice : (xs ys : List V) (lo hi : ℕ) → lo ≤ hi → hi ≤ length xs → length ys ≡ hi - lo → length (splice xs lo hi ys) ≡ length xs
  length-splice xs ys lo hi order within many =
      omega (arith, length-append (take lo xs) (ys ++ drop hi xs), length-append ys (drop hi xs), length-drop hi xs, length-take-le lo xs (omega arith))

  pub length_mapped : (R : V → V → Type 0) (lo hi : ℕ) (old new : List V) → lo ≤ hi → hi ≤ length old → MapsRange R lo hi old new → length new ≡ length old
  length_mapped R lo hi old new order within maps =
      let many : length maps.0 ≡ hi - lo = AllZip-long R (slice_range old lo hi) maps.0 maps.2 ∙ length-slice_range old lo hi within in
      ap length maps.1 ∙ length-splice old maps.0 lo hi order within many

  pub mapped_by : (R : V → V → Type 0) (lo hi : ℕ) (old new : List V) → MapsRange R lo hi old new → (g : V → V) → ((x y : V) → R x y → y ≡ g x) → new ≡ splice old lo hi (map g (slice_range old lo hi))
  mapped_by R lo hi old new maps g by = maps.1 ∙ ap (splice old lo hi) (AllZip-map R g (slice_range old lo hi) maps.0 by maps.2)

  map_same : (v : V) (xs : List V) → map (λ (x : V). v) xs ≡ replicate (length xs) v
  map_same v [] = refl
  map_same v (x ∷ xs) = ap (λ ys. v ∷ ys) (map_same v xs)

  -- one value for all
  pub splice_same : (v : V) (lo hi : ℕ) (old : List V) → hi ≤ length old → splice old lo hi (map (λ (x : V). v) (slice_range old lo hi)) ≡ splice old lo hi (replicate (hi - lo) v)
  splice_same v lo hi old within =
      ap (splice old lo hi) (map_same v (slice_range old lo hi) ∙ ap (λ n. replicate n v) (length-slice_range old lo hi within))

  slice_all : (size : ℕ) (xs : List V) → size ≡ length xs → slice_range xs 0 size ≡ xs
  slice_all size xs is = let n : size - 0 ≡ size = omega arith in ap (λ m. take m xs) n ∙ take_all size xs (omega arith)

  splice_all : (size : ℕ) (xs ys : List V) → size ≡ length xs → splice xs 0 size ys ≡ ys
  splice_all size xs ys is = ap (λ zs. ys ++ zs) (drop_all size xs (omega arith)) ∙ append-nil ys

  -- a map of all places
  pub mapped_all : (R : V → V → Type 0) (size : ℕ) (old new : List V) → size ≡ length old → MapsRange R 0 size old new → AllZip R old new
  mapped_all R size old new is maps =
      subst (AllZip R old) (sym (maps.1 ∙ splice_all size old maps.0 is)) (subst (λ xs. AllZip R xs maps.0) (slice_all size old is) maps.2)

  pub map_of_all : (size : ℕ) (old new : List V) (g : V → V) → size ≡ length old → new ≡ splice old 0 size (map g (slice_range old 0 size)) → new ≡ map g old
  map_of_all size old new g is e =
      e ∙ splice_all size old (map g (slice_range old 0 size)) is ∙ ap (map g) (slice_all size old is)

  -- the values that are there
  pub spliced_back : (lo hi : ℕ) (xs : List V) → lo ≤ hi → xs ≡ splice xs lo hi (slice_range xs lo hi)
  spliced_back lo hi xs order =
      let there : lo + (hi - lo) ≡ hi = omega arith in
      sym
      (sym (append_assoc (take lo xs) (slice_range xs lo hi) (drop hi xs))
      ∙ ap (λ front. front ++ drop hi xs) (sym (take-add lo (hi - lo) xs) ∙ ap (λ n. take n xs) there)
      ∙ take-append-drop hi xs)

  pub length-over : (lo hi : ℕ) (xs ys : List V) → hi ≤ length xs → hi ≡ lo + length ys → length (splice xs lo hi ys) ≡ length xs
  length-over lo hi xs ys within long = length-splice xs ys lo hi (omega arith) within (omega arith)
