-- The value at a place after a change of a range, for callers of `set` and `map_range`.
use Rattle.std.proofs.Common.{◌≡◌, ℕ, zero, suc, ◌+◌, ◌-◌, ◌<◌, ◌≤◌, List, [], ◌∷◌, ◌++◌, length, map, take, drop, replicate, Some, refl, ap, sym, ◌∙◌, arith}
use Rattle.std.specs.List.{slice_range, slice_get, splice}
use Rattle.std.specs.Option.{option_map}
use Rattle.std.proofs.lemmas.List.{length-take-le, length-drop, length-replicate, length-map}

module _ {V : Type 0} where
  slice_get-append_left : (xs ys : List V) (k : ℕ) → k < length xs → slice_get (xs ++ ys) k ≡ slice_get xs k
  slice_get-append_left [] ys k within = absurd (omega arith)
  slice_get-append_left (x ∷ xs) ys zero within = refl
  slice_get-append_left (x ∷ xs) ys (suc k) within = slice_get-append_left xs ys k (omega arith)

  slice_get-append_right : (xs ys : List V) (n k : ℕ) → length xs ≡ n → n ≤ k → slice_get (xs ++ ys) k ≡ slice_get ys (k - n)
  slice_get-append_right [] ys n k long past = let e : k ≡ k - n = omega arith in ap (slice_get ys) e
  slice_get-append_right (x ∷ xs) ys n zero long past = absurd (omega arith)
  slice_get-append_right (x ∷ xs) ys n (suc k) long past =
      let e : k - (n - 1) ≡ suc k - n = omega arith in
      slice_get-append_right xs ys (n - 1) k (omega arith) (omega arith) ∙ ap (slice_get ys) e

  slice_get-take : (xs : List V) (n k : ℕ) → k < n → slice_get (take n xs) k ≡ slice_get xs k
  slice_get-take xs zero k below = absurd (omega arith)
  slice_get-take [] (suc n) k below = refl
  slice_get-take (x ∷ xs) (suc n) zero below = refl
  slice_get-take (x ∷ xs) (suc n) (suc k) below = slice_get-take xs n k (omega arith)

  slice_get-drop : (xs : List V) (n k : ℕ) → slice_get (drop n xs) k ≡ slice_get xs (n + k)
  slice_get-drop xs zero k = let e : k ≡ 0 + k = omega arith in ap (slice_get xs) e
  slice_get-drop [] (suc n) k = refl
  slice_get-drop (x ∷ xs) (suc n) k = let e : suc n + k ≡ suc (n + k) = omega arith in slice_get-drop xs n k ∙ ap (slice_get (x ∷ xs)) (sym e)

  slice_get-replicate : (v : V) (n k : ℕ) → k < n → slice_get (replicate n v) k ≡ Some v
  slice_get-replicate v zero k below = absurd (omega arith)
  slice_get-replicate v (suc n) zero below = refl
  slice_get-replicate v (suc n) (suc k) below = slice_get-replicate v n k (omega arith)

  slice_get-map : (g : V → V) (xs : List V) (k : ℕ) → slice_get (map g xs) k ≡ option_map g (slice_get xs k)
  slice_get-map g [] k = refl
  slice_get-map g (x ∷ xs) zero = refl
  slice_get-map g (x ∷ xs) (suc k) = slice_get-map g xs k

  -- before the range
  pub slice_get-splice_before : (xs ys : List V) (lo hi k : ℕ) → k < lo → lo ≤ length xs → slice_get (splice xs lo hi ys) k ≡ slice_get xs k
  slice_get-splice_before xs ys lo hi k below within =
      slice_get-append_left (take lo xs) (ys ++ drop hi xs) k (omega (arith, length-take-le lo xs within)) ∙ slice_get-take xs lo k below

  -- in the range
  pub slice_get-splice_in : (xs ys : List V) (lo hi k : ℕ) → lo ≤ k → k < hi → hi ≤ length xs → length ys ≡ hi - lo → slice_get (splice xs lo hi ys) k ≡ slice_get ys (k - lo)
  slice_get-splice_in xs ys lo hi k above below within long =
      slice_get-append_right (take lo xs) (ys ++ drop hi xs) lo k (length-take-le lo xs (omega arith)) above
      ∙ slice_get-append_left ys (drop hi xs) (k - lo) (omega arith)

  -- behind the range
  pub slice_get-splice_behind : (xs ys : List V) (lo hi k : ℕ) → lo ≤ hi → hi ≤ k → hi ≤ length xs → length ys ≡ hi - lo → slice_get (splice xs lo hi ys) k ≡ slice_get xs k
  slice_get-splice_behind xs ys lo hi k order above within long =
      let at : hi + (k - lo - (hi - lo)) ≡ k = omega arith in
      slice_get-append_right (take lo xs) (ys ++ drop hi xs) lo k (length-take-le lo xs (omega arith)) (omega arith)
      ∙ slice_get-append_right ys (drop hi xs) (hi - lo) (k - lo) long (omega arith)
      ∙ slice_get-drop xs hi (k - lo - (hi - lo))
      ∙ ap (slice_get xs) at

  -- what `set` leaves at a place of its range
  pub slice_get-set : (xs : List V) (v : V) (lo hi k : ℕ) → lo ≤ k → k < hi → hi ≤ length xs → slice_get (splice xs lo hi (replicate (hi - lo) v)) k ≡ Some v
  slice_get-set xs v lo hi k above below within =
      slice_get-splice_in xs (replicate (hi - lo) v) lo hi k above below within (length-replicate (hi - lo) v)
      ∙ slice_get-replicate v (hi - lo) (k - lo) (omega arith)

  -- what `map_range` leaves at a place of its range
  pub slice_get-mapped : (xs : List V) (g : V → V) (lo hi k : ℕ) → lo ≤ k → k < hi → hi ≤ length xs → slice_get (splice xs lo hi (map g (slice_range xs lo hi))) k ≡ option_map g (slice_get xs k)
  slice_get-mapped xs g lo hi k above below within =
      let part = slice_range xs lo hi in
      let many : length part ≡ hi - lo = length-take-le (hi - lo) (drop lo xs) (omega (arith, length-drop lo xs)) in
      let at : lo + (k - lo) ≡ k = omega arith in
      slice_get-splice_in xs (map g part) lo hi k above below within (length-map part g ∙ many)
      ∙ slice_get-map g part (k - lo)
      ∙ ap (option_map g) (slice_get-take (drop lo xs) (hi - lo) (k - lo) (omega arith) ∙ slice_get-drop xs lo (k - lo) ∙ ap (slice_get xs) at)
