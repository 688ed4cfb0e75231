-- A list of which a part is replaced by one as long.
use Rattle.std.proofs.Common.{◌≡◌, ℕ, suc, ◌+◌, ◌-◌, ◌<◌, ◌≤◌, List, [], ◌∷◌, ◌++◌, length, take, drop, set, get_or, refl, ap, sym, ◌∙◌, arith, append_assoc, length-append}
use Rattle.std.specs.List.{slice_range, splice}
use Rattle.std.proofs.lemmas.List.{length-take-le, length-drop, take-take, drop-drop, take_at, drop_at, set_at, take-append-drop}
use Rattle.std.proofs.Math.Seq.{drop-cons, take-add}
use Rattle.tb_bytes.specs.Bytes.{OnlyChanges}

module _ {A : Type 0} where
  length_front : (xs ys : List A) (lo hi : ℕ) → lo ≤ hi → hi ≤ length xs → length ys ≡ hi - lo → length (take lo xs ++ ys) ≡ hi
  length_front xs ys lo hi order within long = omega (arith, length-append (take lo xs) ys, length-take-le lo xs (omega arith))

  pub length-splice : (xs ys : List A) (lo hi : ℕ) → lo ≤ hi → hi ≤ length xs → length ys ≡ hi - lo → length (splice xs lo hi ys) ≡ length xs
  length-splice xs ys lo hi order within long =
      omega (arith, length-append (take lo xs) (ys ++ drop hi xs), length-append ys (drop hi xs), length-drop hi xs, length-take-le lo xs (omega arith))

  take-splice : (xs ys : List A) (lo hi : ℕ) → lo ≤ hi → hi ≤ length xs → length ys ≡ hi - lo → take hi (splice xs lo hi ys) ≡ take lo xs ++ ys
  take-splice xs ys lo hi order within long =
      ap (take hi) (sym (append_assoc (take lo xs) ys (drop hi xs)))
      ∙ take_at (take lo xs ++ ys) (drop hi xs) hi (length_front xs ys lo hi order within long)

  drop-splice : (xs ys : List A) (lo hi : ℕ) → lo ≤ hi → hi ≤ length xs → length ys ≡ hi - lo → drop hi (splice xs lo hi ys) ≡ drop hi xs
  drop-splice xs ys lo hi order within long =
      ap (drop hi) (sym (append_assoc (take lo xs) ys (drop hi xs)))
      ∙ drop_at (take lo xs ++ ys) (drop hi xs) hi (length_front xs ys lo hi order within long)

  pub only_spliced : (xs ys : List A) (lo hi : ℕ) → lo ≤ hi → hi ≤ length xs → length ys ≡ hi - lo → OnlyChanges lo hi xs (splice xs lo hi ys)
  only_spliced xs ys lo hi order within long = record {
    before = take_at (take lo xs) (ys ++ drop hi xs) lo (length-take-le lo xs (omega arith));
    behind = drop-splice xs ys lo hi order within long;
    size = length-splice xs ys lo hi order within long;
  }

  pub same_only : (lo hi : ℕ) (xs : List A) → OnlyChanges lo hi xs xs
  same_only lo hi xs = record { before = refl; behind = refl; size = refl }

  pub wider : (lo hi low high : ℕ) (xs ys : List A) → low ≤ lo → hi ≤ high → OnlyChanges lo hi xs ys → OnlyChanges low high xs ys
  wider lo hi low high xs ys less more only =
      let there : hi + (high - hi) ≡ high = omega arith in
      record {
        before = sym (take-take low lo ys less) ∙ ap (take low) only.before ∙ take-take low lo xs less;
        behind =
            ap (λ n. drop n ys) (sym there) ∙ sym (drop-drop (high - hi) hi ys) ∙ ap (drop (high - hi)) only.behind ∙ drop-drop (high - hi) hi xs ∙ ap (λ n. drop n xs) there;
        size = only.size;
      }

  pub then_only : (lo hi : ℕ) (xs ys zs : List A) → OnlyChanges lo hi xs ys → OnlyChanges lo hi ys zs → OnlyChanges lo hi xs zs
  then_only lo hi xs ys zs first second = record {
    before = second.before ∙ first.before;
    behind = second.behind ∙ first.behind;
    size = second.size ∙ first.size;
  }

  -- one part after another
  pub splice-splice : (xs ys zs : List A) (lo mid hi : ℕ) → lo ≤ mid → mid ≤ hi → hi ≤ length xs → length ys ≡ mid - lo → splice (splice xs lo mid ys) mid hi zs ≡ splice xs lo hi (ys ++ zs)
  splice-splice xs ys zs lo mid hi first second within long =
      let inner : mid ≤ length xs = omega arith in
      let low : mid ≤ mid = omega arith in
      let behind = (wider lo mid lo hi xs (splice xs lo mid ys) (omega arith) second (only_spliced xs ys lo mid first inner long)).behind in
      ap (λ front. front ++ (zs ++ drop hi (splice xs lo mid ys))) (take-splice xs ys lo mid first inner long)
      ∙ ap (λ back. (take lo xs ++ ys) ++ (zs ++ back)) behind
      ∙ append_assoc (take lo xs) ys (zs ++ drop hi xs)
      ∙ ap (λ rest. take lo xs ++ rest) (sym (append_assoc ys zs (drop hi xs)))

  -- the part that was there
  pub splice_same : (xs : List A) (lo hi : ℕ) → lo ≤ hi → splice xs lo hi (slice_range xs lo hi) ≡ xs
  splice_same xs lo hi order =
      let there : lo + (hi - lo) ≡ hi = omega arith in
      sym (append_assoc (take lo xs) (slice_range xs lo hi) (drop hi xs))
      ∙ ap (λ front. front ++ drop hi xs) (sym (take-add lo (hi - lo) xs) ∙ ap (λ n. take n xs) there)
      ∙ take-append-drop hi xs

  pub splice_none : (xs : List A) (lo : ℕ) → splice xs lo lo [] ≡ xs
  splice_none xs lo = take-append-drop lo xs

  -- one more item of a part
  pub set-splice : (xs ys : List A) (lo n at : ℕ) (y : A) → at ≡ lo + n → at < length xs → length ys ≡ n → set (splice xs lo at ys) at y ≡ splice xs lo (at + 1) (ys ++ y ∷ [])
  set-splice xs ys lo n at y is within long =
      let next : at + 1 ≡ suc at = omega arith in
      let front : length (take lo xs ++ ys) ≡ at = length_front xs ys lo at (omega arith) (omega arith) (omega arith) in
      ap (λ zs. set zs at y) (sym (append_assoc (take lo xs) ys (drop at xs)) ∙ ap (λ zs. (take lo xs ++ ys) ++ zs) (drop-cons xs at y within))
      ∙ set_at (take lo xs ++ ys) (get_or xs at y) (drop (suc at) xs) y at front
      ∙ append_assoc (take lo xs) ys (y ∷ drop (suc at) xs)
      ∙ ap (λ zs. take lo xs ++ zs) (sym (append_assoc ys (y ∷ []) (drop (suc at) xs)))
      ∙ ap (λ k. take lo xs ++ ((ys ++ y ∷ []) ++ drop k xs)) (sym next)

  -- a part that is replaced again
  pub splice_again : (lo hi : ℕ) (xs ys zs : List A) → OnlyChanges lo hi xs ys → splice ys lo hi zs ≡ splice xs lo hi zs
  splice_again lo hi xs ys zs only = ap (λ front. front ++ (zs ++ drop hi ys)) only.before ∙ ap (λ back. take lo xs ++ (zs ++ back)) only.behind
