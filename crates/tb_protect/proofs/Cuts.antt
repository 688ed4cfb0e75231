-- Frames as the cuts of one list of provenances.
use Rattle.std.specs.Prelude.{◌≡◌, ℕ, ◌≤◌, Bool, true, false, cond, ◌||◌, List, [], ◌∷◌, ◌++◌, length, take, drop, map, Option, Some}
use Rattle.std.specs.List.{list_any}
use Rattle.std.specs.Option.{unwrap_or}
use Rattle.std.proofs.lemmas.Bool.{or_left, or_right}
use Rattle.std.proofs.Common.{refl, sym, ◌∙◌, ap, subst, arith}
use Rattle.std.proofs.lemmas.List.{length-take, map-append, take-append-le, drop-append-le}
use Rattle.tb_perm.specs.declared.tag.Prov.{Prov}
use Rattle.tb_perm.specs.declared.perm.Guard.{Guard}
use Rattle.tb_perm.specs.declared.perm.Guard.TheVariants.{Free}
use Rattle.tb_protect.specs.Frames.{Guarded, is_prov, is_in, guard_in, kind_of, provs_of, with_guarded}
use Rattle.tb_protect.specs.Kept.{Guards, key_of, guard_by, guarded_by, cut_at, ArePlaces}
use Rattle.tb_protect.proofs.Provs.{is_prov-same, is_prov-refl, list_any-parts, list_any-take, list_any-drop}

-- a frame's own list
pub provs_of-guarded : (f : Guards) (xs : List Prov) → provs_of (map (guarded_by f) xs) ≡ xs
provs_of-guarded f [] = refl
provs_of-guarded f (x ∷ xs) = ap (λ (ys : List Prov). x ∷ ys) (provs_of-guarded f xs)

pub is_in-guarded : (f : Guards) (asked : Prov) (xs : List Prov) → is_in asked (map (guarded_by f) xs) ≡ list_any (is_prov asked) xs
is_in-guarded f asked [] = refl
is_in-guarded f asked (x ∷ xs) = ap (λ (b : Bool). is_prov asked x || b) (is_in-guarded f asked xs)

pub guard_in-guarded : (f : Guards) (xs : List Prov) (asked : Prov) (other : Guard) → guard_in (map (guarded_by f) xs) asked other ≡ cond (list_any (is_prov asked) xs) (guard_by f asked) other
guard_in-guarded f [] asked other = refl
guard_in-guarded f (x ∷ xs) asked other = by_case (guard_in-guarded f xs asked other) (is_prov asked x) refl
  where
    by_case : guard_in (map (guarded_by f) xs) asked other ≡ cond (list_any (is_prov asked) xs) (guard_by f asked) other → (b : Bool) → is_prov asked x ≡ b → cond b (guard_by f x) (guard_in (map (guarded_by f) xs) asked other) ≡ cond (b || list_any (is_prov asked) xs) (guard_by f asked) other
    by_case later true same = ap (guard_by f) (is_prov-same asked x same)
    by_case later false differs = later

-- how the frames guard a provenance, and how the guards do
pub kind_of-cut : (f : Guards) (starts : List ℕ) (ps : List Prov) (asked : Prov) → ArePlaces starts (length ps) → kind_of (cut_at f starts ps) asked ≡ cond (list_any (is_prov asked) ps) (guard_by f asked) Free
kind_of-cut f [] [] asked places = refl
kind_of-cut f [] (p ∷ ps) asked places = absurd (omega arith)
kind_of-cut f (start ∷ starts) ps asked places =
    let front : ArePlaces starts (length (take start ps)) = subst (ArePlaces starts) (omega (arith, length-take start ps, places.0)) places.1 in
    guard_in-guarded f (drop start ps) asked (kind_of (cut_at f starts (take start ps)) asked)
    ∙ ap (λ (g : Guard). cond (list_any (is_prov asked) (drop start ps)) (guard_by f asked) g) (kind_of-cut f starts (take start ps) asked front)
    ∙ joined (list_any (is_prov asked) (drop start ps)) (list_any (is_prov asked) (take start ps)) (guard_by f asked)
    ∙ ap (λ (b : Bool). cond b (guard_by f asked) Free) (sym (list_any-parts asked start ps))
  where
    joined : (b a : Bool) (g : Guard) → cond b g (cond a g Free) ≡ cond (a || b) g Free
    joined true true g = refl
    joined true false g = refl
    joined false true g = refl
    joined false false g = refl

-- guards that agree on the provenances give the same frames
abbrev pub Agree : Guards → Guards → List Prov → Type 0
Agree f h ps = (prov : Prov) → list_any (is_prov prov) ps ≡ true → h (key_of prov) ≡ f (key_of prov)

pub map-agree : (f h : Guards) (xs : List Prov) → Agree f h xs → map (guarded_by h) xs ≡ map (guarded_by f) xs
map-agree f h [] agree = refl
map-agree f h (x ∷ xs) agree =
    let here : h (key_of x) ≡ f (key_of x) = agree x (or_left _ _ (is_prov-refl x)) in
    ap (λ (o : Option Guard). record { prov = x; guard = unwrap_or o Free } ∷ map (guarded_by h) xs) here
    ∙ ap (λ (rest : List Guarded). guarded_by f x ∷ rest) (map-agree f h xs (λ prov is. agree prov (or_right _ _ is)))

pub cut_at-agree : (f h : Guards) (starts : List ℕ) (ps : List Prov) → Agree f h ps → cut_at h starts ps ≡ cut_at f starts ps
cut_at-agree f h [] ps agree = refl
cut_at-agree f h (start ∷ starts) ps agree =
    ap (λ (frame : List Guarded). frame ∷ cut_at h starts (take start ps)) (map-agree f h (drop start ps) (λ prov is. agree prov (list_any-drop prov start ps is)))
    ∙ ap (λ (rest : List (List Guarded)). map (guarded_by f) (drop start ps) ∷ rest) (cut_at-agree f h starts (take start ps) (λ prov is. agree prov (list_any-take prov start ps is)))

-- a further provenance comes to the top frame
pub cut_at-push : (f h : Guards) (start : ℕ) (starts : List ℕ) (ps : List Prov) (prov : Prov) (guard : Guard) → start ≤ length ps → Agree f h ps → h (key_of prov) ≡ Some guard → cut_at h (start ∷ starts) (ps ++ prov ∷ []) ≡ with_guarded prov guard (cut_at f (start ∷ starts) ps)
cut_at-push f h start starts ps prov guard within agree new =
    ap (λ (xs : List Prov). map (guarded_by h) xs ∷ cut_at h starts (take start (ps ++ prov ∷ []))) (drop-append-le start ps (prov ∷ []) within)
    ∙ ap (λ (xs : List Prov). map (guarded_by h) (drop start ps ++ prov ∷ []) ∷ cut_at h starts xs) (take-append-le start ps (prov ∷ []) within)
    ∙ ap (λ (frame : List Guarded). frame ∷ cut_at h starts (take start ps)) top
    ∙ ap (λ (rest : List (List Guarded)). (map (guarded_by f) (drop start ps) ++ record { prov = prov; guard = guard } ∷ []) ∷ rest) (cut_at-agree f h starts (take start ps) (λ p is. agree p (list_any-take p start ps is)))
  where
    top : map (guarded_by h) (drop start ps ++ prov ∷ []) ≡ map (guarded_by f) (drop start ps) ++ record { prov = prov; guard = guard } ∷ []
    top =
        map-append (guarded_by h) (drop start ps) (prov ∷ [])
        ∙ ap (λ (xs : List Guarded). xs ++ guarded_by h prov ∷ []) (map-agree f h (drop start ps) (λ p is. agree p (list_any-drop p start ps is)))
        ∙ ap (λ (o : Option Guard). map (guarded_by f) (drop start ps) ++ record { prov = prov; guard = unwrap_or o Free } ∷ []) new
