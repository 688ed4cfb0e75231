-- Provenances in lists: which are the same, and which stand in a part of a list.
use Rattle.std.specs.Prelude.{◌≡◌, ℕ, zero, suc, Bool, true, false, ◌||◌, List, [], ◌∷◌, ◌++◌, take, drop}
use Rattle.std.specs.List.{list_any}
use Rattle.std.proofs.Common.{refl, sym, ◌∙◌, ap, subst}
use Rattle.std.proofs.lemmas.Bool.{eqb-true, eq-eqb, and_parts, and_from, or_left, or_right, or_parts, or_from, false_from_ne_true}
use Rattle.std.proofs.lemmas.List.{take-append-drop}
use Rattle.std.proofs.lemmas.List.Folds.{list_any-append}
use Rattle.tb_perm.specs.declared.tag.Prov.{Prov}
use Rattle.tb_protect.specs.Frames.{is_prov}
use Rattle.tb_protect.specs.Kept.{IsOnce}

pub is_prov-same : (asked prov : Prov) → is_prov asked prov ≡ true → prov ≡ asked
is_prov-same asked prov is =
    let both = and_parts _ _ is in
    let alloc : prov.alloc.0 ≡ asked.alloc.0 = eqb-true _ _ both.0 in
    let tag : prov.tag.0 ≡ asked.tag.0 = eqb-true _ _ both.1 in
    ap (λ (n : ℕ). record { alloc = record { 0 = n }; tag = prov.tag }) alloc ∙ ap (λ (n : ℕ). record { alloc = asked.alloc; tag = record { 0 = n } }) tag

pub is_prov-refl : (prov : Prov) → is_prov prov prov ≡ true
is_prov-refl prov = and_from _ _ (eq-eqb prov.alloc.0 prov.alloc.0 refl) (eq-eqb prov.tag.0 prov.tag.0 refl)

pub is_prov-sym : (a b : Prov) → is_prov a b ≡ true → is_prov b a ≡ true
is_prov-sym a b is = subst (λ (p : Prov). is_prov p a ≡ true) (sym (is_prov-same a b is)) (is_prov-refl a)

pub is_prov-apart : (a b : Prov) → is_prov a b ≡ false → is_prov b a ≡ false
is_prov-apart a b differs = false_from_ne_true _ (λ is. elim_false (is_prov-sym b a is))
  where
    elim_false : is_prov a b ≡ true → ⊥
    elim_false is = let wrong : true ≡ false = sym is ∙ differs in cc

-- a list's test by its two parts
pub list_any-parts : (asked : Prov) (n : ℕ) (ps : List Prov) → list_any (is_prov asked) ps ≡ (list_any (is_prov asked) (take n ps) || list_any (is_prov asked) (drop n ps))
list_any-parts asked n ps = ap (list_any (is_prov asked)) (sym (take-append-drop n ps)) ∙ list_any-append (is_prov asked) (take n ps) (drop n ps)

pub list_any-take : (asked : Prov) (n : ℕ) (ps : List Prov) → list_any (is_prov asked) (take n ps) ≡ true → list_any (is_prov asked) ps ≡ true
list_any-take asked n ps is = list_any-parts asked n ps ∙ or_left _ _ is

pub list_any-drop : (asked : Prov) (n : ℕ) (ps : List Prov) → list_any (is_prov asked) (drop n ps) ≡ true → list_any (is_prov asked) ps ≡ true
list_any-drop asked n ps is = list_any-parts asked n ps ∙ or_right _ _ is

-- what stands once is not in both parts
pub IsOnce-take : (n : ℕ) (ps : List Prov) → IsOnce ps → IsOnce (take n ps)
IsOnce-take n ps once = IsOnce-front (take n ps) (drop n ps) (subst IsOnce (sym (take-append-drop n ps)) once)
  where
    IsOnce-front : (xs ys : List Prov) → IsOnce (xs ++ ys) → IsOnce xs
    IsOnce-front [] ys once = tt
    IsOnce-front (x ∷ xs) ys once = (absent (list_any (is_prov x) xs) (sym (list_any-append (is_prov x) xs ys) ∙ once.0), IsOnce-front xs ys once.1)
      where
        absent : (b : Bool) → (b || list_any (is_prov x) ys) ≡ false → b ≡ false
        absent true is = cc
        absent false is = refl

pub IsOnce-apart : (asked : Prov) (xs ys : List Prov) → IsOnce (xs ++ ys) → list_any (is_prov asked) xs ≡ true → list_any (is_prov asked) ys ≡ false
IsOnce-apart asked [] ys once is = cc
IsOnce-apart asked (x ∷ xs) ys once is = by_case (IsOnce-apart asked xs ys once.1) (is_prov asked x) refl is
  where
    by_case : (list_any (is_prov asked) xs ≡ true → list_any (is_prov asked) ys ≡ false) → (b : Bool) → is_prov asked x ≡ b → (b || list_any (is_prov asked) xs) ≡ true → list_any (is_prov asked) ys ≡ false
    by_case later true same found =
        let both : (list_any (is_prov x) xs || list_any (is_prov x) ys) ≡ false = sym (list_any-append (is_prov x) xs ys) ∙ once.0 in
        subst (λ (p : Prov). list_any (is_prov p) ys ≡ false) (is_prov-same asked x same) (second (list_any (is_prov x) xs) both)
      where
        second : (b : Bool) → (b || list_any (is_prov x) ys) ≡ false → list_any (is_prov x) ys ≡ false
        second true is = cc
        second false is = is
    by_case later false differs found = later found

pub IsOnce-push : (ps : List Prov) (prov : Prov) → IsOnce ps → list_any (is_prov prov) ps ≡ false → IsOnce (ps ++ prov ∷ [])
IsOnce-push [] prov once new = (refl, tt)
IsOnce-push (p ∷ ps) prov once new =
    let both = or_parts _ _ new in (
      list_any-append (is_prov p) ps (prov ∷ []) ∙ or_from _ _ once.0 (or_from _ _ (is_prov-apart prov p both.0) refl),
      IsOnce-push ps prov once.1 both.1,
    )

pub IsOnce-drop : (n : ℕ) (ps : List Prov) → IsOnce ps → IsOnce (drop n ps)
IsOnce-drop zero ps once = once
IsOnce-drop (suc n) [] once = tt
IsOnce-drop (suc n) (p ∷ ps) once = IsOnce-drop n ps once.1
