-- The bytes that values, states and provenances stand for.
use Rattle.std.proofs.Common.{◌≡◌, ℕ, zero, suc, ◌+◌, ◌-◌, ◌≤◌, Bool, true, false, List, [], ◌∷◌, ◌++◌, length, map, take, drop, replicate, Option, Some, None, refl, ap, sym, ◌∙◌, subst, arith}
use Rattle.std.specs.List.{slice_range, slice_get, splice}
use Rattle.std.proofs.lemmas.List.{length-take-le, length-drop, length-replicate, take_all}
use Rattle.tb_perm.specs.declared.tag.Prov.{Prov}
use Rattle.tb_bytes.specs.declared.byte_val.ByteVal.{ByteVal}
use Rattle.tb_bytes.specs.declared.byte_val.ByteVal.TheVariants.{Uninit, Init}
use Rattle.tb_bytes.specs.Bytes.{is_init, prov_of, value_of, OnlyChanges}
use Rattle.tb_bytes.specs.Parts.{byte_of, byte_list, IsClear, AreParts}
use Rattle.tb_bytes.proofs.Splices.{splice_same}

pub byte_list-take : (n : ℕ) (vs : List ℕ) (is : List Bool) (ps : List (Option Prov)) → take n (byte_list vs is ps) ≡ byte_list (take n vs) (take n is) (take n ps)
byte_list-take zero vs is ps = refl
byte_list-take (suc n) [] is ps = refl
byte_list-take (suc n) (v ∷ vs) [] ps = refl
byte_list-take (suc n) (v ∷ vs) (i ∷ is) [] = refl
byte_list-take (suc n) (v ∷ vs) (i ∷ is) (p ∷ ps) = ap (λ bytes. byte_of v i p ∷ bytes) (byte_list-take n vs is ps)

nothing_left : (n : ℕ) (vs : List ℕ) (is : List Bool) → byte_list vs is [] ≡ []
nothing_left n [] is = refl
nothing_left n (v ∷ vs) [] = refl
nothing_left n (v ∷ vs) (i ∷ is) = refl

none_there : (vs : List ℕ) (ps : List (Option Prov)) → byte_list vs [] ps ≡ []
none_there [] ps = refl
none_there (v ∷ vs) ps = refl

pub byte_list-drop : (n : ℕ) (vs : List ℕ) (is : List Bool) (ps : List (Option Prov)) → drop n (byte_list vs is ps) ≡ byte_list (drop n vs) (drop n is) (drop n ps)
byte_list-drop zero vs is ps = refl
byte_list-drop (suc n) [] is ps = refl
byte_list-drop (suc n) (v ∷ vs) [] ps = sym (none_there (drop n vs) (drop (suc n) ps))
byte_list-drop (suc n) (v ∷ vs) (i ∷ is) [] = sym (nothing_left n (drop n vs) (drop n is))
byte_list-drop (suc n) (v ∷ vs) (i ∷ is) (p ∷ ps) = byte_list-drop n vs is ps

pub byte_list-append : (vs ws : List ℕ) (is js : List Bool) (ps qs : List (Option Prov)) → length is ≡ length vs → length ps ≡ length vs → byte_list (vs ++ ws) (is ++ js) (ps ++ qs) ≡ byte_list vs is ps ++ byte_list ws js qs
byte_list-append [] ws [] js [] qs few long = refl
byte_list-append [] ws [] js (p ∷ ps) qs few long = absurd (omega arith)
byte_list-append [] ws (i ∷ is) js ps qs few long = absurd (omega arith)
byte_list-append (v ∷ vs) ws [] js ps qs few long = absurd (omega arith)
byte_list-append (v ∷ vs) ws (i ∷ is) js [] qs few long = absurd (omega arith)
byte_list-append (v ∷ vs) ws (i ∷ is) js (p ∷ ps) qs few long = ap (λ bytes. byte_of v i p ∷ bytes) (byte_list-append vs ws is js ps qs (omega arith) (omega arith))

-- the parts of bytes give the bytes back
pub byte_list_of : (bytes : List ByteVal) → byte_list (map value_of bytes) (map is_init bytes) (map prov_of bytes) ≡ bytes
byte_list_of [] = refl
byte_list_of (Uninit ∷ bytes) = ap (λ rest. Uninit ∷ rest) (byte_list_of bytes)
byte_list_of (Init value prov ∷ bytes) = ap (λ rest. Init value prov ∷ rest) (byte_list_of bytes)

-- parts that are changed at the same places
pub byte_list-splice : (lo hi : ℕ) (vs ws : List ℕ) (is js : List Bool) (ps qs : List (Option Prov)) → lo ≤ length vs → length is ≡ length vs → length ps ≡ length vs → length js ≡ length ws → length qs ≡ length ws → byte_list (splice vs lo hi ws) (splice is lo hi js) (splice ps lo hi qs) ≡ splice (byte_list vs is ps) lo hi (byte_list ws js qs)
byte_list-splice lo hi vs ws is js ps qs within few long some many =
    byte_list-append (take lo vs) (ws ++ drop hi vs) (take lo is) (js ++ drop hi is) (take lo ps) (qs ++ drop hi ps)
    (omega (arith, length-take-le lo vs within, length-take-le lo is (omega arith)))
    (omega (arith, length-take-le lo vs within, length-take-le lo ps (omega arith)))
    ∙ ap (λ bytes. byte_list (take lo vs) (take lo is) (take lo ps) ++ bytes) (byte_list-append ws (drop hi vs) js (drop hi is) qs (drop hi ps) some many)
    ∙ ap (λ bytes. bytes ++ (byte_list ws js qs ++ byte_list (drop hi vs) (drop hi is) (drop hi ps))) (sym (byte_list-take lo vs is ps))
    ∙ ap (λ bytes. take lo (byte_list vs is ps) ++ (byte_list ws js qs ++ bytes)) (sym (byte_list-drop hi vs is ps))

pub clear_long : (is : List Bool) (ps : List (Option Prov)) → IsClear is ps → length ps ≡ length is
clear_long [] [] clear = refl
clear_long [] (p ∷ ps) clear = absurd clear
clear_long (i ∷ is) [] clear = absurd clear
clear_long (i ∷ is) (p ∷ ps) clear = ap suc (clear_long is ps clear.1)

pub length-byte_list : (vs : List ℕ) (is : List Bool) (ps : List (Option Prov)) → length is ≡ length vs → length ps ≡ length vs → length (byte_list vs is ps) ≡ length vs
length-byte_list [] is ps few long = refl
length-byte_list (v ∷ vs) [] ps few long = absurd (omega arith)
length-byte_list (v ∷ vs) (i ∷ is) [] few long = absurd (omega arith)
length-byte_list (v ∷ vs) (i ∷ is) (p ∷ ps) few long = ap suc (length-byte_list vs is ps (omega arith) (omega arith))

pub length_parts : (vs : List ℕ) (is : List Bool) (ps : List (Option Prov)) → AreParts vs is ps → length (byte_list vs is ps) ≡ length vs
length_parts vs is ps parts = length-byte_list vs is ps (sym parts.0) (clear_long is ps parts.1 ∙ sym parts.0)

-- the provenances of the bytes are those that are kept
pub provs_are : (vs : List ℕ) (is : List Bool) (ps : List (Option Prov)) → AreParts vs is ps → map prov_of (byte_list vs is ps) ≡ ps
provs_are [] [] [] parts = refl
provs_are [] [] (p ∷ ps) parts = absurd parts.1
provs_are [] (i ∷ is) ps parts = absurd (omega (arith, parts.0))
provs_are (v ∷ vs) [] ps parts = absurd (omega (arith, parts.0))
provs_are (v ∷ vs) (i ∷ is) [] parts = absurd parts.1
provs_are (v ∷ vs) (true ∷ is) (p ∷ ps) parts = ap (λ rest. p ∷ rest) (provs_are vs is ps (omega (arith, parts.0), parts.1.1))
provs_are (v ∷ vs) (false ∷ is) (p ∷ ps) parts =
    ap (λ rest. None ∷ rest) (provs_are vs is ps (omega (arith, parts.0), parts.1.1)) ∙ ap (λ q. q ∷ ps) (sym (parts.1.0 refl))

pub slice_get-byte_list : (k : ℕ) (vs : List ℕ) (is : List Bool) (ps : List (Option Prov)) (v : ℕ) (i : Bool) (p : Option Prov) → slice_get vs k ≡ Some v → slice_get is k ≡ Some i → slice_get ps k ≡ Some p → slice_get (byte_list vs is ps) k ≡ Some (byte_of v i p)
slice_get-byte_list k [] is ps v i p has_v has_i has_p = absurd (cc)
slice_get-byte_list k (x ∷ vs) [] ps v i p has_v has_i has_p = absurd (cc)
slice_get-byte_list k (x ∷ vs) (y ∷ is) [] v i p has_v has_i has_p = absurd (cc)
slice_get-byte_list zero (x ∷ vs) (y ∷ is) (z ∷ ps) v i p has_v has_i has_p =
    let same_v : x ≡ v = cc in
    let same_i : y ≡ i = cc in
    let same_p : z ≡ p = cc in
    rw (same_v, same_i, same_p) refl
slice_get-byte_list (suc k) (x ∷ vs) (y ∷ is) (z ∷ ps) v i p has_v has_i has_p = slice_get-byte_list k vs is ps v i p has_v has_i has_p

-- bytes that were never written
pub byte_list_new : (n : ℕ) → byte_list (replicate n 0) (replicate n false) (replicate n None) ≡ replicate n Uninit
byte_list_new zero = refl
byte_list_new (suc n) = ap (λ rest. Uninit ∷ rest) (byte_list_new n)

pub clear_new : (n : ℕ) → IsClear (replicate n false) (replicate n None)
clear_new zero = tt
clear_new (suc n) = (λ _. refl, clear_new n)

clear-append : (is js : List Bool) (ps qs : List (Option Prov)) → IsClear is ps → IsClear js qs → IsClear (is ++ js) (ps ++ qs)
clear-append [] js [] qs first second = second
clear-append [] js (p ∷ ps) qs first second = absurd first
clear-append (i ∷ is) js [] qs first second = absurd first
clear-append (i ∷ is) js (p ∷ ps) qs first second = (first.0, clear-append is js ps qs first.1 second)

clear-take : (n : ℕ) (is : List Bool) (ps : List (Option Prov)) → IsClear is ps → IsClear (take n is) (take n ps)
clear-take zero is ps clear = tt
clear-take (suc n) [] [] clear = tt
clear-take (suc n) [] (p ∷ ps) clear = absurd clear
clear-take (suc n) (i ∷ is) [] clear = absurd clear
clear-take (suc n) (i ∷ is) (p ∷ ps) clear = (clear.0, clear-take n is ps clear.1)

clear-drop : (n : ℕ) (is : List Bool) (ps : List (Option Prov)) → IsClear is ps → IsClear (drop n is) (drop n ps)
clear-drop zero is ps clear = clear
clear-drop (suc n) [] [] clear = tt
clear-drop (suc n) [] (p ∷ ps) clear = absurd clear
clear-drop (suc n) (i ∷ is) [] clear = absurd clear
clear-drop (suc n) (i ∷ is) (p ∷ ps) clear = clear-drop n is ps clear.1

pub clear-splice : (lo hi : ℕ) (is js : List Bool) (ps qs : List (Option Prov)) → IsClear is ps → IsClear js qs → IsClear (splice is lo hi js) (splice ps lo hi qs)
clear-splice lo hi is js ps qs whole part =
    clear-append (take lo is) (js ++ drop hi is) (take lo ps) (qs ++ drop hi ps) (clear-take lo is ps whole) (clear-append js (drop hi is) qs (drop hi ps) part (clear-drop hi is ps whole))

-- initialised places may have any provenance
clear_full : (n : ℕ) (ps : List (Option Prov)) → length ps ≡ n → IsClear (replicate n true) ps
clear_full zero [] long = tt
clear_full zero (p ∷ ps) long = absurd (omega arith)
clear_full (suc n) [] long = absurd (omega arith)
clear_full (suc n) (p ∷ ps) long = (λ e. absurd (cc), clear_full n ps (omega arith))

-- places without a provenance may be initialised or not
clear_bare : (n : ℕ) (is : List Bool) → length is ≡ n → IsClear is (replicate n None)
clear_bare zero [] long = tt
clear_bare zero (i ∷ is) long = absurd (omega arith)
clear_bare (suc n) [] long = absurd (omega arith)
clear_bare (suc n) (i ∷ is) long = (λ _. refl, clear_bare n is (omega arith))

length_part : {A : Type 0} (xs : List A) (lo hi : ℕ) → hi ≤ length xs → length (slice_range xs lo hi) ≡ hi - lo
length_part xs lo hi within = omega (arith, length-take-le (hi - lo) (drop lo xs) (omega (arith, length-drop lo xs)))

pub clear_filled : (lo hi : ℕ) (is : List Bool) (ps : List (Option Prov)) → lo ≤ hi → hi ≤ length is → IsClear is ps → IsClear (splice is lo hi (replicate (hi - lo) true)) ps
clear_filled lo hi is ps order within clear =
    let long = length_part ps lo hi (omega (arith, clear_long is ps clear)) in
    subst (IsClear (splice is lo hi (replicate (hi - lo) true))) (splice_same ps lo hi order)
    (clear-splice lo hi is (replicate (hi - lo) true) ps (slice_range ps lo hi) clear (clear_full (hi - lo) (slice_range ps lo hi) long))

pub clear_bared : (lo hi : ℕ) (is : List Bool) (ps : List (Option Prov)) → lo ≤ hi → hi ≤ length is → IsClear is ps → IsClear is (splice ps lo hi (replicate (hi - lo) None))
clear_bared lo hi is ps order within clear =
    let long = length_part is lo hi within in
    subst (λ js. IsClear js (splice ps lo hi (replicate (hi - lo) None))) (splice_same is lo hi order)
    (clear-splice lo hi is (slice_range is lo hi) ps (replicate (hi - lo) None) clear (clear_bare (hi - lo) (slice_range is lo hi) long))

-- filled places with one provenance
pub clear_given : (lo hi : ℕ) (is : List Bool) (ps : List (Option Prov)) (p : Option Prov) → IsClear is ps → IsClear (splice is lo hi (replicate (hi - lo) true)) (splice ps lo hi (replicate (hi - lo) p))
clear_given lo hi is ps p clear =
    clear-splice lo hi is (replicate (hi - lo) true) ps (replicate (hi - lo) p) clear (clear_full (hi - lo) (replicate (hi - lo) p) (length-replicate (hi - lo) p))

-- emptied places without a provenance
pub clear_emptied : (lo hi : ℕ) (is : List Bool) (ps : List (Option Prov)) → IsClear is ps → IsClear (splice is lo hi (replicate (hi - lo) false)) (splice ps lo hi (replicate (hi - lo) None))
clear_emptied lo hi is ps clear = clear-splice lo hi is (replicate (hi - lo) false) ps (replicate (hi - lo) None) clear (clear_new (hi - lo))

-- bytes of which the marks change at some places only
pub marks_only : (lo hi : ℕ) (vs : List ℕ) (is js : List Bool) (ps qs : List (Option Prov)) → AreParts vs is ps → AreParts vs js qs → OnlyChanges lo hi is js → OnlyChanges lo hi ps qs → OnlyChanges lo hi (byte_list vs is ps) (byte_list vs js qs)
marks_only lo hi vs is js ps qs old new first second = record {
  before =
      byte_list-take lo vs js qs ∙ ap (λ xs. byte_list (take lo vs) xs (take lo qs)) first.before ∙ ap (byte_list (take lo vs) (take lo is)) second.before ∙ sym (byte_list-take lo vs is ps);
  behind =
      byte_list-drop hi vs js qs ∙ ap (λ xs. byte_list (drop hi vs) xs (drop hi qs)) first.behind ∙ ap (byte_list (drop hi vs) (drop hi is)) second.behind ∙ sym (byte_list-drop hi vs is ps);
  size = length_parts vs js qs new ∙ sym (length_parts vs is ps old);
}

-- of a list that goes on, the part that there are values for
byte_list-front : (n : ℕ) (vs : List ℕ) (is : List Bool) (ps : List (Option Prov)) → byte_list (take n vs) (take n is) (take n ps) ≡ byte_list (take n vs) is ps
byte_list-front zero vs is ps = refl
byte_list-front (suc n) [] is ps = refl
byte_list-front (suc n) (v ∷ vs) [] ps = refl
byte_list-front (suc n) (v ∷ vs) (i ∷ is) [] = refl
byte_list-front (suc n) (v ∷ vs) (i ∷ is) (p ∷ ps) = ap (λ bytes. byte_of v i p ∷ bytes) (byte_list-front n vs is ps)

pub byte_list-part : (lo hi : ℕ) (vs : List ℕ) (is : List Bool) (ps : List (Option Prov)) → byte_list (slice_range vs lo hi) (drop lo is) (drop lo ps) ≡ slice_range (byte_list vs is ps) lo hi
byte_list-part lo hi vs is ps =
    sym
    (ap (take (hi - lo)) (byte_list-drop lo vs is ps)
    ∙ byte_list-take (hi - lo) (drop lo vs) (drop lo is) (drop lo ps)
    ∙ byte_list-front (hi - lo) (drop lo vs) (drop lo is) (drop lo ps))

-- the marks of bytes
pub clear_of : (bytes : List ByteVal) → IsClear (map is_init bytes) (map prov_of bytes)
clear_of [] = tt
clear_of (Uninit ∷ bytes) = (λ e. refl, clear_of bytes)
clear_of (Init value prov ∷ bytes) = (λ e. absurd (cc), clear_of bytes)

-- marks at places without a provenance
pub clear_remarked : (lo hi : ℕ) (is js : List Bool) (ps : List (Option Prov)) → length js ≡ hi - lo → IsClear is ps → IsClear (splice is lo hi js) (splice ps lo hi (replicate (hi - lo) None))
clear_remarked lo hi is js ps long clear = clear-splice lo hi is js ps (replicate (hi - lo) None) clear (clear_bare (hi - lo) js long)

pub alike_marks : {A : Type 0} (f : ByteVal → A) (lo n : ℕ) (bytes : List ByteVal) (x : A) → n ≡ length bytes → map f (slice_range bytes 0 n) ≡ replicate (length (slice_range bytes 0 n)) x → replicate (lo + length bytes - lo) x ≡ map f bytes
alike_marks f lo n bytes x all alike =
    let whole : slice_range bytes 0 n ≡ bytes = take_all (n - 0) bytes (omega arith) in
    let many : length bytes ≡ lo + length bytes - lo = omega arith in
    ap (λ m. replicate m x) (sym many) ∙ sym (ap (map f) (sym whole) ∙ alike ∙ ap (λ xs. replicate (length xs) x) whole)
