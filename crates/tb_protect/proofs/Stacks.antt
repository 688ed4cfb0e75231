-- What each call does to the frames, and that it keeps what is true of the fields.
use Rattle.std.specs.Prelude.{◌≡◌, ◌≢◌, ℕ, ◌<◌, Bool, true, false, cond, ◌||◌, List, [], ◌∷◌, ◌++◌, length, take, drop, map, reverse, Option, Some, None, is_some}
use Rattle.std.specs.List.{list_any}
use Rattle.std.specs.Option.{unwrap_or}
use Rattle.std.proofs.Common.{refl, sym, ◌∙◌, ap, subst, arith}
use Rattle.std.proofs.lemmas.List.{length-take, length-append, reverse-append, take-append-drop, drop_all, take_all}
use Rattle.std.proofs.lemmas.List.Folds.{list_any-append}
use Rattle.tb_perm.specs.declared.tag.Prov.{Prov}
use Rattle.tb_perm.specs.declared.perm.Guard.{Guard}
use Rattle.tb_perm.specs.declared.perm.Guard.TheVariants.{Free}
use Rattle.tb_protect.specs.Frames.{is_prov, kind_of, with_guarded, top_frame, frames_below}
use Rattle.tb_protect.specs.Kept.{Guards, key_of, same_key, guard_by, guarded_by, cut_at, frames_of, ArePlaces, IsOnce, IsStack}
use Rattle.tb_protect.proofs.Provs.{is_prov-same, is_prov-refl, list_any-parts, IsOnce-take, IsOnce-apart, IsOnce-push}
use Rattle.tb_protect.proofs.Cuts.{Agree, kind_of-cut, cut_at-agree, cut_at-push}

-- the guards answer what the frames say
pub kind_of-frames : (f : Guards) (starts : List ℕ) (ps : List Prov) (asked : Prov) → IsStack f starts ps → kind_of (frames_of f starts ps) asked ≡ guard_by f asked
kind_of-frames f starts ps asked stack =
    kind_of-cut f (reverse starts) ps asked stack.places ∙ by_case (list_any (is_prov asked) ps) (f (key_of asked)) (stack.listed asked)
  where
    by_case : (b : Bool) (o : Option Guard) → is_some o ≡ b → cond b (unwrap_or o Free) Free ≡ unwrap_or o Free
    by_case true o is = refl
    by_case false None is = refl
    by_case false (Some g) is = cc

-- no frame
pub IsStack-empty : (f : Guards) → ((key : ℕ × ℕ) → f key ≡ None) → IsStack f [] []
IsStack-empty f none =
    record {
      places = refl;
      once = tt;
      listed = λ prov. ap is_some (none (key_of prov));
      guarded = λ prov is. let wrong : None ≡ Some Free = sym (none (key_of prov)) ∙ is in cc;
    }

-- one more frame
pub places_pushed : (starts : List ℕ) (start : ℕ) → reverse (starts ++ start ∷ []) ≡ start ∷ reverse starts
places_pushed starts start = reverse-append starts (start ∷ [])

pub IsStack-frame : (f : Guards) (starts now : List ℕ) (ps : List Prov) → now ≡ starts ++ length ps ∷ [] → IsStack f starts ps → IsStack f now ps
IsStack-frame f starts now ps is stack =
    record {
      places = subst (λ ss. ArePlaces ss (length ps)) (sym (ap reverse is ∙ places_pushed starts (length ps))) (omega arith, stack.places);
      once = stack.once;
      listed = stack.listed;
      guarded = stack.guarded;
    }

pub frames_of-frame : (f : Guards) (starts now : List ℕ) (ps : List Prov) → now ≡ starts ++ length ps ∷ [] → frames_of f now ps ≡ [] ∷ frames_of f starts ps
frames_of-frame f starts now ps is =
    ap (λ ss. cut_at f ss ps) (ap reverse is ∙ places_pushed starts (length ps))
    ∙ ap (λ (xs : List Prov). map (guarded_by f) xs ∷ cut_at f (reverse starts) (take (length ps) ps)) (drop_all (length ps) ps (omega arith))
    ∙ ap (λ (xs : List Prov). [] ∷ cut_at f (reverse starts) xs) (take_all (length ps) ps (omega arith))

-- there is a top frame
pub last_place : (f : Guards) (starts : List ℕ) (ps : List Prov) → 0 < length (cut_at f starts ps) → (start : ℕ) × (older : List ℕ) × (starts ≡ start ∷ older)
last_place f [] ps some = absurd (omega arith)
last_place f (start ∷ older) ps some = (start, older, refl)

-- a provenance that is free has no guard
pub free_none : (f : Guards) (starts : List ℕ) (ps : List Prov) (prov : Prov) → IsStack f starts ps → kind_of (frames_of f starts ps) prov ≡ Free → f (key_of prov) ≡ None
free_none f starts ps prov stack free = by_case (f (key_of prov)) refl (sym (kind_of-frames f starts ps prov stack) ∙ free)
  where
    by_case : (o : Option Guard) → f (key_of prov) ≡ o → unwrap_or o Free ≡ Free → o ≡ None
    by_case None is free = refl
    by_case (Some g) is free = absurd (stack.guarded prov (is ∙ ap (λ (k : Guard). Some k) free))

-- one more provenance
abbrev pub Enters : Guards → Guards → Prov → Guard → Type 0
Enters f h prov guard = (key : ℕ × ℕ) → h key ≡ cond (same_key (key_of prov) key) (Some guard) (f key)

entered : (f h : Guards) (ps : List Prov) (prov : Prov) (guard : Guard) → Enters f h prov guard → list_any (is_prov prov) ps ≡ false → Agree f h ps
entered f h ps prov guard enters new other is = enters (key_of other) ∙ by_case (is_prov other prov) refl
  where
    by_case : (b : Bool) → is_prov other prov ≡ b → cond b (Some guard) (f (key_of other)) ≡ f (key_of other)
    by_case false differs = refl
    by_case true same =
        let here : list_any (is_prov prov) ps ≡ true = subst (λ (p : Prov). list_any (is_prov p) ps ≡ true) (sym (is_prov-same other prov same)) is in
        let wrong : true ≡ false = sym here ∙ new in
        cc

entered_here : (f h : Guards) (prov : Prov) (guard : Guard) → Enters f h prov guard → h (key_of prov) ≡ Some guard
entered_here f h prov guard enters = enters (key_of prov) ∙ ap (λ (b : Bool). cond b (Some guard) (f (key_of prov))) (is_prov-refl prov)

absent : (f : Guards) (starts : List ℕ) (ps : List Prov) (prov : Prov) → IsStack f starts ps → f (key_of prov) ≡ None → list_any (is_prov prov) ps ≡ false
absent f starts ps prov stack none = sym (stack.listed prov) ∙ ap is_some none

pub IsStack-enter : (f h : Guards) (starts : List ℕ) (ps now : List Prov) (prov : Prov) (guard : Guard) → now ≡ ps ++ prov ∷ [] → 0 < length (frames_of f starts ps) → IsStack f starts ps → f (key_of prov) ≡ None → guard ≢ Free → Enters f h prov guard → IsStack h starts now
IsStack-enter f h starts ps now prov guard is some stack none not_free enters =
    subst (IsStack h starts) (sym is) (record {
      places = let top = last_place f (reverse starts) ps some in at_top top.0 top.1 top.2;
      once = IsOnce-push ps prov stack.once (absent f starts ps prov stack none);
      listed = λ asked. ap is_some (enters (key_of asked)) ∙ by_case asked (is_prov asked prov) ∙ sym (list_any-append (is_prov asked) ps (prov ∷ []));
      guarded = λ asked free. no_free asked (is_prov asked prov) (sym (enters (key_of asked)) ∙ free);
    })
  where
    at_top : (start : ℕ) (older : List ℕ) → reverse starts ≡ start ∷ older → ArePlaces (reverse starts) (length (ps ++ prov ∷ []))
    at_top start older top =
        let places : ArePlaces (start ∷ older) (length ps) = subst (λ ss. ArePlaces ss (length ps)) top stack.places in
        subst (λ ss. ArePlaces ss (length (ps ++ prov ∷ []))) (sym top) (omega (arith, length-append ps (prov ∷ []), places.0), places.1)

    by_case : (asked : Prov) (b : Bool) → is_some (cond b (Some guard) (f (key_of asked))) ≡ (list_any (is_prov asked) ps || (b || false))
    by_case asked true = sym (or_true (list_any (is_prov asked) ps))
      where
        or_true : (a : Bool) → (a || true) ≡ true
        or_true true = refl
        or_true false = refl
    by_case asked false = stack.listed asked ∙ sym (or_false (list_any (is_prov asked) ps))
      where
        or_false : (a : Bool) → (a || false) ≡ a
        or_false true = refl
        or_false false = refl

    no_free : (asked : Prov) (b : Bool) → cond b (Some guard) (f (key_of asked)) ≡ Some Free → ⊥
    no_free asked true free = not_free (let g : guard ≡ Free = cc in g)
    no_free asked false free = stack.guarded asked free

pub frames_of-enter : (f h : Guards) (starts : List ℕ) (ps now : List Prov) (prov : Prov) (guard : Guard) → now ≡ ps ++ prov ∷ [] → 0 < length (frames_of f starts ps) → IsStack f starts ps → f (key_of prov) ≡ None → Enters f h prov guard → frames_of h starts now ≡ with_guarded prov guard (frames_of f starts ps)
frames_of-enter f h starts ps now prov guard is some stack none enters =
    let top = last_place f (reverse starts) ps some in
    ap (frames_of h starts) is ∙ at_top top.0 top.1 top.2
  where
    at_top : (start : ℕ) (older : List ℕ) → reverse starts ≡ start ∷ older → cut_at h (reverse starts) (ps ++ prov ∷ []) ≡ with_guarded prov guard (cut_at f (reverse starts) ps)
    at_top start older top =
        let places : ArePlaces (start ∷ older) (length ps) = subst (λ ss. ArePlaces ss (length ps)) top stack.places in
        subst (λ ss. cut_at h ss (ps ++ prov ∷ []) ≡ with_guarded prov guard (cut_at f ss ps)) (sym top)
        (cut_at-push f h start older ps prov guard places.0 (entered f h ps prov guard enters (absent f starts ps prov stack none)) (entered_here f h prov guard enters))

-- the guards after it
pub kinds_entered : (f h : Guards) (prov : Prov) (guard : Guard) (asked : Prov) → Enters f h prov guard → guard_by h asked ≡ cond (is_prov asked prov) guard (guard_by f asked)
kinds_entered f h prov guard asked enters = ap (λ (o : Option Guard). unwrap_or o Free) (enters (key_of asked)) ∙ by_case (is_prov asked prov)
  where
    by_case : (b : Bool) → unwrap_or (cond b (Some guard) (f (key_of asked))) Free ≡ cond b guard (guard_by f asked)
    by_case true = refl
    by_case false = refl

-- one frame less
abbrev pub Leave : Guards → Guards → List Prov → Type 0
Leave f h gone = (key : ℕ × ℕ) → h key ≡ cond (list_any (λ (p : Prov). same_key (key_of p) key) gone) None (f key)

pub kinds_left : (f h : Guards) (gone : List Prov) (asked : Prov) → Leave f h gone → guard_by h asked ≡ cond (list_any (is_prov asked) gone) Free (guard_by f asked)
kinds_left f h gone asked leave = ap (λ (o : Option Guard). unwrap_or o Free) (leave (key_of asked)) ∙ by_case (list_any (is_prov asked) gone)
  where
    by_case : (b : Bool) → unwrap_or (cond b None (f (key_of asked))) Free ≡ cond b Free (guard_by f asked)
    by_case true = refl
    by_case false = refl

stayed : (f h : Guards) (start : ℕ) (ps : List Prov) → IsOnce ps → Leave f h (drop start ps) → Agree f h (take start ps)
stayed f h start ps once leave asked is =
    leave (key_of asked) ∙ ap (λ (b : Bool). cond b None (f (key_of asked))) (IsOnce-apart asked (take start ps) (drop start ps) (subst IsOnce (sym (take-append-drop start ps)) once) is)

pub IsStack-leave : (f h : Guards) (start : ℕ) (starts old : List ℕ) (ps now : List Prov) → old ≡ starts ++ start ∷ [] → now ≡ take start ps → IsStack f old ps → Leave f h (drop start ps) → IsStack h starts now
IsStack-leave f h start starts old ps now last is stack leave =
    let places : ArePlaces (start ∷ reverse starts) (length ps) = subst (λ ss. ArePlaces ss (length ps)) (ap reverse last ∙ places_pushed starts start) stack.places in
    subst (IsStack h starts) (sym is) (record {
      places = subst (ArePlaces (reverse starts)) (omega (arith, length-take start ps, places.0)) places.1;
      once = IsOnce-take start ps stack.once;
      listed = λ asked. ap is_some (leave (key_of asked)) ∙ by_case asked (list_any (is_prov asked) (drop start ps)) (list_any (is_prov asked) (take start ps)) refl refl;
      guarded = λ asked free. no_free asked (list_any (is_prov asked) (drop start ps)) (sym (leave (key_of asked)) ∙ free);
    })
  where
    by_case : (asked : Prov) (b a : Bool) → list_any (is_prov asked) (drop start ps) ≡ b → list_any (is_prov asked) (take start ps) ≡ a → is_some (cond b None (f (key_of asked))) ≡ a
    by_case asked true true gone stays =
        let wrong : true ≡ false = sym gone ∙ IsOnce-apart asked (take start ps) (drop start ps) (subst IsOnce (sym (take-append-drop start ps)) stack.once) stays in
        cc
    by_case asked true false gone stays = refl
    by_case asked false a gone stays =
        stack.listed asked ∙ list_any-parts asked start ps ∙ ap (λ (x : Bool). x || list_any (is_prov asked) (drop start ps)) stays ∙ ap (λ (x : Bool). a || x) gone ∙ or_false a
      where
        or_false : (x : Bool) → (x || false) ≡ x
        or_false true = refl
        or_false false = refl

    no_free : (asked : Prov) (b : Bool) → cond b None (f (key_of asked)) ≡ Some Free → ⊥
    no_free asked true free = cc
    no_free asked false free = stack.guarded asked free

pub frames_of-leave : (f h : Guards) (start : ℕ) (starts old : List ℕ) (ps now : List Prov) → old ≡ starts ++ start ∷ [] → now ≡ take start ps → IsStack f old ps → Leave f h (drop start ps) → frames_of h starts now ≡ frames_below (frames_of f old ps)
frames_of-leave f h start starts old ps now last is stack leave =
    ap (frames_of h starts) is
    ∙ cut_at-agree f h (reverse starts) (take start ps) (stayed f h start ps stack.once leave)
    ∙ ap (λ ss. frames_below (cut_at f ss ps)) (sym (ap reverse last ∙ places_pushed starts start))

-- the top frame
pub top_frame-cut : (f : Guards) (start : ℕ) (starts old : List ℕ) (ps : List Prov) → old ≡ starts ++ start ∷ [] → top_frame (frames_of f old ps) ≡ map (guarded_by f) (drop start ps)
top_frame-cut f start starts old ps last = ap (λ ss. top_frame (cut_at f ss ps)) (ap reverse last ∙ places_pushed starts start)
