-- What each call of `Protectors` has to show, from the frames that contracts see.
use Rattle.std.specs.Prelude.{◌≡◌, ◌≢◌, ℕ, ◌<◌, cond, List, [], ◌∷◌, ◌++◌, length, take, drop, reverse, Bool, true, false, Option, Some, None, is_some}
use Rattle.std.specs.List.{list_any, All, AllPairs}
use Rattle.std.specs.Option.{unwrap_or}
use Rattle.std.proofs.Common.{refl, sym, ◌∙◌, ap, subst, arith}
use Rattle.std.proofs.lemmas.Bool.{or_parts, or_left, or_right}
use Rattle.std.proofs.lemmas.List.Elements.{All-cons, All-nil}
use Rattle.std.proofs.lemmas.List.Kept.{AllPairs-cons}
use Rattle.tb_perm.specs.declared.tag.Prov.{Prov}
use Rattle.tb_perm.specs.declared.perm.Guard.{Guard}
use Rattle.tb_perm.specs.declared.perm.Guard.TheVariants.{Free}
use Rattle.tb_protect.specs.Frames.{Frames, is_prov, is_in, kind_of, with_guarded, top_frame, frames_below, provs_of}
use Rattle.tb_protect.specs.Kept.{Guards, key_of, cut_at, frames_of, IsOnce, IsStack}
use Rattle.tb_protect.proofs.Provs.{is_prov-refl, list_any-drop, IsOnce-drop}
use Rattle.tb_protect.proofs.Cuts.{is_in-guarded, provs_of-guarded}
use Rattle.tb_protect.proofs.Stacks.{Enters, Leave, kind_of-frames, free_none, last_place, IsStack-enter, frames_of-enter, kinds_entered, IsStack-leave, frames_of-leave, kinds_left, top_frame-cut}

-- `protect`
pub record Entered (h : Guards) (starts : List ℕ) (now : List Prov) (old : Frames) (prov : Prov) (guard : Guard) : Type 0 where
  pub stack : IsStack h starts now
  pub frames : frames_of h starts now ≡ with_guarded prov guard old
  pub kinds : (asked : Prov) → kind_of (frames_of h starts now) asked ≡ cond (is_prov asked prov) guard (kind_of old asked)

pub entered : (f h : Guards) (starts : List ℕ) (ps now : List Prov) (old : Frames) (prov : Prov) (guard : Guard) → IsStack f starts ps → frames_of f starts ps ≡ old → 0 < length old → guard ≢ Free → kind_of old prov ≡ Free → Enters f h prov guard → now ≡ ps ++ prov ∷ [] → Entered h starts now old prov guard
entered f h starts ps now old prov guard stack view some not_free free enters is =
    let frame : 0 < length (frames_of f starts ps) = subst (λ (frames : Frames). 0 < length frames) (sym view) some in
    let none : f (key_of prov) ≡ None = free_none f starts ps prov stack (ap (λ (frames : Frames). kind_of frames prov) view ∙ free) in
    let after : IsStack h starts now = IsStack-enter f h starts ps now prov guard is frame stack none not_free enters in
    record {
      stack = after;
      frames = frames_of-enter f h starts ps now prov guard is frame stack none enters ∙ ap (with_guarded prov guard) view;
      kinds = λ asked.
          kind_of-frames h starts now asked after
          ∙ kinds_entered f h prov guard asked enters
          ∙ ap (λ (g : Guard). cond (is_prov asked prov) guard g) (sym (kind_of-frames f starts ps asked stack) ∙ ap (λ (frames : Frames). kind_of frames asked) view);
    }

-- `pop_frame`
pub record Left (h : Guards) (starts : List ℕ) (now : List Prov) (old : Frames) : Type 0 where
  pub stack : IsStack h starts now
  pub frames : frames_of h starts now ≡ frames_below old
  pub kinds : (asked : Prov) → kind_of (frames_of h starts now) asked ≡ cond (is_in asked (top_frame old)) Free (kind_of old asked)

pub left : (f h : Guards) (start : ℕ) (starts all : List ℕ) (ps now : List Prov) (old : Frames) → IsStack f all ps → frames_of f all ps ≡ old → all ≡ starts ++ start ∷ [] → Leave f h (drop start ps) → now ≡ take start ps → Left h starts now old
left f h start starts all ps now old stack view last leave is =
    let after : IsStack h starts now = IsStack-leave f h start starts all ps now last is stack leave in
    let top : is_in-top = λ asked. ap (is_in asked) (ap top_frame (sym view) ∙ top_frame-cut f start starts all ps last) ∙ is_in-guarded f asked (drop start ps) in
    record {
      stack = after;
      frames = frames_of-leave f h start starts all ps now last is stack leave ∙ ap frames_below view;
      kinds = λ asked.
          kind_of-frames h starts now asked after
          ∙ kinds_left f h (drop start ps) asked leave
          ∙ ap (λ (g : Guard). cond (list_any (is_prov asked) (drop start ps)) Free g) (sym (kind_of-frames f all ps asked stack) ∙ ap (λ (frames : Frames). kind_of frames asked) view)
          ∙ ap (λ (b : Bool). cond b Free (kind_of old asked)) (sym (top asked));
    }
  where
    is_in-top : Type 0
    is_in-top = (asked : Prov) → is_in asked (top_frame old) ≡ list_any (is_prov asked) (drop start ps)

-- `frame_list`
pub record Listed (top : List Prov) (old : Frames) : Type 0 where
  pub value : top ≡ provs_of (top_frame old)
  pub once : AllPairs (λ (p q : Prov). p ≢ q) top
  pub guarded : All (λ (p : Prov). kind_of old p ≢ Free) top

pub listed : (f : Guards) (starts : List ℕ) (ps top : List Prov) (old : Frames) → IsStack f starts ps → frames_of f starts ps ≡ old → 0 < length old → ((start : ℕ) (older : List ℕ) → reverse starts ≡ start ∷ older → top ≡ drop start ps) → Listed top old
listed f starts ps top old stack view some is =
    let place = last_place f (reverse starts) ps (subst (λ (frames : Frames). 0 < length frames) (sym view) some) in
    at_top place.0 place.1 place.2
  where
    once_apart : (xs : List Prov) → IsOnce xs → AllPairs (λ (p q : Prov). p ≢ q) xs
    once_apart [] once = λ i j d before within. absurd (omega arith)
    once_apart (x ∷ xs) once = AllPairs-cons (λ (p q : Prov). p ≢ q) x xs (others xs once.0) (once_apart xs once.1)
      where
        others : (ys : List Prov) → list_any (is_prov x) ys ≡ false → All (λ (q : Prov). x ≢ q) ys
        others [] none = All-nil _
        others (y ∷ ys) none =
            let both = or_parts _ _ none in
            All-cons (λ (q : Prov). x ≢ q) y ys (λ same. let wrong : true ≡ false = sym (is_prov-refl x) ∙ ap (is_prov x) same ∙ both.0 in cc) (others ys both.1)

    not_free : (p : Prov) → list_any (is_prov p) ps ≡ true → kind_of old p ≢ Free
    not_free p is free = by_case (f (key_of p)) refl (stack.listed p ∙ is) (sym (kind_of-frames f starts ps p stack) ∙ ap (λ (frames : Frames). kind_of frames p) view ∙ free)
      where
        by_case : (o : Option Guard) → f (key_of p) ≡ o → is_some o ≡ true → unwrap_or o Free ≡ Free → ⊥
        by_case None eq some free = cc
        by_case (Some g) eq some free = stack.guarded p (eq ∙ ap (λ (k : Guard). Some k) free)

    all_guarded : (xs : List Prov) → ((p : Prov) → list_any (is_prov p) xs ≡ true → list_any (is_prov p) ps ≡ true) → All (λ (p : Prov). kind_of old p ≢ Free) xs
    all_guarded [] inside = All-nil _
    all_guarded (x ∷ xs) inside = All-cons (λ (p : Prov). kind_of old p ≢ Free) x xs (not_free x (inside x (or_left _ _ (is_prov-refl x)))) (all_guarded xs (λ p is. inside p (or_right _ _ is)))

    at_top : (start : ℕ) (older : List ℕ) → reverse starts ≡ start ∷ older → Listed top old
    at_top start older place =
        let rest : top ≡ drop start ps = is start older place in
        subst (λ (xs : List Prov). Listed xs old) (sym rest) (record {
          value = sym (provs_of-guarded f (drop start ps)) ∙ ap provs_of (ap (λ ss. top_frame (cut_at f ss ps)) (sym place) ∙ ap top_frame view);
          once = once_apart (drop start ps) (IsOnce-drop start ps stack.once);
          guarded = all_guarded (drop start ps) (λ p is. list_any-drop p start ps is);
        })
