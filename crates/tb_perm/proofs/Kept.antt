-- What the events keep: tags, parents, births, the number of states, and with them the tree. For the
-- crates above, which know the rows after an event by its definition alone.
use Rattle.std.proofs.Common.{◌≡◌, ◌∙◌, ℕ, suc, subst, ◌+◌, ◌<◌, ◌||◌, ◌++◌, Bool, true, false, cond, List, [], ◌∷◌, length, map, reverse, refl, ap, sym, arith, Option, Some, None, All, inl, ◌==◌}
use Rattle.std.specs.List.{list_any, AllByRecursion}
use Rattle.std.proofs.lemmas.List.{reverse-append}
use Rattle.std.proofs.lemmas.List.Elements.{recursion_from_All}
use Rattle.std.proofs.lemmas.List.Folds.{list_any-append}
use Rattle.std.proofs.lemmas.List.FromFn.{length-map-range_with_len}
use Rattle.std.proofs.lemmas.List.{length-replicate}
use Rattle.std.proofs.lemmas.Bool.{eq-eqb, or_left}
use mathlib.Core.List.{reverse_aux}
use Rattle.tb_perm.specs.declared.perm.State.{State}
use Rattle.tb_perm.specs.declared.perm.Kind.{Kind}
use Rattle.tb_perm.specs.declared.perm.Rel.{Rel}
use Rattle.tb_perm.specs.declared.span.Span.{Span}
use Rattle.tb_perm.specs.declared.perm.Guard.TheVariants.{Free}
use Rattle.tb_perm.specs.declared.new_tag.NewTag.{NewTag}
use Rattle.tb_perm.specs.Rows.{Row, is_tag, HasTag, IsNext, IsGrown, IsRows, path_from, is_on_path, unguarded, unguarded_row, root_row}
use Rattle.tb_perm.specs.Tree.{KeepsTree}
use Rattle.tb_perm.specs.Event.{Event, after, moved_row, moved_states}
use Rattle.tb_perm.specs.Reborrow.{reborrowed, reborrowed_rows, reborrow_event, new_row, new_state}
use Rattle.tb_perm.specs.Answer.{Between, AreBetween}

pub length-moved_states : (meets : ℕ → Option Kind) (g : Bool) (rel : Rel) (byte : ℕ) (states : List State) → length (moved_states meets g rel byte states) ≡ length states
length-moved_states meets g rel byte [] = refl
length-moved_states meets g rel byte (s ∷ states) = ap (λ n. suc n) (length-moved_states meets g rel (byte + 1) states)

-- an event keeps the tree
pub after-keeps : (event : Event) (rows : List Row) → KeepsTree rows (after event rows)
after-keeps event rows = over rows rows
  where
    over : (all rows : List Row) → KeepsTree rows (map (moved_row all event) rows)
    over all [] = tt
    over all (row ∷ rows) = (refl, refl, refl, length-moved_states _ _ _ _ row.states, over all rows)

-- so does the end of a guard
pub unguarded-keeps : (rows : List Row) (t : ℕ) → KeepsTree rows (unguarded rows t)
unguarded-keeps [] t = tt
unguarded-keeps (row ∷ rows) t = (one.0, one.1, one.2, one.3, unguarded-keeps rows t)
  where
    at : (b : Bool) → KeepsTree (row ∷ []) (cond b (record row { guard = Free }) row ∷ [])
    at true = (refl, refl, refl, refl, tt)
    at false = (refl, refl, refl, refl, tt)

    one : KeepsTree (row ∷ []) (unguarded_row t row ∷ [])
    one = at (is_tag t row)

pub KeepsTree-refl : (rows : List Row) → KeepsTree rows rows
KeepsTree-refl [] = tt
KeepsTree-refl (row ∷ rows) = (refl, refl, refl, refl, KeepsTree-refl rows)

pub KeepsTree-chain : (xs ys zs : List Row) → KeepsTree xs ys → KeepsTree ys zs → KeepsTree xs zs
KeepsTree-chain [] [] [] h k = tt
KeepsTree-chain (x ∷ xs) (y ∷ ys) (z ∷ zs) h k = (k.0 ∙ h.0, k.1 ∙ h.1, k.2 ∙ h.2, k.3 ∙ h.3, KeepsTree-chain xs ys zs h.4 k.4)
KeepsTree-chain [] (y ∷ ys) zs h k = absurd h
KeepsTree-chain (x ∷ xs) [] zs h k = absurd h
KeepsTree-chain [] [] (z ∷ zs) h k = absurd k
KeepsTree-chain (x ∷ xs) (y ∷ ys) [] h k = absurd k

length-AreBetween : (old new states : List State) → AreBetween old new states → length states ≡ length old
length-AreBetween [] [] [] h = refl
length-AreBetween (o ∷ old) (n ∷ new) (s ∷ states) h = ap (λ k. suc k) (length-AreBetween old new states h.1)
length-AreBetween [] [] (s ∷ states) h = absurd h
length-AreBetween [] (n ∷ new) states h = absurd h
length-AreBetween (o ∷ old) [] states h = absurd h
length-AreBetween (o ∷ old) (n ∷ new) [] h = absurd h

-- so do rows with some states old and some new
pub Between-keeps : (old new rows : List Row) → Between old new rows → KeepsTree old rows
Between-keeps [] [] [] h = tt
Between-keeps (o ∷ old) (n ∷ new) (row ∷ rows) h =
    (ap (λ (r : Row). r.tag) h.0, ap (λ (r : Row). r.parent) h.0, ap (λ (r : Row). r.made) h.0, length-AreBetween _ _ _ h.1, Between-keeps old new rows h.2)
Between-keeps [] [] (row ∷ rows) h = absurd h
Between-keeps [] (n ∷ new) rows h = absurd h
Between-keeps (o ∷ old) [] rows h = absurd h
Between-keeps (o ∷ old) (n ∷ new) [] h = absurd h

KeepsTree-reverse_aux : (old new a b : List Row) → KeepsTree old new → KeepsTree a b → KeepsTree (reverse_aux old a) (reverse_aux new b)
KeepsTree-reverse_aux [] [] a b h more = more
KeepsTree-reverse_aux (o ∷ old) (n ∷ new) a b h more = KeepsTree-reverse_aux old new (o ∷ a) (n ∷ b) h.4 (h.0, h.1, h.2, h.3, more)
KeepsTree-reverse_aux [] (n ∷ new) a b h more = absurd h
KeepsTree-reverse_aux (o ∷ old) [] a b h more = absurd h

-- the same tags have rows
pub list_any-KeepsTree : (old new : List Row) (t : ℕ) → KeepsTree old new → list_any (is_tag t) new ≡ list_any (is_tag t) old
list_any-KeepsTree [] [] t h = refl
list_any-KeepsTree (o ∷ old) (n ∷ new) t h = rw (h.0, list_any-KeepsTree old new t h.4) refl
list_any-KeepsTree [] (n ∷ new) t h = absurd h
list_any-KeepsTree (o ∷ old) [] t h = absurd h

pub HasTag-kept : (old new : List Row) (t : ℕ) → KeepsTree old new → HasTag old t → HasTag new t
HasTag-kept old new t h has = list_any-KeepsTree old new t h ∙ has

-- a test of tags alone holds of all rows as before
pub All_tags-kept : (P : ℕ → Type 0) (old new : List Row) → KeepsTree old new → AllByRecursion (λ (row : Row). P row.tag) old → AllByRecursion (λ (row : Row). P row.tag) new
All_tags-kept P [] [] h all = tt
All_tags-kept P (o ∷ old) (n ∷ new) h all = (subst P (sym h.0) all.0, All_tags-kept P old new h.4 all.1)
All_tags-kept P [] (n ∷ new) h all = absurd h
All_tags-kept P (o ∷ old) [] h all = absurd h

path_from-kept : (old new : List Row) (asked : Option ℕ) (u : ℕ) → KeepsTree old new → list_any (is_tag u) (path_from new asked) ≡ list_any (is_tag u) (path_from old asked)
path_from-kept [] [] asked u h = refl
path_from-kept (o ∷ old) (n ∷ new) None u h = path_from-kept old new None u h.4
path_from-kept (o ∷ old) (n ∷ new) (Some t) u h =
    at (path_from-kept old new o.parent u h.4) (path_from-kept old new (Some t) u h.4) (n.tag == t) (o.tag == t) (ap (λ k. k == t) h.0)
  where
    at : list_any (is_tag u) (path_from new o.parent) ≡ list_any (is_tag u) (path_from old o.parent) → list_any (is_tag u) (path_from new (Some t)) ≡ list_any (is_tag u) (path_from old (Some t)) → (b c : Bool) → b ≡ c → list_any (is_tag u) (cond b (n ∷ path_from new n.parent) (path_from new (Some t))) ≡ list_any (is_tag u) (cond c (o ∷ path_from old o.parent) (path_from old (Some t)))
    at up on true true e = rw (h.0, h.1, up) refl
    at up on false false e = on
    at up on true false e = cc
    at up on false true e = cc
path_from-kept [] (n ∷ new) asked u h = absurd h
path_from-kept (o ∷ old) [] asked u h = absurd h

-- a tag has the same ancestors
pub is_on_path-kept : (old new : List Row) (t u : ℕ) → KeepsTree old new → is_on_path new t u ≡ is_on_path old t u
is_on_path-kept old new t u h = path_from-kept (reverse old) (reverse new) (Some t) u (KeepsTree-reverse_aux old new [] [] h tt)

IsNext-kept : (old new : List Row) (o n : Row) → KeepsTree old new → n.tag ≡ o.tag → n.parent ≡ o.parent → IsNext old o → IsNext new n
IsNext-kept old new o n h tag parent next =
    record {
      above = rw tag (All_tags-kept (λ t. t < o.tag) old new h next.above);
      parent = next.parent;
      is_parent = parent ∙ next.is_parent;
      has_parent = HasTag-kept old new next.parent h next.has_parent;
    }

pub IsGrown-kept : (old new : List Row) → KeepsTree old new → IsGrown old → IsGrown new
IsGrown-kept [] [] h grown = grown
IsGrown-kept (o ∷ []) (n ∷ []) h grown = h.1 ∙ grown
IsGrown-kept (o ∷ p ∷ old) (n ∷ q ∷ new) h grown =
    (IsNext-kept (p ∷ old) (q ∷ new) o n h.4 h.0 h.1 grown.0, IsGrown-kept (p ∷ old) (q ∷ new) h.4 grown.1)
IsGrown-kept [] (n ∷ new) h grown = absurd h
IsGrown-kept (o ∷ old) [] h grown = absurd h
IsGrown-kept (o ∷ []) (n ∷ q ∷ new) h grown = absurd h.4
IsGrown-kept (o ∷ p ∷ old) (n ∷ []) h grown = absurd h.4

pub sized-kept : (size : ℕ) (old new : List Row) → KeepsTree old new → AllByRecursion (λ (row : Row). length row.states ≡ size) old → AllByRecursion (λ (row : Row). length row.states ≡ size) new
sized-kept size [] [] h all = tt
sized-kept size (o ∷ old) (n ∷ new) h all = (h.3 ∙ all.0, sized-kept size old new h.4 all.1)
sized-kept size [] (n ∷ new) h all = absurd h
sized-kept size (o ∷ old) [] h all = absurd h

-- rows of an allocation stay rows of an allocation
pub IsRows-kept : (size : ℕ) (old new : List Row) → KeepsTree old new → IsRows size old → IsRows size new
IsRows-kept size old new h is =
    record {
      grown = IsGrown-kept (reverse old) (reverse new) (KeepsTree-reverse_aux old new [] [] h tt) is.grown;
      sized = sized-kept size old new h is.sized;
    }

pub IsRows-after : (size : ℕ) (event : Event) (rows : List Row) → IsRows size rows → IsRows size (after event rows)
IsRows-after size event rows = IsRows-kept size rows (after event rows) (after-keeps event rows)

pub IsRows-unguarded : (size : ℕ) (rows : List Row) (t : ℕ) → IsRows size rows → IsRows size (unguarded rows t)
IsRows-unguarded size rows t = IsRows-kept size rows (unguarded rows t) (unguarded-keeps rows t)

pub HasTag-after : (event : Event) (rows : List Row) (t : ℕ) → HasTag rows t → HasTag (after event rows) t
HasTag-after event rows t = HasTag-kept rows (after event rows) t (after-keeps event rows)

pub HasTag-unguarded : (rows : List Row) (u t : ℕ) → HasTag rows t → HasTag (unguarded rows u) t
HasTag-unguarded rows u t = HasTag-kept rows (unguarded rows u) t (unguarded-keeps rows u)

-- the rows that an allocation begins with
pub IsRows-root : (tag size : ℕ) (made : Span) → IsRows size (root_row tag size made ∷ [])
IsRows-root tag size made = record { grown = refl; sized = (length-replicate size _, tt) }

pub AllByRecursion-reverse_aux : (P : Row → Type 0) (xs ys : List Row) → AllByRecursion P xs → AllByRecursion P ys → AllByRecursion P (reverse_aux xs ys)
AllByRecursion-reverse_aux P [] ys all more = more
AllByRecursion-reverse_aux P (x ∷ xs) ys all more = AllByRecursion-reverse_aux P xs (x ∷ ys) all.1 (all.0, more)

or_moved : (a b c : Bool) → (b || (a || c)) ≡ ((a || b) || c)
or_moved true true c = refl
or_moved true false c = refl
or_moved false true c = refl
or_moved false false c = refl

pub list_any-reverse_aux : (p : Row → Bool) (xs ys : List Row) → list_any p (reverse_aux xs ys) ≡ (list_any p xs || list_any p ys)
list_any-reverse_aux p [] ys = refl
list_any-reverse_aux p (x ∷ xs) ys = list_any-reverse_aux p xs (x ∷ ys) ∙ or_moved (p x) (list_any p xs) (list_any p ys)

-- the order in which the rows are read tells the same of their tags
pub HasTag-reverse : (rows : List Row) (t : ℕ) → HasTag rows t → HasTag (reverse rows) t
HasTag-reverse rows t has = list_any-reverse_aux (is_tag t) rows [] ∙ or_left _ _ has

-- a row may come next
pub IsGrown-next : (older : List Row) (row : Row) → IsNext older row → IsGrown older → IsGrown (row ∷ older)
IsGrown-next [] row next grown = absurd grown
IsGrown-next (p ∷ older) row next grown = (next, grown)

pub AllByRecursion-append : (P : Row → Type 0) (xs ys : List Row) → AllByRecursion P xs → AllByRecursion P ys → AllByRecursion P (xs ++ ys)
AllByRecursion-append P [] ys all more = more
AllByRecursion-append P (x ∷ xs) ys all more = (all.0, AllByRecursion-append P xs ys all.1 more)

-- a row whose tag is above all others, below a tag of the tree
pub IsRows-append : (size : ℕ) (rows : List Row) (row : Row) (parent : ℕ) → IsRows size rows → AllByRecursion (λ (o : Row). o.tag < row.tag) rows → row.parent ≡ Some parent → HasTag rows parent → length row.states ≡ size → IsRows size (rows ++ row ∷ [])
IsRows-append size rows row parent is above is_parent has sized =
    record {
      grown = rw (reverse-append rows (row ∷ [])) (IsGrown-next (reverse rows) row next is.grown);
      sized = AllByRecursion-append _ rows (row ∷ []) is.sized (sized, tt);
    }
  where
    next : IsNext (reverse rows) row
    next =
        record {
          above = AllByRecursion-reverse_aux _ rows [] above tt;
          parent = parent;
          is_parent = is_parent;
          has_parent = HasTag-reverse rows parent has;
        }

pub IsRows-reborrowed : (size : ℕ) (rows : List Row) (new : NewTag) → IsRows size rows → HasTag rows new.parent.0 → All (λ (row : Row). row.tag < new.tag.0) rows → IsRows size (reborrowed rows size new)
IsRows-reborrowed size rows new is has above =
    IsRows-append size (reborrowed_rows rows new) (new_row size new) new.parent.0
    (IsRows-after size (reborrow_event new) rows is)
    (All_tags-kept (λ t. t < new.tag.0) rows _ (after-keeps (reborrow_event new) rows) (recursion_from_All (λ (row : Row). row.tag < new.tag.0) rows above))
    refl
    (HasTag-after (reborrow_event new) rows new.parent.0 has)
    (length-map-range_with_len (new_state new) 0 size)

-- after a reborrow the earlier tags are there, and the new one
pub HasTag-reborrowed : (size : ℕ) (rows : List Row) (new : NewTag) (t : ℕ) → HasTag rows t → HasTag (reborrowed rows size new) t
HasTag-reborrowed size rows new t has =
    list_any-append (is_tag t) (reborrowed_rows rows new) (new_row size new ∷ []) ∙ or_left _ _ (HasTag-after (reborrow_event new) rows t has)

pub HasTag-made : (size : ℕ) (rows : List Row) (new : NewTag) → HasTag (reborrowed rows size new) new.tag.0
HasTag-made size rows new = list_any-append (is_tag new.tag.0) (reborrowed_rows rows new) (new_row size new ∷ []) ∙ rw same (or_last (list_any (is_tag new.tag.0) (reborrowed_rows rows new)))
  where
    same : (new.tag.0 == new.tag.0) ≡ true
    same = eq-eqb new.tag.0 new.tag.0 refl

    or_last : (a : Bool) → (a || (true || false)) ≡ true
    or_last true = refl
    or_last false = refl

AreBetween-old : (old new : List State) → length new ≡ length old → AreBetween old new old
AreBetween-old [] [] h = tt
AreBetween-old (o ∷ old) (n ∷ new) h = (inl refl, AreBetween-old old new (omega (arith, h)))
AreBetween-old [] (n ∷ new) h = absurd (omega (arith, h))
AreBetween-old (o ∷ old) [] h = absurd (omega (arith, h))

-- rows that nothing has changed are between the old and the new ones
pub Between-old : (old new : List Row) → KeepsTree old new → Between old new old
Between-old [] [] h = tt
Between-old (o ∷ old) (n ∷ new) h = (refl, AreBetween-old o.states n.states h.3, Between-old old new h.4)
Between-old [] (n ∷ new) h = absurd h
Between-old (o ∷ old) [] h = absurd h

pub Between-old_after : (event : Event) (rows : List Row) → Between rows (after event rows) rows
Between-old_after event rows = Between-old rows (after event rows) (after-keeps event rows)
