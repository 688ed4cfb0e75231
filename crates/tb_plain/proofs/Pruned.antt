-- What the pruning calls find and leave.
use Rattle.std.proofs.Common.{◌≡◌, ◌∙◌, ◌≢◌, ◌||◌, ◌&&◌, ℕ, suc, ◌+◌, ◌<◌, ◌≤◌, Bool, true, false, cond, List, [], ◌∷◌, length, map, filter, refl, ap, sym, subst, arith, Option, Some, None, find, ◌==◌, slice_index_or, All}
use Rattle.std.specs.Prelude.{option_map, option_and_then, unwrap_or, IsSome, count_by}
use Rattle.std.specs.List.{AllByRecursion}
use Rattle.std.proofs.lemmas.Bool.{eqb-true, eq-eqb, lt-ltb, ltb-false, ne_eqb}
use Rattle.tb_perm.specs.Covers.{Covers}
use Rattle.std.proofs.lemmas.List.Elements.{All-from_recursion}
use Rattle.std.proofs.lemmas.List.Sums.{sum_by-cons}
use Rattle.tb_perm.specs.declared.tag.Tag.{Tag}
use Rattle.tb_perm.specs.declared.perm.State.{State}
use Rattle.tb_perm.specs.declared.perm.Perm.TheVariants.{Disabled}
use Rattle.tb_perm.specs.Rows.{Row, HasTag, IsRows, state_at}
use Rattle.tb_perm.specs.Pruning.{is_noted, parent_in, IsLeaf, IsOnlyChild, perm_in, Folds}
use Rattle.tb_shape.specs.Tree.{Keys, parent_of, is_child_of, AreChildren}
use Rattle.tb_plain.specs.declared.row.PlainRow.{PlainRow}
use Rattle.tb_plain.specs.Plain.{row_in, rows_in, IsPlain, notes_of}
use Rattle.tb_perm.specs.Rows.{tags}
use Rattle.tb_plain.specs.Sweep.{is_plain, HasPlain, contains, plain_state}
use Rattle.tb_plain.specs.Pruning.{tags_of, noted_plain, cleared_plain, is_lesser, IsGreatest}
use Rattle.tb_perm.proofs.PathTags.{any_tags}
use Rattle.tb_plain.proofs.Paths.{find-rows_in, parent_in-tree}
use Rattle.tb_plain.proofs.Fitting.{tags-rows_in, row_sized}

-- a note changes no row of the tree
pub rows-noted : (tree : Keys) (rows : List PlainRow) (t : ℕ) → rows_in tree (map (noted_plain t) rows) ≡ rows_in tree rows
rows-noted tree [] t = refl
rows-noted tree (r ∷ rows) t = ap (λ x. x ∷ rows_in tree (map (noted_plain t) rows)) (at (is_plain t r)) ∙ ap (λ xs. row_in tree r ∷ xs) (rows-noted tree rows t)
  where
    at : (b : Bool) → row_in tree (cond b (record r { noted = true }) r) ≡ row_in tree r
    at true = refl
    at false = refl

pub rows-cleared : (tree : Keys) (rows : List PlainRow) → rows_in tree (map cleared_plain rows) ≡ rows_in tree rows
rows-cleared tree [] = refl
rows-cleared tree (r ∷ rows) = ap (λ xs. row_in tree r ∷ xs) (rows-cleared tree rows)

-- plain rows that stand for the same rows
pub IsPlain-same : (tree : Keys) (rows now : List PlainRow) (size : ℕ) → IsPlain tree rows size → rows_in tree now ≡ rows_in tree rows → IsPlain tree now size
IsPlain-same tree rows now size is same =
    record {
      sound = subst (IsRows size) (sym same) is.sound;
      keys = is.keys ∙ sym (tags-rows_in tree rows) ∙ sym (ap tags same) ∙ tags-rows_in tree now;
    }

pub notes-cleared : (rows : List PlainRow) → notes_of (map cleared_plain rows) ≡ []
notes-cleared [] = refl
notes-cleared (r ∷ rows) = notes-cleared rows

or_right : (a b : Bool) → b ≡ true → (a || b) ≡ true
or_right true b h = refl
or_right false b h = h

or_left : (a b : Bool) → a ≡ true → (a || b) ≡ true
or_left a b h = ap (λ c. c || b) h

head_note : (n : Bool) (k u : ℕ) (ks : List ℕ) → is_noted (cond n (k ∷ ks) ks) u ≡ ((n && (k == u)) || is_noted ks u)
head_note true k u ks = refl
head_note false k u ks = refl

notes_head : (r : PlainRow) (rows : List PlainRow) → notes_of (r ∷ rows) ≡ cond r.noted (r.tag.0 ∷ notes_of rows) (notes_of rows)
notes_head r rows = at r.noted
  where
    at : (b : Bool) → map (λ (x : PlainRow). x.tag.0) (cond b (r ∷ filter (λ (x : PlainRow). x.noted) rows) (filter (λ (x : PlainRow). x.noted) rows)) ≡ cond b (r.tag.0 ∷ notes_of rows) (notes_of rows)
    at true = refl
    at false = refl

notes_cons : (r : PlainRow) (rows : List PlainRow) (u : ℕ) → is_noted (notes_of (r ∷ rows)) u ≡ ((r.noted && (r.tag.0 == u)) || is_noted (notes_of rows) u)
notes_cons r rows u = ap (λ ks. is_noted ks u) (notes_head r rows) ∙ head_note r.noted r.tag.0 u (notes_of rows)

-- the tag is noted then
pub noted_now : (rows : List PlainRow) (t : ℕ) → contains (tags_of rows) t ≡ true → is_noted (notes_of (map (noted_plain t) rows)) t ≡ true
noted_now [] t has = absurd (cc)
noted_now (r ∷ rows) t has = notes_cons (noted_plain t r) (map (noted_plain t) rows) t ∙ at (is_plain t r) refl has (noted_now rows t)
  where
    at : (b : Bool) → (r.tag.0 == t) ≡ b → (b || contains (tags_of rows) t) ≡ true → (contains (tags_of rows) t ≡ true → is_noted (notes_of (map (noted_plain t) rows)) t ≡ true) → (((cond b (record r { noted = true }) r).noted && ((cond b (record r { noted = true }) r).tag.0 == t)) || is_noted (notes_of (map (noted_plain t) rows)) t) ≡ true
    at true is has later = or_left (r.tag.0 == t) _ is
    at false is has later = or_right (r.noted && (r.tag.0 == t)) _ (later has)

-- and no other tag's note changes
pub noted_others : (rows : List PlainRow) (t u : ℕ) → u ≢ t → is_noted (notes_of (map (noted_plain t) rows)) u ≡ is_noted (notes_of rows) u
noted_others [] t u differs = refl
noted_others (r ∷ rows) t u differs = notes_cons (noted_plain t r) (map (noted_plain t) rows) u ∙ at (is_plain t r) refl (noted_others rows t u differs) ∙ sym (notes_cons r rows u)
  where
    no_note : (n b : Bool) → b ≡ false → (n && b) ≡ false
    no_note true b h = h
    no_note false b h = refl

    at : (b : Bool) → (r.tag.0 == t) ≡ b → is_noted (notes_of (map (noted_plain t) rows)) u ≡ is_noted (notes_of rows) u → (((cond b (record r { noted = true }) r).noted && ((cond b (record r { noted = true }) r).tag.0 == u)) || is_noted (notes_of (map (noted_plain t) rows)) u) ≡ ((r.noted && (r.tag.0 == u)) || is_noted (notes_of rows) u)
    at true is later =
        let away : (r.tag.0 == u) ≡ false = ne_eqb r.tag.0 u (λ same. differs (sym same ∙ eqb-true r.tag.0 t is)) in
        ap (λ b. b || is_noted (notes_of (map (noted_plain t) rows)) u) (no_note true _ away) ∙ later ∙ sym (ap (λ b. b || is_noted (notes_of rows) u) (no_note r.noted _ away))
    at false is later = ap (λ b. (r.noted && (r.tag.0 == u)) || b) later

-- the greatest tags, said of the rows of the tree
each_in : (P : ℕ → Type 0) (tree : Keys) (rows : List PlainRow) → AllByRecursion (λ (r : PlainRow). P r.tag.0) rows → AllByRecursion (λ (row : Row). P row.tag) (rows_in tree rows)
each_in P tree [] all = tt
each_in P tree (x ∷ xs) all = (all.0, each_in P tree xs all.1)

pub all_in : (P : ℕ → Type 0) (tree : Keys) (rows : List PlainRow) → AllByRecursion (λ (r : PlainRow). P r.tag.0) rows → All (λ (row : Row). P row.tag) (rows_in tree rows)
all_in P tree rows all = All-from_recursion (λ (row : Row). P row.tag) (rows_in tree rows) (each_in P tree rows all)

pub has_tag_of : (tree : Keys) (rows : List PlainRow) (t : ℕ) → contains (tags_of rows) t ≡ true → HasTag (rows_in tree rows) t
has_tag_of tree rows t has = any_tags (rows_in tree rows) t ∙ ap (λ ks. contains ks t) (tags-rows_in tree rows) ∙ has

child_is : (t : ℕ) (o : Option ℕ) → cond {A = ℕ} (is_child_of t o) 1 0 ≡ 0 → o ≢ Some t
child_is t None zero_is same = cc
child_is t (Some p) zero_is same =
    let eq : p ≡ t = cc in
    let one : cond {A = ℕ} (p == t) 1 0 ≡ 1 = ap (λ b. cond {A = ℕ} b 1 0) (eq-eqb p t eq) in
    omega (arith, one, zero_is)

child_one : (t : ℕ) (o : Option ℕ) → cond {A = ℕ} (is_child_of t o) 1 0 ≡ 1 → o ≡ Some t
child_one t None one = absurd (omega (arith, one))
child_one t (Some p) one = at (p == t) refl one
  where
    at : (b : Bool) → (p == t) ≡ b → cond {A = ℕ} b 1 0 ≡ 1 → Some p ≡ Some t
    at true is one = ap Some (eqb-true p t is)
    at false is one = absurd (omega (arith, one))

one_child : (t : ℕ) (o : Option ℕ) → o ≡ Some t → cond {A = ℕ} (is_child_of t o) 1 0 ≡ 1
one_child t o is = ap (λ p. cond {A = ℕ} (is_child_of t p) 1 0) is ∙ ap (λ b. cond {A = ℕ} b 1 0) (eq-eqb t t refl)

count_cons : (x u : ℕ) (xs : List ℕ) → count_by (λ k. k == u) (x ∷ xs) ≡ cond {A = ℕ} (x == u) 1 0 + count_by (λ k. k == u) xs
count_cons x u xs = sum_by-cons (λ k. cond (k == u) 1 0) x xs

count_self : (x : ℕ) → cond {A = ℕ} (x == x) 1 0 ≡ 1
count_self x = ap (λ b. cond {A = ℕ} b 1 0) (eq-eqb x x refl)

-- no children, one, and more
pub leaf_none : (tree : Keys) (t : ℕ) → AreChildren tree t [] → (u : ℕ) → parent_of tree u ≢ Some t
leaf_none tree t children u = child_is t (parent_of tree u) (sym (children u))

pub leaf_some : (tree : Keys) (t c : ℕ) (cs : List ℕ) → AreChildren tree t (c ∷ cs) → parent_of tree c ≡ Some t
leaf_some tree t c cs children = child_one t (parent_of tree c) (at (is_child_of t (parent_of tree c)) (children c))
  where
    at : (b : Bool) → count_by (λ k. k == c) (c ∷ cs) ≡ cond b 1 0 → cond {A = ℕ} b 1 0 ≡ 1
    at true counted = refl
    at false counted = absurd (omega (arith, counted, count_cons c c cs, count_self c))

pub only_one : (tree : Keys) (t c u : ℕ) → AreChildren tree t (c ∷ []) → parent_of tree u ≡ Some t → u ≡ c
only_one tree t c u children is = at (c == u) refl
  where
    at : (b : Bool) → (c == u) ≡ b → u ≡ c
    at true same = sym (eqb-true c u same)
    at false differs =
        let counted : cond {A = ℕ} (c == u) 1 0 + count_by (λ k. k == u) [] ≡ 1 = sym (count_cons c u []) ∙ children u ∙ one_child t (parent_of tree u) is in
        let zero_is : cond {A = ℕ} (c == u) 1 0 ≡ 0 = ap (λ b. cond {A = ℕ} b 1 0) differs in
        absurd (omega (arith, counted, zero_is))

pub never_only : (tree : Keys) (t c d : ℕ) (cs : List ℕ) → AreChildren tree t (c ∷ d ∷ cs) → (u : ℕ) → ((v : ℕ) → parent_of tree v ≡ Some t → v ≡ u) → ⊥
never_only tree t c d cs children u only =
    let first : c ≡ u = only c (leaf_some tree t c (d ∷ cs) children) in
    let whole : count_by (λ k. k == d) (c ∷ d ∷ cs) ≡ cond {A = ℕ} (c == d) 1 0 + (cond {A = ℕ} (d == d) 1 0 + count_by (λ k. k == d) cs) = count_cons c d (d ∷ cs) ∙ ap (λ n. cond {A = ℕ} (c == d) 1 0 + n) (count_cons d d cs) in
    let second : parent_of tree d ≡ Some t = child_one t (parent_of tree d) (at (is_child_of t (parent_of tree d)) (children d)) in
    let same : c ≡ d = first ∙ sym (only d second) in
    let twice : cond {A = ℕ} (c == d) 1 0 ≡ 1 = ap (λ b. cond {A = ℕ} b 1 0) (eq-eqb c d same) in
    omega (arith, whole, twice, count_self d, children d, one_child t (parent_of tree d) second)
  where
    at : (b : Bool) → count_by (λ k. k == d) (c ∷ d ∷ cs) ≡ cond b 1 0 → cond {A = ℕ} b 1 0 ≡ 1
    at true counted = refl
    at false counted = absurd (omega (arith, counted, count_cons c d (d ∷ cs), count_cons d d cs, count_self d))

-- a tag's permission, by its plain row
pub perm_in-row : (tree : Keys) (rows : List PlainRow) (t byte : ℕ) (r : PlainRow) → find (is_plain t) rows ≡ Some r → perm_in (rows_in tree rows) t byte ≡ (plain_state r byte).perm
perm_in-row tree rows t byte r found =
    ap (λ o. (unwrap_or (option_map (λ row. state_at row byte) o) (record { perm = Disabled; accessed = false })).perm) (find-rows_in tree rows t ∙ ap (option_map (row_in tree)) found)

-- whether there are children tells whether a key is a leaf
pub leaf_tells : (tree : Keys) (t : ℕ) (cs : List ℕ) (b : Bool) → AreChildren tree t cs → b ≡ (length cs == 0) → (b ≡ true → (u : ℕ) → parent_of tree u ≢ Some t) × (((u : ℕ) → parent_of tree u ≢ Some t) → b ≡ true)
leaf_tells tree t [] b children is = (λ h. leaf_none tree t children, λ leaf. is ∙ eq-eqb 0 0 refl)
leaf_tells tree t (c ∷ cs) b children is = (
  λ h. let clash : false ≡ true = sym (ne_eqb (suc (length cs)) 0 (λ same. absurd (omega (arith, same)))) ∙ sym is ∙ h in absurd (cc),
  λ leaf. absurd (leaf c (leaf_some tree t c cs children)),
)

-- leaves and only children in the rows
pub leaf_in : (tree : Keys) (rows : List PlainRow) (size t : ℕ) → IsPlain tree rows size → ((u : ℕ) → parent_of tree u ≢ Some t) → IsLeaf (rows_in tree rows) t
leaf_in tree rows size t is leaf u same = leaf u (sym (parent_in-tree tree rows size u is) ∙ same)

pub leaf_out : (tree : Keys) (rows : List PlainRow) (size t : ℕ) → IsPlain tree rows size → IsLeaf (rows_in tree rows) t → (u : ℕ) → parent_of tree u ≢ Some t
leaf_out tree rows size t is leaf u same = leaf u (parent_in-tree tree rows size u is ∙ same)

pub only_in : (tree : Keys) (rows : List PlainRow) (size t c : ℕ) (cs : List ℕ) → IsPlain tree rows size → AreChildren tree t cs → cs ≡ c ∷ [] → IsOnlyChild (rows_in tree rows) t c
only_in tree rows size t c cs is children one =
    let single : AreChildren tree t (c ∷ []) = subst (AreChildren tree t) one children in
    (parent_in-tree tree rows size c is ∙ leaf_some tree t c [] single, λ u up. only_one tree t c u single (sym (parent_in-tree tree rows size u is) ∙ up))

pub never_in : (tree : Keys) (rows : List PlainRow) (size t : ℕ) (cs : List ℕ) → IsPlain tree rows size → AreChildren tree t cs → length cs ≢ 1 → (c : ℕ) → IsOnlyChild (rows_in tree rows) t c → ⊥
never_in tree rows size t [] is children not_one c only = leaf_none tree t children c (sym (parent_in-tree tree rows size c is) ∙ only.0)
never_in tree rows size t (x ∷ []) is children not_one c only = not_one refl
never_in tree rows size t (x ∷ y ∷ cs) is children not_one c only = never_only tree t x y cs children c (λ v up. only.1 v (parent_in-tree tree rows size v is ∙ up))

-- some tag is the greatest
pub never_none : (tree : Keys) (rows : List PlainRow) (size : ℕ) → IsPlain tree rows size → IsGreatest None rows None → ⊥
never_none tree [] size is none = is.sound.grown
never_none tree (r ∷ rows) size is none = let clash : true ≡ false = none.0 in cc

mapped : (P Q : PlainRow → Type 0) (rows : List PlainRow) → ((r : PlainRow) → P r → Q r) → AllByRecursion P rows → AllByRecursion Q rows
mapped P Q [] f all = tt
mapped P Q (r ∷ rows) f all = (f r all.0, mapped P Q rows f all.1)

pub greatest_all : (tree : Keys) (rows : List PlainRow) (best : Tag) → IsGreatest None rows (Some best) → All (λ (row : Row). row.tag ≤ best.0) (rows_in tree rows)
greatest_all tree rows best is = all_in (λ k. k ≤ best.0) tree rows (mapped (λ (r : PlainRow). true ≡ true → r.tag.0 ≤ best.0) (λ (r : PlainRow). r.tag.0 ≤ best.0) rows (λ r below. below refl) is.2)

pub less_all : (tree : Keys) (rows : List PlainRow) (bound best : Tag) → IsGreatest (Some bound) rows (Some best) → All (λ (row : Row). row.tag < bound.0 → row.tag ≤ best.0) (rows_in tree rows)
less_all tree rows bound best is = all_in (λ k. k < bound.0 → k ≤ best.0) tree rows (mapped (λ (r : PlainRow). is_lesser (Some bound) r.tag ≡ true → r.tag.0 ≤ best.0) (λ (r : PlainRow). r.tag.0 < bound.0 → r.tag.0 ≤ best.0) rows (λ r below less. below (lt-ltb r.tag.0 bound.0 less)) is.2)

pub none_lesser : (tree : Keys) (rows : List PlainRow) (bound : Tag) → IsGreatest (Some bound) rows None → AllByRecursion (λ (row : Row). bound.0 ≤ row.tag) (rows_in tree rows)
none_lesser tree rows bound is = each_in (λ k. bound.0 ≤ k) tree rows (mapped (λ (r : PlainRow). is_lesser (Some bound) r.tag ≡ false) (λ (r : PlainRow). bound.0 ≤ r.tag.0) rows (λ r no_less. ltb-false r.tag.0 bound.0 no_less) is)

pub none_less : (tree : Keys) (rows : List PlainRow) (bound : Tag) → IsGreatest (Some bound) rows None → All (λ (row : Row). bound.0 ≤ row.tag) (rows_in tree rows)
none_less tree rows bound is = All-from_recursion (λ (row : Row). bound.0 ≤ row.tag) (rows_in tree rows) (none_lesser tree rows bound is)

-- what a comparison of all bytes tells of two tags
pub folds_tells : (tree : Keys) (rows : List PlainRow) (size t ch : ℕ) (g b : Bool) (r s : PlainRow) (xs ys : List State) → IsPlain tree rows size → find (is_plain t) rows ≡ Some r → find (is_plain ch) rows ≡ Some s → xs ≡ r.states → ys ≡ s.states
    → (b ≡ true → (byte : ℕ) → byte < length xs → Covers (slice_index_or xs byte (record { perm = Disabled; accessed = false })).perm (slice_index_or ys byte (record { perm = Disabled; accessed = false })).perm g)
    → (((byte : ℕ) → byte < length xs → Covers (slice_index_or xs byte (record { perm = Disabled; accessed = false })).perm (slice_index_or ys byte (record { perm = Disabled; accessed = false })).perm g) → b ≡ true)
    → (b ≡ true → Folds (rows_in tree rows) size t ch g) × (Folds (rows_in tree rows) size t ch g → b ≡ true)
folds_tells tree rows size t ch g b r s xs ys is found below is_xs is_ys to back = (
  λ h byte within. subst (λ p. Covers p (perm_in (rows_in tree rows) ch byte) g) (upper byte) (subst (λ q. Covers (slice_index_or xs byte (record { perm = Disabled; accessed = false })).perm q g) (lower byte) (to h byte (omega (arith, within, len)))),
  λ all. back (λ byte within. subst (λ p. Covers p (slice_index_or ys byte (record { perm = Disabled; accessed = false })).perm g) (sym (upper byte)) (subst (λ q. Covers (perm_in (rows_in tree rows) t byte) q g) (sym (lower byte)) (all byte (omega (arith, within, len))))),
)
  where
    len : length xs ≡ size
    len = ap length is_xs ∙ row_sized tree rows size t r is found

    upper : (byte : ℕ) → (slice_index_or xs byte (record { perm = Disabled; accessed = false })).perm ≡ perm_in (rows_in tree rows) t byte
    upper byte = ap (λ (zs : List State). (slice_index_or zs byte (record { perm = Disabled; accessed = false })).perm) is_xs ∙ sym (perm_in-row tree rows t byte r found)

    lower : (byte : ℕ) → (slice_index_or ys byte (record { perm = Disabled; accessed = false })).perm ≡ perm_in (rows_in tree rows) ch byte
    lower byte = ap (λ (zs : List State). (slice_index_or zs byte (record { perm = Disabled; accessed = false })).perm) is_ys ∙ sym (perm_in-row tree rows ch byte s below)

-- a tag with a parent has a row
pub row_of_child : (tree : Keys) (rows : List PlainRow) (t : ℕ) → IsSome (parent_in (rows_in tree rows) t) → HasPlain rows t
row_of_child tree rows t some = at (find (is_plain t) rows) (subst IsSome (ap (option_and_then (λ (row : Row). row.parent)) (find-rows_in tree rows t)) some)
  where
    at : (o : Option PlainRow) → IsSome (option_and_then (λ (row : Row). row.parent) (option_map (row_in tree) o)) → IsSome o
    at None some = some
    at (Some r) some = refl
