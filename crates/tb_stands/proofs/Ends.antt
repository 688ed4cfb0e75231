-- The end of a call on own rows and on eager rows.
use Rattle.std.proofs.Common.{◌≡◌, ◌∙◌, ◌≢◌, ◌&&◌, ℕ, ◌<◌, ◌≤◌, Bool, true, false, cond, List, [], ◌∷◌, map, filter, refl, ap, sym, subst, arith, Option, Some, None, find, ◌==◌}
use Rattle.std.specs.List.{AllByRecursion}
use Rattle.std.proofs.lemmas.Bool.{eqb-true, eq-eqb, ne_eqb, and_parts}
use Rattle.tb_perm.specs.declared.tag.Prov.{Prov}
use Rattle.tb_perm.specs.declared.report.Report.{Report}
use Rattle.tb_perm.specs.Rows.{Row, HasTag, unguarded}
use Rattle.tb_perm.specs.Release.{release_event, released, release_report}
use Rattle.tb_perm.specs.CallEnd.{AllocRows, is_live, with_rows, Ended, Ends, Refuses, and_then, unless_refused, release_in, release_one, release_all, unguard_one, unguard_all, call_end}
use Rattle.tb_perm.proofs.Kept.{HasTag-after}
use Rattle.tb_stands.specs.Stands.{Stands}
use Rattle.tb_stands.specs.Allocs.{reached_in, StandsAt, StandAll, StandFor, AreBelow, AreNumbered, IsKnown, EndsAlike}
use Rattle.tb_stands.proofs.Laws.{release_same, release_stands, unguarded_stands}

-- one allocation is changed
abbrev changed : Bool → (List Row → List Row) → AllocRows → AllocRows
changed b f alloc = cond b (record alloc { rows = f alloc.rows }) alloc

-- what holds of all allocations holds of the one that is found
found_alloc : (P : AllocRows → Type 0) (q : AllocRows → Bool) (allocs : List AllocRows) (a : AllocRows) → AllByRecursion P allocs → find q allocs ≡ Some a → P a × (q a ≡ true)
found_alloc P q [] a all found = cc
found_alloc P q (x ∷ allocs) a all found = at (q x) refl found (found_alloc P q allocs a all.1)
  where
    at : (b : Bool) → q x ≡ b → cond b (Some x) (find q allocs) ≡ Some a → (find q allocs ≡ Some a → P a × (q a ≡ true)) → P a × (q a ≡ true)
    at true is found later = let one : x ≡ a = cc in (subst P one all.0, ap q (sym one) ∙ is)
    at false is found later = later found

both_false : (a b : Bool) → b ≡ false → (a && b) ≡ false
both_false true b is = is
both_false false b is = refl

-- allocations of other numbers are not changed
with_away : (k : ℕ) (f : List Row → List Row) (allocs : List AllocRows) → AllByRecursion (λ (a : AllocRows). a.id ≢ k) allocs → with_rows k f allocs ≡ allocs
with_away k f [] away = refl
with_away k f (a ∷ allocs) away =
    ap (λ b. changed b f a ∷ with_rows k f allocs) (both_false a.live (a.id == k) (ne_eqb a.id k away.0)) ∙ ap (λ xs. a ∷ xs) (with_away k f allocs away.1)

away_with : (k n : ℕ) (f : List Row → List Row) (allocs : List AllocRows) → AllByRecursion (λ (a : AllocRows). a.id ≢ n) allocs → AllByRecursion (λ (a : AllocRows). a.id ≢ n) (with_rows k f allocs)
away_with k n f [] away = tt
away_with k n f (a ∷ allocs) away = (at (is_live k a), away_with k n f allocs away.1)
  where
    at : (b : Bool) → (changed b f a).id ≢ n
    at true = away.0
    at false = away.0

numbered_with : (k : ℕ) (f : List Row → List Row) (allocs : List AllocRows) → AreNumbered allocs → AreNumbered (with_rows k f allocs)
numbered_with k f [] numbered = tt
numbered_with k f (a ∷ allocs) numbered = (at (is_live k a), numbered_with k f allocs numbered.1)
  where
    at : (b : Bool) → AllByRecursion (λ (x : AllocRows). x.id ≢ (changed b f a).id) (with_rows k f allocs)
    at true = away_with k a.id f allocs numbered.0
    at false = away_with k a.id f allocs numbered.0

-- a change that keeps tags keeps what is known
known_with : (k : ℕ) (f : List Row → List Row) → ((rows : List Row) (t : ℕ) → HasTag rows t → HasTag (f rows) t) → (allocs : List AllocRows) (p : Prov) → IsKnown allocs p → IsKnown (with_rows k f allocs) p
known_with k f keeps [] p known = tt
known_with k f keeps (a ∷ allocs) p known = (at (is_live k a), known_with k f keeps allocs p known.1)
  where
    at : (b : Bool) → is_live p.alloc.0 (changed b f a) ≡ true → HasTag (changed b f a).rows p.tag.0
    at true live = keeps a.rows p.tag.0 (known.0 live)
    at false live = known.0 live

all_known_with : (k : ℕ) (f : List Row → List Row) → ((rows : List Row) (t : ℕ) → HasTag rows t → HasTag (f rows) t) → (allocs : List AllocRows) (ps : List Prov) → AllByRecursion (IsKnown allocs) ps → AllByRecursion (IsKnown (with_rows k f allocs)) ps
all_known_with k f keeps allocs [] known = tt
all_known_with k f keeps allocs (p ∷ ps) known = (known_with k f keeps allocs p known.0, all_known_with k f keeps allocs ps known.1)

away_same : (reached : List Prov) (k : ℕ) (owns eagers : List AllocRows) → StandAll reached owns eagers → AllByRecursion (λ (a : AllocRows). a.id ≢ k) owns → AllByRecursion (λ (a : AllocRows). a.id ≢ k) eagers
away_same reached k [] [] stand away = tt
away_same reached k (o ∷ owns) (a ∷ eagers) stand away = ((λ same. away.0 (stand.0.0 ∙ same)), away_same reached k owns eagers stand.1 away.1)
away_same reached k [] (a ∷ eagers) stand away = absurd stand
away_same reached k (o ∷ owns) [] stand away = absurd stand

live_same : (reached : List Prov) (k : ℕ) (o a : AllocRows) → StandsAt reached o a → is_live k o ≡ is_live k a
live_same reached k o a stand = ap (λ b. b && (o.id == k)) stand.2 ∙ ap (λ n. a.live && (n == k)) stand.0

changed_at : (reached : List Prov) (f : List Row → List Row) (o a : AllocRows) → StandsAt reached o a → (o.live ≡ true → Stands o.size (f o.rows) (f a.rows) (reached_in reached o.id)) → StandsAt reached (record o { rows = f o.rows }) (record a { rows = f a.rows })
changed_at reached f o a stand now = (stand.0, stand.1, stand.2, now)

-- a change of all allocations of a number, which every two that stand bear
with_each : (reached : List Prov) (k : ℕ) (f : List Row → List Row) → ((size : ℕ) (own rows : List Row) (tags : List ℕ) → Stands size own rows tags → Stands size (f own) (f rows) tags) → (owns eagers : List AllocRows) → StandAll reached owns eagers → StandAll reached (with_rows k f owns) (with_rows k f eagers)
with_each reached k f bears [] [] stand = tt
with_each reached k f bears (o ∷ owns) (a ∷ eagers) stand = (subst (λ b. StandsAt reached (changed (is_live k o) f o) (changed b f a)) (live_same reached k o a stand.0) (at (is_live k o)), with_each reached k f bears owns eagers stand.1)
  where
    at : (b : Bool) → StandsAt reached (changed b f o) (changed b f a)
    at true = changed_at reached f o a stand.0 (λ live. bears o.size o.rows a.rows (reached_in reached o.id) (stand.0.3 live))
    at false = stand.0
with_each reached k f bears [] (a ∷ eagers) stand = absurd stand
with_each reached k f bears (o ∷ owns) [] stand = absurd stand

-- the allocations of a number that are found
abbrev FoundAlike : List Prov → ℕ → (List Row → List Row) → (List Row → List Row) → List AllocRows → List AllocRows → Option AllocRows → Option AllocRows → Type 0
FoundAlike reached k f g owns eagers None None = Unit {0}
FoundAlike reached k f g owns eagers (Some o) (Some a) =
    StandsAt reached o a × (o.live ≡ true) × (Stands o.size (f o.rows) (g a.rows) (reached_in reached o.id) → StandAll reached (with_rows k f owns) (with_rows k g eagers))
FoundAlike reached k f g owns eagers None (Some a) = ⊥
FoundAlike reached k f g owns eagers (Some o) None = ⊥

find_alike : (reached : List Prov) (k : ℕ) (f g : List Row → List Row) (owns eagers : List AllocRows) → StandAll reached owns eagers → AreNumbered owns → FoundAlike reached k f g owns eagers (find (is_live k) owns) (find (is_live k) eagers)
find_alike reached k f g [] [] stand numbered = tt
find_alike reached k f g (o ∷ owns) (a ∷ eagers) stand numbered =
    at (is_live k o) refl (is_live k a) refl (sym (live_same reached k o a stand.0)) (find (is_live k) owns) (find (is_live k) eagers) (find_alike reached k f g owns eagers stand.1 numbered.1)
  where
    here : is_live k o ≡ true → is_live k a ≡ true → Stands o.size (f o.rows) (g a.rows) (reached_in reached o.id) → StandAll reached (with_rows k f (o ∷ owns)) (with_rows k g (a ∷ eagers))
    here live_o live_a now =
        let id : o.id ≡ k = eqb-true o.id k (and_parts o.live (o.id == k) live_o).1 in
        let away : AllByRecursion (λ (x : AllocRows). x.id ≢ k) owns = subst (λ n. AllByRecursion (λ (x : AllocRows). x.id ≢ n) owns) id numbered.0 in
        subst (λ xs. StandAll reached xs (with_rows k g (a ∷ eagers))) (sym (ap (λ b. changed b f o ∷ with_rows k f owns) live_o ∙ ap (λ xs. changed true f o ∷ xs) (with_away k f owns away)))
        (subst (λ xs. StandAll reached (changed true f o ∷ owns) xs) (sym (ap (λ b. changed b g a ∷ with_rows k g eagers) live_a ∙ ap (λ xs. changed true g a ∷ xs) (with_away k g eagers (away_same reached k owns eagers stand.1 away))))
        ((stand.0.0, stand.0.1, stand.0.2, λ live. now), stand.1))

    later : is_live k o ≡ false → is_live k a ≡ false → StandAll reached (with_rows k f owns) (with_rows k g eagers) → StandAll reached (with_rows k f (o ∷ owns)) (with_rows k g (a ∷ eagers))
    later dead_o dead_a rest =
        subst (λ xs. StandAll reached xs (with_rows k g (a ∷ eagers))) (sym (ap (λ b. changed b f o ∷ with_rows k f owns) dead_o))
        (subst (λ xs. StandAll reached (o ∷ with_rows k f owns) xs) (sym (ap (λ b. changed b g a ∷ with_rows k g eagers) dead_a))
        (stand.0, rest))

    pass : is_live k o ≡ false → is_live k a ≡ false → (x y : Option AllocRows) → FoundAlike reached k f g owns eagers x y → FoundAlike reached k f g (o ∷ owns) (a ∷ eagers) x y
    pass dead_o dead_a None None found = tt
    pass dead_o dead_a (Some x) (Some y) found = (found.0, found.1, λ now. later dead_o dead_a (found.2 now))
    pass dead_o dead_a None (Some y) found = absurd found
    pass dead_o dead_a (Some x) None found = absurd found

    at : (b : Bool) → is_live k o ≡ b → (d : Bool) → is_live k a ≡ d → is_live k a ≡ is_live k o → (x y : Option AllocRows) → FoundAlike reached k f g owns eagers x y → FoundAlike reached k f g (o ∷ owns) (a ∷ eagers) (cond b (Some o) x) (cond d (Some a) y)
    at true is_o true is_a same x y found = (stand.0, (and_parts o.live (o.id == k) is_o).0, here is_o is_a)
    at false is_o false is_a same x y found = pass is_o is_a x y found
    at true is_o false is_a same x y found = let clash : false ≡ true = sym is_a ∙ same ∙ is_o in cc
    at false is_o true is_a same x y found = let clash : true ≡ false = sym is_a ∙ same ∙ is_o in cc
find_alike reached k f g [] (a ∷ eagers) stand numbered = absurd stand
find_alike reached k f g (o ∷ owns) [] stand numbered = absurd stand

-- what is left, and the tags that are still to come
record Left (reached ps : List Prov) (owns eagers : List AllocRows) : Type 0 where
  stand : StandAll reached owns eagers
  numbered : AreNumbered owns
  known : AllByRecursion (IsKnown owns) ps

abbrev LeftAlike : List Prov → List Prov → Ended → Ended → Type 0
LeftAlike reached ps (Ends owns) (Ends eagers) = Left reached ps owns eagers
LeftAlike reached ps (Refuses own report owns) (Refuses eager told eagers) = (own ≡ eager) × (report ≡ told) × StandAll reached owns eagers
LeftAlike reached ps (Ends owns) (Refuses eager told eagers) = ⊥
LeftAlike reached ps (Refuses own report owns) (Ends eagers) = ⊥

release_alike : (reached ps : List Prov) (p : Prov) (owns eagers : List AllocRows) → Left reached ps owns eagers → IsKnown owns p → LeftAlike reached ps (release_one p owns) (release_one p eagers)
release_alike reached ps p owns eagers left known =
    at (find (is_live p.alloc.0) owns) refl (find (is_live p.alloc.0) eagers) (find_alike reached p.alloc.0 (λ rows. released rows p.tag.0) (λ rows. released rows p.tag.0) owns eagers left.stand left.numbered)
  where
    told : (o a : AllocRows) → StandsAt reached o a → o.live ≡ true → HasTag o.rows p.tag.0
        → (Stands o.size (released o.rows p.tag.0) (released a.rows p.tag.0) (reached_in reached o.id) → StandAll reached (with_rows p.alloc.0 (λ rows. released rows p.tag.0) owns) (with_rows p.alloc.0 (λ rows. released rows p.tag.0) eagers))
        → (r s : Option Report) → release_report o.rows o.size p.tag.0 ≡ r → r ≡ s → LeftAlike reached ps (unless_refused p owns r) (unless_refused p eagers s)
    told o a stand live has change None None none same =
        record {
          stand = change (release_stands o.size o.rows a.rows (reached_in reached o.id) p.tag.0 (stand.3 live) has none);
          numbered = numbered_with p.alloc.0 (λ rows. released rows p.tag.0) owns left.numbered;
          known = all_known_with p.alloc.0 (λ rows. released rows p.tag.0) (λ rows t. HasTag-after (release_event rows p.tag.0) rows t) owns ps left.known;
        }
    told o a stand live has change (Some r) (Some s) is same = (refl, (let one : r ≡ s = cc in one), left.stand)
    told o a stand live has change None (Some s) is same = cc
    told o a stand live has change (Some r) None is same = cc

    at : (x : Option AllocRows) → find (is_live p.alloc.0) owns ≡ x → (y : Option AllocRows) → FoundAlike reached p.alloc.0 (λ rows. released rows p.tag.0) (λ rows. released rows p.tag.0) owns eagers x y → LeftAlike reached ps (release_in p owns x) (release_in p eagers y)
    at None is None found = left
    at None is (Some a) found = absurd found
    at (Some o) is None found = absurd found
    at (Some o) is (Some a) found =
        let here = found_alloc (λ (alloc : AllocRows). is_live p.alloc.0 alloc ≡ true → HasTag alloc.rows p.tag.0) (is_live p.alloc.0) owns o known is in
        let has : HasTag o.rows p.tag.0 = here.0 here.1 in
        told o a found.0 found.1 has found.2 (release_report o.rows o.size p.tag.0) (release_report a.rows a.size p.tag.0) refl
        (release_same o.size o.rows a.rows (reached_in reached o.id) p.tag.0 (found.0.3 found.1) has ∙ ap (λ n. release_report a.rows n p.tag.0) found.0.1)

releases_alike : (reached ps : List Prov) (owns eagers : List AllocRows) → Left reached ps owns eagers → EndsAlike reached (release_all ps owns) (release_all ps eagers)
releases_alike reached [] owns eagers left = left.stand
releases_alike reached (p ∷ ps) owns eagers left =
    at (release_one p owns) (release_one p eagers) (release_alike reached ps p owns eagers (record { stand = left.stand; numbered = left.numbered; known = left.known.1 }) left.known.0) (λ x y. releases_alike reached ps x y)
  where
    at : (x y : Ended) → LeftAlike reached ps x y → ((os es : List AllocRows) → Left reached ps os es → EndsAlike reached (release_all ps os) (release_all ps es)) → EndsAlike reached (and_then x (release_all ps)) (and_then y (release_all ps))
    at (Ends os) (Ends es) alike later = later os es alike
    at (Refuses i r os) (Refuses j s es) alike later = alike
    at (Ends os) (Refuses j s es) alike later = absurd alike
    at (Refuses i r os) (Ends es) alike later = absurd alike

unguards_alike : (reached ps : List Prov) (owns eagers : List AllocRows) → StandAll reached owns eagers → StandAll reached (unguard_all ps owns) (unguard_all ps eagers)
unguards_alike reached [] owns eagers stand = stand
unguards_alike reached (p ∷ ps) owns eagers stand =
    unguards_alike reached ps (unguard_one p owns) (unguard_one p eagers)
    (with_each reached p.alloc.0 (λ rows. unguarded rows p.tag.0) (λ size own rows tags stands. unguarded_stands size own rows tags p.tag.0 stands) owns eagers stand)

pub ends_alike : (reached ps : List Prov) (owns eagers : List AllocRows) → StandAll reached owns eagers → AreNumbered owns → AllByRecursion (IsKnown owns) ps → EndsAlike reached (call_end ps owns) (call_end ps eagers)
ends_alike reached ps owns eagers stand numbered known = at (release_all ps owns) (release_all ps eagers) (releases_alike reached ps owns eagers (record { stand = stand; numbered = numbered; known = known }))
  where
    at : (x y : Ended) → EndsAlike reached x y → EndsAlike reached (and_then x (λ after. Ends (unguard_all ps after))) (and_then y (λ after. Ends (unguard_all ps after)))
    at (Ends os) (Ends es) alike = unguards_alike reached ps os es alike
    at (Refuses i r os) (Refuses j s es) alike = alike
    at (Ends os) (Refuses j s es) alike = absurd alike
    at (Refuses i r os) (Ends es) alike = absurd alike

-- an own live allocation, and the eager one
module _ (reached : List Prov) (k : ℕ) (owns eagers : List AllocRows) (stand : StandAll reached owns eagers) (numbered : AreNumbered owns) (own : AllocRows) (found : find (is_live k) owns ≡ Some own) where
  abbrev Pair : (List Row → List Row) → (List Row → List Row) → Type 0
  Pair f g = (eager : AllocRows) × (find (is_live k) eagers ≡ Some eager) × StandsAt reached own eager × (own.live ≡ true) × (Stands own.size (f own.rows) (g eager.rows) (reached_in reached own.id) → StandAll reached (with_rows k f owns) (with_rows k g eagers))

  pub pair : (f g : List Row → List Row) → Pair f g
  pair f g = at (find (is_live k) owns) found (find (is_live k) eagers) refl (find_alike reached k f g owns eagers stand numbered)
    where
      at : (x : Option AllocRows) → x ≡ Some own → (y : Option AllocRows) → find (is_live k) eagers ≡ y → FoundAlike reached k f g owns eagers x y → Pair f g
      at None same y is alike = cc
      at (Some o) same None is alike = absurd alike
      at (Some o) same (Some e) is alike =
          let one : o ≡ own = cc in
          subst (λ (a : AllocRows). (eager : AllocRows) × (find (is_live k) eagers ≡ Some eager) × StandsAt reached a eager × (a.live ≡ true) × (Stands a.size (f a.rows) (g eager.rows) (reached_in reached a.id) → StandAll reached (with_rows k f owns) (with_rows k g eagers))) one
          (e, is, alike.0, alike.1, alike.2)

pub alloc_found : (reached : List Prov) (k : ℕ) (owns eagers : List AllocRows) → StandAll reached owns eagers → AreNumbered owns → (own : AllocRows) → find (is_live k) owns ≡ Some own → (eager : AllocRows) × (find (is_live k) eagers ≡ Some eager) × (own.size ≡ eager.size) × Stands own.size own.rows eager.rows (reached_in reached own.id)
alloc_found reached k owns eagers stand numbered own found =
    let both = pair reached k owns eagers stand numbered own found (λ rows. rows) (λ rows. rows) in
    (both.0, both.1, both.2.1, both.2.3 both.3)

pub alloc_changed : (reached : List Prov) (k : ℕ) (f g : List Row → List Row) (owns eagers : List AllocRows) → StandAll reached owns eagers → AreNumbered owns → (own eager : AllocRows) → find (is_live k) owns ≡ Some own → find (is_live k) eagers ≡ Some eager → Stands own.size (f own.rows) (g eager.rows) (reached_in reached own.id) → StandAll reached (with_rows k f owns) (with_rows k g eagers) × AreNumbered (with_rows k f owns)
alloc_changed reached k f g owns eagers stand numbered own eager found is stands =
    let both = pair reached k owns eagers stand numbered own found f g in
    let one : both.0 ≡ eager = same both.0 eager (sym both.1 ∙ is) in
    (both.4 (subst (λ (a : AllocRows). Stands own.size (f own.rows) (g a.rows) (reached_in reached own.id)) (sym one) stands), numbered_with k f owns numbered)
  where
    same : (x y : AllocRows) → Some x ≡ Some y → x ≡ y
    same x y h = cc

-- Whole states.

numbered_same : (reached : List Prov) (owns eagers : List AllocRows) → StandAll reached owns eagers → AreNumbered owns → AreNumbered eagers
numbered_same reached [] [] stand numbered = tt
numbered_same reached (o ∷ owns) (e ∷ eagers) stand numbered = (
  subst (λ n. AllByRecursion (λ (a : AllocRows). a.id ≢ n) eagers) stand.0.0 (away_same reached o.id owns eagers stand.1 numbered.0),
  numbered_same reached owns eagers stand.1 numbered.1,
)
numbered_same reached [] (e ∷ eagers) stand numbered = absurd stand
numbered_same reached (o ∷ owns) [] stand numbered = absurd stand

rows_below : (next now : ℕ) → next ≤ now → (rows : List Row) → AllByRecursion (λ (row : Row). row.tag < next) rows → AllByRecursion (λ (row : Row). row.tag < now) rows
rows_below next now least [] all = tt
rows_below next now least (row ∷ rows) all = (omega (arith, all.0, least), rows_below next now least rows all.1)

below_later : (next now : ℕ) → next ≤ now → (allocs : List AllocRows) → AreBelow next allocs → AreBelow now allocs
below_later next now least [] below = tt
below_later next now least (a ∷ allocs) below = (rows_below next now least a.rows below.0, below_later next now least allocs below.1)

below_with : (now k : ℕ) (g : List Row → List Row) (allocs : List AllocRows) (a : AllocRows) → AreNumbered allocs → AreBelow now allocs → find (is_live k) allocs ≡ Some a → AllByRecursion (λ (row : Row). row.tag < now) (g a.rows) → AreBelow now (with_rows k g allocs)
below_with now k g [] a numbered below found rows = tt
below_with now k g (x ∷ allocs) a numbered below found rows = at (is_live k x) refl found (λ found. below_with now k g allocs a numbered.1 below.1 found rows)
  where
    at : (b : Bool) → is_live k x ≡ b → cond b (Some x) (find (is_live k) allocs) ≡ Some a → (find (is_live k) allocs ≡ Some a → AreBelow now (with_rows k g allocs)) → AreBelow now (changed (is_live k x) g x ∷ with_rows k g allocs)
    at true is found later =
        let one : x ≡ a = cc in
        let id : x.id ≡ k = eqb-true x.id k (and_parts x.live (x.id == k) is).1 in
        let rest : with_rows k g allocs ≡ allocs = with_away k g allocs (subst (λ n. AllByRecursion (λ (y : AllocRows). y.id ≢ n) allocs) id numbered.0) in
        subst (λ b. AreBelow now (changed b g x ∷ with_rows k g allocs)) (sym is)
        (subst (λ (y : AllocRows). AllByRecursion (λ (row : Row). row.tag < now) (g y.rows)) (sym one) rows, subst (AreBelow now) (sym rest) below.1)
    at false is found later = subst (λ b. AreBelow now (changed b g x ∷ with_rows k g allocs)) (sym is) (below.0, later found)

pub state_changed : (reached : List Prov) (next now k : ℕ) (f g : List Row → List Row) (owns eagers : List AllocRows) → StandFor reached next owns eagers → next ≤ now → (own eager : AllocRows) → find (is_live k) owns ≡ Some own → find (is_live k) eagers ≡ Some eager → Stands own.size (f own.rows) (g eager.rows) (reached_in reached own.id) → AllByRecursion (λ (row : Row). row.tag < now) (g eager.rows) → StandFor reached now (with_rows k f owns) (with_rows k g eagers)
state_changed reached next now k f g owns eagers state least own eager found is stands rows =
    let both = alloc_changed reached k f g owns eagers state.stand state.numbered own eager found is stands in
    record {
      stand = both.0;
      numbered = both.1;
      below = below_with now k g eagers eager (numbered_same reached owns eagers state.stand state.numbered) (below_later next now least eagers state.below) is rows;
    }

-- the tags of an allocation that are known in it
known_tags : (ps : List Prov) (a : AllocRows) → a.live ≡ true → AllByRecursion (λ (p : Prov). is_live p.alloc.0 a ≡ true → HasTag a.rows p.tag.0) ps → AllByRecursion (HasTag a.rows) (reached_in ps a.id)
known_tags [] a live all = tt
known_tags (p ∷ ps) a live all = at (p.alloc.0 == a.id) refl (known_tags ps a live all.1)
  where
    at : (b : Bool) → (p.alloc.0 == a.id) ≡ b → AllByRecursion (HasTag a.rows) (reached_in ps a.id) → AllByRecursion (HasTag a.rows) (map (λ (q : Prov). q.tag.0) (cond b (p ∷ filter (λ (q : Prov). q.alloc.0 == a.id) ps) (filter (λ (q : Prov). q.alloc.0 == a.id) ps)))
    at true same rest = (all.0 (ap (λ b. b && a.id == p.alloc.0) live ∙ eq-eqb a.id p.alloc.0 (sym (eqb-true p.alloc.0 a.id same))), rest)
    at false other rest = rest

head_known : (a : AllocRows) (allocs : List AllocRows) (ps : List Prov) → AllByRecursion (IsKnown (a ∷ allocs)) ps → AllByRecursion (λ (p : Prov). is_live p.alloc.0 a ≡ true → HasTag a.rows p.tag.0) ps × AllByRecursion (IsKnown allocs) ps
head_known a allocs [] known = (tt, tt)
head_known a allocs (p ∷ ps) known = let rest = head_known a allocs ps known.1 in ((known.0.0, rest.0), (known.0.1, rest.1))

reached_all : (reached now : List Prov) (owns eagers : List AllocRows) → StandAll reached owns eagers → AllByRecursion (IsKnown owns) now → StandAll now owns eagers
reached_all reached now [] [] stand known = tt
reached_all reached now (o ∷ owns) (e ∷ eagers) stand known =
    let parts = head_known o owns now known in (
      (stand.0.0, stand.0.1, stand.0.2, λ live. ((stand.0.3 live).0, (stand.0.3 live).1, known_tags now o live parts.0)),
      reached_all reached now owns eagers stand.1 parts.1,
    )
reached_all reached now [] (e ∷ eagers) stand known = absurd stand
reached_all reached now (o ∷ owns) [] stand known = absurd stand

pub state_reached : (reached now : List Prov) (next : ℕ) (owns eagers : List AllocRows) → StandFor reached next owns eagers → AllByRecursion (IsKnown owns) now → StandFor now next owns eagers
state_reached reached now next owns eagers state known = record { stand = reached_all reached now owns eagers state.stand known; numbered = state.numbered; below = state.below }
